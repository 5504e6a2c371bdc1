-- At every moment of an accepted call all searches answer as before it, or all as after it; and on a settled table no word comes back to a
-- value
-- that it lost.
use Rattle.std.proofs.Common.{◌≡◌, ℕ, ◌+◌, ◌*◌, ◌<◌, ◌≤◌, true, false, ◌⊎◌, List, [], length, take, sym, ap, ◌∙◌, subst, inl, inr, arith}
use Rattle.model.specs.Table.{Words, at, nodes, node_start}
use Rattle.model.specs.Slots.{view_of}
use Rattle.model.specs.Search.{search}
use Rattle.model.specs.Reached.{Maps, reached, maps_of}
use Rattle.model.specs.Sound.{Settled}
use Rattle.model.specs.SoundTest.{settled, sound}
use Rattle.model.specs.Orders.{Store, apply, store_count}
use Rattle.model.specs.Judge.{OldOrNew}
use Rattle.model.specs.Ledger.{list_in, answer_from}
use Rattle.model.specs.Writes.{Call, insertion, deletion, class_change, repair, repaired, insert_stores, delete_stores, class_stores}
use Rattle.model.specs.Writes.{set_class_at, stores_of}
use Rattle.model.specs.Refusals.{seventeen_in, refusal, orders_of, table_after}
use Rattle.model.specs.Returns.{table_at, MomentRight, InSight, NoReturn}
use Rattle.list_laws.proofs.Members.{each-mem, elem-iff}
use Rattle.list_laws.proofs.Distinct.{UpTo}
use Rattle.table_laws.proofs.Header.{header-iff}
use Rattle.tree_laws.proofs.Levels.{reached-numbers}
use Rattle.sound_laws.proofs.Same.{sound-orderly, reached-same}
use Rattle.cut_laws.proofs.Applying.{apply-nil, length-apply, carry-stores, stores_in-take, store_count-take-le}
use Rattle.cut_laws.proofs.Docks.{list-stores}
use Rattle.two_laws.proofs.AcceptedTwo.{Accepted, Allows, accepted-iff}
use Rattle.two_laws.proofs.MapsTwo.{Steps, accepted-steps, sound-after}
use Rattle.two_laws.proofs.CallsTwo.{settled-repair}
use Rattle.two_laws.proofs.SearchTwo.{sound-head}
use Rattle.two_laws.proofs.LedgerTwo.{searched}
use Rattle.two_laws.proofs.CollectionTwo.{collection-sound, collection-orderly}
use Rattle.two_laws.proofs.SameTwo.{settled-same}
use Rattle.reader_laws.proofs.Values.{values_to, Steady}
use Rattle.reader_laws.proofs.ShiftValues.{put-steady}
use Rattle.reader_laws.proofs.SettledNodes.{delete-steady}
use Rattle.reader_laws.proofs.Sights.{Sight, AllSteady, whole-steady, never-back}
use Rattle.reader_laws.proofs.RootSteady.{insert-steady}

-- the table at a moment has the stores among the first orders carried out
moment : (x : Call) (dock : ℕ) (t : Words) (a : ℕ) → table_at x dock t a
    ≡ apply (take (store_count (take a (orders_of x dock t))) (stores_of x t)) t
moment x dock t a =
    let os = orders_of x dock t in
    carry-stores (take a os) t
    ∙ ap (λ (ss : List Store). apply ss t)
    (stores_in-take a os ∙ ap (take (store_count (take a os))) (list-stores dock (stores_of x t)))

-- ---- what all searches answer at a moment

module _ (x : Call) (words dock : ℕ) (t : Words) (ok : refusal x words dock t ≡ 0) where
  accepted : Accepted x words dock t
  accepted = (accepted-iff x words dock t).0 ok

  steps : Steps x t
  steps = accepted-steps x words dock t accepted.sound ok

  after : table_after x words dock t ≡ apply (stores_of x t) t
  unfolding table_after
  after = rw ok

  -- a sound table with these maps
  by-maps : (n k : ℕ) (u v : Words) → sound u ≡ true → sound v ≡ true → maps_of u ≡ maps_of v → search n u k ≡ search n v k
  by-maps n k u v s s' e = searched n u k s ∙ ap (λ (m : Maps). answer_from k (list_in n m)) e ∙ sym (searched n v k s')

  part-right : (j : ℕ) → let u =
      apply (take j (stores_of x t)) t in ((n k : ℕ) → search n u k ≡ search n t k)
      ⊎ ((n k : ℕ) → search n u k ≡ search n (table_after x words dock t) k)
  part-right j = go (steps.part-map j)
    where
      u : Words
      u = apply (take j (stores_of x t)) t

      go : OldOrNew x t u → ((n k : ℕ) → search n u k ≡ search n t k) ⊎ ((n k : ℕ) → search n u k ≡ search n (table_after x words dock t) k)
      go (inl e) = inl (λ n k. by-maps n k u t (steps.part-sound j) accepted.sound e)
      go (inr e) = inr (λ n k. by-maps n k u (apply (stores_of x t) t) (steps.part-sound j) (sound-after x words dock t ok)
          (e ∙ sym steps.all-map) ∙ ap (λ (v : Words). search n v k) (sym after))

  right : (b : ℕ) → ((n k : ℕ) → search n (table_at x dock t b) k ≡ search n t k)
      ⊎ ((n k : ℕ) → search n (table_at x dock t b) k ≡ search n (table_after x words dock t) k)
  right b = rw (moment x dock t b) (part-right (store_count (take b (orders_of x dock t))))

-- Leftovers and repairs included.
pub moment-right : MomentRight
moment-right x words dock t ok b = right x words dock t ok b

-- ---- a settled table

module _ (t : Words) (s : settled t ≡ true) where
  same : repaired t ≡ t
  unfolding repaired
  same = ap (λ (ss : List Store). apply ss t) (settled-repair t s) ∙ apply-nil t

  class-steady : (x k c w : ℕ) → Steady (at t w) (values_to w (set_class_at t x k c))
  unfolding set_class_at
  class-steady x k c w = put-steady w _ _ (at t w)

  -- From each moment of an accepted call on, every word in sight is steady.
  call-steady : (x : Call) → seventeen_in x t ≡ false → Allows x (repaired t) → AllSteady t (stores_of x t)
  unfolding stores_of insert_stores delete_stores class_stores values_to
  call-steady (insertion n k r c) i a = rw (settled-repair t s, same) (insert-steady n t i s k r c (rw same at a))
  call-steady (deletion n k) i a = rw (settled-repair t s, same) (whole-steady t _ (delete-steady n t i s k (rw same at a)))
  call-steady (class_change n k c) i a = rw (settled-repair t s, same) (whole-steady t _ (class-steady _ k c))
  call-steady repair i a = rw (settled-repair t s) (whole-steady t [] (λ w. tt))

-- ---- a word in sight of a sound table

module _ (t : Words) (s : sound t ≡ true) where
  long : length t ≡ 8 + 32 * nodes t
  long = ((header-iff t).0 (sound-head t s)).size.long

  sight-long : (w : ℕ) → Sight t w → w < length t
  unfolding node_start
  sight-long w (inl l) = omega (arith, long)
  sight-long w (inr (c, m, h, i, o)) =
      omega (arith, long, o.1, each-mem (UpTo (nodes t)) (reached-numbers (view_of c t) (collection-orderly c t s h)) i)

  sight : (w : ℕ) → InSight t w → Sight t w
  sight w (inl l) = inl l
  sight w (inr (c, m, h, i, o)) =
      inr (
        c,
        m,
        h,
        (elem-iff m (reached (view_of c t))).0
            ((reached-same (view_of c t) (sound-orderly (view_of c t) (collection-sound c t s h)) m).0 i),
        o,
      )

tested : (t : Words) → Settled t → settled t ≡ true
tested t h = (settled-same t).1 h

-- In the list of an accepted call on a settled table a word never returns to a value that it lost.
pub no-return : NoReturn
no-return x words dock t h ok z a b c w g i j seen e =
    let os = orders_of x dock t in
    let ss = stores_of x t in
    let m = moment x dock t in
    let p : ℕ → ℕ = λ d. store_count (take d os) in
    let y = accepted x words dock t ok in
    let u = apply (take (p z) ss) t in
    let s = (steps x words dock t ok).part-sound (p z) in
    let there : Sight u w = sight u s w (subst (λ (v : Words). InSight v w) (m z) seen) in
    let l : w < length t = rw (length-apply (take (p z) ss) t) at (sight-long u s w there) in
    let le : (d f : ℕ) → d ≤ f → p d ≤ p f = λ d f q. store_count-take-le d f os q in
    ap (λ (v : Words). at v w) (m b)
    ∙ never-back t ss (call-steady t (tested t h) x y.collection y.allows) (p z) (p a) (p b) (p c) w (le z a g)
    (le a b i) (le b c j) l there
    (sym (ap (λ (v : Words). at v w) (m a)) ∙ e ∙ ap (λ (v : Words). at v w) (m c))
    ∙ sym (ap (λ (v : Words). at v w) (m a))
