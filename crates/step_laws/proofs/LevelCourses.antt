-- One level of a tree over the stores of a write: it is quiet, it turns once, or a node of it is passed over. These join as phases do.
use Rattle.std.proofs.Common.{◌≡◌, ℕ, zero, suc, Bool, true, false, ltb, ◌≢◌, ◌⊎◌, List, [], ◌∷◌, ◌++◌, length, take, sym, refl, ap, ◌∙◌}
use Rattle.std.proofs.Common.{inl, inr, append_assoc, take_all, ltb-false, ltb-true}
use lib.Seq.{take-length}
use Rattle.model.specs.Table.{Words}
use Rattle.model.specs.Slots.{View}
use Rattle.model.specs.Orders.{Store, apply}
use Rattle.list_laws.proofs.Steps.{Until, AtFirst}
use Rattle.word_laws.proofs.Stores.{do_store, before-whole, after-whole}
use Rattle.cut_laws.proofs.Applying.{apply-append, always-append}
use Rattle.tree_laws.proofs.SearchLaw.{Stands}
use Rattle.step_laws.proofs.Rowwise.{OnRow, Same, Straight, Comes, same-refl, same-trans}

-- ---- first parts

-- what holds after each first part of the stores holds after all
pub whole : (P : Words → Type 0) (ss : List Store) (t : Words) → ((j : ℕ) → P (apply (take j ss) t)) → P (apply ss t)
whole P ss t f = rw take-length at (f (length ss))

-- what holds before each store and at the end holds after each first part of the stores
pub each-part : (P : Words → Type 0) (ss : List Store) (t : Words) → Until do_store P P ss t → (j : ℕ) → P (apply (take j ss) t)
each-part P ss t a j = go (ltb j (length ss)) refl
  where
    go : (b : Bool) → ltb j (length ss) ≡ b → P (apply (take j ss) t)
    go true e = before-whole P P ss t a j (ltb-true j (length ss) e)
    go false e = rw (take_all j ss (ltb-false j (length ss) e)) (after-whole P P ss t a)

-- where the first store makes a change
pub each-first-part : (P : Words → Type 0) (ss : List Store) (t : Words) → AtFirst do_store P P P ss t → (j : ℕ) → P (apply (take j ss) t)
each-first-part P [] t a = each-part P [] t a
each-first-part P (q ∷ ss) t a = each-part P (q ∷ ss) t a

-- ---- two views

-- over one store: each node of level l stays on it with its fence, and leads where it led or, by one move, where it leads now
pub record Crosses (l : ℕ) (v w : View) : Type 0 where
  pub row : (n : ℕ) → OnRow v l n → OnRow w l n
  pub fence : (n : ℕ) → OnRow v l n → (w.node n).fence ≡ (v.node n).fence
  pub leads : (k n : ℕ) → Stands v k l n → Comes w k l n

-- in w the node a of level l passes over its sibling b, of which a search reads what it read
pub record Skipped (l a b : ℕ) (v w : View) : Type 0 where
  pub a-row : OnRow v l a
  pub b-row : OnRow v l b
  pub next : (v.node a).sibling ≡ b
  pub row : (n : ℕ) → OnRow v l n → n ≢ b → OnRow w l n
  pub level : (n : ℕ) → (w.node n).level ≡ (v.node n).level
  pub fence : (n : ℕ) → (w.node n).fence ≡ (v.node n).fence
  pub a-sibling : (w.node a).sibling ≡ (v.node b).sibling
  pub sibling : (n : ℕ) → n ≢ a → (w.node n).sibling ≡ (v.node n).sibling
  pub b-left : (w.node b).left ≡ (v.node b).left
  pub b-shown : (w.node b).shown ≡ (v.node b).shown

-- ---- over stores, where a table is seen by `see`: by its root, or by that of a second tree

module _ (see : Words → View) where
  -- ---- quiet

  -- from t to t' nothing changes of the nodes, fences and siblings of level l, and in t' no node of it lacks its slot
  pub record QuietAt (l : ℕ) (t t' : Words) : Type 0 where
    pub same : Same l (see t) (see t')
    pub straight : Straight l (see t')

  -- after each first part of the stores, level l is as at first, and no node of it lacks its slot
  abbrev pub Quiet : ℕ → Words → List Store → Type 0
  Quiet l t ss = (j : ℕ) → QuietAt l t (apply (take j ss) t)

  -- the same, but that nodes may lack their slots
  abbrev pub Still : ℕ → Words → List Store → Type 0
  Still l t ss = (j : ℕ) → Same l (see t) (see (apply (take j ss) t))

  -- a level that is quiet stays as it is
  pub quiet-still : (l : ℕ) (t : Words) (ss : List Store) → Quiet l t ss → Still l t ss
  quiet-still l t ss q j = (q j).same

  -- the same, but that a slot may be missing in p
  pub record CalmAt (p l : ℕ) (t t' : Words) : Type 0 where
    pub same : Same l (see t) (see t')
    pub straight : ((see t).node p).level ≢ suc l → Straight l (see t')

  abbrev pub Calm : (p l : ℕ) → Words → List Store → Type 0
  Calm p l t ss = (j : ℕ) → CalmAt p l t (apply (take j ss) t)

  pub calm-still : (p l : ℕ) (t : Words) (ss : List Store) → Calm p l t ss → Still l t ss
  calm-still p l t ss c j = (c j).same

  pub calm-quiet : (p l : ℕ) (t : Words) (ss : List Store) → Calm p l t ss → ((see t).node p).level ≢ suc l → Quiet l t ss
  calm-quiet p l t ss c z j = record { same = (c j).same; straight = (c j).straight z }

  pub still-append : (l : ℕ) (t : Words) (ss us : List Store) → Still l t ss → Still l (apply ss t) us → Still l t (ss ++ us)
  still-append l t ss us f g =
      let e = whole (λ (u : Words). Same l (see t) (see u)) ss t f in
      always-append (λ (u : Words). Same l (see t) (see u)) ss us t f (λ j. same-trans l _ _ _ e (g j))

  -- a level that is quiet over the one part and then over the other is quiet over both
  pub quiet-append : (l : ℕ) (t : Words) (ss us : List Store) → Quiet l t ss → Quiet l (apply ss t) us → Quiet l t (ss ++ us)
  quiet-append l t ss us f g =
      let e = whole (QuietAt l t) ss t f in
      always-append (QuietAt l t) ss us t f (λ j. record { same = same-trans l _ _ _ e.same (g j).same; straight = (g j).straight })

  -- a level without lacking slots is quiet over no stores
  pub quiet-nil : (l : ℕ) (t : Words) → Straight l (see t) → Quiet l t []
  unfolding apply
  quiet-nil l t s zero = record { same = same-refl l (see t); straight = s }
  quiet-nil l t s (suc j) = record { same = same-refl l (see t); straight = s }

  -- a level stays as it is over no stores
  pub still-nil : (l : ℕ) (t : Words) → Still l t []
  unfolding apply
  still-nil l t zero = same-refl l (see t)
  still-nil l t (suc j) = same-refl l (see t)

  -- ---- a turn

  -- quiet, then one store that turns the level, then nothing of it changes
  pub record Turn (l : ℕ) (t : Words) (ss : List Store) : Type 0 where
    pub before : List Store
    pub it : Store
    pub after : List Store
    pub shape : ss ≡ before ++ it ∷ after
    pub quiet : Quiet l t before
    pub crosses : Crosses l (see (apply before t)) (see (do_store it (apply before t)))
    pub still : Still l (do_store it (apply before t)) after

  -- level l is quiet over the stores, or it is turned by one of them
  abbrev pub MayTurn : ℕ → Words → List Store → Type 0
  MayTurn l t ss = Quiet l t ss ⊎ Turn l t ss

  pub quiet-turn : (l : ℕ) (t : Words) (ss us : List Store) → Quiet l t ss → Turn l (apply ss t) us → Turn l t (ss ++ us)
  quiet-turn l t ss us q u =
      let e = apply-append ss u.before t in
      record {
        before = ss ++ u.before;
        it = u.it;
        after = u.after;
        shape = ap (λ (x : List Store). ss ++ x) u.shape ∙ sym (append_assoc ss u.before (u.it ∷ u.after));
        quiet = quiet-append l t ss u.before q u.quiet;
        crosses = rw e u.crosses;
        still = rw e u.still;
      }

  -- a level that is turned, and then stays as it is, is turned
  pub turn-quiet : (l : ℕ) (t : Words) (ss us : List Store) → Turn l t ss → Still l (apply ss t) us → Turn l t (ss ++ us)
  unfolding apply
  turn-quiet l t ss us u q =
      let e : apply ss t ≡ apply u.after (do_store u.it (apply u.before t)) =
      ap (λ (x : List Store). apply x t) u.shape ∙ apply-append u.before (u.it ∷ u.after) t in
      record {
        before = u.before;
        it = u.it;
        after = u.after ++ us;
        shape = ap (λ (x : List Store). x ++ us) u.shape ∙ append_assoc u.before (u.it ∷ u.after) us;
        quiet = u.quiet;
        crosses = u.crosses;
        still = still-append l _ u.after us u.still (rw e at q);
      }

  -- one turn at most, before or after quiet stores
  pub may-turn-quiet : (l : ℕ) (t : Words) (ss us : List Store) → MayTurn l t ss → Quiet l (apply ss t) us → MayTurn l t (ss ++ us)
  may-turn-quiet l t ss us (inl q) r = inl (quiet-append l t ss us q r)
  may-turn-quiet l t ss us (inr u) r = inr (turn-quiet l t ss us u (quiet-still l _ us r))

  -- a level that is quiet, and then quiet or turned, is quiet or turned
  pub quiet-may-turn : (l : ℕ) (t : Words) (ss us : List Store) → Quiet l t ss → MayTurn l (apply ss t) us → MayTurn l t (ss ++ us)
  quiet-may-turn l t ss us q (inl r) = inl (quiet-append l t ss us q r)
  quiet-may-turn l t ss us q (inr u) = inr (quiet-turn l t ss us q u)

  -- ---- a node passed over, as by the last store of a deletion that frees a leaf

  -- nothing changes of the level, but that nodes may lack their slots; then the last store passes over a node
  pub record Skip (l : ℕ) (t : Words) (ss : List Store) : Type 0 where
    pub a : ℕ
    pub b : ℕ
    pub before : List Store
    pub it : Store
    pub shape : ss ≡ before ++ it ∷ []
    pub still : Still l t before
    pub skips : Skipped l a b (see (apply before t)) (see (do_store it (apply before t)))

  -- stores that leave a level as it is may come before stores of which the last passes over a node
  pub still-skip : (l : ℕ) (t : Words) (ss us : List Store) → Still l t ss → Skip l (apply ss t) us → Skip l t (ss ++ us)
  still-skip l t ss us q u =
      let e = apply-append ss u.before t in
      record {
        a = u.a;
        b = u.b;
        before = ss ++ u.before;
        it = u.it;
        shape = ap (λ (x : List Store). ss ++ x) u.shape ∙ sym (append_assoc ss u.before (u.it ∷ []));
        still = still-append l t ss u.before q u.still;
        skips = rw e u.skips;
      }

  -- what a level may do over the stores of a call
  abbrev pub Way : ℕ → Words → List Store → Type 0
  Way l t ss = MayTurn l t ss ⊎ Skip l t ss
