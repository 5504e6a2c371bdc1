-- A whole insertion into a settled table: the new root where there is one, the splits, the shift in.
use Rattle.std.proofs.Common.{◌≡◌, ℕ, suc, ◌<◌, ◌≤◌, Bool, true, false, ◌≢◌, ◌⊎◌, List, [], ◌∷◌, ◌++◌, length, take, sym, refl, ap, ◌∙◌}
use Rattle.std.proofs.Common.{subst, inl, inr, arith, length-append}
use mathlib.Core.Bool.{false≢true}
use mathlib.Core.List.{Memᴰ}
use lib.Seq.{take-append-le}
use Rattle.model.specs.Table.{Words, at, nodes, node_start, root_word, no_collection}
use Rattle.model.specs.Slots.{pointer_of, node_view, view_of, height}
use Rattle.model.specs.Reached.{reached, reached_all, mapping, map_of}
use Rattle.model.specs.SoundTest.{elem, nothing, settled}
use Rattle.model.specs.Orders.{Store, put, apply}
use Rattle.model.specs.Writes.{fresh, unreachable, put_all, node_words, new_root_at, new_root, root_stores, run, root_in_run}
use Rattle.model.specs.Writes.{insert_settled, standing}
use Rattle.model.specs.Returns.{OfNode}
use Rattle.list_laws.proofs.Tools.{same-or-not}
use Rattle.list_laws.proofs.Recordings.{recording-iff, recording-of, pair-of}
use Rattle.word_laws.proofs.NewNodes.{length-node-words}
use Rattle.tree_laws.proofs.Rows.{range-iff}
use Rattle.step_laws.proofs.Rowwise.{OnRow}
use Rattle.step_laws.proofs.LevelCourses.{Quiet}
use Rattle.step_laws.proofs.LinkCourses.{whole-quiet}
use Rattle.step_laws.proofs.WholeNode.{put-all-length}
use Rattle.step_laws.proofs.Fresh.{Free}
use Rattle.step_laws.proofs.TreeAt.{tree_at}
use Rattle.two_laws.specs.Parts.{Enters}
use Rattle.two_laws.proofs.TwoLaw.{Tree, Course, taken}
use Rattle.two_laws.proofs.Arrange.{Arr, arr-low, arr-word, arr-others, free-fresh, free-off}
use Rattle.two_laws.proofs.AcceptedTwo.{there}
use Rattle.two_laws.proofs.CallsTwo.{arr-other}
use Rattle.two_laws.proofs.RootTwo.{root-course, root-beside}
use Rattle.two_laws.proofs.InsertTwo.{some-free, not-top, root-first}
use Rattle.two_laws.proofs.PartsTwo.{beside, tree as own-tree, root-reached, root-stays, root-ready}
use Rattle.reader_laws.proofs.Values.{values_to, values-append, Steady, steady-then, steady-after, steady-drop}
use Rattle.reader_laws.proofs.ShiftValues.{none-put, put-steady}
use Rattle.reader_laws.proofs.SettledNodes.{own-fine}
use Rattle.reader_laws.proofs.SplitValues.{one-node, no-header, put-all-none, all-reach, Going, rest}
use Rattle.reader_laws.proofs.RestSteady.{some-node, rest-none, rest-steady}
use Rattle.reader_laws.proofs.Sights.{Sight, SteadyFrom, AllSteady, steady-append}
use Rattle.reader_laws.proofs.InsertSteady.{same-there, rest-all}

-- ---- the stores of a new root, where the run includes the root

roots-new : (n : ℕ) (t : Words) (k : ℕ) → root_in_run n t k ≡ true → root_stores n t k
    ≡ new_root_at (root_word n) t (fresh t (at t (root_word n)))
unfolding root_stores new_root
roots-new n t k e = rw (e, root_stores)

roots-none : (n : ℕ) (t : Words) (k : ℕ) → root_in_run n t k ≡ false → root_stores n t k ≡ []
unfolding root_stores
roots-none n t k e = rw (e, root_stores)

module _ (n : ℕ) (t : Words) (h : no_collection n t ≡ false) (s : settled t ≡ true) where
  abbrev w₀ : ℕ
  w₀ = root_word n

  abbrev ws : List ℕ
  ws = (beside n t h s).0

  abbrev arr : Arr (root_word n) ws t
  arr = (beside n t h s).1

  abbrev tree : Tree (root_word n) ws t nothing
  tree = own-tree n t h s

  abbrev q : ℕ
  q = fresh t (at t (root_word n))

  module _ (high : height (view_of n t) < 15) (some : 0 < length (unreachable t)) where
    abbrev ns : List ℕ
    ns = taken (beside n t h s).0 t

    abbrev words : Words
    words = node_words (at t (root_word n)) 0 (suc (height (view_of n t))) 0 []

    abbrev ss : List Store
    ss = new_root_at (root_word n) t (fresh t (at t (root_word n)))

    abbrev part : ℕ → Words
    part j = apply (take j ss) t

    free : Free (root_word n) ns t q
    free = free-fresh (root_word n) ws t (at t (root_word n)) arr tree (root-reached n t h s) some

    size : length words ≡ 32
    size = length-node-words (at t (root_word n)) 0 (suc (height (view_of n t))) 0 []

    words-part : (j : ℕ) → j ≤ 32 → take j ss ≡ take j (put_all (node_start q) words)
    words-part j g = take-append-le j (put_all (node_start q) words) (put (root_word n) q ∷ [])
        (omega (arith, put-all-length (node_start q) words, size))

    long : length ss ≡ 33
    long = length-append (put_all (node_start q) words) (put (root_word n) q ∷ [])
        ∙ omega (arith, put-all-length (node_start q) words, size)

    course : Course 38 (root_word n) ws t ss (mapping (tree_at (root_word n) t))
    course = root-course (root_word n) ws t (arr-low (root_word n) ws t arr) (arr-word (root_word n) ws t arr)
        (arr-others (root_word n) ws t arr) tree high q free

    -- before the last store the nodes reached are those of the old table
    root-sight : (j c m : ℕ) → j ≤ 32 → no_collection c (part j) ≡ false → Memᴰ m (reached (view_of c (part j)))
        → elem m (reached_all t) ≡ true
    root-sight j c m g i r = all-reach c t there-c s m (go (same-or-not (root_word c) (root_word n)))
      where
        there-c : no_collection c t ≡ false
        there-c = same-there t (part j) (course.lack j) c i

        own : root_word c ≡ root_word n → Memᴰ m (reached (tree_at (root_word c) t))
        own e =
            let d = (node_view (part j) m).level in
            let here : OnRow (view_of n (part j)) d m = (rw e at r, refl) in
            let x : OnRow (view_of n (apply (take j (put_all (node_start q) words)) t)) d m =
            subst (λ (us : List Store). OnRow (view_of n (apply us t)) d m) (words-part j g) here in
            rw e ((whole-quiet (root_word n) ns t q (own-fine n t h s) free words size d j).same.back m x).0

        go : (root_word c ≡ root_word n) ⊎ (root_word c ≢ root_word n) → Memᴰ m (reached (tree_at (root_word c) t))
        go (inl e) = own e
        go (inr z) =
            ((arr-other (root_word n) ws t (root_word c) (λ (x : ℕ). (d : ℕ) → Quiet (tree_at x) d t ss) arr (there c t there-c).1 z
            (root-beside (root_word n) ws t (arr-low (root_word n) ws t arr) (arr-word (root_word n) ws t arr)
            (arr-others (root_word n) ws t arr) tree high q free) (node_view (part j) m).level j).same.back m (r, refl)).0

    -- the words of other nodes are not stored to; a header word once at most
    node-none : (m w : ℕ) → elem m (reached_all t) ≡ true → OfNode m w → values_to w ss ≡ []
    node-none m w i o =
        let not-q : OfNode q w → ⊥ =
        λ j. false≢true (sym (free-off (root_word n) ws t q arr free)
        ∙ ap (λ (x : ℕ). elem x (reached_all t)) (one-node q m w ((range-iff (nodes t) q).0 free.range).0 (some-node t s m i) j o) ∙ i)
        in
        values-append w (put_all (node_start q) words) (put (root_word n) q ∷ [])
        ∙ rw (
          put-all-none q w words size not-q,
          none-put w q (root_word n) (λ e. no-header m w (rw e at (arr-low (root_word n) ws t arr).0) o),
        )

    head-values : (w : ℕ) → w < 8 → values_to w ss ≡ values_to w (put (root_word n) q ∷ [])
    head-values w l = values-append w (put_all (node_start q) words) (put (root_word n) q ∷ [])
        ∙ rw (put-all-none q w words size (no-header q w l))

    -- ---- what follows it

    module _ (k y l : ℕ) (g : Going n k y l (apply ss t))
        (stays : (x : ℕ) → elem x (reached_all t) ≡ true → elem x (reached_all (apply ss t)) ≡ true) where
      abbrev more : List Store
      more = rest n k y l (apply ss t)

      head-steady : (w : ℕ) → w < 8 → Steady (at t w) (values_to w (ss ++ more))
      head-steady w i = steady-then w (at t w) ss more
          (rest-none n k y l (apply ss t) g w (inl i) (λ d c. no-header (standing n (apply ss t) d k) w i))
          (rw (head-values w i) (put-steady w q (root_word n) (at t w)))

      node-steady : (m w : ℕ) → elem m (reached_all t) ≡ true → OfNode m w → Steady (at t w) (values_to w (ss ++ more))
      node-steady m w i o = steady-after w ss more t (node-none m w i o) (rest-steady n k y l (apply ss t) g w (inr (m, stays m i, o)))

      root-from : (a w : ℕ) → a < length ss → w < length t → Sight (apply (take a ss) t) w → SteadyFrom t (ss ++ more) a w
      root-from a w i j (inl z) = steady-drop a w (ss ++ more) t j (head-steady w z)
      root-from a w i j (inr (c, m, e, r, o)) =
          steady-drop a w (ss ++ more) t j (node-steady m w (root-sight a c m (omega (arith, long)) e r) o)

      root-all : AllSteady t (ss ++ more)
      root-all = steady-append t ss more root-from (rest-all n k y l (apply ss t) g)

  -- ---- the insertion

  module _ (k r c : ℕ) (e : Enters n k r c t) where
    abbrev y : ℕ
    y = pointer_of r c

    abbrev roots : List Store
    roots = root_stores n t k

    going : Going n k y (run n t k) (apply roots t)
    going =
        let m : map_of n (apply roots t) ≡ map_of n t = (root-first n ws t k arr tree e.not-high e.enough).0.maps in
        let own = recording-of r c ((recording-iff r).0 e.recording-ok).1 in
        record {
          ready = root-ready n t h s k e.not-high e.enough;
          new = record { no-key = rw m e.no-key; no-recording = rw (m, own) e.no-recording; ok = pair-of k r c e.recording-ok e.class-ok };
        }

    parts : insert_settled n t k y ≡ roots ++ rest n k y (run n t k) (apply roots t)
    unfolding insert_settled rest
    parts = refl

    pub insert-steady : AllSteady t (insert_settled n t k (pointer_of r c))
    unfolding apply
    insert-steady = rw parts (go (root_in_run n t k) refl)
      where
        go : (b : Bool) → root_in_run n t k ≡ b → AllSteady t (roots ++ rest n k y (run n t k) (apply roots t))
        go true i =
            subst (λ (us : List Store). Going n k y (run n t k) (apply us t)
            → ((x : ℕ) → elem x (reached_all t) ≡ true → elem x (reached_all (apply us t)) ≡ true)
            → AllSteady t (us ++ rest n k y (run n t k) (apply us t)))
            (sym (roots-new n t k i))
            (root-all (not-top n ws t k arr tree e.not-high e.enough i) (some-free n ws t k arr tree e.not-high e.enough i) k y
            (run n t k)) going (root-stays n t h s k e.not-high e.enough)
        go false i = subst (λ (us : List Store). Going n k y (run n t k) (apply us t)
            → AllSteady t (us ++ rest n k y (run n t k) (apply us t))) (sym (roots-none n t k i)) (rest-all n k y (run n t k) t) going
