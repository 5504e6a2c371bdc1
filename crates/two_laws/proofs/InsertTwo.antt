-- Insertion into a settled table in collection n: a new root where the run includes the root, the splits of the run, the pair shifted in at
-- its leaf.
use Rattle.std.proofs.Common.{◌≡◌, ℕ, zero, suc, ◌+◌, ◌*◌, ◌<◌, ◌≤◌, Bool, true, false, cond, ◌&&◌, eqb, ◌≢◌, ◌⊎◌, List, [], ◌++◌, length}
use Rattle.std.proofs.Common.{sym, refl, ap, ◌∙◌, inl, inr, ⊎_elim, arith, ltb-false, eqb-true}
use mathlib.Core.List.{Memᴰ}
use borrow.Author.Tests.{eqb-false}
use Rattle.model.specs.Table.{Words, at, root_word}
use Rattle.model.specs.Slots.{pointer_of, node_view, height, view_of}
use Rattle.model.specs.Reached.{reached, reached_all, mapping, map_of}
use Rattle.model.specs.SoundTest.{elem, nothing}
use Rattle.model.specs.Orders.{Store, apply}
use Rattle.model.specs.Ledger.{enter}
use Rattle.model.specs.Writes.{shift_in_at, unreachable, fresh, standing, run, root_in_run, new_root_at, new_root, splits, root_stores}
use Rattle.model.specs.Writes.{insert_settled}
use Rattle.model.specs.Refusals.{too_high, too_few}
use Rattle.list_laws.proofs.Tools.{Each, same-or-not}
use Rattle.list_laws.proofs.Recordings.{recording-iff, recording-of, pair-of}
use Rattle.change_laws.proofs.LeafSlots.{NewPair}
use Rattle.cut_laws.proofs.Applying.{apply-append}
use Rattle.step_laws.proofs.Run.{run-short, run-full, run-above}
use Rattle.step_laws.proofs.Standing.{standing-stands}
use Rattle.step_laws.proofs.Rowwise.{none-straight}
use Rattle.step_laws.proofs.LevelCourses.{Quiet, Turn, MayTurn, quiet-nil, quiet-append, quiet-still, turn-quiet, quiet-may-turn}
use Rattle.step_laws.proofs.LevelCourses.{may-turn-quiet}
use Rattle.two_laws.specs.Parts.{Enters, split_for, Ready}
use Rattle.step_laws.proofs.TreeAt.{tree_at, Fine}
use Rattle.two_laws.proofs.TwoLaw.{taken, Tree, Low, Course, course-nil, course-append, course-within, tree-fine}
use Rattle.two_laws.proofs.Leaf.{leaf-in, leaf-in-all}
use Rattle.two_laws.proofs.SplitTwo.{split-course, two-taken, two-nodes, split-beside}
use Rattle.two_laws.proofs.RootTwo.{root-course, root-two-taken, root-two-nodes, root-own-turn, root-beside}
use Rattle.two_laws.proofs.Arrange.{Arr, root-in, arr-low, arr-word, arr-others, arr-there, course-arr, settled-tree, tree-settled}
use Rattle.two_laws.proofs.Arrange.{others-all, free-fresh, unreachable-count}
use Rattle.two_laws.proofs.LevelsTwo.{OthersQuiet, Ways, nil-others, others-append}
use Rattle.step_laws.specs.Parts.{FullNode}
use Rattle.step_laws.proofs.Fresh.{Free}
use Rattle.step_laws.proofs.Split.{split-quiet, split-turn, split-height, split-standing, split-shown, split-room, split-takes}
use Rattle.step_laws.proofs.Split.{split-others}
use Rattle.step_laws.proofs.NewRoot.{root-quiet, root-height, root-standing, root-shown, root-shows, root-takes}
use Rattle.step_laws.proofs.NewRoot.{root-others as root-others-own}

-- ---- the run

module _ (n : ℕ) (ws : List ℕ) (t : Words) (low : Low (root_word n) ws) (f : Tree (root_word n) ws t nothing) (k : ℕ) where
  abbrev w : ℕ
  w = root_word n

  s : Fine w (taken ws t) t nothing
  s = tree-fine w ws t low nothing f

  -- the run has at most one node for each level
  pub two-run-short : run n t k ≤ suc (height (view_of n t))
  two-run-short = run-short w (taken ws t) t s k

  pub two-run-full : (l : ℕ) → l < run n t k → length (node_view t (standing n t l k)).shown ≡ 11
  two-run-full = run-full w (taken ws t) t s k

  pub two-run-above : run n t k ≤ height (view_of n t) → length (node_view t (standing n t (run n t k) k)).shown ≤ 10
  two-run-above = run-above w (taken ws t) t s k

  -- the node that the search for k stands on, on a level of the tree, is reached
  pub stands-reached : (d : ℕ) → d ≤ height (view_of n t) → Memᴰ (standing n t d k) (reached (view_of n t))
  stands-reached d h = (standing-stands w (taken ws t) t s k d h).reached

-- ---- the splits

module _ (l n : ℕ) (ws : List ℕ) (t : Words) (k : ℕ) (a : Arr (root_word n) ws t) (r : Ready (suc l) n t k) where
  abbrev ns : List ℕ
  ns = taken ws t

  low : Low (root_word n) ws
  low = arr-low (root_word n) ws t a

  tree : Tree (root_word n) ws t nothing
  tree = settled-tree (root_word n) ws t a r.settled

  fine : Fine (root_word n) ns t nothing
  fine = tree-fine (root_word n) ws t low nothing tree

  abbrev b : ℕ
  b = fresh t (standing n t l k)

  free : Free (root_word n) ns t b
  free = free-fresh (root_word n) ws t (standing n t l k) a tree (stands-reached n ws t low tree k l (omega (arith, r.high)))
      (omega (arith, r.enough))

  given : FullNode (view_of n t) k l
  given = record { high = r.high; full = r.full l (omega arith); roomy = r.above }

  abbrev ss : List Store
  ss = split_for n t l k

  abbrev t' : Words
  t' = apply ss t

  -- the highest of the splits keeps to its course, with at most 67 orders and the same map
  pub first-course : Course 67 (root_word n) ws t (split_for n t l k) (mapping (view_of n t))
  first-course = split-course (root_word n) ws t low tree k l given b free

  -- after the highest of the splits the collections are still there
  pub first-arr : Arr (root_word n) ws (apply (split_for n t l k) t)
  first-arr = course-arr 67 (root_word n) ws t ss (mapping (view_of n t)) first-course a

  -- level l turns, every other one is quiet
  first-quiet : (d : ℕ) → d ≢ l → Quiet (tree_at (root_word n)) d t ss
  first-quiet = split-quiet (root_word n) ns t fine k l given b free

  first-turn : Turn (tree_at (root_word n)) l t ss
  first-turn = split-turn (root_word n) ns t fine k l given b free

  first-beside : OthersQuiet ws t ss
  first-beside = split-beside (root_word n) ws t low tree k l given b free

  -- one node fewer is unreachable
  pub first-takes : length (unreachable t) ≡ suc (length (unreachable (apply (split_for n t l k) t)))
  first-takes =
      omega (
        arith,
        unreachable-count (root_word n) ws t a tree,
        unreachable-count (root_word n) ws t' first-arr first-course.whole,
        two-nodes (root_word n) ws t low tree k l given b free,
        split-takes (root_word n) ns t fine k l given b free,
        ap length (two-taken (root_word n) ws t low tree k l given b free),
      )

  -- after the highest of m + 1 splits, all is ready for the other m
  pub ready-next : Ready l n (apply (split_for n t l k) t) k
  ready-next = record {
    collection = arr-there n ws t' first-arr;
    settled = tree-settled (root_word n) ws t' first-arr first-course.whole;
    high = omega (arith, r.high, split-height (root_word n) ns t fine k l given b free);
    full = λ d g.
        ap (λ (m : ℕ). length (node_view t' m).shown)
        (split-standing (root_word n) ns t fine k l given b free d (omega (arith, r.high)) (λ e. omega arith))
        ∙ ap length (split-shown (root_word n) ns t fine k l given b free d g) ∙ r.full d (omega arith);
    above = omega (arith, split-room (root_word n) ns t fine k l given b free);
    enough = omega (arith, r.enough, first-takes);
  }

  -- of the nodes but the fresh one the same are reached
  pub first-others : (x : ℕ) → x ≢ fresh t (standing n t l k) → elem x (reached_all (apply (split_for n t l k) t)) ≡ elem x (reached_all t)
  first-others x z =
      others-all (root_word n) ws t t' x a first-arr (split-others (root_word n) ns t fine k l given b free x z)
      (two-taken (root_word n) ws t low tree k l given b free)

-- m splits keep to their course, with at most 67 orders each and the same map
pub splits-course : (m n : ℕ) (ws : List ℕ) (t : Words) (k : ℕ) → Arr (root_word n) ws t → Ready m n t k
    → Course (m * 67) (root_word n) ws t (splits n m t k) (mapping (view_of n t))
unfolding splits
splits-course zero n ws t k a r = course-nil (root_word n) ws t (settled-tree (root_word n) ws t a r.settled)
splits-course (suc l) n ws t k a r =
    let f = first-course l n ws t k a r in
    let ss = split_for n t l k in
    course-within (67 + l * 67) (suc l * 67) (root_word n) ws t _ (mapping (view_of n t)) (omega arith)
    (course-append 67 (l * 67) (root_word n) ws t ss (splits n l (apply ss t) k) (mapping (view_of n t)) f
    (rw f.maps at (splits-course l n ws (apply ss t) k (first-arr l n ws t k a r) (ready-next l n ws t k a r))))

-- after the splits the leaf for k has room
pub splits-room : (m n : ℕ) (ws : List ℕ) (t : Words) (k : ℕ) → Arr (root_word n) ws t → Ready m n t k
    → length (node_view (apply (splits n m t k) t) (standing n (apply (splits n m t k) t) 0 k)).shown ≤ 10
unfolding splits apply
splits-room zero n ws t k a r = r.above
splits-room (suc l) n ws t k a r =
    let ss = split_for n t l k in
    rw (apply-append ss (splits n l (apply ss t) k) t)
    (splits-room l n ws (apply ss t) k (first-arr l n ws t k a r) (ready-next l n ws t k a r))

-- each of the m lowest levels turns once, and the others are quiet
splits-quiet : (m n : ℕ) (ws : List ℕ) (t : Words) (k : ℕ) → Arr (root_word n) ws t → Ready m n t k → (d : ℕ) → m ≤ d
    → Quiet (tree_at (root_word n)) d t (splits n m t k)
unfolding splits
splits-quiet zero n ws t k a r d h =
    quiet-nil (tree_at (root_word n)) d t (none-straight (view_of n t) (settled-tree (root_word n) ws t a r.settled).left.left.2 d)
splits-quiet (suc l) n ws t k a r d h =
    let ss = split_for n t l k in
    quiet-append (tree_at (root_word n)) d t ss (splits n l (apply ss t) k) (first-quiet l n ws t k a r d (λ e. omega arith))
    (splits-quiet l n ws (apply ss t) k (first-arr l n ws t k a r) (ready-next l n ws t k a r) d (omega arith))

splits-turn : (m n : ℕ) (ws : List ℕ) (t : Words) (k : ℕ) → Arr (root_word n) ws t → Ready m n t k → (d : ℕ)
    → MayTurn (tree_at (root_word n)) d t (splits n m t k)
unfolding splits
splits-turn zero n ws t k a r d = inl (splits-quiet zero n ws t k a r d (omega arith))
splits-turn (suc l) n ws t k a r d =
    let ss = split_for n t l k in
    let i = first-arr l n ws t k a r in
    let s = ready-next l n ws t k a r in
    go (splits n l (apply ss t) k) (same-or-not d l) (first-quiet l n ws t k a r d) (first-turn l n ws t k a r)
    (splits-turn l n ws (apply ss t) k i s d) (splits-quiet l n ws (apply ss t) k i s d)
  where
    go : {ss : List Store} (us : List Store) → (d ≡ l) ⊎ (d ≢ l) → (d ≢ l → Quiet (tree_at (root_word n)) d t ss)
        → Turn (tree_at (root_word n)) l t ss
        → MayTurn (tree_at (root_word n)) d (apply ss t) us → (l ≤ d → Quiet (tree_at (root_word n)) d (apply ss t) us)
        → MayTurn (tree_at (root_word n)) d t (ss ++ us)
    go {ss} us (inl e) q f c h =
        inr (turn-quiet (tree_at (root_word n)) d t ss us (rw e f)
        (quiet-still (tree_at (root_word n)) d (apply ss t) us (h (omega arith))))
    go {ss} us (inr z) q f c h = quiet-may-turn (tree_at (root_word n)) d t ss us (q z) c

splits-others : (m n : ℕ) (ws : List ℕ) (t : Words) (k : ℕ) → Arr (root_word n) ws t → Ready m n t k → OthersQuiet ws t (splits n m t k)
unfolding splits
splits-others zero n ws t k a r = nil-others (root_word n) ws t (settled-tree (root_word n) ws t a r.settled)
splits-others (suc l) n ws t k a r =
    let ss = split_for n t l k in
    others-append ws t ss (splits n l (apply ss t) k) (first-beside l n ws t k a r)
    (splits-others l n ws (apply ss t) k (first-arr l n ws t k a r) (ready-next l n ws t k a r))

-- ---- the new root, where the run includes the root

module _ (n : ℕ) (ws : List ℕ) (t : Words) (k : ℕ) (a : Arr (root_word n) ws t) (f : Tree (root_word n) ws t nothing) where
  lowly : Low (root_word n) ws
  lowly = arr-low (root_word n) ws t a

  abbrev m : ℕ
  m = run n t k

  abbrev h : ℕ
  h = height (view_of n t)

  module _ (not-top : height (view_of n t) < 15) (some : 0 < length (unreachable t)) where
    abbrev q : ℕ
    q = fresh t (at t (root_word n))

    settled : Fine (root_word n) (taken ws t) t nothing
    settled = tree-fine (root_word n) ws t lowly nothing f

    root-free : Free (root_word n) (taken ws t) t q
    root-free = free-fresh (root_word n) ws t (at t (root_word n)) a f (root-in (view_of n t) f.left.orderly) some

    abbrev t₁ : Words
    t₁ = apply (new_root_at (root_word n) t q) t

    word : (root_word n ≡ 1) ⊎ (root_word n ≡ 3)
    word = arr-word (root_word n) ws t a

    beside : Each (λ (x : ℕ). x ≢ root_word n) ws
    beside = arr-others (root_word n) ws t a

    rooted : Course 38 (root_word n) ws t (new_root_at (root_word n) t q) (mapping (view_of n t))
    rooted = root-course (root_word n) ws t lowly word beside f not-top q root-free

    rooted-quiet : (d : ℕ) → d ≢ suc (height (view_of n t)) → Quiet (tree_at (root_word n)) d t (new_root_at (root_word n) t q)
    rooted-quiet = root-quiet (root_word n) (taken ws t) t settled not-top word q root-free

    rooted-turn : Turn (tree_at (root_word n)) (suc (height (view_of n t))) t (new_root_at (root_word n) t q)
    rooted-turn = root-own-turn (root_word n) ws t lowly word beside f not-top q root-free

    rooted-others : OthersQuiet ws t (new_root_at (root_word n) t q)
    rooted-others = root-beside (root_word n) ws t lowly word beside f not-top q root-free

    arr₁ : Arr (root_word n) ws t₁
    arr₁ = course-arr 38 (root_word n) ws t (new_root_at (root_word n) t q) (mapping (view_of n t)) rooted a

    rooted-takes : length (unreachable t) ≡ suc (length (unreachable t₁))
    rooted-takes =
        omega (
          arith,
          unreachable-count (root_word n) ws t a f,
          unreachable-count (root_word n) ws t₁ arr₁ rooted.whole,
          root-two-nodes (root_word n) ws t lowly word beside f not-top q root-free,
          root-takes (root_word n) (taken ws t) t settled not-top word q root-free,
          ap length (root-two-taken (root_word n) ws t lowly word beside f not-top q root-free),
        )

    root-ready : run n t k ≡ suc (height (view_of n t)) → run n t k + 1 ≤ length (unreachable t) → Ready (run n t k) n t₁ k
    root-ready whole enough = record {
      collection = arr-there n ws t₁ arr₁;
      settled = tree-settled (root_word n) ws t₁ arr₁ rooted.whole;
      high = omega (arith, whole, root-height (root_word n) (taken ws t) t settled not-top word q root-free);
      full = λ l g.
          ap (λ (m : ℕ). length (node_view t₁ m).shown)
          (root-standing (root_word n) (taken ws t) t settled not-top word q root-free k l (omega (arith, whole)))
          ∙ ap length (root-shown (root_word n) (taken ws t) t settled not-top word q root-free (standing n t l k)
          (stands-reached n ws t lowly f k l (omega (arith, whole)))) ∙ two-run-full n ws t lowly f k l g;
      above = rw (whole, root-shows (root_word n) (taken ws t) t settled not-top word q root-free k) (omega arith);
      enough = omega (arith, enough, rooted-takes);
    }

    root-others : (x : ℕ) → x ≢ fresh t (at t (root_word n)) → elem x (reached_all t₁) ≡ elem x (reached_all t)
    root-others x z =
        others-all (root_word n) ws t t₁ x a arr₁ (root-others-own (root_word n) (taken ws t) t settled not-top word q root-free x z)
        (root-two-taken (root_word n) ws t lowly word beside f not-top q root-free)

    same-root : new_root n t ≡ new_root_at (root_word n) t q
    unfolding new_root
    same-root = refl

  -- what 11 and 10 leave
  module _ (not-high : too_high n t k ≡ false) (enough : too_few n t k ≡ false) where
    room : run n t k + cond (root_in_run n t k) 1 0 ≤ length (unreachable t)
    unfolding too_few
    room = ltb-false (length (unreachable t)) (run n t k + cond (root_in_run n t k) 1 0) enough

    -- an insertion that needs a new root, and is not refused with 10, has an unreachable node
    pub some-free : root_in_run n t k ≡ true → 0 < length (unreachable t)
    some-free e = let g : m + 1 ≤ length (unreachable t) = rw e at room in omega arith

    -- an insertion that needs a new root, and is not refused with 11, has a tree of a height below 15
    pub not-top : root_in_run n t k ≡ true → height (view_of n t) < 15
    unfolding too_high
    not-top e = let z = eqb-false h 15 (sym (ap (λ (b : Bool). b && eqb h 15) e) ∙ not-high) in omega (arith, f.left.orderly.top.level, z)

    -- the new root, if one is needed, keeps to its course, and then all is ready for the splits
    pub root-first : Course 38 (root_word n) ws t (root_stores n t k) (mapping (view_of n t))
        × Ready (run n t k) n (apply (root_stores n t k) t) k
    unfolding root_stores apply
    root-first = go (root_in_run n t k) refl
      where
        go : (b : Bool) → root_in_run n t k ≡ b → Course 38 (root_word n) ws t (root_stores n t k) (mapping (view_of n t))
            × Ready (run n t k) n (apply (root_stores n t k) t) k
        go true e =
            let whole : m ≡ suc h = unfold root_in_run in eqb-true m (suc h) e in
            let g : m + 1 ≤ length (unreachable t) = rw e at room in
            let some = some-free e in
            rw (e, root_stores) (rw (same-root (not-top e) some) (rooted (not-top e) some, root-ready (not-top e) some whole g))
        go false e =
            let z : m ≡ suc h → ⊥ = unfold root_in_run in eqb-false m (suc h) e in
            let g : m + 0 ≤ length (unreachable t) = rw e at room in
            let l : m ≤ h = omega (arith, two-run-short n ws t lowly f k, z) in
            rw (e, root_stores) (
              course-within 0 38 (root_word n) ws t [] (mapping (view_of n t)) (omega arith) (course-nil (root_word n) ws t f),
              record {
                collection = arr-there n ws t a;
                settled = tree-settled (root_word n) ws t a f;
                high = l;
                full = two-run-full n ws t lowly f k;
                above = two-run-above n ws t lowly f k l;
                enough = omega arith;
              },
            )

    -- after the new root the collections are still there
    pub root-arr : Arr (root_word n) ws (apply (root_stores n t k) t)
    root-arr = course-arr 38 (root_word n) ws t (root_stores n t k) (mapping (view_of n t)) root-first.0 a

    -- a new root is one node more
    pub root-take : length (unreachable t) ≡ length (unreachable (apply (root_stores n t k) t)) + cond (root_in_run n t k) 1 0
    unfolding root_stores apply
    root-take = go (root_in_run n t k) refl
      where
        go : (b : Bool) → root_in_run n t k ≡ b → length (unreachable t)
            ≡ length (unreachable (apply (root_stores n t k) t)) + cond (root_in_run n t k) 1 0
        go true e =
            let some = some-free e in
            rw (e, root_stores) (rw (same-root (not-top e) some) (omega (arith, rooted-takes (not-top e) some)))
        go false e = rw (e, root_stores) (omega arith)

    -- of the nodes but the new root the same are reached
    pub first-root-others :
        root_in_run n t k ≡ true → (x : ℕ) → x ≢ fresh t (at t (root_word n)) → elem x (reached_all (apply (new_root n t) t))
        ≡ elem x (reached_all t)
    first-root-others e x z =
        let some = some-free e in
        rw (same-root (not-top e) some) (root-others (not-top e) some x z)

    -- each level is quiet, or it is the new root's and above the run
    root-own : (d : ℕ) → Quiet (tree_at (root_word n)) d t (root_stores n t k)
        ⊎ (Turn (tree_at (root_word n)) d t (root_stores n t k) × (run n t k ≤ d))
    unfolding root_stores
    root-own d = go (root_in_run n t k) refl (same-or-not d (suc h))
      where
        go : (b : Bool) → root_in_run n t k ≡ b → (d ≡ suc h) ⊎ (d ≢ suc h) → Quiet (tree_at (root_word n)) d t (root_stores n t k)
            ⊎ (Turn (tree_at (root_word n)) d t (root_stores n t k) × (run n t k ≤ d))
        go true e (inl i) =
            let whole : m ≡ suc h = unfold root_in_run in eqb-true m (suc h) e in
            let some = some-free e in
            rw (e, root_stores) (rw (same-root (not-top e) some) (inr (rw i (rooted-turn (not-top e) some), omega arith)))
        go true e (inr z) =
            let some = some-free e in
            rw (e, root_stores) (rw (same-root (not-top e) some) (inl (rooted-quiet (not-top e) some d z)))
        go false e c = rw (e, root_stores) (inl (quiet-nil (tree_at (root_word n)) d t (none-straight (view_of n t) f.left.left.2 d)))

    roots-others : OthersQuiet ws t (root_stores n t k)
    unfolding root_stores
    roots-others = go (root_in_run n t k) refl
      where
        go : (b : Bool) → root_in_run n t k ≡ b → OthersQuiet ws t (root_stores n t k)
        go true e =
            let some = some-free e in
            rw (e, root_stores) (rw (same-root (not-top e) some) (rooted-others (not-top e) some))
        go false e = rw (e, root_stores) (nil-others (root_word n) ws t f)

-- Insertion into a settled table, where no refusal applies: the pair enters the map of collection n, and nothing else changes.
pub insert-course : (n : ℕ) (ws : List ℕ) (t : Words) (k r c : ℕ) → Arr (root_word n) ws t
    → Tree (root_word n) ws t nothing → Enters n k r c t
    → Course (38 + (15 * 67 + 27)) (root_word n) ws t (insert_settled n t k (pointer_of r c)) (enter k (pointer_of r c) (map_of n t))
unfolding insert_settled
insert-course n ws t k r c arr f e =
    let w = root_word n in
    let x = pointer_of r c in
    let m = run n t k in
    let a = root-first n ws t k arr f e.not-high e.enough in
    let i = root-arr n ws t k arr f e.not-high e.enough in
    let t₁ = apply (root_stores n t k) t in
    let b = splits-course m n ws t₁ k i a.1 in
    let t₂ = apply (splits n m t₁ k) t₁ in
    let q : map_of n t₂ ≡ map_of n t = b.maps ∙ a.0.maps in
    let few : m * 67 ≤ 15 * 67 = omega (arith, a.1.high, a.0.whole.left.orderly.top.level) in
    let l = arr-low w ws t arr in
    let own = recording-of r c ((recording-iff r).0 e.recording-ok).1 in
    let new : NewPair (view_of n t₂) k x =
    record { no-key = rw q e.no-key; no-recording = rw (q, own) e.no-recording; ok = pair-of k r c e.recording-ok e.class-ok } in
    let d : Course 27 w ws t₂ (shift_in_at t₂ (standing n t₂ 0 k) k x) (enter k x (map_of n t)) =
    rw q at (leaf-in w ws t₂ l b.whole k x new (splits-room m n ws t₁ k i a.1)) in
    course-append 38 (15 * 67 + 27) w ws t (root_stores n t k) _ (enter k x (map_of n t)) a.0
    (course-append (15 * 67) 27 w ws t₁ (splits n m t₁ k) _ (enter k x (map_of n t))
    (course-within (m * 67) (15 * 67) w ws t₁ (splits n m t₁ k) (map_of n t₁) few b) d)

-- each level of its tree turns once at most, and those of the others are quiet
pub insert-ways : (n : ℕ) (ws : List ℕ) (t : Words) (k r c : ℕ) → Arr (root_word n) ws t → Tree (root_word n) ws t nothing
    → Enters n k r c t → Ways (root_word n) ws t (insert_settled n t k (pointer_of r c))
unfolding insert_settled
insert-ways n ws t k r c arr f e =
    let w = root_word n in
    let x = pointer_of r c in
    let m = run n t k in
    let a = root-first n ws t k arr f e.not-high e.enough in
    let i = root-arr n ws t k arr f e.not-high e.enough in
    let t₁ = apply (root_stores n t k) t in
    let b = splits-course m n ws t₁ k i a.1 in
    let t₂ = apply (splits n m t₁ k) t₁ in
    let q : map_of n t₂ ≡ map_of n t = b.maps ∙ a.0.maps in
    let own = recording-of r c ((recording-iff r).0 e.recording-ok).1 in
    let new : NewPair (view_of n t₂) k x =
    record { no-key = rw q e.no-key; no-recording = rw (q, own) e.no-recording; ok = pair-of k r c e.recording-ok e.class-ok } in
    let d = leaf-in-all w ws t₂ (arr-low w ws t arr) b.whole k x new (splits-room m n ws t₁ k i a.1) in
    let us = shift_in_at t₂ (standing n t₂ 0 k) k x in (
      λ l. inl (⊎_elim (λ h. quiet-may-turn (tree_at w) l t (root_stores n t k) _ h
          (may-turn-quiet (tree_at w) l t₁ (splits n m t₁ k) us (splits-turn m n ws t₁ k i a.1 l) (d.0 l)))
          (λ h. inr (turn-quiet (tree_at w) l t (root_stores n t k) _ h.0
          (quiet-still (tree_at w) l t₁ _
          (quiet-append (tree_at w) l t₁ (splits n m t₁ k) us (splits-quiet m n ws t₁ k i a.1 l h.1) (d.0 l)))))
          (root-own n ws t k arr f e.not-high e.enough l)),
      others-append ws t (root_stores n t k) _ (roots-others n ws t k arr f e.not-high e.enough)
          (others-append ws t₁ (splits n m t₁ k) us (splits-others m n ws t₁ k i a.1) d.1),
    )
