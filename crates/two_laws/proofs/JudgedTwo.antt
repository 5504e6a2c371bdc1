-- What a write's refusal depends on: its own collection's tree and, of the other, only the count of free nodes.
use Rattle.std.proofs.Common.{◌≡◌, ℕ, suc, ◌+◌, Bool, true, false, cond, not, ◌&&◌, eqb, ltb, ◌≢◌, ◌⊎◌, ◌↔◌, List, [], ◌∷◌, ◌++◌, length}
use Rattle.std.proofs.Common.{sym, refl, ap, ◌∙◌, inl, inr, arith, ne_eqb}
use mathlib.Core.Bool.{false≢true}
use mathlib.Core.List.{Memᴰ}
use mathlib.Core.Option.{Option, some}
use lib.Seq.{take-length}
use Rattle.model.specs.Table.{Words, at, nodes, root_word, no_collection}
use Rattle.model.specs.Slots.{Slot, node_view, height, full, view_of}
use Rattle.model.specs.Search.{path}
use Rattle.model.specs.Reached.{filter, reached, reached_all, map_of}
use Rattle.model.specs.SoundTest.{elem, Leftover, nothing, hidden_in, missing_in, both_in, leftover, leftover_all, sound}
use Rattle.model.specs.Writes.{numbers, run_in, unreached, unreachable, repaired, repair_stores, run, root_in_run, Call, insertion}
use Rattle.model.specs.Writes.{deletion, class_change, repair}
use Rattle.model.specs.Refusals.{Test, test, first_number, seventeen_in, too_high, too_few, eleven_in, ten_in, own_map, map_tests}
use Rattle.model.specs.Refusals.{words_for, refusal}
use Rattle.list_laws.proofs.Tools.{Each-map, same-or-not}
use Rattle.list_laws.proofs.Members.{each-mem, mem-each, elem-iff, mem-flat}
use Rattle.tree_laws.proofs.Levels.{sound-orderly}
use Rattle.tree_laws.proofs.SearchLaw.{path-reached}
use Rattle.cut_laws.proofs.Applying.{length-apply}
use Rattle.change_laws.proofs.Parts.{HasLeft}
use Rattle.step_laws.proofs.RepairedView.{lacking_in}
use Rattle.step_laws.proofs.Judged.{run-same, full_later, run_later}
use Rattle.step_laws.proofs.TreeAt.{tree_at}
use Rattle.two_laws.proofs.TwoLaw.{taken, Tree}
use Rattle.two_laws.proofs.Arrange.{Arr, all-one, all-two, sound-parts, settled-parts, SoundAs, sound-tree, left-is, left-all}
use Rattle.two_laws.proofs.CallsTwo.{Is, arr-other, repairs}
use Rattle.two_laws.proofs.AcceptedTwo.{there}
use Rattle.two_laws.proofs.SearchTwo.{sound-head, sound-view}
use Rattle.two_laws.proofs.RepairedTwo.{Later, repaired-later}

-- ---- the free nodes

-- repair of a sound table changes none of the nodes reached
pub reached-later : (t : Words) → sound t ≡ true → reached_all (repaired t) ≡ reached_all t
unfolding repaired
reached-later t s = go (same-or-not (at t 3) 0)
  where
    l : (at (repaired t) 3 ≡ 0) ↔ (at t 3 ≡ 0)
    l = rw take-length at ((repairs t s).part-lack (length (repair_stores t)))

    go : (at t 3 ≡ 0) ⊎ (at t 3 ≢ 0) → reached_all (repaired t) ≡ reached_all t
    go (inl z) = all-one (repaired t) (l.1 z) ∙ ap (λ (x : List ℕ). x ++ []) (repaired-later t 1 s (inl refl)).reached ∙ sym (all-one t z)
    go (inr z) = all-two (repaired t) (λ y. z (l.0 y))
        ∙ ap (λ (x : List ℕ). x ++ (reached (tree_at 3 (repaired t)) ++ [])) (repaired-later t 1 s (inl refl)).reached
        ∙ ap (λ (x : List ℕ). reached (tree_at 1 t) ++ (x ++ [])) (repaired-later t 3 s (inr (refl, z))).reached ∙ sym (all-two t z)

nodes-later : (t : Words) → sound t ≡ true → nodes (repaired t) ≡ nodes t
unfolding repaired
nodes-later t s =
    let a = ((settled-parts (repaired t)).0 (repairs t s).settles).0.facts.size.long in
    let b = ((sound-parts t).0 s).0.facts.size.long in
    omega (arith, a, b, length-apply (repair_stores t) t)

-- repair of a sound table changes none of the unreachable nodes
pub unreachable-later : (t : Words) → sound t ≡ true → unreachable (repaired t) ≡ unreachable t
unfolding unreachable unreached
unreachable-later t s =
    ap (λ (l : List ℕ). filter (λ (n : ℕ). not (elem n l)) (numbers 1 (nodes (repaired t)))) (reached-later t s)
    ∙ ap (λ (n : ℕ). filter (λ (n : ℕ). not (elem n (reached_all t))) (numbers 1 n)) (nodes-later t s)

-- ---- the slot that the parent lacks

-- a node of the other tree is none of this one
not-in : (w : ℕ) (ws : List ℕ) (t : Words) (y : Leftover) (m p : ℕ) → Tree w ws t y → elem m (taken ws t) ≡ true
    → Memᴰ p (reached (tree_at w t)) → eqb m p ≡ false
not-in w ws t y m p f e h = let o =
    each-mem (λ (n : ℕ). elem n (taken ws t) ≡ false) f.apart h in ne_eqb m p (λ q. false≢true (sym o ∙ (rw q at e)))

in-taken : (w : ℕ) (ws : List ℕ) (t : Words) (x m : ℕ) → Arr w ws t → Is x t → x ≢ w → Memᴰ m (reached (tree_at x t))
    → elem m (taken ws t) ≡ true
in-taken w ws t x m r i z =
    arr-other w ws t x (λ (x : ℕ). Memᴰ m (reached (tree_at x t)) → elem m (taken ws t) ≡ true) r i z
    (mem-each (λ (x : ℕ). Memᴰ m (reached (tree_at x t)) → elem m (taken ws t) ≡ true) ws
    (λ x k h. (elem-iff m (taken ws t)).1 ((mem-flat (λ (x : ℕ). reached (tree_at x t)) m ws).1 (x, k, h))))

lacking-off : (w : ℕ) (ws : List ℕ) (t : Words) (y : Leftover) (m : ℕ) → Tree w ws t y → elem m (taken ws t) ≡ true
    → lacking_in (some y) m ≡ 0
lacking-off w ws t nothing m f e = refl
lacking-off w ws t (hidden_in x) m f e = refl
lacking-off w ws t (missing_in p a false) m f e = rw (not-in w ws t _ m p f e f.left.left.2.member)
lacking-off w ws t (missing_in p a true) m f e = rw (not-in w ws t _ m p f e f.left.left.2.member)
lacking-off w ws t (both_in p a) m f e = rw (not-in w ws t _ m p f e f.left.left.0.member)

-- A node of a tree gets no slot by the other tree's repair: the leftover of the whole table tells as its own.
pub lacking-all : (n : ℕ) (t : Words) (m : ℕ) → sound t ≡ true → Is (root_word n) t → Memᴰ m (reached (view_of n t))
    → lacking_in (leftover (view_of n t)) m ≡ lacking_in (leftover_all t) m
lacking-all n t m s i h = let u =
    sound-tree t s in go u (same-or-not (root_word n) u.word)
    ∙ ap (λ (y : Option Leftover). lacking_in y m) (sym (left-all u.word u.others t u.leftover u.arranged u.tree))
  where
    go : (u : SoundAs t) → (root_word n ≡ u.word) ⊎ (root_word n ≢ u.word) → lacking_in (leftover (view_of n t)) m
        ≡ lacking_in (some u.leftover) m
    go u (inl e) = ap (λ (x : ℕ). lacking_in (leftover (tree_at x t)) m) e
        ∙ ap (λ (y : Option Leftover). lacking_in y m) (left-is t u.word u.leftover u.tree.left)
    go u (inr z) =
        let l = arr-other u.word u.others t (root_word n) (λ (x : ℕ). HasLeft (tree_at x t) nothing) u.arranged i z u.tree.others in
        ap (λ (y : Option Leftover). lacking_in y m) (left-is t (root_word n) nothing l)
        ∙ sym (lacking-off u.word u.others t u.leftover m u.tree (in-taken u.word u.others t (root_word n) m u.arranged i z h))

-- ---- the run

module _ (n : ℕ) (t : Words) (s : sound t ≡ true) (i : Is (root_word n) t) (k : ℕ) where
  r : Later (root_word n) t (repaired t)
  r = repaired-later t (root_word n) s i

  -- a node of the tree is full then exactly if it is with its kept slots, and the one that it lacks
  pub full-later : (j : ℕ) → Memᴰ j (reached (view_of n t)) → full (node_view (repaired t) j).shown ≡ full_later (view_of n t) j
  unfolding full
  full-later j m = ap (λ (l : ℕ). eqb l 11) (r.count j m)

  pub run-later : run n (repaired t) k ≡ run_later (view_of n t) k
  run-later =
      let o = sound-orderly (view_of n t) (sound-view (root_word n) t s i) in
      ap (run_in (view_of n (repaired t))) (r.path k)
      ∙ run-same (view_of n (repaired t)) (full_later (view_of n t)) (path (view_of n t) k)
      (Each-map (λ (j : ℕ). Memᴰ j (reached (view_of n t))) (λ (j : ℕ). full (node_view (repaired t) j).shown ≡ full_later (view_of n t) j)
      (path (view_of n t) k) full-later
      (path-reached (view_of n t) k o))

  pub root-later : root_in_run n (repaired t) k ≡ eqb (run_later (view_of n t) k) (suc (height (view_of n t)))
  unfolding root_in_run
  root-later = ap (λ (j : ℕ). eqb j (suc (height (view_of n (repaired t))))) run-later
      ∙ ap (λ (h : ℕ). eqb (run_later (view_of n t) k) (suc h)) r.height

  pub high-later : too_high n (repaired t) k
      ≡ (eqb (run_later (view_of n t) k) (suc (height (view_of n t))) && eqb (height (view_of n t)) 15)
  unfolding too_high
  high-later = ap (λ (b : Bool). b && eqb (height (view_of n (repaired t))) 15) root-later
      ∙ ap (λ (h : ℕ). eqb (run_later (view_of n t) k) (suc (height (view_of n t))) && eqb h 15) r.height

  pub few-later : too_few n (repaired t) k
      ≡ ltb (length (unreachable t)) (run_later (view_of n t) k + cond (eqb (run_later (view_of n t) k) (suc (height (view_of n t)))) 1 0)
  unfolding too_few
  few-later =
      ap (λ (l : List ℕ). ltb (length l) (run n (repaired t) k + cond (root_in_run n (repaired t) k) 1 0)) (unreachable-later t s)
      ∙ ap (λ (j : ℕ). ltb (length (unreachable t)) (j + cond (root_in_run n (repaired t) k) 1 0)) run-later
      ∙ ap (λ (b : Bool). ltb (length (unreachable t)) (run_later (view_of n t) k + cond b 1 0)) root-later

-- ---- the tests that a sound table leaves

-- 18 by the dock, 5 by it and the order list's length; 6 to 9 by the arguments and the own map of t; 11 and 10 on the table as repair would
-- leave it
abbrev pub tests_on : Call → (words dock : ℕ) → Words → List Test
tests_on x words dock t =
    test (ltb 1 dock) 18 ∷ test (ltb words (words_for dock)) 5
    ∷ map_tests x (eleven_in x (repaired t)) (ten_in x (repaired t)) (own_map x t)

-- repair of a sound table changes no collection's map
pub map-later : (n : ℕ) (t : Words) → sound t ≡ true → no_collection n t ≡ false → map_of n (repaired t) ≡ map_of n t
unfolding repaired
map-later n t s h = rw take-length at ((repairs t s).part-map (length (repair_stores t)) (root_word n) (there n t h).1)

pub own-later : (x : Call) (t : Words) → sound t ≡ true → seventeen_in x t ≡ false → own_map x (repaired t) ≡ own_map x t
own-later (insertion n k r c) t s h = map-later n t s h
own-later (deletion n k) t s h = map-later n t s h
own-later (class_change n k c) t s h = map-later n t s h
own-later repair t s h = refl

-- on a sound table with the collection, a call's number is that of the first of the other tests that holds
pub number-on-sound :
    (x : Call) (words dock : ℕ) (t : Words) → sound t ≡ true → seventeen_in x t ≡ false → refusal x words dock t
    ≡ first_number (tests_on x words dock t)
unfolding refusal
number-on-sound x words dock t s h = rw (sound-head t s, h, s, own-later x t s h)

-- ---- what the number depends on

-- the run that a call would split, and its root's level; an insertion has one
abbrev pub own_run : Call → Words → ℕ
own_run (insertion n k r c) t = run_later (view_of n t) k
own_run (deletion n k) t = 0
own_run (class_change n k c) t = 0
own_run repair t = 0

abbrev pub own_height : Call → Words → ℕ
own_height (insertion n k r c) t = height (view_of n t)
own_height (deletion n k) t = 0
own_height (class_change n k c) t = 0
own_height repair t = 0

-- by the own map, the own run and height, and the count of free nodes
abbrev pub number_by : Call → (words dock : ℕ) → List Slot → (run high free : ℕ) → ℕ
number_by x words dock ps run high free =
    first_number (test (ltb 1 dock) 18 ∷ test (ltb words (words_for dock)) 5
    ∷ map_tests x (eqb run (suc high) && eqb high 15) (ltb free (run + cond (eqb run (suc high)) 1 0)) ps)

-- A write's acceptance depends on the other collection only by the count of free nodes.
pub accept-own : (x : Call) (words dock : ℕ) (t : Words) → sound t ≡ true → seventeen_in x t ≡ false → refusal x words dock t
    ≡ number_by x words dock (own_map x t) (own_run x t) (own_height x t) (length (unreachable t))
accept-own x words dock t s h = number-on-sound x words dock t s h ∙ go x h
  where
    go : (x : Call) → seventeen_in x t ≡ false → first_number (tests_on x words dock t)
        ≡ number_by x words dock (own_map x t) (own_run x t) (own_height x t) (length (unreachable t))
    go (insertion n k r c) h = let i = (there n t h).1 in rw (high-later n t s i k, few-later n t s i k)
    go (deletion n k) h = refl
    go (class_change n k c) h = refl
    go repair h = refl
