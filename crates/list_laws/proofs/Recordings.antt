-- What a leaf's pointer says: recording and class taken apart and put together; recordings that differ make pointers that differ. All who
-- need different pointers in a leaf rest on this.
use Rattle.std.proofs.Common.{◌≡◌, ℕ, ◌<◌, ◌≤◌, Bool, true, false, cond, ◌||◌, eqb, ltb, leb, ◌≢◌, ◌↔◌, List, [], ◌∷◌, ◌++◌, map, refl, ap}
use Rattle.std.proofs.Common.{◌∙◌, arith, ltb-true, lt-ltb}
use mathlib.Core.List.{map-append}
use Rattle.model.specs.Table.{MARK}
use Rattle.model.specs.Slots.{Slot, slot, RECORDINGS, recording_of, class_of, pointer_of, with_class, recording, class, recording_ok}
use Rattle.model.specs.Slots.{class_ok, pointer_ok}
use Rattle.model.specs.Reached.{pointers}
use Rattle.model.specs.SoundTest.{all, elem, distinct, pair_ok, recordings_ok}
use Rattle.model.specs.Refusals.{has_recording}
use Rattle.model.specs.Ledger.{enter}
use Rattle.list_laws.proofs.Tools.{and-iff, leb-iff, or-swap, Each, Each-append, Each-split, Each-map, all-each}
use Rattle.list_laws.proofs.Members.{elem-cons, elem-false}
use Rattle.list_laws.proofs.Distinct.{distinct-cons, distinct-middle}

-- ---- apart and together

-- a pointer's recording number is below 2 to the power 56
pub recording-below : (p : ℕ) → recording_of p < RECORDINGS
unfolding recording_of
recording-below p = omega arith

-- a pointer made of a recording number and a class has that recording number
pub recording-of : (r c : ℕ) → r < RECORDINGS → recording_of (pointer_of r c) ≡ r
unfolding recording_of pointer_of
recording-of r c h = omega arith

-- a pointer made of a recording number and a class has that class
pub class-of : (r c : ℕ) → r < RECORDINGS → class_of (pointer_of r c) ≡ c
unfolding class_of pointer_of
class-of r c h = omega arith

-- a pointer's recording number and class make the pointer again
pub pointer-of : (p : ℕ) → pointer_of (recording_of p) (class_of p) ≡ p
unfolding recording_of class_of pointer_of
pointer-of p = omega arith

-- another class leaves the recording
pub class-keeps : (p c : ℕ) → recording_of (with_class p c) ≡ recording_of p
class-keeps p c = recording-of (recording_of p) c (recording-below p)

-- a pointer that is given class c has class c
pub class-set : (p c : ℕ) → class_of (with_class p c) ≡ c
class-set p c = class-of (recording_of p) c (recording-below p)

-- ---- the tests

-- a recording number is in order exactly if it is from 1 to below 2 to the power 56
pub recording-iff : (r : ℕ) → (recording_ok r ≡ true) ↔ ((1 ≤ r) × (r < RECORDINGS))
unfolding recording_ok
recording-iff r = (
  λ h. let u = (and-iff (leb 1 r) (ltb r RECORDINGS)).0 h in ((leb-iff 1 r).0 u.0, ltb-true r RECORDINGS u.1),
  λ u. (and-iff (leb 1 r) (ltb r RECORDINGS)).1 ((leb-iff 1 r).1 u.0, lt-ltb r RECORDINGS u.1),
)

-- a class is in order exactly if it is at most 2
pub class-iff : (c : ℕ) → (class_ok c ≡ true) ↔ (c ≤ 2)
unfolding class_ok
class-iff c = leb-iff c 2

-- a pair is in order exactly if its recording number and its class are
pub pair-iff : (s : Slot) → (pair_ok s ≡ true) ↔ ((recording_ok (recording s) ≡ true) × (class_ok (class s) ≡ true))
unfolding pointer_ok
pair-iff s = and-iff (recording_ok (recording s)) (class_ok (class s))

-- the pointer of a recording and a class
pub pair-of : (k r c : ℕ) → recording_ok r ≡ true → class_ok c ≡ true → pair_ok (slot k (pointer_of r c)) ≡ true
pair-of k r c a b =
    let h = ((recording-iff r).0 a).1 in
    (pair-iff (slot k (pointer_of r c))).1 (rw (recording-of r c h) a, rw (class-of r c h) b)

-- pairs are in order exactly if each one is, and no recording number is there twice
pub recordings-iff :
    (ss : List Slot) → (recordings_ok ss ≡ true) ↔ (Each (λ (s : Slot). pair_ok s ≡ true) ss × (distinct (map recording ss) ≡ true))
unfolding recordings_ok
recordings-iff ss = (
  λ h. let u = (and-iff (all pair_ok ss) (distinct (map recording ss))).0 h in ((all-each pair_ok ss).0 u.0, u.1),
  λ u. (and-iff (all pair_ok ss) (distinct (map recording ss))).1 ((all-each pair_ok ss).1 u.0, u.1),
)

-- one pair more, or less
pub recordings-middle : (s : Slot) (a b : List Slot)
    → (recordings_ok (a ++ s ∷ b) ≡ true) ↔
    ((pair_ok s ≡ true) × (elem (recording s) (map recording (a ++ b)) ≡ false) × (recordings_ok (a ++ b) ≡ true))
recordings-middle s a b = (
  λ h.
      let u = (recordings-iff (a ++ s ∷ b)).0 h in
      let e = Each-split Ok a (s ∷ b) u.0 in
      let d = (distinct-middle (recording s) (map recording a) (map recording b)).0 (rw (map-append recording a (s ∷ b)) at u.1) in (
        e.1.0,
        rw (map-append recording a b) d.0,
        (recordings-iff (a ++ b)).1 (Each-append Ok a b e.0 e.1.1, rw (map-append recording a b) d.1),
      ),
  λ u.
      let w = (recordings-iff (a ++ b)).0 u.2 in
      let e = Each-split Ok a b w.0 in
      (recordings-iff (a ++ s ∷ b)).1 (
        Each-append Ok a (s ∷ b) e.0 (u.0, e.1),
        rw (map-append recording a (s ∷ b))
            ((distinct-middle (recording s) (map recording a) (map recording b)).1
            (rw (map-append recording a b) at u.1, rw (map-append recording a b) at w.1)),
      ),
)
  where
    Ok : Slot → Type 0
    Ok x = pair_ok x ≡ true

-- the recordings of a map with one pair more
pub enter-recording : (q k p : ℕ) (ps : List Slot) → has_recording q (enter k p ps) ≡ (eqb (recording_of p) q || has_recording q ps)
unfolding enter has_recording
enter-recording q k p [] = refl
enter-recording q k p (s ∷ ss) = go (ltb k s.key) (enter-recording q k p ss)
  where
    go : (b : Bool) → has_recording q (enter k p ss) ≡ (eqb (recording_of p) q || has_recording q ss)
        → has_recording q (cond b (slot k p ∷ s ∷ ss) (s ∷ enter k p ss))
        ≡ (eqb (recording_of p) q || (eqb (recording s) q || has_recording q ss))
    go true h = unfold has_recording in refl
    go false h = unfold has_recording in
        (ap (λ (b : Bool). eqb (recording s) q || b) h ∙ or-swap (eqb (recording s) q) (eqb (recording_of p) q) (has_recording q ss))

-- ---- pointers

pub recordings-differ : (p q : ℕ) → recording_of p ≢ recording_of q → p ≢ q
recordings-differ p q z e = z (ap recording_of e)

-- a pointer whose recording no slot of ss has
pub recordings-off : (p : ℕ) (ss : List Slot) → elem (recording_of p) (map recording ss) ≡ false → elem p (pointers ss) ≡ false
unfolding elem
recordings-off p [] h = refl
recordings-off p (s ∷ ss) h =
    let u = (elem-cons (recording_of p) (recording s) (map recording ss)).0 h in
    (elem-cons p s.pointer (pointers ss)).1 (recordings-differ p s.pointer u.0, recordings-off p ss u.1)

-- no pointer in range is 0 or MARK
pub pair-pointer : (s : Slot) → pair_ok s ≡ true → (s.pointer ≢ 0) × (s.pointer ≢ MARK)
unfolding recording_of class_of
pair-pointer s h =
    let u = (pair-iff s).0 h in
    let r = ((recording-iff (recording s)).0 u.0).0 in
    let c = (class-iff (class s)).0 u.1 in
    (λ e. omega (arith, r, e), λ e. omega (arith, c, e))

-- Recordings that differ make pointers that differ, and none of them is MARK or 0.
pub pointers-apart :
    (ss : List Slot) → recordings_ok ss ≡ true → (distinct (MARK ∷ pointers ss) ≡ true) × Each (λ (s : Slot). s.pointer ≢ 0) ss
pointers-apart ss h =
    let u = (recordings-iff ss).0 h in (
      (distinct-cons MARK (pointers ss)).1 ((elem-false MARK (pointers ss)).1 (not-mark ss u.0), different ss u.1),
      Each-map _ _ ss (λ s o. (pair-pointer s o).0) u.0,
    )
  where
    not-mark : (ps : List Slot) → Each (λ (s : Slot). pair_ok s ≡ true) ps → Each (λ (n : ℕ). n ≢ MARK) (pointers ps)
    not-mark [] e = tt
    not-mark (s ∷ ps) e = ((pair-pointer s e.0).1, not-mark ps e.1)

    different : (ps : List Slot) → distinct (map recording ps) ≡ true → distinct (pointers ps) ≡ true
    different [] d = unfold distinct in refl
    different (s ∷ ps) d =
        let u = (distinct-cons (recording s) (map recording ps)).0 d in
        (distinct-cons s.pointer (pointers ps)).1 (recordings-off s.pointer ps u.0, different ps u.1)
