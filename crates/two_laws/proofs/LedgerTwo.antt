-- A call's number on a sound table of one or two collections is the ledger's, fed a 10 or 11; a search answers as the ledger.
use Rattle.std.proofs.Common.{◌≡◌, ℕ, Bool, true, false, cond, not, ◌&&◌, ◌||◌, eqb, ◌≢◌, List, [], ◌∷◌, map, sym, refl, ap, ◌∙◌, arith}
use Rattle.std.proofs.Common.{eq-eqb, ne_eqb, eqb-true}
use mathlib.Core.Bool.{false≢true}
use mathlib.Core.Option.{Option, none, some}
use borrow.Author.Tests.{eqb-false}
use Rattle.model.specs.declared.Answer.TheVariants.{Refused}
use Rattle.model.specs.Table.{Words, at, no_collection}
use Rattle.model.specs.Slots.{Slot}
use Rattle.model.specs.Refusals.{Test, test, first_number, seventeen_in, eleven_in, ten_in, own_map, tests_from18, refusal}
use Rattle.model.specs.Ledger.{fed_of, list_in, answer_from, lacking, pairs_of, list_for, ledger_refusal}
use Rattle.model.specs.SoundTest.{sound}
use Rattle.model.specs.Reached.{map_of, unless_lacking, maps_of}
use Rattle.model.specs.Search.{search}
use Rattle.model.specs.Writes.{repaired, Call, insertion, deletion, class_change, repair}
use Rattle.table_laws.proofs.Collections.{by-number}
use Rattle.two_laws.proofs.SearchTwo.{sound-head, search-law}
use Rattle.two_laws.proofs.JudgedTwo.{own-later}

-- ---- the lists of the ledger that is a table's maps

pub list-there : (n : ℕ) (t : Words) → no_collection n t ≡ false → list_in n (maps_of t) ≡ some (map_of n t)
unfolding maps_of
list-there n t h = by-number t (λ (n : ℕ). list_in n (maps_of t) ≡ some (map_of n t)) refl
    (λ z. ap (λ (b : Bool). unless_lacking b (map_of 2 t)) (ne_eqb (at t 3) 0 z)) n h

-- it lacks the lists of collections that are not there
pub lacking-same : (n : ℕ) (t : Words) → no_collection n t ≡ lacking (list_in n (maps_of t))
unfolding no_collection maps_of
lacking-same n t = go (eqb n 1) (eqb n 2) (eqb (at t 3) 0)
  where
    go : (a b c : Bool) → (not a && (not b || c)) ≡ lacking (cond a (some (map_of 1 t)) (cond b (unless_lacking c (map_of 2 t)) none))
    go true b c = refl
    go false true true = refl
    go false true false = refl
    go false false c = refl

-- of a collection that is not there the maps have no list
pub list-lacking : (n : ℕ) (t : Words) → no_collection n t ≡ true → list_in n (maps_of t) ≡ none
list-lacking n t h = go (list_in n (maps_of t)) (sym (lacking-same n t) ∙ h)
  where
    go : (l : Option (List Slot)) → lacking l ≡ true → l ≡ none
    go none e = refl
    go (some ps) e = absurd (false≢true e)

-- ---- search

no-collection : (n : ℕ) (t : Words) (k : ℕ) → sound t ≡ true → no_collection n t ≡ true → search n t k ≡ Refused 17
unfolding search
no-collection n t k s h = rw (sound-head t s, h, search)

-- A search of any collection of a sound table answers as its maps.
pub searched : (n : ℕ) (t : Words) (k : ℕ) → sound t ≡ true → search n t k ≡ answer_from k (list_in n (maps_of t))
searched n t k s = go (no_collection n t) refl
  where
    go : (b : Bool) → no_collection n t ≡ b → search n t k ≡ answer_from k (list_in n (maps_of t))
    go true h = no-collection n t k s h ∙ ap (answer_from k) (sym (list-lacking n t h))
    go false h = search-law n t s h k ∙ ap (answer_from k) (sym (list-there n t h))

-- ---- the numbers

-- a sound table's tests: 17, and those from 18 on
abbrev tests : Call → (words dock : ℕ) → Words → List Test
tests x words dock t = tests_from18 x words dock (eleven_in x (repaired t)) (ten_in x (repaired t)) (own_map x (repaired t))

pub from-eighteen : (x : Call) (words dock : ℕ) (t : Words) → sound t ≡ true → refusal x words dock t
    ≡ first_number (test (seventeen_in x t) 17 ∷ tests x words dock t)
unfolding refusal
from-eighteen x words dock t s = rw (sound-head t s, s)

-- a call is refused with 17 exactly if the maps lack the list of its collection
pub seventeen-same : (x : Call) (t : Words) → seventeen_in x t ≡ lacking (list_for x (maps_of t))
seventeen-same (insertion n k r c) t = lacking-same n t
seventeen-same (deletion n k) t = lacking-same n t
seventeen-same (class_change n k c) t = lacking-same n t
seventeen-same repair t = refl

own-pairs : (x : Call) (t : Words) → seventeen_in x t ≡ false → pairs_of (list_for x (maps_of t)) ≡ own_map x t
own-pairs (insertion n k r c) t h = ap pairs_of (list-there n t h)
own-pairs (deletion n k) t h = ap pairs_of (list-there n t h)
own-pairs (class_change n k c) t h = ap pairs_of (list-there n t h)
own-pairs repair t h = refl

-- ---- the tests that are fed: where the call's number is 10 or 11, it is fed and refuses at that number's place

abbrev pub is_fed : ℕ → Bool
is_fed n = eqb n 10 || eqb n 11

-- what was fed tells a test of 10 or 11 whether it holds
abbrev pub refed : (fed : ℕ) → Test → Test
refed fed c = test (cond (is_fed c.number) (eqb fed c.number) c.holds) c.number

-- one test of number n, which holds or not by b, before others that come to r
refed-one : (b : Bool) (n r : ℕ) (rest : ℕ → ℕ) → rest (fed_of r) ≡ r
    → (let fed = fed_of (cond b n r) in cond (cond (is_fed n) (eqb fed n) b) n (rest fed)) ≡ cond b n r
refed-one true n r rest ih = go (is_fed n)
  where
    go : (f : Bool) → (let fed = cond f n 0 in cond (cond f (eqb fed n) true) n (rest fed)) ≡ n
    go true = rw (eq-eqb n n refl)
    go false = refl
refed-one false n r rest ih = go (is_fed n) (is_fed r) (λ f z. false≢true (rw z at f)) ih
  where
    go : (f g : Bool) → (f ≡ true → n ≢ 0) → rest (cond g r 0) ≡ r → cond (cond f (eqb (cond g r 0) n) false) n (rest (cond g r 0)) ≡ r
    go false g z ih = ih
    go true true z ih = same (eqb r n) refl
      where
        same : (q : Bool) → eqb r n ≡ q → cond q n (rest r) ≡ r
        same true e = sym (eqb-true r n e)
        same false e = ih
    go true false z ih = rw (ne_eqb 0 n (λ e. z refl (sym e))) ih

pub refed-first : (cs : List Test) → first_number (map (refed (fed_of (first_number cs))) cs) ≡ first_number cs
refed-first [] = refl
refed-first (c ∷ cs) = refed-one c.holds c.number (first_number cs) (λ fed. first_number (map (refed fed) cs)) (refed-first cs)

-- the ledger's tests: where the call's number is 10 or 11, it is fed and refuses at that number's place
fed-number : (x : Call) (words dock : ℕ) (eleven ten : Bool) (ps : List Slot)
    → (let n = first_number (tests_from18 x words dock eleven ten ps) in first_number
    (tests_from18 x words dock (eqb (fed_of n) 11) (eqb (fed_of n) 10) ps) ≡ n)
fed-number (insertion n k r c) words dock eleven ten ps = refed-first (tests_from18 (insertion n k r c) words dock eleven ten ps)
fed-number (deletion n k) words dock eleven ten ps = refed-first (tests_from18 (deletion n k) words dock eleven ten ps)
fed-number (class_change n k c) words dock eleven ten ps = refed-first (tests_from18 (class_change n k c) words dock eleven ten ps)
fed-number repair words dock eleven ten ps = refed-first (tests_from18 repair words dock eleven ten ps)

-- the same number as in the ledger
pub number-in-ledger :
    (x : Call) (words dock : ℕ) (t : Words) → sound t ≡ true → refusal x words dock t
    ≡ ledger_refusal x false words dock (fed_of (refusal x words dock t)) (maps_of t)
number-in-ledger x words dock t s = go (seventeen_in x t) refl
  where
    no-list : seventeen_in x t ≡ true → (m : ℕ) → 17 ≡ ledger_refusal x false words dock m (maps_of t)
    no-list h m = unfold ledger_refusal in rw (sym (seventeen-same x t) ∙ h)

    own : List Slot → List Test
    own ps = tests_from18 x words dock (eleven_in x (repaired t)) (ten_in x (repaired t)) ps

    number : seventeen_in x t ≡ false → refusal x words dock t ≡ first_number (own (own_map x t))
    number h = from-eighteen x words dock t s ∙ ap (λ (b : Bool). first_number (test b 17 ∷ tests x words dock t)) h
        ∙ ap (λ (ps : List Slot). first_number (own ps)) (own-later x t s h)

    from-list : seventeen_in x t ≡ false → (m : ℕ) → ledger_refusal x false words dock m (maps_of t)
        ≡ first_number (tests_from18 x words dock (eqb m 11) (eqb m 10) (own_map x t))
    from-list h m = unfold ledger_refusal in rw (sym (seventeen-same x t) ∙ h, own-pairs x t h)

    go : (b : Bool) → seventeen_in x t ≡ b → refusal x words dock t
        ≡ ledger_refusal x false words dock (fed_of (refusal x words dock t)) (maps_of t)
    go true h = from-eighteen x words dock t s ∙ ap (λ (b : Bool). first_number (test b 17 ∷ tests x words dock t)) h
        ∙ no-list h (fed_of (refusal x words dock t))
    go false h =
        let e = number h in
        let q = fed-number x words dock (eleven_in x (repaired t)) (ten_in x (repaired t)) (own_map x t) in
        e ∙ sym q ∙ sym (from-list h (fed_of (first_number (own (own_map x t)))))
        ∙ ap (λ (m : ℕ). ledger_refusal x false words dock (fed_of m) (maps_of t)) (sym e)

-- ---- 10 and 11 come only on their conditions

abbrev pub holds_for : ℕ → List Test → Bool
holds_for n [] = false
holds_for n (c ∷ cs) = cond (eqb c.number n) (c.holds || holds_for n cs) (holds_for n cs)

pub first-holds : (n : ℕ) (cs : List Test) → n ≢ 0 → first_number cs ≡ n → holds_for n cs ≡ true
first-holds n [] z e = absurd (z (sym e))
first-holds n (c ∷ cs) z e = go c.holds (eqb c.number n) refl e (first-holds n cs z)
  where
    go : (b q : Bool) → eqb c.number n ≡ q → cond b c.number (first_number cs) ≡ n → (first_number cs ≡ n → holds_for n cs ≡ true)
        → cond q (b || holds_for n cs) (holds_for n cs) ≡ true
    go true true f e ih = refl
    go true false f e ih = absurd (eqb-false c.number n f e)
    go false true f e ih = ih e
    go false false f e ih = ih e

pub alone : (b : Bool) → b || false ≡ true → b ≡ true
alone true e = refl
alone false e = e

number-holds : (m : ℕ) (x : Call) (words dock : ℕ) (t : Words) → sound t ≡ true → m ≢ 0 → refusal x words dock t ≡ m
    → holds_for m (test (seventeen_in x t) 17 ∷ tests x words dock t) ≡ true
number-holds m x words dock t s z e =
    first-holds m (test (seventeen_in x t) 17 ∷ tests x words dock t) z (sym (from-eighteen x words dock t s) ∙ e)

-- on a sound table, a call is refused with 11 only if the repaired table says so
pub only-eleven : (x : Call) (words dock : ℕ) (t : Words) → sound t ≡ true → refusal x words dock t ≡ 11 → eleven_in x (repaired t) ≡ true
only-eleven (insertion n k r c) words dock t s e = alone _ (number-holds 11 (insertion n k r c) words dock t s (omega arith) e)
only-eleven (deletion n k) words dock t s e = number-holds 11 (deletion n k) words dock t s (omega arith) e
only-eleven (class_change n k c) words dock t s e = number-holds 11 (class_change n k c) words dock t s (omega arith) e
only-eleven repair words dock t s e = number-holds 11 repair words dock t s (omega arith) e

-- on a sound table, a call is refused with 10 only if the repaired table says so
pub only-ten : (x : Call) (words dock : ℕ) (t : Words) → sound t ≡ true → refusal x words dock t ≡ 10 → ten_in x (repaired t) ≡ true
only-ten (insertion n k r c) words dock t s e = alone _ (number-holds 10 (insertion n k r c) words dock t s (omega arith) e)
only-ten (deletion n k) words dock t s e = number-holds 10 (deletion n k) words dock t s (omega arith) e
only-ten (class_change n k c) words dock t s e = number-holds 10 (class_change n k c) words dock t s (omega arith) e
only-ten repair words dock t s e = number-holds 10 repair words dock t s (omega arith) e
