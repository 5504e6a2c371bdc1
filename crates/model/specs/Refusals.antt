-- Document 01, "What refuses, and with which number": for each writing call, the numbers in their order; and what a call answers.
use Rattle.std.specs.Prelude.{Bool, false, cond, not, ◌&&◌, ◌||◌, List, [], ◌∷◌, ℕ, zero, suc, ◌+◌, eqb, ltb, length, Ok, Err}
use Rattle.model.specs.Results.{Written, refused_with, done_with, orders_counted}
use Rattle.model.specs.Table.{Words, header_ok, no_collection}
use Rattle.model.specs.Slots.{Slot, recording, recording_ok, class_ok, view_of, height}
use Rattle.model.specs.Reached.{map_of}
use Rattle.model.specs.SoundTest.{sound}
use Rattle.model.specs.Orders.{Order, apply, orders, barred, store_count, flush_count, barrier_count, list_with}
use Rattle.model.specs.Writes.{unreachable, repaired, run, root_in_run, Call, insertion, deletion, class_change, repair, stores_of}

-- ---- the conditions of 17, 11 and 10

-- 17: a call of a collection that is not there
abbrev pub seventeen_in : Call → Words → Bool
seventeen_in (insertion n k r c) t = no_collection n t
seventeen_in (deletion n k) t = no_collection n t
seventeen_in (class_change n k c) t = no_collection n t
seventeen_in repair t = false

-- 11: the run includes a root at level 15
unfoldable pub too_high : (n : ℕ) → Words → (k : ℕ) → Bool
too_high n t k = root_in_run n t k && eqb (height (view_of n t)) 15

-- 10: fewer unreachable nodes than the run's length, plus 1 for a new root
unfoldable pub too_few : (n : ℕ) → Words → (k : ℕ) → Bool
too_few n t k = ltb (length (unreachable t)) (run n t k + cond (root_in_run n t k) 1 0)

-- ---- the numbers in their order

pub record Test : Type 0 where
  pub holds : Bool
  pub number : ℕ

abbrev pub test : Bool → ℕ → Test
test b n = record { holds = b; number = n }

-- the number of the first test that holds; 0 where none does: accepted
abbrev pub first_number : List Test → ℕ
first_number [] = 0
first_number (c ∷ cs) = cond c.holds c.number (first_number cs)

unfoldable pub has_key : ℕ → List Slot → Bool
has_key k [] = false
has_key k (s ∷ ss) = eqb s.key k || has_key k ss

unfoldable pub has_recording : ℕ → List Slot → Bool
has_recording r [] = false
has_recording r (s ∷ ss) = eqb (recording s) r || has_recording r ss

-- 6, 14, 7, 8, 9, 11, 10, by the own map; 11 and 10 ask more than the map and are handed in
abbrev pub map_tests : Call → (eleven ten : Bool) → List Slot → List Test
map_tests (insertion n k r c) eleven ten ps =
    test (not (recording_ok r)) 6 ∷ test (not (class_ok c)) 14
    ∷ test (has_key k ps) 7 ∷ test (has_recording r ps) 8 ∷ test eleven 11 ∷ test ten 10 ∷ []
map_tests (deletion n k) eleven ten ps = test (not (has_key k ps)) 9 ∷ []
map_tests (class_change n k c) eleven ten ps = test (not (class_ok c)) 14 ∷ test (not (has_key k ps)) 9 ∷ []
map_tests repair eleven ten ps = []

-- 5: an order list under 2,560 words; for dock 1 under 5,120
abbrev pub words_for : (dock : ℕ) → ℕ
words_for zero = 2560
words_for (suc n) = 5120

-- from 18 on: a dock neither 0 nor 1, 5 by the order list's length
abbrev pub tests_from18 : Call → (words dock : ℕ) → (eleven ten : Bool) → List Slot → List Test
tests_from18 x words dock eleven ten ps = test (ltb 1 dock) 18 ∷ test (ltb words (words_for dock)) 5 ∷ map_tests x eleven ten ps

-- 11 and 10 apply to an insertion, on the table t as repair would leave it
abbrev pub eleven_in : Call → Words → Bool
eleven_in (insertion n k r c) t = too_high n t k
eleven_in (deletion n k) t = false
eleven_in (class_change n k c) t = false
eleven_in repair t = false

abbrev pub ten_in : Call → Words → Bool
ten_in (insertion n k r c) t = too_few n t k
ten_in (deletion n k) t = false
ten_in (class_change n k c) t = false
ten_in repair t = false

-- the map of the collection that a call names; a repair judges by none
abbrev pub own_map : Call → Words → List Slot
own_map (insertion n k r c) t = map_of n t
own_map (deletion n k) t = map_of n t
own_map (class_change n k c) t = map_of n t
own_map repair t = []

-- The number that a writing call refuses with, on table t with an order list of so many words, for a dock; 0: accepted. 17 comes straight
-- after 2, 18 straight before 5.
unfoldable pub refusal : Call → (words dock : ℕ) → Words → ℕ
refusal x words dock t =
    let t' = repaired t in
    first_number (test (not (header_ok t)) 2 ∷ test (seventeen_in x t) 17 ∷ test (not (sound t)) 4
    ∷ tests_from18 x words dock (eleven_in x t') (ten_in x t') (own_map x t'))

-- ---- what a writing call does: all of it follows from its number and its stores

abbrev pub unless_refused {ℓ} : {A : Type ℓ} → ℕ → A → A → A
unless_refused zero done refused = done
unless_refused (suc n) done refused = refused

-- the orders of its stores by the flush rule, with the barriers of the dock
abbrev pub orders_of : Call → (dock : ℕ) → Words → List Order
orders_of x dock t = barred dock (orders (stores_of x t))

-- An accepted write answers its stores, its flushes and its barriers.
unfoldable pub written : Call → (words dock : ℕ) → Words → Written
written x words dock t =
    let os = orders_of x dock t in
    unless_refused (refusal x words dock t) (done_with (store_count os) (flush_count os) (barrier_count os)) (refused_with (refusal x words dock t))

-- the working copy, and the lent order list, after the call
unfoldable pub table_after : Call → (words dock : ℕ) → Words → Words
table_after x words dock t = unless_refused (refusal x words dock t) (apply (stores_of x t) t) t

unfoldable pub list_after : Call → Words → (dock : ℕ) → Words → Words
list_after x lent dock t = unless_refused (refusal x (length lent) dock t) (list_with (orders_of x dock t) lent) lent

-- the orders that an accepted call answered
abbrev pub orders_answered : Written → ℕ
orders_answered (Ok w) = orders_counted w
orders_answered (Err r) = 0

-- the three counts that lent words then hold; they stay where there is none
abbrev pub stores_or : Written → ℕ → ℕ
stores_or (Ok w) old = w.stores
stores_or (Err r) old = old

abbrev pub flushes_or : Written → ℕ → ℕ
flushes_or (Ok w) old = w.flushes
flushes_or (Err r) old = old

abbrev pub barriers_or : Written → ℕ → ℕ
barriers_or (Ok w) old = w.barriers
barriers_or (Err r) old = old
