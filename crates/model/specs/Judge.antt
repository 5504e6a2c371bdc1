-- Change request 9: judging a supplier's order list. What is asked of each count of its orders, over all images of a cut there; what computes
-- the answer; the call.
use Rattle.std.specs.Prelude.{◌≡◌, ◌≢◌, ◌⊎◌, ◌↔◌, Bool, true, false, cond, not, ◌&&◌, ◌||◌, List, [], ◌∷◌, ℕ, suc, ◌/◌, ◌≤◌, ◌<◌, eqb, length, take}
use Rattle.std.specs.Prelude.{Ok, Err, Some, None}
use Rattle.std.proofs.Math.Option.{Option, none, some}
use Rattle.model.specs.Numbers.{refusal_number}
use Rattle.model.specs.Results.{Verdict, refused_with}
use Rattle.model.specs.Table.{Words, line, header_ok}
use Rattle.model.specs.Slots.{Slot}
use Rattle.model.specs.Reached.{Maps, maps_of}
use Rattle.model.specs.SoundTest.{sound, settled}
use Rattle.model.specs.Sound.{Settled, Sound}
use Rattle.model.specs.Orders.{Order, store, flush, barrier, carry, decode, carry_number, carried_out, all_inside}
use Rattle.model.specs.Cuts.{later_stores, CutImage}
use Rattle.model.specs.Writes.{Call}
use Rattle.model.specs.Refusals.{Test, test, first_number, seventeen_in, refusal, unless_refused}
use Rattle.model.specs.Ledger.{change}

-- ---- what is asked of a list, for a call x on table t

-- No two lines hold unflushed stores after these orders; no store is left unflushed.
abbrev pub OneUnflushed : List Order → Type 0
OneUnflushed os = (k l : ℕ) → k ≢ l → (later_stores k os ≡ []) ⊎ (later_stores l os ≡ [])

abbrev pub AllFlushed : List Order → Type 0
AllFlushed os = (l : ℕ) → later_stores l os ≡ []

-- the old map or the new one, and the other collection's map, or its lack, unchanged
abbrev pub OldOrNew : Call → Words → Words → Type 0
OldOrNew x t m = (maps_of m ≡ maps_of t) ⊎ (maps_of m ≡ change x (maps_of t))

-- The whole list leaves no store unflushed and gives a settled table with the new map.
pub record Completes (x : Call) (t : Words) (os : List Order) : Type 0 where
  pub all-flushed : AllFlushed os
  pub settles : Settled (carry os t)
  pub new-map : maps_of (carry os t) ≡ change x (maps_of t)

-- A count of orders holds: no two lines hold unflushed stores after them, every image of a cut there is sound with the old map or the new one;
-- and if these are all orders, they complete the change. The tool serves dock 0.
pub record CountHolds (x : Call) (t : Words) (os : List Order) (c : ℕ) : Type 0 where
  pub one-line : OneUnflushed (take c os)
  pub images : (m : Words) → CutImage 0 c t os m → Sound m × OldOrNew x t m
  pub whole : c ≡ length os → Completes x t os

-- Yes exactly if every count holds; else no, with the first count that fails.
abbrev pub Says : Call → Words → List Order → Verdict → Type 0
Says x t os (Ok None) = (c : ℕ) → c ≤ length os → CountHolds x t os c
Says x t os (Ok (Some c)) = (c ≤ length os) × ((d : ℕ) → d < c → CountHolds x t os d) × (CountHolds x t os c → ⊥)
Says x t os (Err r) = ⊥

-- ---- what computes it: the orders one by one, on the table as those before leave it. Proved twin of `Says`, which needs no belief:
-- `judged-iff` in crates/judge_laws/proofs/Judged.antt.

unfoldable pub same_slots : List Slot → List Slot → Bool
same_slots [] [] = true
same_slots [] (q ∷ qs) = false
same_slots (p ∷ ps) [] = false
same_slots (p ∷ ps) (q ∷ qs) = eqb p.key q.key && (eqb p.pointer q.pointer && same_slots ps qs)

abbrev pub same_second : Option (List Slot) → Option (List Slot) → Bool
same_second none none = true
same_second none (some qs) = false
same_second (some ps) none = false
same_second (some ps) (some qs) = same_slots ps qs

unfoldable pub same_maps : Maps → Maps → Bool
same_maps a b = same_slots a.one b.one && same_second a.two b.two

-- sound with the old maps or the new ones
unfoldable pub good_image : (old new : Maps) → Words → Bool
good_image old new u = sound u && (same_maps (maps_of u) old || same_maps (maps_of u) new)

-- the line that holds unflushed stores after an order, where this one did before it
abbrev pub unflushed_after : (line : Option ℕ) → Order → Option ℕ
unflushed_after l (store s) = some (line s.word)
unflushed_after none (flush k) = none
unflushed_after (some l) (flush k) = cond (eqb k l) none (some l)
unflushed_after l barrier = l

-- a second line holds unflushed stores after it
abbrev pub second_line : (line : Option ℕ) → Order → Bool
second_line none o = false
second_line (some l) (store s) = not (eqb (line s.word) l)
second_line (some l) (flush k) = false
second_line (some l) barrier = false

abbrev pub is_none : Option ℕ → Bool
is_none none = true
is_none (some l) = false

-- all orders were carried out, left u and line l unflushed: they complete the change
unfoldable pub completes : (new : Maps) → (line : Option ℕ) → (u : Words) → Bool
completes new l u = is_none l && (settled u && same_maps (maps_of u) new)

-- c orders were carried out, each count of which holds, and left u and line l unflushed; these are the others
module _ (old new : Maps) where
  unfoldable pub judged_from : List Order → (c : ℕ) → (line : Option ℕ) → (u : Words) → Verdict
  judged_from [] c l u = cond (completes new l u) (Ok None) (Ok (Some c))
  judged_from (o ∷ os) c l u =
      elim (not (second_line l o) && good_image old new (carry (o ∷ []) u)) [
        | true ↦ judged_from os (suc c) (unflushed_after l o) (carry (o ∷ []) u)
        | false ↦ Ok (Some (suc c))
      ]

unfoldable pub judged : Call → (t : Words) → List Order → Verdict
judged x t os = judged_from (maps_of t) (change x (maps_of t)) os 0 none t

-- ---- the call, for a list of all whole orders of its slice

-- 2, 17, 4, 20, 13 over the whole list, 15, 21 in that order, for a second slice of so many words. 21: the change itself would be refused on
-- this table.
abbrev pub judge_tests : Call → (t list : Words) → (out : ℕ) → List Test
judge_tests x t list out =
    test (not (header_ok t)) 2 ∷ test (seventeen_in x t) 17 ∷ test (not (sound t)) 4 ∷ test (not (settled t)) 20
    ∷ test (not (eqb (carry_number (length list / 2) list t) 0)) 13 ∷ test (not (eqb out (length t))) 15
    ∷ test (not (eqb (refusal x 2560 0 t) 0)) 21 ∷ []

-- 0: accepted
unfoldable pub judge_number : Call → (t list : Words) → (out : ℕ) → ℕ
judge_number x t list out = first_number (judge_tests x t list out)

-- on table t, of a list and a second slice of so many words, for the change x
pub record JudgeNumbers (x : Call) (t list : Words) (out : ℕ) : Type 0 where
  pub two : (judge_number x t list out ≡ 2) ↔ (header_ok t ≡ false)
  pub seventeen : (judge_number x t list out ≡ 17) ↔ ((header_ok t ≡ true) × (seventeen_in x t ≡ true))
  pub four : (judge_number x t list out ≡ 4) ↔ ((header_ok t ≡ true) × (seventeen_in x t ≡ false) × (sound t ≡ false))
  pub twenty : (judge_number x t list out ≡ 20) ↔ ((seventeen_in x t ≡ false) × (sound t ≡ true) × (settled t ≡ false))
  pub thirteen : (judge_number x t list out ≡ 13) ↔ ((seventeen_in x t ≡ false) × (settled t ≡ true) × (all_inside (length t) (decode list) ≡ false))
  pub fifteen : (judge_number x t list out ≡ 15)
      ↔ ((seventeen_in x t ≡ false) × (settled t ≡ true) × (all_inside (length t) (decode list) ≡ true) × (out ≢ length t))
  pub twenty-one : (judge_number x t list out ≡ 21)
      ↔ ((seventeen_in x t ≡ false) × (settled t ≡ true) × (all_inside (length t) (decode list) ≡ true) × (out ≡ length t) × (refusal x 2560 0 t ≢ 0))

unfoldable pub judge : Call → (t list : Words) → (out : ℕ) → Verdict
judge x t list out = unless_refused (judge_number x t list out) (judged x t (decode list)) (refused_with (judge_number x t list out))

-- the count that the second slice is carried out to: all for yes, the named one for no
abbrev pub count_of : Verdict → (orders : ℕ) → ℕ
count_of (Ok None) n = n
count_of (Ok (Some c)) n = c
count_of (Err r) n = 0

-- the second slice ends as the table with the list carried out, whole for yes, up to the named count for no
unfoldable pub judge_out : Call → (t list out : Words) → Words
judge_out x t list out =
    unless_refused (judge_number x t list (length out)) (carried_out (count_of (judged x t (decode list)) (length list / 2)) list t) out

-- the number for each case, 0 for yes, 254 for no; and the count that a lent word then holds
abbrev pub verdict_number : Verdict → ℕ
verdict_number (Ok None) = 0
verdict_number (Ok (Some c)) = 254
verdict_number (Err r) = refusal_number r

abbrev pub fails_or : Verdict → ℕ → ℕ
fails_or (Ok None) old = old
fails_or (Ok (Some c)) old = c
fails_or (Err r) old = old
