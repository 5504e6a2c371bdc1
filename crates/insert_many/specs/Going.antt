-- A batch under way: what it has come to, and what it comes to from here.
use Rattle.std.specs.Prelude.{◌≡◌, true, false, cond, ◌||◌, List, ℕ, zero, suc, ◌+◌, ◌*◌, ◌-◌, ◌/◌, ◌≤◌, eqb, ltb, length, take, drop}
use Rattle.std.specs.Prelude.{Option, Some, Result, Ok, Err}
use Rattle.model.specs.declared.Refusal.{Refusal}
use Rattle.model.specs.declared.Batch.{Batch}
use Rattle.model.specs.Results.{orders_counted}
use Rattle.model.specs.Table.{Words, no_collection}
use Rattle.model.specs.Slots.{Slot, View, view_of}
use Rattle.model.specs.Reached.{map_of}
use Rattle.model.specs.Refusals.{has_recording}
use Rattle.model.specs.Batch.{Batched, behind, batch}
use Rattle.clear.specs.New.{are_new}
use Rattle.insert.specs.Entered.{Found}
use Rattle.insert_many.specs.declared.Progress.{Progress}

-- the answer if it ends here, stopped or not
abbrev pub answer_of : Progress → (stop : Option Refusal) → Batch
answer_of p stop = record { stop = stop; taken = p.taken; counts = p.counts }

-- so many words of the list are filled
abbrev pub filled : Progress → ℕ
filled p = 2 * orders_counted p.counts

-- what the batch of the pairs ss comes to from here: the pairs that are left go on
unfoldable pub ahead : (n dock : ℕ) → List Slot → Progress → (list t : Words) → Batched
ahead n dock ss p list t = behind p.taken p.counts (take (filled p) list) (batch n dock (drop p.taken ss) (drop (filled p) list) t)

-- and with what the next pair answers: a refusal stops it
abbrev pub goes_on : (n dock : ℕ) → List Slot → Progress → Result Progress Refusal → (list t : Words) → Batched
goes_on n dock ss p (Ok next) list t = ahead n dock ss next list t
goes_on n dock ss p (Err r) list t = record { answer = answer_of p (Some r); table = t; list = list }

-- the table is sound, with what is said of it, and what is filled is in the list
pub record Fit (n dock : ℕ) (p : Progress) (list t : Words) : Type 0 where
  pub found : Found t p.checked
  pub collection : no_collection n t ≡ false
  pub dock-ok : dock ≤ 1
  pub inside : filled p ≤ length list

-- a pair with recording q that was taken is one more, and its recording is then in the map
abbrev pub Gains : (n dock q : ℕ) → Progress → Result Progress Refusal → (t list' t' : Words) → Type 0
Gains n dock q p (Ok next) t list' t' =
    Fit n dock next list' t' × (next.taken ≡ suc p.taken) × ((x : ℕ) → has_recording x (map_of n t') ≡ (eqb q x || has_recording x (map_of n t)))
Gains n dock q p (Err r) t list' t' = Unit {0}

-- how many pairs from i on are known to be new: of so many if they are, else of half of them, and so on; 0 if not even of two
unfoldable pub new_width : View → (pairs : Words) → (i fuel width : ℕ) → ℕ
new_width v pairs i zero width = 0
new_width v pairs i (suc f) width =
    elim (ltb 1 width) [
      | true ↦ elim (are_new v pairs i (i + width)) [ true ↦ width | false ↦ new_width v pairs i f (width / 2) ]
      | false ↦ 0
    ]

-- where the pairs from i on that are known to be new end: as before, if pair i is one of them
unfoldable pub new_end : (n : ℕ) → (t pairs : Words) → (i end : ℕ) → ℕ
new_end n t pairs i end = let all = length pairs / 2 - i in cond (ltb i end) end (i + new_width (view_of n t) pairs i all all)
