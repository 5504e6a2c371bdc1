-- A batch with a summary under way: what it has come to, and what it comes to from here.
use Rattle.std.specs.Prelude.{◌≡◌, List, ℕ, suc, ◌*◌, ◌≤◌, length, take, drop, Option, Some, Result, Ok, Err}
use Rattle.model.specs.declared.Refusal.{Refusal}
use Rattle.model.specs.declared.Counts.{Counts}
use Rattle.model.specs.declared.Batch.{Batch}
use Rattle.model.specs.Results.{orders_counted}
use Rattle.model.specs.Table.{Words}
use Rattle.model.specs.Slots.{Slot}
use Rattle.model.specs.Batch.{behind}
use Rattle.model.specs.QuickBatch.{QuickBatched, quick_batched, quick_batch}
use Rattle.quick_insert_many.specs.declared.Progress.{Progress}

-- the answer if it ends here, stopped or not
abbrev pub answer_of : Progress → (stop : Option Refusal) → Batch
answer_of p stop = record { stop = stop; taken = p.taken; counts = p.counts }

-- so many words of the list are filled
abbrev pub filled : Progress → ℕ
filled p = 2 * orders_counted p.counts

-- what comes behind i pairs, whose orders have these counts and filled the front of the list
abbrev pub quick_behind : (i : ℕ) → Counts → (front : Words) → QuickBatched → QuickBatched
quick_behind i w front r = quick_batched (behind i w front r.batched) r.summary

-- what the batch of the pairs ss comes to from here: the pairs that are left go on
unfoldable pub ahead : (n dock : ℕ) → List Slot → Progress → (list ws t : Words) → QuickBatched
ahead n dock ss p list ws t = quick_behind p.taken p.counts (take (filled p) list) (quick_batch n dock (drop p.taken ss) (drop (filled p) list) ws t)

-- and with what the next pair answers: a refusal stops it
abbrev pub goes_on : (n dock : ℕ) → List Slot → Progress → Result Progress Refusal → (list ws t : Words) → QuickBatched
goes_on n dock ss p (Ok next) list ws t = ahead n dock ss next list ws t
goes_on n dock ss p (Err r) list ws t = quick_batched (record { answer = answer_of p (Some r); table = t; list = list }) ws

-- a pair that was taken is one more, and what is filled is in the list
abbrev pub Gains : Progress → Result Progress Refusal → (list' : Words) → Type 0
Gains p (Ok next) list' = (next.taken ≡ suc p.taken) × (filled next ≤ length list')
Gains p (Err r) list' = Unit {0}
