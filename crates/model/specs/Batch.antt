-- Scale 2: many insertions in one call, the fold of the single call: the pairs in the order given, one order list for all.
use Rattle.std.specs.Prelude.{List, [], ◌∷◌, ◌++◌, ℕ, ◌+◌, ◌*◌, length, take, drop, Option, Some, None, Ok, Err}
use Rattle.model.specs.declared.Refusal.{Refusal}
use Rattle.model.specs.declared.Counts.{Counts}
use Rattle.model.specs.declared.Batch.{Batch}
use Rattle.model.specs.Results.{no_counts, counts_sum, orders_counted}
use Rattle.model.specs.Table.{Words}
use Rattle.model.specs.Slots.{Slot, recording, class}
use Rattle.model.specs.Writes.{Call, insertion}
use Rattle.model.specs.Refusals.{written, table_after, list_after}

-- the single call for a pair of key and whole pointer: recording and class are the pointer's
abbrev pub insertion_of : (n : ℕ) → Slot → Call
insertion_of n s = insertion n s.key (recording s) (class s)

-- what a batch answers, the table and the order list that it leaves
pub record Batched : Type 0 where
  pub answer : Batch
  pub table : Words
  pub list : Words

-- it stops with a refusal before its first pair, and nothing changes; none: there is no pair
abbrev pub stopped : Option Refusal → (list t : Words) → Batched
stopped r list t = record { answer = record { stop = r; taken = 0; counts = no_counts }; table = t; list = list }

-- what comes behind i pairs, whose orders have these counts and filled the front of the list
abbrev pub behind : (i : ℕ) → Counts → (front : Words) → Batched → Batched
behind i w front r =
    let x = r.answer in
    record {
      answer = record { stop = x.stop; taken = i + x.taken; counts = counts_sum w x.counts };
      table = r.table;
      list = front ++ r.list;
    }

-- The pairs are taken one by one. A refused one stops the batch with its refusal; after an accepted one the others go on with the table that it
-- left and with the list behind the words that it filled.
unfoldable pub batch : (n dock : ℕ) → List Slot → (list t : Words) → Batched
batch n dock [] list t = stopped None list t
batch n dock (s ∷ ss) list t =
    let x = insertion_of n s in
    let later = list_after x list dock t in
    elim (written x (length list) dock t) [
      | Ok w ↦
          let filled = 2 * orders_counted w in
          behind 1 w (take filled later) (batch n dock ss (drop filled later) (table_after x (length list) dock t))
      | Err r ↦ stopped (Some r) list t
    ]
