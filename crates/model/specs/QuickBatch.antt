-- Scale 3: many insertions in one call with a summary, the fold of the quick call as Batch.antt is of the plain one.
use Rattle.std.specs.Prelude.{List, [], ◌∷◌, ℕ, ◌*◌, length, take, drop, Some, None, Ok, Err}
use Rattle.model.specs.Results.{orders_counted}
use Rattle.model.specs.Table.{Words}
use Rattle.model.specs.Slots.{Slot}
use Rattle.model.specs.Batch.{insertion_of, Batched, stopped, behind}
use Rattle.model.specs.Summary.{quick_written, quick_table, quick_list, quick_summary}

-- what a batch answers and leaves, and its summary then
pub record QuickBatched : Type 0 where
  pub batched : Batched
  pub summary : Words

abbrev pub quick_batched : Batched → (ws : Words) → QuickBatched
quick_batched b ws = record { batched = b; summary = ws }

-- The pairs are taken one by one, each with the table and the summary that the one before left, and with the list behind the words that it
-- filled.
unfoldable pub quick_batch : (n dock : ℕ) → List Slot → (list ws t : Words) → QuickBatched
quick_batch n dock [] list ws t = quick_batched (stopped None list t) ws
quick_batch n dock (s ∷ ss) list ws t =
    let x = insertion_of n s in
    let later = quick_list x list dock ws t in
    elim (quick_written x (length list) dock ws t) [
      | Ok w ↦
          let filled = 2 * orders_counted w in
          let next = drop filled later in
          let r = quick_batch n dock ss next (quick_summary x (length list) dock ws t) (quick_table x (length list) dock ws t) in
          quick_batched (behind 1 w (take filled later) r.batched) r.summary
      | Err r ↦ quick_batched (stopped (Some r) list t) ws
    ]
