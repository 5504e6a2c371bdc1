-- A batch with a summary, carried out whole, in a history: it is the quick insertions of the pairs that it took, so that the claim over histories
-- with quick calls holds of it and of what follows with the summary that it leaves. (A cut ends the summary: of a cut batch Batches.antt speaks.)
use Rattle.std.specs.Prelude.{◌≡◌, List, [], ◌∷◌, ◌++◌, ℕ, ◌*◌, length, drop, Ok, Err}
use Rattle.std.proofs.Math.Option.{none, some}
use Rattle.model.specs.Results.{orders_counted}
use Rattle.model.specs.Table.{Words}
use Rattle.model.specs.Slots.{Slot}
use Rattle.model.specs.Sound.{Sound}
use Rattle.model.specs.Demand3.{whole, Event, both}
use Rattle.model.specs.Batch.{insertion_of}
use Rattle.model.specs.Batches.{after_batch}
use Rattle.model.specs.Summary.{quick_written, quick_table, quick_list, quick_summary}
use Rattle.model.specs.QuickBatch.{quick_batch}
use Rattle.model.specs.QuickHistories.{Acts, quick, host, run_acts, MayActs}

abbrev pub pair_event : (n dock : ℕ) → (list : Words) → Slot → Event
pair_event n dock list s = record { call = insertion_of n s; lent = list; dock = dock; slice = none; fate = whole }

-- the quick insertions of the pairs that it takes, the latest first, each with the list behind the words that the one before filled
unfoldable pub singles : (n dock : ℕ) → List Slot → (list ws t : Words) → Acts
singles n dock [] list ws t = []
singles n dock (s ∷ ss) list ws t =
    let x = insertion_of n s in
    let ws' = quick_summary x (length list) dock ws t in
    let t' = quick_table x (length list) dock ws t in
    elim (quick_written x (length list) dock ws t) [
      | Ok w ↦
          let filled = 2 * orders_counted w in
          singles n dock ss (drop filled (quick_list x list dock ws t)) ws' t' ++ (quick (pair_event n dock list s) ∷ [])
      | Err r ↦ []
    ]

-- After every history with a summary: these may happen next, and come to what the batch comes to.
abbrev pub QuickSingles : Type 0
QuickSingles =
    (t : Words) → Sound t → (h : Acts) → MayActs (both t) h → (ws : Words) → (run_acts (both t) h).summary ≡ some ws
    → (n dock : ℕ) → (ss : List Slot) → (list : Words)
    → (let s = (run_acts (both t) h).state in let r = quick_batch n dock ss list ws s.working in let xs = singles n dock ss list ws s.working ++ h in
    MayActs (both t) xs × (run_acts (both t) xs ≡ host (after_batch whole s r.batched) (some r.summary)))
