-- A batch with a summary that is true of the table is the plain one, and leaves a true summary.
use Rattle.std.proofs.Common.{◌≡◌, ℕ, ◌*◌, List, [], ◌∷◌, length, take, drop, sym, refl, ap, ◌∙◌}
use Rattle.std.specs.Prelude.{Some, Ok, Err}
use Rattle.model.specs.declared.Refusal.{Refusal}
use Rattle.model.specs.declared.Counts.{Counts}
use Rattle.model.specs.Results.{Written, orders_counted}
use Rattle.model.specs.Table.{Words}
use Rattle.model.specs.Slots.{Slot}
use Rattle.model.specs.Refusals.{written}
use Rattle.model.specs.Batch.{insertion_of, stopped, behind, batch}
use Rattle.model.specs.Summary.{quick_written, quick_table, quick_list, quick_summary}
use Rattle.model.specs.QuickBatch.{QuickBatched, quick_batched, quick_batch}
use Rattle.batch_laws.proofs.Folds.{batch-none, batch-stops, batch-goes}
use Rattle.summary_laws.specs.Current.{Current}
use Rattle.summary_laws.proofs.Quick.{quick-written, quick-table, quick-list, quick-true}

-- ---- one pair

module _ (n dock : ℕ) (s : Slot) (ss : List Slot) (list ws t : Words) where
  abbrev later : Words
  later = quick_list (insertion_of n s) list dock ws t

  -- the pairs after it, with what it leaves
  abbrev rest : (used : ℕ) → QuickBatched
  rest used = quick_batch n dock ss (drop used later) (quick_summary (insertion_of n s) (length list) dock ws t)
      (quick_table (insertion_of n s) (length list) dock ws t)

  abbrev next : Written → QuickBatched
  next w = elim w [
    | Ok w ↦
        let filled = 2 * orders_counted w in
        quick_batched (behind 1 w (take filled later) (rest filled).batched) (rest filled).summary
    | Err r ↦ quick_batched (stopped (Some r) list t) ws
  ]

  -- a quick batch whose first pair is refused stops with that refusal, before any change
  pub quick-stops : (r : Refusal) → quick_written (insertion_of n s) (length list) dock ws t ≡ Err r → quick_batch n dock (s ∷ ss) list ws t
      ≡ quick_batched (stopped (Some r) list t) ws
  unfolding quick_batch
  quick-stops r e = ap (λ (w : Written). next w) e

  -- a quick batch whose first pair is accepted goes on with the others, on the table and summary that it left
  pub quick-goes : (w : Counts) → quick_written (insertion_of n s) (length list) dock ws t ≡ Ok w
      → (let filled = 2 * orders_counted w in quick_batch n dock (s ∷ ss) list ws t
      ≡ quick_batched (behind 1 w (take filled later) (rest filled).batched) (rest filled).summary)
  unfolding quick_batch
  quick-goes w e = ap (λ (w : Written). next w) e

-- ---- all pairs

-- what a batch comes to, beside the plain one
pub record SameBatch (n dock : ℕ) (ss : List Slot) (list ws t : Words) : Type 0 where
  pub same : (quick_batch n dock ss list ws t).batched ≡ batch n dock ss list t
  pub stays-true : Current (quick_batch n dock ss list ws t).summary (quick_batch n dock ss list ws t).batched.table

-- with a true summary a quick batch comes to what a plain one does, and its summary stays true
pub quick-batch : (n dock : ℕ) (ss : List Slot) (list ws t : Words) → Current ws t → SameBatch n dock ss list ws t
quick-batch n dock [] list ws t c =
    record { same = unfold quick_batch in sym (batch-none n dock list t); stays-true = unfold quick_batch in c }
quick-batch n dock (s ∷ ss) list ws t c =
    let x = insertion_of n s in
    go (written x (length list) dock t) refl
    (λ l. quick-batch n dock ss l (quick_summary x (length list) dock ws t) (quick_table x (length list) dock ws t)
    (quick-true ws t c x (length list) dock))
  where
    go : (w : Written) → written (insertion_of n s) (length list) dock t ≡ w
        → ((l : Words) → SameBatch n dock ss l (quick_summary (insertion_of n s) (length list) dock ws t)
        (quick_table (insertion_of n s) (length list) dock ws t)) → SameBatch n dock (s ∷ ss) list ws t
    go (Err m) e ih =
        let q = quick-stops n dock s ss list ws t m (quick-written ws t c (insertion_of n s) (length list) dock ∙ e) in
        record { same = ap (λ (r : QuickBatched). r.batched) q ∙ sym (batch-stops n dock s ss list t m e); stays-true = rw q c }
    go (Ok w) e ih =
        let filled = 2 * orders_counted w in
        let q = quick-goes n dock s ss list ws t w (quick-written ws t c (insertion_of n s) (length list) dock ∙ e) in
        let h = ih (drop filled (quick_list (insertion_of n s) list dock ws t)) in
        record {
          same =
              ap (λ (r : QuickBatched). r.batched) q ∙ ap (behind 1 w (take filled (quick_list (insertion_of n s) list dock ws t))) h.same
              ∙ rw (quick-list ws t c (insertion_of n s) list dock, quick-table ws t c (insertion_of n s) (length list) dock)
              (sym (batch-goes n dock s ss list t w e));
          stays-true = rw q h.stays-true;
        }
