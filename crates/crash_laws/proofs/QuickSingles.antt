-- A batch with a summary is the quick insertions of the pairs that it took.
use Rattle.std.proofs.Common.{◌≡◌, ℕ, zero, suc, ◌*◌, List, [], ◌∷◌, ◌++◌, length, drop, sym, refl, ap, ◌∙◌, append_assoc, arith}
use mathlib.Core.Option.{some}
use Rattle.std.specs.Prelude.{Ok, Err}
use Rattle.model.specs.declared.Refusal.{Refusal}
use Rattle.model.specs.declared.Counts.{Counts}
use Rattle.model.specs.Results.{Written, refused_with, orders_counted}
use Rattle.model.specs.Table.{Words}
use Rattle.model.specs.Slots.{Slot}
use Rattle.model.specs.Sound.{Sound}
use Rattle.model.specs.Orders.{carried_out}
use Rattle.model.specs.Refusals.{unless_refused}
use Rattle.model.specs.Demand3.{whole, Event, State, both, run_from}
use Rattle.model.specs.Writes.{Call}
use Rattle.model.specs.Batch.{insertion_of, Batched, batch}
use Rattle.model.specs.Batches.{batch_answered}
use Rattle.model.specs.Summary.{quick_number, quick_written, quick_table, quick_list, quick_summary}
use Rattle.model.specs.QuickBatch.{quick_batch}
use Rattle.model.specs.QuickHistories.{quick, Acts, Host, host, quick_after, act_step, run_acts, MayActs, plain}
use Rattle.summary_laws.proofs.Batches.{quick-stops, quick-goes}
use Rattle.crash_laws.specs.QuickSingles.{pair_event, singles, QuickSingles}
use Rattle.crash_laws.proofs.Demand3.{along}
use Rattle.crash_laws.proofs.Batches.{batches}
use Rattle.crash_laws.proofs.QuickHistories.{beside, demand3-quick}

host-is : (x : Host) (u w : Words) → x.state.memory ≡ x.state.working → x.state.working ≡ u → x.summary ≡ some w → x
    ≡ host (both u) (some w)
host-is x u w a b c = λ i. record { state = record { memory = (a ∙ b) i; working = b i }; summary = c i }

-- ---- one pair

module _ (n dock : ℕ) (s : Slot) (ss : List Slot) (list ws u : Words) where
  abbrev x : Call
  x = insertion_of n s

  -- those of the pairs after it
  abbrev rest : (used : ℕ) → Acts
  rest used = singles n dock ss (drop used (quick_list x list dock ws u)) (quick_summary x (length list) dock ws u)
      (quick_table x (length list) dock ws u)

  abbrev next : Written → Acts
  next w = elim w [ Ok w ↦ rest (2 * orders_counted w) ++ (quick (pair_event n dock list s) ∷ []) | Err r ↦ [] ]

  singles-stop : (r : Refusal) → quick_written (insertion_of n s) (length list) dock ws u ≡ Err r → singles n dock (s ∷ ss) list ws u ≡ []
  unfolding singles
  singles-stop r e = ap (λ (w : Written). next w) e

  singles-go : (w : Counts) → quick_written (insertion_of n s) (length list) dock ws u ≡ Ok w → singles n dock (s ∷ ss) list ws u
      ≡ rest (2 * orders_counted w) ++ (quick (pair_event n dock list s) ∷ [])
  unfolding singles
  singles-go w e = ap (λ (w : Written). next w) e

  accepted : (w : Counts) → quick_written (insertion_of n s) (length list) dock ws u ≡ Ok w
      → quick_number (insertion_of n s) (length list) dock ws u ≡ 0
  unfolding quick_written
  accepted w e = go (quick_number x (length list) dock ws u) _ e
    where
      go : (m : ℕ) (done : Written) → unless_refused m done (refused_with m) ≡ Ok w → m ≡ 0
      go zero done e = refl
      go (suc m) done e = let z : ◌≡◌ {A = ℕ} 0 1 = cc in absurd (omega arith)

-- ---- a history that goes on with it

module _ (t : Words) (q : Sound t) where
  -- memory is the working copy
  same-copy : (h : Acts) → MayActs (both t) h → (run_acts (both t) h).state.memory ≡ (run_acts (both t) h).state.working
  same-copy h m =
      let b = beside (both t) h m in
      ap (λ (s : State). s.memory) b.state ∙ (along t q (plain h) b.may).0 ∙ sym (ap (λ (s : State). s.working) b.state)

  module _ (n dock : ℕ) (s : Slot) (list ws u : Words) (h : Acts) (m : MayActs (both t) h)
      (is : run_acts (both t) h ≡ host (both u) (some ws)) where
    abbrev e : Event
    e = pair_event n dock list s

    may-go : MayActs (both t) (quick e ∷ h)
    unfolding MayActs
    may-go = (m, rw is (λ z. tt))

    after-is : quick_number (insertion_of n s) (length list) dock ws u ≡ 0 → run_acts (both t) (quick e ∷ h)
        ≡ quick_after whole ws (both u) e
    unfolding run_acts
    after-is z = ap (act_step (quick e)) is ∙ rw z

    goes-on : quick_number (insertion_of n s) (length list) dock ws u ≡ 0
        → run_acts (both t) (quick e ∷ h)
        ≡ host (both (quick_table (insertion_of n s) (length list) dock ws u))
        (some (quick_summary (insertion_of n s) (length list) dock ws u))
    goes-on z = host-is (run_acts (both t) (quick e ∷ h)) _ _ (same-copy (quick e ∷ h) may-go)
        (ap (λ (x : Host). x.state.working) (after-is z)) (ap (λ (x : Host). x.summary) (after-is z))

  -- what the singles come to
  record Come (n dock : ℕ) (ss : List Slot) (list ws u : Words) (h : Acts) : Type 0 where
    may : MayActs (both t) (singles n dock ss list ws u ++ h)
    come : run_acts (both t) (singles n dock ss list ws u ++ h)
        ≡ host (both (quick_batch n dock ss list ws u).batched.table) (some (quick_batch n dock ss list ws u).summary)

  all-come : (n dock : ℕ) (ss : List Slot) (list ws u : Words) (h : Acts) → MayActs (both t) h → run_acts (both t) h
      ≡ host (both u) (some ws) → Come n dock ss list ws u h
  all-come n dock [] list ws u h m is = record { may = unfold singles in m; come = unfold singles quick_batch in is }
  all-come n dock (s ∷ ss) list ws u h m is =
      go (quick_written (insertion_of n s) (length list) dock ws u) refl
      (λ l z. all-come n dock ss l (quick_summary (insertion_of n s) (length list) dock ws u)
      (quick_table (insertion_of n s) (length list) dock ws u) (quick (pair_event n dock list s) ∷ h)
      (may-go n dock s list ws u h m is) (goes-on n dock s list ws u h m is z))
    where
      go : (w : Written) → quick_written (insertion_of n s) (length list) dock ws u ≡ w
          → ((l : Words) → quick_number (insertion_of n s) (length list) dock ws u ≡ 0
          → Come n dock ss l (quick_summary (insertion_of n s) (length list) dock ws u)
          (quick_table (insertion_of n s) (length list) dock ws u) (quick (pair_event n dock list s) ∷ h))
          → Come n dock (s ∷ ss) list ws u h
      go (Err k) e ih = record {
        may = rw (singles-stop n dock s ss list ws u k e) m;
        come = rw (singles-stop n dock s ss list ws u k e, quick-stops n dock s ss list ws u k e) is;
      }
      go (Ok w) e ih =
          let filled = 2 * orders_counted w in
          let r = ih (drop filled (quick_list (insertion_of n s) list dock ws u)) (accepted n dock s ss list ws u w e) in
          let acts = singles n dock ss (drop filled (quick_list (insertion_of n s) list dock ws u))
          (quick_summary (insertion_of n s) (length list) dock ws u) (quick_table (insertion_of n s) (length list) dock ws u) in
          let shape : singles n dock (s ∷ ss) list ws u ++ h ≡ acts ++ (quick (pair_event n dock list s) ∷ h) =
          ap (λ (x : Acts). x ++ h) (singles-go n dock s ss list ws u w e) ∙ append_assoc acts (quick (pair_event n dock list s) ∷ []) h in
          record { may = rw shape r.may; come = ap (run_acts (both t)) shape ∙ r.come ∙ rw (quick-goes n dock s ss list ws u w e) }

  -- ---- the carry-out of the whole list gives the batch's table

  module _ (h : Acts) (m : MayActs (both t) h) (n dock : ℕ) (ss : List Slot) (list : Words) where
    gives-at : (s : State) → s ≡ run_from (both t) (plain h)
        → (let r = batch n dock ss list s.working in carried_out (batch_answered r) r.list s.memory ≡ r.table)
    gives-at s e = rw e ((batches t q).1 (plain h) (beside (both t) h m).may n dock ss list).0.gives

    gives : (r : Batched) → r ≡ batch n dock ss list (run_acts (both t) h).state.working
        → carried_out (batch_answered r) r.list (run_acts (both t) h).state.memory ≡ r.table
    gives r e = rw e (gives-at (run_acts (both t) h).state (beside (both t) h m).state)

pub quick-singles : QuickSingles
quick-singles t q h m ws e n dock ss list =
    let s = (run_acts (both t) h).state in
    let start = host-is (run_acts (both t) h) s.working ws (same-copy t q h m) refl e in
    let c = all-come t q n dock ss list ws s.working h m start in
    let same = (((demand3-quick t q).1 h m).next ws e).batches n dock ss list in
    let r = quick_batch n dock ss list ws s.working in (
      c.may,
      c.come ∙ ap (λ (memory : Words). host (record { memory = memory; working = r.batched.table }) (some r.summary))
          (sym (gives t q h m n dock ss list r.batched same)),
    )
