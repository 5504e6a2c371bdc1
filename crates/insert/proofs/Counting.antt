-- The count of the nodes that are reached after an accepted insertion.
use Rattle.std.proofs.Common.{◌≡◌, ℕ, ◌+◌, ◌≤◌, cond, length, ap, ◌∙◌, arith, ltb-false}
use Rattle.model.specs.Table.{Words}
use Rattle.model.specs.Reached.{reached_all}
use Rattle.model.specs.Orders.{apply}
use Rattle.model.specs.Writes.{unreachable, repaired, insertion, stores_of}
use Rattle.model.specs.Refusals.{too_few, refusal, table_after}
use Rattle.table_laws.proofs.Header.{header-iff}
use Rattle.two_laws.proofs.AcceptedTwo.{accepted-iff}
use Rattle.two_laws.proofs.JudgedTwo.{unreachable-later}
use Rattle.two_laws.proofs.CollectionTwo.{unreachable-all}
use Rattle.batch_laws.proofs.Taking.{takes, reached-after}
use Rattle.reach.specs.declared.Run.{Run}
use Rattle.insert.specs.Tests.{run_of}

module _ (o k r c words dock : ℕ) (t : Words) (ok : refusal (insertion o k r c) words dock t ≡ 0) {run : Run}
    (e : run ≡ run_of o (repaired t) k) {n : ℕ} (f : n ≡ length (reached_all t)) where
  taking : run.length + cond run.root 1 0 ≡ takes o (repaired t) k
  taking = ap (λ (x : Run). x.length + cond x.root 1 0) e

  pub count-low : n + (run.length + cond run.root 1 0) ≤ 65535
  unfolding too_few
  count-low =
      let a = (accepted-iff (insertion o k r c) words dock t).0 ok in
      let room : takes o (repaired t) k ≤ length (unreachable (repaired t)) = ltb-false _ _ a.allows.enough in
      omega (arith, taking, room, ap length (unreachable-later t a.sound), unreachable-all t a.sound, ((header-iff t).0 a.header).size.few)

  pub count-after : {m : ℕ} → m ≡ n + (run.length + cond run.root 1 0) → {t' : Words} → t' ≡ table_after (insertion o k r c) words dock t
      → m ≡ length (reached_all t')
  unfolding table_after
  count-after {m} g {t'} q =
      let z : t' ≡ apply (stores_of (insertion o k r c) t) t = q ∙ rw ok in
      let h = reached-after o k r c words dock t ok in
      omega (arith, g, taking, h, ap (λ (u : Words). length (reached_all u)) z)
