-- `sentinels::fill` meets its contract. The loop keeps that the words of the nodes before n are set.
use Rattle.std.proofs.Common.{◌≡◌, ℕ, ◌*◌, ltb, length}
use Rattle.model.specs.Table.{nodes}
use Rattle.model.specs.Sentinels.{set_anew}
use Rattle.sentinels.proofs.fill.Given as goal

abbrev pub invariant-loop-n : goal.invariant-loop-n
invariant-loop-n l = (length l.words ≡ 3 * nodes l.table) × (l.words ≡ set_anew (λ (m : ℕ). ltb m l.n) l.table l.initial.words)
