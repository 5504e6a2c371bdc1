-- `sentinels::line_key` meets its contract.
use Rattle.std.proofs.Common.{true, rules}
use Rattle.sentinels.proofs.Reading.{any-taken}
use Rattle.sentinels.proofs.line_key.Goals as goal

pub returns : goal.returns
returns c = any-taken _ _ _ (c.line_slot.ensures (λ k. true) (λ k b h p. search rules)) (search rules)
