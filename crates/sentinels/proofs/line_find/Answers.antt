-- `sentinels::line_find` meets its contract.
use Rattle.std.proofs.Common.{eqb, rules}
use Rattle.sentinels.proofs.Reading.{key-taken}
use Rattle.sentinels.proofs.line_find.Goals as goal

pub returns : goal.returns
returns c = key-taken c.args.key _ _ _ (c.line_slot.ensures (λ x. eqb x c.args.key) (λ k b h p. search rules)) (search rules)
