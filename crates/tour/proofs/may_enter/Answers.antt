-- `tour::may_enter` meets its contract.
use Rattle.std.proofs.Common.{sym, ◌∙◌, arith}
use Rattle.tree_laws.proofs.Rows.{range-iff}
use Rattle.tour.proofs.may_enter.Goals as goal

pub has-requires : goal.has-requires
has-requires c = omega (arith, (range-iff _ _).0 (sym c.in_range.ensures ∙ c.if-in_range.true))
