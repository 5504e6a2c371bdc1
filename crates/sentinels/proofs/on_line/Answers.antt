-- `sentinels::on_line` meets its contract.
use Rattle.std.proofs.Common.{sym, ◌∙◌, arith}
use Rattle.sentinels.proofs.Searching.{few-lines, on-none, on-some}
use Rattle.sentinels.proofs.on_line.Goals as goal

pub returns-in_err-j : goal.returns-in_err-j
returns-in_err-j c = c.from_residual.ensures ∙ on-none c.args.table.now c.args.m c.args.key _ (sym c.line_for.ensures ∙ c.in_err-j.was)

pub overflow_mul-j : goal.overflow_mul-j
overflow_mul-j c = omega (arith, few-lines c.args.three.now c.args.key _ (sym c.line_for.ensures ∙ c.in_ok-j.was))

pub line_find-requires : goal.line_find-requires
line_find-requires c = omega (arith, few-lines c.args.three.now c.args.key _ (sym c.line_for.ensures ∙ c.in_ok-j.was))

pub returns : goal.returns
returns c = on-some c.args.table.now c.args.m c.requires c.args.key _ _ _ _ (sym c.line_for.ensures ∙ c.in_ok-j.was)
    c.words.ensures c.line_find.ensures
