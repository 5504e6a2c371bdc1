-- `script_bytes::with_digit` meets its contract.
use mathlib.Core.Path.{sym, ap, ◌∙◌}
use Rattle.script_bytes.specs.Line.{with_number, with_digit}
use Rattle.script_bytes.proofs.with_digit.Goals as goal

pub returns-in-Some : goal.returns-in-Some
unfolding with_digit
returns-in-Some c = ap (with_number c.args.s.now) (sym c.in-Some.is ∙ c.next_number.ensures)

pub returns-in-None : goal.returns-in-None
unfolding with_digit
returns-in-None c = c.moved.ensures ∙ ap (with_number c.args.s.now) (sym c.in-None.is ∙ c.next_number.ensures)
