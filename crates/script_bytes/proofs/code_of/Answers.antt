-- `script_bytes::code_of` meets its contract.
use Rattle.std.proofs.Common.{sym, eq-eqb, ne_eqb}
use Rattle.model.specs.declared.Refusal.TheVariants.{NoCode}
use Rattle.model.proofs.Numbers.{refused-by}
use Rattle.script_bytes.specs.Line.{code_of}
use Rattle.script_bytes.proofs.code_of.Goals as goal

pub returns-then-code-ne12 : goal.returns-then-code-ne12
unfolding code_of
returns-then-code-ne12 c = rw (ne_eqb _ _ c.if-code-ne12.true) (sym (refused-by NoCode))

pub returns : goal.returns
unfolding code_of
returns c = rw (eq-eqb _ _ c.if-code-ne12.false) c.parse.ensures
