-- `isrc::value_of` meets its contract: the character is a digit, or none.
use Rattle.std.proofs.Common.{sym, arith}
use Rattle.isrc.proofs.Characters.{in-digits, in-letters}
use Rattle.isrc.proofs.value_of.Goals as goal

pub overflow_sub-result-in_default : goal.overflow_sub-result-in_default
overflow_sub-result-in_default c = omega (arith, in-letters c.args.c c.requires (λ l h. absurd (omega arith)))

pub returns-in-48-to-57 : goal.returns-in-48-to-57
returns-in-48-to-57 c = sym (in-digits c.args.c (omega arith) (omega arith))

pub returns-in_default : goal.returns-in_default
returns-in_default c = omega (arith, in-letters c.args.c c.requires (λ l h. absurd (omega arith)))
