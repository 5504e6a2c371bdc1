-- `isrc::character_of` meets its contract.
use Rattle.std.proofs.Common.{sym, arith}
use Rattle.isrc.proofs.Characters.{character-small, character-large}
use Rattle.isrc.proofs.character_of.Goals as goal

pub returns-in-0-to-9 : goal.returns-in-0-to-9
returns-in-0-to-9 c = sym (character-small c.args.d (omega arith))

pub returns-in_default : goal.returns-in_default
returns-in_default c = omega (arith, character-large c.args.d (omega arith))
