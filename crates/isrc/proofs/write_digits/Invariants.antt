-- The digits that are still to be written, then what is written, are the whole.
use Rattle.std.proofs.Common.{◌≡◌, ◌++◌, map, length, drop}
use Rattle.model.specs.Codes.{character, digits}
use Rattle.isrc.proofs.write_digits.Given as goal

abbrev pub invariant-loop-i : goal.invariant-loop-i
invariant-loop-i l = map character (digits l.base l.i l.left) ++ drop l.i l.text ≡ map character (digits l.base (length l.initial.text) l.x)
