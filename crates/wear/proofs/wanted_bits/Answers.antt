-- `wear::wanted_bits` meets its contract.
use Rattle.std.proofs.Common.{not, ap, arith, eq-eqb, ne_eqb}
use Rattle.wear.proofs.Bits.{bits-marked, bits-unmarked}
use Rattle.wear.proofs.wanted_bits.Goals as goal

pub returns-then-this-ne0 : goal.returns-then-this-ne0
returns-then-this-ne0 g c = bits-marked _ _ (ap not (ne_eqb g.row.WANTED 0 c.if-this-ne0.true))

pub returns : goal.returns
returns g c = bits-unmarked _ _ (ap not (eq-eqb g.row.WANTED 0 c.if-this-ne0.false)) (omega (arith, c.ranges.word))
