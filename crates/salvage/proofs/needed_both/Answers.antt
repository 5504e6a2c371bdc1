-- `salvage::needed_both` meets its contract.
use native.Mathlib.Omega.{arith}
use Rattle.pack_laws.proofs.Counts.{needed-few}
use Rattle.salvage.proofs.Bounds.{needed-alone, needed-beside}
use Rattle.salvage.proofs.needed_both.Goals as goal

pub returns-then-table-eq0 : goal.returns-then-table-eq0
returns-then-table-eq0 c = needed-alone _ _ _ _ c.needed-first.ensures c.if-table-eq0.true

pub overflow_add-result : goal.overflow_add-result
overflow_add-result c = let a = needed-few c.args.pairs.one in
    let b = needed-few c.args.pairs.two in
    omega (arith, c.requires.1, c.requires.2, a, b, c.needed-first.ensures, c.needed.ensures)

pub returns : goal.returns
returns c = needed-beside _ _ _ _ _ c.needed-first.ensures c.needed.ensures c.if-table-eq0.false
