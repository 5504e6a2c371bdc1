-- `quick_delete::neighbour_there` meets its contract.
use native.Mathlib.Omega.{arith}
use Rattle.table_laws.proofs.Header.{header-iff}
use Rattle.quick_delete.proofs.Deleting.{at-in, slot-missing, slot-there}
use Rattle.quick_delete.proofs.neighbour_there.Goals as goal

pub bounds-table-2 : goal.bounds-table-2
bounds-table-2 c = omega (arith, ((header-iff _).0 c.requires.table_value).size.long)

pub returns-then-at-count : goal.returns-then-at-count
returns-then-at-count c =
    let q = c.read-parent.ensures in
    let z = c.requires.p_value in
    let f = c.word.ensures in
    let a = c.place-at.ensures.value in
    slot-there _ _ _ _ q z _ _ f a _ c.count.ensures.value c.if-at-count.true _ _
    (c.pointer_before-neighbour.ensures.last (at-in _ _ _ _ q z _ _ f a)) c.in_range.ensures

pub returns-else-at-count : goal.returns-else-at-count
returns-else-at-count c =
    slot-missing _ _ _ _ c.read-parent.ensures c.requires.p_value _ _ c.word.ensures c.place-at.ensures.value _
    c.count.ensures.value c.if-at-count.false
