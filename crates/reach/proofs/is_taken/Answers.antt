-- `reach::is_taken` meets its contract, by the tests that led to each return.
use Rattle.std.proofs.Common.{◌∙◌, arith, eq-eqb}
use Rattle.two_laws.proofs.SameTwo.{first-there, second-there}
use Rattle.two_laws.proofs.CollectionTwo.{collection-sound}
use Rattle.reach.proofs.Members.{sound-words, taken-first, taken-alone, taken-second}
use Rattle.reach.proofs.is_taken.Goals as goal

pub bounds-table-3 : goal.bounds-table-3
bounds-table-3 c = omega (arith, sound-words _ c.requires)

pub bounds-table-1 : goal.bounds-table-1
bounds-table-1 c = omega (arith, sound-words _ c.requires)

pub is_reached-requires : goal.is_reached-requires
is_reached-requires c = collection-sound 1 _ c.requires (first-there _)

pub is_reached-requires-then-second-ne0 : goal.is_reached-requires-then-second-ne0
is_reached-requires-then-second-ne0 c = collection-sound 2 _ c.requires (second-there _ c.if-second-ne0.true)

pub returns-then-is_reached : goal.returns-then-is_reached
returns-then-is_reached c = c.if-is_reached.true ∙ taken-first _ _ _ c.is_reached.ensures c.if-is_reached.true

pub returns-then-second-ne0 : goal.returns-then-second-ne0
returns-then-second-ne0 c =
    taken-second _ _ _ c.is_reached.ensures c.if-is_reached.false c.if-second-ne0.true _ c.is_reached-then-second-ne0.ensures

pub returns-else-second-ne0 : goal.returns-else-second-ne0
returns-else-second-ne0 c =
    rw (eq-eqb _ _ c.if-second-ne0.false) (taken-alone _ _ _ c.is_reached.ensures c.if-is_reached.false c.if-second-ne0.false)
