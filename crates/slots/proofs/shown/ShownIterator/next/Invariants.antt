-- `next` of `slots::Shown` meets its contract. What is left stays the same until a slot is given.
use Rattle.std.proofs.Common.{◌≡◌, length}
use Rattle.slots.specs.Shown.{shown_left}
use Rattle.slots.proofs.shown.ShownIterator.next.Given as goal

abbrev pub invariant-loop-self : goal.invariant-loop-self
invariant-loop-self l = shown_left l.self ≡ shown_left l.initial.self

abbrev pub decreases-loop-self : goal.decreases-loop-self
decreases-loop-self l = length l.self.slots.now
