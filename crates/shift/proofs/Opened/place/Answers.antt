-- `shift::Opened::place` meets its contract.
use Rattle.std.proofs.Common.{arith}
use Rattle.list_laws.proofs.Slots.{place-length}
use Rattle.shift.specs.Stores.{held}
use Rattle.shift.proofs.Opened.place.Goals as goal

pub returns : goal.returns
returns c = record {
  at_is = c.place-at.ensures.value;
  before_is = c.pointer_before.ensures.last (omega (arith, c.place-at.ensures.value, place-length c.args.k (held c.args.self.now)));
}
