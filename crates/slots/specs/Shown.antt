-- What an iterator over shown slots has left.
use Rattle.std.specs.Prelude.{List, ℕ}
use Rattle.model.specs.Slots.{Slot, slot}
use Rattle.slots.specs.declared.shown.Shown.{Shown}
use Rattle.slots.specs.Scan.{shown_from}

abbrev pub slot_of : ℕ × ℕ → Slot
slot_of x = slot x.0 x.1

abbrev pub shown_left : Shown → List Slot
shown_left s = shown_from s.before s.slots.now 0
