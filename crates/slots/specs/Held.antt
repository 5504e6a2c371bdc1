-- The slot that holds a key, as its pointer; 0, which no slot in use has, for none.
use Rattle.std.proofs.Math.Option.{Option, none, some}
use Rattle.std.specs.Prelude as rust
use Rattle.std.specs.Prelude.{ℕ, Some, None}
use Rattle.model.specs.Slots.{Slot}

abbrev pub pointer_in : Option Slot → ℕ
pointer_in none = 0
pointer_in (some s) = s.pointer

abbrev pub held_by : Option Slot → rust.Option ℕ
held_by none = None
held_by (some s) = Some s.pointer
