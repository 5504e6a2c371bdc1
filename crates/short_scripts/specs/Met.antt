-- What an action, a script meets.
use Rattle.std.specs.Prelude.{◌≡◌, Bool, not, ◌||◌, List, map, ℕ, ◌≤◌, length}
use Rattle.model.specs.Table.{Words, empty}
use Rattle.model.specs.Slots.{Slot}
use Rattle.model.specs.Reached.{filter, map_of}
use Rattle.model.specs.Orders.{carried_out}
use Rattle.model.specs.Writes.{numbers, Call}
use Rattle.model.specs.Refusals.{unless_refused, refusal, table_after}
use Rattle.model.specs.Scripts.{Script, call_of, agrees, along, table_count, bad_count}
use Rattle.short_scripts.specs.declared.Met.{Met}
use Rattle.short_scripts.specs.Held.{Held}
use Rattle.short_scripts.specs.Held.{pairs}

-- a table that agrees with neither map
abbrev pub is_bad : (old new : List Slot) → Words → Bool
is_bad old new u = not (agrees old u || agrees new u)

-- how many there are after c orders of a list, after c + 1, .., n counts
unfoldable pub bad_among : (old new : List Slot) → (table list : Words) → (c n : ℕ) → ℕ
bad_among old new t l c n = length (filter (is_bad old new) (map (λ (c : ℕ). carried_out c l t) (numbers c n)))

-- what is counted at an action
abbrev pub at_action : (Call → Words → ℕ) → (action : ℕ) → Words → ℕ
at_action count a t = unless_refused (refusal (call_of a) 2560 0 t) (count (call_of a) t) 0

-- what an action on table t met, and the map after it
pub record Acts (action : ℕ) (t : Words) (r : Met) (h : Held) : Type 0 where
  pub tables-are : r.tables ≡ at_action table_count action t
  pub bad-are : r.bad ≡ at_action bad_count action t
  pub tables-few : r.tables ≤ 1122
  pub bad-few : r.bad ≤ 1122
  pub map-is : map_of 1 (table_after (call_of action) 2560 0 t) ≡ pairs h

-- what a script met
pub record Runs (s : Script) (r : Met) : Type 0 where
  pub tables-are : r.tables ≡ along table_count s (empty 4)
  pub bad-are : r.bad ≡ along bad_count s (empty 4)
  pub tables-few : r.tables ≤ 4488
  pub bad-few : r.bad ≤ 4488
