-- The action with a number.
use Rattle.std.specs.Prelude.{cond, ℕ}
use Rattle.model.specs.Scripts.{inserts, action_key}
use Rattle.short_scripts.specs.declared.Action.{Action}
use Rattle.short_scripts.specs.declared.Action.TheVariants.{Insert, Delete}

abbrev pub action_of : ℕ → Action
action_of n = cond (inserts n) (Insert (action_key n)) (Delete (action_key n))
