-- The tests of an insertion from 6 on, by the run of full nodes.
use Rattle.std.specs.Prelude.{Bool, cond, ◌&&◌, ℕ, ◌+◌, eqb, ltb, length, Option, Some, None}
use Rattle.model.specs.Table.{Words}
use Rattle.model.specs.Slots.{View, view_of, height}
use Rattle.model.specs.Reached.{map_of}
use Rattle.model.specs.SoundTest.{Leftover, nothing, hidden_in, missing_in, both_in}
use Rattle.model.specs.Writes.{unreachable, run, root_in_run, insertion}
use Rattle.model.specs.Refusals.{first_number, map_tests}
use Rattle.reach.specs.declared.Run.{Run}

-- the parent that repair will give a slot, if it gives one
abbrev pub parent_of : Leftover → Option ℕ
parent_of nothing = None
parent_of (hidden_in x) = None
parent_of (missing_in p a trailing) = Some p
parent_of (both_in p a) = Some p

-- the run for key k in collection n
abbrev pub run_of : (n : ℕ) → Words → (k : ℕ) → Run
run_of n t k = record { length = run n t k; root = root_in_run n t k }

-- 11 and 10 for a run
abbrev pub high_run : View → Run → Bool
high_run v run = run.root && eqb (height v) 15

abbrev pub few_for : (free : ℕ) → Run → Bool
few_for free run = ltb free (run.length + cond run.root 1 0)

-- the number of the first test from 6 on that holds; 0 if none does
unfoldable pub number_for : (n : ℕ) → Words → (k r c : ℕ) → Run → ℕ
number_for n t k r c run = first_number (map_tests (insertion n k r c) (high_run (view_of n t) run) (few_for (length (unreachable t)) run) (map_of n t))
