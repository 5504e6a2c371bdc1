-- What is read of the nodes of a table does not depend on the root that the reading started from.
use Rattle.std.proofs.Common.{◌≡◌, ℕ, refl}
use mathlib.Core.Option.{Option, none, some}
use Rattle.model.specs.Table.{Words}
use Rattle.model.specs.Slots.{view_from}
use Rattle.model.specs.Search.{below, moved, on_level, passes, locate, path_from, kept, next_from, answer_in}
use Rattle.model.specs.SoundTest.{room}

module _ (t : Words) (r q : ℕ) where
  -- from whichever root a table is seen, a node keeps the same slots
  pub any-kept : (n : ℕ) → kept (view_from t r) n ≡ kept (view_from t q) n
  unfolding kept below
  any-kept n = refl

  -- from whichever root a table is seen, a search that comes to n finds the same leaf
  pub any-locate : (l n k : ℕ) → locate (view_from t r) l n k ≡ locate (view_from t q) l n k
  unfolding locate passes on_level moved below
  any-locate l n k = refl

  -- from whichever root a table is seen, a search that comes to n stands on the same nodes
  pub any-path : (l n k : ℕ) → path_from (view_from t r) l n k ≡ path_from (view_from t q) l n k
  unfolding path_from moved below
  any-path l n k = refl

  -- from whichever root a table is seen, a search answers the same from the leaf that it found
  pub any-answer : (k : ℕ) (n : Option ℕ) → answer_in (view_from t r) k n ≡ answer_in (view_from t q) k n
  unfolding next_from passes on_level kept below
  any-answer k none = refl
  any-answer k (some n) = refl

  -- from whichever root a table is seen, the test whether a node has room for a slot answers the same
  pub any-room : (n : ℕ) → room (view_from t r) n ≡ room (view_from t q) n
  unfolding room
  any-room n = refl
