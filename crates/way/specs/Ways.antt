-- The way of a quick call, a level at a time.
use Rattle.std.specs.Prelude.{◌≡◌, Bool, true, false, cond, ◌&&◌, ℕ, suc, eqb, length, take, is_some, Option, Some, None}
use Rattle.model.specs.Table.{Words, header_ok, no_collection}
use Rattle.model.specs.Slots.{NodeView, View, view_of, height}
use Rattle.model.specs.Search.{passes, moved, down, locate, path_from, path}
use Rattle.model.specs.SoundTest.{all}
use Rattle.model.specs.Writes.{run_in}
use Rattle.model.specs.Summary.{fit_node, is_there, way_ok}
use Rattle.reach.specs.Runs.{counted}
use Rattle.way.specs.declared.Step.{Step}
use Rattle.way.specs.declared.Way.{Way}

-- how many slots a node shows, if it hides none
unfoldable pub plain_count : NodeView → Option ℕ
plain_count x = cond (eqb x.hidden 0) (Some (length x.shown)) None

-- how many slots a fit node shows
unfoldable pub shown_fit : (ms : Words) → View → ℕ → Option ℕ
shown_fit ms v m = cond (fit_node ms v m) (Some (length (v.node m).shown)) None

abbrev pub step_to : View → (k m : ℕ) → Step
step_to v k m = record { node = m; way = down v m k; shown = length (v.node m).shown }

-- coming to n on level l: the tests pass, and the node that the search stands on is fit
unfoldable pub step_ok : (ms : Words) → View → (l n k : ℕ) → Bool
step_ok ms v l n k = passes v l n && fit_node ms v (moved v n k)

unfoldable pub step_of : (ms : Words) → View → (l n k : ℕ) → Option Step
step_of ms v l n k = cond (step_ok ms v l n k) (Some (step_to v k (moved v n k))) None

-- the running count of full nodes after one that shows so many slots
abbrev pub run_after : (run shown : ℕ) → ℕ
run_after run shown = counted run (eqb shown 11)

-- from node n on level l on, every test passes
abbrev pub ok_from : (ms : Words) → View → (l n k : ℕ) → Bool
ok_from ms v l n k = is_there (locate v l n k) && all (fit_node ms v) (path_from v l n k)

-- the way to the leaf for k: its nodes are those of the path, from the root's level down
pub record Goes (v : View) (k : ℕ) (w : Way) : Type 0 where
  pub top : w.height ≡ height v
  pub stands : take (suc (height v)) w.nodes ≡ path v k
  pub full : w.run ≡ run_in v (path v k)

-- There is a way if every test passes.
pub record Walked (ms : Words) (v : View) (k : ℕ) (r : Option Way) : Type 0 where
  pub tests : is_some r ≡ way_ok ms v k
  pub goes : (w : Way) → r ≡ Some w → Goes v k w

-- A way in collection n of a table whose header is right, along which every test passes.
pub record Along (n : ℕ) (ms t : Words) (k : ℕ) (w : Way) : Type 0 where
  pub header : header_ok t ≡ true
  pub collection : no_collection n t ≡ false
  pub walked : Walked ms (view_of n t) k (Some w)
