-- What a quick deletion finds before its first store, and the stores by that.
use Rattle.std.specs.Prelude.{◌≡◌, Bool, true, cond, ◌&&◌, List, [], ◌++◌, ℕ, ltb, length}
use Rattle.model.specs.Table.{Words, nodes, in_range, has_node}
use Rattle.model.specs.Slots.{node_view, view}
use Rattle.model.specs.Search.{first_with}
use Rattle.model.specs.Orders.{Store, apply}
use Rattle.model.specs.Shifts.{place_of}
use Rattle.model.specs.Writes.{shift_out_at, free_stores, child_before, standing}
use Rattle.model.specs.Refusals.{unless_refused}
use Rattle.model.specs.Summary.{leaf_for, frees, neighbour_ok, quick_list_number}
use Rattle.slots.specs.Held.{held_by}
use Rattle.quick_delete.specs.declared.Found.{Found}

-- parent p has a slot for the fence of leaf x, and the child before x lies in the table
unfoldable pub neighbour_there : Words → (p x : ℕ) → Bool
neighbour_there t p x =
    let ss = (node_view t p).shown in
    ltb (place_of (node_view t x).fence ss) (length ss) && in_range (nodes t) (child_before (view t) p x)

-- ---- what is found

-- 2, 17, 26, and 4 by the way or by the neighbour
unfoldable pub found_number : (n : ℕ) → (ws t : Words) → (k : ℕ) → ℕ
found_number n ws t k = let r = quick_list_number n ws t k in unless_refused r (cond (neighbour_ok n t k) 0 4) r

unfoldable pub found_for : (n : ℕ) → Words → (k : ℕ) → Found
found_for n t k = record {
  leaf = leaf_for n t k;
  parent = standing n t 1 k;
  frees = frees n t k;
  pointer = held_by (first_with k (node_view t (leaf_for n t k)).shown);
}

-- ---- the stores

-- the slot of k out of the leaf; then the leaf is freed, if it is one to be freed
unfoldable pub taken_out : Words → Found → (k : ℕ) → List Store
taken_out t f k = let ss = shift_out_at t f.leaf k in ss ++ cond f.frees (free_stores (apply ss t) f.parent f.leaf) []

-- leaf x can be freed under p
pub record Freeable (t : Words) (p x : ℕ) : Type 0 where
  pub parent : has_node t p ≡ true
  pub plain : (node_view t p).hidden ≡ 0
  pub neighbour : has_node t (child_before (view t) p x) ≡ true

-- they can be made
pub record Takes (t : Words) (f : Found) (k : ℕ) : Type 0 where
  pub leaf : has_node t f.leaf ≡ true
  pub plain : (node_view t f.leaf).hidden ≡ 0
  pub free : f.frees ≡ true → Freeable (apply (shift_out_at t f.leaf k) t) f.parent f.leaf
