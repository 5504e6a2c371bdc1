-- What is read of a node that is an empty leaf, as node 1 of the empty table.
use Rattle.std.proofs.Common.{◌≡◌, ℕ, ◌≤◌, true, [], replicate, arith}
use Rattle.model.specs.declared.Node.{Node}
use Rattle.model.specs.Table.{MARK, Words, all_zero, node, spare, empty}
use Rattle.model.specs.Slots.{slots_of, in_use, shown, hidden_slots, used, clear_in, node_view}
use Rattle.view_laws.proofs.NodeViews.{new_node}
use Rattle.table_laws.proofs.Empty.{empty-leaf, empty-spare}

-- what is read of an empty leaf: left MARK, and zeros
abbrev pub empty_leaf : Node
empty_leaf = record { left = MARK; sibling = 0; level = 0; fence = 0; slots = replicate 24 0 }

-- what is read of a node that is an empty leaf
module _ (t : Words) (i : ℕ) (leaf : node t i ≡ empty_leaf) (spares : spare t i ≡ replicate 4 0) where
  shows : (node_view t i).shown ≡ []
  unfolding used slots_of in_use shown
  shows = rw leaf

  hides : (node_view t i).hidden ≡ 0
  unfolding used slots_of in_use hidden_slots
  hides = rw leaf

  clear : (node_view t i).clear ≡ true
  unfolding clear_in all_zero
  clear = rw (spares, leaf)

  -- an empty leaf is on level 0, with fence 0, no sibling and no slots, shown or hidden
  pub leaf-view : node_view t i ≡ new_node MARK 0 0 0 []
  leaf-view = λ j. record {
    left = (leaf j).left;
    sibling = (leaf j).sibling;
    level = (leaf j).level;
    fence = (leaf j).fence;
    shown = shows j;
    hidden = hides j;
    clear = clear j;
  }

module _ (n : ℕ) (low : 1 ≤ n) where
  -- node 1 is an empty leaf
  pub first-leaf : node_view (empty n) 1 ≡ new_node MARK 0 0 0 []
  first-leaf = leaf-view (empty n) 1 (empty-leaf n low) (empty-spare n 1 (omega arith) low)
