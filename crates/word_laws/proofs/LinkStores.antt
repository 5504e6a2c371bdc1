-- The store that links a node: a sibling's number.
use Rattle.std.proofs.Common.{◌≡◌, ℕ, suc, ◌+◌, true, ◌&&◌, eqb, length, set, add-one, arith}
use Rattle.model.specs.Table.{Words, at, has_node, node_start, node, spare, all_zero}
use Rattle.model.specs.Slots.{in_use, slots_of, shown, hidden_slots, clear_in, used, node_view}
use Rattle.model.specs.Orders.{put}
use Rattle.view_laws.proofs.NodeViews.{ButAt, joining}
use Rattle.table_laws.proofs.Nodes.{has-node-iff}
use Rattle.word_laws.proofs.Outside.{Outside, outside-start, outside-store, outside-wider}
use Rattle.word_laws.proofs.Frames.{SameHeader, left-same, level-same, fence-same, spare-same, slots-same, Elsewhere, else-header}
use Rattle.word_laws.proofs.Frames.{view-else, sibling-stored}

module _ (t : Words) (a b : ℕ) (h : has_node t a ≡ true) where
  abbrev t' : Words
  t' = set t (node_start a + 1) b

  outside : Outside (node_start a + 1) 1 t t'
  outside = outside-store (node_start a + 1) 1 t t (put (node_start a + 1) b) (omega arith) (outside-start (node_start a + 1) 1 t)

  elsewhere : Elsewhere a t t'
  elsewhere = outside-wider (node_start a + 1) 1 (node_start a) 32 t t' (omega arith) (omega arith) outside

  lefts : (node t' a).left ≡ (node t a).left
  unfolding node_start
  lefts = left-same (node_start a + 1) 1 t t' outside a (omega arith)

  slots : (node t' a).slots ≡ (node t a).slots
  unfolding node_start
  slots = slots-same (node_start a + 1) 1 t t' outside a (omega arith)

  spares : spare t' a ≡ spare t a
  unfolding node_start
  spares = spare-same (node_start a + 1) 1 t t' outside a (omega arith)

  view' : ButAt (node_view t) (node_view t') a (joining (node_view t a) b)
  unfolding node_start used clear_in
  view' = record {
    else = (view-else t t' a elsewhere ((has-node-iff t a).0 h).0).else;
    here = λ i. record {
      left = lefts i;
      sibling = sibling-stored t a b h i;
      level = level-same (node_start a + 1) 1 t t' outside a (omega arith) i;
      fence = fence-same (node_start a + 1) 1 t t' outside a (omega arith) i;
      shown = shown (lefts i) (in_use (slots_of (slots i)));
      hidden = length (hidden_slots (lefts i) (in_use (slots_of (slots i))));
      clear = all_zero (spares i) && eqb (at (slots i) 23) 0;
    };
  }

  -- A's sibling := B
  pub sibling-view : ButAt (node_view t) (node_view (set t (suc (node_start a)) b)) a (joining (node_view t a) b)
  sibling-view = rw add-one at view'

  -- storing a sibling in node a keeps the header
  pub sibling-header : SameHeader t (set t (suc (node_start a)) b)
  sibling-header = rw (add-one (node_start a)) at (else-header t t' a elsewhere)
