-- What is read of a node after stores to its slots: its header and spare words are as before, and so is every other node.
use Rattle.std.proofs.Common.{◌≡◌, ℕ, ◌+◌, true, ◌&&◌, eqb, List, length, ap, arith}
use Rattle.model.specs.Table.{Words, has_node, node_start, node, spare, all_zero}
use Rattle.model.specs.Slots.{Slot, in_use, shown, hidden_slots, clear_in, used, NodeView, node_view}
use Rattle.view_laws.proofs.NodeViews.{ButAt}
use Rattle.table_laws.proofs.Nodes.{has-node-iff}
use Rattle.slot_laws.proofs.SlotStores.{pointer_at}
use Rattle.word_laws.proofs.Outside.{outside-wider}
use Rattle.word_laws.proofs.Frames.{left-same, sibling-same, level-same, fence-same, spare-same, Elsewhere, view-else}
use Rattle.word_laws.proofs.SlotWords.{at-pointer}
use Rattle.word_laws.proofs.SlotRuns.{Only}

-- node x of t, were ss its slots
abbrev pub holding : Words → ℕ → List Slot → NodeView
holding t x ss =
    let n = node t x in
    record {
      left = n.left;
      sibling = n.sibling;
      level = n.level;
      fence = n.fence;
      shown = shown n.left (in_use ss);
      hidden = length (hidden_slots n.left (in_use ss));
      clear = all_zero (spare t x) && eqb (pointer_at ss 11) 0;
    }

module _ (t t' : Words) (x : ℕ) (ss : List Slot) (h : has_node t x ≡ true) (o : Only t t' x ss) where
  abbrev slots_start : ℕ
  slots_start = node_start x + 8

  pub only-elsewhere : Elsewhere x t t'
  only-elsewhere = outside-wider slots_start 24 (node_start x) 32 t t' (omega arith) (omega arith) o.outside

  lefts : (node t' x).left ≡ (node t x).left
  unfolding node_start
  lefts = left-same slots_start 24 t t' o.outside x (omega arith)

  useds : used t' x ≡ in_use ss
  unfolding used
  useds = ap in_use o.own

  clears : clear_in t' x ≡ (all_zero (spare t x) && eqb (pointer_at ss 11) 0)
  unfolding node_start clear_in
  clears = rw (spare-same slots_start 24 t t' o.outside x (omega arith), at-pointer 11 (node t' x).slots, o.own)

  pub only-view : ButAt (node_view t) (node_view t') x (holding t x ss)
  unfolding node_start
  only-view = record {
    else = (view-else t t' x only-elsewhere ((has-node-iff t x).0 h).0).else;
    here = λ i. record {
      left = lefts i;
      sibling = sibling-same slots_start 24 t t' o.outside x (omega arith) i;
      level = level-same slots_start 24 t t' o.outside x (omega arith) i;
      fence = fence-same slots_start 24 t t' o.outside x (omega arith) i;
      shown = shown (lefts i) (useds i);
      hidden = length (hidden_slots (lefts i) (useds i));
      clear = clears i;
    };
  }
