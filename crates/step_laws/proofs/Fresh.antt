-- A node that a settled table does not reach.
use Rattle.std.proofs.Common.{◌≡◌, ℕ, true, false, ◌≢◌, List, sym, ◌∙◌}
use mathlib.Core.List.{Memᴰ}
use Rattle.model.specs.Table.{Words, nodes, in_range, has_node}
use Rattle.model.specs.Slots.{node_view}
use Rattle.model.specs.Reached.{reached}
use Rattle.model.specs.SoundTest.{nothing, elem}
use Rattle.model.specs.Writes.{unreached}
use Rattle.list_laws.proofs.Members.{elem-none}
use Rattle.table_laws.proofs.Nodes.{has-node-head}
use Rattle.change_laws.proofs.Parents.{sibling-reached}
use Rattle.step_laws.proofs.TreeAt.{tree_at, Fine}
use Rattle.tree_laws.proofs.Rows.{not-zero}

module _ (w : ℕ) (ns : List ℕ) where
  -- no tree reaches node b: it is free to hold anything
  pub record Free (t : Words) (b : ℕ) : Type 0 where
    pub range : in_range (nodes t) b ≡ true
    pub unreached : elem b (reached (tree_at w t)) ≡ false
    pub off : elem b ns ≡ false

  pub free-some : (t : Words) (b : ℕ) → Free t b → b ≢ 0
  free-some t b f = not-zero (tree_at w t) b f.range

  pub free-there : (t : Words) (b : ℕ) → Fine w ns t nothing → Free t b → has_node t b ≡ true
  free-there t b s f = has-node-head t b s.header ∙ f.range

  -- it is no reached node, nor a sibling of one
  module _ (t : Words) (b : ℕ) (s : Fine w ns t nothing) (f : Free t b) where
    pub free-other : (n : ℕ) → Memᴰ n (reached (tree_at w t)) → n ≢ b
    free-other n m e = (elem-none b (reached (tree_at w t))).0 f.unreached (rw e at m)

    pub free-sibling : (n : ℕ) → Memᴰ n (reached (tree_at w t)) → (node_view t n).sibling ≢ b
    free-sibling n m e =
        free-other (node_view t n).sibling (sibling-reached (tree_at w t) n s.left.orderly m (λ z. free-some t b f (sym e ∙ z))) e
