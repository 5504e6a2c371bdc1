-- What is read of the nodes of a table, before and after a change of one node.
use Rattle.std.proofs.Common.{◌≡◌, ℕ, true, ◌≢◌, List, [], ap, ◌∙◌}
use Rattle.model.specs.Slots.{Slot, NodeView, View}
use Rattle.list_laws.proofs.Tools.{at-or-off}

-- one field, as a function of the node's number
abbrev pub left_of : View → ℕ → ℕ
left_of v n = (v.node n).left

-- the sibling, as a function of the node's number
abbrev pub sibling_of : View → ℕ → ℕ
sibling_of v n = (v.node n).sibling

-- the level, as a function of the node's number
abbrev pub level_of : View → ℕ → ℕ
level_of v n = (v.node n).level

-- the fence, as a function of the node's number
abbrev pub fence_of : View → ℕ → ℕ
fence_of v n = (v.node n).fence

-- the shown slots, as a function of the node's number
abbrev pub shown_of : View → ℕ → List Slot
shown_of v n = (v.node n).shown

-- how many slots are hidden, as a function of the node's number
abbrev pub hidden_of : View → ℕ → ℕ
hidden_of v n = (v.node n).hidden

-- equal nodes, field by field
module _ {m n : NodeView} (e : m ≡ n) where
  -- equal nodes have the same left
  pub left-eq : m.left ≡ n.left
  left-eq = ap (λ (x : NodeView). x.left) e

  -- equal nodes have the same sibling
  pub sibling-eq : m.sibling ≡ n.sibling
  sibling-eq = ap (λ (x : NodeView). x.sibling) e

  -- equal nodes have the same level
  pub level-eq : m.level ≡ n.level
  level-eq = ap (λ (x : NodeView). x.level) e

  -- equal nodes have the same fence
  pub fence-eq : m.fence ≡ n.fence
  fence-eq = ap (λ (x : NodeView). x.fence) e

  -- equal nodes show the same slots
  pub shown-eq : m.shown ≡ n.shown
  shown-eq = ap (λ (x : NodeView). x.shown) e

  -- equal nodes hide as many slots
  pub hidden-eq : m.hidden ≡ n.hidden
  hidden-eq = ap (λ (x : NodeView). x.hidden) e

  -- equal nodes are both clear or neither is
  pub clear-eq : m.clear ≡ n.clear
  clear-eq = ap (λ (x : NodeView). x.clear) e

-- g' is g but at node x, which is n there
pub record ButAt (g g' : ℕ → NodeView) (x : ℕ) (n : NodeView) : Type 0 where
  pub else : (m : ℕ) → m ≢ x → g' m ≡ g m
  pub here : g' x ≡ n

-- g' is g but at node x
abbrev pub AllBut : (g g' : ℕ → NodeView) → ℕ → Type 0
AllBut g g' x = ButAt g g' x (g' x)

-- a node that shows ss and hides h slots
abbrev pub showing : NodeView → List Slot → ℕ → NodeView
showing n ss h = record { left = n.left; sibling = n.sibling; level = n.level; fence = n.fence; shown = ss; hidden = h; clear = n.clear }

-- a node with these header words and shown slots; nothing is hidden, and the rest is 0
abbrev pub new_node : (left sibling level fence : ℕ) → List Slot → NodeView
new_node left sibling level fence ss =
    record { left = left; sibling = sibling; level = level; fence = fence; shown = ss; hidden = 0; clear = true }

-- all but its slots
abbrev pub bare : NodeView → NodeView
bare n = showing n [] 0

-- a node with sibling b
abbrev pub joining : NodeView → ℕ → NodeView
joining n b = record { left = n.left; sibling = b; level = n.level; fence = n.fence; shown = n.shown; hidden = n.hidden; clear = n.clear }

-- what the change leaves at x stays everywhere
pub stays-all : {A : Type 0} (f : NodeView → A) (g g' : ℕ → NodeView) (x : ℕ) (n : NodeView) → ButAt g g' x n → f n ≡ f (g x)
    → (m : ℕ) → f (g' m) ≡ f (g m)
stays-all f g g' x n c e = at-or-off (λ (m : ℕ). f (g' m) ≡ f (g m)) x (ap f c.here ∙ e) (λ m z. ap f (c.else m z))
