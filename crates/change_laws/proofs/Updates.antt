-- The changes of one node's view that the writes make: its hidden slots, its shown slots, its sibling; and another root.
use Rattle.std.proofs.Common.{◌≡◌, ℕ, true, false, eqb, ◌≢◌, List, sym, refl, ap, ◌∙◌, eq-eqb, ne_eqb}
use Rattle.model.specs.Slots.{Slot, NodeView, View}
use Rattle.list_laws.proofs.Tools.{at-or-off}
use Rattle.view_laws.proofs.NodeViews.{sibling_of, shown_of, hidden_of, ButAt, showing, joining}

-- the function g with the value a at x
unfoldable pub update {ℓ} : {A : Type ℓ} → (ℕ → A) → ℕ → A → ℕ → A
update g x a n = elim (eqb n x) [ true ↦ a | false ↦ g n ]

-- a function given the value a at x has it there
pub update-at {ℓ} : {A : Type ℓ} (g : ℕ → A) (x : ℕ) (a : A) → update g x a x ≡ a
unfolding update
update-at g x a = rw (eq-eqb x x refl, update)

-- a function given another value at x keeps its value at every other number
pub update-off {ℓ} : {A : Type ℓ} (g : ℕ → A) (x : ℕ) (a : A) (n : ℕ) → n ≢ x → update g x a n ≡ g n
unfolding update
update-off g x a n z = rw (ne_eqb n x z, update)

-- two functions that agree everywhere but at x, where the second is a
pub update-is : {A : Type 0} (g h : ℕ → A) (x : ℕ) (a : A) → h x ≡ a → ((n : ℕ) → n ≢ x → h n ≡ g n) → h ≡ update g x a
update-is g h x a e o =
    λ i n. at-or-off (λ (n : ℕ). h n ≡ update g x a n) x (e ∙ sym (update-at g x a)) (λ n z. o n z ∙ sym (update-off g x a n z)) n i

pub update-same : {A : Type 0} (g : ℕ → A) (x : ℕ) (a : A) → g x ≡ a → update g x a ≡ g
update-same g x a e = sym (update-is g g x a e (λ n z. refl))

-- other nodes
abbrev pub node_by : View → (ℕ → NodeView) → View
node_by v g = record { nodes = v.nodes; root = v.root; node = g }

-- other counts of hidden slots; h hidden slots in x
abbrev pub hidden_by : View → (ℕ → ℕ) → View
hidden_by v g = node_by v (λ (n : ℕ). showing (v.node n) (v.node n).shown (g n))

-- the view with h hidden slots in node x
abbrev pub with_hidden : View → ℕ → ℕ → View
with_hidden v x h = hidden_by v (update (hidden_of v) x h)

-- other shown slots; the slots ss in x
abbrev pub shown_by : View → (ℕ → List Slot) → View
shown_by v g = node_by v (λ (n : ℕ). showing (v.node n) (g n) (v.node n).hidden)

-- the view with ss as the shown slots of node x
abbrev pub with_shown : View → ℕ → List Slot → View
with_shown v x ss = shown_by v (update (shown_of v) x ss)

-- other siblings; b as sibling of a
abbrev pub sibling_by : View → (ℕ → ℕ) → View
sibling_by v g = node_by v (λ (n : ℕ). joining (v.node n) (g n))

-- the view with b as the sibling of node a
abbrev pub with_sibling : View → ℕ → ℕ → View
with_sibling v a b = sibling_by v (update (sibling_of v) a b)

-- r as root
abbrev pub with_root : View → ℕ → View
with_root v r = record { nodes = v.nodes; root = r; node = v.node }

-- ---- a view that differs from v as a store leaves it

-- a view with the nodes and the root of v and these nodes
nodes-change : (v v' : View) (g : ℕ → NodeView) → v'.nodes ≡ v.nodes → v'.root ≡ v.root → ((n : ℕ) → v'.node n ≡ g n) → v' ≡ node_by v g
nodes-change v v' g c r e = λ i. record { nodes = c i; root = r i; node = λ (n : ℕ). e n i }

-- in node x, which shows ss and hides h slots
module _ (v v' : View) (x : ℕ) (ss : List Slot) (h : ℕ) (c : v'.nodes ≡ v.nodes) (r : v'.root ≡ v.root)
    (e : ButAt v.node v'.node x (showing (v.node x) ss h)) where
  -- a view that differs from v in what x shows and hides is v with these two changed in x
  pub slots-change : v' ≡ with_hidden (with_shown v x ss) x h
  slots-change =
      let s : ℕ → List Slot = λ n. (v.node n).shown in
      let k : ℕ → ℕ = λ n. (v.node n).hidden in
      let g = (with_hidden (with_shown v x ss) x h).node in
      nodes-change v v' g c r (at-or-off (λ (n : ℕ). v'.node n ≡ g n) x
      (e.here ∙ (λ i. showing (v.node x) (sym (update-at s x ss) i) (sym (update-at k x h) i)))
      (λ n z. e.else n z ∙ (λ i. showing (v.node n) (sym (update-off s x ss n z) i) (sym (update-off k x h n z) i))))

  -- only hidden slots, only shown slots, or nothing changes
  pub hidden-change : ss ≡ (v.node x).shown → v' ≡ with_hidden v x h
  hidden-change q = slots-change
      ∙ ap (λ (g : ℕ → List Slot). hidden_by (shown_by v g) (update (hidden_of v) x h)) (update-same (shown_of v) x ss (sym q))

  -- if it hides as many slots in x as v, it is v with its shown slots changed in x
  pub shown-change : h ≡ (v.node x).hidden → v' ≡ with_shown v x ss
  shown-change q = slots-change ∙ ap (λ (g : ℕ → ℕ). hidden_by (with_shown v x ss) g) (update-same (hidden_of v) x h (sym q))

  -- if x shows and hides what it does in v, it is v
  pub no-change : ss ≡ (v.node x).shown → h ≡ (v.node x).hidden → v' ≡ v
  no-change p q = hidden-change p ∙ ap (hidden_by v) (update-same (hidden_of v) x h (sym q))

-- in the sibling of node a, which is b
pub sibling-change : (v v' : View) (a b : ℕ) → v'.nodes ≡ v.nodes → v'.root ≡ v.root → ButAt v.node v'.node a (joining (v.node a) b)
    → v' ≡ with_sibling v a b
sibling-change v v' a b c r e =
    let s : ℕ → ℕ = λ n. (v.node n).sibling in
    let g = (with_sibling v a b).node in
    nodes-change v v' g c r (at-or-off (λ (n : ℕ). v'.node n ≡ g n) a
    (e.here ∙ (λ i. joining (v.node a) (sym (update-at s a b) i)))
    (λ n z. e.else n z ∙ (λ i. joining (v.node n) (sym (update-off s a b n z) i))))
