-- How many slots a node shows and keeps, from the record that the code has read: x is node n.
use Rattle.std.proofs.Common.{◌≡◌, ℕ, length, ap, ◌∙◌}
use Rattle.model.specs.declared.Node.{Node}
use Rattle.model.specs.Table.{Words, node}
use Rattle.model.specs.Slots.{node_view, view, used}
use Rattle.model.specs.Search.{below}
use Rattle.model.specs.Reached.{kept}
use Rattle.node.specs.Word.{word_of}
use Rattle.node.proofs.WordLaws.{word-fence}
use Rattle.slots.specs.Scan.{shown_from, keeps, kept_of}

module _ (t : Words) (n : ℕ) (x : Node) (q : x ≡ node t n) where
  pub shown-read : (r : ℕ) → r ≡ length (shown_from x.left x.slots 0) → r ≡ length (node_view t n).shown
  unfolding used
  shown-read r h = h ∙ ap (λ (y : Node). length (shown_from y.left y.slots 0)) q

  pub kept-read : (r b : ℕ) → b ≡ word_of t x.sibling 3 → r ≡ length (kept_of x.sibling b (shown_from x.left x.slots 0))
      → r ≡ length (kept (view t) n)
  unfolding used kept below keeps
  kept-read r b g h =
      h ∙ ap (λ (w : ℕ). length (kept_of x.sibling w (shown_from x.left x.slots 0))) (g ∙ word-fence t x.sibling)
      ∙ ap (λ (y : Node). length (kept_of y.sibling (node_view t y.sibling).fence (shown_from y.left y.slots 0))) q
