-- A word of the table, and the ways down from a node, from what is read of it.
use Rattle.std.proofs.Common.{◌≡◌, ℕ, ◌∷◌, ap, ◌∙◌}
use Rattle.model.specs.declared.Node.{Node}
use Rattle.model.specs.Table.{Words, node}
use Rattle.model.specs.Slots.{slot, used, view}
use Rattle.model.specs.Search.{below}
use Rattle.model.specs.Reached.{kept}
use Rattle.node.specs.Word.{word_of}
use Rattle.node.proofs.WordLaws.{word-fence}
use Rattle.walk_laws.specs.Walk.{ways}
use Rattle.slots.specs.declared.ways.Ways.{Ways}
use Rattle.slots.specs.Scan.{shown_from, keeps, kept_of}
use Rattle.slots.specs.Gathered.{slots_in}

-- ---- node n of a table, and its sibling's fence

-- the fence of node n's sibling
abbrev pub bound_of : Words → ℕ → ℕ
bound_of t n = (node t (node t n).sibling).fence

module _ (t : Words) (n : ℕ) (x : Node) (e : ℕ) (is : x ≡ node t n) (fence : e ≡ word_of t x.sibling 3) where
  -- the fence that is read in the sibling is the bound of node n
  pub bound-is : e ≡ bound_of t n
  bound-is = fence ∙ ap (λ (y : Node). word_of t y.sibling 3) is ∙ word-fence t (node t n).sibling

  pub ways-are : (w : Ways) → slots_in w ≡ slot x.fence x.left ∷ kept_of x.sibling e (shown_from x.left x.slots 0)
      → slots_in w ≡ ways (view t) n
  unfolding used kept below keeps
  ways-are w q =
      q ∙ ap (λ (b : ℕ). slot x.fence x.left ∷ kept_of x.sibling b (shown_from x.left x.slots 0)) bound-is
      ∙ ap (λ (y : Node). slot y.fence y.left ∷ kept_of y.sibling (bound_of t n) (shown_from y.left y.slots 0)) is
