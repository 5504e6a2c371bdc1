-- A root that is an empty leaf: no other node is reached, the map is empty, and nothing is unfinished.
use Rattle.std.proofs.Common.{◌≡◌, ℕ, true, [], ◌∷◌, sym, ap, ◌∙◌, arith}
use Rattle.model.specs.Table.{MARK, in_range}
use Rattle.model.specs.Slots.{Slot, View}
use Rattle.model.specs.Search.{within}
use Rattle.model.specs.Reached.{filter, flat, kept, reached_from, leaves_from, reached, leaves, mapping}
use Rattle.model.specs.SoundTest.{all, elem, distinct, sibling_ok, rising, come_first, recordings_ok, nothing}
use Rattle.view_laws.proofs.NodeViews.{new_node, left-eq, sibling-eq, level-eq, fence-eq, shown-eq, hidden-eq, clear-eq}
use Rattle.tree_laws.proofs.Rows.{Good}
use Rattle.tree_laws.proofs.Leftovers.{NothingUnfinished}
use Rattle.change_laws.proofs.Parts.{leaf-iff, good-leaf, HasLeft, finished-left}

module _ (v : View) (leaf : v.node v.root ≡ new_node MARK 0 0 0 []) (range : in_range v.nodes v.root ≡ true) where
  abbrev r : ℕ
  r = v.root

  -- no node but an empty root leaf is reached
  pub root-alone : reached v ≡ v.root ∷ []
  unfolding reached_from
  root-alone = ap (λ (d : ℕ). reached_from v d (r ∷ [])) (level-eq leaf)

  leaf-alone : leaves v ≡ r ∷ []
  unfolding leaves_from
  leaf-alone = ap (λ (d : ℕ). leaves_from v d (r ∷ [])) (level-eq leaf)

  kept-none : kept v r ≡ []
  unfolding kept filter
  kept-none = ap (filter (λ (s : Slot). within v r s.key)) (shown-eq leaf)

  -- the map of an empty root leaf has no pair
  pub map-none : mapping v ≡ []
  unfolding mapping flat
  map-none = ap (flat (kept v)) leaf-alone ∙ rw kept-none

  good : Good v r
  unfolding sibling_ok rising come_first
  good = good-leaf v r (level-eq leaf) (clear-eq leaf) (rw (sibling-eq leaf))
      ((leaf-iff v r).1 (record { left = left-eq leaf; keys = record { rise = rw kept-none; first = rw (shown-eq leaf) } }))

  finished : NothingUnfinished v r
  finished = record { shows = hidden-eq leaf; keeps = kept-none ∙ sym (shown-eq leaf); names = λ z. absurd (z (level-eq leaf)) }

  -- a tree that is an empty root leaf is orderly and has nothing left over
  pub empty-left : HasLeft v nothing
  unfolding distinct elem all recordings_ok
  empty-left = finished-left v
      (record {
        top = record { range = range; level = omega (arith, level-eq leaf); fence = fence-eq leaf; sibling = sibling-eq leaf };
        good = rw root-alone (good, tt);
        once = rw root-alone;
        recordings = rw map-none;
      })
      (rw root-alone (finished, tt))
