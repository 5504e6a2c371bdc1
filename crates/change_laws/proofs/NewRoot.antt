-- A new root above the old one: settled, with the same map.
use Rattle.std.proofs.Common.{◌≡◌, ℕ, suc, ◌≤◌, true, false, List, [], ◌∷◌, sym, refl, ap, ◌∙◌, append-nil}
use Rattle.model.specs.Table.{in_range}
use Rattle.model.specs.Slots.{Slot, View, height}
use Rattle.model.specs.Search.{below}
use Rattle.model.specs.Reached.{filter, flat, pointers, kept, named, first_child, next_child, fill_row, children, reached_from, leaves_from}
use Rattle.model.specs.Reached.{reached, mapping}
use Rattle.model.specs.SoundTest.{all, elem, sibling_ok, rising, come_first, keys_ok, linked, child_ok, slot_ok, leaf_ok, inner_ok, node_ok}
use Rattle.model.specs.SoundTest.{nothing}
use Rattle.view_laws.proofs.NodeViews.{new_node, left-eq, sibling-eq, level-eq, fence-eq, shown-eq, hidden-eq, clear-eq}
use Rattle.list_laws.proofs.Tools.{decode, and-iff, Each-map}
use Rattle.list_laws.proofs.Distinct.{distinct-cons}
use Rattle.tree_laws.proofs.Rows.{Good, children-inner, linked-cons}
use Rattle.tree_laws.proofs.Levels.{Orderly}
use Rattle.tree_laws.proofs.Gaps.{fill-whole}
use Rattle.tree_laws.proofs.Leftovers.{NothingUnfinished}
use Rattle.change_laws.proofs.Updates.{with_root}
use Rattle.change_laws.proofs.Parts.{inner-iff, good-inner, HasLeft, all-finished, finished-left}

-- r is not reached; it stands one level above the root, has it as left and shows nothing, and the rest of it is 0
pub record AboveRoot (v : View) (r : ℕ) : Type 0 where
  pub range : in_range v.nodes r ≡ true
  pub fresh : elem r (reached v) ≡ false
  pub low : suc (height v) ≤ 15
  pub node : v.node r ≡ new_node v.root 0 (suc (height v)) 0 []

good-root : (v : View) (r n : ℕ) → Good v n → Good (with_root v r) n
unfolding node_ok sibling_ok keys_ok leaf_ok inner_ok child_ok slot_ok linked in_range children kept fill_row below first_child
good-root v r n g = g

finished-root : (v : View) (r n : ℕ) → NothingUnfinished v n → NothingUnfinished (with_root v r) n
unfolding children fill_row kept below first_child
finished-root v r n f = record { shows = f.shows; keeps = f.keeps; names = f.names }

reached-root : (v : View) (r d : ℕ) (ns : List ℕ) → reached_from (with_root v r) d ns ≡ reached_from v d ns
unfolding children kept fill_row below first_child reached_from
reached-root v r d ns = refl

pairs-root : (v : View) (r d : ℕ) (ns : List ℕ) → flat (kept (with_root v r)) (leaves_from (with_root v r) d ns)
    ≡ flat (kept v) (leaves_from v d ns)
unfolding children kept fill_row below first_child leaves_from
pairs-root v r d ns = refl

module _ (v : View) (r : ℕ) (l : HasLeft v nothing) (c : AboveRoot v r) where
  o : Orderly v
  o = l.orderly

  kept-none : kept v r ≡ []
  unfolding kept filter
  kept-none = rw (shown-eq c.node)

  next-none : next_child v r ≡ 0
  unfolding first_child
  next-none = ap (first_child v) (sibling-eq c.node)

  named-r : named v r ≡ v.root ∷ []
  named-r = ap (λ (ks : List Slot). (v.node r).left ∷ pointers ks) kept-none ∙ ap (λ (n : ℕ). n ∷ []) (left-eq c.node)

  chain : linked v (v.root ∷ []) 0 ≡ true
  chain = (linked-cons v v.root [] 0).1 (o.top.sibling, unfold linked in refl)

  names : linked v (named v r) (next_child v r) ≡ true
  names = ap (λ (ns : List ℕ). linked v ns (next_child v r)) named-r ∙ ap (linked v (v.root ∷ [])) next-none ∙ chain

  only-child : children v r ≡ v.root ∷ []
  only-child = children-inner v (height v) r (level-eq c.node) ∙ (fill-whole v (named v r) (next_child v r)).1 names ∙ named-r

  sib-r : sibling_ok v r ≡ true
  unfolding sibling_ok
  sib-r = rw (sibling-eq c.node)

  child-r : child_ok v (v.node r).level (v.node r).fence (v.node r).left ≡ true
  unfolding child_ok
  child-r = rw (left-eq c.node) (simp decode (sym (level-eq c.node), o.top.fence ∙ sym (fence-eq c.node)))

  good-r : Good v r
  unfolding rising all come_first
  good-r = good-inner v (height v) r (level-eq c.node) (clear-eq c.node) sib-r ((inner-iff v r).1 (record {
    keys = record { rise = rw kept-none; first = rw (shown-eq c.node) };
    left = child-r;
    slots = rw kept-none;
    range = rw only-child ((and-iff (in_range v.nodes v.root) true).1 (o.top.range, refl));
    chain = ap (λ (ns : List ℕ). linked v ns (next_child v r)) only-child ∙ ap (linked v (v.root ∷ [])) next-none ∙ chain;
  }))

  finished-r : NothingUnfinished v r
  finished-r = record { shows = hidden-eq c.node; keeps = kept-none ∙ sym (shown-eq c.node); names = λ z. only-child ∙ sym named-r }

  kids : flat (children v) (r ∷ []) ≡ v.root ∷ []
  unfolding flat
  kids = append-nil (children v r) ∙ only-child

  root-reached : reached (with_root v r) ≡ r ∷ reached v
  root-reached = ap (λ (d : ℕ). reached_from (with_root v r) d (r ∷ [])) (level-eq c.node) ∙ reached-root v r (suc (height v)) (r ∷ [])
      ∙ unfold reached_from in ap (λ (ns : List ℕ). r ∷ reached_from v (height v) ns) kids

  root-mapping : mapping (with_root v r) ≡ mapping v
  unfolding mapping
  root-mapping = ap (λ (d : ℕ). flat (kept (with_root v r)) (leaves_from (with_root v r) d (r ∷ []))) (level-eq c.node)
      ∙ pairs-root v r (suc (height v)) (r ∷ [])
      ∙ unfold leaves_from in ap (λ (ns : List ℕ). flat (kept v) (leaves_from v (height v) ns)) kids

  root-settled : HasLeft (with_root v r) nothing
  root-settled = finished-left (with_root v r)
      (record {
        top = record { range = c.range; level = rw (level-eq c.node) c.low; fence = fence-eq c.node; sibling = sibling-eq c.node };
        good = rw root-reached (good-root v r r good-r, Each-map (Good v) (Good (with_root v r)) (reached v) (good-root v r) o.good);
        once = rw root-reached ((distinct-cons r (reached v)).1 (c.fresh, o.once));
        recordings = rw root-mapping o.recordings;
      })
      (rw root-reached (
        finished-root v r r finished-r,
        Each-map (NothingUnfinished v) (NothingUnfinished (with_root v r)) (reached v) (finished-root v r) (all-finished v l),
      ))

-- what a new root does
pub record Rooted (v v' : View) (r : ℕ) : Type 0 where
  pub left : HasLeft v' nothing
  pub mapping : mapping v' ≡ mapping v
  pub reached : reached v' ≡ r ∷ reached v

-- a fresh node above the root, made the root, keeps the map, is reached besides, and leaves nothing over
pub new-root : (v : View) (r : ℕ) → HasLeft v nothing → AboveRoot v r → Rooted v (with_root v r) r
new-root v r l c = record { left = root-settled v r l c; mapping = root-mapping v r l c; reached = root-reached v r l c }
