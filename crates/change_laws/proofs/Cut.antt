-- The cut: a node that shows slots from its sibling's fence up then shows its kept slots only.
use Rattle.std.proofs.Common.{◌≡◌, ℕ, ◌≤◌, Bool, true, false, ◌≢◌, List, ◌∷◌, length, take, sym, ap, ◌∙◌, arith, take_at, le-leb, leb-true}
use Rattle.model.specs.Slots.{Slot, View}
use Rattle.model.specs.Search.{below, within}
use Rattle.model.specs.Reached.{filter, pointers, kept, named, first_child, next_child, children, reached, leaves, mapping}
use Rattle.model.specs.SoundTest.{come_first, linked, missing_in, room}
use Rattle.model.specs.Shifts.{place_of}
use Rattle.view_laws.proofs.NodeViews.{shown_of}
use Rattle.list_laws.proofs.Tools.{Each-map, at-or-off}
use Rattle.list_laws.proofs.Members.{mem-each}
use Rattle.list_laws.proofs.Filters.{filter-all, filter-short}
use Rattle.tree_laws.proofs.Rows.{Good}
use Rattle.tree_laws.proofs.Kept.{kept-within, ignored, shown-split, cut-place}
use Rattle.tree_laws.proofs.Gaps.{Gap}
use Rattle.tree_laws.proofs.Leftovers.{NoneTrailing, MissingOnly}
use Rattle.change_laws.proofs.Updates.{update, update-at, update-off, with_shown}
use Rattle.change_laws.proofs.Parts.{HasLeft, Keeps, same-room}
use Rattle.change_laws.proofs.Shown.{kept-own, children-kept, good-kept, each-first, children-same, shown-reached, shown-mapping}
use Rattle.change_laws.proofs.Shown.{shown-orderly}

-- the kept slots are those before the place of the sibling's fence
pub kept-take : (v : View) (n : ℕ) → Good v n → (v.node n).sibling ≢ 0 → kept v n
    ≡ take (place_of (v.node (v.node n).sibling).fence (v.node n).shown) (v.node n).shown
kept-take v n g z =
    let p = place_of (v.node (v.node n).sibling).fence (v.node n).shown in
    sym (ap (take p) (shown-split v n g) ∙ take_at (kept v n) (ignored v n) p (sym (cut-place v n g z)))

module _ (v : View) (p a : ℕ) (l : HasLeft v (missing_in p a true)) where
  abbrev v' : View
  v' = with_shown v a (kept v a)

  abbrev at : (v'.node a).shown ≡ kept v a
  at = update-at (shown_of v) a (kept v a)

  kept-a : kept v' a ≡ kept v a
  unfolding kept below
  kept-a = let q : Slot → Bool = λ (s : Slot). within v a s.key in ap (filter q) at ∙ filter-all q (kept v a) (kept-within v a)

  kept-same : (n : ℕ) → kept v' n ≡ kept v n
  kept-same = at-or-off (λ (n : ℕ). kept v' n ≡ kept v n) a kept-a (λ n z. kept-own v _ n (update-off (shown_of v) a (kept v a) n z))

  named-same : (n : ℕ) → named v' n ≡ named v n
  named-same n = ap (λ (ks : List Slot). (v.node n).left ∷ pointers ks) (kept-same n)

  same : children v' a ≡ children v a
  same = children-kept v (update (shown_of v) a (kept v a)) a kept-a

  good-cut : Good v a → Good v' a
  good-cut = good-kept v (update (shown_of v) a (kept v a)) a kept-a
      (ap (come_first (λ (s : Slot). within v a s.key)) at ∙ each-first (λ (s : Slot). within v a s.key) (kept v a) (kept-within v a))

  cut-reached : reached v' ≡ reached v
  cut-reached = shown-reached v a (kept v a) same

  cut-mapping : mapping v' ≡ mapping v
  cut-mapping = shown-mapping v a (kept v a) same (mem-each _ (leaves v) (λ n m z. kept-a))

  none-trailing : NoneTrailing v'
  none-trailing = rw cut-reached
      (Each-map (λ (n : ℕ). n ≢ a → kept v n ≡ (v.node n).shown) (λ (n : ℕ). kept v' n ≡ (v'.node n).shown) (reached v)
      (at-or-off (λ (n : ℕ). (n ≢ a → kept v n ≡ (v.node n).shown) → kept v' n ≡ (v'.node n).shown) a (λ h. kept-a ∙ sym at)
      (λ n z h. kept-same n ∙ h z ∙ sym (update-off (shown_of v) a (kept v a) n z))) l.left.1.others)

  gap-same : Gap v a (named v p) (next_child v p) → Gap v' a (named v' p) (next_child v' p)
  unfolding linked first_child
  gap-same g = record {
    before = g.before;
    after = g.after;
    shape = named-same p ∙ g.shape;
    joined-before = g.joined-before;
    lacks = g.lacks;
    joined-after = g.joined-after;
  }

  missing-same : MissingOnly v' p a
  missing-same =
      let o = l.left.2 in
      rw cut-reached (record {
        member = o.member;
        here = (o.here.0, gap-same o.here.1);
        others = Each-map (λ (n : ℕ). n ≢ p → (v.node n).level ≢ 0 → children v n ≡ named v n)
            (λ (n : ℕ). n ≢ p → (v.node n).level ≢ 0 → children v' n ≡ named v' n) (reached v)
            (λ n h z y. children-same v a (kept v a) same n ∙ h z y ∙ sym (named-same n)) o.others;
      })

  cut-room : (n : ℕ) → room v n ≡ true → room v' n ≡ true
  unfolding room kept
  cut-room = at-or-off (λ (n : ℕ). room v n ≡ true → room v' n ≡ true) a
      (λ h.
      let s : length (kept v a) ≤ length (v.node a).shown = filter-short (λ (s : Slot). within v a s.key) (v.node a).shown in
      let y = leb-true (length (v.node a).shown) 10 h in
      rw at (le-leb (length (kept v a)) 10 (omega arith)))
      (λ n z h. same-room v v' n (update-off (shown_of v) a (kept v a) n z) h)

  -- cutting the trailing slots of node a keeps map and nodes reached, and leaves just the slot that p lacks
  pub cut-keeps : Keeps v (with_shown v a (kept v a)) (missing_in p a false)
  cut-keeps = record {
    left = record {
      orderly = shown-orderly v a (kept v a) same l.orderly good-cut (rw cut-mapping l.orderly.recordings);
      left = (rw cut-reached l.left.0, none-trailing, missing-same);
    };
    mapping = cut-mapping;
    reached = cut-reached;
    room = cut-room p;
  }
