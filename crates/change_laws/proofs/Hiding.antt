-- One hidden slot more or less in a node: nothing changes but what is left.
use Rattle.std.proofs.Common.{◌≡◌, ℕ, true, false, ◌≢◌, List, refl, ◌∙◌}
use mathlib.Core.List.{Memᴰ}
use Rattle.model.specs.Table.{in_range}
use Rattle.model.specs.Slots.{View}
use Rattle.model.specs.Search.{below}
use Rattle.model.specs.Reached.{kept, first_child, fill_row, children, reached_from, leaves_from, reached, mapping}
use Rattle.model.specs.SoundTest.{sibling_ok, keys_ok, linked, child_ok, slot_ok, leaf_ok, inner_ok, node_ok, root_ok, orderly, Leftover}
use Rattle.model.specs.SoundTest.{nothing, hidden_in, missing_in, both_in, has_room}
use Rattle.view_laws.proofs.NodeViews.{hidden_of}
use Rattle.list_laws.proofs.Tools.{Each, Each-map, at-or-off}
use Rattle.tree_laws.proofs.Levels.{Orderly, orderly-iff}
use Rattle.tree_laws.proofs.Gaps.{Gap}
use Rattle.tree_laws.proofs.Leftovers.{Left, NoneHidden, NoneTrailing, NoneMissing, HiddenOnly, MissingOnly}
use Rattle.change_laws.proofs.Updates.{update, update-at, update-off, hidden_by, with_hidden}
use Rattle.change_laws.proofs.Parts.{HasLeft, Keeps, same-room}

-- ---- hidden slots are no concern of any other part

module _ (v : View) (g : ℕ → ℕ) where
  abbrev v' : View
  v' = hidden_by v g

  hidden-reached : reached v' ≡ reached v
  unfolding children kept fill_row below first_child reached_from
  hidden-reached = refl

  hidden-mapping : mapping v' ≡ mapping v
  unfolding children kept fill_row below first_child leaves_from mapping
  hidden-mapping = refl

  hidden-orderly : orderly v' ≡ orderly v
  unfolding orderly root_ok node_ok sibling_ok keys_ok leaf_ok inner_ok child_ok slot_ok linked in_range children kept fill_row below
      first_child reached_from leaves_from mapping
  hidden-orderly = refl

  trailing-same : NoneTrailing v → NoneTrailing v'
  unfolding children kept fill_row below first_child reached_from
  trailing-same h = h

  missing-same : NoneMissing v → NoneMissing v'
  unfolding children kept fill_row below first_child reached_from
  missing-same h = h

  gap-same : (a : ℕ) (ns : List ℕ) (e : ℕ) → Gap v a ns e → Gap v' a ns e
  unfolding linked
  gap-same a ns e q = record {
    before = q.before;
    after = q.after;
    shape = q.shape;
    joined-before = q.joined-before;
    lacks = q.lacks;
    joined-after = q.joined-after;
  }

  only-same : (p a : ℕ) → MissingOnly v p a → MissingOnly v' p a
  unfolding children kept fill_row below first_child reached_from
  only-same p a o = record { member = o.member; here = (o.here.0, gap-same a _ _ o.here.1); others = o.others }

-- ---- h hidden slots in x

module _ (v : View) (x : ℕ) where
  others-at : (h : ℕ) → Each (λ (n : ℕ). n ≢ x → (v.node n).hidden ≡ 0) (reached v)
      → Each (λ (n : ℕ). n ≢ x → update (hidden_of v) x h n ≡ 0) (reached v)
  others-at h = Each-map (λ (n : ℕ). n ≢ x → (v.node n).hidden ≡ 0) (λ (n : ℕ). n ≢ x → update (hidden_of v) x h n ≡ 0) (reached v)
      (λ n q z. update-off (hidden_of v) x h n z ∙ q z)

  one : Memᴰ x (reached v) → NoneHidden v → HiddenOnly (with_hidden v x 1) x
  one m h = rw (hidden-reached v (update (hidden_of v) x 1)) (record {
    member = m;
    here = update-at (hidden_of v) x 1;
    others = others-at 1
        (Each-map (λ (n : ℕ). (v.node n).hidden ≡ 0) (λ (n : ℕ). n ≢ x → (v.node n).hidden ≡ 0) (reached v) (λ n q z. q) h);
  })

  none : HiddenOnly v x → NoneHidden (with_hidden v x 0)
  none o = rw (hidden-reached v (update (hidden_of v) x 0))
      (Each-map (λ (n : ℕ). n ≢ x → update (hidden_of v) x 0 n ≡ 0) (λ (n : ℕ). update (hidden_of v) x 0 n ≡ 0) (reached v)
      (at-or-off (λ (n : ℕ). (n ≢ x → update (hidden_of v) x 0 n ≡ 0) → update (hidden_of v) x 0 n ≡ 0) x (λ q. update-at (hidden_of v) x 0)
      (λ n z q. q z)) (others-at 0 o.others))

  keeps : (h : ℕ) (y : Leftover) → Orderly v → (has_room v y ≡ true → has_room (with_hidden v x h) y ≡ true) → Left (with_hidden v x h) y
      → Keeps v (with_hidden v x h) y
  keeps h y o r l =
      let g = update (hidden_of v) x h in
      record {
        left = record { orderly = (orderly-iff (with_hidden v x h)).0 (hidden-orderly v g ∙ (orderly-iff v).1 o); left = l };
        mapping = hidden-mapping v g;
        reached = hidden-reached v g;
        room = r;
      }

  -- one hidden slot in a node of a settled view: leftover (a), and back
  pub hide : HasLeft v nothing → Memᴰ x (reached v) → Keeps v (with_hidden v x 1) (hidden_in x)
  hide l m = let g = update (hidden_of v) x 1 in keeps 1 (hidden_in x) l.orderly (λ r. r)
      (one m l.left.0, trailing-same v g l.left.1, missing-same v g l.left.2)

  -- closing the one hidden slot of x keeps map and nodes reached, and leaves nothing over
  pub unhide : HasLeft v (hidden_in x) → Keeps v (with_hidden v x 0) nothing
  unhide l = let g = update (hidden_of v) x 0 in keeps 0 nothing l.orderly (λ r. r)
      (none l.left.0, trailing-same v g l.left.1, missing-same v g l.left.2)

  -- one hidden slot in the parent that lacks a slot: leftover (c), and back
  pub hide-missing : (a : ℕ) → HasLeft v (missing_in x a false) → Keeps v (with_hidden v x 1) (both_in x a)
  hide-missing a l =
      let g = update (hidden_of v) x 1 in
      keeps 1 (both_in x a) l.orderly (same-room v (with_hidden v x 1) x refl)
      (one l.left.2.member l.left.0, trailing-same v g l.left.1, only-same v g x a l.left.2)

  -- closing the hidden slot of a parent x that lacks a slot keeps map and nodes reached, and leaves just that lack
  pub unhide-missing : (a : ℕ) → HasLeft v (both_in x a) → Keeps v (with_hidden v x 0) (missing_in x a false)
  unhide-missing a l =
      let g = update (hidden_of v) x 0 in
      keeps 0 (missing_in x a false) l.orderly (same-room v (with_hidden v x 0) x refl)
      (none l.left.0, trailing-same v g l.left.1, only-same v g x a l.left.2)
