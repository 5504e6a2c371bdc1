-- Other shown slots in one node: what else stays, where its children stay.
use Rattle.std.proofs.Common.{◌≡◌, ℕ, suc, true, false, eqb, ◌≢◌, List, [], ◌∷◌, sym, refl, ap, ◌∙◌}
use Rattle.model.specs.Table.{in_range}
use Rattle.model.specs.Slots.{Slot, View, height}
use Rattle.model.specs.Search.{below, within}
use Rattle.model.specs.Reached.{flat, pointers, kept, first_child, next_child, fill_row, children, reached, leaves, mapping}
use Rattle.model.specs.SoundTest.{sibling_ok, come_first, keys_ok, linked, child_ok, slot_ok, leaf_ok, inner_ok, node_ok, recordings_ok}
use Rattle.view_laws.proofs.NodeViews.{shown_of}
use Rattle.list_laws.proofs.Tools.{Each, Each-map, at-or-off}
use Rattle.list_laws.proofs.Members.{mem-each, flat-each}
use Rattle.tree_laws.proofs.Rows.{Good, leaf-ok, inner-ok, reached-agree, leaves-agree}
use Rattle.tree_laws.proofs.Kept.{by-level}
use Rattle.tree_laws.proofs.Levels.{Orderly}
use Rattle.tree_laws.proofs.Leftovers.{NothingUnfinished}
use Rattle.change_laws.proofs.Updates.{update, update-off, shown_by, with_shown}
use Rattle.change_laws.proofs.Parts.{KeysOk, leaf-iff, InnerOk, inner-iff, good-parts, good-leaf, good-inner}
pub use Rattle.tree_laws.proofs.Kept.{first-part, each-first}

-- ---- what is asked of a node reads the headers and its own shown slots only

module _ (v : View) (g : ℕ → List Slot) (n : ℕ) (e : g n ≡ (v.node n).shown) where
  pub kept-own : kept (shown_by v g) n ≡ kept v n
  unfolding kept below
  kept-own = ap (λ (s : List Slot). kept (shown_by v (λ (m : ℕ). s)) n) e

  children-own : children (shown_by v g) n ≡ children v n
  unfolding children kept fill_row below first_child
  children-own = ap (λ (s : List Slot). children (shown_by v (λ (m : ℕ). s)) n) e

  good-own : node_ok (shown_by v g) n ≡ node_ok v n
  unfolding node_ok sibling_ok keys_ok leaf_ok inner_ok child_ok slot_ok linked in_range children kept fill_row below first_child
  good-own = ap (λ (s : List Slot). node_ok (shown_by v (λ (m : ℕ). s)) n) e

  pub finished-own : NothingUnfinished v n → NothingUnfinished (shown_by v g) n
  finished-own h = record {
    shows = h.shows;
    keeps = kept-own ∙ h.keeps ∙ sym e;
    names = λ z. children-own ∙ h.names z ∙ ap (λ (ks : List Slot). (v.node n).left ∷ pointers ks) (sym kept-own);
  }

-- ---- the same kept slots

module _ (v : View) (g : ℕ → List Slot) (n : ℕ) (e : kept (shown_by v g) n ≡ kept v n) where
  pub children-kept : children (shown_by v g) n ≡ children v n
  unfolding children fill_row first_child
  children-kept = ap (λ (ks : List Slot). elim (eqb (v.node n).level 0) as (λ b. List ℕ)
      [ true ↦ [] | false ↦ fill_row v ((v.node n).left ∷ pointers ks) (next_child v n) ]) e

  keys-kept : (low : ℕ) → come_first (λ (s : Slot). within v n s.key) (g n) ≡ true → KeysOk v n low → KeysOk (shown_by v g) n low
  unfolding below
  keys-kept low c k = record { rise = rw e k.rise; first = c }

  inner-kept : come_first (λ (s : Slot). within v n s.key) (g n) ≡ true → InnerOk v n → InnerOk (shown_by v g) n
  unfolding child_ok slot_ok linked first_child
  inner-kept c k = record {
    keys = keys-kept (suc (v.node n).fence) c k.keys;
    left = k.left;
    slots = rw e k.slots;
    range = rw children-kept k.range;
    chain = rw children-kept k.chain;
  }

  siblings : sibling_ok v n ≡ true → sibling_ok (shown_by v g) n ≡ true
  unfolding sibling_ok in_range
  siblings h = h

  pub good-kept : come_first (λ (s : Slot). within v n s.key) (g n) ≡ true → Good v n → Good (shown_by v g) n
  good-kept c h =
      let u = good-parts v n h in
      by-level v (λ (m : ℕ). Good (shown_by v g) n) n
      (λ l. let k = (leaf-iff v n).0 (leaf-ok v n h l) in good-leaf (shown_by v g) n l u.0 (siblings u.1)
      ((leaf-iff (shown_by v g) n).1 (record { left = k.left; keys = keys-kept (v.node n).fence c k.keys })))
      (λ d l. good-inner (shown_by v g) d n l u.0 (siblings u.1)
      ((inner-iff (shown_by v g) n).1 (inner-kept c ((inner-iff v n).0 (inner-ok v d n h l)))))

-- ---- the same children everywhere: the same nodes are reached

module _ (v : View) (x : ℕ) (ss : List Slot) (same : children (with_shown v x ss) x ≡ children v x) where
  abbrev v' : View
  v' = with_shown v x ss

  off : (n : ℕ) → n ≢ x → update (shown_of v) x ss n ≡ (v.node n).shown
  off n z = update-off (shown_of v) x ss n z

  pub children-same : (n : ℕ) → children (with_shown v x ss) n ≡ children v n
  children-same = at-or-off (λ (n : ℕ). children v' n ≡ children v n) x same (λ n z. children-own v _ n (off n z))

  pub shown-reached : reached (with_shown v x ss) ≡ reached v
  shown-reached = reached-agree v v' (height v) (v.root ∷ []) (mem-each _ (reached v) (λ n m. children-same n))

  pub shown-leaves : leaves (with_shown v x ss) ≡ leaves v
  shown-leaves = leaves-agree v v' (height v) (v.root ∷ []) (mem-each _ (reached v) (λ n m. children-same n))

  -- x is no leaf, or keeps the same slots
  pub shown-mapping : Each (λ (n : ℕ). n ≡ x → kept (with_shown v x ss) x ≡ kept v x) (leaves v) → mapping (with_shown v x ss) ≡ mapping v
  unfolding mapping
  shown-mapping h = ap (flat (kept v')) shown-leaves
      ∙ flat-each (kept v') (kept v) (leaves v)
      (Each-map (λ (n : ℕ). n ≡ x → kept v' x ≡ kept v x) (λ (n : ℕ). kept v' n ≡ kept v n) (leaves v)
      (at-or-off (λ (n : ℕ). (n ≡ x → kept v' x ≡ kept v x) → kept v' n ≡ kept v n) x (λ k. k refl) (λ n z k. kept-own v _ n (off n z))) h)

  pub shown-orderly : Orderly v → (Good v x → Good (with_shown v x ss) x) → recordings_ok (mapping (with_shown v x ss)) ≡ true
      → Orderly (with_shown v x ss)
  shown-orderly o g d = record {
    top = record { range = o.top.range; level = o.top.level; fence = o.top.fence; sibling = o.top.sibling };
    good = rw shown-reached
        (Each-map (Good v) (Good v') (reached v)
        (at-or-off (λ (n : ℕ). Good v n → Good v' n) x g (λ n z h. good-own v _ n (off n z) ∙ h)) o.good);
    once = rw shown-reached o.once;
    recordings = d;
  }
