-- From the view of a table after stores to one node to what the table is: sound or settled, and with which map.
use Rattle.std.proofs.Common.{◌≡◌, ℕ, zero, suc, ◌<◌, ◌≤◌, true, ◌≢◌, List, sym, refl, ap, ◌∙◌, arith}
use mathlib.Core.List.{Memᴰ}
use Rattle.model.specs.Table.{Words, has_node, node}
use Rattle.model.specs.Slots.{Slot, View, node_view, height}
use Rattle.model.specs.Reached.{reached, mapping}
use Rattle.model.specs.SoundTest.{Leftover, nothing, has_room}
use Rattle.list_laws.proofs.Members.{each-mem}
use Rattle.table_laws.proofs.Header.{HeadFacts}
use Rattle.table_laws.proofs.Nodes.{has-node-head}
use Rattle.word_laws.proofs.Frames.{SameHeader, same-nodes, same-head}
use Rattle.word_laws.proofs.ShiftViews.{Changed}
use Rattle.tree_laws.proofs.Rows.{Good, inner, left-range, not-zero, leaf-ok}
use Rattle.tree_laws.proofs.Levels.{Orderly, Bounded, reached-bounds}
use Rattle.change_laws.proofs.Updates.{with_shown, with_hidden, slots-change, hidden-change, shown-change, no-change}
use Rattle.change_laws.proofs.Parts.{good-parts, leaf-iff, HasLeft, Keeps, Settles}
use Rattle.step_laws.proofs.Stages.{SoundWith, SettledWith}
pub use Rattle.word_laws.proofs.ShiftViews.{used-few, shown-few}
use Rattle.step_laws.proofs.TreeAt.{Avoids, tree_at, Fine, map_at, same-word, avoids-is}

-- ---- a reached node

-- it lies in the table, its spare words and slot 11 are clear, and its left is not 0
pub record Usable (t : Words) (n : ℕ) : Type 0 where
  pub there : has_node t n ≡ true
  pub clear : (node_view t n).clear ≡ true
  pub left : (node_view t n).left ≢ 0

module _ (w : ℕ) where
  -- ---- the view after a change of one node

  module _ (low : w < 8) (t : Words) (x : ℕ) (ss : List Slot) (h : ℕ) (t' : Words) (c : Changed t x ss h t') where
    pub changed-view : tree_at w t' ≡ with_hidden (with_shown (tree_at w t) x ss) x h
    changed-view = slots-change (tree_at w t) (tree_at w t') x ss h (same-nodes c.header) (same-word w low c.header) c.node

    -- as many slots are hidden as before, the same slots are shown, or both
    pub shown-view : (node_view t x).hidden ≡ h → tree_at w t' ≡ with_shown (tree_at w t) x ss
    shown-view e = shown-change (tree_at w t) (tree_at w t') x ss h (same-nodes c.header) (same-word w low c.header) c.node (sym e)

    pub hidden-view : (node_view t x).shown ≡ ss → tree_at w t' ≡ with_hidden (tree_at w t) x h
    hidden-view e = hidden-change (tree_at w t) (tree_at w t') x ss h (same-nodes c.header) (same-word w low c.header) c.node (sym e)

    pub same-view : (node_view t x).shown ≡ ss → (node_view t x).hidden ≡ h → tree_at w t' ≡ tree_at w t
    same-view e f = no-change (tree_at w t) (tree_at w t') x ss h (same-nodes c.header) (same-word w low c.header) c.node (sym e) (sym f)

  -- ---- a reached node is usable

  module _ (t : Words) (n : ℕ) (h : HeadFacts t) (o : Orderly (tree_at w t)) (m : Memᴰ n (reached (tree_at w t))) where
    good : Good (tree_at w t) n
    good = each-mem (Good (tree_at w t)) o.good m

    left-some : (d : ℕ) → (node_view t n).level ≡ d → (node_view t n).left ≢ 0
    left-some zero e z = let k = ((leaf-iff (tree_at w t) n).0 (leaf-ok (tree_at w t) n good e)).left in omega arith
    left-some (suc d) e z = not-zero (tree_at w t) (node_view t n).left (left-range (tree_at w t) d n (inner (tree_at w t) d n good e)) z

    -- a reached node lies in the table, is clear where it must be, and has a left other than 0
    pub reached-usable : Usable t n
    reached-usable =
        let b = each-mem (Bounded (tree_at w t) (height (tree_at w t))) (reached-bounds (tree_at w t) o) m in
        record {
          there = has-node-head t n h ∙ b.0;
          clear = (good-parts (tree_at w t) n good).0;
          left = left-some (node_view t n).level refl;
        }

-- nothing is left, and the map is that of before
pub keeps-settles : (v u : View) → Keeps v u nothing → Settles v u (mapping v)
keeps-settles v u k = record { left = k.left; mapping = k.mapping; reached = k.reached }

module _ (w : ℕ) (ns : List ℕ) where
  -- ---- a table t' whose tree is u, where t has a right header

  module _ (t t' : Words) (u : View) (e : tree_at w t' ≡ u) (q : SameHeader t t') {x : Leftover} (f : Fine w ns t x) where
    pub view-fine : (y : Leftover) → HasLeft u y → has_room u y ≡ true → Avoids ns u → Fine w ns t' y
    view-fine y l r o = record
        { low = f.low; header = same-head q f.header; left = rw e l; room = rw e r; apart = avoids-is ns (tree_at w t') u e o }

    pub view-sound : (y : Leftover) → HasLeft u y → has_room u y ≡ true → Avoids ns u → (m : List Slot) → mapping u
        ≡ m → SoundWith w ns m t'
    view-sound y l r o m g = ((y, view-fine y l r o), ap mapping e ∙ g)

    pub view-keeps : (y : Leftover) → Keeps (tree_at w t) u y → has_room (tree_at w t) y ≡ true → SoundWith w ns (map_at w t) t'
    view-keeps y k r = view-sound y k.left (k.room r) (rw k.reached f.apart) (map_at w t) k.mapping

    pub view-settles : (m : List Slot) → Settles (tree_at w t) u m → SettledWith w ns m t'
    view-settles m s = (view-fine nothing s.left refl (rw s.reached f.apart), ap mapping e ∙ s.mapping)

  -- nothing that is seen has changed
  pub view-same : (t t' : Words) (y : Leftover) → Fine w ns t y → tree_at w t' ≡ tree_at w t → SameHeader t t'
      → SoundWith w ns (map_at w t) t'
  view-same t t' y f e q = view-sound t t' (tree_at w t) e q f y f.left f.room f.apart (map_at w t) refl

  -- a node of t shows what it showed and hides one slot at most: t has y left, or y' with that slot
  pub may-hide : (t : Words) (x : ℕ) (y y' : Leftover) → Fine w ns t y → (node_view t x).hidden ≡ 0
      → Keeps (tree_at w t) (with_hidden (tree_at w t) x 1) y' → has_room (tree_at w t) y' ≡ true
      → (t' : Words) → (h : ℕ) × (h ≤ 1) × Changed t x (node_view t x).shown h t' → SoundWith w ns (map_at w t) t'
  may-hide t x y y' f z k r t' u = go u.0 u.1 u.2
    where
      go : (h : ℕ) → h ≤ 1 → Changed t x (node_view t x).shown h t' → SoundWith w ns (map_at w t) t'
      go zero q c = view-same t t' y f (same-view w f.low t x (node_view t x).shown 0 t' c refl z) c.header
      go (suc zero) q c = view-keeps t t' (with_hidden (tree_at w t) x 1)
          (hidden-view w f.low t x (node_view t x).shown 1 t' c refl) c.header f y' k r
      go (suc (suc h)) q c = absurd (omega arith)
