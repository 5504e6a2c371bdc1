-- The shape of a sound table: its levels as linked rows, each reached node once, and each node's kept keys within its range.
use Rattle.std.proofs.Common.{◌≡◌, ℕ, suc, ◌<◌, ◌≤◌, true, ◌↔◌, [], ◌∷◌, ◌++◌, length}
use mathlib.Core.List.{Memᴰ}
use Rattle.model.specs.Table.{in_range}
use Rattle.model.specs.Slots.{Slot, View, height}
use Rattle.model.specs.Search.{within}
use Rattle.model.specs.Reached.{flat, kept, children, reached, leaves}
use Rattle.model.specs.SoundTest.{distinct, linked}
use Rattle.list_laws.proofs.Tools.{Each}
use Rattle.list_laws.proofs.Members.{each-mem, each-both}
use Rattle.tree_laws.proofs.Rows.{Good, At}
use Rattle.tree_laws.proofs.Levels.{Orderly, level-at, row_at, row-leaves, row-root, row-below, row-reached, reached-row, mem-leaves}
use Rattle.tree_laws.proofs.Levels.{Ascending, ascending, Bounded, reached-bounds, reached-few}
use Rattle.tree_laws.proofs.Kept.{kept-within, kept-from, ignored, shown-split}

-- keys from n's fence up to below its sibling's
abbrev pub InRange : View → ℕ → Slot → Type 0
InRange v n s = ((v.node n).fence ≤ s.key) × (within v n s.key ≡ true)

pub record Shape (v : View) : Type 0 where
  -- every reached node is in range, on the root's level or below it
  pub range : {n : ℕ} → Memᴰ n (reached v) → in_range v.nodes n ≡ true
  pub level : {n : ℕ} → Memᴰ n (reached v) → (v.node n).level ≤ height v
  -- it stands in the row of its level, and what stands there is reached
  pub row-of : {n : ℕ} → Memᴰ n (reached v) → Memᴰ n (row_at v (v.node n).level)
  pub row-in : {n d : ℕ} → d ≤ height v → Memᴰ n (row_at v d) → Memᴰ n (reached v) × ((v.node n).level ≡ d)
  -- the root's row is the root, the leaves' row the leaves, and each other row has the children of the row above
  pub root-row : row_at v (height v) ≡ v.root ∷ []
  pub leaf-row : row_at v 0 ≡ leaves v
  pub row-below : (d : ℕ) → d < height v → row_at v d ≡ flat (children v) (row_at v (suc d))
  -- each row is linked from left to right and ends with 0; its fences rise strictly
  pub row-linked : (d : ℕ) → d ≤ height v → linked v (row_at v d) 0 ≡ true
  pub row-rises : (d : ℕ) → d ≤ height v → Ascending v (row_at v d)
  -- no node is reached twice, and at most N are reached
  pub once : distinct (reached v) ≡ true
  pub few : length (reached v) ≤ v.nodes
  -- the leaves are the reached nodes of level 0
  pub leaves-are : (n : ℕ) → Memᴰ n (leaves v) ↔ (Memᴰ n (reached v) × ((v.node n).level ≡ 0))
  -- a node's kept keys lie from its fence up to below its sibling's, and what else it shows comes after them
  pub keys : {n : ℕ} → Memᴰ n (reached v) → Each (InRange v n) (kept v n)
  pub shows : {n : ℕ} → Memᴰ n (reached v) → (v.node n).shown ≡ kept v n ++ ignored v n

pub shape-view : (v : View) → Orderly v → Shape v
shape-view v o = record {
  range = λ m. (each-mem (Bounded v (height v)) (reached-bounds v o) m).0;
  level = λ m. (each-mem (Bounded v (height v)) (reached-bounds v o) m).1;
  row-of = λ m. (reached-row v _ o m).row;
  row-in = λ h m. (row-reached v _ _ h m, (each-mem (At v _) (level-at v _ o h).row.at m).level);
  root-row = row-root v;
  leaf-row = row-leaves v;
  row-below = row-below v;
  row-linked = λ d h. (level-at v d o h).row.chain;
  row-rises = λ d h. ascending v d (row_at v d) (level-at v d o h).row;
  once = o.once;
  few = reached-few v o;
  leaves-are = λ n. mem-leaves v n o;
  keys = λ {n} m. each-both (λ (s : Slot). (v.node n).fence ≤ s.key) (λ (s : Slot). within v n s.key ≡ true) (kept v n)
      (kept-from v n (each-mem (Good v) o.good m)) (kept-within v n);
  shows = λ {n} m. shown-split v n (each-mem (Good v) o.good m);
}
