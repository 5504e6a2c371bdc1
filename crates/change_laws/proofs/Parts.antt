-- A view by its parts: what a good node is, and orderly with a leftover; what a change keeps of them.
use Rattle.std.proofs.Common.{◌≡◌, ℕ, suc, true, leb, ◌≢◌, ◌↔◌, List, length, ap, ◌∙◌, arith, eq-eqb, ne_eqb, eqb-true}
use mathlib.Core.Option.{some}
use Rattle.model.specs.Table.{MARK, in_range}
use Rattle.model.specs.Slots.{Slot, View}
use Rattle.model.specs.Search.{within}
use Rattle.model.specs.Reached.{kept, named, next_child, children, reached, mapping}
use Rattle.model.specs.SoundTest.{all, sibling_ok, rising, come_first, keys_ok, linked, child_ok, slot_ok, leaf_ok, inner_ok, node_ok}
use Rattle.model.specs.SoundTest.{orderly, Leftover, nothing, leftover, room, has_room, settled_view, sound_view}
use Rattle.list_laws.proofs.Tools.{and-iff, Each, Each-map}
use Rattle.list_laws.proofs.Members.{each-both}
use Rattle.tree_laws.proofs.Rows.{Good}
use Rattle.tree_laws.proofs.Levels.{Orderly, orderly-iff}
use Rattle.tree_laws.proofs.Leftovers.{NothingUnfinished, Left, leftover-iff, settled-iff, sound-iff}
pub use Rattle.tree_laws.proofs.Rows.{no-children}
pub use Rattle.tree_laws.proofs.Leftovers.{names-linked}
pub use Rattle.tree_laws.proofs.Levels.{top-row}

-- ---- a good node

-- a good node is clear, and its sibling is as it must be
pub good-parts : (v : View) (n : ℕ) → Good v n → ((v.node n).clear ≡ true) × (sibling_ok v n ≡ true)
unfolding node_ok
good-parts v n g = let u = simp and-iff at g in (u.0, u.1.0)

-- a node of level 0 that is clear, its sibling right, is good if it passes the test of leaves
pub good-leaf : (v : View) (n : ℕ) → (v.node n).level ≡ 0 → (v.node n).clear ≡ true → sibling_ok v n ≡ true → leaf_ok v n ≡ true → Good v n
unfolding node_ok
good-leaf v n e c s l = rw (eq-eqb (v.node n).level 0 e) (simp and-iff (c, (s, l)))

-- a node above level 0 that is clear, its sibling right, is good if it passes the test of inner nodes
pub good-inner : (v : View) (d n : ℕ) → (v.node n).level ≡ suc d → (v.node n).clear ≡ true → sibling_ok v n ≡ true
    → inner_ok v n ≡ true → Good v n
unfolding node_ok
good-inner v d n e c s l = rw (ne_eqb (v.node n).level 0 (λ z. omega arith)) (simp and-iff (c, (s, l)))

pub record KeysOk (v : View) (n low : ℕ) : Type 0 where
  pub rise : rising low (kept v n) ≡ true
  pub first : come_first (λ (s : Slot). within v n s.key) (v.node n).shown ≡ true

pub keys-iff : (v : View) (n low : ℕ) → (keys_ok v n low ≡ true) ↔ KeysOk v n low
unfolding keys_ok
keys-iff v n low = (λ h. let u = (and-iff _ _).0 h in record { rise = u.0; first = u.1 }, λ k. (and-iff _ _).1 (k.rise, k.first))

pub record LeafOk (v : View) (n : ℕ) : Type 0 where
  pub left : (v.node n).left ≡ MARK
  pub keys : KeysOk v n (v.node n).fence

-- a leaf passes its test exactly if its left is MARK and its keys are right
pub leaf-iff : (v : View) (n : ℕ) → (leaf_ok v n ≡ true) ↔ LeafOk v n
unfolding leaf_ok
leaf-iff v n = (
  λ h. let u = (and-iff _ _).0 h in record { left = eqb-true _ _ u.0; keys = (keys-iff v n (v.node n).fence).0 u.1 },
  λ k. (and-iff _ _).1 (eq-eqb _ _ k.left, (keys-iff v n (v.node n).fence).1 k.keys),
)

pub record InnerOk (v : View) (n : ℕ) : Type 0 where
  pub keys : KeysOk v n (suc (v.node n).fence)
  pub left : child_ok v (v.node n).level (v.node n).fence (v.node n).left ≡ true
  pub slots : all (slot_ok v (v.node n).level) (kept v n) ≡ true
  pub range : all (in_range v.nodes) (children v n) ≡ true
  pub chain : linked v (children v n) (next_child v n) ≡ true

-- an inner node passes its test exactly if its keys, its left, its slots and its children's row are right
pub inner-iff : (v : View) (n : ℕ) → (inner_ok v n ≡ true) ↔ InnerOk v n
unfolding inner_ok
inner-iff v n = (
  λ h. let u = simp and-iff at h in record
      { keys = (keys-iff v n (suc (v.node n).fence)).0 u.0; left = u.1.0; slots = u.1.1.0; range = u.1.1.1.0; chain = u.1.1.1.1 },
  λ k. simp and-iff ((keys-iff v n (suc (v.node n).fence)).1 k.keys, (k.left, (k.slots, (k.range, k.chain)))),
)

-- ---- a leftover

-- v is orderly, and x is what is left
pub record HasLeft (v : View) (x : Leftover) : Type 0 where
  pub orderly : Orderly v
  pub left : Left v x

-- a tree passes the test of order with leftover x exactly if it is orderly and has x left
pub has-left-iff : (v : View) (x : Leftover) → ((orderly v ≡ true) × (leftover v ≡ some x)) ↔ HasLeft v x
has-left-iff v x = (
  λ h. let o = (orderly-iff v).0 h.0 in record { orderly = o; left = (leftover-iff v o.once x).0 h.1 },
  λ h. ((orderly-iff v).1 h.orderly, (leftover-iff v h.orderly.once x).1 h.left),
)

-- in a settled view nothing is unfinished in any reached node
pub all-finished : (v : View) → HasLeft v nothing → Each (NothingUnfinished v) (reached v)
all-finished v l =
    Each-map (λ (n : ℕ). ((v.node n).hidden ≡ 0) × ((kept v n ≡ (v.node n).shown) × ((v.node n).level ≢ 0 → children v n ≡ named v n)))
    (NothingUnfinished v) (reached v)
    (λ n h. record { shows = h.0; keeps = h.1.0; names = h.1.1 })
    (each-both _ _ (reached v) l.left.0 (each-both _ _ (reached v) l.left.1 l.left.2))

pub finished-left : (v : View) → Orderly v → Each (NothingUnfinished v) (reached v) → HasLeft v nothing
finished-left v o h = record {
  orderly = o;
  left = (
    Each-map (NothingUnfinished v) (λ (n : ℕ). (v.node n).hidden ≡ 0) (reached v) (λ n f. f.shows) h,
    Each-map (NothingUnfinished v) (λ (n : ℕ). kept v n ≡ (v.node n).shown) (reached v) (λ n f. f.keeps) h,
    Each-map (NothingUnfinished v) (λ (n : ℕ). (v.node n).level ≢ 0 → children v n ≡ named v n) (reached v) (λ n f. f.names) h,
  );
}

-- a tree passes the test of settled ones exactly if it is orderly and has nothing left
pub settled-left : (v : View) → (settled_view v ≡ true) ↔ HasLeft v nothing
settled-left v = (
  λ h. let s = (settled-iff v).0 h in finished-left v s.orderly s.nothing-unfinished,
  λ l. (settled-iff v).1 (record { orderly = l.orderly; nothing-unfinished = all-finished v l }),
)

-- a tree passes the test of soundness exactly if it is orderly with some leftover, and room for a lacking slot
pub sound-left : (v : View) → (sound_view v ≡ true) ↔ ((x : Leftover) × HasLeft v x × (has_room v x ≡ true))
sound-left v = (
  λ h. let s = (sound-iff v).0 h in (s.leftover, record { orderly = s.orderly; left = s.left }, s.room),
  λ u. (sound-iff v).1 (record { orderly = u.1.orderly; leftover = u.0; left = u.1.left; room = u.2 }),
)

-- ---- what a change keeps

-- v' has y left, with the map of v and the nodes that v reaches, and with room where v has it
pub record Keeps (v v' : View) (y : Leftover) : Type 0 where
  pub left : HasLeft v' y
  pub mapping : mapping v' ≡ mapping v
  pub reached : reached v' ≡ reached v
  pub room : has_room v y ≡ true → has_room v' y ≡ true

-- v' is settled with the map m, and reaches the nodes that v reaches
pub record Settles (v v' : View) (m : List Slot) : Type 0 where
  pub left : HasLeft v' nothing
  pub mapping : mapping v' ≡ m
  pub reached : reached v' ≡ reached v

-- a node with the same shown slots has the same room
pub same-room : (v v' : View) (p : ℕ) → (v'.node p).shown ≡ (v.node p).shown → room v p ≡ true → room v' p ≡ true
unfolding room
same-room v v' p e h = ap (λ (ss : List Slot). leb (length ss) 10) e ∙ h
