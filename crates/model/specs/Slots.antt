-- Document 01, "Table and node": the slots of a node, in use, shown and hidden; and what is read of each node of a table.
use Rattle.std.specs.Prelude.{Bool, true, false, ◌&&◌, List, [], ◌∷◌, ℕ, ◌+◌, ◌*◌, ◌/◌, ◌%◌, leb, ltb, eqb, length, get_or}
use Rattle.model.specs.Table.{Words, at, node, spare, all_zero, nodes, root, root_word}

pub record Slot : Type 0 where
  pub key : ℕ
  pub pointer : ℕ

abbrev pub slot : ℕ → ℕ → Slot
slot k p = record { key = k; pointer = p }

-- slots, a key word and a pointer word each
unfoldable pub slots_of : Words → List Slot
slots_of [] = []
slots_of (k ∷ []) = []
slots_of (k ∷ p ∷ ws) = slot k p ∷ slots_of ws

-- and back: a key word and a pointer word (recording and class) for each
abbrev pub slot_words : List Slot → Words
slot_words [] = []
slot_words (s ∷ ss) = s.key ∷ s.pointer ∷ slot_words ss

-- ---- what a leaf's pointer says

-- 2 to the power 56: so many numbers fit into a pointer's low 56 bits
abbrev pub RECORDINGS : ℕ
RECORDINGS = 72057594037927936

-- A leaf pointer's top 8 bits are the class, its low 56 bits the recording number.
unfoldable pub recording_of : (pointer : ℕ) → ℕ
recording_of p = p % RECORDINGS

unfoldable pub class_of : (pointer : ℕ) → ℕ
class_of p = p / RECORDINGS

unfoldable pub pointer_of : (recording class : ℕ) → ℕ
pointer_of r c = c * RECORDINGS + r

-- the pointer with another class
abbrev pub with_class : (pointer class : ℕ) → ℕ
with_class p c = pointer_of (recording_of p) c

abbrev pub recording : Slot → ℕ
recording s = recording_of s.pointer

abbrev pub class : Slot → ℕ
class s = class_of s.pointer

-- A recording number is from 1 to 72057594037927935; a class is 0 open, 1 room or 2 closed.
unfoldable pub recording_ok : ℕ → Bool
recording_ok r = leb 1 r && ltb r RECORDINGS

unfoldable pub class_ok : ℕ → Bool
class_ok c = leb c 2

unfoldable pub pointer_ok : ℕ → Bool
pointer_ok p = recording_ok (recording_of p) && class_ok (class_of p)

-- ---- in use, shown and hidden

-- The slots in use end before the first pointer 0.
unfoldable pub in_use : List Slot → List Slot
in_use [] = []
in_use (s ∷ ss) = elim (eqb s.pointer 0) [ true ↦ [] | false ↦ s ∷ in_use ss ]

-- A slot in use is hidden if its pointer equals the pointer before it; the others are shown. p is the pointer before the first slot.
unfoldable pub shown : ℕ → List Slot → List Slot
shown p [] = []
shown p (s ∷ ss) = elim (eqb s.pointer p) [ true ↦ shown s.pointer ss | false ↦ s ∷ shown s.pointer ss ]

unfoldable pub hidden_slots : ℕ → List Slot → List Slot
hidden_slots p [] = []
hidden_slots p (s ∷ ss) = elim (eqb s.pointer p) [ true ↦ s ∷ hidden_slots s.pointer ss | false ↦ hidden_slots s.pointer ss ]

-- A node is full with 11 shown slots.
unfoldable pub full : List Slot → Bool
full ss = eqb (length ss) 11

-- the slots in use of node i
unfoldable pub used : Words → ℕ → List Slot
used t i = in_use (slots_of (node t i).slots)

-- What search, reached nodes, the map and soundness read of a table: N, the root, and of each node its header words, its shown slots,
-- how many slots are hidden, and whether words 4 to 7 and slot 11's pointer are 0. (For slot 0 the pointer before it is left.)
pub record NodeView : Type 0 where
  pub left : ℕ
  pub sibling : ℕ
  pub level : ℕ
  pub fence : ℕ
  pub shown : List Slot
  pub hidden : ℕ
  pub clear : Bool

pub record View : Type 0 where
  pub nodes : ℕ
  pub root : ℕ
  pub node : ℕ → NodeView

unfoldable pub clear_in : Words → ℕ → Bool
clear_in t i = all_zero (spare t i) && eqb (get_or (node t i).slots 23 0) 0

abbrev pub node_view : Words → ℕ → NodeView
node_view t i =
    let n = node t i in
    record {
      left = n.left;
      sibling = n.sibling;
      level = n.level;
      fence = n.fence;
      shown = shown n.left (used t i);
      hidden = length (hidden_slots n.left (used t i));
      clear = clear_in t i;
    }

abbrev pub view_from : Words → ℕ → View
view_from t r = record { nodes = nodes t; root = r; node = node_view t }

-- of the tree of collection n, and of collection 1
abbrev pub view_of : (n : ℕ) → Words → View
view_of n t = view_from t (at t (root_word n))

abbrev pub view : Words → View
view t = view_from t (root t)

-- the root's level
abbrev pub height : View → ℕ
height v = (v.node v.root).level
