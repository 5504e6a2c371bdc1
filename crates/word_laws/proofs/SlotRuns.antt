-- A run of stores to the slots of one node: the table keeps everything but those slots.
use Rattle.std.proofs.Common.{◌≡◌, ℕ, suc, ◌+◌, ◌*◌, ◌<◌, true, List, [], ◌∷◌, map, take, drop, set, refl, ap, ◌∙◌, arith, length-set}
use lib.Seq.{drop-set-add, take-set-lt}
use Rattle.model.specs.Table.{Words, has_node, node_start, node, node_from}
use Rattle.model.specs.Slots.{Slot, slots_of}
use Rattle.model.specs.Orders.{apply}
use Rattle.model.specs.Shifts.{SlotStore, key_to, pointer_to, key_word, pointer_word, in_node}
use Rattle.list_laws.proofs.Tools.{Each}
use Rattle.list_laws.proofs.Steps.{do_all, Until, AtFirst}
use Rattle.table_laws.proofs.Nodes.{node-in}
use Rattle.slot_laws.proofs.SlotStores.{set_key, set_pointer, do_slot_store, do_slot_stores}
use Rattle.slot_laws.proofs.Places.{Below}
use Rattle.word_laws.proofs.Stores.{do_store}
use Rattle.word_laws.proofs.Outside.{Outside, Into, outside-start, outside-store}
use Rattle.word_laws.proofs.Frames.{has-node-same}
use Rattle.word_laws.proofs.SlotWords.{slots-of-key, slots-of-pointer}

-- t' has t's words but for the slots ss of node x
pub record Only (t t' : Words) (x : ℕ) (ss : List Slot) : Type 0 where
  pub outside : Outside (node_start x + 8) 24 t t'
  pub own : slots_of (node t' x).slots ≡ ss

pub only-start : (t : Words) (x : ℕ) → Only t t x (slots_of (node t x).slots)
only-start t x = record { outside = outside-start (node_start x + 8) 24 t; own = refl }

-- a node's slots are read from the 24 words that begin 8 words after its start
pub node-slots : (t : Words) (x : ℕ) → has_node t x ≡ true → (node t x).slots ≡ take 24 (drop (node_start x + 8) t)
unfolding node_from
node-slots t x h = rw (node-in t x h)

-- a store to word j of the slots of node x
pub slot-word : (t : Words) (x j y : ℕ) → has_node t x ≡ true → j < 24 → (node (set t (node_start x + 8 + j) y) x).slots
    ≡ set (node t x).slots j y
slot-word t x j y h l =
    rw (
      node-slots (set t (node_start x + 8 + j) y) x (has-node-same t (set t (node_start x + 8 + j) y) x (length-set t _ y) ∙ h),
      node-slots t x h,
      drop-set-add (node_start x + 8) t j y,
      take-set-lt 24 (drop (node_start x + 8) t) j y l,
    )

module _ (t : Words) (x i y : ℕ) (h : has_node t x ≡ true) (l : i < 12) where
  pub store-key : slots_of (node (set t (key_word x i) y) x).slots ≡ set_key (slots_of (node t x).slots) i y
  store-key =
      let w : key_word x i ≡ node_start x + 8 + 2 * i = omega arith in
      rw (w, slot-word t x (2 * i) y h (omega arith)) (slots-of-key i (node t x).slots y)

  pub store-pointer : slots_of (node (set t (pointer_word x i) y) x).slots ≡ set_pointer (slots_of (node t x).slots) i y
  store-pointer =
      let w : pointer_word x i ≡ node_start x + 8 + suc (2 * i) = omega arith in
      rw (w, slot-word t x (suc (2 * i)) y h (omega arith)) (slots-of-pointer i (node t x).slots y)

pub store-slot : (t : Words) (x : ℕ) (q : SlotStore) → has_node t x ≡ true → Below 12 q → slots_of (node (do_store (in_node x q) t) x).slots
    ≡ do_slot_store q (slots_of (node t x).slots)
store-slot t x (key_to i y) h l = store-key t x i y h l
store-slot t x (pointer_to i y) h l = store-pointer t x i y h l

-- a store to one of the 12 slots of node x goes into its 24 slot words
pub slot-into : (x : ℕ) (q : SlotStore) → Below 12 q → Into (node_start x + 8) 24 (in_node x q)
slot-into x (key_to i y) l = omega arith
slot-into x (pointer_to i y) l = omega arith

-- one store more to a slot of x
pub only-put : (t t' : Words) (x : ℕ) (ss : List Slot) (q : SlotStore) → has_node t x ≡ true → Below 12 q → Only t t' x ss
    → Only t (do_store (in_node x q) t') x (do_slot_store q ss)
only-put t t' x ss q h l o = record {
  outside = outside-store (node_start x + 8) 24 t t' (in_node x q) (slot-into x q l) o.outside;
  own = store-slot t' x q (has-node-same t t' x o.outside.long ∙ h) l ∙ ap (do_slot_store q) o.own;
}

-- A run of stores to the slots of x: where the slots go through P and end with Q, the tables go through what P and Q give.
pub run : (t : Words) (x : ℕ) (P Q : List Slot → Type 0) (P' Q' : Words → Type 0) → has_node t x ≡ true
    → ((t' : Words) (ss : List Slot) → Only t t' x ss → P ss → P' t') → ((t' : Words) (ss : List Slot) → Only t t' x ss → Q ss → Q' t')
    → (qs : List SlotStore) (t' : Words) (ss : List Slot) → Each (Below 12) qs → Only t t' x ss → Until do_slot_store P Q qs ss
    → Until do_store P' Q' (map (in_node x) qs) t'
run t x P Q P' Q' h f g [] t' ss i o a = g t' ss o a
run t x P Q P' Q' h f g (q ∷ qs) t' ss i o a =
    (f t' ss o a.0, run t x P Q P' Q' h f g qs _ (do_slot_store q ss) i.1 (only-put t t' x ss q h i.0 o) a.1)

pub run-first : (t : Words) (x : ℕ) (P Q R : List Slot → Type 0) (P' Q' R' : Words → Type 0) → has_node t x ≡ true
    → ((t' : Words) (ss : List Slot) → Only t t' x ss → P ss → P' t') → ((t' : Words) (ss : List Slot) → Only t t' x ss → Q ss → Q' t')
    → ((t' : Words) (ss : List Slot) → Only t t' x ss → R ss → R' t')
    → (qs : List SlotStore) (t' : Words) (ss : List Slot) → Each (Below 12) qs → Only t t' x ss → AtFirst do_slot_store P Q R qs ss
    → AtFirst do_store P' Q' R' (map (in_node x) qs) t'
run-first t x P Q R P' Q' R' h f g k [] t' ss i o a = f t' ss o a
run-first t x P Q R P' Q' R' h f g k (q ∷ qs) t' ss i o a =
    (f t' ss o a.0, run t x Q R Q' R' h g k qs _ (do_slot_store q ss) i.1 (only-put t t' x ss q h i.0 o) a.1)

pub run-end : (t : Words) (x : ℕ) → has_node t x ≡ true → (qs : List SlotStore) (t' : Words) (ss : List Slot) → Each (Below 12) qs
    → Only t t' x ss → Only t (apply (map (in_node x) qs) t') x (do_slot_stores qs ss)
unfolding apply do_all
run-end t x h [] t' ss i o = o
run-end t x h (q ∷ qs) t' ss i o = run-end t x h qs _ (do_slot_store q ss) i.1 (only-put t t' x ss q h i.0 o)
