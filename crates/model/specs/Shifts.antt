-- Document 01, "Orders": the stores of a shift in, a shift out and a close, over any number of slots.
use Rattle.std.specs.Prelude.{true, false, List, [], ◌∷◌, ◌++◌, ℕ, suc, pred, ◌+◌, ◌*◌, eqb, ltb, length, take, drop}
use Rattle.model.specs.Table.{node_start}
use Rattle.model.specs.Slots.{Slot}
use Rattle.model.specs.Orders.{Store, put}

-- a store to slot i of a node: key i := x, or pointer i := x
pub data SlotStore : Type 0 where
  key_to : (i x : ℕ) → SlotStore
  pointer_to : (i x : ℕ) → SlotStore

-- as a store to a word of the table, for node n
abbrev pub key_word : ℕ → ℕ → ℕ
key_word n i = node_start n + (8 + 2 * i)

abbrev pub pointer_word : ℕ → ℕ → ℕ
pointer_word n i = node_start n + (9 + 2 * i)

abbrev pub in_node : ℕ → SlotStore → Store
in_node n (key_to i x) = put (key_word n i) x
in_node n (pointer_to i x) = put (pointer_word n i) x

-- the last pointer of these slots, where p comes before the first
unfoldable pub last_pointer : ℕ → List Slot → ℕ
last_pointer p [] = p
last_pointer p (s ∷ ss) = last_pointer s.pointer ss

-- slots that begin at place i move one up, the last first: pointer i+1 := pointer i, then key i+1 := key i
unfoldable pub move_up : ℕ → List Slot → List SlotStore
move_up i [] = []
move_up i (s ∷ ss) = move_up (suc i) ss ++ (pointer_to (suc i) s.pointer ∷ key_to (suc i) s.key ∷ [])

-- slots that begin at place i+1 move one down, the first first: key i := key i+1, then pointer i := pointer i+1
unfoldable pub move_down : ℕ → List Slot → List SlotStore
move_down i [] = []
move_down i (s ∷ ss) = key_to i s.key ∷ pointer_to i s.pointer ∷ move_down (suc i) ss

-- Shift in, at slot p of a node with these n shown slots: pointer n+1 := 0; for i from n−1 down to p, pointer i+1 := pointer i, then
-- key i+1 := key i; pointer p := the pointer before it; key p; pointer p := the new one.
unfoldable pub shift_in : (left : ℕ) → List Slot → (p k x : ℕ) → List SlotStore
shift_in left ss p k x =
    pointer_to (suc (length ss)) 0 ∷ (move_up p (drop p ss) ++ (pointer_to p (last_pointer left (take p ss)) ∷ key_to p k ∷ pointer_to p x ∷ []))

-- Close a hidden slot p: shift out without its first store, n counting the hidden slot.
unfoldable pub close : List Slot → (p : ℕ) → List SlotStore
close ss p = move_down p (drop (suc p) ss) ++ (pointer_to (pred (length ss)) 0 ∷ [])

-- Shift out: pointer p := the pointer before it; for i from p to n−2, key i := key i+1, then pointer i := pointer i+1; pointer n−1 := 0.
unfoldable pub shift_out : (left : ℕ) → List Slot → (p : ℕ) → List SlotStore
shift_out left ss p = pointer_to p (last_pointer left (take p ss)) ∷ close ss p

-- the place of key k: before the first slot whose key is not below it
unfoldable pub place_of : ℕ → List Slot → ℕ
place_of k [] = 0
place_of k (s ∷ ss) = elim (ltb s.key k) [ true ↦ suc (place_of k ss) | false ↦ 0 ]

-- the place of the first hidden slot
unfoldable pub hidden_place : ℕ → List Slot → ℕ
hidden_place p [] = 0
hidden_place p (s ∷ ss) = elim (eqb s.pointer p) [ true ↦ 0 | false ↦ suc (hidden_place s.pointer ss) ]
