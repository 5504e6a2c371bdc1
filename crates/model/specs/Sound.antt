-- Document 01, "Sound tables", sentence by sentence. This is what is believed; SoundTest.antt is its twin that computes.
use Rattle.std.specs.Prelude.{◌≡◌, ◌≢◌, ◌⊎◌, true, false, ℕ, suc, ◌≤◌, ◌<◌, length, get_or}
use mathlib.Core.List.{List, [], ◌∷◌, ◌++◌, Memᴰ}
use Rattle.model.specs.Table.{MARK, Words, at, header_ok, no_collection}
use Rattle.model.specs.Slots.{Slot, slot, RECORDINGS, recording, class, View, view_of, height}
use Rattle.model.specs.Search.{within, down}
use Rattle.model.specs.Reached.{kept}
use Rattle.model.specs.SoundTest.{Leftover, nothing, hidden_in, missing_in, both_in}

-- ---- reached nodes and children

-- Nodes are reached from the root by left, by sibling and by shown slots whose key is below their node's sibling's fence. (Left and the
-- slots of a leaf lead to no node.)
pub data Reached (v : View) : ℕ → Type 0 where
  at-root : Reached v v.root
  by-left : {n : ℕ} → Reached v n → 0 < (v.node n).level → Reached v (v.node n).left
  by-sibling : {n : ℕ} → Reached v n → (v.node n).sibling ≢ 0 → Reached v (v.node n).sibling
  by-slot : {n : ℕ} {s : Slot} → Reached v n → 0 < (v.node n).level → Memᴰ s (v.node n).shown → within v n s.key ≡ true → Reached v s.pointer

-- c is a child of p: its left child, or the child of a slot that leads to a node
pub data Child (v : View) (p : ℕ) : ℕ → Type 0 where
  left-child : 0 < (v.node p).level → Child v p (v.node p).left
  slot-child : {s : Slot} → 0 < (v.node p).level → Memᴰ s (v.node p).shown → within v p s.key ≡ true → Child v p s.pointer

-- ---- what a leftover excuses

-- the node that has no parent, for it lacks its slot: B
abbrev pub Lacks : View → Leftover → ℕ → Type 0
Lacks v nothing n = ⊥
Lacks v (hidden_in x) n = ⊥
Lacks v (missing_in p a trailing) n = n ≡ (v.node a).sibling
Lacks v (both_in p a) n = n ≡ (v.node a).sibling

-- the node whose last shown slots may be from its sibling's fence up: A
abbrev pub Trails : Leftover → ℕ → Type 0
Trails nothing n = ⊥
Trails (hidden_in x) n = ⊥
Trails (missing_in p a false) n = ⊥
Trails (missing_in p a true) n = n ≡ a
Trails (both_in p a) n = ⊥

-- the node that has the one hidden slot
abbrev pub Hides : Leftover → ℕ → Type 0
Hides nothing n = ⊥
Hides (hidden_in x) n = n ≡ x
Hides (missing_in p a trailing) n = ⊥
Hides (both_in p a) n = n ≡ p

-- ---- the sentences of "Settled", each but for what the leftover excuses

-- keys rise strictly
abbrev pub Rise : List Slot → Type 0
Rise [] = Unit {0}
Rise (s ∷ []) = Unit {0}
Rise (s ∷ u ∷ ss) = (s.key < u.key) × Rise (u ∷ ss)

module _ (v : View) (x : Leftover) where
  pub record SettledBut : Type 0 where
    -- The root has fence 0, sibling 0 and level at most 15.
    pub root-fence : (v.node v.root).fence ≡ 0
    pub root-sibling : (v.node v.root).sibling ≡ 0
    pub root-level : height v ≤ 15
    -- A child's level is one less than its parent's.
    pub child-level : {p c : ℕ} → Reached v p → Child v p c → suc (v.node c).level ≡ (v.node p).level
    -- Child numbers, and siblings other than 0, are in 1 to N.
    pub child-number : {p c : ℕ} → Reached v p → Child v p c → (1 ≤ c) × (c ≤ v.nodes)
    pub sibling-number : {n : ℕ} → Reached v n → (v.node n).sibling ≢ 0 → (v.node n).sibling ≤ v.nodes
    -- Each reached node has one parent, except the root.
    pub one-parent : {c : ℕ} → Reached v c → c ≢ v.root → (Lacks v x c → ⊥)
        → (p : ℕ) × Reached v p × Child v p c × ((q : ℕ) → Reached v q → Child v q c → q ≡ p)
    -- A left child's fence is its parent's; a slot's child has the slot's key as fence.
    pub left-fence : {p : ℕ} → Reached v p → 0 < (v.node p).level → (v.node (v.node p).left).fence ≡ (v.node p).fence
    pub slot-fence : {p : ℕ} {s : Slot} → Reached v p → 0 < (v.node p).level → Memᴰ s (v.node p).shown → within v p s.key ≡ true
        → (v.node s.pointer).fence ≡ s.key
    -- In each reached node words 4 to 7 and slot 11's pointer are 0.
    pub words-zero : {n : ℕ} → Reached v n → (v.node n).clear ≡ true
    -- A leaf's left is MARK.
    pub leaf-left : {n : ℕ} → Reached v n → (v.node n).level ≡ 0 → (v.node n).left ≡ MARK
    -- Shown keys rise strictly, are at least the fence (above it in an inner node) and below the sibling's fence.
    pub keys-rise : {n : ℕ} → Reached v n → Rise (kept v n)
    pub keys-from : {n : ℕ} {s : Slot} → Reached v n → Memᴰ s (kept v n) → (v.node n).fence ≤ s.key
    pub keys-above : {n : ℕ} {s : Slot} → Reached v n → 0 < (v.node n).level → Memᴰ s (kept v n) → (v.node n).fence < s.key
    pub keys-below : {n : ℕ} → Reached v n → (Trails x n → ⊥) → (v.node n).shown ≡ kept v n
    -- Siblings join each level from left to right: its nodes have different fences, and each one's sibling is the next, 0 for the last.
    pub fences-differ : {m n : ℕ} → Reached v m → Reached v n → (v.node m).level ≡ (v.node n).level → (v.node m).fence ≡ (v.node n).fence → m ≡ n
    pub sibling-level : {n : ℕ} → Reached v n → (v.node n).sibling ≢ 0 → (v.node (v.node n).sibling).level ≡ (v.node n).level
    pub sibling-right : {n : ℕ} → Reached v n → (v.node n).sibling ≢ 0 → (v.node n).fence < (v.node (v.node n).sibling).fence
    pub sibling-next : {m n : ℕ} → Reached v m → Reached v n → (v.node m).level ≡ (v.node n).level → (v.node n).fence < (v.node m).fence
        → ((v.node n).sibling ≢ 0) × ((v.node (v.node n).sibling).fence ≤ (v.node m).fence)
    -- No recording number is in the map twice. A recording number is from 1 to 72057594037927935, a class from 0 to 2.
    pub recording-once : {m n i j : ℕ} → Reached v m → (v.node m).level ≡ 0 → i < length (kept v m) → Reached v n → (v.node n).level ≡ 0 → j < length (kept v n)
        → recording (get_or (kept v m) i (slot 0 0)) ≡ recording (get_or (kept v n) j (slot 0 0)) → (m ≡ n) × (i ≡ j)
    pub recording-number : {n : ℕ} {s : Slot} → Reached v n → (v.node n).level ≡ 0 → Memᴰ s (kept v n) → (1 ≤ recording s) × (recording s < RECORDINGS)
    pub class-number : {n : ℕ} {s : Slot} → Reached v n → (v.node n).level ≡ 0 → Memᴰ s (kept v n) → class s ≤ 2
    -- Nothing is hidden.
    pub none-hidden : {n : ℕ} → Reached v n → (Hides x n → ⊥) → (v.node n).hidden ≡ 0

-- ---- the leftovers

-- (a), and in (c): one hidden slot, in node n
abbrev pub OneHidden : View → ℕ → Type 0
OneHidden v n = Reached v n × ((v.node n).hidden ≡ 1)

-- (b) and (c): B, reached only as sibling of A, lacks its slot in the parent p, which routes B's fence to A and shows at most 10 slots; B's
-- fence is above A's fence and, where B has a sibling, below that one's
pub record LacksSlot (v : View) (p a : ℕ) : Type 0 where
  pub a-reached : Reached v a
  pub b-there : (v.node a).sibling ≢ 0
  pub b-only : {n : ℕ} → Reached v n → (v.node n).sibling ≡ (v.node a).sibling → n ≡ a
  pub b-lacks : {n : ℕ} → Reached v n → Child v n (v.node a).sibling → ⊥
  pub parent : Reached v p × Child v p a
  pub routes : down v p (v.node (v.node a).sibling).fence ≡ a
  pub room-left : length (v.node p).shown ≤ 10
  pub above-a : (v.node a).fence < (v.node (v.node a).sibling).fence
  pub below-next : (v.node (v.node a).sibling).sibling ≢ 0 → (v.node (v.node a).sibling).fence < (v.node (v.node (v.node a).sibling).sibling).fence

-- A's last shown slots are some from B's fence up; those are ignored
pub record TrailingSlots (v : View) (a : ℕ) : Type 0 where
  pub ignored : List Slot
  pub some-are : 0 < length ignored
  pub last : (v.node a).shown ≡ kept v a ++ ignored
  pub from-b-up : {s : Slot} → Memᴰ s ignored → within v a s.key ≡ false

abbrev pub IsLeft : View → Leftover → Type 0
IsLeft v nothing = Unit {0}
IsLeft v (hidden_in x) = OneHidden v x
IsLeft v (missing_in p a false) = LacksSlot v p a
IsLeft v (missing_in p a true) = LacksSlot v p a × TrailingSlots v a
IsLeft v (both_in p a) = LacksSlot v p a × OneHidden v p

-- ---- settled and sound

-- No node is reached from both roots.
abbrev pub Apart : Words → Type 0
Apart t = at t 3 ≢ 0 → (m : ℕ) → Reached (view_of 1 t) m → Reached (view_of 2 t) m → ⊥

-- Each collection that there is, by the sentences of one tree; where they are used alone they include what refusal 2 tests.
pub record Settled (t : Words) : Type 0 where
  pub header : header_ok t ≡ true
  pub settled : (n : ℕ) → no_collection n t ≡ false → SettledBut (view_of n t) nothing
  pub apart : Apart t

pub record Sound (t : Words) : Type 0 where
  pub header : header_ok t ≡ true
  -- what each collection may have left; at most one leftover exists in the whole table
  pub leftover : (n : ℕ) → Leftover
  pub left : (n : ℕ) → no_collection n t ≡ false → IsLeft (view_of n t) (leftover n)
  pub settled-but : (n : ℕ) → no_collection n t ≡ false → SettledBut (view_of n t) (leftover n)
  pub one-left : at t 3 ≢ 0 → (leftover 1 ≡ nothing) ⊎ (leftover 2 ≡ nothing)
  pub apart : Apart t
