-- What a store to a slot does to the slots of a node: at its place, to their number, and to pointers that are 0.
use Rattle.std.proofs.Common.{◌≡◌, ℕ, zero, suc, ◌<◌, List, [], ◌∷◌, ◌++◌, length, get_or, refl, ap, ◌∙◌, arith}
use Rattle.model.specs.Slots.{Slot, slot}
use Rattle.model.specs.Shifts.{SlotStore, key_to, pointer_to}
use Rattle.list_laws.proofs.Steps.{do_all}

-- the slots with key x in slot i
unfoldable pub set_key : List Slot → ℕ → ℕ → List Slot
set_key [] i x = []
set_key (s ∷ ss) zero x = slot x s.pointer ∷ ss
set_key (s ∷ ss) (suc i) x = s ∷ set_key ss i x

-- the slots with pointer x in slot i
unfoldable pub set_pointer : List Slot → ℕ → ℕ → List Slot
set_pointer [] i x = []
set_pointer (s ∷ ss) zero x = slot s.key x ∷ ss
set_pointer (s ∷ ss) (suc i) x = s ∷ set_pointer ss i x

-- the slots after a store to one of them
abbrev pub do_slot_store : SlotStore → List Slot → List Slot
do_slot_store (key_to i x) ss = set_key ss i x
do_slot_store (pointer_to i x) ss = set_pointer ss i x

-- the slots after stores, one after another
abbrev pub do_slot_stores : List SlotStore → List Slot → List Slot
do_slot_stores qs ss = do_all do_slot_store qs ss

-- the place of a store, and the pointer at a place
abbrev pub place : SlotStore → ℕ
place (key_to i x) = i
place (pointer_to i x) = i

-- the pointer of slot i; 0 past the end
abbrev pub pointer_at : List Slot → ℕ → ℕ
pointer_at ss i = (get_or ss i (slot 0 0)).pointer

-- ---- at its place

pub set-key-at : (a : List Slot) (s : Slot) (r : List Slot) (n x : ℕ) → length a ≡ n → set_key (a ++ s ∷ r) n x ≡ a ++ slot x s.pointer ∷ r
unfolding set_key
set-key-at [] s r zero x e = refl
set-key-at [] s r (suc n) x e = absurd (omega arith)
set-key-at (y ∷ a) s r zero x e = absurd (omega arith)
set-key-at (y ∷ a) s r (suc n) x e = ap (λ (l : List Slot). y ∷ l) (set-key-at a s r n x (omega arith))

-- a pointer stored in slot n changes the slot that has n before it, and no other
pub set-pointer-at :
    (a : List Slot) (s : Slot) (r : List Slot) (n x : ℕ) → length a ≡ n → set_pointer (a ++ s ∷ r) n x ≡ a ++ slot s.key x ∷ r
unfolding set_pointer
set-pointer-at [] s r zero x e = refl
set-pointer-at [] s r (suc n) x e = absurd (omega arith)
set-pointer-at (y ∷ a) s r zero x e = absurd (omega arith)
set-pointer-at (y ∷ a) s r (suc n) x e = ap (λ (l : List Slot). y ∷ l) (set-pointer-at a s r n x (omega arith))

-- among the first slots
pub set-pointer-front : (a r : List Slot) (n x : ℕ) → n < length a → set_pointer (a ++ r) n x ≡ set_pointer a n x ++ r
unfolding set_pointer
set-pointer-front [] r n x h = absurd (omega arith)
set-pointer-front (s ∷ a) r zero x h = refl
set-pointer-front (s ∷ a) r (suc n) x h = ap (λ (l : List Slot). s ∷ l) (set-pointer-front a r n x (omega arith))

-- ---- a pointer that is 0 stays 0 under all stores but one of another number to it

-- the store puts no pointer but 0 in slot m
abbrev pub KeepsZero : ℕ → SlotStore → Type 0
KeepsZero m (key_to i x) = Unit {0}
KeepsZero m (pointer_to i x) = i ≡ m → x ≡ 0

zero-key : (m : ℕ) (ss : List Slot) (i x : ℕ) → pointer_at (set_key ss i x) m ≡ pointer_at ss m
unfolding set_key
zero-key m [] i x = refl
zero-key zero (s ∷ ss) zero x = refl
zero-key (suc m) (s ∷ ss) zero x = refl
zero-key zero (s ∷ ss) (suc i) x = refl
zero-key (suc m) (s ∷ ss) (suc i) x = zero-key m ss i x

zero-pointer : (m : ℕ) (ss : List Slot) (i x : ℕ) → (i ≡ m → x ≡ 0) → pointer_at ss m ≡ 0 → pointer_at (set_pointer ss i x) m ≡ 0
unfolding set_pointer
zero-pointer m [] i x k h = h
zero-pointer zero (s ∷ ss) zero x k h = k refl
zero-pointer (suc m) (s ∷ ss) zero x k h = h
zero-pointer zero (s ∷ ss) (suc i) x k h = h
zero-pointer (suc m) (s ∷ ss) (suc i) x k h = zero-pointer m ss i x (λ e. k (ap suc e)) h

-- a store that puts no pointer but 0 in slot m keeps its pointer 0
pub keeps-zero : (m : ℕ) (q : SlotStore) (ss : List Slot) → KeepsZero m q → pointer_at ss m ≡ 0 → pointer_at (do_slot_store q ss) m ≡ 0
keeps-zero m (key_to i x) ss k h = zero-key m ss i x ∙ h
keeps-zero m (pointer_to i x) ss k h = zero-pointer m ss i x k h
