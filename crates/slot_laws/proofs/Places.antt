-- How many stores a shift in, a shift out and a close have, the places that they go to, and the pointers that they leave 0.
use Rattle.std.proofs.Common.{◌≡◌, ℕ, suc, pred, ◌+◌, ◌-◌, ◌*◌, ◌<◌, ◌≤◌, Bool, true, false, eqb, List, [], ◌∷◌, ◌++◌, length, take, drop}
use Rattle.std.proofs.Common.{refl, arith, length-append, length-drop}
use Rattle.model.specs.Slots.{Slot, hidden_slots}
use Rattle.model.specs.Shifts.{SlotStore, key_to, pointer_to, last_pointer, move_up, move_down, shift_in, shift_out, close, hidden_place}
use Rattle.list_laws.proofs.Tools.{Each, Each-append, Each-map}
use Rattle.list_laws.proofs.Steps.{Along, along-each}
use Rattle.slot_laws.proofs.SlotStores.{do_slot_store, place, pointer_at, KeepsZero, keeps-zero}

-- ---- the number of stores

length-up : (i : ℕ) (ss : List Slot) → length (move_up i ss) ≡ 2 * length ss
unfolding move_up
length-up i [] = refl
length-up i (s ∷ ss) =
    rw (length-append (move_up (suc i) ss) (pointer_to (suc i) s.pointer ∷ key_to (suc i) s.key ∷ []), length-up (suc i) ss) (omega arith)

length-down : (i : ℕ) (ss : List Slot) → length (move_down i ss) ≡ 2 * length ss
unfolding move_down
length-down i [] = refl
length-down i (s ∷ ss) = rw (length-down (suc i) ss) (omega arith)

-- a shift in at place p has 4 stores, and 2 for each slot from p on
pub shift-in-count : (left : ℕ) (ss : List Slot) (p k x : ℕ) → length (shift_in left ss p k x) ≡ 4 + 2 * (length ss - p)
unfolding shift_in
shift-in-count left ss p k x = simp (length-append, length-up, length-drop) (omega arith)

-- a close of slot p has 2 stores for each slot from p on, less 1
pub close-count : (ss : List Slot) (p : ℕ) → p < length ss → suc (length (close ss p)) ≡ 2 * (length ss - p)
unfolding close
close-count ss p h = simp (length-append, length-down, length-drop) (omega arith)

pub shift-out-count : (left : ℕ) (ss : List Slot) (p : ℕ) → p < length ss → length (shift_out left ss p) ≡ 2 * (length ss - p)
unfolding shift_out
shift-out-count left ss p h = close-count ss p h

-- ---- the places

-- the place of a hidden slot
pub hidden-place-lt : (p : ℕ) (us : List Slot) → length (hidden_slots p us) ≡ 1 → hidden_place p us < length us
unfolding hidden_slots hidden_place
hidden-place-lt p [] h = absurd (omega arith)
hidden-place-lt p (s ∷ us) h = go (eqb s.pointer p) refl (hidden-place-lt s.pointer us)
  where
    go : (b : Bool) → eqb s.pointer p ≡ b → (length (hidden_slots s.pointer us) ≡ 1 → hidden_place s.pointer us < length us)
        → hidden_place p (s ∷ us) < length (s ∷ us)
    go true e ih = rw (e, hidden_place) (omega arith)
    go false e ih = let i = ih (rw (e, hidden_slots) at h) in rw (e, hidden_place) (omega arith)

-- the store goes to a slot before slot b
abbrev pub Below : ℕ → SlotStore → Type 0
Below b q = place q < b

up-places : (b i : ℕ) (ss : List Slot) → i + length ss < b → Each (Below b) (move_up i ss)
unfolding move_up
up-places b i [] h = tt
up-places b i (s ∷ ss) h =
    Each-append (Below b) (move_up (suc i) ss) _ (up-places b (suc i) ss (omega arith)) (omega arith, (omega arith, tt))

down-places : (b i : ℕ) (ss : List Slot) → i + length ss ≤ b → Each (Below b) (move_down i ss)
unfolding move_down
down-places b i [] h = tt
down-places b i (s ∷ ss) h = (omega arith, (omega arith, down-places b (suc i) ss (omega arith)))

-- all stores of a shift in but the first: they go to the slots in use and the place behind them
abbrev later : (left : ℕ) → List Slot → (p k x : ℕ) → List SlotStore
later left ss p k x = move_up p (drop p ss) ++ (pointer_to p (last_pointer left (take p ss)) ∷ key_to p k ∷ pointer_to p x ∷ [])

later-places : (left : ℕ) (ss : List Slot) (p k x b : ℕ) → p ≤ length ss → length ss < b → Each (Below b) (later left ss p k x)
later-places left ss p k x b h c =
    Each-append (Below b) (move_up p (drop p ss)) _ (up-places b p (drop p ss) (rw (length-drop p ss) (omega arith)))
    (omega arith, (omega arith, (omega arith, tt)))

-- a shift in stores to slots before slot b, if the slots and one more are fewer than b
pub shift-in-places :
    (left : ℕ) (ss : List Slot) (p k x b : ℕ) → p ≤ length ss → suc (length ss) < b → Each (Below b) (shift_in left ss p k x)
unfolding shift_in
shift-in-places left ss p k x b h c = (c, later-places left ss p k x b h (omega arith))

-- a close stores to slots before slot b, if the slots are at most b
pub close-places : (ss : List Slot) (p b : ℕ) → p < length ss → length ss ≤ b → Each (Below b) (close ss p)
unfolding close
close-places ss p b h c =
    let l : pred (length ss) < b = omega arith in
    Each-append (Below b) (move_down p (drop (suc p) ss)) _
    (down-places b p (drop (suc p) ss) (rw (length-drop (suc p) ss) (omega arith))) (l, tt)

-- a shift out stores to slots before slot b, if the slots are at most b
pub shift-out-places : (left : ℕ) (ss : List Slot) (p b : ℕ) → p < length ss → length ss ≤ b → Each (Below b) (shift_out left ss p)
unfolding shift_out
shift-out-places left ss p b h c = (omega arith, close-places ss p b h c)

-- ---- a pointer behind the slots in use that is 0 stays 0

below-zero : (m : ℕ) (q : SlotStore) → Below m q → KeepsZero m q
below-zero m (key_to i x) h = tt
below-zero m (pointer_to i x) h = λ e. absurd (omega arith)

belows-zero : (m : ℕ) (qs : List SlotStore) → Each (Below m) qs → Each (KeepsZero m) qs
belows-zero m qs = Each-map (Below m) (KeepsZero m) qs (below-zero m)

-- a shift in stores no pointer but 0 in slot m, if the slots are fewer than m
pub shift-in-zero : (left : ℕ) (ss : List Slot) (p k x m : ℕ) → p ≤ length ss → length ss < m → Each (KeepsZero m) (shift_in left ss p k x)
unfolding shift_in
shift-in-zero left ss p k x m h c = ((λ e. refl), belows-zero m (later left ss p k x) (later-places left ss p k x m h c))

-- a close stores no pointer but 0 in slot m, if the slots are at most m
pub close-zero : (ss : List Slot) (p m : ℕ) → p < length ss → length ss ≤ m → Each (KeepsZero m) (close ss p)
close-zero ss p m h c = belows-zero m (close ss p) (close-places ss p m h c)

-- a shift out stores no pointer but 0 in slot m, if the slots are at most m
pub shift-out-zero : (left : ℕ) (ss : List Slot) (p m : ℕ) → p < length ss → length ss ≤ m → Each (KeepsZero m) (shift_out left ss p)
shift-out-zero left ss p m h c = belows-zero m (shift_out left ss p) (shift-out-places left ss p m h c)

-- stores that put no pointer but 0 in slot m keep its pointer 0 at each step
pub zero-along : (m : ℕ) (qs : List SlotStore) (all : List Slot) → Each (KeepsZero m) qs → pointer_at all m ≡ 0
    → Along do_slot_store (λ (l : List Slot). pointer_at l m ≡ 0) qs all
zero-along m = along-each do_slot_store (λ (l : List Slot). pointer_at l m ≡ 0) (KeepsZero m) (keeps-zero m)
