-- Keys and recordings in a list of pairs, and a pair that enters or leaves it at its key's place.
use Rattle.std.proofs.Common.{◌≡◌, ℕ, suc, ◌<◌, Bool, true, false, ◌&&◌, eqb, leb, ◌↔◌, List, [], ◌∷◌, ◌++◌, map, drop, refl, ap, ◌∙◌}
use Rattle.std.proofs.Common.{arith, le-ltb, lt-ltb, eq-eqb, ne_eqb, eqb-true}
use mathlib.Core.Bool.{false≢true}
use mathlib.Core.List.{map-append}
use mathlib.Core.Option.{some}
use borrow.Author.Tests.{eqb-false}
use Rattle.model.specs.Slots.{Slot, slot, with_class, recording}
use Rattle.model.specs.Search.{first_with}
use Rattle.model.specs.SoundTest.{elem, rising}
use Rattle.model.specs.Shifts.{place_of}
use Rattle.model.specs.Refusals.{has_key, has_recording}
use Rattle.model.specs.Ledger.{enter, leave, reclass}
use Rattle.list_laws.proofs.Tools.{eqb-sym, or-false-iff, Each, Each-map, Misses, first-here, first-past}
use Rattle.list_laws.proofs.Members.{elem-append}
use Rattle.tree_laws.proofs.Rising.{lower, upper}

-- ---- the tests of keys and recordings

-- pairs have no key k exactly if each key is another
pub has-key-iff : (k : ℕ) (ss : List Slot) → (has_key k ss ≡ false) ↔ Misses k ss
unfolding has_key
has-key-iff k [] = (λ e. tt, λ u. refl)
has-key-iff k (s ∷ ss) = (
  λ h. let u = (or-false-iff (eqb s.key k) (has_key k ss)).0 h in (eqb-false s.key k u.0, (has-key-iff k ss).0 u.1),
  λ m. (or-false-iff (eqb s.key k) (has_key k ss)).1 (ne_eqb s.key k m.0, (has-key-iff k ss).1 m.1),
)

-- if pairs have the key k, a first pair with it is found
pub has-key-found : (k : ℕ) (ss : List Slot) → has_key k ss ≡ true → (x : ℕ) × (first_with k ss ≡ some (slot k x))
unfolding has_key
has-key-found k [] h = absurd (false≢true h)
has-key-found k (s ∷ ss) h = go (eqb s.key k) refl (has-key-found k ss)
  where
    go : (b : Bool) → eqb s.key k ≡ b → (has_key k ss ≡ true → (x : ℕ) × (first_with k ss ≡ some (slot k x))) → (x : ℕ)
        × (first_with k (s ∷ ss) ≡ some (slot k x))
    go true c ih = let e = eqb-true s.key k c in (s.pointer, first-here k s ss e ∙ ap (λ (j : ℕ). some (slot j s.pointer)) e)
    go false c ih = let u = ih (rw (c, has_key) at h) in (u.0, first-past k s ss (eqb-false s.key k c) ∙ u.1)

-- the test for a recording number is the test for it among the recording numbers of all pairs
pub has-recording : (r : ℕ) (ss : List Slot) → has_recording r ss ≡ elem r (map recording ss)
unfolding has_recording elem
has-recording r [] = refl
has-recording r (s ∷ ss) = rw (eqb-sym (recording s) r, has-recording r ss)

pub recordings-append :
    (r : ℕ) (a b : List Slot)
    → (elem r (map recording (a ++ b)) ≡ false) ↔ ((elem r (map recording a) ≡ false) × (elem r (map recording b) ≡ false))
recordings-append r a b = rw (map-append recording a b) (elem-append r (map recording a) (map recording b))

-- ---- one slot more or less

-- the slot (k, x) put in at the place of k, the slot at the place of k taken out
abbrev pub slot_in : (k x : ℕ) → List Slot → List Slot
slot_in k x ss = lower k ss ++ slot k x ∷ upper k ss

abbrev pub slot_out : ℕ → List Slot → List Slot
slot_out k ss = lower k ss ++ drop (suc (place_of k ss)) ss

-- the slot at the place of k with the pointer x
abbrev pub slot_to : (k x : ℕ) → List Slot → List Slot
slot_to k x ss = lower k ss ++ slot k x ∷ drop (suc (place_of k ss)) ss

-- ---- the ledger

-- a pair whose key is above all keys of a and below all of b enters between a and b
pub enter-at : (k r : ℕ) (a b : List Slot) → Each (λ (s : Slot). s.key < k) a → Each (λ (s : Slot). k < s.key) b
    → enter k r (a ++ b) ≡ a ++ slot k r ∷ b
unfolding enter
enter-at k r [] [] x y = refl
enter-at k r [] (s ∷ b) x y = rw (lt-ltb k s.key y.0)
enter-at k r (s ∷ a) b x y = rw (le-ltb k s.key (let q = x.0 in omega arith)) (ap (λ (l : List Slot). s ∷ l) (enter-at k r a b x.1 y))

leave-above : (k : ℕ) (b : List Slot) → Each (λ (s : Slot). k < s.key) b → leave k b ≡ b
unfolding leave
leave-above k [] y = refl
leave-above k (s ∷ b) y = rw (ne_eqb s.key k (λ e. let q = y.0 in omega arith)) (ap (λ (l : List Slot). s ∷ l) (leave-above k b y.1))

pub leave-at : (k r : ℕ) (a b : List Slot) → Each (λ (s : Slot). s.key < k) a → Each (λ (s : Slot). k < s.key) b
    → leave k (a ++ slot k r ∷ b) ≡ a ++ b
unfolding leave
leave-at k r [] b x y = rw (eq-eqb k k refl) (leave-above k b y)
leave-at k r (s ∷ a) b x y = rw (ne_eqb s.key k (λ e. let q = x.0 in omega arith)) (ap (λ (l : List Slot). s ∷ l) (leave-at k r a b x.1 y))

-- ---- another pointer in a slot

pub rising-other : (low k x y : ℕ) (a b : List Slot) → rising low (a ++ slot k x ∷ b) ≡ rising low (a ++ slot k y ∷ b)
unfolding rising
rising-other low k x y [] b = refl
rising-other low k x y (s ∷ a) b = ap (λ (c : Bool). leb low s.key && c) (rising-other (suc s.key) k x y a b)

pub each-other : (P : ℕ → Type 0) (k x y : ℕ) (a b : List Slot) → Each (λ (s : Slot). P s.key) (a ++ slot k x ∷ b)
    → Each (λ (s : Slot). P s.key) (a ++ slot k y ∷ b)
each-other P k x y [] b h = h
each-other P k x y (s ∷ a) b h = (h.0, each-other P k x y a b h.1)

reclass-else : (k c : ℕ) (b : List Slot) → Misses k b → reclass k c b ≡ b
unfolding reclass
reclass-else k c [] m = refl
reclass-else k c (s ∷ b) m = rw (ne_eqb s.key k m.0) (ap (λ (l : List Slot). s ∷ l) (reclass-else k c b m.1))

pub reclass-at : (k c x : ℕ) (a b : List Slot) → Each (λ (s : Slot). s.key < k) a → Each (λ (s : Slot). k < s.key) b
    → reclass k c (a ++ slot k x ∷ b) ≡ a ++ slot k (with_class x c) ∷ b
unfolding reclass
reclass-at k c x [] b l h =
    rw (eq-eqb k k refl)
    (ap (λ (r : List Slot). slot k (with_class x c) ∷ r)
    (reclass-else k c b (Each-map (λ (s : Slot). k < s.key) (λ (s : Slot). s.key ≡ k → ⊥) b (λ s q e. omega arith) h)))
reclass-at k c x (s ∷ a) b l h =
    rw (ne_eqb s.key k (λ e. let q = l.0 in omega arith)) (ap (λ (r : List Slot). s ∷ r) (reclass-at k c x a b l.1 h))
