-- Members of a list: what holds of each, by index, by the test that computes, in joined lists.
use Rattle.std.proofs.Common.{◌≡◌, ℕ, zero, suc, ◌*◌, ◌<◌, ◌≤◌, Bool, true, false, ◌||◌, eqb, ◌≢◌, ◌↔◌, List, [], ◌∷◌, ◌++◌, map, length}
use Rattle.std.proofs.Common.{get_or, take, drop, sym, refl, ap, ◌∙◌, ⊎_elim, arith, length-append, eq-eqb, ne_eqb, eqb-true}
use mathlib.Core.Bool.{or_assoc, false≢true}
use mathlib.Core.List.Memᴰ
use mathlib.Core.List.{map-append, Memᴰ}
use borrow.Author.Tests.{eqb-false}
use Rattle.model.specs.Reached.{flat}
use Rattle.model.specs.SoundTest.{elem}
use Rattle.list_laws.proofs.Tools.{or-right, or-false-iff, refuted, Each, Each-append, Each-split, Each-map}

-- what holds of each item holds of a member
pub each-mem {ℓ} : {A : Type ℓ} (P : A → Type 0) {x : A} {xs : List A} → Each P xs → Memᴰ x xs → P x
each-mem P h (Memᴰ.head e) = rw e h.0
each-mem P h (Memᴰ.tail m) = each-mem P h.1 m

-- what holds of every member holds of each item
pub mem-each {ℓ} : {A : Type ℓ} (P : A → Type 0) (xs : List A) → ((x : A) → Memᴰ x xs → P x) → Each P xs
mem-each P [] h = tt
mem-each P (x ∷ xs) h = (h x (Memᴰ.head refl), mem-each P xs (λ y m. h y (Memᴰ.tail m)))

-- what holds of each item holds of each of the first n
pub each-take {ℓ} : {A : Type ℓ} (P : A → Type 0) (n : ℕ) (xs : List A) → Each P xs → Each P (take n xs)
each-take P zero xs h = tt
each-take P (suc n) [] h = tt
each-take P (suc n) (x ∷ xs) h = (h.0, each-take P n xs h.1)

-- what holds of each item holds of each one after the first n
pub each-drop {ℓ} : {A : Type ℓ} (P : A → Type 0) (n : ℕ) (xs : List A) → Each P xs → Each P (drop n xs)
each-drop P zero xs h = h
each-drop P (suc n) [] h = tt
each-drop P (suc n) (x ∷ xs) h = each-drop P n xs h.1

-- what holds at every index of a list holds of each item
pub each-index {ℓ} : {A : Type ℓ} (P : A → Type 0) (xs : List A) (d : A) → ((i : ℕ) → i < length xs → P (get_or xs i d)) → Each P xs
each-index P [] d h = tt
each-index P (x ∷ xs) d h = (h 0 (omega arith), each-index P xs d (λ i l. h (suc i) (omega arith)))

-- the item at an index inside a list is a member of it
pub get_d-in {ℓ} : {A : Type ℓ} (d : A) (xs : List A) (i : ℕ) → i < length xs → Memᴰ (get_or xs i d) xs
get_d-in d [] i h = absurd (omega arith)
get_d-in d (x ∷ xs) zero h = Memᴰ.head refl
get_d-in d (x ∷ xs) (suc i) h = Memᴰ.tail (get_d-in d xs i (omega arith))

-- a member of a list stands at some index of it
pub index-of {ℓ} : {A : Type ℓ} (d : A) {x : A} {xs : List A} → Memᴰ x xs → (i : ℕ) × (i < length xs) × (x ≡ get_or xs i d)
index-of d (Memᴰ.head e) = (0, omega arith, e)
index-of d (Memᴰ.tail m) = let u = index-of d m in (suc u.0, omega arith, u.2)

-- what holds of each item holds of the one at an index inside the list
pub each-at {ℓ} : {A : Type ℓ} (P : A → Type 0) (xs : List A) (d : A) (i : ℕ) → i < length xs → Each P xs → P (get_or xs i d)
each-at P xs d i l h = each-mem P h (get_d-in d xs i l)

-- two facts about each element, as one
pub each-both {ℓ} : {A : Type ℓ} (P Q : A → Type 0) (xs : List A) → Each P xs → Each Q xs → Each (λ (x : A). P x × Q x) xs
each-both P Q [] a b = tt
each-both P Q (x ∷ xs) a b = ((a.0, b.0), each-both P Q xs a.1 b.1)

-- statements that are equivalent hold of each item equivalently
pub each-iff {ℓ} : {A : Type ℓ} (P Q : A → Type 0) (xs : List A) → ((x : A) → P x ↔ Q x) → Each P xs ↔ Each Q xs
each-iff P Q xs e = (Each-map P Q xs (λ x. (e x).0), Each-map Q P xs (λ x. (e x).1))

-- ---- the test that computes says the same

-- the test for membership answers true exactly of the members
pub elem-iff : (x : ℕ) (xs : List ℕ) → (elem x xs ≡ true) ↔ Memᴰ x xs
unfolding elem
elem-iff x [] = (λ e. absurd (false≢true e), λ m. absurd (Memᴰ.not-nil m))
elem-iff x (y ∷ ys) = (
  λ e. go (eqb x y) refl (elem-iff x ys).0 e,
  λ m. ⊎_elim (λ e. rw (eq-eqb x y e)) (λ t. or-right (eqb x y) _ ((elem-iff x ys).1 t)) (Memᴰ.cases_cons m),
)
  where
    go : (b : Bool) → eqb x y ≡ b → (elem x ys ≡ true → Memᴰ x ys) → eqb x y || elem x ys ≡ true → Memᴰ x (y ∷ ys)
    go true c ih e = Memᴰ.head (eqb-true x y c)
    go false c ih e = Memᴰ.tail (ih (rw c at e))

-- what holds of each item holds of a number that is found in the list
pub each-elem : (P : ℕ → Type 0) (x : ℕ) (xs : List ℕ) → elem x xs ≡ true → Each P xs → P x
each-elem P x xs e h = each-mem P h ((elem-iff x xs).0 e)

-- x is in the list, or differs from each element
pub elem-false : (x : ℕ) (xs : List ℕ) → (elem x xs ≡ false) ↔ Each (λ (n : ℕ). n ≢ x) xs
unfolding elem
elem-false x [] = (λ e. tt, λ h. refl)
elem-false x (y ∷ ys) = (
  λ e. let u = (or-false-iff (eqb x y) (elem x ys)).0 e in (λ q. eqb-false x y u.0 (sym q), (elem-false x ys).0 u.1),
  λ h. (or-false-iff (eqb x y) (elem x ys)).1 (ne_eqb x y (λ q. h.0 (sym q)), (elem-false x ys).1 h.1),
)

-- x is in the list, or no member
pub elem-none : (x : ℕ) (xs : List ℕ) → (elem x xs ≡ false) ↔ (Memᴰ x xs → ⊥)
elem-none x xs = (λ e m. false≢true (sym e ∙ (elem-iff x xs).1 m), λ h. refuted (elem x xs) (λ e. h ((elem-iff x xs).0 e)))

-- a number is not in a list exactly if it is not the first item and not in the rest
pub elem-cons : (x n : ℕ) (ns : List ℕ) → (elem x (n ∷ ns) ≡ false) ↔ ((x ≢ n) × (elem x ns ≡ false))
elem-cons x n ns = (
  λ h. let u = (elem-false x (n ∷ ns)).0 h in (λ e. u.0 (sym e), (elem-false x ns).1 u.1),
  λ u. (elem-false x (n ∷ ns)).1 (λ e. u.0 (sym e), (elem-false x ns).0 u.1),
)

-- a number is not in a joined list exactly if it is in neither part
pub elem-append : (x : ℕ) (a b : List ℕ) → (elem x (a ++ b) ≡ false) ↔ ((elem x a ≡ false) × (elem x b ≡ false))
elem-append x a b = (
  λ e. let u = Each-split (λ (n : ℕ). n ≢ x) a b ((elem-false x (a ++ b)).0 e) in ((elem-false x a).1 u.0, (elem-false x b).1 u.1),
  λ u. (elem-false x (a ++ b)).1 (Each-append (λ (n : ℕ). n ≢ x) a b ((elem-false x a).0 u.0) ((elem-false x b).0 u.1)),
)

-- the same as one test
pub elem-join : (x : ℕ) (a b : List ℕ) → elem x (a ++ b) ≡ (elem x a || elem x b)
unfolding elem
elem-join x [] b = refl
elem-join x (y ∷ a) b = ap (λ (q : Bool). eqb x y || q) (elem-join x a b) ∙ sym (or_assoc (eqb x y) (elem x a) (elem x b))

-- x is in a list that has x between two parts
pub mem-here : (x : ℕ) (a b : List ℕ) → Memᴰ x (a ++ x ∷ b)
mem-here x a b = Memᴰ.append_right a (Memᴰ.head refl)

-- ---- joined lists

-- y is in the joined lists exactly if it is in the list of some member
pub mem-flat {ℓ} : {A B : Type ℓ} (g : A → List B) (y : B) (xs : List A) → Memᴰ y (flat g xs) ↔ ((x : A) × Memᴰ x xs × Memᴰ y (g x))
unfolding flat
mem-flat g y [] = (λ m. absurd (Memᴰ.not-nil m), λ m. absurd (Memᴰ.not-nil m.1))
mem-flat g y (x ∷ xs) = (
  λ m. ⊎_elim (λ h. (x, Memᴰ.head refl, h)) (λ t. let u = (mem-flat g y xs).0 t in (u.0, Memᴰ.tail u.1, u.2)) (Memᴰ.append_cases (g x) m),
  λ m. ⊎_elim (λ e. Memᴰ.append_left (flat g xs) (rw e at m.2))
      (λ t. Memᴰ.append_right (g x) ((mem-flat g y xs).1 (m.0, t, m.2))) (Memᴰ.cases_cons m.1),
)

-- functions that agree on each item of a list give the same joined list
pub flat-each : {A B : Type 0} (g h : A → List B) (ns : List A) → Each (λ (n : A). g n ≡ h n) ns → flat g ns ≡ flat h ns
unfolding flat
flat-each g h [] e = refl
flat-each g h (n ∷ ns) e = rw (e.0, flat-each g h ns e.1)

-- a list of lists, each at most so long
pub flat-short : {A B : Type 0} (g : A → List B) (k : ℕ) (xs : List A) → Each (λ (x : A). length (g x) ≤ k) xs
    → length (flat g xs) ≤ k * length xs
unfolding flat
flat-short g k [] h = omega arith
flat-short g k (x ∷ xs) h = let e = length-append (g x) (flat g xs) in let ih = flat-short g k xs h.1 in let l = h.0 in omega arith

-- mapping a joined list is joining the mapped lists
pub map-flat {ℓ} : {A B C : Type ℓ} (f : B → C) (g : A → List B) (xs : List A) → map f (flat g xs) ≡ flat (λ (x : A). map f (g x)) xs
unfolding flat
map-flat f g [] = refl
map-flat f g (x ∷ xs) = map-append f (g x) (flat g xs) ∙ ap (λ l. map f (g x) ++ l) (map-flat f g xs)
