-- Filtered lists.
use Rattle.std.proofs.Common.{◌≡◌, ℕ, suc, ◌≤◌, Bool, true, false, ◌&&◌, leb, ◌↔◌, List, [], ◌∷◌, ◌++◌, length, sym, refl, ap, ◌∙◌, ⊎_elim}
use Rattle.std.proofs.Common.{arith}
use mathlib.Core.Bool.{false≢true}
use mathlib.Core.List.Memᴰ
use mathlib.Core.List.{Memᴰ}
use Rattle.model.specs.Slots.{Slot}
use Rattle.model.specs.Reached.{filter}
use Rattle.model.specs.SoundTest.{elem}
use Rattle.model.specs.Listing.{in_range_of}
use Rattle.list_laws.proofs.Tools.{decode, refuted, same-test, Each, Each-map}
use Rattle.list_laws.proofs.Members.{elem-iff}

-- a filter keeps a first item that passes its test
pub filter-yes {ℓ} : {A : Type ℓ} (q : A → Bool) (x : A) (xs : List A) → q x ≡ true → filter q (x ∷ xs) ≡ x ∷ filter q xs
unfolding filter
filter-yes q x xs c = rw (c, filter)

-- a filter drops a first item that fails its test
pub filter-no {ℓ} : {A : Type ℓ} (q : A → Bool) (x : A) (xs : List A) → q x ≡ false → filter q (x ∷ xs) ≡ filter q xs
unfolding filter
filter-no q x xs c = rw (c, filter)

-- filtering a joined list is joining the two filtered ones
pub filter-append {ℓ} : {A : Type ℓ} (q : A → Bool) (a b : List A) → filter q (a ++ b) ≡ filter q a ++ filter q b
filter-append q [] b = unfold filter in refl
filter-append {A = A} q (x ∷ a) b = go (q x) refl (filter-append q a b)
  where
    go : (c : Bool) → q x ≡ c → filter q (a ++ b) ≡ filter q a ++ filter q b → filter q (x ∷ a ++ b) ≡ filter q (x ∷ a) ++ filter q b
    go true c ih = rw (filter-yes q x (a ++ b) c, filter-yes q x a c) (ap (λ (l : List A). x ∷ l) ih)
    go false c ih = rw (filter-no q x (a ++ b) c, filter-no q x a c) ih

-- by two tests that agree on each element
pub filter-same {ℓ} : {A : Type ℓ} (p q : A → Bool) (xs : List A) → Each (λ (x : A). p x ≡ q x) xs → filter p xs ≡ filter q xs
filter-same p q [] h = unfold filter in refl
filter-same {A = A} p q (x ∷ xs) h = go (q x) refl (filter-same p q xs h.1)
  where
    go : (b : Bool) → q x ≡ b → filter p xs ≡ filter q xs → filter p (x ∷ xs) ≡ filter q (x ∷ xs)
    go true e ih = filter-yes p x xs (h.0 ∙ e) ∙ ap (λ (l : List A). x ∷ l) ih ∙ sym (filter-yes q x xs e)
    go false e ih = filter-no p x xs (h.0 ∙ e) ∙ ih ∙ sym (filter-no q x xs e)

-- the members of a filtered list are the list's members that pass
pub mem-filter {ℓ} : {A : Type ℓ} (q : A → Bool) (x : A) (xs : List A) → Memᴰ x (filter q xs) ↔ (Memᴰ x xs × (q x ≡ true))
unfolding filter
mem-filter q x [] = (λ m. absurd (Memᴰ.not-nil m), λ m. m.0)
mem-filter {A = A} q x (y ∷ ys) = go (q y) refl (mem-filter q x ys)
  where
    go : (b : Bool) → q y ≡ b → Memᴰ x (filter q ys) ↔ (Memᴰ x ys × (q x ≡ true))
        → Memᴰ x (filter q (y ∷ ys)) ↔ (Memᴰ x (y ∷ ys) × (q x ≡ true))
    go true c ih = rw (filter-yes q y ys c) (
      λ m. ⊎_elim (λ e. (Memᴰ.head e, ap q e ∙ c)) (λ t. let u = ih.0 t in (Memᴰ.tail u.0, u.1)) (Memᴰ.cases_cons m),
      λ m. ⊎_elim (λ e. Memᴰ.head e) (λ t. Memᴰ.tail (ih.1 (t, m.1))) (Memᴰ.cases_cons m.0),
    )
    go false c ih = rw (filter-no q y ys c) (
      λ m. let u = ih.0 m in (Memᴰ.tail u.0, u.1),
      λ m. ⊎_elim (λ e. absurd (false≢true (sym c ∙ ap q (sym e) ∙ m.1))) (λ t. ih.1 (t, m.1)) (Memᴰ.cases_cons m.0),
    )

-- a filtered list is no longer than the list
pub filter-short {ℓ} : {A : Type ℓ} (q : A → Bool) (xs : List A) → length (filter q xs) ≤ length xs
unfolding filter
filter-short q [] = omega arith
filter-short q (x ∷ xs) = go (q x) refl (filter-short q xs)
  where
    go : (b : Bool) → q x ≡ b → length (filter q xs) ≤ length xs → length (filter q (x ∷ xs)) ≤ suc (length xs)
    go true c ih = rw (filter-yes q x xs c) (omega arith)
    go false c ih = rw (filter-no q x xs c) (omega arith)

-- if every item passes, the filter keeps the whole list
pub filter-all {ℓ} : {A : Type ℓ} (q : A → Bool) (xs : List A) → Each (λ (x : A). q x ≡ true) xs → filter q xs ≡ xs
unfolding filter
filter-all q [] h = refl
filter-all q (x ∷ xs) h = filter-yes q x xs h.0 ∙ ap (λ l. x ∷ l) (filter-all q xs h.1)

-- if every item fails, the filter keeps nothing
pub filter-none {ℓ} : {A : Type ℓ} (q : A → Bool) (xs : List A) → Each (λ (x : A). q x ≡ false) xs → filter q xs ≡ []
unfolding filter
filter-none q [] h = refl
filter-none q (x ∷ xs) h = filter-no q x xs h.0 ∙ filter-none q xs h.1

-- a filter that keeps as many elements as there are keeps all
pub filter-whole {ℓ} : {A : Type ℓ} (q : A → Bool) (xs : List A) → length (filter q xs) ≡ length xs → Each (λ (x : A). q x ≡ true) xs
unfolding filter
filter-whole q [] h = tt
filter-whole {A = A} q (x ∷ xs) h = go (q x) refl (filter-whole q xs)
  where
    go : (b : Bool) → q x ≡ b → (length (filter q xs) ≡ length xs → Each (λ (y : A). q y ≡ true) xs) → Each (λ (y : A). q y ≡ true) (x ∷ xs)
    go true c ih = let y : suc (length (filter q xs)) ≡ suc (length xs) = rw (filter-yes q x xs c) at h in (c, ih (omega arith))
    go false c ih = let y : length (filter q xs) ≡ suc (length xs) =
        rw (filter-no q x xs c) at h in absurd (omega (arith, filter-short q xs))

-- a member that passes is a member of those that pass
pub elem-filter : (p : ℕ → Bool) (x : ℕ) (xs : List ℕ) → p x ≡ true → elem x (filter p xs) ≡ elem x xs
elem-filter p x xs e =
    same-test (elem x (filter p xs)) (elem x xs) (
      (λ h. (elem-iff x xs).1 ((mem-filter p x xs).0 ((elem-iff x (filter p xs)).0 h)).0),
      λ h. (elem-iff x (filter p xs)).1 ((mem-filter p x xs).1 ((elem-iff x xs).0 h, e)),
    )

-- ---- the pairs in a range

-- the slots in a range of joined lists are those of the one, then those of the other
pub range-append : (low high : ℕ) (a b : List Slot) → in_range_of low high (a ++ b) ≡ in_range_of low high a ++ in_range_of low high b
unfolding in_range_of
range-append low high a b = filter-append (λ (s : Slot). leb low s.key && leb s.key high) a b

-- if no key lies between low and high, no slot is in the range
pub range-outside : (low high : ℕ) (ss : List Slot) → Each (λ (s : Slot). low ≤ s.key → s.key ≤ high → ⊥) ss → in_range_of low high ss ≡ []
unfolding in_range_of
range-outside low high ss h =
    filter-none (λ (s : Slot). leb low s.key && leb s.key high) ss
    (Each-map (λ (s : Slot). low ≤ s.key → s.key ≤ high → ⊥) (λ (s : Slot). leb low s.key && leb s.key high ≡ false) ss
    (λ s k. refuted _ (λ e. let u = simp decode at e in k u.0 u.1)) h)
