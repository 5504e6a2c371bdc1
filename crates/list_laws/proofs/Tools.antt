-- Booleans, numbers and lists: tests as facts, numbers compared, what holds of each element, lists joined, lookups.
use Rattle.std.proofs.Common.{◌≡◌, ℕ, suc, ◌*◌, ◌<◌, ◌≤◌, Bool, true, false, not, ◌&&◌, ◌||◌, eqb, ltb, leb, ◌≢◌, ◌⊎◌, ◌↔◌, List, [], ◌∷◌}
use Rattle.std.proofs.Common.{◌++◌, sym, refl, ap, ◌∙◌, inl, inr, ⊎_elim, append_assoc, arith, ltb-false, ltb-true, le-ltb, lt-ltb, eq-eqb}
use Rattle.std.proofs.Common.{ne_eqb, eqb-true, le-leb, leb-true}
use mathlib.Core.Bool.{false≢true}
use mathlib.Core.Option.{Option, none, some}
use borrow.Author.Tests.{eqb-false}
use Rattle.model.specs.declared.Answer.TheVariants.{Absent}
use Rattle.std.specs.Prelude.{Result, Some, Err, IsErrAnd}
use Rattle.std.proofs.lemmas.Result.{err_from_is_err_and}
use Rattle.model.specs.Slots.{Slot}
use Rattle.model.specs.Search.{first_with, first_above, absent_or, Next}
use Rattle.model.specs.Reached.{filter, flat}
use Rattle.model.specs.SoundTest.{all}
pub use Rattle.list_laws.specs.Each.{Each}

-- a conjunction is true exactly if both parts are
pub and-iff : (a b : Bool) → (a && b ≡ true) ↔ ((a ≡ true) × (b ≡ true))
and-iff true b = (λ e. (refl, e), λ p. p.1)
and-iff false b = (λ e. absurd (false≢true e), λ p. p.0)

-- the test of equality is true exactly of equal numbers
pub eqb-iff : (a b : ℕ) → (eqb a b ≡ true) ↔ (a ≡ b)
eqb-iff a b = (eqb-true a b, eq-eqb a b)

-- the test of equality answers the same with its sides exchanged
pub eqb-sym : (a b : ℕ) → eqb a b ≡ eqb b a
eqb-sym a b = go (eqb a b) refl
  where
    go : (c : Bool) → eqb a b ≡ c → eqb a b ≡ eqb b a
    go true e = e ∙ sym (eq-eqb b a (sym (eqb-true a b e)))
    go false e = e ∙ sym (ne_eqb b a (λ q. eqb-false a b e (sym q)))

-- the test of at most is true exactly if a is at most b
pub leb-iff : (a b : ℕ) → (leb a b ≡ true) ↔ (a ≤ b)
leb-iff a b = (leb-true a b, le-leb a b)

-- `simp decode at h` turns a true conjunction of tests into the tuple of its facts, and `simp decode (..)` proves one
pub ruleset decode = (and-iff, eqb-iff, leb-iff)

-- a negation is true exactly if its argument is false
pub not-iff : (b : Bool) → (not b ≡ true) ↔ (b ≡ false)
not-iff true = (λ e. sym e, λ e. sym e)
not-iff false = (λ e. refl, λ e. refl)

-- a negation is false exactly if its argument is true
pub not-false-iff : (b : Bool) → (not b ≡ false) ↔ (b ≡ true)
not-false-iff true = (λ e. refl, λ e. refl)
not-false-iff false = (λ e. sym e, λ e. sym e)

-- a test whose facts fail is not passed
pub refuted : (b : Bool) → (b ≡ true → ⊥) → b ≡ false
refuted true h = absurd (h refl)
refuted false h = refl

-- tests that say the same are equal
pub same-test : (a b : Bool) → ((a ≡ true) ↔ (b ≡ true)) → a ≡ b
same-test true b h = sym (h.0 refl)
same-test false true h = h.1 refl
same-test false false h = refl

-- a disjunction is true if its right part is
pub or-right : (a b : Bool) → b ≡ true → a || b ≡ true
or-right true b e = refl
or-right false b e = e

-- a disjunction is true exactly if one of its parts is
pub or-iff : (a b : Bool) → (a || b ≡ true) ↔ ((a ≡ true) ⊎ (b ≡ true))
or-iff true b = (λ e. inl refl, λ e. refl)
or-iff false b = (λ e. inr e, go)
  where
    go : (false ≡ true) ⊎ (b ≡ true) → b ≡ true
    go (inl e) = absurd (false≢true e)
    go (inr e) = e

-- a disjunction is false exactly if both parts are
pub or-false-iff : (a b : Bool) → (a || b ≡ false) ↔ ((a ≡ false) × (b ≡ false))
or-false-iff true b = (λ e. absurd (false≢true (sym e)), λ u. u.0)
or-false-iff false b = (λ e. (refl, e), λ u. u.1)

-- the first two parts of a disjunction may change places
pub or-swap : (a b c : Bool) → a || (b || c) ≡ b || (a || c)
or-swap true true c = refl
or-swap true false c = refl
or-swap false b c = refl

-- a value so far, a, that is the test v, joined with one more test b, if a was passed, and if not
pub and-then : (a v x b : Bool) → a ≡ v → a ≡ true → x ≡ b → x ≡ (v && b)
and-then a v x b e y q = q ∙ ap (λ (u : Bool). u && b) (sym y ∙ e)

-- an a that equals v and is false equals v and b, whatever b is
pub and-else : (a v b : Bool) → a ≡ v → a ≡ false → a ≡ (v && b)
and-else a v b e z = z ∙ ap (λ (u : Bool). u && b) (sym z ∙ e)

-- ---- two numbers compared

-- two numbers are equal or different
pub same-or-not : (a b : ℕ) → (a ≡ b) ⊎ (a ≢ b)
same-or-not a b = go (eqb a b) refl
  where
    go : (t : Bool) → eqb a b ≡ t → (a ≡ b) ⊎ (a ≢ b)
    go true c = inl (eqb-true a b c)
    go false c = inr (eqb-false a b c)

-- by cases: n is x or not
pub at-or-off : (P : ℕ → Type 0) (x : ℕ) → P x → ((n : ℕ) → n ≢ x → P n) → (n : ℕ) → P n
at-or-off P x a o n = ⊎_elim (λ e. rw e a) (o n) (same-or-not n x)

-- of two numbers one is smaller, or they are equal
pub compared : (a b : ℕ) → (a < b) ⊎ ((a ≡ b) ⊎ (b < a))
compared a b = go (ltb a b) refl (ltb b a) refl
  where
    go : (s : Bool) → ltb a b ≡ s → (t : Bool) → ltb b a ≡ t → (a < b) ⊎ ((a ≡ b) ⊎ (b < a))
    go true p t q = inl (ltb-true a b p)
    go false p true q = inr (inr (ltb-true b a q))
    go false p false q = inr (inl (let x = ltb-false a b p in let y = ltb-false b a q in omega arith))

-- twice the next number is twice the number and 2 more
pub double-suc : (i : ℕ) → 2 * suc i ≡ suc (suc (2 * i))
double-suc i = omega arith

-- ---- what holds of each element

-- what holds of each item of two lists holds of each item of the joined list
pub Each-append {ℓ} : {A : Type ℓ} (P : A → Type 0) (xs ys : List A) → Each P xs → Each P ys → Each P (xs ++ ys)
Each-append P [] ys a b = b
Each-append P (x ∷ xs) ys a b = (a.0, Each-append P xs ys a.1 b)

-- what holds of each item of a joined list holds of each item of both parts
pub Each-split {ℓ} : {A : Type ℓ} (P : A → Type 0) (xs ys : List A) → Each P (xs ++ ys) → Each P xs × Each P ys
Each-split P [] ys a = (tt, a)
Each-split P (x ∷ xs) ys a = let u = Each-split P xs ys a.1 in ((a.0, u.0), u.1)

-- if P implies Q, and P holds of each item, so does Q
pub Each-map {ℓ} : {A : Type ℓ} (P Q : A → Type 0) (xs : List A) → ((x : A) → P x → Q x) → Each P xs → Each Q xs
Each-map P Q [] g a = tt
Each-map P Q (x ∷ xs) g a = (g x a.0, Each-map P Q xs g a.1)

-- a test answers true of the whole list exactly if it does so of each item
pub all-each {ℓ} : {A : Type ℓ} (p : A → Bool) (xs : List A) → (all p xs ≡ true) ↔ Each (λ (x : A). p x ≡ true) xs
unfolding all
all-each p [] = (λ e. tt, λ u. refl)
all-each p (x ∷ xs) = (λ e. let h = simp and-iff at e in (h.0, (all-each p xs).0 h.1), λ u. simp and-iff (u.0, (all-each p xs).1 u.1))

-- a test passes a joined list exactly if it passes both parts
pub all-append {ℓ} : {A : Type ℓ} (p : A → Bool) (xs ys : List A) → (all p (xs ++ ys) ≡ true) ↔ ((all p xs ≡ true) × (all p ys ≡ true))
unfolding all
all-append p [] ys = (λ e. (refl, e), λ u. u.1)
all-append p (x ∷ xs) ys = (
  λ e. let h = simp and-iff at e in let g = (all-append p xs ys).0 h.1 in (simp and-iff (h.0, g.0), g.1),
  λ u. let h = simp and-iff at u.0 in simp and-iff (h.0, (all-append p xs ys).1 (h.1, u.1)),
)

-- tests that agree on each element
pub all-same {ℓ} : {A : Type ℓ} (p q : A → Bool) (xs : List A) → Each (λ (x : A). p x ≡ q x) xs → all p xs ≡ all q xs
unfolding all
all-same p q [] h = refl
all-same p q (x ∷ xs) h = rw (h.0, all-same p q xs h.1)

-- the lists of joined lists join to the lists of the one, then those of the other
pub flat-append {ℓ} : {A B : Type ℓ} (g : A → List B) (xs ys : List A) → flat g (xs ++ ys) ≡ flat g xs ++ flat g ys
unfolding flat
flat-append g [] ys = refl
flat-append g (x ∷ xs) ys = rw (flat-append g xs ys, append_assoc)

-- joining twice is joining once the lists that are joined of each item
pub flat-flat {ℓ} : {A B C : Type ℓ} (g : B → List C) (h : A → List B) (xs : List A) → flat g (flat h xs)
    ≡ flat (λ (x : A). flat g (h x)) xs
unfolding flat
flat-flat g h [] = refl
flat-flat g h (x ∷ xs) = rw (flat-append, flat-flat g h xs)

-- joining the one-item lists of the items gives the list
pub flat-single {ℓ} : {A : Type ℓ} (xs : List A) → flat (λ (x : A). x ∷ []) xs ≡ xs
unfolding flat
flat-single [] = refl
flat-single (x ∷ xs) = ap (λ l. x ∷ l) (flat-single xs)

-- what holds of each item of the joined lists holds of each item of every one of them
pub Each-flat {ℓ} : {A B : Type ℓ} (P : B → Type 0) (g : A → List B) (xs : List A) → Each P (flat g xs) → Each (λ (x : A). Each P (g x)) xs
unfolding flat
Each-flat P g [] h = tt
Each-flat P g (x ∷ xs) h = let u = Each-split P (g x) (flat g xs) h in (u.0, Each-flat P g xs u.1)

-- what holds of each item holds of each one kept by a filter, which passes its test besides
pub Each-filter {ℓ} :
    {A : Type ℓ} (P : A → Type 0) (q : A → Bool) (xs : List A) → Each P xs → Each (λ (x : A). P x × (q x ≡ true)) (filter q xs)
unfolding filter
Each-filter P q [] h = tt
Each-filter {A = A} P q (x ∷ xs) h = go (q x) refl (Each-filter P q xs h.1)
  where
    go : (b : Bool) → q x ≡ b → Each (λ (x : A). P x × (q x ≡ true)) (filter q xs)
        → Each (λ (x : A). P x × (q x ≡ true)) (filter q (x ∷ xs))
    go true c ih = rw (c, filter) ((h.0, c), ih)
    go false c ih = rw (c, filter) ih

-- the slot found, in joined lists: no slot of ss has the key k
abbrev pub Misses : ℕ → List Slot → Type 0
Misses k ss = Each (λ (s : Slot). s.key ≡ k → ⊥) ss

-- in slots without key k none is found
pub first-nil : (k : ℕ) (b : List Slot) → Misses k b → first_with k b ≡ none
unfolding first_with
first-nil k [] m = refl
first-nil k (s ∷ b) m = rw (ne_eqb s.key k m.0, first_with) (first-nil k b m.1)

-- slots without key k in front change nothing about the first slot with key k
pub first-l : (k : ℕ) (a b : List Slot) → Misses k a → first_with k (a ++ b) ≡ first_with k b
unfolding first_with
first-l k [] b m = refl
first-l k (s ∷ a) b m = rw (ne_eqb s.key k m.0, first_with) (first-l k a b m.1)

-- slots without key k behind change nothing about the first slot with key k
pub first-r : (k : ℕ) (a b : List Slot) → Misses k b → first_with k (a ++ b) ≡ first_with k a
unfolding first_with
first-r k [] b m = first-nil k b m
first-r k (s ∷ a) b m = ap (λ (x : Option Slot). elim (eqb s.key k) as (λ c. Option Slot) [ true ↦ some s | false ↦ x ]) (first-r k a b m)

-- a filter that keeps every slot with key k keeps the first of them
pub first-filter : (k : ℕ) (q : Slot → Bool) (ss : List Slot) → ((s : Slot) → s.key ≡ k → q s ≡ true)
    → first_with k (filter q ss) ≡ first_with k ss
unfolding first_with filter
first-filter k q [] h = refl
first-filter k q (s ∷ ss) h = go (q s) (eqb s.key k) refl refl (first-filter k q ss h)
  where
    go : (a b : Bool) → q s ≡ a → eqb s.key k ≡ b → first_with k (filter q ss) ≡ first_with k ss
        → first_with k (filter q (s ∷ ss)) ≡ first_with k (s ∷ ss)
    go true true e c ih = rw (e, c, first_with, filter)
    go true false e c ih = rw (e, c, first_with, filter) ih
    go false true e c ih = absurd (false≢true (sym e ∙ h s (eqb-true s.key k c)))
    go false false e c ih = rw (e, c, first_with, filter) ih

-- a first slot with key k is the one found
pub first-here : (k : ℕ) (s : Slot) (ss : List Slot) → s.key ≡ k → first_with k (s ∷ ss) ≡ some s
unfolding first_with
first-here k s ss e = rw (eq-eqb s.key k e, first_with)

-- a first slot with another key is passed over
pub first-past : (k : ℕ) (s : Slot) (ss : List Slot) → s.key ≢ k → first_with k (s ∷ ss) ≡ first_with k ss
unfolding first_with
first-past k s ss z = rw (ne_eqb s.key k z, first_with)

-- the next key up, in joined lists
pub above-here : (k : ℕ) (s : Slot) (ss : List Slot) → k < s.key → first_above k (s ∷ ss) ≡ Some s.key
unfolding first_above
above-here k s ss h = rw (lt-ltb k s.key h, first_above)

-- a first slot whose key is at most k is not the next above k
pub above-past : (k : ℕ) (s : Slot) (ss : List Slot) → s.key ≤ k → first_above k (s ∷ ss) ≡ first_above k ss
unfolding first_above
above-past k s ss h = rw (le-ltb k s.key h, first_above)

-- no slot of a has a key above k
pub above-l : (k : ℕ) (a b : List Slot) → Each (λ (s : Slot). s.key ≤ k) a → first_above k (a ++ b) ≡ first_above k b
above-l k [] b h = refl
above-l k (s ∷ a) b h = above-past k s (a ++ b) h.0 ∙ above-l k a b h.1

-- the answer from it
pub absent-append : (k : ℕ) (a b : List Slot) → absent_or (first_above k a) (Absent (first_above k b)) ≡ Absent (first_above k (a ++ b))
unfolding first_above
absent-append k [] b = refl
absent-append k (s ∷ a) b = go (ltb k s.key) (absent-append k a b)
  where
    go : (c : Bool) → absent_or (first_above k a) (Absent (first_above k b)) ≡ Absent (first_above k (a ++ b))
        → absent_or (elim c as (λ x. Next) [ true ↦ Some s.key | false ↦ first_above k a ]) (Absent (first_above k b))
        ≡ Absent (elim c as (λ x. Next) [ true ↦ Some s.key | false ↦ first_above k (a ++ b) ])
    go true ih = refl
    go false ih = ih

-- what a `?` hands on is the refusal that it met
pub handed-on : {T E : Type 0} {r : Result T E} {e : E} → IsErrAnd r (λ y. y ≡ e) → r ≡ Err e
handed-on {r = r} h = let p = err_from_is_err_and r h in p.1 ∙ ap Err p.2
