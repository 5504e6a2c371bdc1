-- The map by its three keys: what is there, what comes next, and what an accepted action makes of it. Most of it holds of any number of
-- keys.
use Rattle.std.proofs.Common.{◌≡◌, ℕ, zero, suc, ◌+◌, ◌-◌, ◌%◌, ◌<◌, ◌≤◌, Bool, true, false, cond, ◌&&◌, ltb, ◌≢◌, ◌⊎◌, List, [], ◌∷◌}
use Rattle.std.proofs.Common.{length, get_or, drop, set, sym, refl, ◌∙◌, inl, inr, add-one, arith, drop_of_length-le, drop-cons, le-ltb}
use Rattle.std.proofs.Common.{lt-ltb, eq-eqb, ne_eqb}
use mathlib.Core.Bool.{false≢true}
use mathlib.Core.Option.{none, some}
use borrow.Author.Tests.{eqb-false}
use Rattle.model.specs.declared.Answer.TheVariants.{Found, Absent}
use Rattle.std.specs.Prelude.{Some, None}
use Rattle.model.specs.Slots.{Slot, slot, recording_of, class_of, pointer_of}
use Rattle.model.specs.Search.{first_with, first_above, lookup}
use Rattle.model.specs.Refusals.{has_key}
use Rattle.model.specs.Ledger.{enter, leave}
use Rattle.model.specs.Scripts.{action_key}
use Rattle.list_laws.proofs.Tools.{or-false-iff, same-or-not, first-nil, first-here, first-past}
use Rattle.short_scripts.specs.Held.{Held, pairs_from, pairs}

-- ---- what is there

-- a key that is there is one of them
within-from : (h : Held) (k j : ℕ) → has_key j (pairs_from k h) ≡ true → (k ≤ j) × (j < k + length h)
unfolding has_key
within-from [] k j e = absurd (false≢true e)
within-from (false ∷ h) k j e = let p = within-from h (suc k) j e in (omega (arith, p.0), omega (arith, p.1))
within-from (true ∷ h) k j e = go (same-or-not k j) (within-from h (suc k) j)
  where
    go : (k ≡ j) ⊎ (k ≢ j) → (has_key j (pairs_from (suc k) h) ≡ true → (suc k ≤ j) × (j < suc k + length h)) → (k ≤ j)
        × (j < k + suc (length h))
    go (inl q) later = (omega (arith, q), omega (arith, q))
    go (inr n) later = let p = later (rw (ne_eqb k j n) at e) in (omega (arith, p.0), omega (arith, p.1))

has-outside : (h : Held) (k j : ℕ) → ((k ≤ j) × (j < k + length h) → ⊥) → has_key j (pairs_from k h) ≡ false
has-outside h k j n = go (has_key j (pairs_from k h)) refl
  where
    go : (b : Bool) → has_key j (pairs_from k h) ≡ b → b ≡ false
    go true e = absurd (n (within-from h k j e))
    go false e = refl

has-from : (h : Held) (k i j : ℕ) → j ≡ k + i → has_key j (pairs_from k h) ≡ get_or h i false
unfolding has_key
has-from [] k i j e = refl
has-from (true ∷ h) k zero j e = rw (eq-eqb k j (omega (arith, e)))
has-from (false ∷ h) k zero j e = has-outside h (suc k) j (λ p. omega (arith, e, p.0))
has-from (true ∷ h) k (suc i) j e = rw (ne_eqb k j (λ q. omega (arith, e, q))) (has-from h (suc k) i j (omega (arith, e)))
has-from (false ∷ h) k (suc i) j e = has-from h (suc k) i j (omega (arith, e))

pub has-at : (h : Held) (k : ℕ) → 0 < k → get_or h (k - 1) false ≡ has_key k (pairs h)
unfolding pairs
has-at h zero l = absurd (omega arith)
has-at h (suc i) l = let e : suc i - 1 ≡ i = omega arith in rw e (sym (has-from h 1 i (suc i) (omega arith)))

pub has-other : (h : Held) (k : ℕ) → length h ≡ 3 → ((1 ≤ k) × (k ≤ 3) → ⊥) → false ≡ has_key k (pairs h)
unfolding pairs
has-other h k l n = sym (has-outside h 1 k (λ p. n (p.0, omega (arith, p.1))))

pub has-within : (h : Held) (k : ℕ) → length h ≡ 3 → has_key k (pairs h) ≡ true → k ≤ 3
unfolding pairs
has-within h k l e = omega (arith, (within-from h 1 k e).1)

-- ---- the answer

-- where the key is there, and where it is not
first-from : (h : Held) (k j : ℕ) → has_key j (pairs_from k h) ≡ true → first_with j (pairs_from k h)
    ≡ some (slot j (pointer_of (10 + j) 0))
unfolding has_key
first-from [] k j e = absurd (false≢true e)
first-from (false ∷ h) k j e = first-from h (suc k) j e
first-from (true ∷ h) k j e = go (same-or-not k j) (first-from h (suc k) j)
  where
    go : (k ≡ j) ⊎ (k ≢ j)
        → (has_key j (pairs_from (suc k) h) ≡ true → first_with j (pairs_from (suc k) h) ≡ some (slot j (pointer_of (10 + j) 0)))
        → first_with j (slot k (pointer_of (10 + k) 0) ∷ pairs_from (suc k) h) ≡ some (slot j (pointer_of (10 + j) 0))
    go (inl q) later = rw q (first-here j (slot j (pointer_of (10 + j) 0)) (pairs_from (suc j) h) refl)
    go (inr n) later = first-past j (slot k (pointer_of (10 + k) 0)) (pairs_from (suc k) h) n ∙ later (rw (ne_eqb k j n) at e)

pub there-answer : (h : Held) (k : ℕ) → k ≤ 3 → has_key k (pairs h) ≡ true → lookup k (pairs h) ≡ Found (10 + k) 0
unfolding pairs lookup recording_of class_of pointer_of
there-answer h k l e =
    let r : recording_of (pointer_of (10 + k) 0) ≡ 10 + k = omega arith in
    let c : class_of (pointer_of (10 + k) 0) ≡ 0 = omega arith in
    rw (first-from h 1 k e, r, c)

first-none : (k : ℕ) (ps : List Slot) → has_key k ps ≡ false → first_with k ps ≡ none
unfolding has_key
first-none k [] e = first-nil k [] tt
first-none k (s ∷ ps) e = let p = (or-false-iff _ _).0 e in first-past k s ps (eqb-false _ _ p.0) ∙ first-none k ps p.1

pub absent-answer : (k : ℕ) (ps : List Slot) → has_key k ps ≡ false → lookup k ps ≡ Absent (first_above k ps)
unfolding lookup
absent-answer k ps e = rw (first-none k ps e)

-- ---- the next one up

-- key k, and those after it
next-from : (b : Bool) (later : Held) (q k : ℕ) → first_above q (pairs_from k (b ∷ later))
    ≡ cond (ltb q k && b) (Some k) (first_above q (pairs_from (suc k) later))
unfolding first_above
next-from b later q k = go b (ltb q k) refl
  where
    go : (b t : Bool) → ltb q k ≡ t → first_above q (pairs_from k (b ∷ later))
        ≡ cond (t && b) (Some k) (first_above q (pairs_from (suc k) later))
    go true true e = rw (e, first_above)
    go true false e = rw (e, first_above)
    go false true e = refl
    go false false e = refl

pub next-held : (h : Held) (q k : ℕ) → length h ≡ 3 → 0 < k → k ≤ 3 → first_above q (pairs_from k (drop (k - 1) h))
    ≡ cond (ltb q k && has_key k (pairs h)) (Some k) (first_above q (pairs_from (k + 1) (drop (k + 1 - 1) h)))
next-held h q zero n f l = absurd (omega (arith, f))
next-held h q (suc i) n f l =
    let e : suc i - 1 ≡ i = omega arith in
    let g : suc i + 1 - 1 ≡ suc i = omega arith in
    rw (e, g, add-one (suc i), drop-cons h i false (omega (arith, n, l)), ← (has-at h (suc i) f), e)
    (next-from (get_or h i false) (drop (suc i) h) q (suc i))

pub next-none : (h : Held) (q k : ℕ) → length h ≡ 3 → 3 < k → first_above q (pairs_from k (drop (k - 1) h)) ≡ None
unfolding first_above
next-none h q k n l = rw (drop_of_length-le h {i = k - 1} (omega (arith, n, l)))

-- ---- after an accepted action

leave-below : (h : Held) (k j : ℕ) → j < k → leave j (pairs_from k h) ≡ pairs_from k h
unfolding leave
leave-below [] k j l = refl
leave-below (false ∷ h) k j l = leave-below h (suc k) j (omega arith)
leave-below (true ∷ h) k j l = rw (ne_eqb k j (λ q. omega (arith, q)), leave-below h (suc k) j (omega arith))

leave-from : (h : Held) (k i j : ℕ) → j ≡ k + i → leave j (pairs_from k h) ≡ pairs_from k (set h i false)
unfolding leave
leave-from [] k i j e = refl
leave-from (true ∷ h) k zero j e = rw (eq-eqb k j (omega (arith, e))) (leave-below h (suc k) j (omega (arith, e)))
leave-from (false ∷ h) k zero j e = leave-below h (suc k) j (omega (arith, e))
leave-from (true ∷ h) k (suc i) j e = rw (ne_eqb k j (λ q. omega (arith, e, q)), leave-from h (suc k) i j (omega (arith, e)))
leave-from (false ∷ h) k (suc i) j e = leave-from h (suc k) i j (omega (arith, e))

enter-below : (h : Held) (k j x : ℕ) → j < k → enter j x (pairs_from k h) ≡ slot j x ∷ pairs_from k h
unfolding enter
enter-below [] k j x l = refl
enter-below (false ∷ h) k j x l = enter-below h (suc k) j x (omega arith)
enter-below (true ∷ h) k j x l = rw (lt-ltb j k l)

enter-from : (h : Held) (k i j : ℕ) → j ≡ k + i → i < length h → has_key j (pairs_from k h) ≡ false
    → enter j (pointer_of (10 + j) 0) (pairs_from k h) ≡ pairs_from k (set h i true)
unfolding enter has_key
enter-from [] k i j e l n = absurd (omega (arith, l))
enter-from (true ∷ h) k zero j e l n = absurd (false≢true (sym n ∙ rw (eq-eqb k j (omega (arith, e)))))
enter-from (false ∷ h) k zero j e l n = let z : j ≡ k =
    omega (arith, e) in rw z (enter-below h (suc k) k (pointer_of (10 + k) 0) (omega arith))
enter-from (true ∷ h) k (suc i) j e l n =
    rw (
      le-ltb j k (omega (arith, e)),
      enter-from h (suc k) i j (omega (arith, e)) (omega (arith, l)) (rw (ne_eqb k j (λ q. omega (arith, e, q))) at n),
    )
enter-from (false ∷ h) k (suc i) j e l n = enter-from h (suc k) i j (omega (arith, e)) (omega (arith, l)) n

pub enter-held : (h : Held) (a : ℕ) → length h ≡ 3 → has_key (action_key a) (pairs h) ≡ false
    → enter (action_key a) (pointer_of (10 + action_key a) 0) (pairs h) ≡ pairs (set h (a % 3) true)
unfolding pairs
enter-held h a l n = enter-from h 1 (a % 3) (action_key a) (omega arith) (omega (arith, l)) n

pub leave-held : (h : Held) (a : ℕ) → leave (action_key a) (pairs h) ≡ pairs (set h (a % 3) false)
unfolding pairs
leave-held h a = leave-from h 1 (a % 3) (action_key a) (omega arith)
