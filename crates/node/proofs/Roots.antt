-- The header test and a collection's root: the definitions' values, from the facts that the functions' tests establish.
use Rattle.std.proofs.Common.{◌≡◌, ℕ, ◌≤◌, Bool, true, false, cond, not, ◌&&◌, ◌||◌, eqb, leb, ◌≢◌, ◌⊎◌, [], ◌∷◌, length, take, drop}
use Rattle.std.proofs.Common.{replicate, sym, refl, ap, ◌∙◌, inl, inr, arith, length-drop, length-take, ne_eqb, le-leb}
use mathlib.Core.Bool.{false≢true}
use lib.Pointwise.{pointwise}
use Rattle.std.specs.Prelude.{Result, Ok, Err}
use Rattle.model.specs.declared.Refusal.{Refusal}
use Rattle.model.specs.Results.{refused_with}
use Rattle.model.specs.Table.{Words, at, all_zero, in_range, header_ok, header_number, root_word, no_collection}
use Rattle.model.proofs.Numbers.{done-ok, done-err}
use Rattle.list_laws.proofs.Tools.{decode, refuted, same-or-not, not-iff, not-false-iff}
use Rattle.table_laws.proofs.Words.{part-zero-iff}
use Rattle.table_laws.proofs.Header.{HeaderFacts, header-iff, header-number-iff, header-number-refused}
use Rattle.table_laws.proofs.Collections.{by-number}
use Rattle.node.specs.Word.{root_in, number_in, found_root}

-- the one that is not 1 is 2
pub second-root : (n : ℕ) (t : Words) → no_collection n t ≡ false → n ≢ 1 → at t 3 ≡ at t (root_word n)
second-root n t h z = by-number t (λ (m : ℕ). m ≢ 1 → at t 3 ≡ at t (root_word m)) (λ y. absurd (y refl)) (λ s y. refl) n h z

-- ---- what the test of words 4 to 7 says

-- comparing n words with n zeros, one by one, is testing that they are all 0
pub zeros-as-one : (ws : Words) (n : ℕ) → length ws ≡ n → pointwise eqb ws (replicate n 0) ≡ all_zero ws
unfolding all_zero
zeros-as-one [] n e = rw (← e) refl
zeros-as-one (w ∷ ws) n e = rw (← e) (ap (λ (b : Bool). eqb w 0 && b) (zeros-as-one ws (length ws) refl))

module _ (t : Words) (l : 8 ≤ length t) where
  zeros-tested : pointwise eqb (take 4 (drop 4 t)) (replicate 4 0) ≡ all_zero (take 4 (drop 4 t))
  zeros-tested = zeros-as-one _ 4 (simp (length-take, length-drop) (omega arith))

  pub zeros-yes : not (pointwise eqb (take 4 (drop 4 t)) (replicate 4 0)) ≡ false → all_zero (take 4 (drop 4 t)) ≡ true
  zeros-yes e = sym zeros-tested ∙ (not-false-iff _).0 e

  pub zeros-not : not (pointwise eqb (take 4 (drop 4 t)) (replicate 4 0)) ≡ true → HeaderFacts t → ⊥
  zeros-not e f = false≢true (sym ((not-iff _).0 e) ∙ zeros-tested ∙ (part-zero-iff t 4 4).1 f.zeros)

-- ---- what the test of word 3 says

pub fits-two : (n s : ℕ) → true ≡ (eqb s 0 || (leb s n && leb 2 n)) → s ≢ 0 → (s ≤ n) × (2 ≤ n)
fits-two n s e z = simp decode at (rw (ne_eqb s 0 z) at (sym e))

pub fits-not : (n s : ℕ) → false ≡ (eqb s 0 || (leb s n && leb 2 n)) → (s ≢ 0 → (s ≤ n) × (2 ≤ n)) → ⊥
fits-not n s e f = go (same-or-not s 0)
  where
    go : (s ≡ 0) ⊎ (s ≢ 0) → ⊥
    go (inl z) = false≢true (e ∙ rw z)
    go (inr z) = let u = f z in false≢true (e ∙ rw (ne_eqb s 0 z, le-leb s n u.0, le-leb 2 n u.1))

-- ---- what the test of a node number says

pub range-yes : (n i : ℕ) → in_range n i ≡ true → (1 ≤ i) × (i ≤ n)
unfolding in_range
range-yes n i e = simp decode at e

pub range-not : (n i : ℕ) → in_range n i ≡ false → 1 ≤ i → i ≤ n → ⊥
unfolding in_range
range-not n i e a b = false≢true (sym e ∙ rw (le-leb 1 i a, le-leb i n b))

-- ---- the root by the facts of the header

pub root-refused : (n : ℕ) (t : Words) → (HeaderFacts t → ⊥) → root_in n t ≡ 0
unfolding root_in
root-refused n t h = rw (refuted (header_ok t) (λ e. h ((header-iff t).0 e)))

pub root-first : (t : Words) → HeaderFacts t → root_in 1 t ≡ at t 1
unfolding root_in no_collection
root-first t f = rw ((header-iff t).1 f)

pub root-second : (t : Words) → HeaderFacts t → root_in 2 t ≡ at t 3
unfolding root_in no_collection
root-second t f = rw ((header-iff t).1 f) (go (same-or-not (at t 3) 0))
  where
    go : (at t 3 ≡ 0) ⊎ (at t 3 ≢ 0) → cond (eqb (at t 3) 0) 0 (at t 3) ≡ at t 3
    go (inl e) = rw e
    go (inr z) = rw (ne_eqb (at t 3) 0 z)

pub root-other : (n : ℕ) (t : Words) → n ≢ 1 → n ≢ 2 → root_in n t ≡ 0
unfolding root_in no_collection
root-other n t a b = rw (ne_eqb n 1 a, ne_eqb n 2 b) (go (header_ok t))
  where
    go : (b : Bool) → cond {A = ℕ} b 0 0 ≡ 0
    go true = refl
    go false = refl

-- ---- the answers by the root

-- a root that is not 0 is that of a collection which is there
pub root-there : (n : ℕ) (t : Words) (r : ℕ) → r ≡ root_in n t → r ≢ 0 → (header_ok t ≡ true) × (no_collection n t ≡ false)
    × (r ≡ at t (root_word n))
unfolding root_in
root-there n t r e z = go (header_ok t) (no_collection n t) refl refl e
  where
    go : (a b : Bool) → header_ok t ≡ a → no_collection n t ≡ b → r ≡ cond a (cond b 0 (at t (root_word n))) 0 → (header_ok t ≡ true)
        × (no_collection n t ≡ false) × (r ≡ at t (root_word n))
    go true false h c q = (h, c, q)
    go true true h c q = absurd (z q)
    go false b h c q = absurd (z q)

root-some : (n : ℕ) (t : Words) → header_ok t ≡ true → no_collection n t ≡ false → root_in n t ≢ 0
unfolding root_in
root-some n t h c q =
    let f = (header-iff t).0 h in
    by-number t (λ (n : ℕ). at t (root_word n) ≢ 0) (λ e. omega (arith, f.root-some)) (λ z. z) n c (rw (h, c) at q)

pub header-refused : (t : Words) (r : ℕ) → r ≡ root_in 1 t → r ≡ 0 → 2 ≡ header_number t
unfolding header_number no_collection
header-refused t r e z = rw (refuted (header_ok t) (λ h. root-some 1 t h refl (sym e ∙ z)))

pub header-accepted : (t : Words) (r : ℕ) → r ≡ root_in 1 t → r ≢ 0 → 0 ≡ header_number t
unfolding header_number
header-accepted t r e z = rw (root-there 1 t r e z).0

-- the answer by the root: it, if there is one, else the refusal
pub root-found : (n : ℕ) (t : Words) (r : ℕ) → r ≡ root_in n t → r ≢ 0 → Ok r ≡ found_root n t
unfolding found_root number_in
root-found n t r e z = let u = root-there n t r e z in rw (u.0, u.1, e)

pub root-no-table : (n : ℕ) (t : Words) → header_number t ≢ 0 → refused_with (header_number t) ≡ found_root n t
unfolding found_root number_in header_number
root-no-table n t z = rw (header-number-refused t z)

pub root-no-collection : (n : ℕ) (t : Words) (r : ℕ) → r ≡ root_in n t → r ≡ 0 → header_number t ≡ 0 → refused_with 17 ≡ found_root n t
unfolding found_root number_in
root-no-collection n t r e z q = let h = (header-number-iff t).0 q in rw (h, there h (no_collection n t) refl)
  where
    there : header_ok t ≡ true → (b : Bool) → no_collection n t ≡ b → no_collection n t ≡ true
    there h true c = c
    there h false c = absurd (root-some n t h c (sym e ∙ z))

-- what a caller learns
pub found-ok : (n : ℕ) (t : Words) {r : ℕ} → found_root n t ≡ Ok r → (r ≡ root_in n t) × (r ≢ 0)
unfolding found_root number_in
found-ok n t {r} e = go (header_ok t) (no_collection n t) refl refl (done-ok _ (root_in n t) e)
  where
    go : (a b : Bool) → header_ok t ≡ a → no_collection n t ≡ b → (cond {A = ℕ} a (cond b 17 0) 2 ≡ 0) × (root_in n t ≡ r)
        → (r ≡ root_in n t) × (r ≢ 0)
    go true false h c q = (sym q.1, λ z. root-some n t h c (q.1 ∙ z))
    go true true h c q = absurd (omega (arith, q.0))
    go false b h c q = absurd (omega (arith, q.0))

-- if a root is found, the header is right, the collection is there, and the root is the one in its header word
pub found-there : (n : ℕ) (t : Words) {r : ℕ} → found_root n t ≡ Ok r → (header_ok t ≡ true) × (no_collection n t ≡ false)
    × (r ≡ at t (root_word n))
found-there n t e = let f = found-ok n t e in root-there n t _ f.0 f.1

-- if no root is found, the number is not 0, and the refusal is the one with it
pub found-err : {T : Type 0} (n : ℕ) (t : Words) {r : Refusal} → found_root n t ≡ Err r → (number_in n t ≢ 0)
    × ◌≡◌ {A = Result T Refusal} (refused_with (number_in n t)) (Err r)
unfolding found_root
found-err n t e = done-err (number_in n t) (root_in n t) e
