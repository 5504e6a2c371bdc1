-- The first of the numbers 1 to N that is not among some of them, after one that is.
use Rattle.std.proofs.Common.{◌≡◌, ℕ, zero, suc, pred, ◌+◌, ◌-◌, ◌<◌, ◌≤◌, Bool, true, false, not, List, [], ◌∷◌, ◌++◌, length, refl, ap}
use Rattle.std.proofs.Common.{◌∙◌, arith, length-append}
use borrow.Author.Tests.{not-true}
use Rattle.model.specs.Table.{in_range}
use Rattle.model.specs.Reached.{filter, head_or}
use Rattle.model.specs.SoundTest.{elem}
use Rattle.model.specs.Writes.{numbers}
use Rattle.list_laws.proofs.Tools.{Each, Each-append, Each-map}
use Rattle.list_laws.proofs.Filters.{filter-yes, filter-no, filter-append}
use Rattle.list_laws.proofs.Distinct.{UpTo}
use Rattle.list_laws.proofs.Counts.{numbers-each, numbers-append}
use Rattle.tree_laws.proofs.Rows.{range-iff}

-- the first number that is not among xs, after a, going round from N to 1
abbrev pub fresh_among : (N : ℕ) → List ℕ → (a : ℕ) → ℕ
fresh_among N xs a = head_or 0 (filter (λ (n : ℕ). not (elem n xs)) (numbers (suc a) (N - a) ++ numbers 1 (pred a)))

head-filter : (p : ℕ → Bool) (P : ℕ → Type 0) (l : List ℕ) → Each P l → 0 < length (filter p l) → P (head_or 0 (filter p l))
    × (p (head_or 0 (filter p l)) ≡ true)
head-filter p P [] e h = absurd (none h)
  where
    none : 0 < length (filter p []) → ⊥
    none y = unfold filter in omega arith
head-filter p P (x ∷ l) e h = go (p x) refl (head-filter p P l e.1)
  where
    go : (t : Bool) → p x ≡ t → (0 < length (filter p l) → P (head_or 0 (filter p l)) × (p (head_or 0 (filter p l)) ≡ true))
        → P (head_or 0 (filter p (x ∷ l))) × (p (head_or 0 (filter p (x ∷ l))) ≡ true)
    go true q ih = rw (filter-yes p x l q) (e.0, q)
    go false q ih = rw (filter-no p x l q) (ih (rw (filter-no p x l q) at h))

-- a among the numbers from 1 to N
round : (N a : ℕ) → suc a ≤ N → numbers 1 N ≡ numbers 1 a ++ suc a ∷ numbers (suc (suc a)) (N - suc a)
unfolding numbers
round N a h =
    let p : N ≡ a + suc (N - suc a) = omega arith in
    let q : 1 + a ≡ suc a = omega arith in
    ap (numbers 1) p ∙ numbers-append 1 a (suc (N - suc a)) ∙ ap (λ (m : ℕ). numbers 1 a ++ numbers m (suc (N - suc a))) q

rotated : (p : ℕ → Bool) (xs : List ℕ) (a : ℕ) (ys : List ℕ) → p a ≡ false → length (filter p (ys ++ xs)) ≡ length (filter p (xs ++ a ∷ ys))
rotated p xs a ys e =
    let u = ap length (filter-append p ys xs) ∙ length-append (filter p ys) (filter p xs) in
    let w = ap length (filter-append p xs (a ∷ ys) ∙ ap (λ (l : List ℕ). filter p xs ++ l) (filter-no p a ys e))
    ∙ length-append (filter p xs) (filter p ys) in
    omega arith

-- Where some number is not among xs, the first after one that is, going round, is one.
module _ (N : ℕ) (xs : List ℕ) where
  abbrev off : ℕ → Bool
  off n = not (elem n xs)

  abbrev In : ℕ → Type 0
  In n = in_range N n ≡ true

  -- if some number from 1 to N is not in xs, the first one after a, going round, is such a number
  pub fresh-unreachable : (a : ℕ) → elem a xs ≡ true → UpTo N a → 0 < length (filter (λ (n : ℕ). not (elem n xs)) (numbers 1 N))
      → (in_range N (fresh_among N xs a) ≡ true) × (elem (fresh_among N xs a) xs ≡ false)
  fresh-unreachable zero m r h = absurd (omega (arith, r.0))
  fresh-unreachable (suc a) m r h =
      let before = numbers 1 a in
      let after = numbers (suc (suc a)) (N - suc a) in
      let some : 0 < length (filter off (after ++ before)) = rw (rotated off before (suc a) after (ap not m)) (rw (round N a r.1) at h) in
      let each : Each In (after ++ before) = Each-append In after before
      (Each-map (λ (n : ℕ). (suc (suc a) ≤ n) × (n < suc (suc a) + (N - suc a))) In after
      (λ n q. let x = q.0 in let y = q.1 in (range-iff N n).1 (omega arith, omega (arith, r.1)))
      (numbers-each (suc (suc a)) (N - suc a)))
      (Each-map (λ (n : ℕ). (1 ≤ n) × (n < 1 + a)) In before
      (λ n q. let x = q.0 in let y = q.1 in (range-iff N n).1 (omega arith, omega (arith, r.1))) (numbers-each 1 a)) in
      let u = head-filter off In (after ++ before) each some in
      (u.0, not-true _ u.1)
