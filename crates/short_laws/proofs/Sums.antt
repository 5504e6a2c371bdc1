-- What is counted over all scripts, with the scripts' first parts shared: each action is then met once after each shorter script.
use Rattle.std.proofs.Common.{◌≡◌, ℕ, zero, suc, ◌+◌, ◌*◌, ◌/◌, ◌%◌, ◌<◌, [], ◌∷◌, ◌++◌, map, sym, refl, ap, ◌∙◌, mul_assoc, suc-mul}
use Rattle.std.proofs.Common.{zero-add, arith}
use Rattle.model.specs.Table.{Words, empty}
use Rattle.model.specs.Writes.{numbers, Call}
use Rattle.model.specs.Refusals.{unless_refused, refusal, table_after}
use Rattle.model.specs.Lists.{sum}
use Rattle.model.specs.Scripts.{Script, call_of, unrank, along, over_all}
use Rattle.short_laws.proofs.Rank.{grown, grown-suc}

-- ---- sums

-- over n numbers
abbrev pub sum_over : (ℕ → ℕ) → (from n : ℕ) → ℕ
sum_over f from n = sum (map f (numbers from n))

sum-shift : (f : ℕ → ℕ) (from n : ℕ) → sum_over f (suc from) n ≡ sum_over (λ (i : ℕ). f (suc i)) from n
unfolding numbers
sum-shift f from zero = refl
sum-shift f from (suc n) = ap (λ (k : ℕ). f (suc from) + k) (sum-shift f (suc from) n)

-- over the six actions
abbrev pub six : (ℕ → ℕ) → ℕ
six f = f 0 + (f 1 + (f 2 + (f 3 + (f 4 + f 5))))

six-add : (f g : ℕ → ℕ) → six (λ (a : ℕ). f a + g a) ≡ six f + six g
six-add f g = omega arith

digit : (h : ℕ → ℕ → ℕ) (p a n : ℕ) → a < 6 → n ≡ 6 * p + a → h (n / 6) (n % 6) ≡ h p a
digit h p a n l e =
    let q : n / 6 ≡ p = omega arith in
    let r : n % 6 ≡ a = omega arith in
    rw (q, r)

-- six in a row
by-six : (h : ℕ → ℕ → ℕ) (p n : ℕ) → sum_over (λ (i : ℕ). h (i / 6) (i % 6)) (6 * p) (6 * n) ≡ sum_over (λ (q : ℕ). six (h q)) p n
unfolding numbers
by-six h p zero = refl
by-six h p (suc n) =
    let e : 6 * suc n ≡ suc (suc (suc (suc (suc (suc (6 * n)))))) = omega arith in
    let f : suc (suc (suc (suc (suc (suc (6 * p)))))) ≡ 6 * suc p = omega arith in
    let m = 6 * p in
    let h₀ = digit h p 0 m (omega arith) (omega arith) in
    let h₁ = digit h p 1 (suc m) (omega arith) (omega arith) in
    let h₂ = digit h p 2 (suc (suc m)) (omega arith) (omega arith) in
    let h₃ = digit h p 3 (suc (suc (suc m))) (omega arith) (omega arith) in
    let h₄ = digit h p 4 (suc (suc (suc (suc m)))) (omega arith) (omega arith) in
    let h₅ = digit h p 5 (suc (suc (suc (suc (suc m))))) (omega arith) (omega arith) in
    rw (e, f, by-six h (suc p) n) (omega arith)

-- ---- over the scripts of up to m actions, by their first actions

abbrev tree : (m : ℕ) → (Script → ℕ) → ℕ
tree zero f = f []
tree (suc m) f = f [] + six (λ (a : ℕ). tree m (λ (s : Script). f (a ∷ s)))

-- and by their last ones
tree-last : (m : ℕ) (f : Script → ℕ) → tree (suc m) f ≡ f [] + tree m (λ (s : Script). six (λ (a : ℕ). f (s ++ (a ∷ []))))
tree-last zero f = refl
tree-last (suc m) f =
    ap (λ (k : ℕ). f [] + k)
    (ap six (λ i a. tree-last m (λ (s : Script). f (a ∷ s)) i)
    ∙ six-add (λ (a : ℕ). f (a ∷ [])) (λ (a : ℕ). tree m (λ (s : Script). six (λ (b : ℕ). f (a ∷ (s ++ (b ∷ [])))))))

-- a sum by numbers is one by first actions
pub over-tree : (m : ℕ) (f : Script → ℕ) → sum_over (λ (n : ℕ). f (unrank m n)) 0 (grown 1 m) ≡ tree m f
unfolding numbers unrank
over-tree zero f = omega arith
over-tree (suc m) f =
    rw (grown-suc 1 m) (ap (λ (k : ℕ). f [] + k) (sum-shift (λ (n : ℕ). f (unrank (suc m) n)) 0 (6 * grown 1 m)
    ∙ by-six (λ (p a : ℕ). f (unrank m p ++ (a ∷ []))) 0 (grown 1 m)
    ∙ over-tree m (λ (s : Script). six (λ (a : ℕ). f (s ++ (a ∷ []))))) ∙ sym (tree-last m f))

-- the same added at each script of up to m actions
tree-plus : (m k : ℕ) (f : Script → ℕ) → tree m (λ (s : Script). k + f s) ≡ grown 1 m * k + tree m f
tree-plus zero k f = omega arith
tree-plus (suc m) k f =
    let each : six (λ (a : ℕ). tree m (λ (s : Script). k + f (a ∷ s)))
    ≡ six (λ (a : ℕ). grown 1 m * k) + six (λ (a : ℕ). tree m (λ (s : Script). f (a ∷ s)))
    = ap six (λ i a. tree-plus m k (λ (s : Script). f (a ∷ s)) i)
    ∙ six-add (λ (a : ℕ). grown 1 m * k) (λ (a : ℕ). tree m (λ (s : Script). f (a ∷ s))) in
    let size : grown 1 (suc m) * k ≡ 6 * (grown 1 m * k) + k = rw (grown-suc 1 m, suc-mul (6 * grown 1 m) k, mul_assoc) in
    omega (arith, each, size)

-- ---- what is counted over all scripts

-- over the scripts of up to m actions that start with table t: what is counted at an action counts for each script that goes on from there
unfoldable pub shared : (Call → Words → ℕ) → (m : ℕ) → Words → ℕ
shared count zero t = 0
shared count (suc m) t =
    six (λ (a : ℕ). let x = call_of a in
    grown 1 m * unless_refused (refusal x 2560 0 t) (count x t) 0 + shared count m (table_after x 2560 0 t))

-- one action, then the scripts that go on from there
step-along : (count : Call → Words → ℕ) (m : ℕ) (t : Words) (a : ℕ)
    → ((u : Words) → tree m (λ (s : Script). along count s u) ≡ shared count m u)
    → tree m (λ (s : Script). along count (a ∷ s) t)
    ≡ grown 1 m * unless_refused (refusal (call_of a) 2560 0 t) (count (call_of a) t) 0 + shared count m (table_after (call_of a) 2560 0 t)
unfolding along
step-along count m t a rest =
    let u = table_after (call_of a) 2560 0 t in
    let k = unless_refused (refusal (call_of a) 2560 0 t) (count (call_of a) t) 0 in
    tree-plus m k (λ (s : Script). along count s u) ∙ ap (λ (n : ℕ). grown 1 m * k + n) (rest u)

tree-along : (count : Call → Words → ℕ) (m : ℕ) (t : Words) → tree m (λ (s : Script). along count s t) ≡ shared count m t
unfolding along shared
tree-along count zero t = refl
tree-along count (suc m) t = zero-add _ ∙ ap six (λ i a. step-along count m t a (tree-along count m) i)

pub over-shared : (count : Call → Words → ℕ) → over_all count ≡ shared count 4 (empty 4)
unfolding over_all
over-shared count = over-tree 4 (λ (s : Script). along count s (empty 4)) ∙ tree-along count 4 (empty 4)
