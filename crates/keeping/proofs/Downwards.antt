-- What `rev` of a range of numbers yields: these numbers, the last first.
use Rattle.std.proofs.Common.{◌≡◌, ℕ, zero, suc, ◌+◌, ◌-◌, ◌<◌, List, [], ◌∷◌, length, sym, ap, ◌∙◌, subst, arith}
use Rattle.std.specs.Prelude.{Option, None, Some, MatchOption}
use Rattle.std.specs.declared.iter.Rev.{Rev}
use Rattle.std.specs.declared.ops.Range.{Range}
use Rattle.std.specs.Iterator.Adapters.{rev_source, rev_steps}
use Rattle.std.proofs.lemmas.Iterator.{YieldsList}
use Rattle.std.proofs.lemmas.Iterator.Consumers.{YieldsList-from_shown}

-- n numbers from a on, the last first
unfoldable pub downwards : (a n : ℕ) → List ℕ
downwards a zero = []
downwards a (suc n) = (a + n) ∷ downwards a n

-- a call takes the last of those that are left
abbrev pub takes_last : Range ℕ → Option ℕ → Range ℕ → Type 0
takes_last s r t = (t.start ≡ s.start)
    × MatchOption r ((s.end - s.start ≡ 0) × (t.end ≡ s.end)) (λ x. (0 < s.end - s.start) × (x ≡ t.end) × (s.end ≡ t.end + 1))

abbrev left : Range ℕ → List ℕ
left s = downwards s.start (s.end - s.start)

none-left : (s t : Range ℕ) → takes_last s None t → length (left s) ≡ 0
unfolding downwards
none-left s t h = ap (λ (n : ℕ). length (downwards s.start n)) h.1.0

one-less : (s : Range ℕ) (x : ℕ) (t : Range ℕ) → takes_last s (Some x) t → left s ≡ x ∷ left t
unfolding downwards
one-less s x t h =
    let m = t.end - s.start in
    let some : 0 < s.end - s.start = h.1.0 in
    let next : s.end ≡ t.end + 1 = h.1.2 in
    let long : s.end - s.start ≡ suc m = omega arith in
    let last : s.start + m ≡ x = omega (arith, h.1.1) in
    let parts : left s ≡ (s.start + m) ∷ downwards s.start m = ap (downwards s.start) long in
    parts ∙ ap (λ (y : ℕ). y ∷ downwards s.start m) last ∙ ap (λ (b : ℕ). x ∷ downwards b (t.end - b)) (sym h.0)

pub rev-yields : {s : Rev (Range ℕ)} (n : ℕ) → rev_source s ≡ record { start = 0; end = n }
    → YieldsList (rev_steps takes_last) (λ x. x) s (downwards 0 n)
rev-yields {s} n e =
    let all : n - 0 ≡ n = omega arith in
    let is : left (rev_source s) ≡ downwards 0 n = ap left e ∙ ap (downwards 0) all in
    subst (λ (l : List ℕ). YieldsList (rev_steps takes_last) (λ x. x) s l) is
    (YieldsList-from_shown (rev_steps takes_last) (λ x. x) (λ u. left (rev_source u)) (λ u t h. none-left (rev_source u) (rev_source t) h)
    (λ u x t h. one-less (rev_source u) x (rev_source t) h) s)
