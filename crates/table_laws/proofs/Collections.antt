-- The collections that a table has: 1, and 2 where word 3 is not 0.
use Rattle.std.proofs.Common.{◌≡◌, ℕ, false, ◌≢◌, ◌⊎◌, sym, inl, inr, eq-eqb, ne_eqb}
use mathlib.Core.Bool.{false≢true}
use Rattle.model.specs.Table.{Words, at, no_collection}
use Rattle.list_laws.proofs.Tools.{same-or-not}

-- a fact of collection 1, and of 2 where it is there, is one of each
pub by-number : (t : Words) (P : ℕ → Type 0) → P 1 → (at t 3 ≢ 0 → P 2) → (n : ℕ) → no_collection n t ≡ false → P n
unfolding no_collection
by-number t P a b n h = go (same-or-not n 1) (same-or-not n 2)
  where
    go : (n ≡ 1) ⊎ (n ≢ 1) → (n ≡ 2) ⊎ (n ≢ 2) → P n
    go (inl e) q = rw e a
    go (inr z) (inl e) = rw e (b (λ y. false≢true (sym (rw (ne_eqb n 1 z, eq-eqb n 2 e, eq-eqb (at t 3) 0 y) at h))))
    go (inr z) (inr y) = absurd (false≢true (sym (rw (ne_eqb n 1 z, ne_eqb n 2 y) at h)))
