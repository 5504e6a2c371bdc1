-- A try at a time: the cells and the tries left.
use Rattle.std.proofs.Common.{◌≡◌, ℕ, suc, ◌+◌, ◌-◌, ◌%◌, ◌<◌, Bool, true, false, cond, eqb, ◌≢◌, length, get_or, set, sym, refl, ap, ◌∙◌}
use Rattle.std.proofs.Common.{arith, eq-eqb, ne_eqb}
use borrow.Author.Tests.{eqb-false}
use Rattle.model.specs.Table.{Words}
use Rattle.std.specs.Prelude.{Ok, Err}
use Rattle.numbers.specs.declared.Stop.TheVariants.{Known, Full}
use Rattle.model.specs.Cells.{home_of}
use Rattle.numbers.specs.Cells.{mixed, next_cell, outcome, tried, entered}

-- ---- cells of a path

pub home-is : (m x q r : ℕ) → q ≡ mixed x → r ≡ q % m → r ≡ home_of m x
unfolding home_of
home-is m x q r e f = f ∙ ap (λ (z : ℕ). z % m) e

pub next-first : (n i : ℕ) → i + 1 ≡ n → 0 ≡ next_cell n i
unfolding next_cell
next-first n i e = rw (eq-eqb (i + 1) n e)

pub next-up : (n i : ℕ) → i + 1 ≢ n → i + 1 ≡ next_cell n i
unfolding next_cell
next-up n i e = rw (ne_eqb (i + 1) n e)

pub next-below : (n i : ℕ) → i < n → next_cell n i < n
unfolding next_cell
next-below n i h = go (eqb (i + 1) n) refl
  where
    go : (b : Bool) → eqb (i + 1) n ≡ b → cond b 0 (i + 1) < n
    go true e = omega arith
    go false e = let d = eqb-false (i + 1) n e in omega arith

-- ---- the loop

pub no-number : (m : ℕ) (cs : Words) (r : ℕ) → r ≡ 0 → outcome (Err Full) cs ≡ entered m cs r
unfolding entered
no-number m cs r z = rw (eq-eqb r 0 z, entered)

pub some-number : (m : ℕ) (cs : Words) (r i : ℕ) → i ≡ home_of (length cs) r → (r ≡ 0 → ⊥) → tried (length cs) cs r i m ≡ entered m cs r
unfolding entered home_of
some-number m cs r i q z = rw (q, ne_eqb r 0 z, entered)

module _ (n : ℕ) (cs : Words) (r i m : ℕ) where
  tried-next : 0 < m → tried n cs r i m ≡ tried n cs r i (suc (m - 1))
  tried-next h = let z : m ≡ suc (m - 1) = omega arith in ap (tried n cs r i) z

  pub tried-known : 0 < m → get_or cs i 0 ≡ r → outcome (Err Known) cs ≡ tried n cs r i m
  unfolding tried
  tried-known h e = sym (tried-next h ∙ rw (eq-eqb (get_or cs i 0) r e, tried))

  pub tried-free : 0 < m → (get_or cs i 0 ≡ r → ⊥) → get_or cs i 0 ≡ 0 → outcome (Ok tt) (set cs i r) ≡ tried n cs r i m
  unfolding tried
  tried-free h d e = sym (tried-next h ∙ rw (ne_eqb (get_or cs i 0) r d, eq-eqb (get_or cs i 0) 0 e, tried))

  pub tried-more : 0 < m → (get_or cs i 0 ≡ r → ⊥) → (get_or cs i 0 ≡ 0 → ⊥) → (j : ℕ) → j ≡ next_cell n i
      → tried n cs r j (m - 1) ≡ tried n cs r i m
  unfolding tried
  tried-more h d z j q =
      ap (λ (k : ℕ). tried n cs r k (m - 1)) q ∙ sym (tried-next h ∙ rw (ne_eqb (get_or cs i 0) r d, ne_eqb (get_or cs i 0) 0 z, tried))

  pub tried-end : m ≡ 0 → outcome (Err Full) cs ≡ tried n cs r i m
  unfolding tried
  tried-end h = sym (ap (tried n cs r i) h)
