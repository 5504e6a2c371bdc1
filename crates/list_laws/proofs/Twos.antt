-- Words taken two at a time, as a list has them: the first two, no two left, and what an iterator of two words each gives.
use Rattle.std.proofs.Common.{◌≡◌, ℕ, suc, ◌<◌, List, [], ◌∷◌, ◌++◌, length, sym, ap, ◌∙◌, arith}
use Rattle.std.specs.declared.slice.ChunksExact.{ChunksExact}
use Rattle.std.specs.Iterator.{AlwaysYields}
use Rattle.std.specs.Slice.Iter.{chunks_exact_rest, chunks_exact_size, chunks_exact_steps}
use Rattle.std.proofs.lemmas.Iterator.{YieldsList}
use Rattle.model.specs.Table.{Words, at}
use Rattle.list_laws.proofs.Lists.{cons-same}

module _ {A : Type 0} (f : Words → List A) (g : ℕ → ℕ → A) (none : f [] ≡ []) (one : (a : ℕ) → f (a ∷ []) ≡ [])
    (both : (a b : ℕ) (ws : Words) → f (a ∷ b ∷ ws) ≡ g a b ∷ f ws) where
  -- of fewer than two words it gives nothing
  pub no-two : (ws : Words) → length ws < 2 → f ws ≡ []
  no-two [] h = none
  no-two (a ∷ []) h = one a
  no-two (a ∷ b ∷ ws) h = absurd (omega arith)

  -- of a pair with words after it, it gives the pair's item, then what it gives of the words after
  pub first-two : (ws pair after : Words) → ws ≡ pair ++ after → length pair ≡ 2 → f ws ≡ g (at pair 0) (at pair 1) ∷ f after
  first-two ws pair after e two = ap f e ∙ go pair two
    where
      go : (p : Words) → length p ≡ 2 → f (p ++ after) ≡ g (at p 0) (at p 1) ∷ f after
      go [] n = absurd (omega arith)
      go (a ∷ []) n = absurd (omega arith)
      go (a ∷ b ∷ []) n = both a b after
      go (a ∷ b ∷ x ∷ p) n = absurd (omega arith)

  twos-from : (ys : List A) (s : ChunksExact ℕ) → chunks_exact_size s ≡ 2 → f (chunks_exact_rest s) ≡ ys
      → AlwaysYields chunks_exact_steps (λ x. g (at x.now 0) (at x.now 1)) s ys
  twos-from [] s z e = λ x j p.
      let q = first-two _ x.now _ p.1.0 (p.1.1 ∙ z) in
      let n : ◌≡◌ {A = ℕ} (suc (length (f (chunks_exact_rest j)))) 0 = sym (ap length q) ∙ ap length e in
      absurd (omega arith)
  twos-from (y ∷ ys) s z e = (
    (λ j p.
        let q = no-two (chunks_exact_rest s) (omega (arith, p.1.0, z)) in
        let n : ◌≡◌ {A = ℕ} (suc (length ys)) 0 = sym (ap length e) ∙ ap length q in
        absurd (omega arith)),
    λ x j p. let q = cons-same _ _ _ _ (sym (first-two _ x.now _ p.1.0 (p.1.1 ∙ z)) ∙ e) in (q.0, twos-from ys j (p.0 ∙ z) q.1),
  )

  -- an iterator over ws by two words each yields the items that f gives of ws, in their order
  pub twos-come : (ws : Words) (s : ChunksExact ℕ) → chunks_exact_size s ≡ 2 → chunks_exact_rest s ≡ ws
      → YieldsList chunks_exact_steps (λ x. g (at x.now 0) (at x.now 1)) s (f ws)
  twos-come ws s z e = record { runs = twos-from (f ws) s z (ap f e) }
