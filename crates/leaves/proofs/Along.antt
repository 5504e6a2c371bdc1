-- What an iterator along the siblings has left, one node more.
use Rattle.std.proofs.Common.{◌≡◌, ℕ, ◌-◌, [], ◌∷◌, ap, ◌∙◌, arith, suc}
use Rattle.model.specs.Table.{Words}
use Rattle.model.specs.Slots.{view}
use Rattle.node.specs.Word.{word_of}
use Rattle.node.proofs.WordLaws.{word-sibling}
use Rattle.walk_laws.specs.Chain.{along}
use Rattle.walk_laws.proofs.ChainLaw.{along-more}

module _ (t : Words) (c n : ℕ) where
  pub along-done : c ≡ 0 → along (view t) c n ≡ []
  unfolding along
  along-done z = ap (λ (k : ℕ). along (view t) k n) z

  pub along-next : (m : ℕ) → (c ≡ 0 → ⊥) → (n ≡ 0 → ⊥) → m ≡ word_of t n 1 → along (view t) c n ≡ n ∷ along (view t) (c - 1) m
  along-next m z y e =
      let more : c ≡ suc (c - 1) = omega (arith, z) in
      ap (λ (k : ℕ). along (view t) k n) more ∙ along-more (view t) (c - 1) n y
      ∙ ap (λ (k : ℕ). n ∷ along (view t) (c - 1) k) (rw (e, word-sibling))
