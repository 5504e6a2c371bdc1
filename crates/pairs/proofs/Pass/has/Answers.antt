-- `pairs::Pass::has` meets its contract.
use Rattle.std.proofs.Common.{◌≡◌, ℕ, ltb, leb, nat_cmp, is_lt, is_le, ◌∙◌, arith}
use Rattle.std.proofs.lemmas.Bool.Decides.{nat_tests}
use Rattle.pairs.specs.Passes.{in_pass}
use Rattle.pairs.proofs.Pass.has.Goals as goal

le-same : (a b : ℕ) → is_le (nat_cmp a b) ≡ leb a b
le-same a b = grind (arith, nat_tests)

lt-same : (a b : ℕ) → is_lt (nat_cmp a b) ≡ ltb a b
lt-same a b = grind (arith, nat_tests)

pub returns : goal.returns
unfolding in_pass
returns c = c.contains.ensures.value ∙ simp (le-same, lt-same, c.mixed.ensures)
