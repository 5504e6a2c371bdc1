-- `sentinels::line_for` meets its contract.
use Rattle.std.proofs.Common.{ℕ, leb, List, [], ◌∷◌, reverse, length, ap, ◌∙◌, subst, rules, tests}
use mathlib.Core.List.{reverse-append}
use lib.ListN.{length-reverse}
use Rattle.std.specs.Slice.Iter.{iter_rest, iter_steps_back}
use Rattle.std.proofs.lemmas.Iterator.{YieldsList}
use Rattle.std.proofs.lemmas.Iterator.Consumers.{YieldsList-from_shown}
use Rattle.sentinels.proofs.Searching.{back-found, last-line}
use Rattle.sentinels.proofs.line_for.Goals as goal

pub returns : goal.returns
returns c = let a = c.args in
    last-line a.key a.three.now c.rposition.result c.told-three _ (ap length c.iter.ensures.rest ∙ c.told-three)
    (back-found (λ (w : ℕ). leb w a.key) _ _ _ c.rposition.result c.rposition.ensures.ran
    (subst (λ (ws : List ℕ). YieldsList iter_steps_back (λ y. y.now) c.iter.result (reverse ws)) c.iter.ensures.rest
    (YieldsList-from_shown iter_steps_back (λ y. y.now) (λ u. reverse (iter_rest u)) (λ u t p. length-reverse _ ∙ p.0)
    (λ u x t p. ap reverse p ∙ reverse-append (iter_rest t) (x.now ∷ [])) c.iter.result))
    (λ x b q k. search (rules, tests)))
