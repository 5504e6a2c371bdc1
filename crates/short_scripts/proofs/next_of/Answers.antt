-- `short_scripts::next_of` meets its contract.
use Rattle.std.proofs.Common.{◌≡◌, ℕ, Bool, cond, ◌&&◌, ltb, length, Some, None, Option, sym, refl, ap, ◌∙◌, arith, rules, tests}
use Rattle.std.proofs.lemmas.Iterator.{YieldsList-from_range}
use Rattle.std.proofs.lemmas.Iterator.Adapters.{option_map_id}
use Rattle.std.proofs.lemmas.Iterator.Search.{find_from_yields_List}
use Rattle.std.specs.List.{find, range_with_len}
use Rattle.model.specs.Search.{first_above}
use Rattle.model.specs.Refusals.{has_key}
use Rattle.short_scripts.specs.Held.{Held, pairs}
use Rattle.short_scripts.proofs.Keys.{next-held, next-none}
use Rattle.short_scripts.proofs.next_of.Goals as goal

module _ (h : Held) (q : ℕ) (n : length h ≡ 3) where
  test : ℕ → Bool
  test k = ltb q k && has_key k (pairs h)

  -- the keys 1, 2 and 3, one by one
  first : first_above q (pairs h) ≡ cond (test 1) (Some 1) (cond (test 2) (Some 2) (cond (test 3) (Some 3) None))
  unfolding pairs test
  first =
      next-held h q 1 n (omega arith) (omega arith)
      ∙ ap (λ (r : Option ℕ). cond (test 1) (Some 1) r) (next-held h q 2 n (omega arith) (omega arith)
      ∙ ap (λ (r : Option ℕ). cond (test 2) (Some 2) r) (next-held h q 3 n (omega arith) (omega arith)
      ∙ ap (λ (r : Option ℕ). cond (test 3) (Some 3) r) (next-none h q 4 n (omega arith))))

  found : find (λ (k : ℕ). ltb q k && has_key k (pairs h)) (range_with_len 1 3) ≡ first_above q (pairs h)
  unfolding test
  found = sym first

pub returns : goal.returns
returns c =
    let a = c.args in
    sym (option_map_id c.find.result)
    ∙ find_from_yields_List (λ (k : ℕ). ltb a.key k && has_key k (pairs a.held)) _ _ c.find.result c.find.ensures.ran
    (YieldsList-from_range 1 4 _ refl refl) (λ x b q k. search (rules, tests))
    ∙ found a.held a.key (search rules)
