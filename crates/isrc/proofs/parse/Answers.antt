-- `isrc::parse` meets its contract: past the test the text is a code, and the two results are its numbers.
use Rattle.std.proofs.Common.{◌≡◌, ℕ, ◌+◌, ◌-◌, ◌*◌, ◌<◌, true, false, List, map, length, take, drop, sym, ap, ◌∙◌, ap₂, arith, rules}
use Rattle.std.specs.Prelude.{Ok}
use Rattle.model.specs.Codes.{value, number, key_of}
use Rattle.model.specs.declared.Refusal.TheVariants.{NoCode}
use Rattle.model.proofs.Numbers.{refused-by}
use Rattle.isrc.proofs.Codes.{Code, code, rest, length-front, length-back, back-counted, key-below, parse-code, parse-other}
use Rattle.isrc.proofs.parse.Goals.{Else-not-is_code, After-number_of-last}
use Rattle.isrc.proofs.parse.Goals as goal

-- past the test the text is a code
coded : (c : Else-not-is_code) → Code c.args.text.now
coded c = let t : c.is_code.result ≡ true = search rules in code _ (sym c.is_code.ensures ∙ t)

is_key : (text : List ℕ) (m n : ℕ) → m ≡ number 36 (map value (take 5 text)) → n
    ≡ number 10 (map value (take (length text - 5) (drop 5 text))) → m * 10000000 + n ≡ key_of text
unfolding key_of
is_key text m n e f = ap₂ (λ (i j : ℕ). i * 10000000 + j) e (f ∙ ap (λ (l : List ℕ). number 10 (map value l)) (rest 5 text))

below : (c : After-number_of-last) → c.number_of-first.result * 10000000 + c.number_of-last.result < 604661760000000
below c = let t : c.is_code.result ≡ true = search rules in
    rw (is_key _ _ _ c.number_of-first.ensures c.number_of-last.ensures) (key-below _ (code _ (sym c.is_code.ensures ∙ t)))

pub returns-then-not-is_code : goal.returns-then-not-is_code
returns-then-not-is_code c = let f : c.is_code.result ≡ false = search rules in
    sym (parse-other _ (sym c.is_code.ensures ∙ f) ∙ refused-by NoCode)

pub slice_bounds-number_of-end : goal.slice_bounds-number_of-end
slice_bounds-number_of-end c = sym (length-front _ (coded (goal.at.slice_bounds-number_of-end c).Else-not-is_code))

pub number_of-first-requires : goal.number_of-first-requires
number_of-first-requires c = let k =
    coded (goal.at.number_of-first-requires c).Else-not-is_code in (k.front, omega (arith, length-front _ k), search rules)

pub slice_bounds-number_of-count : goal.slice_bounds-number_of-count
slice_bounds-number_of-count c = omega (arith, (coded (goal.at.slice_bounds-number_of-count c).Else-not-is_code).long)

pub slice_bounds-number_of-start : goal.slice_bounds-number_of-start
slice_bounds-number_of-start c = omega (arith, (coded (goal.at.slice_bounds-number_of-start c).Else-not-is_code).long)

pub number_of-last-requires : goal.number_of-last-requires
number_of-last-requires c = let k = coded (goal.at.number_of-last-requires c).Else-not-is_code in
    rw (rest 5 c.args.text.now) (back-counted _ k, omega (arith, length-back _ k), search rules)

pub overflow_mul-result : goal.overflow_mul-result
overflow_mul-result c = let b = below (goal.at.overflow_mul-result c).After-number_of-last in record { fits = omega (arith, b) }

pub overflow_add-result : goal.overflow_add-result
overflow_add-result c = let b = below (goal.at.overflow_add-result c).After-number_of-last in record { fits = omega (arith, b) }

pub returns : goal.returns
returns c = let t : c.is_code.result ≡ true = search rules in
    ap Ok (is_key _ _ _ c.number_of-first.ensures c.number_of-last.ensures) ∙ sym (parse-code _ (sym c.is_code.ensures ∙ t))
