-- `isrc::number_of` meets its contract.
use Rattle.std.proofs.Common.{ℕ, ◌+◌, ◌*◌, ◌^◌, ◌<◌, List, map, get_or, sym, refl, ap, ◌∙◌, arith, lit<, drop_of_length-le}
use native.Mathlib.Nat.{pow-le-pow_right}
use Rattle.model.specs.Codes.{is_letter_or_digit, value, number, read_on}
use Rattle.isrc.proofs.Characters.{value-bound, every-get_d, read_on-at}
use Rattle.isrc.proofs.Digits.{step-bound}
use Rattle.isrc.proofs.number_of.Goals as goal
use Rattle.isrc.proofs.number_of.Goals.{After-value_of}

-- one character more stays in the bound, and the bound in a word
step : (c : After-value_of) → c.loop-c.n * c.args.base + c.value_of.result < 36 ^ (c.loop-c.c-index + 1)
step c =
    let counted = every-get_d is_letter_or_digit c.args.text.now c.loop-c.c-index c.requires.0 c.loop-c-test.true in
    step-bound 36 c.args.base c.loop-c.n c.value_of.result c.loop-c.c-index c.requires.2 c.loop-c.invariant.0
    (rw c.value_of.ensures (value-bound (get_or c.args.text.now c.loop-c.c-index 0) counted))

in-word : (n i : ℕ) → i < 7 → n < 36 ^ (i + 1) → n < 2 ^ 64
in-word n i h l = omega (arith, pow-le-pow_right {n = 36} (lit< tt) {i = i + 1} {j = 7} (omega arith))

pub loop-c-init : goal.loop-c-init
unfolding number
loop-c-init c = (omega arith, refl)

pub value_of-requires : goal.value_of-requires
value_of-requires c = every-get_d is_letter_or_digit c.args.text.now c.loop-c.c-index c.requires.0 c.loop-c-test.true

pub overflow_add-n : goal.overflow_add-n
overflow_add-n c = record { fits = in-word _ c.loop-c.c-index (omega arith) (step (goal.at.overflow_add-n c).After-value_of) }

pub loop-c-preserved : goal.loop-c-preserved
loop-c-preserved c = let e =
    read_on-at c.args.base c.loop-c.n c.value_of.result c.args.text.now c.loop-c.c-index c.loop-c-test.true c.value_of.ensures in
    (step (goal.at.loop-c-preserved c).After-value_of, sym e ∙ c.loop-c.invariant.1)

pub returns : goal.returns
unfolding read_on
returns c = let e = drop_of_length-le c.args.text.now c.loop-c-test.false in
    sym (ap (λ (l : List ℕ). read_on c.args.base c.loop-c.n (map value l)) e) ∙ c.loop-c.invariant.1
