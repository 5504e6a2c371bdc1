-- `isrc::write_digits` meets its contract.
use Rattle.std.proofs.Common.{◌≡◌, ℕ, zero, suc, ◌-◌, ◌/◌, ◌%◌, ◌<◌, ◌≤◌, List, ◌++◌, map, length, drop, set, refl, ◌∙◌, append_assoc}
use Rattle.std.proofs.Common.{add-one, arith}
use mathlib.Core.List.{map-append}
use Rattle.std.proofs.lemmas.List.{drop-set}
use Rattle.model.specs.Codes.{character, digits}
use Rattle.isrc.proofs.write_digits.Goals as goal

-- the last of the i digits that are still to be written goes to place i - 1
write : (base left i v : ℕ) (text : List ℕ) → 0 < i → i ≤ length text → v ≡ character (left % base)
    → map character (digits base (i - 1) (left / base)) ++ drop (i - 1) (set text (i - 1) v)
    ≡ map character (digits base i left) ++ drop i text
unfolding digits
write base left zero v text h l e = absurd (omega arith)
write base left (suc i) v text h l e =
    let p : suc i - 1 ≡ i = omega arith in
    rw (p, drop-set text i v l, add-one i, map-append, append_assoc, e)

-- with no digit left the text is written
done : (base left i : ℕ) (text : List ℕ) → i ≤ 0 → text ≡ map character (digits base i left) ++ drop i text
unfolding digits
done base left zero text h = refl
done base left (suc i) text h = absurd (omega arith)

pub loop-i-preserved : goal.loop-i-preserved
loop-i-preserved c =
    write c.args.base c.loop-i.left c.loop-i.i c.character_of.result c.loop-i.text c.loop-i-test.true (omega arith) c.character_of.ensures
    ∙ c.loop-i.invariant

pub returns : goal.returns
returns c = done c.args.base c.loop-i.left c.loop-i.i c.loop-i.text c.loop-i-test.false ∙ c.loop-i.invariant
