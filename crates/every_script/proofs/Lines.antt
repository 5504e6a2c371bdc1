-- Two lines put into a text one after the other are what the definition prints.
use Rattle.std.proofs.Common.{◌≡◌, ℕ, ◌≤◌, [], ◌∷◌, ◌++◌, length, ◌∙◌, append_assoc, arith, length-append}
use Rattle.model.specs.Printer.{Bytes, decimal}
use Rattle.model.specs.Scripts.{tables_met, bad_met, met_text}
use Rattle.script_bytes.specs.declared.Text.{Text}
use Rattle.script_bytes.specs.Text.{bytes_of, Room, Puts}
use Rattle.script_bytes.proofs.Decimal.{decimal-most}
use Rattle.script_bytes.proofs.Puts.{puts-then, puts-whole}

abbrev pub line_of : ℕ → Bytes
line_of n = decimal n ++ (10 ∷ [])

pub line-most : (n : ℕ) → length (line_of n) ≤ 21
line-most n = omega (arith, decimal-most n, length-append (decimal n) (10 ∷ []))

text-is : (t b : ℕ) → t ≡ tables_met → b ≡ bad_met → line_of t ++ line_of b ≡ met_text
unfolding met_text
text-is t b e f = rw (e, f, append_assoc)

pub two-lines : (t b : ℕ) {x y z : Text} → t ≡ tables_met → b ≡ bad_met → x.at ≡ 0 → Room 42 x
    → Puts (line_of t) x y → Puts (line_of b) y z → bytes_of z ≡ met_text
two-lines t b e f n r p q = puts-whole n (puts-then p (omega (arith, r, line-most t)) q) ∙ text-is t b e f
