-- The laws of codes and keys, over all of them.
use Rattle.std.proofs.Common.{◌≡◌, ℕ, ◌<◌, true, ◌↔◌, List, sym, ap, ◌∙◌, ltb-true, lt-ltb}
use Rattle.std.specs.Prelude.{Ok}
use Rattle.model.specs.Codes.{is_code, key_of, parse, spelling, has_code, print, characters_of, text_below}
use Rattle.isrc.proofs.Codes.{code, spelling-key, codes-order, parse-code, parsed, spelled, key-has-code, print-code}

-- Printing a code's key gives the code back.
pub print-key_of : (text : List ℕ) → is_code text ≡ true → print (key_of text) ≡ Ok text
print-key_of text e = rw (print-code (key_of text) (key-has-code text e), spelling-key text (code text e))

pub print-parsed : (text : List ℕ) (k : ℕ) → parse text ≡ Ok k → print k ≡ Ok text
print-parsed text k e =
    let p = parsed text k e in
    rw p.1 at (print-key_of text p.0)

-- What a key with a code spells, and so what it prints as, reads as the key.
pub parse-spelling : (k : ℕ) → has_code k ≡ true → parse (spelling k) ≡ Ok k
parse-spelling k e = let t = spelled k e in parse-code (spelling k) t.0 ∙ ap Ok t.1

pub parse-print : (k : ℕ) → has_code k ≡ true → parse (characters_of (print k)) ≡ Ok k
parse-print k e = rw (print-code k e) (parse-spelling k e)

-- A key prints exactly if some code reads as it.
pub prints-iff-read : (k : ℕ) → (has_code k ≡ true) ↔ ((text : List ℕ) × (parse text ≡ Ok k))
prints-iff-read k = (
  λ e. (spelling k, parse-spelling k e),
  λ t. let p = parsed t.0 k t.1 in rw p.1 at (key-has-code t.0 p.0),
)

-- Codes are in the order of their keys.
pub code-order : (a b : List ℕ) → is_code a ≡ true → is_code b ≡ true → (text_below a b ≡ true) ↔ (key_of a < key_of b)
code-order a b e f =
    let o = codes-order a b (code a e) (code b f) in
    (λ h. ltb-true (key_of a) (key_of b) (sym o ∙ h), λ h. o ∙ lt-ltb (key_of a) (key_of b) h)

-- Two codes with one key are the same text.
pub one-code : (a b : List ℕ) → is_code a ≡ true → is_code b ≡ true → key_of a ≡ key_of b → a ≡ b
one-code a b e f h = sym (spelling-key a (code a e)) ∙ ap spelling h ∙ spelling-key b (code b f)
