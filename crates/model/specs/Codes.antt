-- Document 01, "Codes": reading and printing an ISRC code.
use Rattle.std.specs.Prelude.{Bool, true, false, cond, ◌&&◌, ◌||◌, List, [], ◌∷◌, ◌++◌, map, ℕ, zero, Ok, Err}
use Rattle.std.specs.Prelude.{suc, ◌+◌, ◌-◌, ◌*◌, ◌/◌, ◌%◌, leb, ltb, eqb, length, take, drop, replicate}
use Rattle.model.specs.Results.{Parsed, Printed, refused_with}
use Rattle.model.specs.Lists.{all}

-- characters in ASCII
unfoldable pub is_digit : ℕ → Bool
is_digit c = leb 48 c && leb c 57

unfoldable pub is_letter : ℕ → Bool
is_letter c = leb 65 c && leb c 90

unfoldable pub is_letter_or_digit : ℕ → Bool
is_letter_or_digit c = is_letter c || is_digit c

-- A code is 12 characters: two letters, three letters or digits, seven digits.
unfoldable pub is_code : List ℕ → Bool
is_code text =
    eqb (length text) 12 && all is_letter (take 2 text) && all is_letter_or_digit (take 3 (drop 2 text)) && all is_digit (drop 5 text)

-- Digits count 0 to 9, letters 10 to 35.
unfoldable pub value : ℕ → ℕ
value c = cond (is_digit c) (c - 48) (c - 55)

-- the number that starts as n and goes on with these digits in base b, and the number that has just these
unfoldable pub read_on : ℕ → ℕ → List ℕ → ℕ
read_on b n [] = n
read_on b n (d ∷ ds) = read_on b (n * b + d) ds

unfoldable pub number : ℕ → List ℕ → ℕ
number b ds = read_on b 0 ds

-- The key is the first five read in base 36, times 10,000,000, plus the last seven in base 10.
unfoldable pub key_of : List ℕ → ℕ
key_of text = number 36 (map value (take 5 text)) * 10000000 + number 10 (map value (drop 5 text))

unfoldable pub parse : List ℕ → Parsed
parse text = cond (is_code text) (Ok (key_of text)) (refused_with 1)

-- the character that counts d, and the last n digits of x in base b, highest first
unfoldable pub character : ℕ → ℕ
character d = cond (ltb d 10) (48 + d) (55 + d)

unfoldable pub digits : ℕ → ℕ → ℕ → List ℕ
digits b zero x = []
digits b (suc n) x = digits b n (x / b) ++ (x % b ∷ [])

-- The only text that can have this key: five digits in base 36, then seven in base 10.
unfoldable pub spelling : ℕ → List ℕ
spelling k = map character (digits 36 5 (k / 10000000) ++ digits 10 7 k)

-- some code has this key
unfoldable pub has_code : ℕ → Bool
has_code k = is_code (spelling k) && eqb (key_of (spelling k)) k

-- Printing gives 12 characters; a key that no code has is refused, with 12 zero bytes.
unfoldable pub print : ℕ → Printed
print k = cond (has_code k) (Ok (spelling k)) (refused_with 1)

-- the characters that lent bytes then hold
abbrev pub characters_of : Printed → List ℕ
characters_of (Ok text) = text
characters_of (Err r) = replicate 12 0

-- the key that a lent word then holds; it stays if there is none
abbrev pub key_or : Parsed → ℕ → ℕ
key_or (Ok k) old = k
key_or (Err r) old = old

-- ---- the order of texts: demand 2 says that a larger code is a larger key

-- Character by character: the first difference decides, and a text comes before its continuations.
unfoldable pub text_below : List ℕ → List ℕ → Bool
text_below [] [] = false
text_below [] (d ∷ ds) = true
text_below (c ∷ cs) [] = false
text_below (c ∷ cs) (d ∷ ds) = ltb c d || eqb c d && text_below cs ds
