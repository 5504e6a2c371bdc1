-- Marks as bits, 64 to a word.
use Rattle.std.specs.Prelude.{Bool, cond, List, [], ◌∷◌, ℕ, ◌/◌, ◌%◌, ◌^◌, eqb, set}
use Rattle.std.specs.Int.Bits.{bit_or, bit_xor}
use Rattle.model.specs.Table.{Words, at}

-- bit x % 64 of word x / 64
unfoldable pub has : Words → (x : ℕ) → Bool
has ws x = eqb (at ws (x / 64) / 2 ^ (x % 64) % 2) 1

unfoldable pub put : Words → (x : ℕ) → Words
put ws x = set ws (x / 64) (bit_or (at ws (x / 64)) (2 ^ (x % 64)))

-- a mark less
unfoldable pub cleared : Words → (x : ℕ) → Words
cleared ws x = cond (has ws x) (set ws (x / 64) (bit_xor (at ws (x / 64)) (2 ^ (x % 64)))) ws

-- these marks more
unfoldable pub put_each : List ℕ → Words → Words
put_each [] ws = ws
put_each (x ∷ xs) ws = put_each xs (put ws x)
