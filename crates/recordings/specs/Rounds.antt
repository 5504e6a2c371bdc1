-- Numbers that may be there twice, found by bits: in a round each suspect hits a place, and those whose place is hit twice stay suspects.
use Rattle.std.specs.Prelude.{◌≡◌, Bool, true, false, cond, ◌&&◌, ◌||◌, List, [], ◌∷◌, ℕ, zero, suc, ◌-◌, ◌/◌, ◌%◌, eqb}
use Rattle.model.specs.Table.{Words}
use Rattle.model.specs.SoundTest.{elem}
use Rattle.bits.specs.Bits.{has, put}

-- Places of a round, a bit each; words for them, and for a bit to every two of them.
abbrev pub PLACES : ℕ
PLACES = 1048576

abbrev pub ONCE : ℕ
ONCE = 16384

abbrev pub TWICE : ℕ
TWICE = 8192

-- The primes that the rounds scatter by: numbers in equal steps, fewer than the first prime, fall to different places in the first round.
unfoldable pub prime_of : (round : ℕ) → ℕ
prime_of zero = 1048573
prime_of (suc zero) = 906973
prime_of (suc (suc zero)) = 975157
prime_of (suc (suc (suc zero))) = 1011827
prime_of (suc (suc (suc (suc zero)))) = 938459
prime_of (suc (suc (suc (suc (suc k))))) = 891287

unfoldable pub place_of : (round : ℕ) → ℕ → ℕ
place_of round x = x % prime_of round

-- ---- one round

-- places hit, pairs of places of which one was hit twice, and whether any was
pub record Hits : Type 0 where
  pub once : Words
  pub twice : Words
  pub crowded : Bool

abbrev pub hits : Words → Words → Bool → Hits
hits once twice crowded = record { once = once; twice = twice; crowded = crowded }

-- the same, if some place was hit twice before
abbrev pub or_before : Bool → Hits → Hits
or_before c h = hits h.once h.twice (c || h.crowded)

-- place y is hit
unfoldable pub hit : (y : ℕ) → Hits → Hits
hit y h = cond (has h.once y) (hits h.once (put h.twice (y / 2)) true) (hits (put h.once y) h.twice h.crowded)

module _ (suspect : ℕ → Bool) (place : ℕ → ℕ) where
  unfoldable pub hit_if : ℕ → Hits → Hits
  hit_if x h = cond (suspect x) (hit (place x) h) h

  unfoldable pub hit_all : List ℕ → Hits → Hits
  hit_all [] h = h
  hit_all (x ∷ xs) h = hit_all xs (hit_if x h)

-- ---- the rounds

-- before the first round every number is a suspect; after a round those that hit a place whose pair was hit twice
unfoldable pub suspect : (round : ℕ) → (twice : Words) → ℕ → Bool
suspect round twice x = cond (eqb round 0) true (has twice (place_of (round - 1) x / 2))

-- x is there twice
unfoldable pub again : ℕ → List ℕ → Bool
again x [] = false
again x (y ∷ ys) = (eqb x y && elem x ys) || again x ys

-- whatever is there twice is a suspect
abbrev pub Stays : (ℕ → Bool) → List ℕ → Type 0
Stays suspect xs = (x : ℕ) → again x xs ≡ true → suspect x ≡ true
