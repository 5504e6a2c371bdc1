-- Pairs around a gap.
use Rattle.std.specs.Prelude.{◌≡◌, Bool, false, cond, ◌⊎◌, List, ◌++◌, ℕ, ◌-◌, ◌*◌, ◌≤◌, ◌<◌, eqb, length, get_or, take, drop}
use Rattle.model.specs.Table.{Words, at}
use Rattle.model.specs.Slots.{Slot, slot, slots_of}

-- m pairs, i of them below the gap
abbrev pub around : Words → (i m : ℕ) → List Slot
around ws i m = slots_of (take (2 * i) ws) ++ slots_of (drop (length ws - 2 * (m - i)) ws)

pub record Fits (ws : Words) (i m : ℕ) : Type 0 where
  pub below : i ≤ m
  pub room : 2 * m ≤ length ws
  pub few : m < 16777216

abbrev pub key_at : List Slot → (i : ℕ) → ℕ
key_at ps i = (get_or ps i (slot 0 0)).key

-- the pair before place r has a key of at most k; the pair at place r has a key above it
abbrev pub Under : List Slot → (k r : ℕ) → Type 0
Under ps k r = (r ≡ 0) ⊎ (key_at ps (r - 1) ≤ k)

abbrev pub Over : List Slot → (k r : ℕ) → Type 0
Over ps k r = (r ≡ length ps) ⊎ (k < key_at ps r)

-- of i pairs in the first words, the last has this key
unfoldable pub ends_with : Words → (i k : ℕ) → Bool
ends_with ws i k = cond (eqb i 0) false (eqb (at ws (2 * i - 2)) k)
