-- Request 13: document 01's refusal 12, whose test is in no call any more. It stood straight after 5.
use Rattle.std.specs.Prelude.{Bool, false, not, List, ◌∷◌, ℕ, ltb}
use Rattle.std.proofs.Math.Option.{Option, none, some}
use Rattle.model.specs.Table.{Words, header_ok}
use Rattle.model.specs.Slots.{node_view, full}
use Rattle.model.specs.SoundTest.{Leftover, nothing, hidden_in, missing_in, both_in, sound}
use Rattle.model.specs.Writes.{repaired, Call}
use Rattle.model.specs.Refusals.{Test, test, seventeen_in, map_tests, eleven_in, ten_in, own_map, words_for}

-- repair would find 11 shown slots in the parent
abbrev pub full_parent : Words → Option Leftover → Bool
full_parent t none = false
full_parent t (some nothing) = false
full_parent t (some (hidden_in x)) = false
full_parent t (some (missing_in p a trailing)) = full (node_view t p).shown
full_parent t (some (both_in p a)) = full (node_view t p).shown

-- the tests up to 5, before others; and those from 6 on
abbrev pub first_tests : Call → (words dock : ℕ) → Words → List Test → List Test
first_tests x words dock t later =
    test (not (header_ok t)) 2 ∷ test (seventeen_in x t) 17 ∷ test (not (sound t)) 4 ∷ test (ltb 1 dock) 18 ∷ test (ltb words (words_for dock)) 5 ∷ later

abbrev pub later_tests : Call → Words → List Test
later_tests x t = map_tests x (eleven_in x (repaired t)) (ten_in x (repaired t)) (own_map x (repaired t))
