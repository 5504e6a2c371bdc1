-- Sentences of scale 2, packing as a call, each computed where it decides.
use Rattle.std.proofs.Common.{◌≡◌, true, [], ◌∷◌, ◌++◌, replicate, refl}
use mathlib.Core.Option.{none, some}
use Rattle.std.specs.Prelude.{Ok}
use Rattle.model.specs.Results.{refused_with}
use Rattle.model.specs.Table.{MARK, Words, empty, empty_of}
use Rattle.model.specs.Slots.{slot, slot_words, pointer_of}
use Rattle.model.specs.Reached.{maps_of}
use Rattle.model.specs.SoundTest.{settled}
use Rattle.model.specs.Writes.{node_words}
use Rattle.model.specs.Pack.{packing, pack_out}
use Rattle.model.proofs.Everything.{everything}
use Rattle.model.proofs.Tables.{table_of}
use Rattle.trials.proofs.Salvages.{pairs}

-- 12 pairs, which need 3 nodes, and 11, which need one
abbrev pub twelve : Words
twelve = slot_words (pairs 12 1)

abbrev pub eleven : Words
eleven = slot_words (pairs 11 1)

-- words of a table's length, whatever they are
abbrev pub old : Words
old = replicate 104 77

pub record PackCalls : Type 0 where
  -- 11 to a leaf, the root last; the old words do not matter.
  pub fills : pack_out 1 twelve [] old
      ≡ table_of 3 (node_words MARK 2 0 0 (pairs 11 1) ∷ node_words MARK 0 0 120 (pairs 1 12) ∷ node_words 1 0 1 0 (slot 120 2 ∷ []) ∷ [])
  pub answers : (packing 1 twelve [] old ≡ Ok tt) × (settled (pack_out 1 twelve [] old) ≡ true)
  -- Its maps are exactly the pairs; the same recordings in both collections.
  pub maps : maps_of (pack_out 2 eleven eleven old) ≡ record { one = pairs 11 1; two = some (pairs 11 1) }
  -- For one collection the second slice is not looked at.
  pub one : maps_of (pack_out 1 eleven (5 ∷ 0 ∷ 5 ∷ 0 ∷ []) old) ≡ record { one = pairs 11 1; two = none }
  -- An odd last word is half a pair and is none.
  pub half : pack_out 2 (eleven ++ (0 ∷ [])) (MARK ∷ []) old ≡ pack_out 2 eleven [] old
  -- Without pairs it is the table that is made.
  pub none-there : (pack_out 1 [] [] old ≡ empty 3) × (pack_out 2 [] [] old ≡ empty_of 2 3)
  -- 2 by length, and for two collections with N = 1; then 17; then 10; then 25.
  pub two : (packing 3 twelve (5 ∷ 0 ∷ []) (7 ∷ old) ≡ refused_with 2) × (packing 2 [] [] (replicate 40 7) ≡ refused_with 2)
  pub seventeen : packing 3 twelve (5 ∷ 0 ∷ []) old ≡ refused_with 17
  pub ten : (packing 2 twelve (5 ∷ 0 ∷ []) old ≡ refused_with 10) × (pack_out 2 twelve (5 ∷ 0 ∷ []) old ≡ old)
  -- 25: a key twice, falling keys, recording 0, class 3, a recording twice, be it in another class.
  pub same-key : packing 1 (5 ∷ 1 ∷ 5 ∷ 2 ∷ []) [] old ≡ refused_with 25
  pub falling : packing 2 eleven (6 ∷ 1 ∷ 5 ∷ 2 ∷ []) old ≡ refused_with 25
  pub no-recording : packing 1 (5 ∷ pointer_of 0 1 ∷ []) [] old ≡ refused_with 25
  pub no-class : packing 1 (5 ∷ pointer_of 1 3 ∷ []) [] old ≡ refused_with 25
  pub twice : (packing 1 (5 ∷ pointer_of 9 0 ∷ 6 ∷ pointer_of 9 2 ∷ []) [] old ≡ refused_with 25)
      × (pack_out 1 (5 ∷ 9 ∷ 6 ∷ 9 ∷ []) [] old ≡ old)
  -- The first and the last key that there are.
  pub ends : packing 1 (0 ∷ 1 ∷ MARK ∷ 2 ∷ []) [] old ≡ Ok tt

pub packs-computed : PackCalls
unfolding everything
packs-computed =
    record {
      fills = refl;
      answers = (refl, refl);
      maps = refl;
      one = refl;
      half = refl;
      none-there = (refl, refl);
      two = (refl, refl);
      seventeen = refl;
      ten = (refl, refl);
      same-key = refl;
      falling = refl;
      no-recording = refl;
      no-class = refl;
      twice = (refl, refl);
      ends = refl;
    }
