-- A batch of four pairs, computed: three are taken, each with its recording and class, in one list; the fourth finds too few words left.
use Rattle.std.proofs.Common.{◌≡◌, List, [], ◌∷◌, take, drop, replicate, refl}
use mathlib.Core.Option.{none}
use Rattle.std.specs.Prelude.{Some, None}
use Rattle.model.specs.Numbers.{refusal_of}
use Rattle.model.specs.Table.{MARK, empty}
use Rattle.model.specs.Slots.{Slot, slot, pointer_of}
use Rattle.model.specs.Reached.{Maps, maps_of}
use Rattle.model.specs.Orders.{carried_out}
use Rattle.model.specs.Batch.{Batched, batch}
use Rattle.model.proofs.Everything.{everything}

abbrev pub four_pairs : List Slot
four_pairs = slot 20 (pointer_of 102 1) ∷ slot 10 (pointer_of 101 0) ∷ slot 30 (pointer_of 103 2) ∷ slot 40 (pointer_of 104 0) ∷ []

abbrev pub four_taken : Batched
four_taken = batch 1 0 four_pairs (replicate 2590 7) (empty 1)

abbrev pub three_in : Maps
three_in = record { one = slot 10 (pointer_of 101 0) ∷ slot 20 (pointer_of 102 1) ∷ slot 30 (pointer_of 103 2) ∷ []; two = none }

pub record BatchTrial : Type 0 where
  -- the refusal that stopped it, how many it took, and the sums of their stores and flushes
  pub answers : four_taken.answer
      ≡ record { stop = Some (refusal_of 5); taken = 3; counts = record { stores = 14; flushes = 3; barriers = 0 } }
  pub enters : maps_of four_taken.table ≡ three_in
  -- the orders of the three, one after another, and the words after them
  pub first-list : take 10 four_taken.list ≡ 19 ∷ 0 ∷ 17 ∷ MARK ∷ 16 ∷ 20 ∷ 17 ∷ pointer_of 102 1 ∷ MARK ∷ 2 ∷ []
  pub second-list : take 14 (drop 10 four_taken.list)
      ≡ 21 ∷ 0 ∷ 19 ∷ pointer_of 102 1 ∷ 18 ∷ 20 ∷ 17 ∷ MARK ∷ 16 ∷ 10 ∷ 17 ∷ 101 ∷ MARK ∷ 2 ∷ []
  pub third-list : take 10 (drop 24 four_taken.list) ≡ 23 ∷ 0 ∷ 21 ∷ pointer_of 102 1 ∷ 20 ∷ 30 ∷ 21 ∷ pointer_of 103 2 ∷ MARK ∷ 2 ∷ []
  pub stay : take 2 (drop 34 four_taken.list) ≡ 7 ∷ 7 ∷ []
  pub gives : maps_of (carried_out 17 four_taken.list (empty 1)) ≡ three_in
  -- on dock 1 a barrier for each store
  pub barred : (batch 1 1 (take 1 four_pairs) (replicate 5120 0) (empty 1)).answer
      ≡ record { stop = None; taken = 1; counts = record { stores = 4; flushes = 1; barriers = 4 } }
  -- a key that an earlier pair of the batch entered is refused
  pub seven : (batch 1 0 (slot 20 1 ∷ slot 20 2 ∷ []) (replicate 2590 7) (empty 1)).answer
      ≡ record { stop = Some (refusal_of 7); taken = 1; counts = record { stores = 4; flushes = 1; barriers = 0 } }
  pub none-given : (batch 1 0 [] [] (empty 1)).answer
      ≡ record { stop = None; taken = 0; counts = record { stores = 0; flushes = 0; barriers = 0 } }

pub batch-tried : BatchTrial
unfolding everything
batch-tried =
    record {
      answers = refl;
      enters = refl;
      first-list = refl;
      second-list = refl;
      third-list = refl;
      stay = refl;
      gives = refl;
      barred = refl;
      seven = refl;
      none-given = refl;
    }
