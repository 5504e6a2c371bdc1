-- Request 10 on two small tables: looks before and after a split; and why the table must have been settled.
use Rattle.std.proofs.Common.{◌≡◌, ℕ, true, false, cond, ltb, [], ◌∷◌, refl}
use Rattle.model.specs.declared.Answer.{Answer}
use Rattle.model.specs.declared.Answer.TheVariants.{Found, Absent}
use Rattle.std.specs.Prelude.{Some, None}
use Rattle.model.specs.Table.{Words}
use Rattle.model.specs.Search.{search}
use Rattle.model.specs.SoundTest.{sound, settled}
use Rattle.model.specs.Writes.{Call, insertion}
use Rattle.model.specs.Refusals.{refusal, orders_of, table_after}
use Rattle.model.specs.Looks.{search_looks, during}
use Rattle.model.proofs.Everything.{everything}
use Rattle.model.proofs.Worked.{ten_slots}
use Rattle.model.proofs.Tables.{stale, ways, two_levels}

-- leaf 1 with 5 keys, leaf 2, from 200, with 11; node 3 is the root, node 4 free; in the second table leaf 2 lacks its slot in the root
abbrev joined : Words
joined = two_levels (5 ∷ 11 ∷ []) (ways 2 1) (stale 1)

abbrev lacking : Words
lacking = two_levels (5 ∷ 11 ∷ []) [] (stale 1)

-- an insertion that splits leaf 2: its upper keys, from 260, go to node 4
abbrev splits : Call
splits = insertion 1 315 900 0

-- looks 0 to i − 1 fall before the first order, the others after the last
abbrev from : (i : ℕ) → ℕ → ℕ
from i j = cond (ltb j i) 0 1000

-- what a search for k answers so
abbrev answer : Words → (i k : ℕ) → Answer
answer t i k = search_looks 1 (during (orders_of splits 0 t) t (from i)) k

pub record Looked : Type 0 where
  pub accepted : (refusal splits 2560 0 joined ≡ 0) × (refusal splits 2560 0 lacking ≡ 0)
  -- 300 is found by looks before the split, by looks after it, and by looks at the root before it and at the leaves after it: leaf 2's
  -- sibling has it then.
  pub early : answer joined 9 300 ≡ Found 130 0
  pub late : answer joined 0 300 ≡ Found 130 0
  pub between : answer joined 3 300 ≡ Found 130 0
  -- The leaf is looked at before the split and its sibling, where it had none, not at all.
  pub sibling-later : answer joined 4 300 ≡ Found 130 0
  -- The new code is absent to a look at the leaf before the split, found by one after it.
  pub new-early : answer joined 4 315 ≡ Absent None
  pub new-late : answer joined 3 315 ≡ Found 900 0
  -- A table that is sound, but not settled: 300 is there before the call and after it, and these looks miss it. The root, seen before the
  -- repair, leads to leaf 1; from there one move comes to leaf 2, and leaf 2 has been split.
  pub unsettled : (sound lacking ≡ true) × (settled lacking ≡ false)
  pub there : (search 1 lacking 300 ≡ Found 130 0) × (search 1 (table_after splits 2560 0 lacking) 300 ≡ Found 130 0)
  pub missed : answer lacking 3 300 ≡ Absent (Some 310)

pub looked : Looked
unfolding everything ten_slots
looked =
    record {
      accepted = (refl, refl);
      early = refl;
      late = refl;
      between = refl;
      sibling-later = refl;
      new-early = refl;
      new-late = refl;
      unsettled = (refl, refl);
      there = (refl, refl);
      missed = refl;
    }
