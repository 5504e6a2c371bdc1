-- The records that the C calls promise, each for an answer that decides: words from 11 on are what the lent words held before.
use Rattle.std.proofs.Common.{◌≡◌, ℕ, true, false, [], ◌∷◌, replicate, refl}
use Rattle.std.specs.Prelude.{Option, Ok, Some, None}
use Rattle.model.specs.declared.Refusal.{Refusal}
use Rattle.model.specs.declared.Refusal.TheVariants.{KeyPresent}
use Rattle.model.specs.Results.{refused_with, done_with, page_with, worn_with}
use Rattle.model.specs.declared.Answer.TheVariants.{Found, Absent, Refused}
use Rattle.model.specs.declared.Batch.{Batch}
use Rattle.model.specs.Table.{Words, empty}
use Rattle.model.specs.Writes.{Call, insertion, stores_of}
use Rattle.model.specs.Orders.{apply}
use Rattle.model.specs.Refusals.{list_after}
use Rattle.model.specs.Sentinels.{sentinels}
use Rattle.model.proofs.Everything.{everything}
use Rattle.model.specs.Answers.{version, search_number, Looked, Counted, Wrote, puts, Summed, WroteMany, WroteWith, Showed, Rebuilt, Ruled}
use Rattle.model.specs.Answers.{Wore}

-- an insertion into the empty table, its list for dock 1, and what it comes to
abbrev pub enters : Call
enters = insertion 1 10 5 2

abbrev pub lent : Words
lent = replicate 5130 77

abbrev pub before : Words
before = empty 1

abbrev pub after : Words
after = apply (stores_of enters before) before

abbrev pub filled : Words
filled = list_after enters lent 1 before

-- a batch's answer
abbrev pub sums : (stop : Option Refusal) → (taken : ℕ) → Batch
sums stop taken = record { stop = stop; taken = taken; counts = record { stores = 5; flushes = 6; barriers = 7 } }

pub record CallWords : Type 0 where
  pub is-version : version ≡ 16
  -- 0 for found, 255 for absent, else the number.
  pub searches : (search_number (Found 5 1) ≡ 0) × (search_number (Absent None) ≡ 255) × (search_number (Refused 3) ≡ 3)
  pub found : Looked (Found 5 1) 0 11 5 12 1 13 13 14 14
  pub absent : Looked (Absent (Some 6)) 255 11 11 12 12 13 6 14 1
  pub last : Looked (Absent None) 255 11 11 12 12 13 13 14 0
  pub not-looked : Looked (Refused 17) 17 11 11 12 12 13 13 14 14
  -- The counts of a write, in the order stores, flushes, barriers.
  pub counted : Counted (done_with 5 6 7) 0 11 5 12 6 13 7
  pub not-counted : Counted (refused_with 10) 10 11 11 12 12 13 13
  pub wrote : Wrote enters 0 before after lent filled 1 11 4 12 1 13 4
  pub not-wrote : Wrote enters 7 after after lent lent 1 11 11 12 12 13 13
  -- A batch that took a pair, or has none, returns 0 and the number that stopped it; one that took none is refused.
  pub works : (puts (sums (Some KeyPresent) 2) ≡ true) × (puts (sums None 0) ≡ true) × (puts (sums (Some KeyPresent) 0) ≡ false)
  pub summed : Summed (sums (Some KeyPresent) 2) 0 11 2 12 7 13 5 14 6 15 7
  pub not-summed : Summed (sums (Some KeyPresent) 0) 7 11 11 12 12 13 13 14 14 15 15
  pub wrote-many : WroteMany 1 (10 ∷ 144115188075855877 ∷ 10 ∷ 6 ∷ []) 0 before after lent filled 1 11 1 12 5 13 4 14 1 15 4
  -- With sentinels.
  pub wrote-with : WroteWith enters 0 before after (sentinels before) (sentinels after) lent filled 1 11 4 12 1 13 4
  pub not-wrote-with : WroteWith enters 19 before before (8 ∷ []) (8 ∷ []) lent lent 1 11 11 12 12 13 13
  -- A listing, a salvage, a judgement, the wear figures.
  pub showed : Showed (page_with 5 true) 0 11 5 12 1
  pub not-showed : Showed (refused_with 4) 4 11 11 12 12
  pub rebuilt : Rebuilt (Ok 5) 0 11 5
  pub not-rebuilt : Rebuilt (refused_with 16) 16 11 11
  pub ruled : Ruled (Ok (Some 5)) 254 11 5
  pub not-ruled : Ruled (Ok None) 0 11 11
  pub wore : Wore (worn_with 4 5 6 7) 0 11 4 12 5 13 6 14 7
  pub not-wore : Wore (refused_with 24) 24 11 11 12 12 13 13 14 14

pub call-words : CallWords
unfolding everything
call-words =
    record {
      is-version = refl;
      searches = (refl, refl, refl);
      found = record { number-is = refl; recording-is = refl; access-is = refl; next-is = refl; higher-is = refl };
      absent = record { number-is = refl; recording-is = refl; access-is = refl; next-is = refl; higher-is = refl };
      last = record { number-is = refl; recording-is = refl; access-is = refl; next-is = refl; higher-is = refl };
      not-looked = record { number-is = refl; recording-is = refl; access-is = refl; next-is = refl; higher-is = refl };
      counted = record { number-is = refl; stores-are = refl; flushes-are = refl; barriers-are = refl };
      not-counted = record { number-is = refl; stores-are = refl; flushes-are = refl; barriers-are = refl };
      wrote = record {
        answer-is = record { number-is = refl; stores-are = refl; flushes-are = refl; barriers-are = refl };
        table-is = refl;
        list-is = refl;
      };
      not-wrote = record {
        answer-is = record { number-is = refl; stores-are = refl; flushes-are = refl; barriers-are = refl };
        table-is = refl;
        list-is = refl;
      };
      works = (refl, refl, refl);
      summed = record { number-is = refl; taken-are = refl; stop-is = refl; stores-are = refl; flushes-are = refl; barriers-are = refl };
      not-summed = record {
        number-is = refl;
        taken-are = refl;
        stop-is = refl;
        stores-are = refl;
        flushes-are = refl;
        barriers-are = refl;
      };
      wrote-many =
          record {
            answer-is = record {
              number-is = refl;
              taken-are = refl;
              stop-is = refl;
              stores-are = refl;
              flushes-are = refl;
              barriers-are = refl;
            };
            table-is = refl;
            list-is = refl;
          };
      wrote-with =
          record {
            answer-is = record { number-is = refl; stores-are = refl; flushes-are = refl; barriers-are = refl };
            table-is = refl;
            list-is = refl;
            sentinels-are = refl;
          };
      not-wrote-with =
          record {
            answer-is = record { number-is = refl; stores-are = refl; flushes-are = refl; barriers-are = refl };
            table-is = refl;
            list-is = refl;
            sentinels-are = refl;
          };
      showed = record { number-is = refl; pairs-are = refl; more-is = refl };
      not-showed = record { number-is = refl; pairs-are = refl; more-is = refl };
      rebuilt = record { number-is = refl; dropped-are = refl };
      not-rebuilt = record { number-is = refl; dropped-are = refl };
      ruled = record { number-is = refl; count-is = refl };
      not-ruled = record { number-is = refl; count-is = refl };
      wore = record { number-is = refl; total-is = refl; largest-is = refl; first-is = refl; pairs-are = refl };
      not-wore = record { number-is = refl; total-is = refl; largest-is = refl; first-is = refl; pairs-are = refl };
    }
