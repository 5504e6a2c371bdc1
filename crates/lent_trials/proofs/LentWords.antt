-- Each answer's number and what its lent words then hold, case by case: 8 is what a word held before.
use Rattle.std.proofs.Common.{◌≡◌, ℕ, true, false, [], ◌∷◌, set, replicate, refl}
use Rattle.std.specs.Prelude.{Ok, Some, None}
use Rattle.model.specs.Results.{refused_with, done_with, page_with, worn_with, answer_number}
use Rattle.model.specs.declared.Answer.TheVariants.{Found, Absent, Refused}
use Rattle.model.specs.Codes.{key_or}
use Rattle.model.specs.Table.{MARK, Words, empty, empty_of, making, made}
use Rattle.model.specs.Search.{recording_or, access_or, next_or, higher_or}
use Rattle.model.specs.Listing.{count_or, more_or}
use Rattle.model.specs.Orders.{carry_out, carried_out}
use Rattle.model.specs.Refusals.{orders_answered, stores_or, flushes_or, barriers_or}
use Rattle.model.specs.Salvage.{dropped_or}
use Rattle.model.specs.Sentinels.{work_out, worked_out}
use Rattle.model.specs.Scripts.{rank_or}
use Rattle.model.specs.Judge.{verdict_number, fails_or}
use Rattle.model.specs.Wear.{total_or, largest_or, first_line_or, pairs_or}
use Rattle.model.specs.Statistics.{checking, report_out}
use Rattle.model.proofs.Everything.{everything}

-- a table of two nodes and two collections; one whose two roots are one, which is not sound; one without a header
abbrev pub good : Words
good = empty_of 2 2

abbrev pub shared : Words
shared = set good 3 1

abbrev pub headless : Words
headless = set good 0 7

-- a store of 5 into word 10, a flush of line 1, a store past the end
abbrev pub orders : Words
orders = 10 ∷ 5 ∷ MARK ∷ 1 ∷ 72 ∷ 5 ∷ []

pub record LentWords : Type 0 where
  -- A code that is read puts its key.
  pub code-numbers : (answer_number {T = ℕ} (Ok 5) ≡ 0) × (answer_number {T = ℕ} (refused_with 1) ≡ 1)
  pub code-words : (key_or (Ok 5) 8 ≡ 5) × (key_or (refused_with 1) 8 ≡ 8)
  -- A search that finds puts recording and class; one that does not puts the next key up and 1, or 0; one that is refused nothing.
  pub recordings : (recording_or (Found 5 1) 8 ≡ 5) × (recording_or (Absent (Some 6)) 8 ≡ 8) × (recording_or (Refused 3) 8 ≡ 8)
  pub classes : (access_or (Found 5 1) 8 ≡ 1) × (access_or (Absent (Some 6)) 8 ≡ 8) × (access_or (Refused 3) 8 ≡ 8)
  pub nexts : (next_or (Found 5 1) 8 ≡ 8) × (next_or (Absent (Some 6)) 8 ≡ 6) × (next_or (Absent None) 8 ≡ 8) × (next_or (Refused 3) 8 ≡ 8)
  pub highers : (higher_or (Found 5 1) 8 ≡ 8) × (higher_or (Absent (Some 6)) 8 ≡ 1) × (higher_or (Absent None) 8 ≡ 0)
      × (higher_or (Refused 3) 8 ≡ 8)
  -- A listing puts its count, and 1 if more are left, 0 if not.
  pub list-numbers : (answer_number (page_with 5 true) ≡ 0) × (answer_number {T = ℕ} (refused_with 17) ≡ 17)
  pub counts : (count_or (page_with 5 true) 8 ≡ 5) × (count_or (refused_with 17) 8 ≡ 8)
  pub mores : (more_or (page_with 5 true) 8 ≡ 1) × (more_or (page_with 5 false) 8 ≡ 0) × (more_or (refused_with 17) 8 ≡ 8)
  -- A write puts its three counts; a refused one answers no orders.
  pub write-numbers : (answer_number (done_with 5 6 7) ≡ 0) × (answer_number {T = ℕ} (refused_with 10) ≡ 10)
  pub answered : (orders_answered (done_with 5 6 7) ≡ 18) × (orders_answered (refused_with 10) ≡ 0)
  pub stores : (stores_or (done_with 5 6 7) 8 ≡ 5) × (stores_or (refused_with 10) 8 ≡ 8)
  pub flushes : (flushes_or (done_with 5 6 7) 8 ≡ 6) × (flushes_or (refused_with 10) 8 ≡ 8)
  pub barriers : (barriers_or (done_with 5 6 7) 8 ≡ 7) × (barriers_or (refused_with 10) 8 ≡ 8)
  -- A salvage puts the count of dropped slots.
  pub salvage-numbers : (answer_number {T = ℕ} (Ok 5) ≡ 0) × (answer_number {T = ℕ} (refused_with 16) ≡ 16)
  pub dropped : (dropped_or (Ok 5) 8 ≡ 5) × (dropped_or (refused_with 16) 8 ≡ 8)
  -- A judge answers 0 for yes, 254 and the count that fails for no.
  pub judge-numbers : (verdict_number (Ok None) ≡ 0) × (verdict_number (Ok (Some 5)) ≡ 254) × (verdict_number (refused_with 20) ≡ 20)
  pub fails : (fails_or (Ok None) 8 ≡ 8) × (fails_or (Ok (Some 5)) 8 ≡ 5) × (fails_or (refused_with 20) 8 ≡ 8)
  -- The wear figures: the total, the most to one line, the first line that has so many, the pairs.
  pub wear-numbers : (answer_number (worn_with 4 5 6 7) ≡ 0) × (answer_number {T = ℕ} (refused_with 24) ≡ 24)
  pub totals : (total_or (worn_with 4 5 6 7) 8 ≡ 4) × (total_or (refused_with 24) 8 ≡ 8)
  pub largest : (largest_or (worn_with 4 5 6 7) 8 ≡ 5) × (largest_or (refused_with 24) 8 ≡ 8)
  pub first-lines : (first_line_or (worn_with 4 5 6 7) 8 ≡ 6) × (first_line_or (refused_with 24) 8 ≡ 8)
  pub extents : (pairs_or (worn_with 4 5 6 7) 8 ≡ 7) × (pairs_or (refused_with 24) 8 ≡ 8)
  -- A script puts its number.
  pub script-numbers : (answer_number {T = ℕ} (Ok 5) ≡ 0) × (answer_number {T = ℕ} (refused_with 23) ≡ 23)
  pub ranks : (rank_or (Ok 5) 8 ≡ 5) × (rank_or (refused_with 23) 8 ≡ 8)
  -- Calls that answer a number alone, and what they leave of their words.
  pub outcomes : (answer_number {T = Unit {0}} (Ok tt) ≡ 0) × (answer_number {T = ℕ} (refused_with 13) ≡ 13)
  pub makes : (making 2 (replicate 72 7) ≡ Ok tt) × (made 2 (replicate 72 7) ≡ good) × (making 3 good ≡ refused_with 17)
      × (made 3 headless ≡ headless) × (making 2 (empty 1) ≡ refused_with 2)
  pub carries : (carry_out 2 orders good ≡ Ok tt) × (carried_out 2 orders good ≡ set good 10 5) × (carried_out 0 orders good ≡ good)
  pub carries-not : (carry_out 3 orders good ≡ refused_with 13) × (carried_out 3 orders good ≡ good)
      × (carry_out 4 orders good ≡ refused_with 13) × (carry_out 0 orders headless ≡ refused_with 2)
  pub checks : (checking good ≡ Ok tt) × (checking shared ≡ refused_with 4) × (checking headless ≡ refused_with 2)
  pub reports : (report_out shared (replicate 16 8) ≡ replicate 16 8) × (report_out headless (replicate 16 8) ≡ replicate 16 8)
  -- The sentinels worked out: all words are the table's, or all stay.
  pub works : (work_out 6 good ≡ Ok tt) × (work_out 5 good ≡ refused_with 19) × (work_out 6 shared ≡ refused_with 4)
      × (work_out 5 headless ≡ refused_with 2)
  pub worked : (worked_out (replicate 6 8) good ≡ replicate 6 MARK) × (worked_out (replicate 5 8) good ≡ replicate 5 8)
      × (worked_out (replicate 6 8) shared ≡ replicate 6 8)

pub lent-words : LentWords
unfolding everything
lent-words =
    record {
      code-numbers = (refl, refl);
      code-words = (refl, refl);
      recordings = (refl, refl, refl);
      classes = (refl, refl, refl);
      nexts = (refl, refl, refl, refl);
      highers = (refl, refl, refl, refl);
      list-numbers = (refl, refl);
      counts = (refl, refl);
      mores = (refl, refl, refl);
      write-numbers = (refl, refl);
      answered = (refl, refl);
      stores = (refl, refl);
      flushes = (refl, refl);
      barriers = (refl, refl);
      salvage-numbers = (refl, refl);
      dropped = (refl, refl);
      judge-numbers = (refl, refl, refl);
      fails = (refl, refl, refl);
      wear-numbers = (refl, refl);
      totals = (refl, refl);
      largest = (refl, refl);
      first-lines = (refl, refl);
      extents = (refl, refl);
      script-numbers = (refl, refl);
      ranks = (refl, refl);
      outcomes = (refl, refl);
      makes = (refl, refl, refl, refl, refl);
      carries = (refl, refl, refl);
      carries-not = (refl, refl, refl, refl);
      checks = (refl, refl, refl);
      reports = (refl, refl);
      works = (refl, refl, refl, refl);
      worked = (refl, refl, refl);
    }
