-- What the C entry points return and leave in lent words.
use Rattle.std.specs.Prelude.{◌≡◌, Bool, cond, ◌||◌, ℕ, eqb, ltb, length}
use Rattle.model.specs.Numbers.{stop_number}
use Rattle.model.specs.Results.{Listed, Salvaged, Verdict, Worn, Written, answer_number}
use Rattle.model.specs.declared.Answer.{Answer}
use Rattle.model.specs.declared.Answer.TheVariants.{Found, Absent, Refused}
use Rattle.model.specs.declared.Batch.{Batch}
use Rattle.model.specs.Table.{Words}
use Rattle.model.specs.Slots.{slots_of}
use Rattle.model.specs.Writes.{Call}
use Rattle.model.specs.Search.{recording_or, access_or, next_or, higher_or}
use Rattle.model.specs.Listing.{count_or, more_or}
use Rattle.model.specs.Refusals.{written, table_after, list_after, stores_or, flushes_or, barriers_or}
use Rattle.model.specs.Salvage.{dropped_or}
use Rattle.model.specs.Sentinels.{written_with, table_with, orders_with, sentinels_with}
use Rattle.model.specs.Summary.{quick_written, quick_table, quick_list, quick_summary}
use Rattle.model.specs.Judge.{verdict_number, fails_or}
use Rattle.model.specs.Batch.{batch}
use Rattle.model.specs.Wear.{total_or, largest_or, first_line_or, pairs_or}

-- the version of the calls' shapes: raised by each change of a name, a parameter or what a word means
abbrev pub version : ℕ
version = 16

-- a search of C's: 0 for found, 255 for absent
abbrev pub search_number : Answer → ℕ
search_number (Found r c) = 0
search_number (Absent x) = 255
search_number (Refused n) = n

-- a search's answer: its number, and what is put into the lent words, which stay if it has nothing for them
pub record Looked (x : Answer) (number recording recording' access access' next next' higher higher' : ℕ) : Type 0 where
  pub number-is : number ≡ search_number x
  pub recording-is : recording' ≡ recording_or x recording
  pub access-is : access' ≡ access_or x access
  pub next-is : next' ≡ next_or x next
  pub higher-is : higher' ≡ higher_or x higher

-- a write's answer: its number, and the three counts in lent words, which stay on refusal
pub record Counted (x : Written) (number stores stores' flushes flushes' barriers barriers' : ℕ) : Type 0 where
  pub number-is : number ≡ answer_number x
  pub stores-are : stores' ≡ stores_or x stores
  pub flushes-are : flushes' ≡ flushes_or x flushes
  pub barriers-are : barriers' ≡ barriers_or x barriers

-- a writing call for a dock: its answer, and the table and the list after it
pub record Wrote (x : Call) (number : ℕ) (t t' lent lent' : Words) (dock stores stores' flushes flushes' barriers barriers' : ℕ) : Type 0 where
  pub answer-is : Counted (written x (length lent) dock t) number stores stores' flushes flushes' barriers barriers'
  pub table-is : t' ≡ table_after x (length lent) dock t
  pub list-is : lent' ≡ list_after x lent dock t

-- A batch that stops before its first pair is refused, and the lent words stay; else it returns 0, and the number that stopped it, 0 if all
-- pairs were taken, goes into a lent word with its counts.
abbrev pub puts : Batch → Bool
puts x = eqb (stop_number x.stop) 0 || ltb 0 x.taken

pub record Summed (x : Batch) (number taken taken' stop stop' stores stores' flushes flushes' barriers barriers' : ℕ) : Type 0 where
  pub number-is : number ≡ cond (puts x) 0 (stop_number x.stop)
  pub taken-are : taken' ≡ cond (puts x) x.taken taken
  pub stop-is : stop' ≡ cond (puts x) (stop_number x.stop) stop
  pub stores-are : stores' ≡ cond (puts x) x.counts.stores stores
  pub flushes-are : flushes' ≡ cond (puts x) x.counts.flushes flushes
  pub barriers-are : barriers' ≡ cond (puts x) x.counts.barriers barriers

-- many insertions into collection n
pub record WroteMany (n : ℕ) (pairs : Words) (number : ℕ) (t t' lent lent' : Words)
    (dock taken taken' stop stop' stores stores' flushes flushes' barriers barriers' : ℕ) : Type 0 where
  pub answer-is : Summed (batch n dock (slots_of pairs) lent t).answer number taken taken' stop stop' stores stores' flushes flushes' barriers barriers'
  pub table-is : t' ≡ (batch n dock (slots_of pairs) lent t).table
  pub list-is : lent' ≡ (batch n dock (slots_of pairs) lent t).list

-- a writing call that takes the sentinels
pub record WroteWith (x : Call) (number : ℕ) (t t' ws ws' lent lent' : Words) (dock stores stores' flushes flushes' barriers barriers' : ℕ) : Type 0 where
  pub answer-is : Counted (written_with x (length ws) (length lent) dock t) number stores stores' flushes flushes' barriers barriers'
  pub table-is : t' ≡ table_with x (length ws) (length lent) dock t
  pub list-is : lent' ≡ orders_with x (length ws) lent dock t
  pub sentinels-are : ws' ≡ sentinels_with x ws (length lent) dock t

-- a quick call: a writing call that takes a summary
pub record WroteQuick (x : Call) (number : ℕ) (t t' ws ws' lent lent' : Words) (dock stores stores' flushes flushes' barriers barriers' : ℕ) : Type 0 where
  pub answer-is : Counted (quick_written x (length lent) dock ws t) number stores stores' flushes flushes' barriers barriers'
  pub table-is : t' ≡ quick_table x (length lent) dock ws t
  pub list-is : lent' ≡ quick_list x lent dock ws t
  pub summary-is : ws' ≡ quick_summary x (length lent) dock ws t

-- a listing's answer: its number, the count, and 1 or 0 for more left
pub record Showed (x : Listed) (number pairs pairs' more more' : ℕ) : Type 0 where
  pub number-is : number ≡ answer_number x
  pub pairs-are : pairs' ≡ count_or x pairs
  pub more-is : more' ≡ more_or x more

-- a salvage's answer: its number, and the count of dropped slots
pub record Rebuilt (x : Salvaged) (number dropped dropped' : ℕ) : Type 0 where
  pub number-is : number ≡ answer_number x
  pub dropped-are : dropped' ≡ dropped_or x dropped

-- a judgement's answer: its number, and the first count that fails
pub record Ruled (x : Verdict) (number count count' : ℕ) : Type 0 where
  pub number-is : number ≡ verdict_number x
  pub count-is : count' ≡ fails_or x count

-- the wear figures: the call's number, and the figures in lent words, which stay on refusal
pub record Wore (x : Worn) (number total total' largest largest' first first' pairs pairs' : ℕ) : Type 0 where
  pub number-is : number ≡ answer_number x
  pub total-is : total' ≡ total_or x total
  pub largest-is : largest' ≡ largest_or x largest
  pub first-is : first' ≡ first_line_or x first
  pub pairs-are : pairs' ≡ pairs_or x pairs
