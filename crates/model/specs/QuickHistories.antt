-- Scale 3: demand 3 with quick calls, one claim over all histories of plain calls, openings and quick calls, whole or cut, from every sound
-- table. From the opening of a summary to the next cut, or to the next change by a call that does not take it, quick calls may take it.
use Rattle.std.specs.Prelude.{◌≡◌, Bool, cond, List, [], ◌∷◌, ℕ, ◌≤◌, eqb, length, take}
use Rattle.std.proofs.Math.Option.{Option, none, some}
use Rattle.model.specs.Table.{Words, nodes}
use Rattle.model.specs.Slots.{Slot}
use Rattle.model.specs.Reached.{maps_of}
use Rattle.model.specs.SoundTest.{settled}
use Rattle.model.specs.Sound.{Sound}
use Rattle.model.specs.Listing.{list, list_out}
use Rattle.model.specs.Orders.{Order, decode, carried_out}
use Rattle.model.specs.Cuts.{CutImage}
use Rattle.model.specs.Refusals.{unless_refused, written, orders_answered, table_after, list_after}
use Rattle.model.specs.Ledger.{Ledger}
use Rattle.model.specs.Demand3.{Fate, whole, cut, Event, History, State, both, number_of, step, run_from, FateMay, MayFrom, StandsFrom}
use Rattle.model.specs.Batch.{batch}
use Rattle.model.specs.Summary.{summary_words, open_number, opened_words, quick_number, quick_written, quick_table, quick_list, quick_summary}
use Rattle.model.specs.Summary.{quick_listed, quick_list_out}
use Rattle.model.specs.QuickBatch.{quick_batch}

-- ---- what a host does

-- a call as in Demand3.antt; opening a summary of the working copy in a lent slice; a quick call, which takes the summary and no sentinels
pub data Act : Type 0 where
  call : Event → Act
  opens : (lent : Words) → Act
  quick : Event → Act

-- the latest first
abbrev pub Acts : Type 0
Acts = List Act

-- memory and working copy, and the summary while there is one
pub record Host : Type 0 where
  pub state : State
  pub summary : Option Words

abbrev pub host : State → Option Words → Host
host s w = record { state = s; summary = w }

-- ---- a quick call with the summary ws

-- the number that it answers; the orders that it answered, and the lent list after it; the table and the summary that it leaves
abbrev pub quick_number_of : (ws : Words) → State → Event → ℕ
quick_number_of ws s e = quick_number e.call (length e.lent) e.dock ws s.working

abbrev pub quick_answered : (ws : Words) → State → Event → ℕ
quick_answered ws s e = orders_answered (quick_written e.call (length e.lent) e.dock ws s.working)

abbrev pub quick_list_of : (ws : Words) → State → Event → Words
quick_list_of ws s e = quick_list e.call e.lent e.dock ws s.working

abbrev pub quick_left : (ws : Words) → State → Event → Words
quick_left ws s e = quick_table e.call (length e.lent) e.dock ws s.working

abbrev pub quick_kept : (ws : Words) → State → Event → Words
quick_kept ws s e = quick_summary e.call (length e.lent) e.dock ws s.working

-- Whole, cut and refused as in Demand3.antt. A cut leaves no summary: ordinary memory is lost.
abbrev pub quick_after : Fate → (ws : Words) → State → Event → Host
quick_after whole ws s e =
    host (record { memory = carried_out (quick_answered ws s e) (quick_list_of ws s e) s.memory; working = quick_left ws s e }) (some (quick_kept ws s e))
quick_after (cut c m) ws s e = host (both m) none

abbrev pub quick_refused : (ws : Words) → State → Event → Host
quick_refused ws s e = host (record { memory = s.memory; working = quick_left ws s e }) (some (quick_kept ws s e))

-- without a summary there is no quick call
abbrev pub quick_step : (summary : Option Words) → State → Event → Host
quick_step none s e = host s none
quick_step (some ws) s e = unless_refused (quick_number_of ws s e) (quick_after e.fate ws s e) (quick_refused ws s e)

-- ---- a history of acts that starts with s

-- a call that does not take the summary ends it if it is accepted; an opening that is refused leaves what there was
abbrev pub act_step : Act → Host → Host
act_step (call e) h = host (step h.state e) (unless_refused (number_of h.state e) none h.summary)
act_step (opens lent) h =
    host h.state (unless_refused (open_number (length lent) h.state.working) (some (opened_words lent h.state.working)) h.summary)
act_step (quick e) h = quick_step h.summary h.state e

unfoldable pub run_acts : State → Acts → Host
run_acts s [] = host s none
run_acts s (a ∷ h) = act_step a (run_acts s h)

-- a quick call needs a summary; a cut falls after at most as many orders as were answered, as in Demand3.antt
abbrev pub QuickFate : Fate → (ws : Words) → State → Event → Type 0
QuickFate whole ws s e = Unit {0}
QuickFate (cut c m) ws s e =
    let os : List Order = take (quick_answered ws s e) (decode (quick_list_of ws s e)) in
    (c ≤ quick_answered ws s e) × CutImage e.dock c s.memory os m

abbrev pub QuickMay : (summary : Option Words) → State → Event → Type 0
QuickMay none s e = ⊥
QuickMay (some ws) s e = quick_number_of ws s e ≡ 0 → QuickFate e.fate ws s e

abbrev pub ActMay : Act → Host → Type 0
ActMay (call e) h = number_of h.state e ≡ 0 → FateMay e.fate h.state e
ActMay (opens lent) h = Unit {0}
ActMay (quick e) h = QuickMay h.summary h.state e

unfoldable pub MayActs : State → Acts → Type 0
MayActs s [] = Unit {0}
MayActs s (a ∷ h) = MayActs s h × ActMay a (run_acts s h)

-- ---- the same history with plain calls

abbrev pub plainly : Event → Event
plainly e = record { call = e.call; lent = e.lent; dock = e.dock; slice = none; fate = e.fate }

unfoldable pub plain : Acts → History
plain [] = []
plain (call e ∷ h) = e ∷ plain h
plain (opens lent ∷ h) = plain h
plain (quick e ∷ h) = plainly e ∷ plain h

-- ---- what holds at the start and after each act

-- A quick call answers what the plain call answers, and leaves the same order list and the same table.
pub record Same (ws : Words) (s : State) (e : Event) : Type 0 where
  pub number : quick_number_of ws s e ≡ number_of s (plainly e)
  pub answer : quick_written e.call (length e.lent) e.dock ws s.working ≡ written e.call (length e.lent) e.dock s.working
  pub list : quick_list_of ws s e ≡ list_after e.call e.lent e.dock s.working
  pub table : quick_left ws s e ≡ table_after e.call (length e.lent) e.dock s.working

-- An opening is refused only with 26, if its slice has another length, and with 20, if the table is not settled.
abbrev pub OpensRight : (m : ℕ) → Words → Type 0
OpensRight m t = open_number m t ≡ cond (eqb m (summary_words (nodes t))) (cond (settled t) 0 20) 26

abbrev pub ActRight : Act → Host → Type 0
ActRight (call e) h = Unit {0}
ActRight (opens lent) h = OpensRight (length lent) h.state.working
ActRight (quick e) h = (ws : Words) → h.summary ≡ some ws → Same ws h.state e

abbrev pub LastRight : State → Acts → Type 0
LastRight s [] = Unit {0}
LastRight s (a ∷ h) = ActRight a (run_acts s h)

-- With the summary ws a listing of table t answers and writes what the plain one does, and a batch what the plain batch does.
pub record SameFrom (ws t : Words) : Type 0 where
  pub listing : (n low high : ℕ) → (out : Words) → quick_listed n ws t low high out ≡ list n t low high out
  pub listed : (n low high : ℕ) → (out : Words) → quick_list_out n ws t low high out ≡ list_out n t low high out
  pub batches : (n dock : ℕ) → (ss : List Slot) → (lent : Words) → (quick_batch n dock ss lent ws t).batched ≡ batch n dock ss lent t

-- N nodes; the ledger was ps at the start
pub record KeptActs (choose : History → Bool) (N : ℕ) (s : State) (ps : Ledger) (h : Acts) : Type 0 where
  -- the last act, if it is a quick call, did what the plain call does; if it is an opening, it was not refused without a reason
  pub right : LastRight s h
  -- memory and working copy are those of the plain calls; these may happen, and demand 3 holds of them
  pub state : (run_acts s h).state ≡ run_from s (plain h)
  pub may : MayFrom s (plain h)
  pub kept : StandsFrom choose N s ps (plain h)
  -- what comes next may take the summary too
  pub next : (ws : Words) → (run_acts s h).summary ≡ some ws → SameFrom ws (run_acts s h).state.working

-- Demand 3 with quick calls. The ledger of a table is its maps.
abbrev pub Demand3Quick : Type 0
Demand3Quick =
    (t : Words) → Sound t → (choose : History → Bool) × ((h : Acts) → MayActs (both t) h → KeptActs choose (nodes t) (both t) (maps_of t) h)
