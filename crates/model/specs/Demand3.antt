-- Demand 3 as one claim over all sequences of insertions, deletions, class changes and repairs, of one collection or two, whole or cut, each
-- for dock 0 or dock 1, with sentinels or without; from the empty table, and from every sound one.
use Rattle.std.specs.Prelude.{◌≡◌, ◌≢◌, ◌⊎◌, Bool, true, List, [], ◌∷◌, ℕ, ◌*◌, ◌≤◌, eqb, length, take}
use Rattle.std.proofs.Math.Option.{Option, none, some}
use Rattle.model.specs.Results.{Written, answer_number}
use Rattle.model.specs.Table.{Words, nodes, empty_of}
use Rattle.model.specs.Search.{search}
use Rattle.model.specs.Reached.{maps_of}
use Rattle.model.specs.Sound.{Settled, Sound}
use Rattle.model.specs.Orders.{Order, decode, carried_out, carry_number}
use Rattle.model.specs.Cuts.{CutImage}
use Rattle.model.specs.Writes.{Call, insertion, deletion, class_change, repair, repaired}
use Rattle.model.specs.Refusals.{eleven_in, ten_in, refusal, unless_refused, written, orders_answered, table_after, list_after}
use Rattle.model.specs.Sentinels.{sentinels, search_with, refusal_with, written_with, table_with, orders_with, sentinels_with}
use Rattle.model.specs.Ledger.{Ledger, no_pairs, list_in, answer_from, fed_of, other_slice, ledger_refusal, End, completed, cut_after, feed}

-- ---- events and histories

-- what becomes of an accepted call's orders: all are carried out, or a cut falls after c of them and memory is then m
pub data Fate : Type 0 where
  whole : Fate
  cut : (c : ℕ) → (m : Words) → Fate

-- a call, the order list as it was lent, the dock, the sentinels as they were lent if it takes them, and its fate
pub record Event : Type 0 where
  pub call : Call
  pub lent : Words
  pub dock : ℕ
  pub slice : Option Words
  pub fate : Fate

-- the latest event first: the tail of a history is the history before it
abbrev pub History : Type 0
History = List Event

-- memory, and the working copy
pub record State : Type 0 where
  pub memory : Words
  pub working : Words

-- a table stored whole in memory and copied as the working copy
abbrev pub both : Words → State
both t = record { memory = t; working = t }

-- number and answer of the plain call, or of the one with these sentinels; the table and the order list that it leaves
abbrev pub refusal_by : Option Words → Call → (words dock : ℕ) → Words → ℕ
refusal_by none x words dock t = refusal x words dock t
refusal_by (some ws) x words dock t = refusal_with x (length ws) words dock t

abbrev pub written_by : Option Words → Call → (words dock : ℕ) → Words → Written
written_by none x words dock t = written x words dock t
written_by (some ws) x words dock t = written_with x (length ws) words dock t

abbrev pub table_by : Option Words → Call → (words dock : ℕ) → Words → Words
table_by none x words dock t = table_after x words dock t
table_by (some ws) x words dock t = table_with x (length ws) words dock t

abbrev pub orders_by : Option Words → Call → (lent : Words) → (dock : ℕ) → Words → Words
orders_by none x lent dock t = list_after x lent dock t
orders_by (some ws) x lent dock t = orders_with x (length ws) lent dock t

-- the number that the call answers
abbrev pub number_of : State → Event → ℕ
number_of s e = refusal_by e.slice e.call (length e.lent) e.dock s.working

-- the orders that the call answered, and the lent list after the call
abbrev pub answered : State → Event → ℕ
answered s e = orders_answered (written_by e.slice e.call (length e.lent) e.dock s.working)

abbrev pub list_of : State → Event → Words
list_of s e = orders_by e.slice e.call e.lent e.dock s.working

-- all its orders: as many of the lent list as it answered, not the words after them
abbrev pub event_orders : State → Event → List Order
event_orders s e = take (answered s e) (decode (list_of s e))

-- the table that it leaves
abbrev pub left_by : State → Event → Words
left_by s e = table_by e.slice e.call (length e.lent) e.dock s.working

-- Whole: memory is what the carry-out call makes of it with the lent list and the orders answered. Cut: memory is m, reloaded.
abbrev pub after_fate : Fate → State → Event → State
after_fate whole s e =
    record {
      memory = carried_out (answered s e) (list_of s e) s.memory;
      working = left_by s e;
    }
after_fate (cut c m) s e = record { memory = m; working = m }

-- A refused call has no orders: memory stays. The working copy is what it leaves.
abbrev pub after_refusal : State → Event → State
after_refusal s e = record { memory = s.memory; working = left_by s e }

unfoldable pub step : State → Event → State
step s e = unless_refused (number_of s e) (after_fate e.fate s e) (after_refusal s e)

-- the state after a history that starts with s
unfoldable pub run_from : State → History → State
run_from s [] = s
run_from s (e ∷ h) = step (run_from s h) e

-- a cut falls after at most as many orders as were answered, and memory is then an image that it may leave on that dock
abbrev pub FateMay : Fate → State → Event → Type 0
FateMay whole s e = Unit {0}
FateMay (cut c m) s e = (c ≤ answered s e) × CutImage e.dock c s.memory (event_orders s e) m

unfoldable pub MayFrom : State → History → Type 0
MayFrom s [] = Unit {0}
MayFrom s (e ∷ h) = MayFrom s h × (number_of (run_from s h) e ≡ 0 → FateMay e.fate (run_from s h) e)

-- ---- the ledger along a history

abbrev pub end_of : Fate → State → Event → End
end_of whole s e = completed
end_of (cut c m) s e = cut_after c (eqb c (answered s e))

-- It starts as ps, with a table of N nodes. The choice is made once for each event, on what happened up to it, and stays: the ledger of a
-- longer history is fed onto this one.
unfoldable pub ledger_from : (choose : History → Bool) → (N : ℕ) → State → Ledger → History → Ledger
ledger_from choose N s ps [] = ps
ledger_from choose N s ps (e ∷ h) =
    let u = run_from s h in
    feed e.call (other_slice N e.slice) (length e.lent) e.dock (fed_of (number_of u e)) (end_of e.fate u e) (choose (e ∷ h))
    (ledger_from choose N s ps h)

-- ---- what holds at the start and after each event

-- every search of every collection, in memory and in the working copy, answers as the ledger: found with its recording and class, absent
-- exactly if its list has none, 17 exactly if it has no list; so does one that takes sentinels, whatever words they are
pub record Agrees (N : ℕ) (s : State) (ps : Ledger) : Type 0 where
  pub in-memory : (n k : ℕ) → search n s.memory k ≡ answer_from k (list_in n ps)
  pub in-working : (n k : ℕ) → search n s.working k ≡ answer_from k (list_in n ps)
  pub with-words : (n k : ℕ) → (ws : Words) → length ws ≡ 3 * N
      → (search_with n ws s.memory k ≡ answer_from k (list_in n ps)) × (search_with n ws s.working k ≡ answer_from k (list_in n ps))

-- all of the call's orders were carried out
abbrev pub Completed : Fate → State → Event → Type 0
Completed whole s e = Unit {0}
Completed (cut c m) s e = c ≡ answered s e

abbrev pub Carried : Fate → State → Event → Type 0
Carried whole s e = carry_number (answered s e) (list_of s e) s.memory ≡ 0
Carried (cut c m) s e = Unit {0}

-- a repair keeps the maps
abbrev pub Keeps : Call → State → State → Type 0
Keeps (insertion n k r c) s s' = Unit {0}
Keeps (deletion n k) s s' = Unit {0}
Keeps (class_change n k c) s s' = Unit {0}
Keeps repair s s' = (maps_of s'.memory ≡ maps_of s.memory) × (maps_of s'.working ≡ maps_of s.working)

-- sentinels that a call takes: where they were true they are true after it
abbrev pub StayTrue : Option Words → Call → (words dock : ℕ) → Words → Type 0
StayTrue none x words dock t = Unit {0}
StayTrue (some ws) x words dock t =
    refusal_with x (length ws) words dock t ≡ 0 → ws ≡ sentinels t → sentinels_with x ws words dock t ≡ sentinels (table_with x (length ws) words dock t)

-- of the event e that took s to s', where the ledger was ps
pub record Right (N : ℕ) (e : Event) (s s' : State) (ps : Ledger) : Type 0 where
  -- accepted or refused as in the ledger, with the same number
  pub same-number : number_of s e ≡ ledger_refusal e.call (other_slice N e.slice) (length e.lent) e.dock (fed_of (number_of s e)) ps
  pub answers-it : answer_number (written_by e.slice e.call (length e.lent) e.dock s.working) ≡ number_of s e
  -- 10 and 11 only on their conditions
  pub ten-only : number_of s e ≡ 10 → ten_in e.call (repaired s.working) ≡ true
  pub eleven-only : number_of s e ≡ 11 → eleven_in e.call (repaired s.working) ≡ true
  -- the carry-out of a whole list is not refused; a completed list leaves memory equal to the working copy, and nothing unfinished
  pub carried : number_of s e ≡ 0 → Carried e.fate s e
  pub equal : number_of s e ≡ 0 → Completed e.fate s e → (s'.memory ≡ left_by s e) × (s'.working ≡ left_by s e)
  pub finished : number_of s e ≡ 0 → Completed e.fate s e → Settled s'.memory × Settled s'.working
  -- a refused call changes neither memory nor the working copy, and leaves the lent list
  pub unchanged : number_of s e ≢ 0 → (s'.memory ≡ s.memory) × (s'.working ≡ s.working) × (list_of s e ≡ e.lent)
  pub repair-keeps : Keeps e.call s s'
  pub stay-true : StayTrue e.slice e.call (length e.lent) e.dock s.working

abbrev pub StandsFrom : (choose : History → Bool) → (N : ℕ) → State → Ledger → History → Type 0
StandsFrom choose N s ps [] = Agrees N (run_from s []) (ledger_from choose N s ps [])
StandsFrom choose N s ps (e ∷ h) =
    Agrees N (run_from s (e ∷ h)) (ledger_from choose N s ps (e ∷ h)) × Right N e (run_from s h) (run_from s (e ∷ h)) (ledger_from choose N s ps h)

-- ---- from the empty table

-- the state after a history that starts with an empty table of n collections and N nodes; whether it may happen; its ledger, empty at first
abbrev pub run_all : (n N : ℕ) → History → State
run_all n N h = run_from (both (empty_of n N)) h

abbrev pub May : (n N : ℕ) → History → Type 0
May n N h = MayFrom (both (empty_of n N)) h

abbrev pub Stands : (choose : History → Bool) → (n N : ℕ) → History → Type 0
Stands choose n N h = StandsFrom choose N (both (empty_of n N)) (no_pairs n) h

-- Demand 3: for one collection or two and every N that making takes there is a way to take or omit the cut changes such that, after every
-- history that may happen, all of it holds.
abbrev pub Demand3 : Type 0
Demand3 = (n N : ℕ) → (n ≡ 1) ⊎ (n ≡ 2) → n ≤ N → N ≤ 65535 → (choose : History → Bool) × ((h : History) → May n N h → Stands choose n N h)

-- ---- from every sound table

-- The same of histories that start with table t of N nodes, stored whole in memory and copied as the working copy, and with the ledger ps.
abbrev pub HoldsFrom : (N : ℕ) → Words → Ledger → Type 0
HoldsFrom N t ps = (choose : History → Bool) × ((h : History) → MayFrom (both t) h → StandsFrom choose N (both t) ps h)

-- Its ledger is its maps.
abbrev pub Demand3From : Type 0
Demand3From = (t : Words) → Sound t → HoldsFrom (nodes t) t (maps_of t)
