-- Scale 2: a batch in a history. Whole or cut, it is the insertions of its first pairs one after another, at most the last of them cut, fed
-- onto the history before it; so demand 3 holds of histories with batches.
use Rattle.std.specs.Prelude.{◌≡◌, ◌≢◌, Bool, false, List, [], ◌∷◌, ◌++◌, map, ℕ, ◌-◌, ◌*◌, ◌≤◌, length, take, drop}
use Rattle.std.proofs.Math.Option.{none}
use Rattle.model.specs.Numbers.{stop_number}
use Rattle.model.specs.Results.{orders_counted}
use Rattle.model.specs.Table.{Words, nodes}
use Rattle.model.specs.Slots.{Slot, recording, class}
use Rattle.model.specs.Reached.{maps_of}
use Rattle.model.specs.Sound.{Sound}
use Rattle.model.specs.Orders.{Order, decode, list_with, store_count, flush_count, barrier_count, carried_out, carry_number}
use Rattle.model.specs.Cuts.{CutImage}
use Rattle.model.specs.Writes.{Call, insertion}
use Rattle.model.specs.Ledger.{Ledger, enter, on_map, fed_of, ledger_refusal}
use Rattle.model.specs.Demand3.{Fate, whole, cut, History, State, both, number_of, run_from, MayFrom, ledger_from, StandsFrom}
use Rattle.model.specs.Batch.{Batched, batch}

-- ---- what becomes of a batch's orders

-- how many orders it answered; all its orders: as many of the lent list
abbrev pub batch_answered : Batched → ℕ
batch_answered r = orders_counted r.answer.counts

abbrev pub batch_orders : Batched → List Order
batch_orders r = take (batch_answered r) (decode r.list)

-- as of a single call: all are carried out, or a cut falls after c of them and memory is then m, reloaded
abbrev pub after_batch : Fate → State → Batched → State
after_batch whole s r = record { memory = carried_out (batch_answered r) r.list s.memory; working = r.table }
after_batch (cut c m) s r = both m

abbrev pub BatchMay : Fate → (dock : ℕ) → State → Batched → Type 0
BatchMay whole dock s r = Unit {0}
BatchMay (cut c m) dock s r = (c ≤ batch_answered r) × CutImage dock c s.memory (batch_orders r) m

-- ---- the single calls that it is

-- the calls of events, the earliest first
abbrev pub calls_in : History → List Call
calls_in [] = []
calls_in (e ∷ es) = calls_in es ++ (e.call ∷ [])

-- each was accepted, on this dock and without sentinels
abbrev pub AllAccepted : State → (dock : ℕ) → History → Type 0
AllAccepted s dock [] = Unit {0}
AllAccepted s dock (e ∷ es) = AllAccepted s dock es × (number_of (run_from s es) e ≡ 0) × (e.dock ≡ dock) × (e.slice ≡ none)

abbrev pub AllWhole : History → Type 0
AllWhole [] = Unit {0}
AllWhole (e ∷ es) = AllWhole es × (e.fate ≡ whole)

-- all but the latest
abbrev pub WholeBefore : History → Type 0
WholeBefore [] = Unit {0}
WholeBefore (e ∷ es) = AllWhole es

abbrev pub FatesBy : Fate → History → Type 0
FatesBy whole es = AllWhole es
FatesBy (cut c m) es = WholeBefore es

-- so many pairs: of a whole batch those that it took, of a cut one no more
abbrev pub PairsBy : Fate → (pairs taken : ℕ) → Type 0
PairsBy whole pairs taken = pairs ≡ taken
PairsBy (cut c m) pairs taken = pairs ≤ taken

-- The number that stopped it: if pairs are left it is the one that the ledger refuses the next of them with, by the words that are left of
-- the list; if none is left it is 0.
abbrev pub Stops : (n words dock number : ℕ) → Ledger → (left : List Slot) → Type 0
Stops n words dock number ps [] = number ≡ 0
Stops n words dock number ps (s ∷ ss) =
    (number ≢ 0) × (number ≡ ledger_refusal (insertion n s.key (recording s) (class s)) false words dock (fed_of number) ps)

abbrev pub StopsBy : Fate → (n words dock number : ℕ) → Ledger → (left : List Slot) → Type 0
StopsBy whole n words dock number ps left = Stops n words dock number ps left
StopsBy (cut c m) n words dock number ps left = Unit {0}

-- ---- the claim

-- r is what the batch answered and left after history h, which started with table t; f is its fate
pub record Singles (choose : History → Bool) (t : Words) (h : History) (n dock : ℕ) (ss : List Slot) (list : Words) (r : Batched) (f : Fate) : Type 0 where
  -- the insertions of the first pairs in their order, accepted, whole, at most the last of them cut
  pub events : History
  pub pairs : ℕ
  pub calls-are : calls_in events ≡ map (λ (s : Slot). insertion n s.key (recording s) (class s)) (take pairs ss)
  pub pairs-are : PairsBy f pairs r.answer.taken
  pub accepted : AllAccepted (run_from (both t) h) dock events
  pub fates : FatesBy f events
  -- fed onto the history before it they may happen, come to what the batch comes to, and demand 3 holds of them
  pub may : MayFrom (both t) (events ++ h)
  pub comes-to : run_from (both t) (events ++ h) ≡ after_batch f (run_from (both t) h) r
  pub stands : StandsFrom choose (nodes t) (both t) (maps_of t) (events ++ h)
  -- the number that stopped it is the ledger's
  pub stops : StopsBy f n (length list - 2 * batch_answered r) dock (stop_number r.answer.stop)
      (ledger_from choose (nodes t) (both t) (maps_of t) (events ++ h)) (drop r.answer.taken ss)

-- the pairs enter one after another
abbrev pub enter_all : List Slot → List Slot → List Slot
enter_all [] ps = ps
enter_all (s ∷ ss) ps = enter_all ss (enter s.key s.pointer ps)

-- r is what the batch of the pairs ss into collection n answered and left in state s
pub record RightBatch (s : State) (n : ℕ) (ss : List Slot) (list : Words) (r : Batched) : Type 0 where
  -- the pairs that it took are in the map, each with its recording and class, and nothing else of the maps differs
  pub enters : maps_of r.table ≡ on_map n (enter_all (take r.answer.taken ss)) (maps_of s.working)
  -- its orders stand in front of the list; the words after them stay
  pub list-is : r.list ≡ list_with (batch_orders r) list
  -- the sums are the list's counts
  pub stores-are : r.answer.counts.stores ≡ store_count (batch_orders r)
  pub flushes-are : r.answer.counts.flushes ≡ flush_count (batch_orders r)
  pub barriers-are : r.answer.counts.barriers ≡ barrier_count (batch_orders r)
  -- the carry-out of the list with the answered sums is not refused, and gives its table
  pub carries : carry_number (batch_answered r) r.list s.memory ≡ 0
  pub gives : carried_out (batch_answered r) r.list s.memory ≡ r.table

-- After every history from every sound table, every batch and every fate that it may have.
abbrev pub Batches : Type 0
Batches =
    (t : Words) → Sound t → (choose : History → Bool) × ((h : History) → MayFrom (both t) h → (n dock : ℕ) → (ss : List Slot) → (list : Words)
    → (let s = run_from (both t) h in let r = batch n dock ss list s.working in
    RightBatch s n ss list r × ((f : Fate) → BatchMay f dock s r → Singles choose t h n dock ss list r f)))
