-- Sentences of scale 2, many insertions in one call, each computed where it decides.
use Rattle.std.proofs.Common.{◌≡◌, ℕ, List, [], ◌∷◌, ◌++◌, length, drop, replicate, refl}
use mathlib.Core.Option.{some}
use Rattle.std.specs.Prelude as rust
use Rattle.model.specs.declared.Refusal.{Refusal}
use Rattle.model.specs.declared.Refusal.TheVariants.{ShortList, BadRecording, KeyPresent}
use Rattle.model.specs.declared.Batch.{Batch}
use Rattle.model.specs.Table.{MARK, Words, empty, empty_of}
use Rattle.model.specs.Slots.{Slot, slot, slots_of, pointer_of}
use Rattle.model.specs.Reached.{map_of, maps_of}
use Rattle.model.specs.Orders.{carried_out}
use Rattle.model.specs.Writes.{insertion, node_words}
use Rattle.model.specs.Batch.{Batched, insertion_of, batch}
use Rattle.model.proofs.Everything.{everything}
use Rattle.model.proofs.Worked.{ten_slots}
use Rattle.model.proofs.Tables.{table_of, stale, one_level}

-- an answer, word by word
abbrev pub sums : (stop : rust.Option Refusal) → (taken stores flushes barriers : ℕ) → Batch
sums stop taken stores flushes barriers =
    record { stop = stop; taken = taken; counts = record { stores = stores; flushes = flushes; barriers = barriers } }

-- three pairs, of three classes, the second below the first; then one whose key is there
abbrev pub three : List Slot
three = slot 20 (pointer_of 7 2) ∷ slot 10 (pointer_of 8 1) ∷ slot 30 (pointer_of 9 0) ∷ []

abbrev pub sorted : List Slot
sorted = slot 10 (pointer_of 8 1) ∷ slot 20 (pointer_of 7 2) ∷ slot 30 (pointer_of 9 0) ∷ []

abbrev pub clash : List Slot
clash = three ++ (slot 10 5 ∷ slot 40 6 ∷ [])

-- a list of so many words, and a batch into a table of one node that has none
abbrev pub lent : ℕ → Words
lent m = replicate m 77

abbrev pub ran : (dock : ℕ) → List Slot → (m : ℕ) → Batched
ran dock ss m = batch 1 dock ss (lent m) (empty 1)

pub record BatchCalls : Type 0 where
  -- The single call for a pair has the pair's key, and its pointer's recording and class.
  pub single : insertion_of 2 (slot 20 (pointer_of 7 2)) ≡ insertion 2 20 7 2
  -- All pairs are taken, in their order; the sums are those of the single calls, on either dock.
  pub plain : (ran 0 three 2600).answer ≡ sums rust.None 3 14 3 0
  pub docked : (ran 1 three 5200).answer ≡ sums rust.None 3 14 3 14
  -- The map has each with its recording and class, and the table nothing else.
  pub map : map_of 1 (ran 0 three 2600).table ≡ sorted
  pub table : (ran 0 three 2600).table ≡ table_of 1 (node_words MARK 0 0 0 sorted ∷ [])

pub record BatchLists : Type 0 where
  -- One list for all: carried out it gives the table, and the words behind it stay.
  pub carried : carried_out 31 (ran 1 three 5200).list (empty 1) ≡ table_of 1 (node_words MARK 0 0 0 sorted ∷ [])
  pub behind : (drop 34 (ran 0 three 2600).list ≡ lent 2566) × (length (ran 0 three 2600).list ≡ 2600)

pub record BatchStops : Type 0 where
  -- A refused pair stops it with its number; those before it are taken, and nothing of those after it.
  pub stops : ((ran 0 clash 2600).answer ≡ sums (rust.Some KeyPresent) 3 14 3 0)
      × ((ran 0 clash 2600).table ≡ table_of 1 (node_words MARK 0 0 0 sorted ∷ [])) × (drop 34 (ran 0 clash 2600).list ≡ lent 2566)
  -- 5 by the words that are left of the list.
  pub five : (ran 0 three 2560).answer ≡ sums (rust.Some ShortList) 1 4 1 0
  -- A batch that stops before its first pair, or has none, changes nothing.
  pub first : ran 0 (slot 20 0 ∷ three) 2600 ≡ record { answer = sums (rust.Some BadRecording) 0 0 0 0; table = empty 1; list = lent 2600 }
  pub none : ran 0 [] 3 ≡ record { answer = sums rust.None 0 0 0 0; table = empty 1; list = lent 3 }

pub record BatchGoesOn : Type 0 where
  -- It is of its own collection.
  pub second : maps_of (batch 2 0 (slot 0 5 ∷ []) (lent 2560) (empty_of 2 2)).table ≡ record { one = []; two = some (slot 0 5 ∷ []) }
  -- The first pair splits, and the one after it goes on from what it left.
  pub splits : length (map_of 1 (batch 1 0 (slot 55 7 ∷ slot 56 8 ∷ []) (lent 2800) (one_level 11 (stale 2))).table) ≡ 13
  -- An odd last word is half a pair and is none.
  pub half : slots_of (20 ∷ 7 ∷ 10 ∷ []) ≡ slot 20 7 ∷ []

pub batches-computed : BatchCalls
unfolding everything
batches-computed = record { single = refl; plain = refl; docked = refl; map = refl; table = refl }

pub lists-computed : BatchLists
unfolding everything
lists-computed = record { carried = refl; behind = (refl, refl) }

pub stops-computed : BatchStops
unfolding everything
stops-computed = record { stops = (refl, refl, refl); five = refl; first = refl; none = refl }

pub goes-on-computed : BatchGoesOn
unfolding everything ten_slots
goes-on-computed = record { second = refl; splits = refl; half = refl }
