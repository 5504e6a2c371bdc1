-- Document 01, "Orders", and request 7: what memory may hold after a cut, line by line, on each dock.
use Rattle.std.specs.Prelude.{◌≡◌, ◌⊎◌, Bool, false, cond, ◌||◌, List, [], ◌∷◌, ◌++◌, ℕ, zero, suc, eqb, length, take}
use Rattle.model.specs.Table.{Words, at, line}
use Rattle.model.specs.Orders.{Store, Order, store, flush, barrier, apply, carry}

-- the orders have a flush of line l
unfoldable pub flushed : ℕ → List Order → Bool
flushed l [] = false
flushed l (store s ∷ os) = flushed l os
flushed l (flush k ∷ os) = eqb k l || flushed l os
flushed l (barrier ∷ os) = flushed l os

-- the orders up to the last flush of line l; with none, no order
unfoldable pub up_to_flush : ℕ → List Order → List Order
up_to_flush l [] = []
up_to_flush l (o ∷ os) = cond (flushed l (o ∷ os)) (o ∷ up_to_flush l os) []

-- the later orders: those after the last flush of line l; with none, all
unfoldable pub since_flush : ℕ → List Order → List Order
since_flush l [] = []
since_flush l (o ∷ os) = cond (flushed l (o ∷ os)) (since_flush l os) (o ∷ os)

-- the stores to line l among orders
unfoldable pub line_stores : ℕ → List Order → List Store
line_stores l [] = []
line_stores l (store s ∷ os) = cond (eqb (line s.word) l) (s ∷ line_stores l os) (line_stores l os)
line_stores l (flush k ∷ os) = line_stores l os
line_stores l (barrier ∷ os) = line_stores l os

-- the later stores to line l: those after its last flush; with none, all stores to it
abbrev pub later_stores : ℕ → List Order → List Store
later_stores l os = line_stores l (since_flush l os)

-- ---- what of a line's later stores may have reached memory

-- On dock 0: some first part, from nothing to all.
abbrev pub FirstPart : (later part : List Store) → Type 0
FirstPart later part = (n : ℕ) × (part ≡ take n later)

-- up to some barrier or up to none
abbrev pub UpToBarrier : List Order → Type 0
UpToBarrier os = ((before : List Order) × (os ≡ before ++ (barrier ∷ []))) ⊎ (os ≡ [])

-- to the next barrier; where none follows, to the end
unfoldable pub to_barrier : List Order → List Order
to_barrier [] = []
to_barrier (store s ∷ os) = store s ∷ to_barrier os
to_barrier (flush l ∷ os) = flush l ∷ to_barrier os
to_barrier (barrier ∷ os) = []

-- any choice of stores, in their order: those that are marked
unfoldable pub choice : (marks : List Bool) → List Store → List Store
choice [] ss = []
choice (b ∷ bs) [] = []
choice (b ∷ bs) (s ∷ ss) = cond b (s ∷ choice bs ss) (choice bs ss)

-- On dock 1: all later stores up to some barrier or up to none, and any choice of the stores from there to the next barrier.
pub record AnyChoice (l : ℕ) (later : List Order) (part : List Store) : Type 0 where
  pub before : List Order
  pub rest : List Order
  pub marks : List Bool
  pub parted : later ≡ before ++ rest
  pub up-to : UpToBarrier before
  pub holds : part ≡ line_stores l before ++ choice marks (line_stores l (to_barrier rest))

abbrev pub MayArrive : (dock l : ℕ) → List Order → List Store → Type 0
MayArrive zero l os part = FirstPart (later_stores l os) part
MayArrive (suc n) l os part = AnyChoice l (since_flush l os) part

-- ---- images

-- line l of m holds what it held at its last flush (with none, before the list), then this part of the later stores to it
abbrev pub Holds : Words → List Order → Words → ℕ → List Store → Type 0
Holds t os m l part = (w : ℕ) → line w ≡ l → at m w ≡ at (apply part (carry (up_to_flush l os) t)) w

-- m is an image that a cut on this dock may leave of t when just the orders os have happened; each line has its own part
pub record Image (dock : ℕ) (t : Words) (os : List Order) (m : Words) : Type 0 where
  pub long : length m ≡ length t
  pub lines : (l : ℕ) → (part : List Store) × MayArrive dock l os part × Holds t os m l part

-- A cut falls after the first c orders of a list; the rest never happen.
abbrev pub CutImage : (dock c : ℕ) → Words → List Order → Words → Type 0
CutImage dock c t os m = Image dock t (take c os) m
