-- Document 01, "The ledger of demand 3": a list of pairs for each collection, fed arguments, lengths, the c of a cut, and a 10 or 11; no word of the table.
use Rattle.std.specs.Prelude.{Bool, true, false, cond, not, ◌||◌, List, [], ◌∷◌, map, ℕ, zero, suc, ◌*◌, eqb, ltb, length}
use Rattle.std.proofs.Math.Option
use Rattle.std.proofs.Math.Option.{Option, none, some}
use Rattle.model.specs.declared.Answer.{Answer}
use Rattle.model.specs.declared.Answer.TheVariants.{Refused}
use Rattle.model.specs.Table.{Words}
use Rattle.model.specs.Slots.{Slot, slot, pointer_of, with_class}
use Rattle.model.specs.Search.{lookup}
use Rattle.model.specs.Reached.{Maps, unless_lacking}
use Rattle.model.specs.Writes.{Call, insertion, deletion, class_change, repair}
use Rattle.model.specs.Refusals.{test, first_number, tests_from18, unless_refused}

-- A list for each collection that the making chose: code, recording and class, as pairs (key, pointer) in the order of their keys.
abbrev pub Ledger : Type 0
Ledger = Maps

-- empty at first, with n collections
abbrev pub no_pairs : (n : ℕ) → Ledger
no_pairs n = record { one = []; two = unless_lacking (not (eqb n 2)) [] }

-- the list of collection n, where the ledger has one
abbrev pub list_in : (n : ℕ) → Ledger → Option (List Slot)
list_in n m = cond (eqb n 1) (some m.one) (cond (eqb n 2) m.two none)

-- the pair enters
unfoldable pub enter : (k x : ℕ) → List Slot → List Slot
enter k x [] = slot k x ∷ []
enter k x (s ∷ ss) = cond (ltb k s.key) (slot k x ∷ s ∷ ss) (s ∷ enter k x ss)

-- the pair of k leaves
unfoldable pub leave : (k : ℕ) → List Slot → List Slot
leave k [] = []
leave k (s ∷ ss) = cond (eqb s.key k) (leave k ss) (s ∷ leave k ss)

-- the pair of k gets class c
unfoldable pub reclass : (k c : ℕ) → List Slot → List Slot
reclass k c ps = map (λ (s : Slot). cond (eqb s.key k) (slot s.key (with_class s.pointer c)) s) ps

-- ---- what an accepted call makes of it: a change belongs to one collection

-- a change of collection n's list
unfoldable pub on_map : (n : ℕ) → (List Slot → List Slot) → Maps → Maps
on_map n f m = record { one = cond (eqb n 1) (f m.one) m.one; two = cond (eqb n 1) m.two (Option.map f m.two) }

abbrev pub change : Call → Maps → Maps
change (insertion n k r c) m = on_map n (enter k (pointer_of r c)) m
change (deletion n k) m = on_map n (leave k) m
change (class_change n k c) m = on_map n (reclass k c) m
change repair m = m

-- of the answers only a 10 or 11 is fed, else 0
abbrev pub fed_of : ℕ → ℕ
fed_of n = cond (eqb n 10 || eqb n 11) n 0

-- what a search for k answers by the list of its collection
abbrev pub answer_from : (k : ℕ) → Option (List Slot) → Answer
answer_from k none = Refused 17
answer_from k (some ps) = lookup k ps

abbrev pub lacking : Option (List Slot) → Bool
lacking none = true
lacking (some ps) = false

abbrev pub pairs_of : Option (List Slot) → List Slot
pairs_of none = []
pairs_of (some ps) = ps

-- the list of the collection that a call names; a repair asks for none
abbrev pub list_for : Call → Ledger → Option (List Slot)
list_for (insertion n k r c) m = list_in n m
list_for (deletion n k) m = list_in n m
list_for (class_change n k c) m = list_in n m
list_for repair m = some []

-- sentinels were lent, and not the 3 words a node of a table of N nodes
abbrev pub other_slice : (N : ℕ) → Option Words → Bool
other_slice N none = false
other_slice N (some ws) = not (eqb (length ws) (3 * N))

-- The number that the ledger refuses with: 17 by the collection asked for and those that it has a list of, 19 by the lengths of table and
-- sentinels, 18 by the dock, 5 by it and the length of the order list lent, 6, 14, 7, 8, 9 by the arguments and the own list, and a fed 10
-- or 11 at that number's place.
unfoldable pub ledger_refusal : Call → (other : Bool) → (words dock fed : ℕ) → Ledger → ℕ
ledger_refusal x other words dock fed m =
    let ps = list_for x m in
    first_number (test (lacking ps) 17 ∷ test other 19 ∷ tests_from18 x words dock (eqb fed 11) (eqb fed 10) (pairs_of ps))

-- what became of an accepted call's orders: all were carried out; or a cut fell after c of them, and that was all of them, or not
pub data End : Type 0 where
  completed : End
  cut_after : (c : ℕ) → (all : Bool) → End

-- Is the change taken? At c = 0 it is omitted, at c = all it is taken; between, by the choice.
abbrev pub taken : End → (choice : Bool) → Bool
taken completed choice = true
taken (cut_after zero all) choice = false
taken (cut_after (suc c) true) choice = true
taken (cut_after (suc c) false) choice = choice

-- the ledger after a call
unfoldable pub feed : Call → (other : Bool) → (words dock fed : ℕ) → End → (choice : Bool) → Ledger → Ledger
feed x other words dock fed end choice m = unless_refused (ledger_refusal x other words dock fed m) (cond (taken end choice) (change x m) m) m
