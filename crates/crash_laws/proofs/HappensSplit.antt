-- A history from a packed table, computed: an insertion that splits the full root leaf is cut in the middle of the split, and omitted; the
-- same
-- insertion again is cut before its last order, a flush, and taken.
use Rattle.std.proofs.Common.{◌≡◌, ℕ, zero, suc, ◌≤◌, Bool, true, false, cond, eqb, List, [], ◌∷◌, take, replicate, sym, refl, ap, ◌∙◌}
use Rattle.std.proofs.Common.{arith}
use Rattle.model.specs.declared.Answer.{Answer}
use Rattle.model.specs.declared.Answer.TheVariants.{Found, Absent}
use Rattle.std.specs.Prelude.{None}
use Rattle.model.specs.Table.{Words, nodes}
use Rattle.model.specs.Search.{search}
use Rattle.model.specs.SoundTest.{settled, sound}
use Rattle.model.specs.Orders.{Order, carry}
use Rattle.model.specs.Writes.{Call, insertion}
use Rattle.model.specs.Refusals.{unless_refused}
use Rattle.model.specs.Ledger.{Ledger, fed_of, list_in, answer_from, cut_after, taken, change, ledger_refusal, feed}
use Rattle.model.specs.Pack.{maps_in, pack_number, pack_out}
use Rattle.model.specs.Demand3.{Fate, whole, cut, Event, History, both, State, number_of, answered, event_orders, run_from, MayFrom}
use Rattle.model.specs.Demand3.{ledger_from, StandsFrom, HoldsFrom}
use Rattle.model.proofs.Everything.{everything}
use Rattle.cut_laws.proofs.Images.{carry-image}
use Rattle.crash_laws.proofs.Starts.{packed-start}
use Rattle.crash_laws.proofs.Happens.{event}

-- keys 10 to 110 with recordings 1 to 11, in one full leaf of a table of three nodes
abbrev pub eleven_pairs : Words
eleven_pairs = 10 ∷ 1 ∷ 20 ∷ 2 ∷ 30 ∷ 3 ∷ 40 ∷ 4 ∷ 50 ∷ 5 ∷ 60 ∷ 6 ∷ 70 ∷ 7 ∷ 80 ∷ 8 ∷ 90 ∷ 9 ∷ 100 ∷ 10 ∷ 110 ∷ 11 ∷ []

abbrev pub full : Words
full = pack_out 1 eleven_pairs [] (replicate 104 0)

abbrev pub inserting : Fate → Event
inserting f = event (insertion 1 115 12 0) f

-- the orders of the first, of which 76 happen and arrive: the new leaf is linked, and its slot is not yet in the parent
abbrev pub first_orders : List Order
first_orders = event_orders (both full) (inserting whole)

abbrev pub half : Words
half = carry (take 76 first_orders) full

abbrev pub cut_half : History
cut_half = inserting (cut 76 half) ∷ []

-- the orders of the second
abbrev pub second_orders : List Order
second_orders = event_orders (run_from (both full) cut_half) (inserting whole)

pub record Counted : Type 0 where
  pub packs : pack_number 1 eleven_pairs [] (replicate 104 0) ≡ 0
  pub three : nodes full ≡ 3
  pub first-accepted : number_of (both full) (inserting whole) ≡ 0
  pub first-answered : answered (both full) (inserting whole) ≡ 88
  pub half-sound : (sound half ≡ true) × (settled half ≡ false)
  pub half-lacks : search 1 half 115 ≡ Absent None
  pub half-keeps : search 1 half 60 ≡ Found 6 0

pub counted : Counted
unfolding everything
counted = record {
  packs = refl;
  three = refl;
  first-accepted = refl;
  first-answered = refl;
  half-sound = (refl, refl);
  half-lacks = refl;
  half-keeps = refl;
}

-- the second: all its stores arrive, its last flush does not happen
abbrev pub almost : Words
almost = carry (take 11 second_orders) (run_from (both full) cut_half).memory

abbrev pub cut_late : History
cut_late = inserting (cut 11 almost) ∷ cut_half

pub record Computed : Type 0 where
  pub reloaded : search 1 (run_from (both full) cut_half).memory 115 ≡ Absent None
  pub second-accepted : number_of (run_from (both full) cut_half) (inserting whole) ≡ 0
  pub second-answered : answered (run_from (both full) cut_half) (inserting whole) ≡ 12
  pub almost-has : search 1 almost 115 ≡ Found 12 0
  pub almost-keeps : (search 1 almost 60 ≡ Found 6 0) × (search 1 almost 50 ≡ Found 5 0)
  pub settled-again : settled almost ≡ true
  pub kept : search 1 (run_from (both full) cut_late).memory 115 ≡ Found 12 0

pub computed : Computed
unfolding everything
computed = record {
  reloaded = refl;
  second-accepted = refl;
  second-answered = refl;
  almost-has = refl;
  almost-keeps = (refl, refl);
  settled-again = refl;
  kept = refl;
}

within-first : 76 ≤ answered (both full) (inserting whole)
within-first = rw counted.first-answered (omega arith)

within-second : 11 ≤ answered (run_from (both full) cut_half) (inserting whole)
within-second = rw computed.second-answered (omega arith)

-- ---- what demand 3 says of it

abbrev pub start : Ledger
start = maps_in 1 eleven_pairs []

pub happens : MayFrom (both full) cut_late
unfolding MayFrom run_from
happens = (
  (tt, λ e. (within-first, carry-image (take 76 first_orders) full)),
  λ e. (within-second, carry-image (take 11 second_orders) (run_from (both full) cut_half).memory),
)

-- a cut change that is omitted moves nothing
omitted : (x : Call) (other : Bool) (words dock fed c : ℕ) (ps : Ledger) → feed x other words dock fed (cut_after c false) false ps ≡ ps
unfolding feed
omitted x other words dock fed c ps = go (ledger_refusal x other words dock fed ps) c
  where
    go : (n c : ℕ) → unless_refused n (cond (taken (cut_after c false) false) (change x ps) ps) ps ≡ ps
    go zero zero = refl
    go zero (suc c) = refl
    go (suc n) c = refl

-- the choice by what is answered
is-true : (g : Bool → Answer) (a : Answer) (b : Bool) → a ≡ g b → (a ≡ g false → ⊥) → b ≡ true
is-true g a true e z = refl
is-true g a false e z = absurd (z e)

is-false : (g : Bool → Answer) (a : Answer) (b : Bool) → a ≡ g b → (a ≡ g true → ⊥) → b ≡ false
is-false g a true e z = absurd (z e)
is-false g a false e z = refl

found-not-absent : (a b : Answer) → a ≡ Found 12 0 → b ≡ Absent None → a ≡ b → ⊥
found-not-absent a b p q e = let z : Found 12 0 ≡ Absent None = sym p ∙ e ∙ q in let y : ◌≡◌ {A = ℕ} 0 1 = cc in omega arith

-- what the ledger ps answers for 115 once it was fed the insertion, cut after c orders and not after all
abbrev fed_by : (fed c : ℕ) → (all : Bool) → Ledger → Bool → Answer
fed_by fed c all ps b = answer_from 115 (list_in 1 (feed (insertion 1 115 12 0) false 2560 0 fed (cut_after c all) b ps))

taken-there : fed_by 0 76 false start true ≡ Found 12 0
unfolding everything
taken-there = refl

module _ (d : HoldsFrom (nodes full) full start) where
  abbrev first : State
  first = both full

  abbrev second : State
  second = run_from (both full) cut_half

  -- what demand 3 says of the search for 115
  in-half : search 1 second.memory 115 ≡ answer_from 115 (list_in 1 (ledger_from d.0 (nodes full) (both full) start cut_half))
  unfolding MayFrom
  in-half = (d.1 cut_half happens.0).0.in-memory 1 115

  in-almost : search 1 (run_from (both full) cut_late).memory 115
      ≡ answer_from 115 (list_in 1 (ledger_from d.0 (nodes full) (both full) start cut_late))
  in-almost = (d.1 cut_late happens).0.in-memory 1 115

  half-fed : ledger_from d.0 (nodes full) (both full) start cut_half
      ≡ feed (insertion 1 115 12 0) false 2560 0 (fed_of (number_of (both full) (inserting whole)))
      (cut_after 76 (eqb 76 (answered (both full) (inserting whole)))) (d.0 cut_half) start
  unfolding ledger_from run_from
  half-fed = refl

  late-fed : ledger_from d.0 (nodes full) (both full) start cut_late
      ≡ feed (insertion 1 115 12 0) false 2560 0 (fed_of (number_of second (inserting whole)))
      (cut_after 11 (eqb 11 (answered second (inserting whole)))) (d.0 cut_late)
      (ledger_from d.0 (nodes full) (both full) start cut_half)
  unfolding ledger_from
  late-fed = refl

  -- The first change is omitted,
  pub first-omitted : d.0 cut_half ≡ false
  first-omitted =
      let n : fed_of (number_of (both full) (inserting whole)) ≡ 0 = ap fed_of counted.first-accepted in
      let all : eqb 76 (answered (both full) (inserting whole)) ≡ false = ap (eqb 76) counted.first-answered in
      let e : search 1 second.memory 115 ≡ fed_by 0 76 false start (d.0 cut_half) =
      in-half ∙ ap (λ (m : Ledger). answer_from 115 (list_in 1 m)) half-fed
      ∙ ap (λ (f : ℕ). fed_by f 76 (eqb 76 (answered (both full) (inserting whole))) start (d.0 cut_half)) n
      ∙ ap (λ (b : Bool). fed_by 0 76 b start (d.0 cut_half)) all in
      is-false (fed_by 0 76 false start) (search 1 second.memory 115) (d.0 cut_half) e
      (λ q. found-not-absent _ _ taken-there computed.reloaded (sym q))

  -- and the second, cut after 11 of 12 orders, is taken.
  pub second-taken : d.0 cut_late ≡ true
  second-taken =
      let ps = ledger_from d.0 (nodes full) (both full) start cut_half in
      let f = fed_of (number_of second (inserting whole)) in
      let all : eqb 11 (answered second (inserting whole)) ≡ false = ap (eqb 11) computed.second-answered in
      let e : search 1 (run_from (both full) cut_late).memory 115 ≡ fed_by f 11 false ps (d.0 cut_late) =
      in-almost ∙ ap (λ (m : Ledger). answer_from 115 (list_in 1 m)) late-fed ∙ ap (λ (b : Bool). fed_by f 11 b ps (d.0 cut_late)) all in
      is-true (fed_by f 11 false ps) (search 1 (run_from (both full) cut_late).memory 115) (d.0 cut_late) e
      (λ q. found-not-absent _ _ computed.kept (sym in-half ∙ computed.reloaded)
      (q ∙ ap (λ (m : Ledger). answer_from 115 (list_in 1 m)) (omitted (insertion 1 115 12 0) false 2560 0 f 11 ps)))

-- so does the choice of which demand 3 holds
pub split-kept : (choose : History → Bool)
    × (StandsFrom choose (nodes full) (both full) start cut_late × (choose cut_half ≡ false) × (choose cut_late ≡ true))
split-kept = let d =
    packed-start 1 eleven_pairs [] (replicate 104 0) counted.packs in (d.0, (d.1 cut_late happens, first-omitted d, second-taken d))
