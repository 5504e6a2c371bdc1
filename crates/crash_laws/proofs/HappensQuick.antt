-- A history with quick calls, computed, from a packed table: a summary is opened; a quick insertion that splits the full root leaf is cut
-- in the
-- middle of the split, which ends the summary; opening is then refused, and a repair finishes the split; with a new summary the insertion
-- comes
-- again, another is refused, and a deletion follows.
use Rattle.std.proofs.Common.{◌≡◌, ℕ, ◌≤◌, Bool, true, false, ◌≢◌, List, [], ◌∷◌, take, replicate, refl, arith}
use mathlib.Core.Option.{Option, none, some}
use Rattle.model.specs.declared.Answer.TheVariants.{Found, Absent}
use Rattle.std.specs.Prelude.{Some, None}
use Rattle.model.specs.Table.{Words, nodes}
use Rattle.model.specs.Search.{search}
use Rattle.model.specs.Reached.{maps_of}
use Rattle.model.specs.SoundTest.{settled, sound}
use Rattle.model.specs.Orders.{Order, decode, carry}
use Rattle.model.specs.Writes.{insertion, deletion, repair}
use Rattle.model.specs.Demand3.{whole, cut, Event, History, State, both}
use Rattle.model.specs.Summary.{opened, open_number}
use Rattle.model.specs.QuickHistories.{Acts, call, opens, quick, host, quick_number_of, quick_answered, quick_list_of, run_acts, QuickMay}
use Rattle.model.specs.QuickHistories.{MayActs, KeptActs}
use Rattle.model.proofs.Everything.{everything}
use Rattle.cut_laws.proofs.Images.{carry-image}
use Rattle.two_laws.proofs.SameTwo.{sound-same}
use Rattle.crash_laws.proofs.Happens.{event}
use Rattle.crash_laws.proofs.HappensSplit.{full, inserting}
use Rattle.crash_laws.proofs.QuickHistories.{demand3-quick}

-- a slice for the summary of three nodes, whatever words it has
abbrev slice : Words
slice = replicate 49 7

abbrev first : Acts
first = opens slice ∷ []

-- the orders of the insertion, of which 76 happen and arrive: the new leaf is linked, and its slot is not yet in the parent
abbrev first_orders : List Order
first_orders = take (quick_answered (opened full) (both full) (inserting whole))
    (decode (quick_list_of (opened full) (both full) (inserting whole)))

abbrev half : Words
half = carry (take 76 first_orders) full

abbrev cut_half : Acts
cut_half = quick (inserting (cut 76 half)) ∷ first

-- opening; a repair; opening
abbrev mended : Acts
mended = call (event repair whole) ∷ opens slice ∷ cut_half

-- the insertion
abbrev again : Acts
again = quick (inserting whole) ∷ opens slice ∷ mended

-- one of the same recording
abbrev refused : Acts
refused = quick (event (insertion 1 120 12 0) whole) ∷ again

-- a deletion
abbrev last : Acts
last = quick (event (deletion 1 60) whole) ∷ refused

-- the number of a quick call with the summary that there is; 99 if there is none
abbrev number_with : Option Words → State → Event → ℕ
number_with none s e = 99
number_with (some ws) s e = quick_number_of ws s e

abbrev number_after : Acts → Event → ℕ
number_after h e = let x = run_acts (both full) h in number_with x.summary x.state e

-- The insertion is accepted with 88 orders. The cut leaves a sound table that is not settled, without the new pair; opening is refused with
-- 20.
pub record CutShort : Type 0 where
  pub starts-sound : sound full ≡ true
  pub opens-it : run_acts (both full) first ≡ host (both full) (some (opened full))
  pub answers : (quick_number_of (opened full) (both full) (inserting whole) ≡ 0)
      × (quick_answered (opened full) (both full) (inserting whole) ≡ 88)
  pub cut-leaves : ((run_acts (both full) cut_half).state.memory ≡ half) × ((run_acts (both full) cut_half).summary ≡ none)
  pub half-sound : (sound half ≡ true) × (settled half ≡ false)
  pub half-lacks : (search 1 half 115 ≡ Absent None) × (search 1 half 60 ≡ Found 6 0)
  pub twenty : open_number 49 half ≡ 20
  -- an accepted call that does not take the summary ends it too
  pub other-ends : (run_acts (both full) (call (event repair whole) ∷ first)).summary ≡ none

pub cut-short : CutShort
unfolding everything
cut-short = record {
  starts-sound = refl;
  opens-it = refl;
  answers = (refl, refl);
  cut-leaves = (refl, refl);
  half-sound = (refl, refl);
  half-lacks = (refl, refl);
  twenty = refl;
  other-ends = refl;
}

-- The repair settles it, and a summary is opened; the insertion comes.
pub record Comes : Type 0 where
  pub mends : open_number 49 (run_acts (both full) mended).state.working ≡ 0
  pub accepted : number_after (opens slice ∷ mended) (inserting whole) ≡ 0
  pub comes : search 1 (run_acts (both full) again).state.memory 115 ≡ Found 12 0

pub comes-again : Comes
unfolding everything
comes-again = record { mends = refl; accepted = refl; comes = refl }

-- A recording in use is refused with 8; the deletion takes its code.
pub record Goes : Type 0 where
  pub eight : number_after again (event (insertion 1 120 12 0) whole) ≡ 8
  pub accepted : number_after refused (event (deletion 1 60) whole) ≡ 0
  pub gone : search 1 (run_acts (both full) last).state.memory 60 ≡ Absent (Some 70)
  pub stays : search 1 (run_acts (both full) last).state.memory 115 ≡ Found 12 0
  pub settled-again : settled (run_acts (both full) last).state.memory ≡ true

pub goes : Goes
unfolding everything
goes = record { eight = refl; accepted = refl; gone = refl; stays = refl; settled-again = refl }

-- ---- it may happen, and demand 3 holds of it

within : 76 ≤ quick_answered (opened full) (both full) (inserting whole)
within = rw cut-short.answers.1 (omega arith)

cut-may : QuickMay (run_acts (both full) first).summary (run_acts (both full) first).state (inserting (cut 76 half))
cut-may = rw cut-short.opens-it (λ e. (within, carry-image (take 76 first_orders) full))

-- there is a summary, and the call is whole
whole-may : (w : Option Words) (s : State) (e : Event) → e.fate ≡ whole → number_with w s e ≢ 99 → QuickMay w s e
whole-may none s e f z = absurd (z refl)
whole-may (some ws) s e f z = λ n. rw f tt

may-after : (h : Acts) (e : Event) → e.fate ≡ whole → number_after h e ≢ 99
    → QuickMay (run_acts (both full) h).summary (run_acts (both full) h).state e
may-after h e f z = whole-may (run_acts (both full) h).summary (run_acts (both full) h).state e f z

may-come : QuickMay (run_acts (both full) (opens slice ∷ mended)).summary
    (run_acts (both full) (opens slice ∷ mended)).state (inserting whole)
may-come = may-after (opens slice ∷ mended) (inserting whole) refl (λ z. omega (arith, comes-again.accepted, z))

may-refuse : QuickMay (run_acts (both full) again).summary (run_acts (both full) again).state (event (insertion 1 120 12 0) whole)
may-refuse = may-after again (event (insertion 1 120 12 0) whole) refl (λ z. omega (arith, goes.eight, z))

may-go : QuickMay (run_acts (both full) refused).summary (run_acts (both full) refused).state (event (deletion 1 60) whole)
may-go = may-after refused (event (deletion 1 60) whole) refl (λ z. omega (arith, goes.accepted, z))

pub happens : MayActs (both full) last
unfolding MayActs
happens = ((((((((tt, tt), cut-may), tt), λ e. tt), tt), may-come), may-refuse), may-go)

pub happens-kept : (choose : History → Bool) × KeptActs choose (nodes full) (both full) (maps_of full) last
happens-kept = let d = demand3-quick full ((sound-same full).0 cut-short.starts-sound) in (d.0, d.1 last happens)
