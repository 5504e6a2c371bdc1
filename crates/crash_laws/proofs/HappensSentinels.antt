-- A history with sentinels that may happen, computed: an insertion whole, one cut after three of its seven orders, both with true words; a
-- deletion with four words, refused; and that deletion with three words that are not true, which finishes what the cut left.
use Rattle.std.proofs.Common.{◌≡◌, ℕ, ◌≤◌, Bool, true, false, List, [], ◌∷◌, take, replicate, refl, inl, arith}
use mathlib.Core.Option.{some}
use Rattle.model.specs.declared.Answer.TheVariants.{Found}
use Rattle.model.specs.Table.{MARK, Words}
use Rattle.model.specs.Search.{search}
use Rattle.model.specs.Reached.{map_of}
use Rattle.model.specs.SoundTest.{settled}
use Rattle.model.specs.Orders.{Order}
use Rattle.model.specs.Cuts.{CutImage}
use Rattle.model.specs.Writes.{Call, insertion, deletion}
use Rattle.model.specs.Sentinels.{sentinels, sentinels_with}
use Rattle.model.specs.Demand3.{Fate, whole, cut, Event, History, number_of, answered, event_orders, run_all, MayFrom, May, Stands}
use Rattle.model.proofs.Everything.{everything}
use Rattle.crash_laws.proofs.Images.{values, with_line, image_by, image_of, image_of-image}
use Rattle.crash_laws.proofs.Demand3.{demand3}

-- a call that takes these words, with an order list of 2,560 words for dock 0, and its fate
abbrev taking : Words → Call → Fate → Event
taking ws x f = record { call = x; lent = replicate 2560 0; dock = 0; slice = some ws; fate = f }

-- the words of one leaf with no key, and with key 20
abbrev no_key : Words
no_key = MARK ∷ MARK ∷ MARK ∷ []

abbrev one_key : Words
one_key = 20 ∷ MARK ∷ MARK ∷ []

abbrev inserted : History
inserted = taking no_key (insertion 1 20 102 1) whole ∷ []

-- memory before the cut, and the orders of the insertion that is cut
abbrev before : Words
before = (run_all 1 1 inserted).memory

abbrev orders_cut : List Order
orders_cut = event_orders (run_all 1 1 inserted) (taking one_key (insertion 1 10 101 0) whole)

-- the three orders that happened are stores to one line; two of them arrived
abbrev image : Words
image = image_of (λ (l : ℕ). 2) before (take 3 orders_cut)

abbrev cut_short : History
cut_short = taking one_key (insertion 1 10 101 0) (cut 3 image) ∷ inserted

abbrev too_many : History
too_many = taking (replicate 4 0) (deletion 1 20) whole ∷ cut_short

abbrev deleted : History
deleted = taking (replicate 3 7) (deletion 1 20) whole ∷ too_many

may-leave : CutImage 0 3 before orders_cut image
may-leave = image_of-image (λ (l : ℕ). 2) before (take 3 orders_cut)

within-list : 3 ≤ answered (run_all 1 1 inserted) (taking one_key (insertion 1 10 101 0) whole)
unfolding everything
within-list = omega arith

pub happens : May 1 1 deleted
unfolding MayFrom
happens = ((((tt, λ e. tt), λ e. (within-list, may-leave)), λ e. tt), λ e. tt)

-- what demand 3 says of it
pub happens-kept : (choose : History → Bool) × Stands choose 1 1 deleted
happens-kept = let d = demand3 1 1 (inl refl) (omega arith) (omega arith) in (d.0, d.1 deleted happens)

-- Four words are refused with 19 and change nothing, any three are not; the words that the first insertion leaves are true, and those of
-- the
-- image are worked out anew; the deletion sets all words of the one node.
pub record Computed : Type 0 where
  pub accepted : (number_of (run_all 1 1 []) (taking no_key (insertion 1 20 102 1) whole) ≡ 0)
      × (number_of (run_all 1 1 inserted) (taking one_key (insertion 1 10 101 0) (cut 3 image)) ≡ 0)
      × (number_of (run_all 1 1 too_many) (taking (replicate 3 7) (deletion 1 20) whole) ≡ 0)
  pub nineteen : number_of (run_all 1 1 cut_short) (taking (replicate 4 0) (deletion 1 20) whole) ≡ 19
  pub still-there : (search 1 (run_all 1 1 too_many).memory 20 ≡ Found 102 1) × (settled (run_all 1 1 too_many).working ≡ false)
  pub stay-true : (sentinels_with (insertion 1 20 102 1) no_key 2560 0 (run_all 1 1 []).working ≡ one_key) × (sentinels before ≡ one_key)
      × (sentinels image ≡ one_key)
  pub set-anew : sentinels_with (deletion 1 20) (replicate 3 7) 2560 0 image ≡ no_key
  pub gone : map_of 1 (run_all 1 1 deleted).memory ≡ []
  pub settled-again : settled (run_all 1 1 deleted).memory ≡ true

pub computed : Computed
unfolding everything values with_line image_by
computed =
    record {
      accepted = (refl, refl, refl);
      nineteen = refl;
      still-there = (refl, refl);
      stay-true = (refl, refl, refl);
      set-anew = refl;
      gone = refl;
      settled-again = refl;
    }
