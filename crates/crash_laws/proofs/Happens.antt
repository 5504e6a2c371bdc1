-- A history that may happen, computed: an insertion whole, one cut after three of its seven orders, then a class change and a deletion on
-- what was reloaded.
use Rattle.std.proofs.Common.{◌≡◌, ℕ, ◌≤◌, Bool, true, false, List, [], ◌∷◌, length, take, replicate, refl, inl, arith}
use mathlib.Core.Option.{none}
use Rattle.model.specs.declared.Answer.TheVariants.{Found, Absent}
use Rattle.std.specs.Prelude.{Some, None}
use Rattle.model.specs.Table.{Words}
use Rattle.model.specs.Search.{search}
use Rattle.model.specs.SoundTest.{settled, sound}
use Rattle.model.specs.Orders.{Order}
use Rattle.model.specs.Cuts.{CutImage}
use Rattle.model.specs.Writes.{Call, insertion, deletion, class_change}
use Rattle.model.specs.Demand3.{Fate, whole, cut, Event, History, number_of, answered, event_orders, run_all, MayFrom, May, Stands}
use Rattle.model.proofs.Everything.{everything}
use Rattle.crash_laws.proofs.Images.{values, with_line, image_by, image_of, image_of-image}
use Rattle.crash_laws.proofs.Demand3.{demand3}

-- a call with an order list of 2,560 words for dock 0, and its fate
abbrev pub event : Call → Fate → Event
event x f = record { call = x; lent = replicate 2560 0; dock = 0; slice = none; fate = f }

abbrev pub inserted : History
inserted = event (insertion 1 20 102 1) whole ∷ []

-- memory before the cut, and the orders of the insertion that is cut
abbrev pub before : Words
before = (run_all 1 1 inserted).memory

abbrev pub orders_cut : List Order
orders_cut = event_orders (run_all 1 1 inserted) (event (insertion 1 10 101 0) whole)

-- the three orders that happened are stores to one line; two of them arrived
abbrev pub image : Words
image = image_of (λ (l : ℕ). 2) before (take 3 orders_cut)

abbrev pub cut_short : History
cut_short = event (insertion 1 10 101 0) (cut 3 image) ∷ inserted

abbrev pub closed : History
closed = event (class_change 1 20 2) whole ∷ cut_short

abbrev pub deleted : History
deleted = event (deletion 1 20) whole ∷ closed

may-leave : CutImage 0 3 before orders_cut image
may-leave = image_of-image (λ (l : ℕ). 2) before (take 3 orders_cut)

within-list : 3 ≤ answered (run_all 1 1 inserted) (event (insertion 1 10 101 0) whole)
unfolding everything
within-list = omega arith

pub happens : May 1 1 deleted
unfolding MayFrom
happens = ((((tt, λ e. tt), λ e. (within-list, may-leave)), λ e. tt), λ e. tt)

-- what demand 3 says of it
pub happens-kept : (choose : History → Bool) × Stands choose 1 1 deleted
happens-kept = let d = demand3 1 1 (inl refl) (omega arith) (omega arith) in (d.0, d.1 deleted happens)

-- No call was refused; the image is sound, not settled, and still has the first pair; the class change gives it its class and leaves
-- nothing unfinished; the deletion takes it.
pub record Computed : Type 0 where
  pub all-accepted : (number_of (run_all 1 1 []) (event (insertion 1 20 102 1) whole) ≡ 0)
      × (number_of (run_all 1 1 inserted) (event (insertion 1 10 101 0) (cut 3 image)) ≡ 0)
      × (number_of (run_all 1 1 cut_short) (event (class_change 1 20 2) whole) ≡ 0)
      × (number_of (run_all 1 1 closed) (event (deletion 1 20) whole) ≡ 0)
  pub seven-orders : length orders_cut ≡ 7
  pub image-sound : (sound image ≡ true) × (settled image ≡ false)
  pub image-has : (search 1 image 20 ≡ Found 102 1) × (search 1 image 10 ≡ Absent (Some 20))
  pub reloaded : ((run_all 1 1 cut_short).memory ≡ image) × ((run_all 1 1 cut_short).working ≡ image)
  pub changed : (search 1 (run_all 1 1 closed).memory 20 ≡ Found 102 2) × (settled (run_all 1 1 closed).memory ≡ true)
  pub gone : search 1 (run_all 1 1 deleted).memory 20 ≡ Absent None
  pub settled-again : settled (run_all 1 1 deleted).memory ≡ true

pub computed : Computed
unfolding everything values with_line image_by
computed =
    record {
      all-accepted = (refl, refl, refl, refl);
      seven-orders = refl;
      image-sound = (refl, refl);
      image-has = (refl, refl);
      reloaded = (refl, refl);
      changed = (refl, refl);
      gone = refl;
      settled-again = refl;
    }
