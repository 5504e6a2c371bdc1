-- A history of two collections that may happen, computed: an insertion into 1, one into 2 that is cut after three of its five orders, then
-- a
-- deletion of 1, which finishes what the cut left in 2.
use Rattle.std.proofs.Common.{◌≡◌, ℕ, ◌≤◌, Bool, true, false, List, [], ◌∷◌, length, take, refl, inr, arith}
use mathlib.Core.Option.{some}
use Rattle.model.specs.declared.Answer.TheVariants.{Found, Absent}
use Rattle.std.specs.Prelude.{None}
use Rattle.model.specs.Table.{Words}
use Rattle.model.specs.Orders.{Order}
use Rattle.model.specs.Cuts.{CutImage}
use Rattle.model.specs.Demand3.{whole, cut, History, number_of, answered, event_orders, run_all, MayFrom, May, Stands}
use Rattle.model.proofs.Everything.{everything}
use Rattle.model.specs.SoundTest.{sound, settled}
use Rattle.model.specs.Search.{search}
use Rattle.model.specs.Reached.{maps_of}
use Rattle.model.specs.Writes.{insertion, deletion}
use Rattle.crash_laws.proofs.Images.{values, with_line, image_by, image_of, image_of-image}
use Rattle.crash_laws.proofs.Demand3.{demand3}
use Rattle.crash_laws.proofs.Happens.{event}

abbrev inserted : History
inserted = event (insertion 1 20 102 1) whole ∷ []

-- memory before the cut, and the orders of the insertion that is cut
abbrev before : Words
before = (run_all 2 2 inserted).memory

abbrev orders_cut : List Order
orders_cut = event_orders (run_all 2 2 inserted) (event (insertion 2 20 102 0) whole)

-- the three orders that happened are stores to one line; two of them arrived
abbrev image : Words
image = image_of (λ (l : ℕ). 2) before (take 3 orders_cut)

abbrev cut_short : History
cut_short = event (insertion 2 20 102 0) (cut 3 image) ∷ inserted

abbrev deleted : History
deleted = event (deletion 1 20) whole ∷ cut_short

may-leave : CutImage 0 3 before orders_cut image
may-leave = image_of-image (λ (l : ℕ). 2) before (take 3 orders_cut)

within-list : 3 ≤ answered (run_all 2 2 inserted) (event (insertion 2 20 102 0) whole)
unfolding everything
within-list = omega arith

pub happens : May 2 2 deleted
unfolding MayFrom
happens = (((tt, λ e. tt), λ e. (within-list, may-leave)), λ e. tt)

-- what demand 3 says of it
pub happens-kept : (choose : History → Bool) × Stands choose 2 2 deleted
happens-kept = let d = demand3 2 2 (inr refl) (omega arith) (omega arith) in (d.0, d.1 deleted happens)

-- No call was refused; the image is sound, not settled, and has the pair of 1 and none of 2; the deletion leaves nothing unfinished.
pub record Computed : Type 0 where
  pub all-accepted : (number_of (run_all 2 2 []) (event (insertion 1 20 102 1) whole) ≡ 0)
      × (number_of (run_all 2 2 inserted) (event (insertion 2 20 102 0) (cut 3 image)) ≡ 0)
      × (number_of (run_all 2 2 cut_short) (event (deletion 1 20) whole) ≡ 0)
  pub five-orders : length orders_cut ≡ 5
  pub image-sound : (sound image ≡ true) × (settled image ≡ false)
  pub image-has : (search 1 image 20 ≡ Found 102 1) × (search 2 image 20 ≡ Absent None)
  pub settled-again : settled (run_all 2 2 deleted).memory ≡ true
  pub both-empty : maps_of (run_all 2 2 deleted).memory ≡ record { one = []; two = some [] }

pub computed : Computed
unfolding everything values with_line image_by
computed =
    record {
      all-accepted = (refl, refl, refl);
      five-orders = refl;
      image-sound = (refl, refl);
      image-has = (refl, refl);
      settled-again = refl;
      both-empty = refl;
    }
