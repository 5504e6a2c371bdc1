-- A history over both docks that may happen, computed: an insertion whole, one cut after five of its thirteen orders, both on dock 1, then
-- a
-- deletion on dock 0, which finishes what the cut left.
use Rattle.std.proofs.Common.{◌≡◌, ℕ, ◌≤◌, Bool, true, false, List, [], ◌∷◌, length, take, replicate, sym, refl, inl, arith}
use mathlib.Core.Option.{none}
use Rattle.model.specs.declared.Answer.TheVariants.{Found, Absent}
use Rattle.std.specs.Prelude.{Some}
use Rattle.model.specs.Table.{Words, empty_of}
use Rattle.model.specs.Search.{search}
use Rattle.model.specs.Reached.{map_of}
use Rattle.model.specs.SoundTest.{settled, sound}
use Rattle.model.specs.Orders.{Order, orders}
use Rattle.model.specs.Cuts.{CutImage}
use Rattle.model.specs.Writes.{Call, insertion, deletion, stores_of}
use Rattle.model.specs.Refusals.{orders_of}
use Rattle.model.specs.Demand3.{Fate, whole, cut, Event, History, number_of, answered, event_orders, run_all, MayFrom, May, Stands}
use Rattle.model.proofs.Everything.{everything}
use Rattle.cut_laws.proofs.Docks.{barred-images}
use Rattle.crash_laws.proofs.Images.{values, with_line, image_by, image_of, image_of-image}
use Rattle.crash_laws.proofs.Demand3.{listed-all, along, empty-sound, demand3}

-- a call with an order list of 5,120 words for a dock, and its fate
abbrev on : (dock : ℕ) → Call → Fate → Event
on dock x f = record { call = x; lent = replicate 5120 0; dock = dock; slice = none; fate = f }

abbrev inserted : History
inserted = on 1 (insertion 1 20 102 1) whole ∷ []

-- memory before the cut, and the orders of the insertion that is cut
abbrev before : Words
before = (run_all 1 1 inserted).memory

abbrev orders_cut : List Order
orders_cut = event_orders (run_all 1 1 inserted) (on 1 (insertion 1 10 101 0) whole)

-- of the five orders that happened three are stores to one line; two of them arrived
abbrev image : Words
image = image_of (λ (l : ℕ). 2) before (take 5 orders_cut)

abbrev cut_short : History
cut_short = on 1 (insertion 1 10 101 0) (cut 5 image) ∷ inserted

abbrev deleted : History
deleted = on 0 (deletion 1 20) whole ∷ cut_short

-- they are the orders of its stores
abbrev own : List Order
own = orders_of (insertion 1 10 101 0) 1 (run_all 1 1 inserted).working

accepted : number_of (run_all 1 1 inserted) (on 1 (insertion 1 10 101 0) whole) ≡ 0
unfolding everything
accepted = refl

own-orders : orders_cut ≡ own
unfolding MayFrom
own-orders =
    let b = along (empty_of 1 1) (empty-sound 1 1 (inl refl) (omega arith) (omega arith)) inserted (tt, λ e. tt) in
    listed-all (run_all 1 1 inserted) (on 1 (insertion 1 10 101 0) whole) b.0 b.1 accepted

of-same : (dock : ℕ) (t : Words) (a b : List Order) (m : Words) → a ≡ b → CutImage dock 5 t b m → CutImage dock 5 t a m
of-same dock t a b m e i = rw e i

may-leave : CutImage 1 5 before orders_cut image
may-leave =
    of-same 1 before orders_cut own image own-orders
    ((barred-images 1 5 before (orders (stores_of (insertion 1 10 101 0) (run_all 1 1 inserted).working)) image).1
    (of-same 0 before own orders_cut image (sym own-orders) (image_of-image (λ (l : ℕ). 2) before (take 5 orders_cut))))

within-list : 5 ≤ answered (run_all 1 1 inserted) (on 1 (insertion 1 10 101 0) whole)
unfolding everything
within-list = omega arith

pub happens : May 1 1 deleted
unfolding MayFrom
happens = (((tt, λ e. tt), λ e. (within-list, may-leave)), λ e. tt)

-- what demand 3 says of it
pub happens-kept : (choose : History → Bool) × Stands choose 1 1 deleted
happens-kept = let d = demand3 1 1 (inl refl) (omega arith) (omega arith) in (d.0, d.1 deleted happens)

-- No call was refused; a third dock is; the image is sound, not settled, and still has the first pair; the deletion takes it and leaves
-- nothing unfinished.
pub record Computed : Type 0 where
  pub all-accepted : (number_of (run_all 1 1 []) (on 1 (insertion 1 20 102 1) whole) ≡ 0)
      × (number_of (run_all 1 1 inserted) (on 1 (insertion 1 10 101 0) (cut 5 image)) ≡ 0)
      × (number_of (run_all 1 1 cut_short) (on 0 (deletion 1 20) whole) ≡ 0)
  pub no-third : number_of (run_all 1 1 cut_short) (on 2 (deletion 1 20) whole) ≡ 18
  pub thirteen-orders : length orders_cut ≡ 13
  pub image-sound : (sound image ≡ true) × (settled image ≡ false)
  pub image-has : (search 1 image 20 ≡ Found 102 1) × (search 1 image 10 ≡ Absent (Some 20))
  pub gone : map_of 1 (run_all 1 1 deleted).memory ≡ []
  pub settled-again : settled (run_all 1 1 deleted).memory ≡ true

pub computed : Computed
unfolding everything values with_line image_by
computed =
    record {
      all-accepted = (refl, refl, refl);
      no-third = refl;
      thirteen-orders = refl;
      image-sound = (refl, refl);
      image-has = (refl, refl);
      gone = refl;
      settled-again = refl;
    }
