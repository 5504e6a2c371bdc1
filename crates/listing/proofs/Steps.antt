-- What one more pair or slot does to a listing, as the code meets it.
use Rattle.std.proofs.Common.{◌≡◌, ℕ, ◌/◌, ◌<◌, ◌≤◌, Bool, true, false, cond, not, ◌&&◌, eqb, List, [], ◌∷◌, length, sym, refl, ap, ◌∙◌}
use Rattle.std.proofs.Common.{le-leb}
use borrow.Author.Tests.{lt-leb}
use Rattle.model.specs.Slots.{Slot, slot, shown}
use Rattle.model.specs.Reached.{filter}
use Rattle.slots.proofs.Scans.{picked}
use Rattle.listing.specs.declared.Window.{Window}
use Rattle.listing.specs.Taking.{Sheet, written, passed, taken, all_taken, wants, wanted, slot_taken}

-- ---- a pair

pub pair-left : (s : Slot) (x : Sheet) → length x.words / 2 ≤ x.count → passed x ≡ taken s x
unfolding taken
pair-left s x h = ap (λ (b : Bool). cond b (passed x) (written s x)) (sym (le-leb _ _ h))

pub pair-written : (s : Slot) (x : Sheet) → x.count < length x.words / 2 → written s x ≡ taken s x
unfolding taken
pair-written s x h = ap (λ (b : Bool). cond b (passed x) (written s x)) (sym (lt-leb _ _ h))

-- ---- a slot in use

module _ (w : Window) (before k p : ℕ) (x : Sheet) where
  -- the slots of a leaf, one more: what is left to take, from the present sheet
  pub slots-more : (y : Sheet) (ss : List Slot) → y ≡ slot_taken w before k p x → all_taken (wanted w (shown before (slot k p ∷ ss))) x
      ≡ all_taken (wanted w (shown p ss)) y
  unfolding wanted all_taken slot_taken
  slots-more y ss q =
      ap (λ (l : List Slot). all_taken l x) (picked (λ (s : Slot). wants w s.key) before (slot k p) ss)
      ∙ go (not (eqb p before) && wants w k) ∙ ap (all_taken rest) (sym q)
    where
      rest : List Slot
      rest = wanted w (shown p ss)

      go : (b : Bool) → all_taken (cond b (slot k p ∷ rest) rest) x ≡ all_taken rest (cond b (taken (slot k p) x) x)
      go true = refl
      go false = refl

pub slots-none : (w : Window) (before : ℕ) (x : Sheet) → all_taken (wanted w (shown before [])) x ≡ x
unfolding wanted filter all_taken shown
slots-none w before x = refl
