-- What one order comes to.
use Rattle.std.proofs.Common.{◌≡◌, ℕ, true, false, [], ◌∷◌, sym, refl, ◌∙◌}
use mathlib.Core.Option.{Option, none, some}
use Rattle.std.specs.Prelude.{Option as Known, Some}
use Rattle.model.specs.Table.{Words}
use Rattle.model.specs.Reached.{Maps}
use Rattle.model.specs.Orders.{Order, flush, barrier, carry}
use Rattle.model.specs.Judge.{good_image, unflushed_after, second_line}
use Rattle.judge.specs.Wanted.{line_of, Holds}

-- ---- one order more

module _ (old new : Maps) (l : Option ℕ) (o : Order) (u : Words) (g : good_image old new u ≡ true) (u' : Words)
    (c : u' ≡ carry (o ∷ []) u) where
  -- a flush or a barrier leaves the image
  same-flush : (k : ℕ) → o ≡ flush k → u' ≡ u
  unfolding carry
  same-flush k e = c ∙ rw e

  same-barrier : o ≡ barrier → u' ≡ u
  unfolding carry
  same-barrier e = c ∙ rw e

  none-second : (l : Option ℕ) (k : ℕ) → second_line l (flush k) ≡ false
  none-second none k = refl
  none-second (some l) k = refl

  none-barred : (l : Option ℕ) → second_line l barrier ≡ false
  none-barred none = refl
  none-barred (some l) = refl

  barred-line : (l : Option ℕ) → unflushed_after l barrier ≡ l
  barred-line none = refl
  barred-line (some l) = refl

  pub holds-flush : (k : ℕ) (n : Known ℕ) → o ≡ flush k → line_of n ≡ unflushed_after l (flush k) → Holds old new l o u' (Some n)
  holds-flush k n e q = record {
    is-held = sym (rw (same-flush k e, g, e, none-second l k));
    line-is = λ m s. let same : m ≡ n = cc in rw (same, e) q;
  }

  pub holds-barrier : (n : Known ℕ) → o ≡ barrier → line_of n ≡ l → Holds old new l o u' (Some n)
  holds-barrier n e q = record {
    is-held = sym (rw (same-barrier e, g, e, none-barred l));
    line-is = λ m s. let same : m ≡ n = cc in rw (same, e) (q ∙ sym (barred-line l));
  }
