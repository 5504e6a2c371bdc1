-- How many pairs are told to be new: one width asked for after another.
use Rattle.std.proofs.Common.{◌≡◌, ℕ, zero, suc, ◌+◌, ◌-◌, ◌/◌, ◌<◌, ◌≤◌, Bool, true, false, length, sym, refl, ◌∙◌, arith, le-ltb, lt-ltb}
use Rattle.model.specs.Table.{Words, at, root_word}
use Rattle.model.specs.Slots.{View, view_from}
use Rattle.clear.specs.New.{are_new}
use Rattle.insert_many.specs.Going.{new_width, new_end}

-- from this width on it comes to w, with fuel enough
pub record Widths (v : View) (pairs : Words) (i width w : ℕ) : Type 0 where
  pub fuel : ℕ
  pub enough : width ≤ fuel
  pub comes-to : new_width v pairs i fuel width ≡ w

pub widths-start : (v : View) (pairs : Words) (i width : ℕ) → Widths v pairs i width (new_width v pairs i width width)
widths-start v pairs i width = record { fuel = width; enough = omega arith; comes-to = refl }

module _ {v : View} {pairs : Words} {i width w : ℕ} (k : Widths v pairs i width w) where
  pub widths-none : width ≤ 1 → 0 ≡ w
  unfolding new_width
  widths-none h = sym (go k.fuel) ∙ k.comes-to
    where
      go : (f : ℕ) → new_width v pairs i f width ≡ 0
      go zero = refl
      go (suc f) = rw (le-ltb 1 width h, new_width)

  module _ (h : 1 < width) (b : Bool) (e : b ≡ are_new v pairs i (i + width)) where
    pub widths-told : b ≡ true → width ≡ w
    unfolding new_width
    widths-told q = sym (go k.fuel k.enough) ∙ k.comes-to
      where
        go : (f : ℕ) → width ≤ f → new_width v pairs i f width ≡ width
        go zero m = absurd (omega arith)
        go (suc f) m = rw (lt-ltb 1 width h, sym e ∙ q, new_width)

    pub widths-half : b ≡ false → Widths v pairs i (width / 2) w
    unfolding new_width
    widths-half q = go k.fuel k.enough k.comes-to
      where
        go : (f : ℕ) → width ≤ f → new_width v pairs i f width ≡ w → Widths v pairs i (width / 2) w
        go zero m c = absurd (omega arith)
        go (suc f) m c = record { fuel = f; enough = omega arith; comes-to = sym (rw (lt-ltb 1 width h, sym e ∙ q, new_width)) ∙ c }

-- ---- where they end

module _ (n : ℕ) (t pairs : Words) (i end : ℕ) where
  pub end-before : i < end → end ≡ new_end n t pairs i end
  unfolding new_end
  end-before h = rw (lt-ltb i end h)

  pub end-told : end ≤ i → (r w : ℕ) → r ≡ at t (root_word n) → w
      ≡ new_width (view_from t r) pairs i (length pairs / 2 - i) (length pairs / 2 - i) → i + w ≡ new_end n t pairs i end
  unfolding new_end
  end-told h r w q e = rw (le-ltb i end h, e, q)

  pub end-none : end ≤ i → (r : ℕ) → r ≡ at t (root_word n) → 0
      ≡ new_width (view_from t r) pairs i (length pairs / 2 - i) (length pairs / 2 - i) → i ≡ new_end n t pairs i end
  end-none h r q e = let z : i ≡ i + 0 = omega arith in z ∙ end-told h r 0 q e
