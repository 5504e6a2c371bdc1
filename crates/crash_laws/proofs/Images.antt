-- Every way in which a cut may fall has its image: of each line some part of its later stores that may arrive on the dock.
use Rattle.std.proofs.Common.{◌≡◌, ℕ, zero, suc, ◌<◌, ◌≤◌, Bool, true, false, ltb, List, [], ◌∷◌, length, take, sym, refl, ap, ◌∙◌, inr}
use Rattle.std.proofs.Common.{arith, ltb-false, ltb-true}
use lib.ListN.{get_or-eq_default}
use Rattle.model.specs.Table.{Words, at, line}
use Rattle.model.specs.Orders.{Store, Order, apply, carry}
use Rattle.model.specs.Cuts.{up_to_flush, since_flush, line_stores, later_stores, to_barrier, choice, MayArrive, Image}
use Rattle.cut_laws.proofs.Applying.{length-apply, length-carry}

-- the first n values of g
unfoldable pub values : (n : ℕ) → (ℕ → ℕ) → Words
values zero g = []
values (suc n) g = g 0 ∷ values n (λ i. g (suc i))

values-length : (n : ℕ) (g : ℕ → ℕ) → length (values n g) ≡ n
unfolding values
values-length zero g = refl
values-length (suc n) g = ap suc (values-length n (λ i. g (suc i)))

values-at : (n : ℕ) (g : ℕ → ℕ) (i : ℕ) → i < n → at (values n g) i ≡ g i
unfolding values
values-at zero g i h = absurd (omega arith)
values-at (suc n) g zero h = refl
values-at (suc n) g (suc i) h = values-at n (λ i. g (suc i)) i (omega arith)

-- each line with this part of its later stores
module _ (part : ℕ → List Store) (t : Words) (os : List Order) where
  -- a table whose line l is as the image's: what it held at its last flush, and its part of the later stores to it
  unfoldable pub with_line : ℕ → Words
  with_line l = apply (part l) (carry (up_to_flush l os) t)

  abbrev word_of : ℕ → ℕ
  word_of w = at (with_line (line w)) w

  unfoldable pub image_by : Words
  image_by = values (length t) word_of

  line-length : (l : ℕ) → length (with_line l) ≡ length t
  unfolding with_line
  line-length l = length-apply (part l) (carry (up_to_flush l os) t) ∙ length-carry (up_to_flush l os) t

  image-word : (l w : ℕ) → line w ≡ l → at image_by w ≡ at (with_line l) w
  unfolding image_by
  image-word l w e = go (ltb w (length t)) refl
    where
      go : (b : Bool) → ltb w (length t) ≡ b → at (values (length t) word_of) w ≡ at (with_line l) w
      go true h = values-at (length t) word_of w (ltb-true w (length t) h) ∙ rw e
      go false h =
          let past : length t ≤ w = ltb-false w (length t) h in
          get_or-eq_default (values (length t) word_of) 0 (rw values-length past)
          ∙ sym (get_or-eq_default (with_line l) 0 (rw (line-length l) past))

  image_by-image : (dock : ℕ) → ((l : ℕ) → MayArrive dock l os (part l)) → Image dock t os image_by
  unfolding image_by with_line
  image_by-image dock may = record { long = values-length (length t) word_of; lines = λ l. (part l, may l, image-word l) }

-- on dock 0: so many of each line's later stores
module _ (arrived : ℕ → ℕ) (t : Words) (os : List Order) where
  abbrev pub image_of : Words
  image_of = image_by (λ (l : ℕ). take (arrived l) (later_stores l os)) t os

  pub image_of-image : Image 0 t os (image_by (λ (l : ℕ). take (arrived l) (later_stores l os)) t os)
  image_of-image = image_by-image (λ (l : ℕ). take (arrived l) (later_stores l os)) t os 0 (λ l. (arrived l, refl))

-- on dock 1: of each line a choice of its later stores up to the first barrier
module _ (marks : ℕ → List Bool) (t : Words) (os : List Order) where
  abbrev chosen : ℕ → List Store
  chosen l = choice (marks l) (line_stores l (to_barrier (since_flush l os)))

  abbrev pub image_with : Words
  image_with = image_by (λ (l : ℕ). choice (marks l) (line_stores l (to_barrier (since_flush l os)))) t os

  pub image_with-image : Image 1 t os (image_by (λ (l : ℕ). choice (marks l) (line_stores l (to_barrier (since_flush l os)))) t os)
  unfolding line_stores
  image_with-image =
      image_by-image chosen t os 1
      (λ l. record { before = []; rest = since_flush l os; marks = marks l; parted = refl; up-to = inr refl; holds = refl })
