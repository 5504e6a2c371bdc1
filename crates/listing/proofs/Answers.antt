-- What a listing answers and leaves, from the tests in their order.
use Rattle.std.proofs.Common.{◌≡◌, ℕ, Bool, true, false, cond, ◌≢◌, sym, refl, ◌∙◌, arith, ne_eqb}
use Rattle.std.specs.Prelude.{Ok}
use Rattle.model.specs.Results.{Listed, refused_with, page_with}
use Rattle.model.specs.Table.{Words, at, root_word, header_ok, no_collection}
use Rattle.model.specs.Slots.{view_from, view}
use Rattle.model.specs.Reached.{map_of}
use Rattle.model.specs.SoundTest.{sound}
use Rattle.model.specs.Listing.{in_range_of, list_number, list, list_out}
use Rattle.model.specs.Writes.{standing_in, standing}
use Rattle.two_laws.proofs.CollectionTwo.{collection-sound}
use Rattle.node.specs.Word.{number_in, found_root}
use Rattle.node.proofs.Roots.{found-there}
use Rattle.model.specs.declared.Page.{Page}
use Rattle.listing.specs.Taking.{sheet, begun, all_taken, pairs_from}
use Rattle.listing.proofs.Pairs.{all-listed}
use Rattle.listing.proofs.Leaves.{map-pairs}

module _ (i : ℕ) (t : Words) (low high : ℕ) (out : Words) where
  -- the answer, and the lent slice then
  abbrev Answers : Listed → Words → Type 0
  Answers r u = (r ≡ list i t low high out) × (u ≡ list_out i t low high out)

  refused : (n : ℕ) → n ≡ list_number i t → n ≢ 0 → Answers (refused_with n) out
  unfolding list list_out
  refused n e z = rw (← e, ne_eqb n 0 z) (refl, refl)

  -- 2 and 17
  pub no-collection : number_in i t ≢ 0 → Answers (refused_with (number_in i t)) out
  unfolding list_number number_in
  no-collection z = refused (number_in i t) (go (header_ok t) (no_collection i t) z) z
    where
      go : (a b : Bool) → cond {A = ℕ} a (cond b 17 0) 2 ≢ 0
          → ◌≡◌ {A = ℕ} (cond a (cond b 17 0) 2) (cond a (cond b 17 (cond (sound t) 0 4)) 2)
      go true true q = refl
      go true false q = absurd (q refl)
      go false b q = refl

  -- from the collection's root on
  module _ {r : ℕ} (e : found_root i t ≡ Ok r) where
    number-sound : list_number i t ≡ cond (sound t) 0 4
    unfolding list_number
    number-sound = let u = found-there i t e in rw (u.0, u.1)

    pub not-sound : sound t ≡ false → Answers (refused_with 4) out
    not-sound f = refused 4 (sym (number-sound ∙ rw f)) (λ y. omega (arith, y))

    pub done : (p : Page) (u : Words) (n : ℕ) → sound t ≡ true → n ≡ standing_in (view_from t r) 0 low
        → sheet u p ≡ all_taken (pairs_from (view t) low high n) (begun out) → Answers (page_with p.count p.more) u
    unfolding list list_out
    done p u n h s w =
        let there = found-there i t e in
        let here : n ≡ standing i t 0 low = rw there.2 at s in
        let pairs = map-pairs t (at t (root_word i)) low high n (collection-sound i t h there.1) here in
        let both = all-listed (in_range_of low high (map_of i t)) out u p (rw pairs at w) in
        let g : list_number i t ≡ 0 = number-sound ∙ rw h in
        rw g both
