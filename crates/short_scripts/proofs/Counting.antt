-- The bad tables of an action, counted along the numbers of orders that are cut off at.
use Rattle.std.proofs.Common.{◌≡◌, ℕ, zero, suc, Bool, true, false, List, map, length, refl, ap, add-one}
use Rattle.std.specs.List.{filter as filter_listed, range_with_len}
use Rattle.model.specs.Table.{Words}
use Rattle.model.specs.Slots.{Slot}
use Rattle.model.specs.Reached.{filter}
use Rattle.model.specs.Orders.{carried_out}
use Rattle.model.specs.Writes.{numbers}
use Rattle.list_laws.proofs.Filters.{filter-yes, filter-no}
use Rattle.short_scripts.specs.Met.{is_bad, bad_among}

-- ---- the tables of an action

module _ (old new : List Slot) (t l : Words) where
  -- counted along the numbers
  pub counted : (c n : ℕ) → length (filter_listed (λ (k : ℕ). is_bad old new (carried_out k l t)) (range_with_len c n))
      ≡ bad_among old new t l c n
  unfolding bad_among numbers filter
  counted c zero = refl
  counted c (suc n) = go (is_bad old new (carried_out c l t)) refl (counted (suc c) n)
    where
      go : (b : Bool) → is_bad old new (carried_out c l t) ≡ b
          → length (filter_listed (λ (k : ℕ). is_bad old new (carried_out k l t)) (range_with_len (suc c) n))
          ≡ bad_among old new t l (suc c) n
          → length (filter_listed (λ (k : ℕ). is_bad old new (carried_out k l t)) (range_with_len c (suc n)))
          ≡ bad_among old new t l c (suc n)
      go true e h = rw (
        e,
        add-one c,
        filter-yes (is_bad old new) (carried_out c l t) (map (λ (k : ℕ). carried_out k l t) (numbers (suc c) n)) e,
      ) (ap suc h)
      go false e h = rw (
        e,
        add-one c,
        filter-no (is_bad old new) (carried_out c l t) (map (λ (k : ℕ). carried_out k l t) (numbers (suc c) n)) e,
      ) h
