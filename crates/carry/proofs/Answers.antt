-- What carry-out answers and leaves, from the tests in their order.
use Rattle.std.proofs.Common.{◌≡◌, ℕ, ◌*◌, ◌/◌, ◌<◌, ◌≤◌, Bool, true, false, ◌&&◌, leb, ◌≢◌, length, take, sym, refl, ◌∙◌, le-leb}
use borrow.Author.Tests.{lt-leb}
use Rattle.std.specs.Prelude.{Ok, Err}
use Rattle.model.specs.declared.Refusal.TheVariants.{BadOrders}
use Rattle.model.specs.Results.{Outcome, refused_with}
use Rattle.model.specs.Table.{Words, header_ok, header_number}
use Rattle.model.specs.Orders.{decode, all_inside, carry, carry_number, carry_out, carried_out}
use Rattle.model.proofs.Numbers.{refused-by}
use Rattle.table_laws.proofs.Header.{header-number-iff, header-number-refused}
use Rattle.wear_laws.proofs.Stored.{decode-take}

-- the answer, and the table left
abbrev Answers : (c : ℕ) (list t : Words) (r : Outcome) (u : Words) → Type 0
Answers c list t r u = (r ≡ carry_out c list t) × (u ≡ carried_out c list t)

module _ (c : ℕ) (list t : Words) where
  pub no-header : header_number t ≢ 0 → Answers c list t (refused_with (header_number t)) t
  unfolding header_number carry_number carry_out carried_out
  no-header z = let h : header_ok t ≡ false = header-number-refused t z in rw h (refl, refl)

  module _ (z : header_number t ≡ 0) where
    ok : header_ok t ≡ true
    ok = (header-number-iff t).0 z

    pub too-many : length list / 2 < c → Answers c list t (Err BadOrders) t
    unfolding carry_number carry_out carried_out
    too-many h = rw (ok, lt-leb c (length list / 2) h) (sym (refused-by BadOrders), refl)

    module _ (h : c ≤ length list / 2) (r : Bool) (q : r ≡ all_inside (length t) (decode (take (2 * c) list))) where
      within : leb c (length list / 2) && all_inside (length t) (take c (decode list)) ≡ r
      within = rw (le-leb c (length list / 2) h, q, decode-take c list)

      pub outside : r ≡ false → Answers c list t (Err BadOrders) t
      unfolding carry_number carry_out carried_out
      outside f = rw (ok, within ∙ f) (sym (refused-by BadOrders), refl)

      pub done : r ≡ true → (u : Words) → u ≡ carry (decode (take (2 * c) list)) t → Answers c list t (Ok tt) u
      unfolding carry_number carry_out carried_out
      done f u g = rw (ok, within ∙ f) (refl, rw (decode-take c list) at g)
