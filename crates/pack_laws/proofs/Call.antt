-- Packing as a call: where it is accepted the table is settled, and its maps are exactly the pairs; a refusal leaves the table as it was.
use Rattle.std.proofs.Common.{◌≡◌, ℕ, zero, suc, ◌≤◌, Bool, true, false, not, List, [], ◌∷◌, length, refl, arith, ltb-false}
use mathlib.Core.Option.{some}
use Rattle.model.specs.Table.{Words, nodes_for, make_number}
use Rattle.model.specs.Slots.{Slot}
use Rattle.model.specs.Reached.{Maps, maps_of}
use Rattle.model.specs.SoundTest.{settled, rising, recordings_ok}
use Rattle.model.specs.Refusals.{unless_refused, test, first_number}
use Rattle.model.specs.Packing.{of_second, packed_both, packed_table}
use Rattle.model.specs.Pack.{pairs_ok, maps_in, maps_ok, outgrown, pack_number, pack_out}
use Rattle.list_laws.proofs.Tools.{and-iff}
use Rattle.table_laws.proofs.Making.{makes}
use Rattle.pack_laws.proofs.Packed.{Packable}
use Rattle.pack_laws.proofs.Fresh.{packed-settled, packed-maps}

-- ---- what the tests tell

ok-packable : (ps : List Slot) → pairs_ok ps ≡ true → Packable ps
unfolding pairs_ok
ok-packable ps h = let u = (and-iff (rising 0 ps) (recordings_ok ps)).0 h in record { rise = u.0; recordings = u.1 }

module _ (m : Maps) (h : maps_ok m ≡ true) where
  parts-ok : (pairs_ok m.one ≡ true) × (of_second true pairs_ok m.two ≡ true)
  unfolding maps_ok
  parts-ok = (and-iff (pairs_ok m.one) (of_second true pairs_ok m.two)).0 h

  second-packable : (qs : List Slot) → m.two ≡ some qs → Packable qs
  second-packable qs e = ok-packable qs (rw e at parts-ok.1)

-- no test holds
pub record Accepted (n : ℕ) (pairs loans t : Words) : Type 0 where
  pub make : make_number n t ≡ 0
  pub fits : packed_both (maps_in n pairs loans) ≤ nodes_for (length t)
  pub ok : maps_ok (maps_in n pairs loans) ≡ true

pub accepted : (n : ℕ) (pairs loans t : Words) → pack_number n pairs loans t ≡ 0 → Accepted n pairs loans t
unfolding pack_number
accepted n pairs loans t z =
    go (make_number n t) (outgrown (length t) (maps_in n pairs loans)) (maps_ok (maps_in n pairs loans)) refl refl refl z
  where
    go : (k : ℕ) (a b : Bool) → make_number n t ≡ k → outgrown (length t) (maps_in n pairs loans) ≡ a → maps_ok (maps_in n pairs loans) ≡ b
        → unless_refused k (first_number (test a 10 ∷ test (not b) 25 ∷ [])) k ≡ 0 → Accepted n pairs loans t
    go zero true b p q r e = absurd (omega (arith, e))
    go zero false true p q r e = record { make = p; fits = ltb-false _ _ q; ok = r }
    go zero false false p q r e = absurd (omega (arith, e))
    go (suc k) a b p q r e = absurd (omega (arith, e))

-- ---- what the call leaves

module _ (n : ℕ) (pairs loans t : Words) where
  -- Nothing is written on a refusal.
  pub pack-refused : (k : ℕ) → pack_number n pairs loans t ≡ suc k → pack_out n pairs loans t ≡ t
  unfolding pack_out
  pack-refused k e = rw e

  module _ (z : pack_number n pairs loans t ≡ 0) where
    abbrev m : Maps
    m = maps_in n pairs loans

    a : Accepted n pairs loans t
    a = accepted n pairs loans t z

    high : nodes_for (length t) ≤ 65535
    high = (makes n t a.make).size.few

    out-is : pack_out n pairs loans t ≡ packed_table (nodes_for (length t)) m
    unfolding pack_out
    out-is = rw z

    -- The table is settled.
    pub pack-settled : settled (pack_out n pairs loans t) ≡ true
    pack-settled = rw out-is
        (packed-settled (nodes_for (length t)) m a.fits high (ok-packable m.one (parts-ok m a.ok).0) (second-packable m a.ok))

    -- Its maps are exactly these pairs: those of the first slice and, for two collections, of the second.
    pub pack-maps : maps_of (pack_out n pairs loans t) ≡ maps_in n pairs loans
    pack-maps = rw out-is
        (packed-maps (nodes_for (length t)) m a.fits high (ok-packable m.one (parts-ok m a.ok).0) (second-packable m a.ok))
