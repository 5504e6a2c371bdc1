-- The call: from any words that it accepts a settled table of the same N with just the kept pairs; a sound table drops nothing and keeps
-- its maps.
use Rattle.std.proofs.Common.{◌≡◌, ℕ, ◌*◌, ◌≤◌, Bool, true, false, not, eqb, ltb, ◌↔◌, [], ◌∷◌, length, refl, ◌∙◌, arith, ltb-false, le-ltb}
use Rattle.std.proofs.Common.{eq-eqb}
use Rattle.std.specs.Prelude.{Ok}
use Rattle.model.specs.Table.{Words, nodes, header_ok}
use Rattle.model.specs.Reached.{maps_of}
use Rattle.model.specs.SoundTest.{settled, sound}
use Rattle.model.specs.Refusals.{test, first_number}
use Rattle.model.specs.Packing.{packed_both, packed_table}
use Rattle.model.specs.Salvage.{kept_maps, outgrows, salvage_number, salvage, salvage_out}
use Rattle.table_laws.proofs.Header.{header-iff}
use Rattle.two_laws.proofs.SearchTwo.{sound-head}
use Rattle.tour_laws.proofs.Sound.{tour-sound}
use Rattle.tour_laws.proofs.Packable.{salvage-settled, sound-fits}

-- no test refuses the call
pub record Passes (t : Words) (out report : ℕ) : Type 0 where
  pub header : header_ok t ≡ true
  pub long : eqb out (length t) ≡ true
  pub roomy : ltb report (36 * nodes t) ≡ false
  pub fits : outgrows t ≡ false

pub passes-iff : (t : Words) (out report : ℕ) → (salvage_number t out report ≡ 0) ↔ Passes t out report
unfolding salvage_number
passes-iff t out report = (
  λ e. go (header_ok t) (eqb out (length t)) (ltb report (36 * nodes t)) (outgrows t) refl refl refl refl e,
  λ u. rw (u.header, u.long, u.roomy, u.fits),
)
  where
    go : (w x y z : Bool) → header_ok t ≡ w → eqb out (length t) ≡ x → ltb report (36 * nodes t) ≡ y → outgrows t ≡ z
        → first_number (test (not w) 2 ∷ test (not x) 15 ∷ test y 16 ∷ test z 10 ∷ []) ≡ 0 → Passes t out report
    go false x y z a b c d h = absurd (omega arith)
    go true false y z a b c d h = absurd (omega arith)
    go true true true z a b c d h = absurd (omega arith)
    go true true false true a b c d h = absurd (omega arith)
    go true true false false a b c d h = record { header = a; long = b; roomy = c; fits = d }

module _ (t out : Words) (report : ℕ) (e : salvage_number t (length out) report ≡ 0) where
  p : Passes t (length out) report
  p = (passes-iff t (length out) report).0 e

  out-is : salvage_out t out report ≡ packed_table (nodes t) (kept_maps t)
  unfolding salvage_out
  out-is = rw e

  enough : packed_both (kept_maps t) ≤ nodes t
  enough = ltb-false (nodes t) (packed_both (kept_maps t)) (unfold outgrows in p.fits)

  both : (settled (packed_table (nodes t) (kept_maps t)) ≡ true) × (maps_of (packed_table (nodes t) (kept_maps t)) ≡ kept_maps t)
  both = salvage-settled t (nodes t) enough ((header-iff t).0 p.header).size.few

  -- A new settled table.
  pub salvaged-settled : settled (salvage_out t out report) ≡ true
  salvaged-settled = rw out-is both.0

  -- Of the same N.
  pub salvaged-nodes : nodes (salvage_out t out report) ≡ nodes t
  salvaged-nodes = rw out-is (unfold packed_table in refl)

  -- Each collection's map is just its kept pairs; a collection that was lacking is lacking.
  pub salvaged-maps : maps_of (salvage_out t out report) ≡ kept_maps t
  salvaged-maps = rw out-is both.1

module _ (t out : Words) (report : ℕ) (s : sound t ≡ true) (l : length out ≡ length t) (r : 36 * nodes t ≤ report) where
  sound-passes : salvage_number t (length out) report ≡ 0
  sound-passes =
      (passes-iff t (length out) report).1
      (record {
        header = sound-head t s;
        long = eq-eqb (length out) (length t) l;
        roomy = le-ltb report (36 * nodes t) r;
        fits = unfold outgrows in le-ltb (nodes t) (packed_both (kept_maps t)) (sound-fits t s);
      })

  -- A sound table drops nothing.
  pub sound-drops-none : salvage t (length out) report ≡ Ok 0
  unfolding salvage
  sound-drops-none = rw (sound-passes, (tour-sound t s).1)

  -- It gives the same maps.
  pub sound-same-maps : maps_of (salvage_out t out report) ≡ maps_of t
  sound-same-maps = salvaged-maps t out report sound-passes ∙ (tour-sound t s).0
