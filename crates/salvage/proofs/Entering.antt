-- The two tours: their slices made ready, and the nodes entered for each collection.
use Rattle.std.proofs.Common.{◌≡◌, ℕ, ◌+◌, ◌-◌, ◌≤◌, true, List, ◌++◌, length, take, drop, replicate, sym, refl, ap, ◌∙◌, arith}
use Rattle.std.proofs.Common.{length-drop, length-take-le, take-take, take_at, drop_at}
use Rattle.std.proofs.lemmas.List.{drop-take}
use Rattle.model.specs.Table.{Words, at, nodes, in_range, header_ok}
use Rattle.model.specs.SoundTest.{all, elem, distinct}
use Rattle.model.specs.Salvage.{entered_from, entered}
use Rattle.list_laws.proofs.Tools.{Each-map, all-each}
use Rattle.list_laws.proofs.Distinct.{UpTo}
use Rattle.table_laws.proofs.Header.{header-iff}
use Rattle.tree_laws.proofs.Rows.{range-iff}
use Rattle.tour_laws.proofs.Recursion.{first-numbers}
use Rattle.bits.proofs.Marks.{none-marked}
use Rattle.tour.specs.Loop.{Marked}
use Rattle.salvage.specs.Parts.{Toured}
use Rattle.tour.specs.Loop as tour-loop

pub header-size : (t : Words) → header_ok t ≡ true → (8 ≤ length t) × (nodes t ≤ 65535)
header-size t h = let f = ((header-iff t).0 h).size in (let a = f.long in omega arith, f.few)

module _ (t os : Words) (h : header_ok t ≡ true) (l : length os ≡ 65536) where
  -- nothing is entered yet
  pub first-ready : tour-loop.Ready t (replicate 1024 0) os 0
  first-ready = record {
    header = h;
    few = omega arith;
    apart = unfold distinct in refl;
    range = unfold all in refl;
    marked = λ i r. none-marked 1024 i ∙ (unfold elem in refl);
  }

  module _ (o₁ : Words) (first : ℕ) (long : length o₁ ≡ length os) (e : take first o₁ ≡ take 0 os ++ entered_from t (at t 1) (take 0 os))
      (f : first ≤ nodes t) where
    one : take first o₁ ≡ entered 1 t
    unfolding entered
    one = e

    one-long : length (entered 1 t) ≡ first
    one-long = let a = ((header-iff t).0 h).size.few in sym (ap length one) ∙ length-take-le first o₁ (omega (arith, a))

    -- collection 1's nodes are
    pub second-ready : (ms : Words) → Marked t ms (take first o₁) → tour-loop.Ready t ms o₁ first
    second-ready ms m =
        let u = first-numbers t in
        record {
          header = h;
          few = f;
          apart = rw one u.apart;
          range = rw one ((all-each (in_range (nodes t)) (entered 1 t)).1
              (Each-map (UpTo (nodes t)) (λ (i : ℕ). in_range (nodes t) i ≡ true) (entered 1 t)
              (λ i r. (range-iff (nodes t) i).1 r) u.range));
          marked = m;
        }

    pub both-toured : (o₂ : Words) (count : ℕ) → length o₂ ≡ length o₁ → take count o₂ ≡ take first o₁
        ++ entered_from t (at t 3) (take first o₁) → (first ≤ count) × (count ≤ nodes t)
        → Toured t (take first o₂) (take (count - first) (drop first o₂)) × ((first ≤ count) × (count ≤ 65535))
    unfolding entered
    both-toured o₂ count m q g =
        let whole : take count o₂ ≡ entered 1 t ++ entered 2 t = q ∙ ap (λ (es : List ℕ). es ++ entered_from t (at t 3) es) one in
        let s : first + (count - first) ≡ count = omega (arith, g.0) in
        let few = ((header-iff t).0 h).size.few in
        let long : length o₂ ≡ 65536 = m ∙ long ∙ l in (
          record {
            header = h;
            one = sym (take-take first count o₂ g.0) ∙ ap (take first) whole ∙ take_at (entered 1 t) (entered 2 t) first one-long;
            two = sym (drop-take first (count - first) o₂) ∙ ap (λ (k : ℕ). drop first (take k o₂)) s ∙ ap (drop first) whole
                ∙ drop_at (entered 1 t) (entered 2 t) first one-long;
            few =
                let d = length-drop first o₂ in
                let a = length-take-le first o₂ (omega (arith, g.0, g.1, few, long)) in
                let b = length-take-le (count - first) (drop first o₂) (omega (arith, g.0, g.1, few, long, d)) in
                omega (arith, a, b, g.0, g.1);
          },
          (g.0, omega (arith, g.1, few)),
        )
