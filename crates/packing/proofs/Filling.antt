-- The nodes of one collection: its pairs copied behind the nodes before, and packed there; then those of both.
use Rattle.std.proofs.Common.{◌≡◌, ℕ, suc, ◌+◌, ◌-◌, ◌*◌, ◌/◌, ◌≤◌, ◌≢◌, List, ◌++◌, length, take, drop, replicate, sym, refl, ap, ◌∙◌}
use Rattle.std.proofs.Common.{append_assoc, arith, length-take-le, take_all, take_at, drop_at, eq-eqb, ne_eqb}
use lib.Seq.{sets, sets-eq, length-sets}
use Rattle.model.specs.Table.{Words}
use Rattle.model.specs.Slots.{Slot, slots_of}
use Rattle.model.specs.Reached.{Maps}
use Rattle.model.specs.Packing.{packed_count, packed_words, packed_both}
use Rattle.model.specs.Pack.{maps_in}
use Rattle.list_laws.proofs.Slots.{pairs-count}
use Rattle.pack_laws.specs.Needed.{nodes_needed}
use Rattle.pack_laws.proofs.Fresh.{words-long}
use Rattle.pack.specs.Rows.{pairs_in, pairs_after, packed_after}
use Rattle.pack.proofs.Leaves.{slots-take}
use Rattle.pack.proofs.Raising.{room-facts}
use Rattle.packing.specs.Parts.{second_root, packed_nodes}
use Rattle.packing.proofs.Fits.{slice-needs, both-beside}

-- ---- one collection

pub pairs-long : (ws : Words) → length (take (2 * (length ws / 2)) ws) ≡ 2 * (length ws / 2)
pairs-long ws = length-take-le (2 * (length ws / 2)) ws (omega arith)

-- the first words of a slice hold all its pairs
first-pairs : (ws : Words) → slots_of (take (2 * (length ws / 2)) ws) ≡ slots_of ws
first-pairs ws = sym (slots-take (length ws / 2) ws) ∙ take_all (length ws / 2) (slots_of ws) (omega (arith, pairs-count ws))

module _ (words pairs : Words) (before top : ℕ) (long : length words ≡ 32 * top) (few : top ≤ 65535)
    (room : before + nodes_needed (length pairs / 2) ≤ top) where
  abbrev w : ℕ
  w = 32 * before

  abbrev count : ℕ
  count = length pairs / 2

  -- the words of the pairs
  abbrev from : Words
  from = take (2 * count) pairs

  pub words-fit : (w ≤ length words) × (before ≤ 65535)
  words-fit = (omega (arith, room, long), omega (arith, room))

  pub pairs-fit : w + 2 * count ≤ length words
  pairs-fit = let r = (room-facts before count top room).0 in omega (arith, r, long)

  -- after the copying
  module _ (whole : Words) (e : whole ≡ sets words w from) where
    split : whole ≡ take w words ++ (from ++ drop (w + length from) words)
    split = e ∙ sets-eq from words w (omega (arith, pairs-fit, pairs-long pairs)) ∙ append_assoc (take w words) from _

    whole-long : length whole ≡ length words
    whole-long = ap length e ∙ length-sets words w from

    head-long : length (take w words) ≡ w
    head-long = length-take-le w words words-fit.0

    whole-pairs : pairs_after before whole count ≡ slots_of pairs
    whole-pairs =
        ap (λ (x : Words). pairs_in x count) (ap (drop w) split ∙ drop_at (take w words) _ w head-long)
        ∙ ap slots_of (take_at from (drop (w + length from) words) (2 * count) (pairs-long pairs)) ∙ first-pairs pairs

    pub pack-fits : (length whole ≡ 32 * top) × (top ≤ 65535) × (before + nodes_needed count ≤ top) × (count ≤ 16777216)
    pack-fits = (whole-long ∙ long, few, room, (let r = (room-facts before count top room).0 in omega (arith, r, few)))

    pub filled : (x : Words) (root : ℕ) → x ≡ packed_after before top whole (pairs_after before whole count) → root
        ≡ before + packed_count (pairs_after before whole count)
        → (x ≡ packed_after before top words (slots_of pairs)) × (root ≡ before + packed_count (slots_of pairs))
    filled x root a c =
        let same : take w whole ≡ take w words = ap (take w) split ∙ take_at (take w words) _ w head-long in (
          a ∙ ap (packed_after before top whole) whole-pairs
              ∙ ap (λ (y : Words). y
              ++ (packed_words (suc before) (slots_of pairs) ++ replicate (32 * (top - (before + packed_count (slots_of pairs)))) 0))
              same,
          c ∙ ap (λ (ps : List Slot). before + packed_count ps) whole-pairs,
        )

-- ---- both

module _ (n : ℕ) (pairs loans words : Words) (top : ℕ) (fits : packed_both (maps_in n pairs loans) ≤ top) where
  abbrev ps : List Slot
  ps = slots_of pairs

  abbrev qs : List Slot
  qs = slots_of loans

  abbrev c : ℕ
  c = packed_count ps

  abbrev m : Maps
  m = maps_in n pairs loans

  pub first-fits : 0 + nodes_needed (length pairs / 2) ≤ top
  unfolding packed_both maps_in
  first-fits = omega (arith, fits, slice-needs pairs)

  -- what the nodes and the roots come to
  abbrev Filled : (w : Words) (root second : ℕ) → Type 0
  Filled w root second = (w ≡ packed_nodes top m) × ((root ≡ packed_count m.one) × (second ≡ second_root m))

  module _ (w₁ : Words) (root : ℕ) (e : w₁ ≡ packed_after 0 top words ps) (q : root ≡ 0 + c) where
    root-is : root ≡ c
    root-is = q ∙ omega arith

    w-is : w₁ ≡ packed_words 1 ps ++ replicate (32 * (top - c)) 0
    w-is = let z : 0 + c ≡ c = omega arith in e ∙ ap (λ (k : ℕ). packed_words 1 ps ++ replicate (32 * (top - k)) 0) z

    pub alone : n ≡ 1 → Filled w₁ root 0
    unfolding maps_in packed_both
    alone o =
        let k : c ≡ c + 0 = omega arith in
        rw (eq-eqb n 1 o) (w-is ∙ ap (λ (i : ℕ). packed_words 1 ps ++ replicate (32 * (top - i)) 0) k, (root-is, refl))

    module _ (o : n ≢ 1) where
      pub second-fits : root + nodes_needed (length loans / 2) ≤ top
      second-fits = omega (arith, fits, both-beside n pairs loans o, slice-needs pairs, root-is)

      pub beside : (w₂ : Words) (second : ℕ) → w₂ ≡ packed_after root top w₁ qs → second ≡ root + packed_count qs → Filled w₂ root second
      unfolding maps_in packed_both
      beside w₂ second x y =
          let tail = packed_words (suc c) qs ++ replicate (32 * (top - (c + packed_count qs))) 0 in
          rw (ne_eqb n 1 o) (
            x ∙ ap (λ (k : ℕ). packed_after k top w₁ qs) root-is
                ∙ ap (λ (l : Words). l ++ tail)
                (ap (take (32 * c)) w-is ∙ take_at (packed_words 1 ps) (replicate (32 * (top - c)) 0) (32 * c) (words-long 1 ps)),
            (root-is, y ∙ ap (λ (k : ℕ). k + packed_count qs) root-is),
          )
