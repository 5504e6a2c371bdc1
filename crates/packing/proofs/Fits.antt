-- Whether the packing fits, by the lengths of the slices; whether the pairs of each collection may be its map.
use Rattle.std.proofs.Common.{◌≡◌, ℕ, ◌+◌, ◌/◌, ◌≤◌, min, Bool, true, false, ◌&&◌, ltb, ◌≢◌, length, sym, ap, ◌∙◌, ⊎_elim, arith, ltb-true}
use Rattle.std.proofs.Common.{lt-ltb, eq-eqb, ne_eqb}
use Rattle.std.proofs.lemmas.Bool.{cases_lt}
use Rattle.model.specs.Table.{Words}
use Rattle.model.specs.Slots.{slots_of}
use Rattle.model.specs.Reached.{unless_lacking}
use Rattle.model.specs.Packing.{packed_count, of_second, packed_both}
use Rattle.model.specs.Pack.{pairs_ok, maps_in, maps_ok}
use Rattle.list_laws.proofs.Slots.{pairs-count}
use Rattle.list_laws.proofs.Tools.{same-test}
use Rattle.pack_laws.specs.Needed.{nodes_needed}
use Rattle.pack_laws.proofs.Counts.{count-needed}

-- ---- the nodes needed

needed-many : (pairs : ℕ) → 16777216 ≤ pairs → 65536 ≤ nodes_needed pairs
unfolding nodes_needed
needed-many pairs h = omega (arith, h)

-- the pairs that are counted, p of them, need as many nodes, or more than any table has
pub needed-capped : (pairs p n : ℕ) → p ≡ min pairs 16777216 → n ≡ nodes_needed p → min n 65536 ≡ min 65536 (nodes_needed pairs)
needed-capped pairs p n e f =
    ⊎_elim (λ h. let a = needed-many pairs (omega (arith, h)) in let b = needed-many p (omega (arith, e, h)) in omega (arith, a, b, f))
    (λ h. let same : p ≡ pairs = omega (arith, e, h) in let g : n ≡ nodes_needed pairs = rw same at f in omega (arith, g))
    (cases_lt 16777216 pairs)

pub slice-needs : (ws : Words) → packed_count (slots_of ws) ≡ nodes_needed (length ws / 2)
slice-needs ws = count-needed (slots_of ws) ∙ ap nodes_needed (pairs-count ws)

module _ (n : ℕ) (pairs loans : Words) where
  pub both-alone : n ≡ 1 → packed_both (maps_in n pairs loans) ≡ nodes_needed (length pairs / 2)
  unfolding packed_both maps_in
  both-alone e = rw (eq-eqb n 1 e) (let a = slice-needs pairs in omega (arith, a))

  pub both-beside : n ≢ 1 → packed_both (maps_in n pairs loans) ≡ nodes_needed (length pairs / 2) + nodes_needed (length loans / 2)
  unfolding packed_both maps_in
  both-beside e = rw (ne_eqb n 1 e) (let a = slice-needs pairs in let b = slice-needs loans in omega (arith, a, b))

  module _ (top one : ℕ) (few : top ≤ 65535) (a : one ≡ min 65536 (nodes_needed (length pairs / 2))) where
    pub grows-alone : n ≡ 1 → ltb top one ≡ ltb top (packed_both (maps_in n pairs loans))
    grows-alone e =
        let b = both-alone e in
        same-test (ltb top one) (ltb top (packed_both (maps_in n pairs loans))) (
          (λ h. let k = ltb-true top one h in lt-ltb top _ (omega (arith, a, b, k))),
          λ h. let k = ltb-true top _ h in lt-ltb top one (omega (arith, a, b, k, few)),
        )

    pub grows-beside : n ≢ 1 → (two : ℕ) → two ≡ min 65536 (nodes_needed (length loans / 2)) → ltb top (one + two)
        ≡ ltb top (packed_both (maps_in n pairs loans))
    grows-beside e two c =
        let b = both-beside e in
        same-test (ltb top (one + two)) (ltb top (packed_both (maps_in n pairs loans))) (
          (λ h. let k = ltb-true top (one + two) h in lt-ltb top _ (omega (arith, a, b, c, k))),
          λ h. let k = ltb-true top _ h in lt-ltb top (one + two) (omega (arith, a, b, c, k, few)),
        )

  -- ---- the pairs

  module _ (a : Bool) (p : a ≡ pairs_ok (slots_of pairs)) where
    pub first-bad : a ≡ false → false ≡ maps_ok (maps_in n pairs loans)
    unfolding maps_ok maps_in
    first-bad f = ap (λ (b : Bool). b && of_second true pairs_ok (maps_in n pairs loans).two) (sym f ∙ p)

    module _ (t : a ≡ true) where
      as-second : of_second true pairs_ok (maps_in n pairs loans).two ≡ maps_ok (maps_in n pairs loans)
      unfolding maps_ok maps_in
      as-second = ap (λ (b : Bool). b && of_second true pairs_ok (maps_in n pairs loans).two) (sym t ∙ p)

      pub ok-alone : n ≡ 1 → true ≡ maps_ok (maps_in n pairs loans)
      unfolding maps_in
      ok-alone e = ap (λ (b : Bool). of_second true pairs_ok (unless_lacking b (slots_of loans))) (sym (eq-eqb n 1 e)) ∙ as-second

      pub ok-beside : n ≢ 1 → (c : Bool) → c ≡ pairs_ok (slots_of loans) → c ≡ maps_ok (maps_in n pairs loans)
      unfolding maps_in
      ok-beside e c q = q ∙ ap (λ (b : Bool). of_second true pairs_ok (unless_lacking b (slots_of loans))) (sym (ne_eqb n 1 e)) ∙ as-second
