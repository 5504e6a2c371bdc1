-- How many nodes packed pairs need: by their number alone.
use Rattle.std.proofs.Common.{◌≡◌, ℕ, zero, suc, ◌+◌, ◌-◌, ◌*◌, ◌/◌, ◌≤◌, List, [], ◌∷◌, length, drop, refl, ap, ◌∙◌, suc-mul}
use Rattle.std.proofs.Common.{mul-le-mul_left, arith, length-drop}
use lib.ListN.{length-map}
use Rattle.model.specs.Slots.{Slot}
use Rattle.model.specs.Packing.{groups, Made, leaf_from, bottom, numbered, inner_from, row_above, rows_above, packed, count_rows}
use Rattle.model.specs.Packing.{packed_count}
use Rattle.pack_laws.specs.Needed.{nodes_above, nodes_needed}
use Rattle.pack_laws.proofs.Groups.{groups-few, length-numbered}

-- the groups of k + 1 have places for all items, if the fuel suffices
pub groups-many : {A : Type 0} (k f : ℕ) (xs : List A) → length xs ≤ f → length xs ≤ suc k * length (groups (suc k) f xs)
unfolding groups
groups-many k zero xs h = omega arith
groups-many k (suc f) [] h = omega arith
groups-many k (suc f) (x ∷ xs) h = let ih = groups-many k f (drop k xs) (simp length-drop (omega arith)) in let e =
    length-drop k xs in omega arith

module _ (n : ℕ) (xs : List Made) where
  -- the row above some nodes has a twelfth of them, rounded up
  pub above-length : length (row_above n xs) ≡ (length xs + 11) / 12
  unfolding row_above
  above-length =
      let gs = groups 12 (length xs) (numbered n xs) in
      let e = length-numbered n xs in
      let few = groups-few 11 (length xs) (numbered n xs) ((length xs + 11) / 12) (omega arith) in
      let many = groups-many 11 (length xs) (numbered n xs) (omega arith) in
      length-map gs inner_from ∙ omega arith

-- the nodes of the rows above some nodes are as many as are counted over a row of that length
pub rows-count : (f n : ℕ) (xs : List Made) → count_rows (rows_above f n xs) ≡ nodes_above f (length xs)
unfolding rows_above count_rows nodes_above
rows-count zero n xs = refl
rows-count (suc f) n [] = refl
rows-count (suc f) n (x ∷ []) = refl
rows-count (suc f) n (x ∷ y ∷ ys) = let xs = x ∷ y ∷ ys in let e =
    above-length n xs in rw (rows-count f (n + length xs) (row_above n xs), e)

-- n pairs have 1 + (n - 1) / 11 leaves, the quotient rounded down
pub bottom-length : (ps : List Slot) → length (bottom ps) ≡ suc ((length ps - 1) / 11)
unfolding bottom
bottom-length ps =
    let qs = drop 11 ps in
    let gs = groups 11 (length ps) qs in
    let e = length-drop 11 ps in
    let few = groups-few 10 (length ps) qs ((length qs + 10) / 11) (omega arith) in
    let many = groups-many 10 (length ps) qs (omega arith) in
    ap suc (length-map gs leaf_from) ∙ omega arith

-- the nodes that pairs need, wherever these are numbered from
pub packed-count : (n : ℕ) (ps : List Slot) → count_rows (packed n ps) ≡ nodes_needed (length ps)
unfolding packed count_rows nodes_needed
packed-count n ps = let e = bottom-length ps in rw (rows-count 15 n (bottom ps), e)

-- packed pairs have as many nodes as so many pairs need
pub count-needed : (ps : List Slot) → packed_count ps ≡ nodes_needed (length ps)
unfolding packed_count
count-needed ps = packed-count 1 ps

-- ---- more pairs need no fewer nodes

above-more : (f c d : ℕ) → c ≤ d → nodes_above f c ≤ nodes_above f d
unfolding nodes_above
above-more zero c d h = omega arith
above-more (suc f) zero d h = omega arith
above-more (suc f) (suc zero) d h = omega arith
above-more (suc f) (suc (suc c)) zero h = absurd (omega arith)
above-more (suc f) (suc (suc c)) (suc zero) h = absurd (omega arith)
above-more (suc f) (suc (suc c)) (suc (suc d)) h =
    let u = (suc (suc c) + 11) / 12 in
    let w = (suc (suc d) + 11) / 12 in
    let l : u ≤ w = omega arith in
    omega (arith, above-more f u w l)

-- more pairs need no fewer nodes
pub needed-more : (m n : ℕ) → m ≤ n → nodes_needed m ≤ nodes_needed n
unfolding nodes_needed
needed-more m n h =
    let c = suc ((m - 1) / 11) in
    let d = suc ((n - 1) / 11) in
    let l : c ≤ d = omega arith in
    omega (arith, above-more 15 c d l)

-- no node is needed above a row of one node or none
pub above-one : (f c : ℕ) → c ≤ 1 → nodes_above f c ≡ 0
unfolding nodes_above
above-one zero c h = refl
above-one (suc f) zero h = refl
above-one (suc f) (suc zero) h = refl
above-one (suc f) (suc (suc c)) h = absurd (omega arith)

-- never very many
above-few : (f c : ℕ) → nodes_above f c ≤ f * c
unfolding nodes_above
above-few zero c = omega arith
above-few (suc f) zero = omega arith
above-few (suc f) (suc zero) = omega arith
above-few (suc f) (suc (suc c)) =
    let n = suc (suc c) in
    let u = (n + 11) / 12 in
    let a : u ≤ n = omega arith in
    let b = above-few f u in
    let d : f * u ≤ f * n = mul-le-mul_left f a in
    let e = suc-mul f n in
    omega arith

-- m pairs need at most 16 (m + 1) nodes
pub needed-few : (m : ℕ) → nodes_needed m ≤ 16 * suc m
unfolding nodes_needed
needed-few m = let c = suc ((m - 1) / 11) in let a = above-few 15 c in omega arith
