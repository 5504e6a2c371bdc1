-- Lists in groups of n, and rows of nodes to be made.
use Rattle.std.proofs.Common.{◌≡◌, ℕ, zero, suc, ◌+◌, ◌*◌, ◌<◌, ◌≤◌, true, List, [], ◌∷◌, ◌++◌, map, length, take, drop, refl, ap, ◌∙◌}
use Rattle.std.proofs.Common.{arith, length-drop, take-append-drop, length-take}
use mathlib.Core.List.{map-append}
use lib.ListN.{length-map}
use Rattle.model.specs.Table.{MARK}
use Rattle.model.specs.Slots.{Slot, slot, recording}
use Rattle.model.specs.Reached.{flat}
use Rattle.model.specs.SoundTest.{rising, pair_ok, recordings_ok}
use Rattle.model.specs.Shifts.{last_pointer}
use Rattle.list_laws.proofs.Tools.{Each, Each-map, Each-split}
use Rattle.list_laws.proofs.Distinct.{distinct-append}
use Rattle.list_laws.proofs.Recordings.{recordings-iff, pointers-apart}
use Rattle.slot_laws.proofs.Hiding.{AllShown, all-split, distinct-shown}
use Rattle.tree_laws.proofs.Rising.{rising-cons, rising-apart}
use Rattle.model.specs.Packing.{groups, Made, leaf_with, leaf_from, bottom, numbered, inner_from, row_above, rows_above, in_turn, Some}
use Rattle.pack_laws.proofs.Standing.{Writable}

module _ {A : Type 0} (k : ℕ) where
  pub groups-joined : (f : ℕ) (xs : List A) → length xs ≤ f → in_turn (groups (suc k) f xs) ≡ xs
  unfolding groups flat
  groups-joined zero [] h = refl
  groups-joined zero (x ∷ xs) h = absurd (omega arith)
  groups-joined (suc f) [] h = refl
  groups-joined (suc f) (x ∷ xs) h =
      rw (groups-joined f (drop k xs) (simp length-drop (omega arith))) (ap (λ (l : List A). x ∷ l) (take-append-drop k xs))

  pub groups-fit : (f : ℕ) (xs : List A) → Each (λ (g : List A). Some g × (length g ≤ suc k)) (groups (suc k) f xs)
  unfolding groups
  groups-fit zero xs = tt
  groups-fit (suc f) [] = tt
  groups-fit (suc f) (x ∷ xs) = ((tt, simp length-take (omega arith)), groups-fit f (drop k xs))

  -- at most (k + 1) m items make at most m groups of k + 1
  pub groups-few : (f : ℕ) (xs : List A) (m : ℕ) → length xs ≤ suc k * m → length (groups (suc k) f xs) ≤ m
  unfolding groups
  groups-few zero xs m h = omega arith
  groups-few (suc f) [] m h = omega arith
  groups-few (suc f) (x ∷ xs) zero h = absurd (omega arith)
  groups-few (suc f) (x ∷ xs) (suc m) h = let ih = groups-few f (drop k xs) m (simp length-drop (omega arith)) in omega arith

-- ---- leaves

recordings-parts : (a b : List Slot) → recordings_ok (a ++ b) ≡ true → (recordings_ok a ≡ true) × (recordings_ok b ≡ true)
recordings-parts a b r =
    let u = (recordings-iff (a ++ b)).0 r in
    let e = Each-split (λ (s : Slot). pair_ok s ≡ true) a b u.0 in
    let d = (distinct-append (map recording a) (map recording b)).0 (rw (map-append recording a b) at u.1) in
    ((recordings-iff a).1 (e.0, d.0), (recordings-iff b).1 (e.1, d.1))

-- a leaf shows pairs with different recordings, all of them
recordings-shown : (ps : List Slot) → recordings_ok ps ≡ true → AllShown MARK ps
recordings-shown ps r = let u = pointers-apart ps r in distinct-shown MARK ps u.1 u.0

pub leaves-writable : (gs : List (List Slot)) → recordings_ok (in_turn gs) ≡ true → Each (λ (g : List Slot). Some g × (length g ≤ 11)) gs
    → Each Writable (map leaf_from gs)
unfolding flat
leaves-writable [] r h = tt
leaves-writable (g ∷ gs) r h =
    let u = recordings-parts g (in_turn gs) r in
    ((recordings-shown g u.0, h.0.1), leaves-writable gs u.1 h.1)

-- k is below the fence of the first of these
abbrev pub Before : ℕ → List Made → Type 0
Before k [] = Unit {0}
Before k (x ∷ xs) = k < x.fence

-- a row of leaves: the keys of each rise from its fence; these and the fence are below the next one's fence
abbrev pub LeafRow : List Made → Type 0
LeafRow [] = Unit {0}
LeafRow (x ∷ xs) = (rising x.fence x.slots ≡ true) × Before x.fence xs × Each (λ (s : Slot). Before s.key xs) x.slots × LeafRow xs

each-unit : (ss : List Slot) → Each (λ (s : Slot). Before s.key []) ss
each-unit [] = tt
each-unit (s ∷ ss) = (tt, each-unit ss)

pub leaf-row : (k : ℕ) (s : Slot) (ss : List Slot) (gs : List (List Slot)) → rising k (s ∷ ss ++ in_turn gs) ≡ true
    → Each (λ (g : List Slot). Some g × (length g ≤ 11)) gs → LeafRow (leaf_with k (s ∷ ss) ∷ map leaf_from gs)
unfolding flat
leaf-row k s ss [] r h = ((rising-apart k (s ∷ ss) [] r).left, tt, each-unit (s ∷ ss), tt)
leaf-row k s ss ([] ∷ gs) r h = absurd h.0.0
leaf-row k s ss ((u ∷ us) ∷ gs) r h =
    let a = rising-apart k (s ∷ ss) (u ∷ us ++ in_turn gs) r in
    let low = ((rising-cons k s ss).0 a.left).0 in
    let up = (rising-cons k u (us ++ in_turn gs)).0 a.right in
    let b : Each (λ (x : Slot). x.key < u.key) (s ∷ ss) = Each-map _ (λ (x : Slot). x.key < u.key) (s ∷ ss) (λ x e. e.0) a.between in
    (a.left, omega (arith, b.0), b, leaf-row u.key u us gs ((rising-cons u.key u (us ++ in_turn gs)).1 (omega arith, up.1)) h.1)

-- ---- inner nodes

pub numbered-shown : (p n : ℕ) (xs : List Made) → p < n → AllShown p (numbered n xs)
unfolding numbered
numbered-shown p n [] h = tt
numbered-shown p n (x ∷ xs) h = (λ e. omega arith, λ e. omega arith, numbered-shown n (suc n) xs (omega arith))

inner-writable : (p : ℕ) (gs : List (List Slot)) → AllShown p (in_turn gs) → Each (λ (g : List Slot). Some g × (length g ≤ 12)) gs
    → Each Writable (map inner_from gs)
unfolding flat
inner-writable p [] a h = tt
inner-writable p ([] ∷ gs) a h = absurd h.0.0
inner-writable p ((s ∷ ss) ∷ gs) a h =
    let u = all-split p (s ∷ ss) (in_turn gs) a in
    ((u.0.2, omega (arith, h.0.1)), inner-writable (last_pointer p (s ∷ ss)) gs u.1 h.1)

-- the ways of inner nodes made of groups are these groups
abbrev pub ways_made : Made → List Slot
ways_made x = slot x.fence x.left ∷ x.slots

inner-ways : (gs : List (List Slot)) → Each (λ (g : List Slot). Some g × (length g ≤ 12)) gs
    → flat ways_made (map inner_from gs) ≡ in_turn gs
unfolding flat
inner-ways [] h = refl
inner-ways ([] ∷ gs) h = absurd h.0.0
inner-ways ((s ∷ ss) ∷ gs) h = ap (λ (l : List Slot). s ∷ ss ++ l) (inner-ways gs h.1)

pub length-numbered : (n : ℕ) (xs : List Made) → length (numbered n xs) ≡ length xs
unfolding numbered
length-numbered n [] = refl
length-numbered n (x ∷ xs) = ap suc (length-numbered (suc n) xs)

module _ (n : ℕ) (xs : List Made) where
  above-joined : in_turn (groups 12 (length xs) (numbered n xs)) ≡ numbered n xs
  above-joined = groups-joined 11 (length xs) (numbered n xs) (omega (arith, length-numbered n xs))

  pub above-ways : flat ways_made (row_above n xs) ≡ numbered n xs
  unfolding row_above
  above-ways = inner-ways _ (groups-fit 11 (length xs) (numbered n xs)) ∙ above-joined

  pub above-writable : 1 ≤ n → Each Writable (row_above n xs)
  unfolding row_above
  above-writable h = inner-writable 0 (groups 12 (length xs) (numbered n xs)) (rw above-joined (numbered-shown 0 n xs (omega arith)))
      (groups-fit 11 (length xs) (numbered n xs))

  pub above-few : (m : ℕ) → length xs ≤ 12 * m → length (row_above n xs) ≤ m
  unfolding row_above
  above-few m h = simp length-map (groups-few 11 (length xs) (numbered n xs) m (omega (arith, length-numbered n xs)))

pub rows-writable : (f n : ℕ) (xs : List Made) → 1 ≤ n → Each (Each Writable) (rows_above f n xs)
unfolding rows_above
rows-writable zero n xs h = tt
rows-writable (suc f) n [] h = tt
rows-writable (suc f) n (x ∷ []) h = tt
rows-writable (suc f) n (x ∷ y ∷ ys) h =
    (above-writable n (x ∷ y ∷ ys) h, rows-writable f (n + length (x ∷ y ∷ ys)) (row_above n (x ∷ y ∷ ys)) (omega arith))

pub above-some : (n : ℕ) (x : Made) (xs : List Made) → 1 ≤ length (row_above n (x ∷ xs))
unfolding row_above groups numbered
above-some n x xs = omega arith

-- ---- the leaves of given pairs

leaves-slots : (gs : List (List Slot)) → flat (λ (x : Made). x.slots) (map leaf_from gs) ≡ in_turn gs
unfolding flat
leaves-slots [] = refl
leaves-slots (g ∷ gs) = ap (λ (l : List Slot). g ++ l) (leaves-slots gs)

leaves-left : (gs : List (List Slot)) → Each (λ (x : Made). x.left ≡ MARK) (map leaf_from gs)
leaves-left [] = tt
leaves-left (g ∷ gs) = (refl, leaves-left gs)

module _ (ps : List Slot) where
  abbrev others : List (List Slot)
  others = groups 11 (length ps) (drop 11 ps)

  others-joined : in_turn others ≡ drop 11 ps
  others-joined = groups-joined 10 (length ps) (drop 11 ps) (simp length-drop (omega arith))

  pub bottom-slots : flat (λ (x : Made). x.slots) (bottom ps) ≡ ps
  unfolding bottom flat
  bottom-slots = ap (λ (l : List Slot). take 11 ps ++ l) (leaves-slots others ∙ others-joined) ∙ take-append-drop 11 ps

  pub bottom-left : Each (λ (x : Made). x.left ≡ MARK) (bottom ps)
  unfolding bottom
  bottom-left = (refl, leaves-left others)

  pub bottom-writable : recordings_ok ps ≡ true → Each Writable (bottom ps)
  unfolding bottom
  bottom-writable r =
      let u = recordings-parts (take 11 ps) (drop 11 ps) (rw (take-append-drop 11 ps) r) in (
        (recordings-shown (take 11 ps) u.0, simp length-take (omega arith)),
        leaves-writable others (rw others-joined u.1) (groups-fit 10 (length ps) (drop 11 ps)),
      )

pub bottom-row : (ps : List Slot) → rising 0 ps ≡ true → LeafRow (bottom ps)
unfolding bottom groups
bottom-row [] r = (unfold rising in refl, tt, tt, tt)
bottom-row (p ∷ ps) r =
    leaf-row 0 p (take 10 ps) (others (p ∷ ps)) (rw (others-joined (p ∷ ps), take-append-drop 10 ps) r)
    (groups-fit 10 (suc (length ps)) (drop 10 ps))
