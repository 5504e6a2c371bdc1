-- Each node after its level's first has as fence the lowest key below it, on every level.
use Rattle.std.proofs.Common.{◌≡◌, ℕ, zero, suc, ◌+◌, ◌≤◌, List, [], ◌∷◌, ◌++◌, map, length, take, drop, sym, refl, ap, ◌∙◌, arith}
use Rattle.std.proofs.Common.{length-drop, take-append-drop}
use Rattle.model.specs.Slots.{Slot}
use Rattle.model.specs.Reached.{flat}
use Rattle.model.specs.Packing.{groups, Made, lowest, leaf_from, bottom, numbered, inner_from, row_above, rows_above, packed, in_turn, Some}
use Rattle.model.specs.Packing.{in_leaves, in_above, Lowest, Fenced, AllFenced}
use Rattle.list_laws.proofs.Tools.{Each, flat-append}
use Rattle.pack_laws.proofs.Groups.{groups-joined, groups-fit}

-- ---- lists of pairs

lowest-first : (b c : List Slot) → Some b → lowest (b ++ c) ≡ lowest b
lowest-first [] c h = absurd h
lowest-first (s ∷ ss) c h = refl

some-first : (b c : List Slot) → Some b → Some (b ++ c)
some-first [] c h = absurd h
some-first (s ∷ ss) c h = tt

joined-twice : (gs : List (List (List Slot))) → in_turn (map in_turn gs) ≡ in_turn (in_turn gs)
unfolding flat
joined-twice [] = refl
joined-twice (g ∷ gs) = ap (λ (l : List Slot). in_turn g ++ l) (joined-twice gs) ∙ sym (flat-append (λ (b : List Slot). b) g (in_turn gs))

-- ---- the leaves

leaves-lowest : (gs : List (List Slot)) → Each (λ (g : List Slot). Some g × (length g ≤ 11)) gs → Lowest (map leaf_from gs) gs
leaves-lowest [] h = tt
leaves-lowest (g ∷ gs) h = (refl, h.0.0, leaves-lowest gs h.1)

bottom-fenced : (ps : List Slot) → Fenced (bottom ps) (in_leaves ps)
unfolding bottom
bottom-fenced ps = (refl, leaves-lowest (groups 11 (length ps) (drop 11 ps)) (groups-fit 10 (length ps) (drop 11 ps)))

leaves-all : (ps : List Slot) → in_turn (in_leaves ps) ≡ ps
unfolding flat
leaves-all ps = ap (λ (l : List Slot). take 11 ps ++ l) (groups-joined 10 (length ps) (drop 11 ps) (simp length-drop (omega arith)))
    ∙ take-append-drop 11 ps

-- ---- a row above

lowest-length : (xs : List Made) (bs : List (List Slot)) → Lowest xs bs → length xs ≡ length bs
lowest-length [] [] h = refl
lowest-length [] (b ∷ bs) h = absurd h
lowest-length (x ∷ xs) [] h = absurd h
lowest-length (x ∷ xs) (b ∷ bs) h = ap suc (lowest-length xs bs h.2)

lowest-drop : (k : ℕ) (xs : List Made) (bs : List (List Slot)) → Lowest xs bs → Lowest (drop k xs) (drop k bs)
lowest-drop zero xs bs h = h
lowest-drop (suc k) [] [] h = tt
lowest-drop (suc k) [] (b ∷ bs) h = absurd h
lowest-drop (suc k) (x ∷ xs) [] h = absurd h
lowest-drop (suc k) (x ∷ xs) (b ∷ bs) h = lowest-drop k xs bs h.2

drop-numbered : (k n : ℕ) (xs : List Made) → drop k (numbered n xs) ≡ numbered (k + n) (drop k xs)
unfolding numbered
drop-numbered zero n xs = let e : 0 + n ≡ n = omega arith in rw e
drop-numbered (suc k) n [] = refl
drop-numbered (suc k) n (x ∷ xs) = let e : k + suc n ≡ suc k + n =
    omega arith in drop-numbered k (suc n) xs ∙ ap (λ (m : ℕ). numbered m (drop k xs)) e

groups-lowest : (f n : ℕ) (xs : List Made) (bs : List (List Slot)) → Lowest xs bs
    → Lowest (map inner_from (groups 12 f (numbered n xs))) (map in_turn (groups 12 f bs))
unfolding groups numbered flat
groups-lowest zero n xs bs h = tt
groups-lowest (suc f) n [] [] h = tt
groups-lowest (suc f) n [] (b ∷ bs) h = absurd h
groups-lowest (suc f) n (x ∷ xs) [] h = absurd h
groups-lowest (suc f) n (x ∷ xs) (b ∷ bs) h = (
  h.0 ∙ sym (lowest-first b _ h.1),
  some-first b _ h.1,
  rw (drop-numbered 11 (suc n) xs) (groups-lowest f (11 + suc n) (drop 11 xs) (drop 11 bs) (lowest-drop 11 xs bs h.2)),
)

above-fenced : (n : ℕ) (xs : List Made) (bs : List (List Slot)) → Fenced xs bs → Fenced (row_above n xs) (in_above bs)
unfolding row_above groups numbered
above-fenced n [] bs h = absurd h
above-fenced n (x ∷ xs) [] h = absurd h
above-fenced n (x ∷ xs) (b ∷ bs) h = (
  h.0,
  rw (lowest-length xs bs h.1, drop-numbered 11 (suc n) xs)
      (groups-lowest (length bs) (11 + suc n) (drop 11 xs) (drop 11 bs) (lowest-drop 11 xs bs h.1)),
)

above-all : (bs : List (List Slot)) → in_turn (in_above bs) ≡ in_turn bs
above-all bs = joined-twice (groups 12 (length bs) bs) ∙ ap in_turn (groups-joined 11 (length bs) bs (omega arith))

-- ---- every row

rows-fenced : (f n : ℕ) (xs : List Made) (bs : List (List Slot)) (ps : List Slot) → Fenced xs bs → in_turn bs ≡ ps
    → AllFenced ps (rows_above f n xs) (in_above bs)
unfolding rows_above
rows-fenced zero n xs bs ps h e = tt
rows-fenced (suc f) n [] bs ps h e = tt
rows-fenced (suc f) n (x ∷ []) bs ps h e = tt
rows-fenced (suc f) n (x ∷ y ∷ ys) bs ps h e =
    let u = above-fenced n (x ∷ y ∷ ys) bs h in
    let a = above-all bs ∙ e in
    (u, a, rows-fenced f (n + length (x ∷ y ∷ ys)) (row_above n (x ∷ y ∷ ys)) (in_above bs) ps u a)

pub fences-lowest : (n : ℕ) (ps : List Slot) → AllFenced ps (packed n ps) (in_leaves ps)
unfolding packed
fences-lowest n ps = (bottom-fenced ps, leaves-all ps, rows-fenced 15 n (bottom ps) (in_leaves ps) ps (bottom-fenced ps) (leaves-all ps))
