-- The node that a split cuts: its pointer 5 loses its value for good, whatever is shifted in at it next.
use Rattle.std.proofs.Common.{◌≡◌, ℕ, zero, suc, ◌<◌, ◌≤◌, ◌≢◌, ◌⊎◌, List, [], ◌∷◌, map, length, take, sym, refl, ◌∙◌, subst, inl, inr}
use Rattle.std.proofs.Common.{arith}
use Rattle.model.specs.Table.{Words, at}
use Rattle.model.specs.Slots.{Slot, slot, node_view}
use Rattle.model.specs.Shifts.{in_node, pointer_word, last_pointer, shift_in, place_of}
use Rattle.model.specs.Writes.{shift_in_at}
use Rattle.list_laws.proofs.Tools.{Each, same-or-not, compared}
use Rattle.list_laws.proofs.Members.{each-at}
use Rattle.list_laws.proofs.Slots.{place-length}
use Rattle.slot_laws.proofs.Hiding.{AllShown, Used, all-used}
use Rattle.slot_laws.proofs.SlotStores.{pointer_at}
use Rattle.two_laws.proofs.PartsTwo.{Plain}
use Rattle.reader_laws.proofs.Values.{values_to}
use Rattle.reader_laws.proofs.ShiftValues.{node-shown, shown-word, end-word, in-here, in-other, InValue}

-- ---- pointers of slots that are all shown

last-take : (left : ℕ) (ss : List Slot) (j : ℕ) → j < length ss → last_pointer left (take (suc j) ss) ≡ pointer_at ss j
unfolding last_pointer
last-take left [] j h = absurd (omega arith)
last-take left (s ∷ ss) zero h = refl
last-take left (s ∷ ss) (suc j) h = last-take s.pointer ss j (omega arith)

next-other : (left : ℕ) (ss : List Slot) (j : ℕ) → AllShown left ss → suc j < length ss → pointer_at ss (suc j) ≢ pointer_at ss j
next-other left [] j a h = absurd (omega arith)
next-other left (s ∷ []) j a h = absurd (omega arith)
next-other left (s ∷ u ∷ ss) zero a h = a.2.1
next-other left (s ∷ u ∷ ss) (suc j) a h = next-other s.pointer (u ∷ ss) j a.2 (omega arith)

some-pointer : (left : ℕ) (ss : List Slot) (j : ℕ) → AllShown left ss → j < length ss → pointer_at ss j ≢ 0
some-pointer left ss j a h = each-at Used ss (slot 0 0) j h (all-used left ss a)

-- a number that is neither 0, nor the pointer before place j, nor the new one is not stored to pointer j
lost-in : (n left : ℕ) (ss : List Slot) (p k x : ℕ) → p ≤ length ss → (j z : ℕ) → z ≢ 0 → z ≢ last_pointer left (take j ss) → z ≢ x
    → Each (λ (v : ℕ). z ≢ v) (values_to (pointer_word n j) (map (in_node n) (shift_in left ss p k x)))
lost-in n left ss p k x h j z none before new = go (same-or-not p j)
  where
    go : (p ≡ j) ⊎ (p ≢ j) → Each (λ (v : ℕ). z ≢ v) (values_to (pointer_word n j) (map (in_node n) (shift_in left ss p k x)))
    go (inl e) =
        let q : values_to (pointer_word n j) (map (in_node n) (shift_in left ss p k x)) ≡ last_pointer left (take j ss) ∷ x ∷ [] =
        subst (λ (i : ℕ). values_to (pointer_word n i) (map (in_node n) (shift_in left ss p k x)) ≡ last_pointer left (take i ss) ∷ x ∷ [])
        e (in-here n left ss p k x h) in
        rw q (before, (new, tt))
    go (inr y) = by (in-other n left ss p k x h (pointer_word n j) (λ e. y (omega arith)))
      where
        by : InValue n left ss p k x h (pointer_word n j) (values_to (pointer_word n j) (map (in_node n) (shift_in left ss p k x)))
            → Each (λ (v : ℕ). z ≢ v) (values_to (pointer_word n j) (map (in_node n) (shift_in left ss p k x)))
        by (inl e) = rw e tt
        by (inr (v, e, f)) = rw e (value (f j refl), tt)
          where
            value : (v ≡ 0) ⊎ (v ≡ last_pointer left (take j ss)) → z ≢ v
            value (inl q) c = none (c ∙ q)
            value (inr q) c = before (c ∙ q)

-- a shown slot's pointer word is not 0
pub pointer-some : (t : Words) (a : ℕ) → Plain t a → length (node_view t a).shown ≤ 11 → (j : ℕ) → j < length (node_view t a).shown
    → at t (pointer_word a j) ≢ 0
pointer-some t a h few j l e =
    some-pointer (node_view t a).left (node_view t a).shown j (node-shown t a h) l (sym (shown-word t a h j l few) ∙ e)

-- ---- node a of t, and of t', where pointer i + 1 is stored 0 and those before it stay

module _ (t t' : Words) (a i : ℕ) (h : Plain t a) (h' : Plain t' a) (few : length (node_view t a).shown ≤ 11)
    (few' : length (node_view t' a).shown ≤ 11)
    (more : suc i < length (node_view t a).shown) (cut : at t' (pointer_word a (suc i)) ≡ 0)
    (low : (j : ℕ) → j ≤ i → at t' (pointer_word a j) ≡ at t (pointer_word a j)) where
  abbrev ss : List Slot
  ss = (node_view t a).shown

  abbrev ss' : List Slot
  ss' = (node_view t' a).shown

  left-some : (j : ℕ) → j ≤ i → at t' (pointer_word a j) ≢ 0
  left-some j l e = pointer-some t a h few j (omega arith) (sym (low j l) ∙ e)

  -- it shows i + 1 slots then
  shows : length ss' ≡ suc i
  shows = go (compared (length ss') (suc i))
    where
      go : (length ss' < suc i) ⊎ ((length ss' ≡ suc i) ⊎ (suc i < length ss')) → length ss' ≡ suc i
      go (inl l) = absurd (left-some (length ss') (omega arith) (end-word t' a h' few'))
      go (inr (inl e)) = e
      go (inr (inr l)) = absurd (pointer-some t' a h' few' (suc i) l cut)

  -- the pointer before the place of the one that was cut is another
  pub cut-before : at t (pointer_word a (suc i)) ≢ last_pointer (node_view t' a).left (take (suc i) (node_view t' a).shown)
  cut-before e =
      let l : i < length ss' = omega (arith, shows) in
      next-other (node_view t a).left ss i (node-shown t a h) more
      (sym (shown-word t a h (suc i) more few) ∙ e ∙ last-take (node_view t' a).left ss' i l ∙ sym (shown-word t' a h' i l few')
      ∙ low i (omega arith) ∙ shown-word t a h i (omega arith) few)

  -- no value that a shift in gives that pointer is what it was
  pub cut-lost : (k x : ℕ) → at t (pointer_word a (suc i)) ≢ x
      → Each (λ (v : ℕ). at t (pointer_word a (suc i)) ≢ v) (values_to (pointer_word a (suc i)) (shift_in_at t' a k x))
  unfolding shift_in_at
  cut-lost k x new =
      lost-in a (node_view t' a).left ss' (place_of k ss') k x (place-length k ss') (suc i) (at t (pointer_word a (suc i)))
      (pointer-some t a h few (suc i) more) cut-before new
