-- Recording numbers entered in passes: one number, the pairs of a slice; what the passes come to, for any list of numbers.
use Rattle.std.proofs.Common.{◌≡◌, ℕ, ◌+◌, ◌<◌, ◌≤◌, Bool, true, false, ltb, leb, ◌⊎◌, ◌↔◌, List, [], ◌∷◌, ◌++◌, map, length, sym, refl, ap}
use Rattle.std.proofs.Common.{◌∙◌, subst, inl, inr, ⊎_elim, arith, ltb-false, ltb-true, lt-ltb, le-leb, leb-true}
use mathlib.Core.Bool.{false≢true}
use mathlib.Core.List.{Memᴰ}
use Rattle.model.specs.Table.{Words, at}
use Rattle.model.specs.Slots.{Slot, slots_of, recording, recording_of}
use Rattle.model.specs.Reached.{filter}
use Rattle.model.specs.SoundTest.{elem, distinct}
use Rattle.list_laws.proofs.Tools.{and-iff, refuted}
use Rattle.list_laws.proofs.Members.{mem-each}
use Rattle.list_laws.proofs.Filters.{elem-filter, filter-yes, filter-no, filter-all, filter-none}
use Rattle.list_laws.proofs.Distinct.{distinct-cons}
use Rattle.std.specs.Prelude.{Ok, Err}
use Rattle.numbers.specs.declared.Stop.{Stop}
use Rattle.numbers.specs.declared.Stop.TheVariants.{Known}
use Rattle.numbers.specs.Cells.{Entry, SPREAD, mixed, Outcome, outcome, followed, entered_if, entered_all, Tells}
use Rattle.numbers.proofs.Once.{stop-last, goes-on, ends}
use Rattle.pairs.specs.Passes.{in_pass}
use Rattle.pairs.proofs.Slices.{first-pair, no-pair}

-- ---- one number

place-below : (r : ℕ) → mixed r < SPREAD
unfolding mixed
place-below r = omega arith

-- ---- the pairs of a slice, number by number

-- what is left to enter, the pairs of these words, into the cells as they are, comes to o
pub record Entering (p : ℕ → Bool) (o : Outcome) (ws cs : Words) : Type 0 where
  pub comes-to : entered_all p (map recording (slots_of ws)) cs ≡ o

module _ {p : ℕ → Bool} {o : Outcome} {ws cs : Words} (k : Entering p o ws cs) where
  pub enter-end : length ws < 2 → outcome (Ok tt) cs ≡ o
  unfolding entered_all
  enter-end h = sym (ap (λ (ss : List Slot). entered_all p (map recording ss) cs) (no-pair ws h)) ∙ k.comes-to

  module _ (pair rest : Words) (w : ws ≡ pair ++ rest) (two : length pair ≡ 2) (r : ℕ) (own : r ≡ recording_of (at pair 1)) (e : Entry)
      (after : Words) (q : outcome e after ≡ entered_if p cs r) where
    abbrev later : Words → Outcome
    later = entered_all p (map recording (slots_of rest))

    enter-next : o ≡ followed (entered_if p cs r) later
    unfolding entered_all
    enter-next = sym k.comes-to ∙ ap (λ (ss : List Slot). entered_all p (map recording ss) cs) (first-pair ws pair rest w two)
        ∙ ap (λ (n : ℕ). followed (entered_if p cs n) later) (sym own)

    pub enter-goes : e ≡ Ok tt → Entering p o rest after
    enter-goes a = record { comes-to = goes-on later o (entered_if p cs r) e after enter-next q a }

    pub enter-ends : (s : Stop) → e ≡ Err s → outcome (Err s) after ≡ o
    enter-ends s a = ends later o (entered_if p cs r) e after enter-next q (Err s) (stop-last s) a

-- ---- the passes

once-cons : (p : ℕ → Bool) (x : ℕ) (xs : List ℕ)
    → (distinct (filter p (x ∷ xs)) ≡ true) ↔ ((p x ≡ true → elem x xs ≡ false) × (distinct (filter p xs) ≡ true))
once-cons p x xs = go (p x) refl
  where
    go : (b : Bool) → p x ≡ b → (distinct (filter p (x ∷ xs)) ≡ true) ↔ ((p x ≡ true → elem x xs ≡ false) × (distinct (filter p xs) ≡ true))
    go true e = (
      (λ h. let u = (distinct-cons x (filter p xs)).0 (sym (ap distinct (filter-yes p x xs e)) ∙ h) in
          ((λ _. sym (elem-filter p x xs e) ∙ u.0), u.1)),
      λ h. ap distinct (filter-yes p x xs e) ∙ (distinct-cons x (filter p xs)).1 (elem-filter p x xs e ∙ h.0 e, h.1),
    )
    go false e = (
      (λ h. ((λ t. absurd (false≢true (sym e ∙ t))), sym (ap distinct (filter-no p x xs e)) ∙ h)),
      λ h. ap distinct (filter-no p x xs e) ∙ h.1,
    )

-- a number that is twice in a pass is there twice
once-part : (p : ℕ → Bool) (xs : List ℕ) → distinct xs ≡ true → distinct (filter p xs) ≡ true
unfolding filter
once-part p [] h = h
once-part p (x ∷ xs) h = let u = (distinct-cons x xs).0 h in (once-cons p x xs).1 ((λ _. u.0), once-part p xs u.1)

twice-part : (p : ℕ → Bool) (xs : List ℕ) → distinct (filter p xs) ≡ false → distinct xs ≡ false
twice-part p xs h = refuted (distinct xs) (λ t. false≢true (sym h ∙ once-part p xs t))

-- where each number of s is in the one part or the other
once-joined : (p q s : ℕ → Bool) → ((x : ℕ) → s x ≡ true → (p x ≡ true) ⊎ (q x ≡ true)) → (xs : List ℕ) → distinct (filter p xs) ≡ true
    → distinct (filter q xs) ≡ true → distinct (filter s xs) ≡ true
unfolding filter
once-joined p q s c [] a b = a
once-joined p q s c (x ∷ xs) a b =
    let u = (once-cons p x xs).0 a in
    let v = (once-cons q x xs).0 b in
    (once-cons s x xs).1 ((λ e. ⊎_elim u.0 v.0 (c x e)), once-joined p q s c xs u.1 v.1)

in-pass : (low high r : ℕ) → (in_pass low high r ≡ true) ↔ ((low ≤ mixed r) × (mixed r < high))
unfolding in_pass
in-pass low high r = (
  (λ h. let u = (and-iff (leb low (mixed r)) (ltb (mixed r) high)).0 h in (leb-true _ _ u.0, ltb-true _ _ u.1)),
  λ h. (and-iff (leb low (mixed r)) (ltb (mixed r) high)).1 (le-leb _ _ h.0, lt-ltb _ _ h.1),
)

-- the passes so far took the numbers whose place is below low, and none of those was twice
pub record Passed (xs : List ℕ) (low width : ℕ) : Type 0 where
  pub some : 0 < width
  pub small : width ≤ 4294967296
  pub so-far : distinct (filter (in_pass 0 low) xs) ≡ true

pub pass-start : (xs : List ℕ) → Passed xs 0 4294967296
unfolding distinct
pass-start xs = record {
  some = omega arith;
  small = omega arith;
  so-far = ap distinct (filter-none (in_pass 0 0) xs (mem-each (λ (x : ℕ). in_pass 0 0 x ≡ false) xs none));
}
  where
    none : (x : ℕ) → Memᴰ x xs → in_pass 0 0 x ≡ false
    none x m = refuted (in_pass 0 0 x) (λ h. let u = (in-pass 0 0 x).0 h in omega (arith, u.1))

module _ {xs : List ℕ} {low width : ℕ} (k : Passed xs low width) where
  pub pass-all : SPREAD ≤ low → true ≡ distinct xs
  pass-all l =
      let every : filter (in_pass 0 low) xs ≡ xs =
      filter-all (in_pass 0 low) xs
      (mem-each (λ (x : ℕ). in_pass 0 low x ≡ true) xs (λ x m. (in-pass 0 low x).1 (omega arith, omega (arith, l, place-below x)))) in
      sym (sym (ap distinct every) ∙ k.so-far)

  module _ (e : Entry) (h : Tells e (filter (in_pass low (low + width)) xs)) where
    pub pass-more : e ≡ Ok tt → Passed xs (low + width) width
    pass-more q =
        record {
          some = k.some;
          small = k.small;
          so-far =
              once-joined (in_pass 0 low) (in_pass low (low + width)) (in_pass 0 (low + width)) part xs k.so-far
              (subst (λ (x : Entry). Tells x (filter (in_pass low (low + width)) xs)) q h);
        }
      where
        part : (x : ℕ) → in_pass 0 (low + width) x ≡ true → (in_pass 0 low x ≡ true) ⊎ (in_pass low (low + width) x ≡ true)
        part x u = go (ltb (mixed x) low) refl
          where
            go : (b : Bool) → ltb (mixed x) low ≡ b → (in_pass 0 low x ≡ true) ⊎ (in_pass low (low + width) x ≡ true)
            go true l = inl ((in-pass 0 low x).1 (omega arith, ltb-true (mixed x) low l))
            go false l = inr ((in-pass low (low + width) x).1 (ltb-false (mixed x) low l, ((in-pass 0 (low + width) x).0 u).1))

    pub pass-twice : e ≡ Err Known → false ≡ distinct xs
    pass-twice q =
        sym
        (twice-part (in_pass low (low + width)) xs (subst (λ (x : Entry). Tells x (filter (in_pass low (low + width)) xs)) q h))
