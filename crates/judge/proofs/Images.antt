-- An image by its two trees: sound, each map the old one or, in the collection that is to change, the new one.
use Rattle.std.proofs.Common.{◌≡◌, ℕ, Bool, true, false, cond, not, ◌&&◌, ◌||◌, eqb, List, sym, refl, ap, ◌∙◌, eq-eqb, ne_eqb, eqb-true}
use mathlib.Core.Bool.{beq, false≢true}
use mathlib.Core.Option.{none, map}
use borrow.Author.Tests.{eqb-false}
use Rattle.model.specs.Table.{Words, at}
use Rattle.model.specs.Slots.{Slot, view_from}
use Rattle.model.specs.Reached.{mapping, map_of, Maps, maps_of, unless_lacking}
use Rattle.model.specs.SoundTest.{sound_view, sound}
use Rattle.model.specs.Ledger.{on_map}
use Rattle.model.specs.Judge.{same_slots, same_second, same_maps, good_image}
use Rattle.two_laws.proofs.SameTwo.{first-there, second-there}
use Rattle.two_laws.proofs.CollectionTwo.{collection-sound}
use Rattle.compare.specs.Pointers.{with_pointer, old_or_new}
use Rattle.judge.specs.declared.Change.{Change}
use Rattle.judge.specs.Wanted.{wanted}

-- ---- tests in a row

all-passed : (s f x y : Bool) → ((s && f) && beq x y) ≡ true → (s ≡ true) × ((f ≡ true) × (x ≡ y))
all-passed true true true true h = (refl, (refl, refl))
all-passed true true true false h = absurd (false≢true h)
all-passed true true false true h = absurd (false≢true h)
all-passed true true false false h = (refl, (refl, refl))
all-passed true false x y h = absurd (false≢true h)
all-passed false f x y h = absurd (false≢true h)

-- ---- the trees of a sound table

pub first-sound : (t : Words) (r : ℕ) → r ≡ at t 1 → sound t ≡ true → sound_view (view_from t r) ≡ true
first-sound t r e s = rw e (collection-sound 1 t s (first-there t))

pub second-sound : (t : Words) (r : ℕ) → r ≡ at t 3 → (r ≡ 0 → ⊥) → sound t ≡ true → sound_view (view_from t r) ≡ true
second-sound t r e z s = rw e (collection-sound 2 t s (second-there t (λ q. z (e ∙ q))))

-- ---- the tests, by whether collection 1 is to change

-- with what its first map comes to, and its second one, compared with the old and with the new
abbrev parts : (own old₁ new₁ old₂ new₂ : Bool) → Bool
parts own old₁ new₁ old₂ new₂ = (old₁ && old₂) || (cond own new₁ old₁ && cond own old₂ new₂)

abbrev mapped : Bool → (List Slot → List Slot) → Maps → Maps
mapped own f m = record { one = cond own (f m.one) m.one; two = cond own m.two (map f m.two) }

by-parts : (own : Bool) (f : List Slot → List Slot) (a m : Maps) → same_maps a m || same_maps a (mapped own f m)
    ≡ parts own (same_slots a.one m.one) (same_slots a.one (f m.one)) (same_second a.two m.two) (same_second a.two (map f m.two))
unfolding same_maps
by-parts true f a m = refl
by-parts false f a m = refl

-- an image without a second collection
lacking : (o b : Bool) (f : List Slot → List Slot) (m : List Slot)
    → same_second none (unless_lacking b m) || (o && same_second none (map f (unless_lacking b m))) ≡ b
lacking o true f m = refl
lacking true false f m = refl
lacking false false f m = refl

module _ (c : Change) (t u : Words) where
  abbrev own : Bool
  own = eqb c.collection 1

  abbrev f : List Slot → List Slot
  f = with_pointer c.key c.pointer

  abbrev good : Bool
  good = good_image (maps_of t) (wanted c t) u

  not-sound : sound u ≡ false → false ≡ good_image (maps_of t) (wanted c t) u
  unfolding good_image
  not-sound e = rw e

  module _ (s : sound u ≡ true) where
    abbrev b₁ : Bool
    b₁ = same_slots (map_of 1 u) (map_of 1 t)

    abbrev n₁ : Bool
    n₁ = same_slots (map_of 1 u) (f (map_of 1 t))

    good-parts : good ≡ parts own b₁ n₁ (same_second (maps_of u).two (maps_of t).two) (same_second (maps_of u).two (map f (maps_of t).two))
    unfolding good_image wanted on_map maps_of
    good-parts = rw s (by-parts own f (maps_of u) (maps_of t))

    second-is : (v : Words) (b : Bool) → eqb (at v 3) 0 ≡ b → (maps_of v).two ≡ unless_lacking b (map_of 2 v)
    unfolding maps_of
    second-is v b e = rw e

    -- the first trees by the roots that were read
    module _ {top root : ℕ} (i : top ≡ at u 1) (j : root ≡ at t 1) {x : Bool}
        (d : x ≡ old_or_new own c.key c.pointer (mapping (view_from t root)) (mapping (view_from u top))) where
      e : x ≡ old_or_new own c.key c.pointer (map_of 1 t) (map_of 1 u)
      e = rw (i, j) at d

      first-fails : (own b n s w : Bool) → b || (own && n) ≡ false → parts own b n s w ≡ false
      first-fails true false false s w q = refl
      first-fails false false n s w q = refl
      first-fails o true n s w q = absurd (false≢true (sym q))
      first-fails true false true s w q = absurd (false≢true (sym q))

      first-wrong : x ≡ false → false ≡ good_image (maps_of t) (wanted c t) u
      unfolding old_or_new
      first-wrong z = sym (good-parts ∙ first-fails own b₁ n₁ _ _ (sym e ∙ z))

      -- the second, where both have it or both lack it
      rest : (own b n : Bool) (s w : Bool) → b || (own && n) ≡ true → parts own b n s w ≡ s || (not own && w)
      rest true true n true w q = refl
      rest true true true false w q = refl
      rest true true false false w q = refl
      rest true false true s w q = or-none s
        where
          or-none : (s : Bool) → s ≡ s || false
          or-none true = refl
          or-none false = refl
      rest true false false s w q = absurd (false≢true q)
      rest false true n s w q = refl
      rest false false n s w q = absurd (false≢true q)

      module _ (y : x ≡ true) where
        good-rest : good ≡ same_second (maps_of u).two (maps_of t).two || (not own && same_second (maps_of u).two (map f (maps_of t).two))
        unfolding old_or_new
        good-rest = good-parts ∙ rest own b₁ n₁ _ _ (sym e ∙ y)

        lacks-second : {a b : ℕ} → a ≡ at u 3 → b ≡ at t 3 → a ≡ 0 → eqb b 0 ≡ good_image (maps_of t) (wanted c t) u
        lacks-second p q z =
            sym (good-rest ∙ rw (second-is u true (eq-eqb (at u 3) 0 (sym p ∙ z)), second-is t (eqb (at t 3) 0) refl, q)
            (lacking (not own) (eqb (at t 3) 0) f (map_of 2 t)))

        none-wanted : {a b : ℕ} → a ≡ at u 3 → b ≡ at t 3 → (a ≡ 0 → ⊥) → b ≡ 0 → false ≡ good_image (maps_of t) (wanted c t) u
        none-wanted p q z w =
            sym (good-rest ∙ rw (second-is u false (ne_eqb (at u 3) 0 (λ y. z (p ∙ y))), second-is t true (eq-eqb (at t 3) 0 (sym q ∙ w)))
            (none-for (not own)))
          where
            none-for : (o : Bool) → false || (o && false) ≡ false
            none-for true = refl
            none-for false = refl

        second-judged : {a b : ℕ} → a ≡ at u 3 → b ≡ at t 3 → (a ≡ 0 → ⊥) → (b ≡ 0 → ⊥) → {r : Bool}
            → r ≡ old_or_new (not own) c.key c.pointer (mapping (view_from t b)) (mapping (view_from u a)) → r
            ≡ good_image (maps_of t) (wanted c t) u
        unfolding old_or_new
        second-judged p q z w g =
            rw (p, q) at g ∙ sym
            (good-rest ∙ rw (
              second-is u false (ne_eqb (at u 3) 0 (λ y. z (p ∙ y))),
              second-is t false (ne_eqb (at t 3) 0 (λ y. w (q ∙ y))),
            ))

  -- the tests in a row: v is what the first two come to, w what they come to with whether both have a second tree, or neither
  module _ {top root a b : ℕ} (i : top ≡ at u 1) (j : root ≡ at t 1) (p : a ≡ at u 3) (q : b ≡ at t 3) (v w : Bool)
      (e : v ≡ (sound u && old_or_new own c.key c.pointer (mapping (view_from t root)) (mapping (view_from u top))))
      (g : w ≡ (v && beq (eqb a 0) (eqb b 0))) where
    abbrev first : Bool
    first = old_or_new own c.key c.pointer (mapping (view_from t root)) (mapping (view_from u top))

    row : ((sound u && first) && beq (eqb a 0) (eqb b 0)) ≡ w
    row = ap (λ (x : Bool). x && beq (eqb a 0) (eqb b 0)) (sym e) ∙ sym g

    pub passed : w ≡ true → (sound u ≡ true) × ((first ≡ true) × (eqb a 0 ≡ eqb b 0))
    passed h = all-passed (sound u) first (eqb a 0) (eqb b 0) (row ∙ h)

    pub refused : w ≡ false → w ≡ good_image (maps_of t) (wanted c t) u
    refused h = h ∙ go (sound u) first (eqb a 0) (eqb b 0) refl refl refl refl (row ∙ h)
      where
        go : (s f x y : Bool) → sound u ≡ s → first ≡ f → eqb a 0 ≡ x → eqb b 0 ≡ y → ((s && f) && beq x y) ≡ false → false ≡ good
        go false f x y s d l m z = not-sound s
        go true false x y s d l m z = first-wrong s i j refl d
        go true true true false s d l m z = sym m ∙ lacks-second s i j refl d p q (eqb-true a 0 l)
        go true true false true s d l m z = none-wanted s i j refl d p q (eqb-false a 0 l) (eqb-true b 0 m)
        go true true true true s d l m z = absurd (false≢true (sym z))
        go true true false false s d l m z = absurd (false≢true (sym z))

    pub both-lack : w ≡ true → a ≡ 0 → eqb a 0 ≡ good_image (maps_of t) (wanted c t) u
    both-lack h z = let r = passed h in r.1.1 ∙ lacks-second r.0 i j refl r.1.0 p q z

    -- the second has one too
    pub both-have : w ≡ true → (a ≡ 0 → ⊥) → b ≡ 0 → ⊥
    both-have h z y = z (eqb-true a 0 ((passed h).1.1 ∙ eq-eqb b 0 y))

    pub both-judged : (h : w ≡ true) → (z : a ≡ 0 → ⊥) → {r : Bool} → r
        ≡ old_or_new (not own) c.key c.pointer (mapping (view_from t b)) (mapping (view_from u a))
        → r ≡ good_image (maps_of t) (wanted c t) u
    both-judged h z d = let r = passed h in second-judged r.0 i j refl r.1.0 p q z (both-have h z) d
