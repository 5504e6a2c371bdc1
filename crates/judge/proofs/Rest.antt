-- The orders that are left, and the answer after all of them.
use Rattle.std.proofs.Common.{◌≡◌, ℕ, Bool, true, false, cond, eqb, ◌≢◌, ◌⊎◌, ◌↔◌, List, sym, refl, ap, ◌∙◌, inl, inr, arith, eq-eqb}
use Rattle.std.proofs.Common.{ne_eqb}
use mathlib.Core.Bool.{false≢true}
use mathlib.Core.Option.{Option, none, some, map}
use Rattle.std.specs.Option.{option_eq}
use Rattle.std.specs.Prelude.{is_some, Option as Known, Some, None, Ok, MatchOption}
use Rattle.model.specs.Table.{Words, at, root_word, no_collection}
use Rattle.model.specs.Slots.{Slot, view_from, view_of}
use Rattle.model.specs.Reached.{mapping, map_of, Maps, maps_of}
use Rattle.model.specs.SoundTest.{is_nothing, sound, settled}
use Rattle.model.specs.Ledger.{on_map, pairs_of}
use Rattle.model.specs.Judge.{same_maps, good_image, completes}
use Rattle.list_laws.proofs.Tools.{refuted}
use Rattle.table_laws.proofs.Collections.{by-number}
use Rattle.two_laws.proofs.SameTwo.{first-there, second-there, settled-sound}
use Rattle.judge_laws.proofs.Compared.{maps_with, maps-same}
use Rattle.judge_laws.proofs.Judged.{good-maps}
use Rattle.two_laws.proofs.CollectionTwo.{collection-sound}
use Rattle.two_laws.proofs.CheckTwo.{nothing-settled}
use Rattle.sound.specs.declared.Sound.{Sound}
use Rattle.sound.specs.Checked.{meant, checked}
use Rattle.sound.proofs.JudgeLaws.{checked-sound, checked-unsound}
use Rattle.compare.specs.Pointers.{held, with_pointer}
use Rattle.compare.proofs.Maps.{same-pointer, own-pointer, other-pointer, with-held, with-same}
use Rattle.compare.proofs.Trees.{map-rising}
use Rattle.judge.specs.declared.Change.{Change}
use Rattle.judge.specs.Wanted.{wanted, Suits, line_of, ended}

-- ---- settled: sound, with nothing left

unsound-unsettled : (t : Words) → sound t ≡ false → false ≡ settled t
unsound-unsettled t e = sym (refuted (settled t) (λ s. false≢true (sym e ∙ settled-sound t s)))

-- what the check found has nothing left
pub settled-by : (t : Words) (o : Known Sound) (r : Bool) → o ≡ checked t → (P : Sound → Type 0)
    → ((x : Sound) → P x → r ≡ is_nothing (some (meant x.leftover)))
    → MatchOption o (r ≡ false) P → r ≡ settled t
settled-by t None r e P h q = q ∙ unsound-unsettled t ((checked-unsound t).0 (sym e))
settled-by t (Some x) r e P h q = let f =
    (checked-sound t x.leftover x.reached).0 (sym e) in h x q ∙ nothing-settled t (meant x.leftover) f.is-sound f.leftover-is

-- ---- the answer after all orders

module _ (l : Known ℕ) (u : Words) (c : Change) (n : ℕ) where
  pub end-line : is_some l ≡ true → Ok (Some n) ≡ ended (line_of l) u c n
  unfolding ended
  end-line z = go l z
    where
      go : (l : Known ℕ) → is_some l ≡ true → Ok (Some n) ≡ ended (line_of l) u c n
      go None z = absurd (false≢true z)
      go (Some l) z = refl

  module _ (y : is_some l ≡ false) where
    z : l ≡ None
    z = go l y
      where
        go : (l : Known ℕ) → is_some l ≡ false → l ≡ None
        go None y = refl
        go (Some l) y = absurd (false≢true (sym y))

    pub end-unsettled : settled u ≡ false → Ok (Some n) ≡ ended (line_of l) u c n
    unfolding ended
    end-unsettled e = rw (z, e)

    pub end-pointer : settled u ≡ true → (x : Known ℕ) → x ≡ held c.key (map_of c.collection u) → option_eq eqb x c.pointer ≡ false
        → Ok (Some n) ≡ ended (line_of l) u c n
    unfolding ended
    end-pointer e x q y = rw (z, e, ← q, y)

    pub end-yes : settled u ≡ true → (x : Known ℕ) → x ≡ held c.key (map_of c.collection u) → option_eq eqb x c.pointer ≡ true → Ok None
        ≡ ended (line_of l) u c n
    unfolding ended
    end-yes e x q y = rw (z, e, ← q, y)

-- ---- what a good image has

-- a collection's pairs; none where it is lacking
abbrev pick : ℕ → Maps → List Slot
pick n m = cond (eqb n 1) m.one (pairs_of m.two)

lacks : (v : Words) → at v 3 ≡ 0 → (maps_of v).two ≡ none
unfolding maps_of
lacks v z = rw (eq-eqb (at v 3) 0 z)

has : (v : Words) → at v 3 ≢ 0 → (maps_of v).two ≡ some (map_of 2 v)
unfolding maps_of
has v z = rw (ne_eqb (at v 3) 0 z)

pick-own : (n : ℕ) (v : Words) → no_collection n v ≡ false → pick n (maps_of v) ≡ map_of n v
unfolding maps_of
pick-own n v h = by-number v (λ (n : ℕ). pick n (maps_of v) ≡ map_of n v) refl (λ z. ap pairs_of (has v z)) n h

-- a change of one collection's pairs, by what it makes of them
pub on-same : (n : ℕ) (t : Words) (f g : List Slot → List Slot) → no_collection n t ≡ false → f (map_of n t) ≡ g (map_of n t)
    → on_map n f (maps_of t) ≡ on_map n g (maps_of t)
unfolding on_map maps_of
on-same n t f g h =
    by-number t (λ (n : ℕ). f (map_of n t) ≡ g (map_of n t) → on_map n f (maps_of t) ≡ on_map n g (maps_of t))
    (λ e. ap (λ (x : List Slot). maps_with x (maps_of t).two) e)
    (λ z e. ap (maps_with (map_of 1 t)) (rw (has t z) (ap some e))) n h

on-none : (n : ℕ) (m : Maps) → on_map n (λ (ps : List Slot). ps) m ≡ m
unfolding on_map
on-none n m = go (eqb n 1) m.two
  where
    go : (b : Bool) (two : Option (List Slot))
        → maps_with (cond b m.one m.one) (cond b two (map (λ (ps : List Slot). ps) two)) ≡ maps_with m.one two
    go true two = refl
    go false none = refl
    go false (some ps) = refl

pointer-or-not : (a b : Known ℕ) → (a ≡ b) ⊎ (a ≢ b)
pointer-or-not a b = go (option_eq eqb a b) refl
  where
    go : (e : Bool) → option_eq eqb a b ≡ e → (a ≡ b) ⊎ (a ≢ b)
    go true e = inl (same-pointer a b e)
    go false e = inr (other-pointer a b e)

module _ (c : Change) (t : Words) (b : Suits c t) where
  abbrev new : List Slot
  new = with_pointer c.key c.pointer (map_of c.collection t)

  pick-new : pick c.collection (wanted c t) ≡ new
  unfolding wanted on_map maps_of
  pick-new =
      by-number t (λ (n : ℕ). pick n (on_map n (with_pointer c.key c.pointer) (maps_of t)) ≡ with_pointer c.key c.pointer (map_of n t)) refl
      (λ z. ap (λ (x : Option (List Slot)). pairs_of (map (with_pointer c.key c.pointer) x)) (has t z)) c.collection b.collection

  -- nothing is to change
  wanted-same : new ≡ map_of c.collection t → wanted c t ≡ maps_of t
  unfolding wanted
  wanted-same e = on-same c.collection t (with_pointer c.key c.pointer) (λ (ps : List Slot). ps) b.collection e
      ∙ on-none c.collection (maps_of t)

  -- both have a second collection, or neither
  second-kept : (u : Words) → (maps_of u ≡ maps_of t) ⊎ (maps_of u ≡ wanted c t) → at t 3 ≢ 0 → at u 3 ≢ 0
  unfolding wanted on_map
  second-kept u m z y = go m
    where
      none-not : (o : Bool) (f : List Slot → List Slot) (ps : List Slot) → none ≡ cond o (some ps) (map f (some ps)) → ⊥
      none-not true f ps e = let i : ◌≡◌ {A = ℕ} 0 1 = cc in omega arith
      none-not false f ps e = let i : ◌≡◌ {A = ℕ} 0 1 = cc in omega arith

      go : (maps_of u ≡ maps_of t) ⊎ (maps_of u ≡ wanted c t) → ⊥
      go (inl e) = none-not true (λ ps. ps) (map_of 2 t) (sym (lacks u y) ∙ ap (λ (m : Maps). m.two) e ∙ has t z)
      go (inr e) = none-not (eqb c.collection 1) (with_pointer c.key c.pointer) (map_of 2 t)
          (sym (lacks u y) ∙ ap (λ (m : Maps). m.two) e ∙ rw (has t z))

  pub good-collection : (u : Words) → good_image (maps_of t) (wanted c t) u ≡ true → no_collection c.collection u ≡ false
  good-collection u g =
      by-number t (λ (n : ℕ). no_collection n u ≡ false) (first-there u)
      (λ z. second-there u (second-kept u ((good-maps (maps_of t) (wanted c t) u).0 g).1 z)) c.collection b.collection

  -- the new maps exactly if the key has the new pointer
  new-pointer : (u : Words) → good_image (maps_of t) (wanted c t) u ≡ true → same_maps (maps_of u) (wanted c t)
      ≡ option_eq eqb (held c.key (map_of c.collection u)) c.pointer
  new-pointer u g = go (m.0 g).1 (pointer-or-not (held k (map_of n t)) c.pointer)
    where
      n : ℕ
      n = c.collection

      k : ℕ
      k = c.key

      m : (good_image (maps_of t) (wanted c t) u ≡ true) ↔ ((sound u ≡ true) × ((maps_of u ≡ maps_of t) ⊎ (maps_of u ≡ wanted c t)))
      m = good-maps (maps_of t) (wanted c t) u

      own : map_of n u ≡ pick n (maps_of u)
      own = sym (pick-own n u (good-collection u g))

      -- the new maps have the new pointer
      as-new : maps_of u ≡ wanted c t → held k (map_of n u) ≡ c.pointer
      as-new e = ap (held k) (own ∙ ap (pick n) e ∙ pick-new) ∙ with-held k c.pointer (map_of n t)

      is-new : maps_of u ≡ wanted c t → same_maps (maps_of u) (wanted c t) ≡ option_eq eqb (held k (map_of n u)) c.pointer
      is-new e = (maps-same (maps_of u) (wanted c t)).1 e ∙ sym (own-pointer _ _ (as-new e))

      go : (maps_of u ≡ maps_of t) ⊎ (maps_of u ≡ wanted c t) → (held k (map_of n t) ≡ c.pointer) ⊎ (held k (map_of n t) ≢ c.pointer)
          → same_maps (maps_of u) (wanted c t) ≡ option_eq eqb (held k (map_of n u)) c.pointer
      go (inr e) q = is-new e
      go (inl e) (inl q) =
          is-new (e ∙ sym (wanted-same
          (with-same k c.pointer (map_of n t)
          (map-rising (view_of n t) (collection-sound n t (settled-sound t b.settles) b.collection)) q)))
      go (inl e) (inr z) =
          let y : held k (map_of n u) ≢ c.pointer = λ d. z (ap (held k) (sym (own ∙ ap (pick n) e ∙ pick-own n t b.collection)) ∙ d) in
          refuted (same_maps (maps_of u) (wanted c t)) (λ d. y (as-new ((maps-same (maps_of u) (wanted c t)).0 d)))
          ∙ sym (refuted (option_eq eqb (held k (map_of n u)) c.pointer) (λ d. y (same-pointer _ _ d)))

  -- So the answer after all orders is as the definition has it.
  pub ended-is : (l : Known ℕ) (u : Words) (n : ℕ) → good_image (maps_of t) (wanted c t) u ≡ true → ended (line_of l) u c n
      ≡ cond (completes (wanted c t) (line_of l) u) (Ok None) (Ok (Some n))
  unfolding ended completes
  ended-is l u n g = rw (new-pointer u g)

-- ---- the tree of a collection, by the root that was read

pub held-own : (t : Words) (n k r : ℕ) → r ≡ at t (root_word n) → (x : Known ℕ) → x ≡ held k (mapping (view_from t r))
    → x ≡ held k (map_of n t)
held-own t n k r e x q = rw e at q
