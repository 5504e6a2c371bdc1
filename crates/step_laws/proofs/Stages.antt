-- Phases and stages from what holds before and after each store. A stage keeps the map, but need not end settled.
use Rattle.std.proofs.Common.{◌≡◌, ℕ, zero, suc, ◌+◌, ◌<◌, ◌≤◌, Bool, true, false, ltb, ◌⊎◌, List, ◌++◌, length, take, refl, ◌∙◌, inl, inr}
use Rattle.std.proofs.Common.{arith, take_all, ltb-false, ltb-true}
use mathlib.Core.Logic.{⊎_map}
use lib.Seq.{take-length}
use Rattle.model.specs.Table.{Words}
use Rattle.model.specs.Slots.{Slot}
use Rattle.model.specs.Orders.{Store, apply, orders}
use Rattle.list_laws.proofs.Tools.{Each-append}
use Rattle.list_laws.proofs.Steps.{Until, AtFirst, first-start}
use Rattle.word_laws.proofs.Stores.{do_store, before-whole, after-whole, between-first, after-first}
use Rattle.cut_laws.proofs.Applying.{apply-append, always-append, length-apply}
use Rattle.cut_laws.proofs.FlushRule.{length-orders-append}
use Rattle.cut_laws.specs.Inside.{StoresInside}
use Rattle.step_laws.proofs.Phase.{Phase}
use Rattle.model.specs.SoundTest.{nothing}
use Rattle.step_laws.proofs.TreeAt.{Sound, Fine, map_at}

-- what holds after each first part but the whole, and after the whole
every-part : (P : Words → Type 0) (ss : List Store) (t : Words) → ((j : ℕ) → j < length ss → P (apply (take j ss) t)) → P (apply ss t)
    → (j : ℕ) → P (apply (take j ss) t)
every-part P ss t f w j = go (ltb j (length ss)) refl
  where
    go : (b : Bool) → ltb j (length ss) ≡ b → P (apply (take j ss) t)
    go true e = f j (ltb-true j (length ss) e)
    go false e = rw (take_all j ss (ltb-false j (length ss) e)) w

module _ (w : ℕ) (ns : List ℕ) where
  -- a sound table, a settled table, whose map is m
  abbrev pub SoundWith : List Slot → Words → Type 0
  SoundWith m t = Sound w ns t × (map_at w t ≡ m)

  abbrev pub SettledWith : List Slot → Words → Type 0
  SettledWith m t = Fine w ns t nothing × (map_at w t ≡ m)

  -- in at most b orders, each first part of the stores leaves a sound table with the map of t
  pub record Stage (b : ℕ) (t : Words) (ss : List Store) : Type 0 where
    pub part : (j : ℕ) → SoundWith (map_at w t) (apply (take j ss) t)
    pub few : length (orders ss) ≤ b
    pub inside : StoresInside (length t) ss

  module _ (b : ℕ) (t : Words) (ss : List Store) (few : length (orders ss) ≤ b) (inside : StoresInside (length t) ss) where
    pub stage-until : Until do_store (SoundWith (map_at w t)) (SoundWith (map_at w t)) ss t → Stage b t ss
    stage-until a =
        let P : Words → Type 0 = SoundWith (map_at w t) in
        record { part = every-part P ss t (before-whole P P ss t a) (after-whole P P ss t a); few = few; inside = inside }

    module _ (m : List Slot) where
      -- each first part but the whole is sound with one of the two maps, and the whole settled with m
      phase-parts : ((j : ℕ) → j < length ss → (Sound w ns (apply (take j ss) t))
          × ((map_at w (apply (take j ss) t) ≡ map_at w t) ⊎ (map_at w (apply (take j ss) t) ≡ m)))
          → SettledWith m (apply ss t) → Phase w ns b t ss m
      phase-parts f z =
          let P : Words → Type 0 = λ (u : Words). Sound w ns u × ((map_at w u ≡ map_at w t) ⊎ (map_at w u ≡ m)) in
          let part = every-part P ss t f ((nothing, z.0), inr z.1) in
          record { part-sound = λ j. (part j).0; part-map = λ j. (part j).1; settles = z.0; maps = z.1; few = few; inside = inside }

      -- the last store makes the change
      pub phase-until : Until do_store (SoundWith (map_at w t)) (SettledWith m) ss t → Phase w ns b t ss m
      phase-until a =
          let P : Words → Type 0 = SoundWith (map_at w t) in
          phase-parts (λ j h. let u = before-whole P (SettledWith m) ss t a j h in (u.0, inl u.1)) (after-whole P (SettledWith m) ss t a)

      -- the first store makes it
      pub phase-first : AtFirst do_store (SoundWith (map_at w t)) (SoundWith m) (SettledWith m) ss t → 0 < length ss → Phase w ns b t ss m
      phase-first a some =
          let P : Words → Type 0 = SoundWith (map_at w t) in
          let Q : Words → Type 0 = SoundWith m in
          phase-parts (λ j h. go j h (first-start do_store P Q (SettledWith m) ss t a) (between-first P Q (SettledWith m) ss t a))
          (after-first P Q (SettledWith m) ss t a some)
        where
          go : (j : ℕ) → j < length ss → SoundWith (map_at w t) t → ((i : ℕ) → 0 < i → i < length ss → SoundWith m (apply (take i ss) t))
              → (Sound w ns (apply (take j ss) t)) × ((map_at w (apply (take j ss) t) ≡ map_at w t) ⊎ (map_at w (apply (take j ss) t) ≡ m))
          go zero h s f = unfold apply in (s.0, inl s.1)
          go (suc i) h s f = let u = f (suc i) (omega arith) h in (u.0, inr u.1)

  -- a larger bound
  pub phase-within : (b c : ℕ) (t : Words) (ss : List Store) (m : List Slot) → b ≤ c → Phase w ns b t ss m → Phase w ns c t ss m
  phase-within b c t ss m h f =
      record {
        part-sound = f.part-sound;
        part-map = f.part-map;
        settles = f.settles;
        maps = f.maps;
        few = omega (arith, f.few);
        inside = f.inside;
      }

  pub stage-whole : (b : ℕ) (t : Words) (ss : List Store) → Stage b t ss → SoundWith (map_at w t) (apply ss t)
  stage-whole b t ss f = rw take-length at (f.part (length ss))

  -- a stage, then a phase
  pub stage-phase : (b c : ℕ) (t : Words) (ss us : List Store) (m : List Slot) → Stage b t ss → Phase w ns c (apply ss t) us m
      → Phase w ns (b + c) t (ss ++ us) m
  stage-phase b c t ss us m f g =
      let s = stage-whole b t ss f in
      record {
        part-sound = always-append (λ (u : Words). Sound w ns u) ss us t (λ j. (f.part j).0) g.part-sound;
        part-map = always-append (λ (u : Words). (map_at w u ≡ map_at w t) ⊎ (map_at w u ≡ m)) ss us t (λ j. inl (f.part j).1)
            (λ j. ⊎_map (λ e. e ∙ s.1) (λ e. e) (g.part-map j));
        settles = rw (apply-append ss us t) g.settles;
        maps = rw (apply-append ss us t) g.maps;
        few = omega (arith, length-orders-append ss us, f.few, g.few);
        inside = Each-append _ ss us f.inside (rw (length-apply ss t) at g.inside);
      }
