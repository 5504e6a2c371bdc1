-- A phase of a write: its stores, each first part of which leaves a sound table with the old map or the new one. Phases join.
use Rattle.std.proofs.Common.{◌≡◌, ℕ, ◌≤◌, ◌⊎◌, List, [], length, take, refl, inl, arith}
use lib.Seq.{take-nil}
use Rattle.model.specs.Table.{Words}
use Rattle.model.specs.Slots.{Slot}
use Rattle.model.specs.Orders.{Store, apply, orders}
use Rattle.cut_laws.specs.Inside.{StoresInside}
use Rattle.model.specs.SoundTest.{nothing}
use Rattle.step_laws.proofs.TreeAt.{Sound, Fine, map_at}

module _ (w : ℕ) (ns : List ℕ) where
  -- the stores ss take table t, in at most b orders, to a settled table whose map is m
  pub record Phase (b : ℕ) (t : Words) (ss : List Store) (m : List Slot) : Type 0 where
    pub part-sound : (j : ℕ) → Sound w ns (apply (take j ss) t)
    pub part-map : (j : ℕ) → (map_at w (apply (take j ss) t) ≡ map_at w t) ⊎ (map_at w (apply (take j ss) t) ≡ m)
    pub settles : Fine w ns (apply ss t) nothing
    pub maps : map_at w (apply ss t) ≡ m
    pub few : length (orders ss) ≤ b
    pub inside : StoresInside (length t) ss

  -- no store
  pub phase-nil : (t : Words) → Fine w ns t nothing → Phase 0 t [] (map_at w t)
  unfolding apply orders
  phase-nil t s =
      record {
        part-sound = λ j. rw (take-nil {A = Store} j) (nothing, s);
        part-map = λ j. rw (take-nil {A = Store} j) (inl refl);
        settles = s;
        maps = refl;
        few = omega arith;
        inside = tt;
      }
