-- An accepted call of either collection: every first part of its stores leaves a sound table with the old maps or the new ones, and all of
-- them a
-- settled one. A change belongs to one collection.
use Rattle.std.proofs.Common.{◌≡◌, ℕ, ◌≤◌, Bool, true, false, eqb, ◌≢◌, ◌⊎◌, ◌↔◌, List, length, take, sym, refl, ap, ◌∙◌, inl, inr, arith}
use Rattle.std.proofs.Common.{eq-eqb, ne_eqb}
use mathlib.Core.Logic.{⊎_map}
use mathlib.Core.Option.{Option, map}
use lib.Seq.{take-length}
use Rattle.model.specs.Table.{Words, at, nodes, root_word}
use Rattle.model.specs.Slots.{Slot, pointer_of}
use Rattle.model.specs.Orders.{Store, apply, orders, orders_after, store_count, flush_count}
use Rattle.model.specs.Ledger.{enter, leave, reclass, on_map, change}
use Rattle.model.specs.SoundTest.{sound, settled}
use Rattle.model.specs.Reached.{map_of, Maps, unless_lacking, maps_of}
use Rattle.model.specs.Writes.{repair_stores, repaired, set_class_at, class_stores, Call, insertion, deletion, class_change, repair}
use Rattle.model.specs.Writes.{stores_of}
use Rattle.model.specs.Refusals.{orders_of, seventeen_in, refusal}
use Rattle.model.specs.Judge.{OldOrNew}
use Rattle.list_laws.proofs.Tools.{same-or-not}
use Rattle.table_laws.proofs.Header.{header-iff}
use Rattle.cut_laws.specs.Inside.{StoresInside}
use Rattle.cut_laws.proofs.Applying.{length-apply}
use Rattle.cut_laws.proofs.Barriers.{barred-store_count, barred-flush_count}
use Rattle.two_laws.proofs.CallsTwo.{OwnSteps, repairs, settled-repair, delete-two, class-two, insert-two}
use Rattle.two_laws.proofs.AcceptedTwo.{there, Allows, accepted-iff}
use Rattle.two_laws.proofs.SearchTwo.{sound-head}
use Rattle.two_laws.proofs.SameTwo.{settled-sound}

abbrev maps_with : List Slot → Option (List Slot) → Maps
maps_with a b = record { one = a; two = b }

maps-same : (t t' : Words) (a b : List Slot) → ((at t' 3 ≡ 0) ↔ (at t 3 ≡ 0)) → map_of 1 t' ≡ a → (at t 3 ≢ 0 → map_of 2 t' ≡ b)
    → maps_of t' ≡ maps_with a (unless_lacking (eqb (at t 3) 0) b)
unfolding maps_of
maps-same t t' a b l e f = go (same-or-not (at t 3) 0)
  where
    pair : (two two' : Option (List Slot)) → two' ≡ two → map_of 1 t' ≡ a → maps_with (map_of 1 t') two' ≡ maps_with a two
    pair two two' q e = ap (λ (x : List Slot). maps_with x two') e ∙ ap (maps_with a) q

    go : (at t 3 ≡ 0) ⊎ (at t 3 ≢ 0) → maps_of t' ≡ maps_with a (unless_lacking (eqb (at t 3) 0) b)
    go (inl z) = pair _ _ (rw (eq-eqb (at t 3) 0 z, eq-eqb (at t' 3) 0 (l.1 z))) e
    go (inr z) = pair _ _ (rw (ne_eqb (at t 3) 0 z, ne_eqb (at t' 3) 0 (λ y. z (l.0 y)), f z)) e

unless-lacking : (f : List Slot → List Slot) (b : Bool) (m : List Slot) → map f (unless_lacking b m) ≡ unless_lacking b (f m)
unless-lacking f true m = refl
unless-lacking f false m = refl

-- a change of one map, and of it alone
module _ (t t' : Words) (f : List Slot → List Slot) (l : (at t' 3 ≡ 0) ↔ (at t 3 ≡ 0)) where
  one-changed : map_of 1 t' ≡ f (map_of 1 t) → (at t 3 ≢ 0 → map_of 2 t' ≡ map_of 2 t) → maps_of t' ≡ on_map 1 f (maps_of t)
  unfolding on_map maps_of
  one-changed e g = maps-same t t' (f (map_of 1 t)) (map_of 2 t) l e g

  two-changed : map_of 1 t' ≡ map_of 1 t → (at t 3 ≢ 0 → map_of 2 t' ≡ f (map_of 2 t)) → maps_of t' ≡ on_map 2 f (maps_of t)
  unfolding on_map maps_of
  two-changed e g = maps-same t t' (map_of 1 t) (f (map_of 2 t)) l e g
      ∙ ap (maps_with (map_of 1 t)) (sym (unless-lacking f (eqb (at t 3) 0) (map_of 2 t)))

  none-changed : map_of 1 t' ≡ map_of 1 t → (at t 3 ≢ 0 → map_of 2 t' ≡ map_of 2 t) → maps_of t' ≡ maps_of t
  unfolding maps_of
  none-changed e g = maps-same t t' (map_of 1 t) (map_of 2 t) l e g

module _ (b : ℕ) (t : Words) (ss : List Store) (f : List Slot → List Slot) where
  parts-one : OwnSteps b 1 t ss (f (map_of 1 t)) → (j : ℕ) → (maps_of (apply (take j ss) t) ≡ maps_of t)
      ⊎ (maps_of (apply (take j ss) t) ≡ on_map 1 f (maps_of t))
  parts-one s j =
      let g : at t 3 ≢ 0 → map_of 2 (apply (take j ss) t) ≡ map_of 2 t = λ z. s.part-other j 3 (inr (refl, z)) (λ e. omega arith) in
      ⊎_map (λ e. none-changed t (apply (take j ss) t) f (s.part-lack j) e g)
      (λ e. one-changed t (apply (take j ss) t) f (s.part-lack j) e g) (s.part-own j)

  parts-two : OwnSteps b 3 t ss (f (map_of 2 t)) → (j : ℕ) → (maps_of (apply (take j ss) t) ≡ maps_of t)
      ⊎ (maps_of (apply (take j ss) t) ≡ on_map 2 f (maps_of t))
  parts-two s j =
      let g : map_of 1 (apply (take j ss) t) ≡ map_of 1 t = s.part-other j 1 (inl refl) (λ e. omega arith) in
      ⊎_map (λ e. none-changed t (apply (take j ss) t) f (s.part-lack j) g (λ z. e))
      (λ e. two-changed t (apply (take j ss) t) f (s.part-lack j) g (λ z. e)) (s.part-own j)

  whole-one : OwnSteps b 1 t ss (f (map_of 1 t)) → maps_of (apply ss t) ≡ on_map 1 f (maps_of t)
  whole-one s = one-changed t (apply ss t) f (rw take-length at (s.part-lack (length ss))) s.maps
      (λ z. rw take-length at (s.part-other (length ss) 3 (inr (refl, z)) (λ e. omega arith)))

  whole-two : OwnSteps b 3 t ss (f (map_of 2 t)) → maps_of (apply ss t) ≡ on_map 2 f (maps_of t)
  whole-two s = two-changed t (apply ss t) f (rw take-length at (s.part-lack (length ss)))
      (rw take-length at (s.part-other (length ss) 1 (inl refl) (λ e. omega arith))) (λ z. s.maps)

module _ (b n : ℕ) (t : Words) (ss : List Store) (f : List Slot → List Slot) (s : OwnSteps b (root_word n) t ss (f (map_of n t))) where
  by-collection : (n ≡ 1) ⊎ (n ≡ 2)
      → ((j : ℕ) → (maps_of (apply (take j ss) t) ≡ maps_of t) ⊎ (maps_of (apply (take j ss) t) ≡ on_map n f (maps_of t)))
      × (maps_of (apply ss t) ≡ on_map n f (maps_of t))
  by-collection (inl e) = let q : OwnSteps b 1 t ss (f (map_of 1 t)) = rw e at s in rw e (parts-one b t ss f q, whole-one b t ss f q)
  by-collection (inr e) = let q : OwnSteps b 3 t ss (f (map_of 2 t)) = rw e at s in rw e (parts-two b t ss f q, whole-two b t ss f q)

-- ---- the calls

-- what the stores of call x do to table t
pub record Steps (x : Call) (t : Words) : Type 0 where
  -- every first part of them leaves a sound table with the old maps or the new ones
  pub part-sound : (j : ℕ) → sound (apply (take j (stores_of x t)) t) ≡ true
  pub part-map : (j : ℕ) → OldOrNew x t (apply (take j (stores_of x t)) t)
  -- all of them leave a settled table with the new maps
  pub all-settled : settled (apply (stores_of x t) t) ≡ true
  pub all-map : maps_of (apply (stores_of x t) t) ≡ change x (maps_of t)
  -- they make at most 1,121 stores and flushes, and lie in the table
  pub few : length (orders (stores_of x t)) ≤ 1121
  pub stores-inside : StoresInside (length t) (stores_of x t)

-- Where the table as repair would leave it allows a call of a collection that there is, its stores make its change.
pub call-steps : (x : Call) (t : Words) → sound t ≡ true → seventeen_in x t ≡ false → Allows x (repaired t) → Steps x t
unfolding stores_of
call-steps (insertion n k r c) t s i a =
    let h = there n t i in
    let d = insert-two n t s h.1 k r c a in
    let q = by-collection 1121 n t _ (enter k (pointer_of r c)) d h.0 in
    record { part-sound = d.part-sound; part-map = q.0; all-settled = d.settles; all-map = q.1; few = d.few; stores-inside = d.inside }
call-steps (deletion n k) t s i a =
    let h = there n t i in
    let d = delete-two n t s h.1 k a in
    let q = by-collection 103 n t _ (leave k) d h.0 in
    record {
      part-sound = d.part-sound;
      part-map = q.0;
      all-settled = d.settles;
      all-map = q.1;
      few = omega (arith, d.few);
      stores-inside = d.inside;
    }
call-steps (class_change n k c) t s i a =
    let h = there n t i in
    let d = class-two n t s h.1 k c a.0 a.1 in
    let q = by-collection 53 n t _ (reclass k c) d h.0 in
    record {
      part-sound = d.part-sound;
      part-map = q.0;
      all-settled = d.settles;
      all-map = q.1;
      few = omega (arith, d.few);
      stores-inside = d.inside;
    }
call-steps repair t s i a =
    let d = repairs t s in
    let same : (j : ℕ) → maps_of (apply (take j (repair_stores t)) t) ≡ maps_of t =
    λ j. none-changed t (apply (take j (repair_stores t)) t) (λ m. m) (d.part-lack j) (d.part-map j 1 (inl refl))
    (λ z. d.part-map j 3 (inr (refl, z))) in
    record {
      part-sound = d.part-sound;
      part-map = λ j. inl (same j);
      all-settled = unfold repaired in d.settles;
      all-map = rw take-length at (same (length (repair_stores t)));
      few = omega (arith, d.few);
      stores-inside = d.inside;
    }

-- Every accepted call of either collection, on any sound table.
pub accepted-steps : (x : Call) (words dock : ℕ) (t : Words) → sound t ≡ true → refusal x words dock t ≡ 0 → Steps x t
accepted-steps x words dock t s e = let a = (accepted-iff x words dock t).0 e in call-steps x t s a.collection a.allows

-- The table that it leaves is sound, and has as many nodes.
module _ (x : Call) (words dock : ℕ) (t : Words) (ok : refusal x words dock t ≡ 0) where
  before : sound t ≡ true
  before = ((accepted-iff x words dock t).0 ok).sound

  -- an accepted call leaves the table sound
  pub sound-after : sound (apply (stores_of x t) t) ≡ true
  sound-after = settled-sound (apply (stores_of x t) t) (accepted-steps x words dock t before ok).all-settled

  -- an accepted call does not change N
  pub nodes-after : nodes (apply (stores_of x t) t) ≡ nodes t
  nodes-after =
      let a = ((header-iff t).0 (sound-head t before)).size.long in
      let b = ((header-iff (apply (stores_of x t) t)).0 (sound-head (apply (stores_of x t) t) sound-after)).size.long in
      omega (arith, a, b, length-apply (stores_of x t) t)

-- On a settled table a class change is one store and one flush.
pub class-orders : (n dock : ℕ) (t : Words) (k c : ℕ) → settled t ≡ true → (store_count (orders_of (class_change n k c) dock t) ≡ 1)
    × (flush_count (orders_of (class_change n k c) dock t) ≡ 1)
unfolding stores_of class_stores repaired set_class_at apply orders orders_after store_count flush_count
class-orders n dock t k c s =
    rw (
      barred-store_count dock (orders (stores_of (class_change n k c) t)),
      barred-flush_count dock (orders (stores_of (class_change n k c) t)),
      settled-repair t s,
    ) (refl, refl)
