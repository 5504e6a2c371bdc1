-- Demand 2, proved: on every sound table search, listing, insertion, deletion and class change agree with an ordinary map.
use Rattle.std.proofs.Common.{◌≡◌, ℕ, Bool, true, false, cond, eqb, ◌≢◌, ◌↔◌, List, refl, ap, ◌∙◌, arith, eq-eqb, ne_eqb}
use mathlib.Core.List.{Memᴰ}
use mathlib.Core.Option.{Option, none, some}
use Rattle.model.specs.declared.Answer.TheVariants.{Found, Absent}
use Rattle.model.specs.Table.{Words, at, no_collection}
use Rattle.model.specs.Slots.{Slot, recording, class, pointer_of, view_of}
use Rattle.model.specs.Search.{answer_of, first_with, first_above, lookup, within, kept, Next}
use Rattle.model.specs.Listing.{list, list_out}
use Rattle.model.specs.SoundTest.{sound_view, rising, sound}
use Rattle.model.specs.Reached.{Maps, unless_lacking, map_of, maps_of}
use Rattle.model.specs.Sound.{Settled, Sound}
use Rattle.model.specs.Orders.{apply}
use Rattle.model.specs.Writes.{Call, insertion, deletion, class_change, repair, stores_of, repaired}
use Rattle.model.specs.Refusals.{eleven_in, ten_in, tests_from18, first_number, refusal, table_after}
use Rattle.model.specs.Ledger.{on_map, change, enter, leave, reclass}
use Rattle.list_laws.proofs.Members.{each-mem, mem-each}
use Rattle.list_laws.proofs.Filters.{mem-filter}
use Rattle.table_laws.proofs.Collections.{by-number}
use Rattle.tree_laws.proofs.Rising.{first-mem, found-iff, absent-iff, lookup-answers, rise-from-rising}
use Rattle.tree_laws.proofs.NextLaw.{next-least}
use Rattle.tree_laws.proofs.MapLaw.{map-rising}
use Rattle.tree_laws.proofs.Levels.{sound-orderly}
use Rattle.sound_laws.proofs.Same.{map-same}
use Rattle.sound_laws.proofs.Same as sl
use Rattle.two_laws.proofs.AcceptedTwo.{accepted-iff}
use Rattle.two_laws.proofs.SearchTwo.{search-law}
use Rattle.two_laws.proofs.SearchTwo as by_map
use Rattle.two_laws.proofs.SameTwo.{sound-same, settled-same}
use Rattle.two_laws.proofs.MapsTwo.{accepted-steps}
use Rattle.two_laws.proofs.CollectionTwo.{collection-sound}
use Rattle.two_laws.proofs.JudgedTwo.{number-on-sound}
use Rattle.model.specs.Demand2.{InMap, Has, IsNext, Listing, Names, Demand2}
use Rattle.map_laws.proofs.Pairs.{mem-enter, mem-leave, mem-reclass, next-once}
use Rattle.tree_laws.proofs.ListLaw.{list-law}

-- ---- a lookup in a list of pairs

found-to : (k r c : ℕ) (ps : List Slot) → lookup k ps ≡ Found r c → (s : Slot) × Memᴰ s ps × (s.key ≡ k) × (recording s ≡ r) × (class s ≡ c)
unfolding lookup
found-to k r c ps e = go (first_with k ps) (λ s q. first-mem k s ps q) e
  where
    go : (o : Option Slot) → ((s : Slot) → o ≡ some s → Memᴰ s ps × (s.key ≡ k)) → answer_of o (Absent (first_above k ps)) ≡ Found r c
        → (s : Slot) × Memᴰ s ps × (s.key ≡ k) × (recording s ≡ r) × (class s ≡ c)
    go none m q = let z : ◌≡◌ {A = ℕ} 0 1 = cc in absurd (omega arith)
    go (some s) m q = let a : recording s ≡ r = cc in let b : class s ≡ c = cc in (s, (m s refl).0, (m s refl).1, a, b)

found-from : (k r c : ℕ) (ps : List Slot) → rising 0 ps ≡ true → (s : Slot) × Memᴰ s ps × (s.key ≡ k) × (recording s ≡ r) × (class s ≡ c)
    → lookup k ps ≡ Found r c
found-from k r c ps h (s, m, e, a, b) = rw (← e, ← a, ← b) ((found-iff 0 s.key s.pointer ps h).1 m)

absent-is : (k : ℕ) (x : Next) (ps : List Slot) → rising 0 ps ≡ true
    → (lookup k ps ≡ Absent x) ↔ (((s : Slot) → Memᴰ s ps → s.key ≢ k) × IsNext k ps x)
absent-is k x ps h =
    let least = next-least 0 k ps h in (
      λ e. let u = (absent-iff k x ps).0 e in (λ s m. each-mem (λ (y : Slot). y.key ≡ k → ⊥) u.0 m, rw u.1 least),
      λ u. (absent-iff k x ps).1 (mem-each (λ (y : Slot). y.key ≡ k → ⊥) ps u.0, next-once k ps x (first_above k ps) u.1 least),
    )

-- ---- the map of a collection after a change of the maps

two-there : (b : Bool) (a y : List Slot) → unless_lacking b a ≡ some y → a ≡ y
two-there true a y e = let z : ◌≡◌ {A = ℕ} 0 1 = cc in absurd (omega arith)
two-there false a y e = ap (λ (o : Option (List Slot)). elim o as (λ c. List Slot) [ none ↦ a | some z ↦ z ]) e

module _ (t t' : Words) where
  -- both maps stay
  map-same-after : (n : ℕ) → no_collection n t ≡ false → maps_of t' ≡ maps_of t → map_of n t' ≡ map_of n t
  unfolding maps_of
  map-same-after n h e =
      by-number t (λ (j : ℕ). map_of j t' ≡ map_of j t) (ap (λ (x : Maps). x.one) e)
      (λ z. two-there (eqb (at t' 3) 0) (map_of 2 t') (map_of 2 t) (ap (λ (x : Maps). x.two) e ∙ rw (ne_eqb (at t 3) 0 z))) n h

  -- the map of collection m changes by f, and it alone
  map-after : (f : List Slot → List Slot) (m n : ℕ) → no_collection m t ≡ false → no_collection n t ≡ false → maps_of t'
      ≡ on_map m f (maps_of t) → map_of n t' ≡ cond (eqb m n) (f (map_of n t)) (map_of n t)
  unfolding maps_of on_map
  map-after f m n i h =
      by-number t (λ (j : ℕ). Goal j n)
      (by-number t (Goal 1) (λ e. ap (λ (x : Maps). x.one) e)
      (λ z e. two-there (eqb (at t' 3) 0) (map_of 2 t') (map_of 2 t) (ap (λ (x : Maps). x.two) e ∙ rw (ne_eqb (at t 3) 0 z))) n h)
      (λ y. by-number t (Goal 2) (λ e. ap (λ (x : Maps). x.one) e)
      (λ z e. two-there (eqb (at t' 3) 0) (map_of 2 t') (f (map_of 2 t)) (ap (λ (x : Maps). x.two) e ∙ rw (ne_eqb (at t 3) 0 z))) n h) m
      i
    where
      Goal : (j n : ℕ) → Type 0
      Goal j n = maps_of t' ≡ on_map j f (maps_of t) → map_of n t' ≡ cond (eqb j n) (f (map_of n t)) (map_of n t)

module _ (n : ℕ) (t : Words) (q : Sound t) (h : no_collection n t ≡ false) where
  s : sound t ≡ true
  s = (sound-same t).1 q

  v : sound_view (view_of n t) ≡ true
  v = collection-sound n t s h

  rises : rising 0 (map_of n t) ≡ true
  rises = map-rising (view_of n t) (sound-orderly (view_of n t) v)

  is-map : (x : Slot) → Has n t x ↔ InMap n t x
  is-map x =
      let w = view_of n t in
      let u = map-same w (sl.sound-orderly w v) x in
      let p : (m : ℕ) → Memᴰ x (kept w m) ↔ (Memᴰ x (w.node m).shown × (within w m x.key ≡ true)) =
      λ m. unfold kept in mem-filter (λ (y : Slot). within w m y.key) x (w.node m).shown in (
        λ m. let (j, a, b, c) = u.0 m in (j, a, b, ((p j).0 c).0, ((p j).0 c).1),
        λ m. let (j, a, b, c, d) = m in u.1 (j, a, b, (p j).1 (c, d)),
      )

  settles : (x : Call) (words dock : ℕ) → refusal x words dock t ≡ 0 → Settled (table_after x words dock t)
  unfolding table_after
  settles x words dock ok = rw ok ((settled-same (apply (stores_of x t) t)).0 (accepted-steps x words dock t s ok).all-settled)

  maps : (x : Call) (words dock : ℕ) → refusal x words dock t ≡ 0 → maps_of (table_after x words dock t) ≡ change x (maps_of t)
  unfolding table_after
  maps x words dock ok = rw ok (accepted-steps x words dock t s ok).all-map

  judged : (x : Call) (words dock : ℕ) → Names n x → refusal x words dock t
      ≡ first_number (tests_from18 x words dock (eleven_in x (repaired t)) (ten_in x (repaired t)) (map_of n t))
  judged (insertion m k r c) words dock e = rw e (number-on-sound (insertion n k r c) words dock t s h)
  judged (deletion m k) words dock e = rw e (number-on-sound (deletion n k) words dock t s h)
  judged (class_change m k c) words dock e = rw e (number-on-sound (class_change n k c) words dock t s h)
  judged repair words dock e = absurd e

  own-after : (x : Call) (f : List Slot → List Slot) (words dock : ℕ) → refusal x words dock t ≡ 0 → change x (maps_of t)
      ≡ on_map n f (maps_of t)
      → map_of n (table_after x words dock t) ≡ f (map_of n t)
  own-after x f words dock ok c = rw (eq-eqb n n refl) at (map-after t (table_after x words dock t) f n n h h (maps x words dock ok ∙ c))

  other-after : (x : Call) (m : ℕ) (f : List Slot → List Slot) (words dock : ℕ) → refusal x words dock t ≡ 0 → change x (maps_of t)
      ≡ on_map m f (maps_of t) → no_collection m t ≡ false → (m ≡ n → ⊥)
      → map_of n (table_after x words dock t) ≡ map_of n t
  other-after x m f words dock ok c i z =
      rw (ne_eqb m n z) at (map-after t (table_after x words dock t) f m n i h (maps x words dock ok ∙ c))

  keeps : (x : Call) (words dock : ℕ) → refusal x words dock t ≡ 0 → (Names n x → ⊥) → map_of n (table_after x words dock t) ≡ map_of n t
  keeps (insertion m k r c) words dock ok z =
      other-after (insertion m k r c) m (enter k (pointer_of r c)) words dock ok refl
      ((accepted-iff (insertion m k r c) words dock t).0 ok).collection z
  keeps (deletion m k) words dock ok z =
      other-after (deletion m k) m (leave k) words dock ok refl ((accepted-iff (deletion m k) words dock t).0 ok).collection z
  keeps (class_change m k c) words dock ok z =
      other-after (class_change m k c) m (reclass k c) words dock ok refl
      ((accepted-iff (class_change m k c) words dock t).0 ok).collection z
  keeps repair words dock ok z = map-same-after t (table_after repair words dock t) n h (maps repair words dock ok)

  lists : (low high : ℕ) (out : Words) → Listing (map_of n t) low high out (list n t low high out) (list_out n t low high out)
  lists low high out =
      rw (by_map.list-law n t s h low high out, by_map.list-out-law n t s h low high out) (list-law (map_of n t) low high out rises)

-- Every collection of every sound table.
pub demand2 : (n : ℕ) (t : Words) → Sound t → no_collection n t ≡ false → Demand2 n t
demand2 n t q h =
    let m = map_of n t in
    let r = rises n t q h in
    let by = search-law n t (s n t q h) h in
    record {
      map-is = is-map n t q h;
      keys-rise = rise-from-rising 0 m r;
      found = λ k r' c. rw (by k) (λ e. found-to k r' c m e, λ u. found-from k r' c m r u);
      absent = λ k x. rw (by k) (absent-is k x m r);
      answers = λ k j. rw (by k) (lookup-answers k j m);
      lists = lists n t q h;
      inserts = λ k r' c words dock ok x. rw (own-after n t q h (insertion n k r' c) (enter k (pointer_of r' c)) words dock ok refl)
          (mem-enter k (pointer_of r' c) x m);
      deletes = λ k words dock ok x. rw (own-after n t q h (deletion n k) (leave k) words dock ok refl) (mem-leave k x m);
      reclasses = λ k c words dock ok x. rw (own-after n t q h (class_change n k c) (reclass k c) words dock ok refl) (mem-reclass k c x m);
      keeps = keeps n t q h;
      settles = settles n t q h;
      judged = judged n t q h;
    }
