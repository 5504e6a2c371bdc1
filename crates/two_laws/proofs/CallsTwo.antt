-- A write of one collection on a sound table. Every first part of its stores leaves a sound table, its own collection with the old map or
-- the
-- new one, the other collection's map or its lack as they are; all of them leave a settled table with the new map.
use Rattle.std.proofs.Common.{◌≡◌, ℕ, ◌+◌, ◌*◌, ◌≤◌, true, ◌≢◌, ◌⊎◌, ◌↔◌, List, [], ◌∷◌, ◌++◌, length, take, refl, ap, ◌∙◌, inl, inr, arith}
use mathlib.Core.Logic.{⊎_map}
use mathlib.Core.Option.{some}
use lib.Seq.{take-length}
use Rattle.model.specs.Table.{Words, at, root_word}
use Rattle.model.specs.Slots.{Slot, pointer_of, class_ok}
use Rattle.model.specs.Reached.{mapping, map_of}
use Rattle.model.specs.SoundTest.{Leftover, nothing, sound, settled}
use Rattle.model.specs.Orders.{Store, apply, orders}
use Rattle.model.specs.Refusals.{has_key}
use Rattle.model.specs.Ledger.{enter, leave, reclass}
use Rattle.model.specs.Writes.{repair_of, set_class_at, standing, repair_stores, repaired, insert_settled, insert_stores, delete_settled}
use Rattle.model.specs.Writes.{delete_stores, class_stores}
use Rattle.list_laws.proofs.Tools.{Each, Each-append, same-or-not}
use Rattle.cut_laws.proofs.Applying.{apply-append, always-append, length-apply}
use Rattle.cut_laws.proofs.FlushRule.{length-orders-append}
use Rattle.cut_laws.specs.Inside.{StoresInside}
use Rattle.two_laws.specs.Parts.{Enters}
use Rattle.step_laws.proofs.TreeAt.{tree_at}
use Rattle.two_laws.proofs.TwoLaw.{Tree, Low, Course}
use Rattle.two_laws.proofs.Leaf.{leaf-reclass}
use Rattle.two_laws.proofs.RepairTwo.{tree-repair}
use Rattle.two_laws.proofs.Arrange.{Arr, by-arr, arr-low, tree-sound, tree-settled, settled-tree, sound-tree, left-all, arr-lack}
use Rattle.two_laws.proofs.Arrange.{course-arr}
use Rattle.two_laws.proofs.DeleteTwo.{delete-course}
use Rattle.two_laws.proofs.InsertTwo.{insert-course}

-- ---- what stores do to a table of one or two collections

-- header word w of a collection that exists
abbrev pub Is : ℕ → Words → Type 0
Is w t = (w ≡ 1) ⊎ ((w ≡ 3) × (at t 3 ≢ 0))

pub record OwnSteps (b w : ℕ) (t : Words) (ss : List Store) (m : List Slot) : Type 0 where
  pub part-sound : (j : ℕ) → sound (apply (take j ss) t) ≡ true
  pub part-own : (j : ℕ) → (mapping (tree_at w (apply (take j ss) t)) ≡ mapping (tree_at w t))
      ⊎ (mapping (tree_at w (apply (take j ss) t)) ≡ m)
  pub part-other : (j x : ℕ) → Is x t → x ≢ w → mapping (tree_at x (apply (take j ss) t)) ≡ mapping (tree_at x t)
  pub part-lack : (j : ℕ) → (at (apply (take j ss) t) 3 ≡ 0) ↔ (at t 3 ≡ 0)
  pub settles : settled (apply ss t) ≡ true
  pub maps : mapping (tree_at w (apply ss t)) ≡ m
  pub few : length (orders ss) ≤ b
  pub inside : StoresInside (length t) ss

-- the other words of the arrangement
pub arr-other : (w : ℕ) (ws : List ℕ) (t : Words) (x : ℕ) (P : ℕ → Type 0) → Arr w ws t → Is x t → x ≢ w → Each P ws → P x
arr-other w ws t x P r i z = by-arr w ws t (λ w ws. x ≢ w → Each P ws → P x) r
    (λ e z p. alone e z i)
    (λ e z p. first z p.0 i)
    (λ e z p. second z p.0 i)
    z
  where
    alone : at t 3 ≡ 0 → x ≢ 1 → Is x t → P x
    alone e z (inl q) = absurd (z q)
    alone e z (inr q) = absurd (q.1 e)

    first : x ≢ 1 → P 3 → Is x t → P x
    first z p (inl q) = absurd (z q)
    first z p (inr q) = rw q.0 p

    second : x ≢ 3 → P 1 → Is x t → P x
    second z p (inl q) = rw q p
    second z p (inr q) = absurd (z q.0)

pub course-steps : (b w : ℕ) (ws : List ℕ) (t : Words) (ss : List Store) (m : List Slot) → Arr w ws t
    → Course b w ws t ss m → OwnSteps b w t ss m
course-steps b w ws t ss m r c = record {
  part-sound = λ j. tree-sound w ws (apply (take j ss) t) (c.part j).0 (arr-lack w ws t (apply (take j ss) t) (c.lack j) r) (c.part j).1;
  part-own = c.part-map;
  part-other = λ j x i z. arr-other w ws t x
      (λ (x : ℕ). mapping (tree_at x (apply (take j ss) t)) ≡ mapping (tree_at x t)) r i z (c.others j);
  part-lack = c.lack;
  settles = tree-settled w ws (apply ss t) (course-arr b w ws t ss m c r) c.whole;
  maps = c.maps;
  few = c.few;
  inside = c.inside;
}

-- ---- repair, wherever the leftover is

pub repair-list : (w : ℕ) (ws : List ℕ) (t : Words) (y : Leftover) → Arr w ws t → Tree w ws t y → repair_stores t ≡ repair_of t (some y)
unfolding repair_stores
repair-list w ws t y r f = ap (repair_of t) (left-all w ws t y r f)

-- every collection keeps its map
pub record Repairs (t : Words) : Type 0 where
  pub part-sound : (j : ℕ) → sound (apply (take j (repair_stores t)) t) ≡ true
  pub part-map : (j x : ℕ) → Is x t → mapping (tree_at x (apply (take j (repair_stores t)) t)) ≡ mapping (tree_at x t)
  pub part-lack : (j : ℕ) → (at (apply (take j (repair_stores t)) t) 3 ≡ 0) ↔ (at t 3 ≡ 0)
  pub settles : settled (repaired t) ≡ true
  pub few : length (orders (repair_stores t)) ≤ 51
  pub inside : StoresInside (length t) (repair_stores t)

-- in a sound table each first part of the repair leaves it sound with its maps, and the whole leaves it settled
pub repairs : (t : Words) → sound t ≡ true → Repairs t
unfolding repaired
repairs t s =
    let u = sound-tree t s in
    let w = u.word in
    let c : OwnSteps 51 w t (repair_stores t) (mapping (tree_at w t)) =
    rw (repair-list w u.others t u.leftover u.arranged u.tree)
    (course-steps 51 w u.others t _ (mapping (tree_at w t)) u.arranged
    (tree-repair w u.others t u.leftover (arr-low w u.others t u.arranged) u.tree)) in
    record {
      part-sound = c.part-sound;
      part-map = λ j x i. go w j x i c (same-or-not x w);
      part-lack = c.part-lack;
      settles = c.settles;
      few = c.few;
      inside = c.inside;
    }
  where
    once : {A : Type 0} → A ⊎ A → A
    once (inl a) = a
    once (inr a) = a

    go : (w j x : ℕ) → Is x t → OwnSteps 51 w t (repair_stores t) (mapping (tree_at w t)) → (x ≡ w) ⊎ (x ≢ w)
        → mapping (tree_at x (apply (take j (repair_stores t)) t)) ≡ mapping (tree_at x t)
    go w j x i c (inl e) = rw e (once (c.part-own j))
    go w j x i c (inr z) = c.part-other j x i z

-- ---- a write after repair

pub after-repair : (b w : ℕ) (t : Words) (us : List Store) (m : List Slot) → sound t ≡ true → Is w t → OwnSteps b w (repaired t) us m
    → OwnSteps (51 + b) w t (repair_stores t ++ us) m
unfolding repaired
after-repair b w t us m s i g =
    let f = repairs t s in
    let ss = repair_stores t in
    let same : (x : ℕ) → Is x t → mapping (tree_at x (apply ss t)) ≡ mapping (tree_at x t) =
    λ x h. rw take-length at (f.part-map (length ss) x h) in
    let h : (at (apply ss t) 3 ≡ 0) ↔ (at t 3 ≡ 0) = rw take-length at (f.part-lack (length ss)) in
    record {
      part-sound = always-append (λ (u : Words). sound u ≡ true) ss us t f.part-sound g.part-sound;
      part-own = always-append (λ (u : Words). (mapping (tree_at w u) ≡ mapping (tree_at w t)) ⊎ (mapping (tree_at w u) ≡ m)) ss us t
          (λ j. inl (f.part-map j w i)) (λ j. ⊎_map (λ e. e ∙ same w i) (λ e. e) (g.part-own j));
      part-other = λ j x q z. always-append (λ (u : Words). mapping (tree_at x u) ≡ mapping (tree_at x t)) ss us t (λ j. f.part-map j x q)
          (λ j. g.part-other j x (still x h q) z ∙ same x q) j;
      part-lack = always-append (λ (u : Words). (at u 3 ≡ 0) ↔ (at t 3 ≡ 0)) ss us t f.part-lack
          (λ j. ((λ z. h.0 ((g.part-lack j).0 z)), (λ z. (g.part-lack j).1 (h.1 z))));
      settles = rw (apply-append ss us t) g.settles;
      maps = rw (apply-append ss us t) g.maps;
      few = omega (arith, length-orders-append ss us, f.few, g.few);
      inside = Each-append _ ss us f.inside (rw (length-apply ss t) at g.inside);
    }
  where
    still : (x : ℕ) → ((at (repaired t) 3 ≡ 0) ↔ (at t 3 ≡ 0)) → Is x t → Is x (repaired t)
    still x h (inl e) = inl e
    still x h (inr e) = inr (e.0, λ z. e.1 (h.0 z))

-- the collection's arrangement
pub arranged : (w : ℕ) (t : Words) → Is w t → (ws : List ℕ) × Arr w ws t
arranged w t (inl e) = go (same-or-not (at t 3) 0)
  where
    go : (at t 3 ≡ 0) ⊎ (at t 3 ≢ 0) → (ws : List ℕ) × Arr w ws t
    go (inl z) = ([], inl (e, (refl, z)))
    go (inr z) = (3 ∷ [], inr (inl (e, (refl, z))))
arranged w t (inr e) = (1 ∷ [], inr (inr (e.0, (refl, e.1))))

-- a collection that is there is still there after repair
pub is-repaired : (w : ℕ) (t : Words) → sound t ≡ true → Is w t → Is w (repaired t)
unfolding repaired
is-repaired w t s i = go i (rw take-length at ((repairs t s).part-lack (length (repair_stores t))))
  where
    go : Is w t → ((at (apply (repair_stores t) t) 3 ≡ 0) ↔ (at t 3 ≡ 0)) → Is w (apply (repair_stores t) t)
    go (inl e) h = inl e
    go (inr e) h = inr (e.0, λ z. e.1 (h.0 z))

repaired-map : (w : ℕ) (t : Words) → sound t ≡ true → Is w t → mapping (tree_at w (repaired t)) ≡ mapping (tree_at w t)
unfolding repaired
repaired-map w t s i = rw take-length at ((repairs t s).part-map (length (repair_stores t)) w i)

-- a settled table has nothing to repair
pub settled-repair : (t : Words) → settled t ≡ true → repair_stores t ≡ []
unfolding repair_of
settled-repair t s = let a = arranged 1 t (inl refl) in repair-list 1 a.0 t nothing a.1 (settled-tree 1 a.0 t a.1 s)

-- ---- the calls

module _ (n : ℕ) (t : Words) (s : sound t ≡ true) (i : Is (root_word n) t) (k : ℕ) where
  abbrev w : ℕ
  w = root_word n

  beside : (ws : List ℕ) × Arr w ws (repaired t)
  beside = arranged w (repaired t) (is-repaired w t s i)

  low : Low w beside.0
  low = arr-low w beside.0 (repaired t) beside.1

  tree : Tree w beside.0 (repaired t) nothing
  tree = settled-tree w beside.0 (repaired t) beside.1 (repairs t s).settles

  -- a change of the repaired table's map is one of the table's
  after : (b : ℕ) (us : List Store) (f : List Slot → List Slot) → Course b w beside.0 (repaired t) us (f (map_of n (repaired t)))
      → OwnSteps (51 + b) w t (repair_stores t ++ us) (f (map_of n t))
  after b us f c = after-repair b w t us (f (map_of n t)) s i
      (rw (repaired-map w t s i) at (course-steps b w beside.0 (repaired t) us _ beside.1 c))

  -- An accepted deletion.
  pub delete-two : has_key k (map_of n (repaired t)) ≡ true → OwnSteps 103 (root_word n) t (delete_stores n t k) (leave k (map_of n t))
  unfolding delete_stores
  delete-two h = after 52 (delete_settled n (repaired t) k) (leave k) (delete-course n beside.0 (repaired t) beside.1 tree k h)

  -- An accepted class change.
  pub class-two : (c : ℕ) → class_ok c ≡ true → has_key k (map_of n (repaired t)) ≡ true
      → OwnSteps 53 (root_word n) t (class_stores n t k c) (reclass k c (map_of n t))
  unfolding class_stores
  class-two c ok h = after 2 (set_class_at (repaired t) (standing n (repaired t) 0 k) k c) (reclass k c)
      (leaf-reclass w beside.0 (repaired t) low tree k h c ok)

  -- An accepted insertion: at most 51 orders of repair, 38 of a new root, 67 of each of 15 splits, and 27 of the shift in.
  pub insert-two : (r c : ℕ) → Enters n k r c (repaired t)
      → OwnSteps 1121 (root_word n) t (insert_stores n t k (pointer_of r c)) (enter k (pointer_of r c) (map_of n t))
  unfolding insert_stores
  insert-two r c e = after (38 + (15 * 67 + 27)) (insert_settled n (repaired t) k (pointer_of r c)) (enter k (pointer_of r c))
      (insert-course n beside.0 (repaired t) k r c beside.1 tree e)
