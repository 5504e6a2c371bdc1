-- A leaf that a deletion empties, and that is not its parent's leftmost child, is free after it, for either collection; a cut in between
-- leaves an ordinary leftover, and repair attaches the leaf again.
use Rattle.std.proofs.Common.{◌≡◌, ℕ, suc, ◌+◌, ◌-◌, ◌<◌, Bool, true, false, List, ◌++◌, length, take, sym, ap, ◌∙◌, append_assoc, arith}
use Rattle.std.proofs.Common.{take_all}
use Rattle.model.specs.Table.{Words, root_word, no_collection}
use Rattle.model.specs.SoundTest.{nothing, sound, settled}
use Rattle.model.specs.Orders.{Store, apply}
use Rattle.model.specs.Refusals.{has_key}
use Rattle.model.specs.Reached.{reached_all, map_of}
use Rattle.model.specs.Writes.{shift_out_at, free_stores, repair_stores, repaired, standing, frees_leaf, delete_settled, delete_stores}
use Rattle.model.specs.Writes.{FreeAfter}
use Rattle.list_laws.proofs.Lists.{take-append}
use Rattle.cut_laws.proofs.Applying.{apply-append}
use Rattle.two_laws.proofs.TwoLaw.{Tree, Low}
use Rattle.two_laws.proofs.Leaf.{leaf-out}
use Rattle.two_laws.proofs.Arrange.{Arr, arr-low, arr-covers, course-arr, settled-tree}
use Rattle.two_laws.proofs.DeleteTwo.{Lacks, stores-freeing, delete-course, can-free, free-two-cut, out-reached, settled-frees}
use Rattle.two_laws.proofs.DeleteTwo.{settled-stays}
use Rattle.two_laws.proofs.CallsTwo.{repairs, arranged, is-repaired, delete-two}
use Rattle.two_laws.proofs.AcceptedTwo.{there}
use Rattle.two_laws.proofs.JudgedTwo.{reached-later, unreachable-later}

-- t is settled and reaches these nodes
abbrev pub SettledReach : List ℕ → Words → Type 0
SettledReach ns t = (settled t ≡ true) × (reached_all t ≡ ns)

module _ (n : ℕ) (t : Words) (s : sound t ≡ true) (h : no_collection n t ≡ false) (k : ℕ)
    (has : has_key k (map_of n (repaired t)) ≡ true) where
  abbrev w : ℕ
  w = root_word n

  abbrev leaf : ℕ
  leaf = standing n (repaired t) 0 k

  abbrev parent : ℕ
  parent = standing n (repaired t) 1 k

  beside : (ws : List ℕ) × Arr w ws (repaired t)
  beside = arranged w (repaired t) (is-repaired w t s (there n t h).1)

  low : Low w beside.0
  low = arr-low w beside.0 (repaired t) beside.1

  tree : Tree w beside.0 (repaired t) nothing
  tree = settled-tree w beside.0 (repaired t) beside.1 (repairs t s).settles

  after-all : apply (delete_stores n t k) t ≡ apply (delete_settled n (repaired t) k) (repaired t)
  unfolding delete_stores repaired
  after-all = apply-append (repair_stores t) (delete_settled n (repaired t) k) t

  -- the leaf is freed, or not
  abbrev frees : Bool
  frees = frees_leaf n (repaired t) parent leaf

  pub delete-frees : frees_leaf n (repaired t) (standing n (repaired t) 1 k) (standing n (repaired t) 0 k) ≡ true
      → FreeAfter t (standing n (repaired t) 0 k) (apply (delete_stores n t k) t)
  delete-frees e =
      let ws = beside.0 in
      let f = settled-frees n ws (repaired t) beside.1 tree k has e in
      let a = course-arr 52 w ws (repaired t) _ _ (delete-course n ws (repaired t) beside.1 tree k has) beside.1 in
      rw after-all (record {
        range = f.free.range;
        unreached = ((arr-covers w ws _ a).split _).1 (f.free.unreached, f.free.off);
        one-more = f.one-more ∙ ap (λ (l : List ℕ). suc (length l)) (unreachable-later t s);
      })

  -- After any other deletion the same nodes are reached.
  pub delete-stays : frees_leaf n (repaired t) (standing n (repaired t) 1 k) (standing n (repaired t) 0 k) ≡ false
      → reached_all (apply (delete_stores n t k) t) ≡ reached_all t
  delete-stays e = ap reached_all after-all ∙ settled-stays n beside.0 (repaired t) beside.1 tree k has e ∙ reached-later t s

  -- ---- a cut in between

  -- the stores up to the leaf's shift out, the table that they leave, and the stores after them
  abbrev before : List Store
  before = repair_stores t ++ shift_out_at (repaired t) leaf k

  abbrev emptied : Words
  emptied = apply (shift_out_at (repaired t) leaf k) (repaired t)

  abbrev last : List Store
  last = free_stores emptied parent leaf

  stores-all : frees ≡ true → delete_stores n t k ≡ before ++ last
  unfolding delete_stores
  stores-all e = ap (λ (us : List Store). repair_stores t ++ us) (stores-freeing n (repaired t) k e)
      ∙ sym (append_assoc (repair_stores t) (shift_out_at (repaired t) leaf k) last)

  cut-table : frees ≡ true → (i : ℕ) → apply (take (length before + i) (delete_stores n t k)) t ≡ apply (take i last) emptied
  unfolding repaired
  cut-table e i =
      let m : length before + i - length before ≡ i = omega arith in
      ap (λ (us : List Store). apply (take (length before + i) us) t) (stores-all e)
      ∙ ap (λ (us : List Store). apply us t)
      (take-append (length before + i) before last
      ∙ ap (λ (us : List Store). us ++ take (length before + i - length before) last)
      (take_all (length before + i) before (omega arith)))
      ∙ apply-append before (take (length before + i - length before) last) t
      ∙ ap (apply (take (length before + i - length before) last)) (apply-append (repair_stores t) (shift_out_at (repaired t) leaf k) t)
      ∙ ap (λ (m : ℕ). apply (take m last) emptied) m

  -- After the parent's first store and before the last one the freed leaf lacks its slot, and repair attaches it again.
  pub delete-cut : frees ≡ true → (i : ℕ) → 0 < i → i < length last
      → Lacks w emptied parent leaf (apply (take (length before + i) (delete_stores n t k)) t)
      × SettledReach (reached_all t) (repaired (apply (take (length before + i) (delete_stores n t k)) t))
  delete-cut e i g j =
      let ws = beside.0 in
      let out = leaf-out w ws (repaired t) low tree k has in
      let c = free-two-cut w ws emptied low out.whole parent leaf (can-free n ws (repaired t) beside.1 tree k has e) i g j
      (course-arr 25 w ws (repaired t) _ _ out beside.1) in
      let sj = rw (cut-table e i) at ((delete-two n t s (there n t h).1 k has).part-sound (length before + i)) in
      rw (cut-table e i) (
        c,
        ((repairs _ sj).settles, reached-later _ sj ∙ c.reached ∙ out-reached n ws (repaired t) beside.1 tree k has ∙ reached-later t s),
      )
