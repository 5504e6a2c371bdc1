-- A quick deletion and a quick class change on any table with any summary: where they are not refused their stores lie in the table, and
-- their
-- orders in a list of 2,560 words.
use Rattle.std.proofs.Common.{◌≡◌, ℕ, zero, suc, ◌+◌, ◌-◌, ◌*◌, ◌<◌, ◌≤◌, Bool, true, false, ◌&&◌, ◌||◌, eqb, ltb, ◌≢◌, List, [], length}
use Rattle.std.proofs.Common.{get_or, sym, refl, ap, ◌∙◌, arith, ltb-true, eqb-true}
use mathlib.Core.Bool.{false≢true}
use Rattle.model.specs.Table.{Words, nodes, in_range, node_start, has_node}
use Rattle.model.specs.Slots.{NodeView, View, node_view, view, view_of, height}
use Rattle.model.specs.Search.{below, within, moved, down, on_level, passes, locate, path_from, path}
use Rattle.model.specs.Orders.{Store, apply}
use Rattle.model.specs.Shifts.{place_of}
use Rattle.model.specs.Writes.{shift_out_at, set_class_at, child_before, frees_leaf, free_stores, standing_in, standing, delete_settled}
use Rattle.model.specs.Summary.{fit_node, is_there, way_ok, key_there, frees, neighbour_ok}
use Rattle.list_laws.proofs.Tools.{and-iff, leb-iff, all-each}
use Rattle.list_laws.proofs.Members.{each-at}
use Rattle.cut_laws.proofs.Applying.{length-apply}
use Rattle.tree_laws.proofs.Rows.{range-iff}
use Rattle.tree_laws.proofs.SearchLaw.{path-length}
use Rattle.step_laws.proofs.Bounds.{shift-out-few, shift-out-inside}
use Rattle.summary_laws.proofs.Testing.{has-place}
use Rattle.summary_laws.proofs.ShiftedOut.{out-other, out-fence, out-before}
use Rattle.summary_laws.proofs.AnyWords.{Fits, fits-none, fits-append, fits-more, fits-one, in-table}

-- ---- the nodes of a way that passed the tests

module _ (v : View) (k : ℕ) where
  moved-level : (l n : ℕ) → passes v l n ≡ true → on_level v l (moved v n k) ≡ true
  unfolding passes moved
  moved-level l n e = let u = (and-iff (on_level v l n) _).0 e in go (within v n k) refl u.0 u.1
    where
      go : (b : Bool) → within v n k ≡ b → on_level v l n ≡ true → (eqb (v.node n).sibling 0 || on_level v l (v.node n).sibling) ≡ true
          → on_level v l (moved v n k) ≡ true
      go true q a c = rw (q, moved) a
      go false q a c = rw (q, moved) (other (eqb (v.node n).sibling 0) refl c)
        where
          other : (b : Bool) → eqb (v.node n).sibling 0 ≡ b → (eqb (v.node n).sibling 0 || on_level v l (v.node n).sibling) ≡ true
              → on_level v l (v.node n).sibling ≡ true
          other false z c = ap (λ (b : Bool). b || on_level v l (v.node n).sibling) (sym z) ∙ c
          other true z c = absurd (false≢true (sym q ∙ unfold below in ap (λ (b : Bool). b || ltb k (v.node (v.node n).sibling).fence) z))

  -- search says so too, as `locate-passed`: the laws that both crates name are list_laws and table_laws, and neither speaks of a descent
  locate-goes : (l n : ℕ) → passes v (suc l) n ≡ true → locate v (suc l) n k ≡ locate v l (down v (moved v n k) k) k
  unfolding locate
  locate-goes l n q = rw (q, locate)

  locate-fails : (d n : ℕ) → passes v d n ≡ false → is_there (locate v d n k) ≡ false
  unfolding locate
  locate-fails zero n q = rw (q, locate)
  locate-fails (suc l) n q = rw (q, locate)

  passed : (d n : ℕ) → is_there (locate v d n k) ≡ true → passes v d n ≡ true
  passed d n e = go (passes v d n) refl
    where
      go : (b : Bool) → passes v d n ≡ b → passes v d n ≡ true
      go true q = q
      go false q = absurd (false≢true (sym (locate-fails d n q) ∙ e))

  -- each node is on its level
  level-at : (d n i : ℕ) → is_there (locate v d n k) ≡ true → i ≤ d → on_level v (d - i) (get_or (path_from v d n k) i 0) ≡ true
  unfolding path_from
  level-at zero n zero e h = let z : 0 - 0 ≡ 0 = omega arith in rw z (moved-level 0 n (passed 0 n e))
  level-at zero n (suc i) e h = absurd (omega arith)
  level-at (suc l) n zero e h = let z : suc l - 0 ≡ suc l = omega arith in rw z (moved-level (suc l) n (passed (suc l) n e))
  level-at (suc l) n (suc i) e h =
      let z : suc l - suc i ≡ l - i = omega arith in
      rw z (level-at l (down v (moved v n k) k) i (ap is_there (sym (locate-goes l n (passed (suc l) n e))) ∙ e) (omega arith))

-- what the tests say of the node that stands for k on level l
pub record Met (n : ℕ) (t : Words) (k l : ℕ) : Type 0 where
  pub range : in_range (nodes t) (standing n t l k) ≡ true
  pub level : (node_view t (standing n t l k)).level ≡ l
  pub plain : (node_view t (standing n t l k)).hidden ≡ 0
  pub few : length (node_view t (standing n t l k)).shown ≤ 11

-- if the tests along the way to k pass, the node that stands for k on each level is what they say
pub way-met : (n : ℕ) (ms t : Words) (k : ℕ) → way_ok ms (view_of n t) k ≡ true → (l : ℕ) → l ≤ height (view_of n t) → Met n t k l
unfolding way_ok fit_node on_level standing_in
way-met n ms t k e l h =
    let v = view_of n t in
    let u = simp and-iff at e in
    let i = height v - l in
    let z : height v - i ≡ l = omega arith in
    let on : (in_range (nodes t) (standing n t l k) ≡ true) × (eqb (node_view t (standing n t l k)).level l ≡ true) =
    (and-iff _ _).0 (rw z at (level-at v k (height v) v.root i u.1.0 (omega arith))) in
    let fit = each-at (λ (m : ℕ). fit_node ms v m ≡ true) (path v k) 0 i (omega (arith, path-length v k))
    ((all-each (fit_node ms v) (path v k)).0 u.1.1) in
    let f = simp and-iff at fit in
    record { range = on.0; level = eqb-true _ _ on.1; plain = eqb-true _ _ f.1.0; few = (leb-iff _ _).0 f.1.1 }

-- ---- the stores

module _ (n : ℕ) (ms t : Words) (k : ℕ) (size : length t ≡ 8 + 32 * nodes t) (way : way_ok ms (view_of n t) k ≡ true)
    (has : key_there n t k ≡ true) where
  abbrev x : ℕ
  x = standing n t 0 k

  abbrev p : ℕ
  p = standing n t 1 k

  leaf : Met n t k 0
  leaf = way-met n ms t k way 0 (omega arith)

  x-in : has_node t (standing n t 0 k) ≡ true
  x-in = in-table (nodes t) t size x leaf.range

  place : place_of k (node_view t (standing n t 0 k)).shown < length (node_view t (standing n t 0 k)).shown
  place = has-place k (node_view t x).shown has

  -- a class change is one store and one flush
  pub class-fits : (c : ℕ) → Fits 2 (length t) (set_class_at t (standing n t 0 k) k c)
  unfolding set_class_at node_start
  class-fits c = let u = (range-iff (nodes t) x).0 leaf.range in fits-one (length t) _ _ (omega (arith, place, leaf.few, u.0, u.1, size))

  out-fits : Fits 25 (length t) (shift_out_at t (standing n t 0 k) k)
  out-fits = record { inside = shift-out-inside t x k leaf.few place x-in; few = shift-out-few t x k leaf.few place }

  -- ---- the leaf freed

  abbrev t₁ : Words
  t₁ = apply (shift_out_at t (standing n t 0 k) k) t

  module _ (ok : neighbour_ok n t k ≡ true) (free : frees_leaf n t (standing n t 1 k) (standing n t 0 k) ≡ true) where
    high : 1 ≤ height (view_of n t)
    unfolding frees_leaf
    high = let u = simp and-iff at free in ltb-true 0 (height (view_of n t)) u.1.0

    parent : Met n t k 1
    parent = way-met n ms t k way 1 high

    apart : standing n t 1 k ≢ standing n t 0 k
    apart e = omega (arith, leaf.level, parent.level, ap (λ (m : ℕ). (node_view t m).level) e)

    some : 1 ≤ standing n t 0 k
    some = ((range-iff (nodes t) x).0 leaf.range).0

    same-p : node_view t₁ (standing n t 1 k) ≡ node_view t (standing n t 1 k)
    same-p = out-other t x k some leaf.few place p apart

    same-fence : (node_view t₁ (standing n t 0 k)).fence ≡ (node_view t (standing n t 0 k)).fence
    same-fence = out-fence t x k some leaf.few place

    same-before : child_before (view t₁) (standing n t 1 k) (standing n t 0 k)
        ≡ child_before (view_of n t) (standing n t 1 k) (standing n t 0 k)
    unfolding child_before
    same-before = out-before t x k some leaf.few place p apart

    tests : (place_of (node_view t (standing n t 0 k)).fence (node_view t (standing n t 1 k)).shown < length
        (node_view t (standing n t 1 k)).shown)
        × (in_range (nodes t) (child_before (view_of n t) (standing n t 1 k) (standing n t 0 k)) ≡ true)
    unfolding neighbour_ok
    tests =
        let both : (key_there n t k && frees n t k) ≡ true = (and-iff _ _).1 (has, free) in
        let u = (and-iff _ _).0 (rw both at ok) in
        (ltb-true _ _ u.0, u.1)

    free-fits : Fits 27 (length t) (free_stores t₁ (standing n t 1 k) (standing n t 0 k))
    unfolding free_stores node_start
    free-fits =
        let long : length t₁ ≡ length t = length-apply (shift_out_at t x k) t in
        let slots : (node_view t₁ p).shown ≡ (node_view t p).shown = ap (λ (v : NodeView). v.shown) same-p in
        let few : length (node_view t₁ p).shown ≤ 11 = omega (arith, parent.few, ap length slots) in
        let at-place : place_of (node_view t₁ x).fence (node_view t₁ p).shown ≡ place_of (node_view t x).fence (node_view t p).shown =
        ap (λ (f : ℕ). place_of f (node_view t₁ p).shown) same-fence ∙ ap (place_of (node_view t x).fence) slots in
        let there : place_of (node_view t₁ x).fence (node_view t₁ p).shown < length (node_view t₁ p).shown =
        omega (arith, tests.0, at-place, ap length slots) in
        let p-in : has_node t₁ p ≡ true = in-table (nodes t) t₁ (long ∙ size) p parent.range in
        let q = (range-iff (nodes t) _).0 tests.1 in
        let near₁ : Fits 25 (length t₁) (shift_out_at t₁ p (node_view t₁ x).fence) =
        record {
          inside = shift-out-inside t₁ p (node_view t₁ x).fence few there p-in;
          few = shift-out-few t₁ p (node_view t₁ x).fence few there;
        } in
        let near : Fits 25 (length t) (shift_out_at t₁ p (node_view t₁ x).fence) = rw long at near₁ in
        fits-append 25 2 (length t) (shift_out_at t₁ p (node_view t₁ x).fence) _ near
        (fits-one (length t) _ _ (rw same-before (omega (arith, q.0, q.1, size))))

  -- The stores of a quick deletion, whatever the words are.
  pub delete-fits : neighbour_ok n t k ≡ true → Fits 52 (length t) (delete_settled n t k)
  unfolding delete_settled
  delete-fits ok = fits-append 25 27 (length t) (shift_out_at t x k) _ out-fits (go (frees_leaf n t p x) refl)
    where
      go : (b : Bool) → frees_leaf n t (standing n t 1 k) (standing n t 0 k) ≡ b
          → Fits 27 (length t)
          (elim (frees_leaf n t (standing n t 1 k) (standing n t 0 k)) as (λ b. List Store)
          [ true ↦ free_stores t₁ (standing n t 1 k) (standing n t 0 k) | false ↦ [] ])
      go true e = rw e (free-fits ok e)
      go false e = rw e (fits-more 0 27 (length t) [] (omega arith) (fits-none (length t)))
