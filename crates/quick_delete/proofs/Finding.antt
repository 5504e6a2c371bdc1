-- What a quick deletion finds: its tests in the order of the code.
use Rattle.std.proofs.Common.{◌≡◌, ℕ, zero, suc, ◌-◌, ◌≤◌, Bool, true, false, cond, ◌&&◌, ◌≢◌, length, get_or, sym, refl, ap, ◌∙◌, arith}
use Rattle.std.proofs.Common.{ltb-true, eqb-true}
use mathlib.Core.Bool.{and-false}
use Rattle.std.specs.Prelude.{Option, is_some}
use Rattle.model.specs.declared.Refusal.{Refusal}
use Rattle.model.specs.Numbers.{refusal_number}
use Rattle.model.specs.Table.{Words, at, nodes, root_word, header_ok, no_collection}
use Rattle.model.specs.Slots.{node_view, view_of, height}
use Rattle.model.specs.Search.{first_with}
use Rattle.model.specs.Writes.{child_before, frees_leaf, standing}
use Rattle.model.specs.Refusals.{has_key, unless_refused}
use Rattle.model.specs.Summary.{summary_words, marks_in, way_ok, leaf_for, key_there, frees, neighbour_ok, quick_list_number}
use Rattle.list_laws.proofs.Tools.{and-iff, not-false-iff}
use Rattle.slots.specs.Held.{held_by}
use Rattle.summary_laws.proofs.AnyWays.{way-met}
use Rattle.step_laws.proofs.Accepted.{none-holds}
use Rattle.way.specs.declared.Way.{Way}
use Rattle.way.specs.Ways.{Along}
use Rattle.way.proofs.Walking.{along-on}
use Rattle.quick.proofs.Beginning.{held-key}
use Rattle.quick.proofs.Ending.{begin_tests, refusal-some}
use Rattle.quick_delete.specs.declared.Found.{Found}
use Rattle.quick_delete.specs.Finds.{neighbour_there, found_number, found_for}

-- a number that refuses stays
kept : (q m : ℕ) → q ≢ 0 → unless_refused q m q ≡ q
kept zero m z = absurd (z refl)
kept (suc q) m z = refl

-- a deletion that frees its leaf is in a tree of more than one level
pub frees-high : (n : ℕ) (t : Words) (k : ℕ) → frees n t k ≡ true → 1 ≤ height (view_of n t)
unfolding frees_leaf
frees-high n t k e = let u = simp and-iff at e in ltb-true 0 (height (view_of n t)) u.1.0

-- the tests of the way, passed
pub record Through (n : ℕ) (ws t : Words) (k : ℕ) : Type 0 where
  pub header : header_ok t ≡ true
  pub collection : no_collection n t ≡ false
  pub long : length ws ≡ summary_words (nodes t)
  pub way : way_ok (marks_in (nodes t) ws) (view_of n t) k ≡ true

pub through : (n : ℕ) (ws t : Words) (k : ℕ) → quick_list_number n ws t k ≡ 0 → Through n ws t k
unfolding quick_list_number
through n ws t k z =
    let u = (none-holds (begin_tests n ws t k) ((λ e. omega arith), ((λ e. omega arith), ((λ e. omega arith), ((λ e. omega arith), tt))))).0
    z in
    record {
      header = (not-false-iff _).0 u.0;
      collection = u.1.0;
      long = eqb-true _ _ ((not-false-iff _).0 u.1.1.0);
      way = (not-false-iff _).0 u.1.1.1.0;
    }

-- the leaf and its parent, whether it is freed and what it has for k, on a way that passed its tests
pub record Seen (n : ℕ) (ws t : Words) (k x p : ℕ) (b : Bool) (h : Option ℕ) : Type 0 where
  pub number : 0 ≡ quick_list_number n ws t k
  pub leaf : x ≡ leaf_for n t k
  pub parent : p ≡ standing n t 1 k
  pub freed : b ≡ frees n t k
  pub held : h ≡ held_by (first_with k (node_view t x).shown)

-- as the code reads them, by the root r
pub seen : {n : ℕ} {ws t : Words} {k : ℕ} {w : Way} {r x p : ℕ} {b : Bool} {h : Option ℕ} → 0 ≡ quick_list_number n ws t k
    → Along n (marks_in (nodes t) ws) t k w
    → r ≡ at t (root_word n) → x ≡ get_or w.nodes (w.height - 0) 0 → p ≡ get_or w.nodes (w.height - 1) 0
    → ((m : ℕ) → r ≡ at t (root_word m) → b ≡ frees_leaf m t p x)
    → h ≡ held_by (first_with k (node_view t x).shown) → Seen n ws t k x p b h
seen z a er ex ep eb eh =
    let leaf = along-on a 0 _ ex in
    let parent = along-on a 1 _ ep in
    record { number = z; leaf = leaf; parent = parent; freed = rw (← leaf, ← parent) (eb _ er); held = eh }

-- 2, 17, 26, and 4 by the way
pub way-refused : (n : ℕ) (ws t : Words) (k : ℕ) (r : Refusal) → refusal_number r ≡ quick_list_number n ws t k
    → refusal_number r ≡ found_number n ws t k
unfolding found_number
way-refused n ws t k r e = e ∙ sym (kept (quick_list_number n ws t k) (cond (neighbour_ok n t k) 0 4) (λ z. refusal-some r (e ∙ z)))

module _ {n : ℕ} {ws t : Words} {k x p : ℕ} {b : Bool} {h : Option ℕ} (s : Seen n ws t k x p b h) where
  pub found-as : (f : Found) → f ≡ record { leaf = x; parent = p; frees = b; pointer = h } → f ≡ found_for n t k
  unfolding found_for
  found-as f e = e ∙ rw (s.held, s.freed, s.parent, s.leaf)

  -- the parent of a leaf to be freed hides nothing
  pub parent-plain : b ≡ true → (node_view t p).hidden ≡ 0
  parent-plain e = rw s.parent
      (way-met n (marks_in (nodes t) ws) t k (through n ws t k (sym s.number)).way 1 (frees-high n t k (sym s.freed ∙ e))).plain

  -- ---- 4 by the leaf before it

  there : is_some h ≡ key_there n t k
  there = ap is_some s.held ∙ held-key k (node_view t x).shown ∙ ap (λ (y : ℕ). has_key k (node_view t y).shown) s.leaf

  number-is : found_number n ws t k ≡ cond (neighbour_ok n t k) 0 4
  unfolding found_number
  number-is = rw (← s.number)

  neighbour-is : is_some h ≡ true → b ≡ true → neighbour_ok n t k ≡ neighbour_there t p x
  unfolding neighbour_ok neighbour_there child_before
  neighbour-is e f = let both : (key_there n t k && frees n t k) ≡ true =
      (and-iff _ _).1 (sym there ∙ e, sym s.freed ∙ f) in rw (both, s.parent, s.leaf)

  pub neighbour-refuses : is_some h ≡ true → b ≡ true → neighbour_there t p x ≡ false → 4 ≡ found_number n ws t k
  neighbour-refuses e f g = sym (number-is ∙ rw (neighbour-is e f ∙ g))

  pub neighbour-passes : is_some h ≡ true → b ≡ true → neighbour_there t p x ≡ true → 0 ≡ found_number n ws t k
  neighbour-passes e f g = sym (number-is ∙ rw (neighbour-is e f ∙ g))

  -- no leaf is to be freed
  spared : (key_there n t k && frees n t k) ≡ false → 0 ≡ found_number n ws t k
  unfolding neighbour_ok
  spared e = let ok : neighbour_ok n t k ≡ true = rw e in sym (number-is ∙ rw ok)

  pub stays-passes : b ≡ false → 0 ≡ found_number n ws t k
  stays-passes e = spared (ap (λ (c : Bool). key_there n t k && c) (sym s.freed ∙ e) ∙ and-false (key_there n t k))

  pub absent-passes : is_some h ≡ false → 0 ≡ found_number n ws t k
  absent-passes e = spared (ap (λ (c : Bool). c && frees n t k) (sym there ∙ e))
