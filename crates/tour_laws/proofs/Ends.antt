-- The tour ends: from any words, the fuel suffices for every meeting.
use Rattle.std.proofs.Common.{◌≡◌, ℕ, zero, suc, pred, ◌+◌, ◌-◌, ◌*◌, ◌≤◌, Bool, true, false, cond, ◌||◌, eqb, List, [], ◌∷◌, ◌++◌, map}
use Rattle.std.proofs.Common.{length, drop, sym, refl, ap, ◌∙◌, arith, length-append, length-take}
use lib.ListN.{length-map, length-replicate}
use Rattle.model.specs.Table.{Words, nodes, node, node_from, node_start, has_node, blank}
use Rattle.model.specs.Slots.{Slot, node_view, slots_of, in_use, used}
use Rattle.model.specs.SoundTest.{elem, distinct}
use Rattle.list_laws.proofs.Tools.{Each, Each-split, Each-append}
use Rattle.list_laws.proofs.Filters.{filter-short}
use Rattle.list_laws.proofs.Distinct.{distinct-cons, distinct-middle, UpTo, pigeonhole}
use Rattle.tree_laws.proofs.Rows.{range-iff}
use Rattle.model.specs.Salvage.{Placed, Meeting, meet, shown_at, followed, meetings, may_enter, start}
use Rattle.list_laws.proofs.Slots.{pairs-count}
use Rattle.tour_laws.specs.Visits.{order, unmet, toured_from}
use Rattle.tour_laws.proofs.Steps.{order-yes, order-no, unmet-yes, unmet-no, may-iff, may-elem}

-- ---- a node meets 14 at most

use-short : (ss : List Slot) → length (in_use ss) ≤ length ss
unfolding in_use
use-short [] = omega arith
use-short (s ∷ ss) = go (eqb s.pointer 0) (use-short ss)
  where
    go : (b : Bool) → length (in_use ss) ≤ length ss
        → length {A = Slot} (elim b as (λ b. List Slot) [ true ↦ [] | false ↦ s ∷ in_use ss ]) ≤ suc (length ss)
    go true h = omega arith
    go false h = omega arith

-- no more slots are shown than there are
pub shown-short : (p i : ℕ) (ss : List Slot) → length (shown_at p i ss) ≤ length ss
unfolding shown_at
shown-short p i [] = omega arith
shown-short p i (s ∷ ss) = go (eqb s.pointer p) (shown-short s.pointer (suc i) ss)
  where
    go : (b : Bool) → length (shown_at s.pointer (suc i) ss) ≤ length ss
        → length {A = Placed}
        (elim b as (λ b. List Placed)
        [ true ↦ shown_at s.pointer (suc i) ss | false ↦ record { place = i; slot = s } ∷ shown_at s.pointer (suc i) ss ]) ≤ suc
        (length ss)
    go true h = omega arith
    go false h = omega arith

-- a node has at most 24 slot words
pub node-slots : (t : Words) (n : ℕ) → length (node t n).slots ≤ 24
unfolding node node_from blank
node-slots t n = go (has_node t n)
  where
    go : (b : Bool) → length (cond b (node_from t (node_start n)) blank).slots ≤ 24
    go true = omega (arith, length-take 24 (drop (node_start n + 8) t))
    go false = omega (arith, length-replicate {A = ℕ} 24 0)

followed-few : (t : Words) (n : ℕ) → length (followed t n) ≤ 12
unfolding followed used
followed-few t n =
    let a = node-slots t n in
    let b = pairs-count (node t n).slots in
    let c = use-short (slots_of (node t n).slots) in
    let d = shown-short (node_view t n).left 0 (in_use (slots_of (node t n).slots)) in
    let e : length (followed t n) ≤ length (shown_at (node_view t n).left 0 (in_use (slots_of (node t n).slots))) = filter-short _ _ in
    omega (arith, a, b, c, d, e)

pub meetings-few : (t : Words) (n : ℕ) → length (meetings t n) ≤ 14
unfolding meetings
meetings-few t n = go (eqb (node_view t n).level 0)
  where
    few : length (map (λ (x : Placed). meet x.slot.pointer (pred (node_view t n).level)) (followed t n)
        ++ (meet (node_view t n).sibling (node_view t n).level ∷ [])) ≤ 13
    few = let e = length-append (map (λ (x : Placed). meet x.slot.pointer (pred (node_view t n).level)) (followed t n))
        (meet (node_view t n).sibling (node_view t n).level ∷ []) in
        omega (arith, e, length-map (followed t n) (λ (x : Placed). meet x.slot.pointer (pred (node_view t n).level)), followed-few t n)

    go : (b : Bool) → length {A = Meeting} (elim b as (λ b. List Meeting) [
      | true ↦ meet (node_view t n).sibling (node_view t n).level ∷ []
      | false ↦ meet (node_view t n).left (pred (node_view t n).level)
          ∷ (map (λ (x : Placed). meet x.slot.pointer (pred (node_view t n).level)) (followed t n)
          ++ (meet (node_view t n).sibling (node_view t n).level ∷ []))
    ]) ≤ 14
    go true = omega arith
    go false = omega (arith, few)

-- ---- the fuel

-- nodes entered: different numbers from 1 to N
pub record Numbers (t : Words) (es : List ℕ) : Type 0 where
  pub apart : distinct es ≡ true
  pub range : Each (UpTo (nodes t)) es

pub no-numbers : (t : Words) → Numbers t []
no-numbers t = record { apart = unfold distinct in refl; range = tt }

-- what the meetings to come need: one for each in the list, and 14 for each node that is not entered
unfoldable pub need : Words → List Meeting → List ℕ → ℕ
need t todo es = length todo + 14 * (nodes t - length es)

module _ (t : Words) where
  pub more-numbers : (x : Meeting) (es : List ℕ) → may_enter t x es ≡ true → Numbers t es → Numbers t (x.node ∷ es)
  more-numbers x es h u = let m =
      (may-iff t x es).0 h in record
      { apart = (distinct-cons x.node es).1 (m.2, u.apart); range = ((range-iff (nodes t) x.node).0 m.0, u.range) }

  pub need-yes : (x : Meeting) (todo : List Meeting) (es : List ℕ) → may_enter t x es ≡ true → Numbers t es
      → suc (need t (meetings t x.node ++ todo) (x.node ∷ es)) ≤ need t (x ∷ todo) es
  unfolding need
  need-yes x todo es h u =
      let m = more-numbers x es h u in
      let p : suc (length es) ≤ nodes t = pigeonhole (nodes t) (x.node ∷ es) m.apart m.range in
      omega (arith, p, meetings-few t x.node, length-append (meetings t x.node) todo)

  pub need-no : (x : Meeting) (todo : List Meeting) (es : List ℕ) → suc (need t todo es) ≡ need t (x ∷ todo) es
  unfolding need
  need-no x todo es = omega arith

  -- every meeting is taken
  pub unmet-none : (f : ℕ) (todo : List Meeting) (es : List ℕ) → Numbers t es → need t todo es ≤ f → unmet t f todo es ≡ []
  unfolding unmet
  unmet-none zero [] es u h = refl
  unmet-none zero (x ∷ todo) es u h = absurd (omega (arith, need-no x todo es))
  unmet-none (suc f) [] es u h = refl
  unmet-none (suc f) (x ∷ todo) es u h =
      go (may_enter t x es) refl (unmet-none f (meetings t x.node ++ todo) (x.node ∷ es)) (unmet-none f todo es)
    where
      go : (b : Bool) → may_enter t x es ≡ b
          → (Numbers t (x.node ∷ es) → need t (meetings t x.node ++ todo) (x.node ∷ es) ≤ f
          → unmet t f (meetings t x.node ++ todo) (x.node ∷ es) ≡ [])
          → (Numbers t es → need t todo es ≤ f → unmet t f todo es ≡ []) → unmet t (suc f) (x ∷ todo) es ≡ []
      go true c p q = unmet-yes t f x todo es c ∙ p (more-numbers x es c u) (omega (arith, need-yes x todo es c u))
      go false c p q = unmet-no t f x todo es c ∙ q u (omega (arith, need-no x todo es))

  -- two fuels that suffice give the same
  pub order-same : (f k : ℕ) (todo : List Meeting) (es : List ℕ) → Numbers t es → need t todo es ≤ f → need t todo es ≤ k
      → order t f todo es ≡ order t k todo es
  unfolding order
  order-same zero zero todo es u h i = refl
  order-same zero (suc k) [] es u h i = refl
  order-same zero (suc k) (x ∷ todo) es u h i = absurd (omega (arith, need-no x todo es))
  order-same (suc f) zero [] es u h i = refl
  order-same (suc f) zero (x ∷ todo) es u h i = absurd (omega (arith, need-no x todo es))
  order-same (suc f) (suc k) [] es u h i = refl
  order-same (suc f) (suc k) (x ∷ todo) es u h i =
      go (may_enter t x es) refl (order-same f k (meetings t x.node ++ todo) (x.node ∷ es)) (order-same f k todo es)
    where
      go : (b : Bool) → may_enter t x es ≡ b
          → (Numbers t (x.node ∷ es) → need t (meetings t x.node ++ todo) (x.node ∷ es) ≤ f
          → need t (meetings t x.node ++ todo) (x.node ∷ es) ≤ k
          → order t f (meetings t x.node ++ todo) (x.node ∷ es) ≡ order t k (meetings t x.node ++ todo) (x.node ∷ es))
          → (Numbers t es → need t todo es ≤ f → need t todo es ≤ k → order t f todo es ≡ order t k todo es) → order t (suc f) (x ∷ todo) es
          ≡ order t (suc k) (x ∷ todo) es
      go true c p q =
          let w = need-yes x todo es c u in
          order-yes t f x todo es c ∙ ap (λ (l : List ℕ). x.node ∷ l) (p (more-numbers x es c u) (omega (arith, w)) (omega (arith, w)))
          ∙ sym (order-yes t k x todo es c)
      go false c p q =
          let w = need-no x todo es in
          order-no t f x todo es c ∙ q u (omega (arith, w)) (omega (arith, w)) ∙ sym (order-no t k x todo es c)

  -- only which nodes were entered before counts
  pub order-elem : (f : ℕ) (todo : List Meeting) (es fs : List ℕ) → ((n : ℕ) → elem n es ≡ elem n fs)
      → order t f todo es ≡ order t f todo fs
  unfolding order
  order-elem zero todo es fs h = refl
  order-elem (suc f) [] es fs h = refl
  order-elem (suc f) (x ∷ todo) es fs h =
      go (may_enter t x es) refl (order-elem f (meetings t x.node ++ todo) (x.node ∷ es) (x.node ∷ fs)) (order-elem f todo es fs h)
    where
      same : may_enter t x es ≡ may_enter t x fs
      same = may-elem t x es fs (h x.node)

      go : (b : Bool) → may_enter t x es ≡ b
          → (((n : ℕ) → elem n (x.node ∷ es) ≡ elem n (x.node ∷ fs)) → order t f (meetings t x.node ++ todo) (x.node ∷ es)
          ≡ order t f (meetings t x.node ++ todo) (x.node ∷ fs))
          → order t f todo es ≡ order t f todo fs → order t (suc f) (x ∷ todo) es ≡ order t (suc f) (x ∷ todo) fs
      go true c p q = order-yes t f x todo es c
          ∙ ap (λ (l : List ℕ). x.node ∷ l) (p (λ n. unfold elem in ap (λ (b : Bool). eqb n x.node || b) (h n)))
          ∙ sym (order-yes t f x todo fs (sym same ∙ c))
      go false c p q = order-no t f x todo es c ∙ q ∙ sym (order-no t f x todo fs (sym same ∙ c))

  -- the nodes entered, and those before
  pub order-numbers : (f : ℕ) (todo : List Meeting) (es : List ℕ) → Numbers t es → Numbers t (order t f todo es ++ es)
  unfolding order
  order-numbers zero todo es u = u
  order-numbers (suc f) [] es u = u
  order-numbers (suc f) (x ∷ todo) es u =
      go (may_enter t x es) refl (order-numbers f (meetings t x.node ++ todo) (x.node ∷ es)) (order-numbers f todo es u)
    where
      first : (ns : List ℕ) → Numbers t (ns ++ x.node ∷ es) → Numbers t (x.node ∷ ns ++ es)
      first ns w =
          let e = Each-split (UpTo (nodes t)) ns (x.node ∷ es) w.range in
          record {
            apart = (distinct-cons x.node (ns ++ es)).1 ((distinct-middle x.node ns es).0 w.apart);
            range = (e.1.0, Each-append (UpTo (nodes t)) ns es e.0 e.1.1);
          }

      go : (b : Bool) → may_enter t x es ≡ b
          → (Numbers t (x.node ∷ es) → Numbers t (order t f (meetings t x.node ++ todo) (x.node ∷ es) ++ x.node ∷ es))
          → Numbers t (order t f todo es ++ es) → Numbers t (order t (suc f) (x ∷ todo) es ++ es)
      go true c p q = rw (order-yes t f x todo es c)
          (first (order t f (meetings t x.node ++ todo) (x.node ∷ es)) (p (more-numbers x es c u)))
      go false c p q = rw (order-no t f x todo es c) q

-- ---- from a root

module _ (t : Words) (r : ℕ) (es : List ℕ) (u : Numbers t es) where
  pub from-numbers : Numbers t (toured_from t r es ++ es)
  unfolding toured_from
  from-numbers = order-numbers t (2 + 14 * nodes t) (start t r) es u

  -- The tour takes every meeting, from any words.
  pub tour-ends : unmet t (2 + 14 * nodes t) (start t r) es ≡ []
  tour-ends = unmet-none t (2 + 14 * nodes t) (start t r) es u (unfold need in omega arith)
