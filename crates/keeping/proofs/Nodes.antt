-- The slots of a node marked one by one, and of all these nodes.
use Rattle.std.proofs.Common.{◌≡◌, ℕ, suc, ◌+◌, ◌-◌, ◌*◌, ◌/◌, ◌%◌, ◌<◌, ◌≤◌, ◌≢◌, List, [], length, get_or, drop, replicate, sym, refl, ap}
use Rattle.std.proofs.Common.{◌∙◌, subst, arith}
use lib.ListN.{length-replicate}
use Rattle.model.specs.declared.Node.{Node}
use Rattle.model.specs.Table.{Words, node}
use Rattle.model.specs.Slots.{Slot, slot}
use Rattle.model.specs.Salvage.{Placed, Gathered, gather_slots, collected, gather_nodes, gathered_along}
use Rattle.tour_laws.specs.Walk.{before, slots_from}
use Rattle.tour_laws.proofs.Ways.{slots-past}
use Rattle.bits.proofs.Marks.{none-marked}
use Rattle.gather.specs.Held.{met}
use Rattle.gather.proofs.Leaves.{leaf-step, leaf-stop, before-next, before-first, leaf-start, leaf-not, slots-append, nodes-next}
use Rattle.gather.proofs.Leaves.{nodes-last}
use Rattle.keeping.specs.Marks.{slot_of, marked_to, Matches, Unmarked, Marked, NodeMarked}
use Rattle.keeping.proofs.Marks.{marked-far}

-- slot i of the node entered at place j
pub slot-here : (t order : Words) (j i : ℕ) (x : Node) → i < 12 → x ≡ node t (get_or order j 0) → slot_of t order (12 * j + i)
    ≡ slot (get_or x.slots (2 * i) 0) (get_or x.slots (2 * i + 1) 0)
unfolding slot_of
slot-here t order j i x h q =
    let a : (12 * j + i) / 12 ≡ j = omega arith in
    let b : (12 * j + i) % 12 ≡ i = omega arith in
    rw (a, b, q)

module _ (t order : Words) (j : ℕ) (x : Node) (q : x ≡ node t (get_or order j 0)) (ms₀ : Words) where
  abbrev n : ℕ
  n = get_or order j 0

  -- the slots before place i were looked at
  pub record Looking (ms : Words) (d b i : ℕ) : Type 0 where
    pub few : i ≤ 12
    pub most : d ≤ i
    pub pointer-before : b ≡ before t n i
    pub long : length ms ≡ length ms₀
    pub beyond : Unmarked ms₀ (12 * j) → Unmarked ms (12 * j + i)
    pub goes : Unmarked ms₀ (12 * j) → (g : Gathered) → Matches g.kept (marked_to t order ms₀ (12 * j))
        → (h : Gathered) × (gather_slots n (slots_from t n i) h ≡ gather_slots n (collected t n) g)
        × Matches h.kept (marked_to t order ms (12 * j + i)) × (length h.kept ≡ length g.kept + d)

  pub looking-start : x.level ≡ 0 → Looking ms₀ 0 x.left 0
  looking-start e =
      let z : 12 * j + 0 ≡ 12 * j = omega arith in
      record {
        few = omega arith;
        most = omega arith;
        pointer-before = before-first t n x q;
        long = refl;
        beyond = λ y. rw z y;
        goes = λ y g m. (g, ap (λ (xs : List Placed). gather_slots n xs g) (sym (leaf-start t n x q e)), rw z m, omega arith);
      }

  module _ (ms : Words) (d b i : ℕ) (c : Looking ms d b i) where
    pub looking-step : i < 12 → get_or x.slots (2 * i + 1) 0 ≢ 0 → (ms' : Words) (r : ℕ)
        → Marked t order ms ms' (12 * j + i) (get_or x.slots (2 * i) 0) (get_or x.slots (2 * i + 1) 0)
        (met t x.sibling b i (get_or x.slots (2 * i) 0) (get_or x.slots (2 * i + 1) 0)) r
        → Looking ms' (d + r) (get_or x.slots (2 * i + 1) 0) (i + 1)
    looking-step h z ms' r m =
        let e : suc (12 * j + i) ≡ 12 * j + (i + 1) = omega arith in
        let xs = met t x.sibling b i (get_or x.slots (2 * i) 0) (get_or x.slots (2 * i + 1) 0) in
        record {
          few = omega arith;
          most = let a = c.most in let f = m.few in omega arith;
          pointer-before = before-next t n x q i h;
          long = m.long ∙ c.long;
          beyond = λ y. subst (λ (w : ℕ). Unmarked ms' w) e (m.beyond (c.beyond y));
          goes = λ y g k.
              let u = c.goes y g k in
              let w = m.goes (c.beyond y) (slot-here t order j i x h q) n u.0 u.2 in (
                gather_slots n xs u.0,
                sym (slots-append n xs (slots_from t n (i + 1)) u.0)
                    ∙ ap (λ (l : List Placed). gather_slots n l u.0) (sym (leaf-step t n x q i b h z c.pointer-before)) ∙ u.1,
                subst (λ (w : ℕ). Matches (gather_slots n xs u.0).kept (marked_to t order ms' w)) e w.0,
                w.1 ∙ (let a = u.3 in omega arith),
              );
        }

    done : slots_from t n i ≡ [] → NodeMarked t order ms₀ ms j d
    unfolding gather_slots
    done e =
        let f = c.few in
        let s : 12 * j + i + (12 - i) ≡ 12 * (j + 1) = omega arith in
        record {
          long = c.long;
          few = let a = c.most in omega arith;
          beyond = λ y k h. c.beyond y k (omega arith);
          goes = λ y g k.
              let u = c.goes y g k in
              let same : u.0 ≡ gather_slots n (collected t n) g = sym (ap (λ (l : List Placed). gather_slots n l u.0) e) ∙ u.1 in
              let far : marked_to t order ms (12 * (j + 1)) ≡ marked_to t order ms (12 * j + i) =
              ap (marked_to t order ms) (sym s) ∙ marked-far t order ms (12 * j + i) (12 - i) (c.beyond y) in (
                subst (λ (h : Gathered). Matches h.kept (marked_to t order ms (12 * (j + 1)))) same
                    (subst (λ (l : List Slot). Matches u.0.kept l) (sym far) u.2),
                ap (λ (h : Gathered). length h.kept) (sym same) ∙ u.3,
              );
        }

    pub looking-stop : i < 12 → get_or x.slots (2 * i + 1) 0 ≡ 0 → NodeMarked t order ms₀ ms j d
    looking-stop h z = done (leaf-stop t n x q i h z)

    pub looking-end : 12 ≤ i → NodeMarked t order ms₀ ms j d
    looking-end h = let f = c.few in let e : i ≡ 12 = omega arith in done (ap (slots_from t n) e ∙ slots-past t n)

  pub looking-none : x.level ≢ 0 → NodeMarked t order ms₀ ms₀ j 0
  unfolding gather_slots
  looking-none e =
      let s : 12 * j + 12 ≡ 12 * (j + 1) = omega arith in
      let none : (g : Gathered) → gather_slots n (collected t n) g ≡ g =
      λ g. ap (λ (l : List Placed). gather_slots n l g) (leaf-not t n x q e) in
      record {
        long = refl;
        few = omega arith;
        beyond = λ y k h. y k (omega arith);
        goes = λ y g k.
            let far : marked_to t order ms₀ (12 * (j + 1)) ≡ marked_to t order ms₀ (12 * j) =
            ap (marked_to t order ms₀) (sym s) ∙ marked-far t order ms₀ (12 * j) 12 y in (
              subst (λ (h : Gathered). Matches h.kept (marked_to t order ms₀ (12 * (j + 1)))) (sym (none g))
                  (subst (λ (l : List Slot). Matches g.kept l) (sym far) k),
              ap (λ (h : Gathered). length h.kept) (none g) ∙ omega arith,
            );
      }

-- ---- along the nodes

module _ (t order : Words) where
  pub record Counting (ms : Words) (kept j : ℕ) : Type 0 where
    pub few : j ≤ length order
    pub most : kept ≤ 12 * j
    pub long : length ms ≡ 12288
    pub clear : Unmarked ms (12 * j)
    pub sofar : Gathered
    pub rest : gather_nodes t (drop j order) sofar ≡ gathered_along t order
    pub matches : Matches sofar.kept (marked_to t order ms (12 * j))
    pub count-is : kept ≡ length sofar.kept

  pub counting-start : Counting (replicate 12288 0) 0 0
  unfolding gathered_along
  counting-start = record {
    few = omega arith;
    most = omega arith;
    long = length-replicate {A = ℕ} 12288 0;
    clear = λ y h. none-marked 12288 y;
    sofar = record { kept = []; dropped = [] };
    rest = refl;
    matches = unfold marked_to in record { keys = λ k. refl; recordings = λ r. refl };
    count-is = refl;
  }

  module _ (ms : Words) (kept j : ℕ) (c : Counting ms kept j) where
    pub counting-step : j < length order → (ms' : Words) (r : ℕ) → NodeMarked t order ms ms' j r → Counting ms' (kept + r) (j + 1)
    counting-step h ms' r m =
        let n = get_or order j 0 in
        let g = m.goes c.clear c.sofar c.matches in
        record {
          few = omega arith;
          most = let a = c.most in let b = m.few in omega arith;
          long = m.long ∙ c.long;
          clear = m.beyond c.clear;
          sofar = gather_slots n (collected t n) c.sofar;
          rest = nodes-next t order j h c.sofar ∙ c.rest;
          matches = g.0;
          count-is = let a = g.1 in let b = c.count-is in omega arith;
        }

    pub counting-end : length order ≤ j → (kept ≡ length (gathered_along t order).kept) × (kept ≤ 12 * length order)
    counting-end h =
        let f = c.few in
        let same : c.sofar ≡ gathered_along t order = sym (nodes-last t order j h c.sofar) ∙ c.rest in
        (c.count-is ∙ ap (λ (g : Gathered). length g.kept) same, let a = c.most in omega arith)
