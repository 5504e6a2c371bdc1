-- Slots in use are no fewer than the pairs kept.
use Rattle.std.proofs.Common.{◌≡◌, ℕ, zero, suc, ◌+◌, ◌*◌, ◌<◌, ◌≤◌, ◌≢◌, List, [], ◌∷◌, length, get_or, drop, sym, refl, ap, ◌∙◌, arith}
use Rattle.model.specs.declared.Node.{Node}
use Rattle.model.specs.Table.{Words, node}
use Rattle.model.specs.Slots.{node_view, used}
use Rattle.model.specs.Salvage.{Placed, shown_at, in_reach, followed, Gathered, reason_for, gather_slot, gather_slots, collected}
use Rattle.model.specs.Salvage.{gather_nodes, gathered_along}
use Rattle.list_laws.proofs.Filters.{filter-short}
use Rattle.tour_laws.proofs.Ends.{shown-short}
use Rattle.tour_laws.proofs.Gathering.{slot-kept, slot-dropped, collected-leaf, collected-inner}
use Rattle.slots.specs.Scan.{in_use_of}
use Rattle.gather.proofs.Pairs.{enter-length}
use Rattle.gather.proofs.Leaves.{nodes-next, nodes-last}

-- ---- one node

module _ (t : Words) (n : ℕ) (x : Node) (q : x ≡ node t n) where
  pub inner-none : x.level ≢ 0 → (length (collected t n) ≤ 0) × (0 ≤ 12)
  inner-none e = let z = ap length (collected-inner t n (λ y. e (ap (λ (v : Node). v.level) q ∙ y))) in (omega arith, omega arith)

  pub leaf-used : x.level ≡ 0 → (r : ℕ) → r ≡ length (in_use_of x.slots) → length (collected t n) ≤ r
  unfolding followed in_use_of used
  leaf-used e r f =
      let a : length (collected t n) ≡ length (followed t n) = ap length (collected-leaf t n (ap (λ (v : Node). v.level) (sym q) ∙ e)) in
      let b = filter-short (in_reach t n) (shown_at (node_view t n).left 0 (used t n)) in
      let c = shown-short (node_view t n).left 0 (used t n) in
      let d : r ≡ length (used t n) = f ∙ ap (λ (v : Node). length (in_use_of v.slots)) q in
      omega (arith, a, b, c, d)

-- ---- what is kept, by what is met

slot-few : (n : ℕ) (g : Gathered) (x : Placed) → length (gather_slot n g x).kept ≤ suc (length g.kept)
slot-few n g x = go (reason_for g.kept x.slot) refl
  where
    go : (y : ℕ) → reason_for g.kept x.slot ≡ y → length (gather_slot n g x).kept ≤ suc (length g.kept)
    go zero e = let a = ap (λ (h : Gathered). length h.kept) (slot-kept n g x e) in let b =
        enter-length x.slot.key x.slot.pointer g.kept in omega arith
    go (suc y) e = let a = ap (λ (h : Gathered). length h.kept) (slot-dropped n g x y e) in omega arith

slots-few : (n : ℕ) (xs : List Placed) (g : Gathered) → length (gather_slots n xs g).kept ≤ length g.kept + length xs
unfolding gather_slots
slots-few n [] g = omega arith
slots-few n (x ∷ xs) g = let a = slot-few n g x in let b = slots-few n xs (gather_slot n g x) in omega arith

-- ---- along the nodes

module _ (t order : Words) where
  -- the nodes before place j were counted
  pub record Using (total j : ℕ) : Type 0 where
    pub few : j ≤ length order
    pub most : total ≤ 12 * j
    pub sofar : Gathered
    pub rest : gather_nodes t (drop j order) sofar ≡ gathered_along t order
    pub enough : length sofar.kept ≤ total

  pub using-start : Using 0 0
  unfolding gathered_along
  using-start = record {
    few = omega arith;
    most = omega arith;
    sofar = record { kept = []; dropped = [] };
    rest = refl;
    enough = omega arith;
  }

  module _ (total j : ℕ) (c : Using total j) where
    pub using-step : j < length order → (r : ℕ) → (length (collected t (get_or order j 0)) ≤ r) × (r ≤ 12) → Using (total + r) (j + 1)
    using-step h r m = record {
      few = omega arith;
      most = let a = c.most in let b = m.1 in omega arith;
      sofar = gather_slots n (collected t n) c.sofar;
      rest = nodes-next t order j h c.sofar ∙ c.rest;
      enough = let a = c.enough in let b = slots-few n (collected t n) c.sofar in let d = m.0 in omega arith;
    }
      where
        n : ℕ
        n = get_or order j 0

    pub using-end : length order ≤ j → (length (gathered_along t order).kept ≤ total) × (total ≤ 12 * length order)
    using-end h =
        let f = c.few in
        let same = sym (nodes-last t order j h c.sofar) ∙ c.rest in
        let a = ap (λ (g : Gathered). length g.kept) same in
        (let b = c.enough in omega arith, let m = c.most in omega arith)
