-- The laws that the small functions cite.
use Rattle.std.proofs.Common.{◌≡◌, ℕ, zero, suc, pred, ◌+◌, ◌-◌, ◌*◌, ◌<◌, ◌≤◌, Bool, true, false, cond, not, ◌&&◌, eqb, ◌≢◌, List, [], ◌∷◌}
use Rattle.std.proofs.Common.{◌++◌, length, get_or, drop, sym, refl, ap, ◌∙◌, add-one, arith, length-drop, length-take-le, eq-eqb, ne_eqb}
use Rattle.std.proofs.Common.{eqb-true}
use mathlib.Core.Bool.{false≢true}
use borrow.Author.Tests.{eqb-false}
use Rattle.model.specs.declared.Node.{Node}
use Rattle.model.specs.Table.{Words, node, node_from, node_start, has_node, blank}
use Rattle.model.specs.Slots.{Slot, slot, slots_of}
use Rattle.list_laws.proofs.Tools.{decode, double-suc}
use Rattle.model.specs.Salvage.{Meeting, meet, meetings, under_fence, in_reach}
use Rattle.tour_laws.specs.Walk.{slot_at, placed_at, before, ways_from}
use Rattle.tour_laws.proofs.Ways.{ways-leaf, ways-left, ways-end, ways-hidden, ways-ignored, ways-next, ways-sibling}
use Rattle.slots.specs.Scan.{pointer_before}

pub before-first : (n : Node) (j : ℕ) → j ≡ 0 → n.left ≡ pointer_before n.left n.slots j
unfolding pointer_before
before-first n j e = rw (eq-eqb j 0 e)

pub before-later : (n : Node) (j : ℕ) → j ≢ 0 → get_or n.slots (2 * j - 1) 0 ≡ pointer_before n.left n.slots j
unfolding pointer_before
before-later n j e = rw (ne_eqb j 0 e)

-- what `is_met` answers for a slot that is met
pub met-then : (p o : ℕ) (u : Bool) → (not (eqb p o) && u) ≡ true → (p ≢ o) × (u ≡ true)
met-then p o u i = go (eqb p o) refl
  where
    go : (b : Bool) → eqb p o ≡ b → (p ≢ o) × (u ≡ true)
    go true q = absurd (false≢true (rw q at i))
    go false q = (eqb-false p o q, rw q at i)

-- ---- the slots of a node by its words

slots-at : (ws : Words) (j : ℕ) → suc (2 * j) < length ws → get_or (slots_of ws) j (slot 0 0)
    ≡ slot (get_or ws (2 * j) 0) (get_or ws (suc (2 * j)) 0)
unfolding slots_of
slots-at [] j h = absurd (omega arith)
slots-at (k ∷ []) j h = absurd (omega arith)
slots-at (k ∷ p ∷ ws) zero h = refl
slots-at (k ∷ p ∷ ws) (suc j) h = rw (double-suc j) (slots-at ws j (omega (arith, double-suc j)))

node-words : (t : Words) (n : ℕ) → length (node t n).slots ≡ 24
unfolding node node_from blank has_node
node-words t n = go (has_node t n) refl
  where
    go : (b : Bool) → has_node t n ≡ b → length (cond b (node_from t (node_start n)) blank).slots ≡ 24
    go true h = let u = simp decode at h in length-take-le 24 (drop (node_start n + 8) t)
        (omega (arith, u.1, length-drop (node_start n + 8) t))
    go false h = refl

module _ (t : Words) (n : ℕ) (nd : Node) (q : nd ≡ node t n) where
  -- slot j of node n is made of words 2j and 2j + 1 of its slots
  pub slot-words : (j : ℕ) → j ≤ 11 → slot_at t n j ≡ slot (get_or nd.slots (2 * j) 0) (get_or nd.slots (2 * j + 1) 0)
  slot-words j h = slots-at (node t n).slots j (omega (arith, node-words t n))
      ∙ (rw (add-one (2 * j)) (ap (λ (x : Node). slot (get_or x.slots (2 * j) 0) (get_or x.slots (suc (2 * j)) 0)) (sym q)))

  pub before-is : (j : ℕ) → j ≤ 11 → before t n j ≡ pointer_before nd.left nd.slots j
  before-is zero h = ap (λ (x : Node). x.left) (sym q) ∙ before-first nd 0 refl
  before-is (suc i) h =
      let e : 2 * suc i - 1 ≡ 2 * i + 1 = omega arith in
      ap (λ (s : Slot). s.pointer) (slot-words i (omega arith)) ∙ ap (λ (k : ℕ). get_or nd.slots k 0) (sym e)
      ∙ before-later nd (suc i) (λ z. omega (arith, z))

  -- ---- what a look at way w gives

  abbrev Leads : ℕ → List Meeting → ℕ → Type 0
  Leads w l z = (ways_from t n w ≡ l ++ ways_from t n z) × (w < z) × (z ≤ 14)

  level-is : nd.level ≡ (node t n).level
  level-is = ap (λ (x : Node). x.level) q

  ways-first : ways_from t n 0 ≡ meetings t n
  unfolding ways_from
  ways-first = refl

  pub sight-leaf : (w : ℕ) → w ≡ 0 → nd.level ≡ 0 → Leads w [] 13
  sight-leaf w e h = (ap (ways_from t n) e ∙ ways-first ∙ ways-leaf t n (sym level-is ∙ h), omega (arith, e), omega arith)

  pub sight-left : (w b : ℕ) → w ≡ 0 → nd.level ≢ 0 → b ≡ pred nd.level → Leads w (meet nd.left b ∷ []) 1
  sight-left w b e h p = (ap (ways_from t n) e ∙ ways-first ∙ go nd.level refl, omega (arith, e), omega arith)
    where
      go : (l : ℕ) → nd.level ≡ l → meetings t n ≡ meet nd.left b ∷ ways_from t n 1
      go zero k = absurd (h k)
      go (suc d) k =
          let u : d ≡ b = sym (p ∙ ap pred k) in
          ways-left t n d (sym level-is ∙ k) ∙ ap (λ (c : ℕ). meet (node t n).left c ∷ ways_from t n 1) u
          ∙ ap (λ (x : Node). meet x.left b ∷ ways_from t n 1) (sym q)

  pub sight-sibling : (w : ℕ) → w ≡ 13 → Leads w (meet nd.sibling nd.level ∷ []) 14
  sight-sibling w e = (
    ap (ways_from t n) e ∙ ways-sibling t n ∙ ap (λ (x : Node). meet x.sibling x.level ∷ ways_from t n 14) (sym q),
    omega (arith, e),
    omega arith,
  )

  module _ (w : ℕ) (a : w ≢ 0) (b : w ≢ 13) (c : w ≤ 13) where
    abbrev j : ℕ
    j = w - 1

    at-j : w ≡ suc j
    at-j = omega (arith, a)

    few : j ≤ 11
    few = omega (arith, a, b, c)

    after : w + 1 ≡ suc (suc j)
    after = omega (arith, a)

    abbrev p : ℕ
    p = get_or nd.slots (2 * j + 1) 0

    abbrev k : ℕ
    k = get_or nd.slots (2 * j) 0

    pointer-is : (slot_at t n j).pointer ≡ p
    pointer-is = ap (λ (s : Slot). s.pointer) (slot-words j few)

    key-is : (slot_at t n j).key ≡ k
    key-is = ap (λ (s : Slot). s.key) (slot-words j few)

    goes-is : in_reach t n (placed_at t n j) ≡ under_fence t nd.sibling k
    unfolding under_fence
    goes-is = ap (λ (y : ℕ). under_fence t (node t n).sibling y) key-is ∙ ap (λ (x : Node). under_fence t x.sibling k) (sym q)

    pub sight-end : p ≡ 0 → Leads w [] 13
    sight-end h = (ap (ways_from t n) at-j ∙ ways-end t n j (omega (arith, few)) (pointer-is ∙ h), omega (arith, b, c), omega arith)

    sight-hidden : (o : ℕ) → o ≡ pointer_before nd.left nd.slots j → p ≢ 0 → p ≡ o → Leads w [] (w + 1)
    sight-hidden o e h i = (
      ap (ways_from t n) at-j
          ∙ ways-hidden t n j (omega (arith, few)) (λ z. h (sym pointer-is ∙ z)) (pointer-is ∙ i ∙ e ∙ sym (before-is j few))
          ∙ ap (ways_from t n) (sym after),
      omega arith,
      omega (arith, b, c),
    )

    sight-ignored : (o : ℕ) → o ≡ pointer_before nd.left nd.slots j → p ≢ 0 → p ≢ o → under_fence t nd.sibling k
        ≡ false → Leads w [] (w + 1)
    sight-ignored o e h i l = (
      ap (ways_from t n) at-j
          ∙ ways-ignored t n j (omega (arith, few)) (λ z. h (sym pointer-is ∙ z)) (λ z. i (sym pointer-is ∙ z ∙ before-is j few ∙ sym e))
          (goes-is ∙ l) ∙ ap (ways_from t n) (sym after),
      omega arith,
      omega (arith, b, c),
    )

    sight-next : (o m : ℕ) → o ≡ pointer_before nd.left nd.slots j → m ≡ pred nd.level → p ≢ 0 → p ≢ o → under_fence t nd.sibling k ≡ true
        → Leads w (meet p m ∷ []) (w + 1)
    sight-next o m e f h i l = (
      ap (ways_from t n) at-j
          ∙ ways-next t n j (omega (arith, few)) (λ z. h (sym pointer-is ∙ z))
          (λ z. i (sym pointer-is ∙ z ∙ before-is j few ∙ sym e)) (goes-is ∙ l)
          ∙ ap (λ (y : ℕ). meet y (pred (node t n).level) ∷ ways_from t n (suc (suc j))) pointer-is
          ∙ ap (λ (y : ℕ). meet p y ∷ ways_from t n (suc (suc j))) (sym (f ∙ ap pred level-is))
          ∙ ap (λ (y : ℕ). meet p m ∷ ways_from t n y) (sym after),
      omega arith,
      omega (arith, b, c),
    )

    pub sight-unmet : (o : ℕ) → o ≡ pointer_before nd.left nd.slots j → p ≢ 0 → (not (eqb p o) && under_fence t nd.sibling k)
        ≡ false → Leads w [] (w + 1)
    sight-unmet o e h i = go (eqb p o) refl
      where
        go : (b : Bool) → eqb p o ≡ b → Leads w [] (w + 1)
        go true q = sight-hidden o e h (eqb-true p o q)
        go false q = sight-ignored o e h (eqb-false p o q) (rw q at i)

    pub sight-met : (o m : ℕ) → o ≡ pointer_before nd.left nd.slots j → m ≡ pred nd.level → p ≢ 0
        → (not (eqb p o) && under_fence t nd.sibling k) ≡ true → Leads w (meet p m ∷ []) (w + 1)
    sight-met o m e f h i = let u = met-then p o (under_fence t nd.sibling k) i in sight-next o m e f h u.0 u.1
