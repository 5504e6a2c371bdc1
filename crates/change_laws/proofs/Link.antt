-- Linking B, which holds A's upper slots, as A's sibling: the map stays, B follows A among the reached nodes, and it lacks its slot.
use Rattle.std.proofs.Common.{◌≡◌, ℕ, zero, suc, ◌<◌, ◌≤◌, Bool, true, false, ◌&&◌, ◌||◌, eqb, ltb, ◌≢◌, List, [], ◌∷◌, ◌++◌, length, sym}
use Rattle.std.proofs.Common.{refl, ap, ◌∙◌, arith, length-append}
use mathlib.Core.List.{map-append, Memᴰ}
use borrow.Author.Tests.{eqb-false}
use Rattle.model.specs.Table.{MARK, in_range}
use Rattle.model.specs.Slots.{Slot, NodeView, View, height}
use Rattle.model.specs.Search.{below, within}
use Rattle.model.specs.Reached.{filter, flat, pointers, kept, named, first_child, next_child, children, reached_from, leaves_from, reached}
use Rattle.model.specs.Reached.{leaves, mapping}
use Rattle.model.specs.SoundTest.{all, elem, sibling_ok, rising, come_first, linked, slot_ok, nothing, missing_in, room}
use Rattle.view_laws.proofs.NodeViews.{sibling_of, level_of, new_node, left-eq, sibling-eq, level-eq, fence-eq, shown-eq, hidden-eq}
use Rattle.view_laws.proofs.NodeViews.{clear-eq}
use Rattle.list_laws.proofs.Tools.{decode, and-iff, or-right, Each, Each-map, Each-split, all-append}
use Rattle.list_laws.proofs.Members.{elem-none, each-mem, mem-each, each-both, elem-append, elem-false, flat-each}
use Rattle.list_laws.proofs.Filters.{filter-all}
use Rattle.tree_laws.proofs.Rows.{Good, At, not-zero, sib-facts, inner-ok, leaf-ok, children-inner}
use Rattle.tree_laws.proofs.Cover.{below-low, below-high, below-true}
use Rattle.tree_laws.proofs.Rising.{rising-cons, rising-from, Apart, rising-apart}
use Rattle.tree_laws.proofs.Kept.{by-level, kept-rises, kept-within}
use Rattle.tree_laws.proofs.Levels.{Orderly, level-leaves}
use Rattle.tree_laws.proofs.Gaps.{Gap, fill-whole}
use Rattle.tree_laws.proofs.Leftovers.{NothingUnfinished, NoneHidden, TrailingOnly, MissingOnly}
use Rattle.change_laws.proofs.Lists.{Off}
use Rattle.change_laws.proofs.Updates.{update-at, update-off, with_sibling}
use Rattle.change_laws.proofs.Splice.{splice, splice-nil, splice-none, splice-each, splice-flat, mem-splice, distinct-splice}
use Rattle.change_laws.proofs.Parts.{KeysOk, LeafOk, leaf-iff, InnerOk, inner-iff, good-parts, good-leaf, good-inner, no-children}
use Rattle.change_laws.proofs.Parts.{names-linked, HasLeft, all-finished, same-room}
use Rattle.change_laws.proofs.Shown.{each-first, first-part}
use Rattle.change_laws.proofs.Parents.{sibling-reached, Parent}
use Rattle.change_laws.proofs.Siblings.{linked-split, kept-off, next-off, named-off, linked-off, linked-gap, children-off, Halves, halves}
use Rattle.change_laws.proofs.Siblings.{children-both, Moves, reached-splice, leaves-splice, good-off, sib-at, inner-at}

-- The upper part of a node on level d that shows s and then high: a leaf's shows s and high, an inner one has s's pointer as left and
-- shows high.
abbrev pub upper_left : (d : ℕ) → Slot → ℕ
upper_left zero s = MARK
upper_left (suc d) s = s.pointer

-- what the upper part shows, from s on: a leaf's s and high, an inner node's high alone
abbrev pub upper_slots : (d : ℕ) → Slot → List Slot → List Slot
upper_slots zero s high = s ∷ high
upper_slots (suc d) s high = high

-- with n's sibling and level, and s's key as fence
abbrev pub upper_part : NodeView → Slot → List Slot → NodeView
upper_part n s high = new_node (upper_left n.level s) n.sibling n.level s.key (upper_slots n.level s high)

-- A shows low, then s and high. B is not reached, and holds A's upper part.
pub record Splits (v : View) (A B : ℕ) (low : List Slot) (s : Slot) (high : List Slot) : Type 0 where
  pub a-reached : Memᴰ A (reached v)
  pub a-shows : (v.node A).shown ≡ low ++ s ∷ high
  pub some-low : 0 < length low
  pub not-root : v.root ≢ A
  pub b-fresh : elem B (reached v) ≡ false
  pub b-range : in_range v.nodes B ≡ true
  pub b-node : v.node B ≡ upper_part (v.node A) s high

above-first : (low : ℕ) (a : List Slot) (k : ℕ) → 0 < length a → rising low a ≡ true → Each (λ (t : Slot). t.key < k) a → low < k
above-first low [] k z h e = absurd (omega arith)
above-first low (t ∷ a) k z h e = let u = (rising-cons low t a).0 h in let w = e.0 in omega arith

module _ (v : View) (A B : ℕ) (low : List Slot) (s : Slot) (high : List Slot) (l : HasLeft v nothing) (p : Splits v A B low s high) where
  abbrev o : Orderly v
  o = l.orderly

  b-sibling : (v.node B).sibling ≡ (v.node A).sibling
  b-sibling = sibling-eq p.b-node

  b-level : (v.node B).level ≡ (v.node A).level
  b-level = level-eq p.b-node

  b-fence : (v.node B).fence ≡ s.key
  b-fence = fence-eq p.b-node

  -- by the level
  b-part : (d : ℕ) → (v.node A).level ≡ d → ((v.node B).left ≡ upper_left d s) × ((v.node B).shown ≡ upper_slots d s high)
  b-part d e = (left-eq p.b-node ∙ ap (λ (l : ℕ). upper_left l s) e, shown-eq p.b-node ∙ ap (λ (l : ℕ). upper_slots l s high) e)

  good-A : Good v A
  good-A = each-mem (Good v) o.good p.a-reached

  fin-A : NothingUnfinished v A
  fin-A = each-mem (NothingUnfinished v) (all-finished v l) p.a-reached

  kept-A : kept v A ≡ low ++ s ∷ high
  kept-A = fin-A.keeps ∙ p.a-shows

  -- A's slots rise from its fence, and lie below its sibling's
  rise-A : Apart (v.node A).fence low (s ∷ high)
  rise-A = rising-apart (v.node A).fence low (s ∷ high) (rw kept-A at (kept-rises v A good-A))

  lower : Each (λ (t : Slot). t.key < s.key) low
  lower = Each-map (λ (t : Slot). Each (λ (u : Slot). t.key < u.key) (s ∷ high)) (λ (t : Slot). t.key < s.key) low
      (λ t h. h.0) rise-A.between

  high-rise : rising (suc s.key) high ≡ true
  high-rise = ((rising-cons (v.node A).fence s high).0 rise-A.right).1

  upper-rise : rising s.key (s ∷ high) ≡ true
  upper-rise = (rising-cons s.key s high).1 (omega arith, high-rise)

  within-upper : Each (λ (t : Slot). within v A t.key ≡ true) (s ∷ high)
  within-upper = (Each-split (λ (t : Slot). within v A t.key ≡ true) low (s ∷ high) (rw kept-A at (kept-within v A))).1

  not-B : B ≢ 0
  not-B = not-zero v B p.b-range

  other : B ≢ A
  other e = (elem-none A (reached v)).0 (rw e at p.b-fresh) p.a-reached

  apart : (v.node A).sibling ≢ B
  apart e = (elem-none B (reached v)).0 p.b-fresh (rw e at (sibling-reached v A o p.a-reached (λ z. not-B (sym e ∙ z))))

  above : (v.node A).fence < (v.node B).fence
  above = let h = above-first (v.node A).fence low s.key p.some-low rise-A.left lower in let e = b-fence in omega arith

  -- ---- B, in v

  kept-B : (ss : List Slot) → (v.node B).shown ≡ ss → Each (λ (t : Slot). within v A t.key ≡ true) ss → kept v B ≡ ss
  unfolding kept
  kept-B ss e h = ap (λ (n : ℕ). filter (λ (t : Slot). below v n t.key) (v.node B).shown) b-sibling
      ∙ ap (filter (λ (t : Slot). within v A t.key)) e ∙ filter-all (λ (t : Slot). within v A t.key) ss h

  first-B : (ss : List Slot) → (v.node B).shown ≡ ss → Each (λ (t : Slot). within v A t.key ≡ true) ss
      → come_first (λ (t : Slot). within v B t.key) (v.node B).shown ≡ true
  first-B ss e h = ap (λ (n : ℕ). come_first (λ (t : Slot). below v n t.key) (v.node B).shown) b-sibling
      ∙ ap (come_first (λ (t : Slot). within v A t.key)) e ∙ each-first (λ (t : Slot). within v A t.key) ss h

  sib-B : sibling_ok v B ≡ true
  unfolding sibling_ok
  sib-B = rw b-sibling (go (eqb (v.node A).sibling 0) refl)
    where
      go : (b : Bool) → eqb (v.node A).sibling 0 ≡ b
          → eqb (v.node A).sibling 0 ||
          (in_range v.nodes (v.node A).sibling &&
          (eqb (v.node (v.node A).sibling).level (v.node B).level && ltb (v.node B).fence (v.node (v.node A).sibling).fence)) ≡ true
      go true e = rw e
      go false e =
          let z = eqb-false (v.node A).sibling 0 e in
          let f = sib-facts v A good-A z in
          let q : (v.node B).fence < (v.node (v.node A).sibling).fence =
          rw b-fence (below-true v s.key (v.node A).sibling z within-upper.0) in
          or-right (eqb (v.node A).sibling 0) _ (simp decode (f.range, (f.level ∙ sym b-level, q)))

  module _ (d : ℕ) (e : (v.node A).level ≡ suc d) where
    inner-A : InnerOk v A
    inner-A = (inner-iff v A).0 (inner-ok v d A good-A e)

    of-B : ((v.node B).left ≡ s.pointer) × ((v.node B).shown ≡ high)
    of-B = b-part (suc d) e

    kept-high : kept v B ≡ high
    kept-high = kept-B high of-B.1 within-upper.1

    chain-A : linked v (named v A) (next_child v A) ≡ true
    chain-A = (names-linked v A (λ z. omega arith)).0 (fin-A.names (λ z. omega arith))

    kept-upper : kept v A ≡ low ++ s ∷ kept v B
    kept-upper = kept-A ∙ ap (λ (ks : List Slot). low ++ s ∷ ks) (sym kept-high)

    named-A : named v A ≡ ((v.node A).left ∷ pointers low) ++ named v B
    named-A = ap (λ (ks : List Slot). (v.node A).left ∷ pointers ks) kept-upper
        ∙ ap (λ (r : List ℕ). (v.node A).left ∷ r) (map-append (λ (t : Slot). t.pointer) low (s ∷ kept v B))
        ∙ ap (λ (m : ℕ). ((v.node A).left ∷ pointers low) ++ m ∷ pointers (kept v B)) (sym of-B.0)

    chain-B : linked v (named v B) (next_child v B) ≡ true
    chain-B = ap (λ (n : ℕ). linked v (named v B) (first_child v n)) b-sibling
        ∙ (linked-split v ((v.node A).left ∷ pointers low) (v.node B).left (pointers (kept v B)) (next_child v A) (rw named-A at chain-A)).1

    children-B : children v B ≡ named v B
    children-B = children-inner v d B (b-level ∙ e) ∙ (fill-whole v (named v B) (next_child v B)).1 chain-B

    children-A : children v A ≡ ((v.node A).left ∷ pointers low) ++ named v B
    children-A = fin-A.names (λ z. omega arith) ∙ named-A

    inner-B : InnerOk v B
    unfolding all slot_ok
    inner-B =
        let k = inner-A in
        let sl = ((all-append (slot_ok v (v.node A).level) low (s ∷ high)).0 (rw kept-A at k.slots)).1 in
        let us = (and-iff (slot_ok v (v.node A).level s) (all (slot_ok v (v.node A).level) high)).0 sl in
        let rs = ((all-append (in_range v.nodes) ((v.node A).left ∷ pointers low) (named v B)).0 (rw children-A at k.range)).1 in
        record {
          keys = record { rise = rw (kept-high, b-fence) high-rise; first = first-B high of-B.1 within-upper.1 };
          left = rw (b-level, b-fence, of-B.0) us.0;
          slots = rw (kept-high, b-level) us.1;
          range = rw children-B rs;
          chain = rw children-B chain-B;
        }

  leaf-B : (v.node A).level ≡ 0 → LeafOk v B
  leaf-B e =
      let u = b-part 0 e in
      record {
        left = u.0;
        keys = record { rise = rw (kept-B (s ∷ high) u.1 within-upper, b-fence) upper-rise; first = first-B (s ∷ high) u.1 within-upper };
      }

  good-B : Good v B
  good-B = by-level v (λ (n : ℕ). Good v B) A
      (λ e. good-leaf v B (b-level ∙ e) (clear-eq p.b-node) sib-B ((leaf-iff v B).1 (leaf-B e)))
      (λ d e. good-inner v d B (b-level ∙ e) (clear-eq p.b-node) sib-B ((inner-iff v B).1 (inner-B d e)))

  fin-B : NothingUnfinished v B
  fin-B = by-level v (λ (n : ℕ). NothingUnfinished v B) A
      (λ e. let u = b-part 0 e in record
      { shows = hidden-eq p.b-node; keeps = kept-B (s ∷ high) u.1 within-upper ∙ sym u.1; names = λ z. absurd (z (b-level ∙ e)) })
      (λ d e. record { shows = hidden-eq p.b-node; keeps = kept-high d e ∙ sym (of-B d e).1; names = λ z. children-B d e })

  -- ---- A, linked to B

  abbrev v' : View
  v' = with_sibling v A B

  low-part : (filter (λ (t : Slot). within v' A t.key) (low ++ s ∷ high) ≡ low)
      × (come_first (λ (t : Slot). within v' A t.key) (low ++ s ∷ high) ≡ true)
  low-part = rw (update-at (sibling_of v) A B) (first-part (λ (t : Slot). below v' B t.key) low (s ∷ high)
      (Each-map (λ (t : Slot). t.key < s.key) (λ (t : Slot). below v' B t.key ≡ true) low
      (λ t h. below-high v' t.key B (rw b-fence h)) lower)
      (Each-map (λ (t : Slot). s.key ≤ t.key) (λ (t : Slot). below v' B t.key ≡ false) (s ∷ high)
      (λ t h. below-low v' t.key B not-B (rw b-fence h)) (rising-from s.key (s ∷ high) upper-rise)))

  kept-low : kept v' A ≡ low
  unfolding kept
  kept-low = ap (filter (λ (t : Slot). within v' A t.key)) p.a-shows ∙ low-part.0

  keys-A : (from : ℕ) → KeysOk v A from → KeysOk v' A from
  keys-A from k = record {
    rise = rw kept-low (rising-apart from low (s ∷ high) (rw kept-A at k.rise)).left;
    first = ap (come_first (λ (t : Slot). within v' A t.key)) p.a-shows ∙ low-part.1;
  }

  parts : (d : ℕ) → (v.node A).level ≡ suc d → Halves v A B low
  parts d e = halves v A B d low s apart other not-B b-sibling e (b-level ∙ e) (sym (of-B d e).0) (kept-upper d e) kept-low (chain-A d e)

  linked-A : Good v' A
  linked-A =
      let u = good-parts v A good-A in
      let si = sib-at v A B p.b-range b-sibling other apart b-level above in
      by-level v (λ (n : ℕ). Good v' A) A
      (λ e. let k = (leaf-iff v A).0 (leaf-ok v A good-A e) in good-leaf v' A e u.0 si
      ((leaf-iff v' A).1 (record { left = k.left; keys = keys-A (v.node A).fence k.keys })))
      (λ d e.
      let k = inner-A d e in
      good-inner v' d A e u.0 si
      ((inner-iff v' A).1 (inner-at v A B p.b-range b-sibling other apart low s high (parts d e) kept-A
      (keys-A (suc (v.node A).fence) k.keys) kept-low k)))

  good-linked : (n : ℕ) → n ≢ A → NothingUnfinished v n → Good v n → Good v' n
  good-linked n z f g = good-off v A B p.b-range b-sibling other apart n z (λ y. (names-linked v n y).0 (f.names y)) g

  -- ---- the nodes reached, and the map

  facts : Each (λ (n : ℕ). Good v n × NothingUnfinished v n) (reached v)
  facts = each-both (Good v) (NothingUnfinished v) (reached v) o.good (all-finished v l)

  moves : (n : ℕ) → NothingUnfinished v n → Moves v A B n
  moves n f z = by-level v (λ (m : ℕ). children v' n ≡ splice A B (children v n)) n
      (λ e. no-children v' n e ∙ sym (ap (splice A B) (no-children v n e) ∙ splice-nil A B))
      (λ d e. children-off v A B d n z apart e ((names-linked v n (λ y. omega arith)).0 (f.names (λ y. omega arith))))

  both : children v' A ++ children v' B ≡ splice A B (children v A)
  both = by-level v (λ (n : ℕ). children v' A ++ children v' B ≡ splice A B (children v A)) A
      (λ e. rw (no-children v' A e, no-children v' B (b-level ∙ e), no-children v A e, splice-nil A B))
      (λ d e. children-both v A B low (parts d e))

  all-move : Each (Moves v A B) (reached v)
  all-move = Each-map (NothingUnfinished v) (Moves v A B) (reached v) moves (all-finished v l)

  root-stays : splice A B (v.root ∷ []) ≡ v.root ∷ []
  root-stays = splice-none A B (v.root ∷ []) (p.not-root, tt)

  link-reached : reached v' ≡ splice A B (reached v)
  link-reached = ap (reached_from v' (height v)) (sym root-stays) ∙ reached-splice v A B both (height v) (v.root ∷ []) all-move

  link-leaves : leaves v' ≡ splice A B (leaves v)
  link-leaves = ap (leaves_from v' (height v)) (sym root-stays) ∙ leaves-splice v A B both (height v) (v.root ∷ []) all-move

  link-mapping : mapping v' ≡ mapping v
  unfolding mapping
  link-mapping = ap (flat (kept v')) link-leaves
      ∙ by-level v (λ (n : ℕ). flat (kept v') (splice A B (leaves v)) ≡ flat (kept v) (leaves v)) A
      (λ e.
      let u = b-part 0 e in
      splice-flat A B (kept v') (kept v)
      (ap (λ (x : List Slot). x ++ kept v' B) kept-low
      ∙ ap (λ (x : List Slot). low ++ x) (kept-off v A B B other ∙ kept-B (s ∷ high) u.1 within-upper) ∙ sym kept-A)
      (leaves v) (mem-each _ (leaves v) (λ n m z. kept-off v A B n z)))
      (λ d e.
      let no : Off A (leaves v) =
      Each-map (At v 0) (λ (n : ℕ). n ≢ A) (leaves v)
      (λ n a q. let y : (v.node n).level ≡ (v.node A).level = ap (level_of v) q in omega (arith, a.level)) (level-leaves v o).row.at in
      ap (flat (kept v')) (splice-none A B (leaves v) no)
      ∙ flat-each (kept v') (kept v) (leaves v)
      (Each-map (λ (n : ℕ). n ≢ A) (λ (n : ℕ). kept v' n ≡ kept v n) (leaves v) (λ n z. kept-off v A B n z) no))

  link-orderly : Orderly v'
  link-orderly = record {
    top = record {
      range = o.top.range;
      level = o.top.level;
      fence = o.top.fence;
      sibling = update-off (sibling_of v) A B v.root p.not-root ∙ o.top.sibling;
    };
    good = rw link-reached
        (splice-each A B (λ (n : ℕ). Good v n × NothingUnfinished v n) (Good v') (λ n z g. good-linked n z g.1 g.0)
        (λ g. (linked-A, good-linked B other fin-B good-B)) (reached v) facts);
    once = rw link-reached (distinct-splice A B (reached v) o.once p.b-fresh);
    recordings = rw link-mapping o.recordings;
  }

  -- ---- what it leaves unfinished

  none-hidden : NoneHidden v'
  none-hidden = rw link-reached
      (splice-each A B (NothingUnfinished v) (λ (n : ℕ). (v.node n).hidden ≡ 0) (λ n z f. f.shows) (λ f. (f.shows, hidden-eq p.b-node))
      (reached v) (all-finished v l))

  -- A still shows s and high
  trailing : TrailingOnly v' A
  trailing = rw link-reached (record {
    member = mem-splice A B A (reached v) p.a-reached;
    here = λ e. (let y : length low
        ≡ length (low ++ s ∷ high) = ap length (sym kept-low ∙ e ∙ p.a-shows) in omega (arith, simp length-append at y));
    others = splice-each A B (NothingUnfinished v) (λ (n : ℕ). n ≢ A → kept v' n ≡ (v.node n).shown)
        (λ n z f y. kept-off v A B n y ∙ f.keeps)
        (λ f. ((λ y. absurd (y refl)), (λ y. kept-off v A B B y ∙ fin-B.keeps))) (reached v) (all-finished v l);
  })

  -- B lacks its slot in the parent of A
  module _ (q : ℕ) (w : Parent v A q) where
    not-A : q ≢ A
    not-A e = let y : (v.node q).level ≡ (v.node A).level = ap (level_of v) e in omega (arith, w.p-level)

    -- another node names its children, if A is none of them
    names-off : (n : ℕ) → n ≢ A → NothingUnfinished v n → elem A (children v n) ≡ false → (v.node n).level ≢ 0 → children v' n ≡ named v' n
    names-off n z f m y =
        (names-linked v' n y).1
        (rw (named-off v A B n z, next-off v A B n z)
        (linked-off v A B (named v n) (next_child v n) ((names-linked v n y).0 (f.names y))
        ((elem-false A (named v n)).0 (ap (elem A) (sym (f.names y)) ∙ m))))

    half-off : (d : ℕ) → (v.node A).level ≡ suc d → (elem A ((v.node A).left ∷ pointers low) ≡ false) × (elem A (named v B) ≡ false)
    half-off d e = (elem-append A _ _).0
        (ap (elem A) (sym (children-A d e))
        ∙ each-mem (λ (n : ℕ). n ≢ q → elem A (children v n) ≡ false) w.only p.a-reached (λ y. not-A (sym y)))

    names-A : (v.node A).level ≢ 0 → children v' A ≡ named v' A
    names-A y = by-level v (λ (n : ℕ). children v' A ≡ named v' A) A (λ e. absurd (y e))
        (λ d e.
        let h = parts d e in
        (names-linked v' A y).1
        (ap (λ (ks : List Slot). linked v' ((v.node A).left ∷ pointers ks) (next_child v' A)) kept-low
        ∙ ap (linked v' ((v.node A).left ∷ pointers low)) h.next
        ∙ linked-off v A B ((v.node A).left ∷ pointers low) (v.node B).left h.lower-chain
        ((elem-false A ((v.node A).left ∷ pointers low)).0 (half-off d e).0)))

    names-B : (v.node B).level ≢ 0 → children v' B ≡ named v' B
    names-B y = by-level v (λ (n : ℕ). children v' B ≡ named v' B) A (λ e. absurd (y (b-level ∙ e)))
        (λ d e. names-off B other fin-B (ap (elem A) (children-B d e) ∙ (half-off d e).1) y)

    gap : Gap v' A (named v' q) (next_child v' q)
    gap =
        let f = each-mem (NothingUnfinished v) (all-finished v l) w.p-reached in
        let z : (v.node q).level ≢ 0 = λ y. omega (arith, w.p-level) in
        let n : named v q ≡ w.once.before ++ A ∷ w.once.after = sym (f.names z) ∙ w.once.shape in
        rw (named-off v A B q not-A, next-off v A B q not-A, n)
        (linked-gap v A B w.once.before w.once.after (next_child v q) apart (rw n at ((names-linked v q z).0 (f.names z)))
        w.once.not-before w.once.not-after)

    missing : MissingOnly v' q A
    missing = rw link-reached (record {
      member = mem-splice A B q (reached v) w.p-reached;
      here = ((λ y. omega (arith, w.p-level)), gap);
      others = splice-each A B (λ (n : ℕ). NothingUnfinished v n × (n ≢ q → elem A (children v n) ≡ false))
          (λ (n : ℕ). n ≢ q → (v.node n).level ≢ 0 → children v' n ≡ named v' n)
          (λ n z h y. names-off n z h.0 (h.1 y)) (λ h. ((λ y. names-A), (λ y. names-B))) (reached v)
          (each-both (NothingUnfinished v) _ (reached v) (all-finished v l) w.only);
    })

-- what linking does: B follows A among the reached nodes, and lacks its slot in A's parent q
pub record Linked (v v' : View) (A B q : ℕ) : Type 0 where
  pub left : HasLeft v' (missing_in q A true)
  pub mapping : mapping v' ≡ mapping v
  pub reached : reached v' ≡ splice A B (reached v)
  pub room : room v q ≡ true → room v' q ≡ true

-- B, which has A's upper part, linked as A's sibling keeps the map and leaves q's slot for B and the cut of A to do
pub link : (v : View) (A B : ℕ) (low : List Slot) (s : Slot) (high : List Slot) (q : ℕ) → HasLeft v nothing → Splits v A B low s high
    → Parent v A q → Linked v (with_sibling v A B) A B q
link v A B low s high q l p w = record {
  left = record {
    orderly = link-orderly v A B low s high l p;
    left = (none-hidden v A B low s high l p, trailing v A B low s high l p, missing v A B low s high l p q w);
  };
  mapping = link-mapping v A B low s high l p;
  reached = link-reached v A B low s high l p;
  room = same-room v (with_sibling v A B) q refl;
}

-- A then keeps low
pub link-kept : (v : View) (A B : ℕ) (low : List Slot) (s : Slot) (high : List Slot) → HasLeft v nothing → Splits v A B low s high
    → kept (with_sibling v A B) A ≡ low
link-kept v A B low s high l p = kept-low v A B low s high l p
