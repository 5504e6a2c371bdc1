-- What a search by looks answers goes by its looks alone.
use Rattle.std.proofs.Common.{◌≡◌, ℕ, zero, suc, ◌<◌, Bool, true, false, not, ◌&&◌, eqb, leb, List, [], ◌∷◌, ◌++◌, length, refl, ap, ◌∙◌}
use Rattle.std.proofs.Common.{arith, eqb-true}
use mathlib.Core.List.Memᴰ
use mathlib.Core.List.{Memᴰ}
use mathlib.Core.Option.{Option, none, some}
use Rattle.model.specs.declared.Answer.{Answer}
use Rattle.model.specs.declared.Answer.TheVariants.{Absent, Refused}
use Rattle.std.specs.Prelude.{Some, None}
use Rattle.model.specs.Table.{Words, at, nodes, root_word, header_ok, no_collection, has_node, node, spare}
use Rattle.model.specs.Slots.{Slot, NodeView, node_view, used, clear_in}
use Rattle.model.specs.Search.{route, first_with, first_above, absent_or, answer_of, Next}
use Rattle.model.specs.Looks.{seen_pass, stood, stood_on, seen_kept, next_looks, answer_looks, search_looks, Seen, seen, none_above}
use Rattle.model.specs.Looks.{no_slot, sibling_seen, next_seen, answer_seen, search_seen, LooksDecide}
use Rattle.two_laws.proofs.AcceptedTwo.{there}
use Rattle.reader_laws.proofs.Copies.{root-low, head-same, lack-same}

-- ---- what a turn answers, by its tests; it goes on only if they say so

abbrev next_turn : (p : Bool) (q : Next) (z : Bool) → Answer → Answer
next_turn p q z rest = elim p [ true ↦ absent_or q (elim z [ true ↦ Absent None | false ↦ rest ]) | false ↦ Refused 3 ]

next-turn : (p : Bool) (q : Next) (z : Bool) (r s : Answer) → (p && (none_above q && not z) ≡ true → r ≡ s)
    → next_turn p q z r ≡ next_turn p q z s
next-turn true (Some j) z r s h = refl
next-turn true None true r s h = refl
next-turn true None false r s h = h refl
next-turn false q z r s h = refl

abbrev leaf_turn : (p : Bool) → Option Slot → Answer → Answer
leaf_turn p o rest = elim p [ true ↦ answer_of o rest | false ↦ Refused 3 ]

leaf-turn : (p : Bool) (o : Option Slot) (r s : Answer) → (p && no_slot o ≡ true → r ≡ s) → leaf_turn p o r ≡ leaf_turn p o s
leaf-turn true none r s h = h refl
leaf-turn true (some x) r s h = refl
leaf-turn false o r s h = refl

abbrev level_turn : (p : Bool) → Answer → Answer
level_turn p rest = elim p [ true ↦ rest | false ↦ Refused 3 ]

level-turn : (p : Bool) (r s : Answer) → (p ≡ true → r ≡ s) → level_turn p r ≡ level_turn p s
level-turn true r s h = h refl
level-turn false r s h = refl

-- ---- two ways to see that agree on the looks made

module _ (a b : (i n : ℕ) → NodeView) (none-same : (i : ℕ) → b i 0 ≡ a i 0) (N k : ℕ) where
  abbrev Same : List Seen → Type 0
  Same ls = (i m : ℕ) → Memᴰ (seen i m) ls → b i m ≡ a i m

  -- a part of the looks, where a test lets them be made
  same-if : (c : Bool) (xs ys : List Seen) → c ≡ true → Same (xs ++ elim c as (λ c. List Seen) [ true ↦ ys | false ↦ [] ]) → Same ys
  same-if true xs ys e h = λ i m u. h i m (Memᴰ.append_right xs u)
  same-if false xs ys e h = λ i m u. absurd (let z : ◌≡◌ {A = ℕ} 0 1 = cc in omega arith)

  -- the sibling is looked at, or there is none
  sibling-same : (i s : ℕ) (ls : List Seen) → Same (sibling_seen i s ++ ls) → b i s ≡ a i s
  sibling-same i s ls = go (eqb s 0) refl
    where
      go : (c : Bool) → eqb s 0 ≡ c → Same (elim c as (λ c. List Seen) [ true ↦ [] | false ↦ seen i s ∷ [] ] ++ ls) → b i s ≡ a i s
      go true e h = rw (eqb-true s 0 e) (none-same i)
      go false e h = h i s (Memᴰ.head refl)

  next-same : (c i n : ℕ) → b i n ≡ a i n → Same (next_seen a N k c i n) → next_looks b N k c i n ≡ next_looks a N k c i n
  unfolding next_looks next_seen
  next-same zero i n e h = refl
  next-same (suc c) i n e h =
      let x = a i n in
      let s = x.sibling in
      let y = a (suc i) s in
      let f : b (suc i) s ≡ y = sibling-same (suc i) s _ h in
      let p = seen_pass N 0 n x y in
      let q = first_above k (seen_kept x y) in
      ap (λ (u : NodeView). next_turn (seen_pass N 0 n u (b (suc i) u.sibling)) (first_above k (seen_kept u (b (suc i) u.sibling)))
      (eqb u.sibling 0) (next_looks b N k c (suc i) u.sibling)) e
      ∙ ap (λ (u : NodeView). next_turn (seen_pass N 0 n x u) (first_above k (seen_kept x u)) (eqb s 0) (next_looks b N k c (suc i) s)) f
      ∙ next-turn p q (eqb s 0) _ _
      (λ g. next-same c (suc i) s f
      (same-if (p && (none_above q && not (eqb s 0))) (sibling_seen (suc i) s) (next_seen a N k c (suc i) s) g h))

  answer-same : (l i n : ℕ) → Same (answer_seen a N k i l n) → answer_looks b N k i l n ≡ answer_looks a N k i l n
  unfolding answer_looks answer_seen
  answer-same zero i n h =
      let x = a i n in
      let s = x.sibling in
      let y = a (suc i) s in
      let e : b i n ≡ x = h i n (Memᴰ.head refl) in
      let f : b (suc i) s ≡ y = sibling-same (suc i) s _ (λ j m u. h j m (Memᴰ.tail u)) in
      let p = seen_pass N 0 n x y in
      let o = first_with k (stood x y k).shown in
      let m = stood_on n x y k in
      ap (λ (u : NodeView). let v = b (suc i) u.sibling in leaf_turn (seen_pass N 0 n u v) (first_with k (stood u v k).shown)
      (next_looks b N k N (suc (suc i)) (stood_on n u v k))) e
      ∙ ap (λ (v : NodeView). leaf_turn (seen_pass N 0 n x v) (first_with k (stood x v k).shown)
      (next_looks b N k N (suc (suc i)) (stood_on n x v k))) f
      ∙ leaf-turn p o _ _ (λ g.
      let later = same-if (p && no_slot o) (seen i n ∷ sibling_seen (suc i) s)
      (seen (suc (suc i)) m ∷ next_seen a N k N (suc (suc i)) m) g h in
      next-same N (suc (suc i)) m (later (suc (suc i)) m (Memᴰ.head refl)) (λ j r u. later j r (Memᴰ.tail u)))
  answer-same (suc l) i n h =
      let x = a i n in
      let s = x.sibling in
      let y = a (suc i) s in
      let e : b i n ≡ x = h i n (Memᴰ.head refl) in
      let f : b (suc i) s ≡ y = sibling-same (suc i) s _ (λ j m u. h j m (Memᴰ.tail u)) in
      let p = seen_pass N (suc l) n x y in
      let d = route k (stood x y k).left (stood x y k).shown in
      ap (λ (u : NodeView). let v = b (suc i) u.sibling in level_turn (seen_pass N (suc l) n u v)
      (answer_looks b N k (suc (suc i)) l (route k (stood u v k).left (stood u v k).shown))) e
      ∙ ap (λ (v : NodeView). level_turn (seen_pass N (suc l) n x v)
      (answer_looks b N k (suc (suc i)) l (route k (stood x v k).left (stood x v k).shown))) f
      ∙ level-turn p _ _ (λ g. answer-same l (suc (suc i)) d
      (same-if p (seen i n ∷ sibling_seen (suc i) s) (answer_seen a N k (suc (suc i)) l d) g h))

-- ---- of tables

-- number 0 is no node: it reads the same in each
no-node : (t u : Words) → node_view u 0 ≡ node_view t 0
unfolding node has_node used clear_in spare
no-node t u = refl

-- the first look at a node is at the node come to
first-seen : (look : (i n : ℕ) → NodeView) (N k l i n : ℕ) → Memᴰ (seen i n) (answer_seen look N k i l n)
unfolding answer_seen
first-seen look N k zero i n = Memᴰ.head refl
first-seen look N k (suc l) i n = Memᴰ.head refl

module _ (n k : ℕ) (when when' : ℕ → Words) (long : length (when' 0) ≡ length (when 0))
    (header : (w : ℕ) → w < 8 → at (when' 0) w ≡ at (when 0) w) where
  abbrev look : (i m : ℕ) → NodeView
  look i m = node_view (when i) m

  abbrev look' : (i m : ℕ) → NodeView
  look' i m = node_view (when' i) m

  abbrev N : ℕ
  N = nodes (when 0)

  abbrev r : ℕ
  r = at (when 0) (root_word n)

  abbrev l : ℕ
  l = (look 1 r).level

  -- the looks and the answer, where there is a collection n
  abbrev made : Bool → List Seen
  made c = elim c [ true ↦ answer_seen look N k 1 l r | false ↦ seen 1 r ∷ [] ]

  root-seen : (c : Bool) → Memᴰ (seen 1 r) (made c)
  root-seen true = first-seen look N k l 1 r
  root-seen false = Memᴰ.head refl

  made-if : (c : Bool) → c ≡ true → Same look look' (λ i. no-node (when i) (when' i)) N k (made c)
      → Same look look' (λ i. no-node (when i) (when' i)) N k (answer_seen look N k 1 l r)
  made-if true e h = h
  made-if false e h = absurd (let z : ◌≡◌ {A = ℕ} 0 1 = cc in omega arith)

  abbrev answered : ((i m : ℕ) → NodeView) → (N r l : ℕ) → Answer
  answered see N r l = level_turn (leb l 15) (answer_looks see N k 1 l r)

  answered-same : at (when' 0) (root_word n) ≡ r → Same look look' (λ i. no-node (when i) (when' i)) N k (made (leb l 15))
      → answered look' (nodes (when' 0)) (at (when' 0) (root_word n)) (look' 1 (at (when' 0) (root_word n))).level ≡ answered look N r l
  answered-same e h =
      let f : (look' 1 r).level ≡ l = ap (λ (x : NodeView). x.level) (h 1 r (root-seen (leb l 15))) in
      ap (λ (x : ℕ). answered look' (nodes (when' 0)) x (look' 1 x).level) e
      ∙ ap (λ (x : ℕ). answered look' x r (look' 1 r).level) (header 2 (omega arith))
      ∙ ap (λ (x : ℕ). answered look' N r x) f
      ∙ level-turn (leb l 15) _ _ (λ g. answer-same look look' (λ i. no-node (when i) (when' i)) N k l 1 r (made-if (leb l 15) g h))

pub looks-decide : LooksDecide
unfolding search_looks search_seen
looks-decide n k when when' long header same = go (header_ok (when 0)) (no_collection n (when 0)) refl refl
  where
    go : (c d : Bool) → header_ok (when 0) ≡ c → no_collection n (when 0) ≡ d → search_looks n when' k ≡ search_looks n when k
    go false d p q = rw (head-same (when 0) (when' 0) long header ∙ p, p, search_looks)
    go true true p q = rw (head-same (when 0) (when' 0) long header ∙ p, lack-same (when 0) (when' 0) long header n ∙ q, p, q, search_looks)
    go true false p q =
        rw (head-same (when 0) (when' 0) long header ∙ p, lack-same (when 0) (when' 0) long header n ∙ q, p, q, search_looks)
        (answered-same n k when when' long header (header (root_word n) (root-low n (there n (when 0) q).0))
        (rw (p, q, search_seen) at same))
