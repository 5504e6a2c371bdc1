-- The level above the leaves: its leftmost node, its nodes along the siblings, and the leaves that they name.
use Rattle.std.proofs.Common.{◌≡◌, ℕ, zero, suc, ◌+◌, ◌-◌, ◌≤◌, true, false, eqb, ◌≢◌, List, [], ◌∷◌, ◌++◌, length, sym, refl, ap, ◌∙◌}
use Rattle.std.proofs.Common.{⊎_elim, append-nil, arith, length-append, eq-eqb, ne_eqb}
use mathlib.Core.List.{Memᴰ}
use Rattle.model.specs.Table.{Words, at, nodes, root, has_node}
use Rattle.model.specs.Slots.{Slot, View, node_view, view_from, view_of, view, height}
use Rattle.model.specs.Reached.{flat, head_or, pointers, named, children, reached_from, leaves_from, trees, reached}
use Rattle.model.specs.SoundTest.{elem, sound}
use Rattle.list_laws.proofs.Tools.{Each, Each-append, same-or-not, or-right}
use Rattle.list_laws.proofs.Members.{elem-iff, mem-each, each-mem, flat-each}
use Rattle.view_laws.proofs.NodeViews.{left_of}
use Rattle.view_laws.proofs.AnyRoot.{any-kept}
use Rattle.tree_laws.proofs.Rows.{At, first-child, head-children}
use Rattle.tree_laws.proofs.Levels.{Orderly, Level, level-lower, level-down, level-root, mem-reached, reached-few}
use Rattle.walk_laws.specs.Chain.{leftmost, along}
use Rattle.walk_laws.proofs.AnyRoot.{any-along}
use Rattle.walk_laws.proofs.ChainLaw.{along-none, along-row}
use Rattle.two_laws.proofs.Arrange.{trees-one, trees-two}
use Rattle.two_laws.proofs.SameTwo.{first-there, second-there}
use Rattle.two_laws.proofs.CollectionTwo.{collection-orderly, elem-beside}
use Rattle.node.specs.Word.{word_of}
use Rattle.node.proofs.WordLaws.{word-level}
use Rattle.reach.specs.Marks.{Taken, put_all, named_by, first_parent, named_leaves}
use Rattle.reach.proofs.Members.{taken-first}
use Rattle.reach.proofs.Marking.{put_all-append, named-by-taken}

-- ---- down by left, as the code goes

pub parent-start : (t : Words) (r l : ℕ) → l ≡ word_of t r 2 → leftmost (view_from t r) (l - 1) r ≡ first_parent (view_from t r)
unfolding first_parent
parent-start t r l q = rw (q ∙ word-level t r)

-- ---- along the siblings, as the code goes

module _ (t : Words) (ns : List ℕ) (ws : Words) where
  pub row-end : ns ≡ [] → ws ≡ put_all (flat (named_by t) ns) ws
  unfolding put_all flat
  row-end z = rw z

  pub row-next : (n : ℕ) (later : List ℕ) (after : Words) → ns ≡ n ∷ later → after ≡ put_all (named_by t n) ws
      → put_all (flat (named_by t) later) after ≡ put_all (flat (named_by t) ns) ws
  unfolding flat
  row-next n later after z e = rw (z, e, put_all-append (named_by t n) (flat (named_by t) later) ws)

-- ---- a row i levels down

leftmost-row : (v : View) (i j d n : ℕ) (ns : List ℕ) → d ≡ i + j → Level v d ns → head_or 0 ns ≡ n → leftmost v i n
    ≡ head_or 0 (leaves_from v i ns)
unfolding leftmost leaves_from
leftmost-row v zero j d n ns q l e = sym e
leftmost-row v (suc i) j zero n ns q l e = absurd (omega arith)
leftmost-row v (suc i) j (suc d) n ns q l e =
    let first : head_or 0 (flat (children v) ns) ≡ (v.node n).left =
    head-children v d ns l.row.at ∙ first-child v (head_or 0 ns) l.some ∙ ap (left_of v) e in
    leftmost-row v i j d (v.node n).left (flat (children v) ns) (omega arith) (level-lower v d ns l) first

row-few : (v : View) (i d : ℕ) (ns : List ℕ) → i ≤ d → length (leaves_from v i ns) ≤ length (reached_from v d ns)
unfolding leaves_from reached_from
row-few v zero zero ns h = omega arith
row-few v zero (suc d) ns h = simp length-append (omega arith)
row-few v (suc i) zero ns h = absurd (omega arith)
row-few v (suc i) (suc d) ns h = simp length-append (omega (arith, row-few v i d (flat (children v) ns) (omega arith)))

-- ---- the nodes above the leaves

module _ (v : View) (o : Orderly v) where
  abbrev parents : List ℕ
  parents = leaves_from v (height v - 1) (v.root ∷ [])

  top : Level v (height v) (v.root ∷ [])
  top = level-root v o.top o.good

  low : Level v (height v - (height v - 1)) parents
  low = level-down v (height v - 1) (height v - (height v - 1)) (height v) (v.root ∷ []) (omega arith) top

  pub along-parents : along v v.nodes (first_parent v) ≡ parents
  unfolding first_parent
  along-parents =
      ap (along v v.nodes)
      (leftmost-row v (height v - 1) (height v - (height v - 1)) (height v) v.root (v.root ∷ []) (omega arith) top refl)
      ∙ along-row v (height v - (height v - 1)) v.nodes parents low.row.at low.row.chain
      (omega (arith, row-few v (height v - 1) (height v) (v.root ∷ []) (omega arith), reached-few v o))

  pub parent-level : height v ≢ 0 → (n : ℕ) → Memᴰ n parents → (v.node n).level ≡ 1
  parent-level z n m = let e = (each-mem (At v (height v - (height v - 1))) low.row.at m).level in omega (arith, e)

  pub parent-reached : (n : ℕ) → Memᴰ n parents → elem n (reached v) ≡ true
  parent-reached n m = (elem-iff n (reached v)).1 ((mem-reached v n (height v) (v.root ∷ [])).1 (height v - 1, omega arith, m))

-- ---- what they name, in one tree

module _ (t : Words) (r : ℕ) (o : Orderly (view_from t r)) (f : (n : ℕ) → elem n (reached (view_from t r)) ≡ true → Taken t n) where
  abbrev v : View
  v = view_from t r

  by-parent : height v ≢ 0 → (n : ℕ) → Memᴰ n (parents v o) → named_by t n ≡ named v n
  unfolding named_by
  by-parent z n m =
      let l : eqb (node_view t n).level 0 ≡ false = ne_eqb (node_view t n).level 0 (λ y. let e = parent-level v o z n m in omega arith) in
      rw (l, f n (parent-reached v o n m)) (ap (λ (ss : List Slot). (node_view t n).left ∷ pointers ss) (any-kept t (root t) r n))

  root-leaf : height v ≡ 0 → flat (named_by t) (parents v o) ≡ []
  unfolding named_by flat leaves_from
  root-leaf z =
      let d : height v - 1 ≡ 0 = omega arith in
      let l : eqb (node_view t r).level 0 ≡ true = eq-eqb (node_view t r).level 0 z in
      rw (d, l)

  tree-named : flat (named_by t) (parents v o) ≡ named_leaves v
  unfolding named_leaves
  tree-named = ⊎_elim (λ z. root-leaf z ∙ rw (eq-eqb (height v) 0 z))
      (λ z. flat-each (named_by t) (named v) (parents v o) (mem-each _ (parents v o) (by-parent z)) ∙ rw (ne_eqb (height v) 0 z))
      (same-or-not (height v) 0)

  pub tree-leaves : (first : ℕ) → first ≡ first_parent v → flat (named_by t) (along (view t) (nodes t) first) ≡ named_leaves v
  tree-leaves first e = rw e (ap (flat (named_by t)) (any-along t (root t) r (nodes t) (first_parent v) ∙ along-parents v o) ∙ tree-named)

-- ---- in all trees

-- 0 is no root
no-parent : (t : Words) → first_parent (view_from t 0) ≡ 0
unfolding first_parent leftmost word_of has_node
no-parent t = let e : (node_view t 0).level ≡ 0 = sym (word-level t 0) in rw e

module _ (t : Words) (s : sound t ≡ true) (a b : ℕ) (p : a ≡ first_parent (view_from t (at t 1)))
    (q : b ≡ first_parent (view_from t (at t 3))) where
  abbrev named_from : ℕ → List ℕ
  named_from first = flat (named_by t) (along (view t) (nodes t) first)

  first-tree : named_from a ≡ named_leaves (view_of 1 t)
  first-tree = tree-leaves t (at t 1) (collection-orderly 1 t s (first-there t)) (λ n e. sym (taken-first t n true (sym e) refl)) a p

  second-tree : at t 3 ≢ 0 → named_from b ≡ named_leaves (view_of 2 t)
  second-tree z =
      tree-leaves t (at t 3) (collection-orderly 2 t s (second-there t z))
      (λ n e. elem-beside t z n ∙ or-right (elem n (reached (view_of 1 t))) (elem n (reached (view_of 2 t))) e) b q

  no-second : at t 3 ≡ 0 → named_from b ≡ []
  unfolding flat
  no-second z = rw (q ∙ ap (λ (r : ℕ). first_parent (view_from t r)) z ∙ no-parent t, along-none (view t) (nodes t))

  pub all-leaves : named_from a ++ named_from b ≡ flat named_leaves (trees t)
  unfolding flat
  all-leaves = ⊎_elim (λ z. rw (first-tree, no-second z, trees-one t z))
      (λ z. rw (first-tree, second-tree z, trees-two t z, append-nil (named_leaves (view_of 2 t)))) (same-or-not (at t 3) 0)

  -- marked one after the other
  pub all-marked : (ws one two : Words) → one ≡ put_all (named_from a) ws → two ≡ put_all (named_from b) one → two
      ≡ put_all (flat named_leaves (trees t)) ws
  all-marked ws one two e f =
      f ∙ ap (put_all (named_from b)) e ∙ sym (put_all-append (named_from a) (named_from b) ws)
      ∙ ap (λ (ns : List ℕ). put_all ns ws) all-leaves

flat-named : (t : Words) (ns : List ℕ) → sound t ≡ true → Each (Taken t) (flat (named_by t) ns)
unfolding flat
flat-named t [] s = tt
flat-named t (n ∷ ns) s = Each-append (Taken t) (named_by t n) (flat (named_by t) ns) (named-by-taken t n s) (flat-named t ns s)

pub leaves-taken : (t : Words) → sound t ≡ true → Each (Taken t) (flat named_leaves (trees t))
leaves-taken t s = rw (← all-leaves t s _ _ refl refl)
    (Each-append (Taken t) (flat (named_by t) _) (flat (named_by t) _) (flat-named t _ s) (flat-named t _ s))
