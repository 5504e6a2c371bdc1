-- The nodes of a settled table, level by level, are the nodes reached, in their order.
use Rattle.std.proofs.Common.{◌≡◌, ℕ, zero, suc, ◌+◌, ◌-◌, ◌/◌, ◌<◌, ◌≤◌, true, ◌≢◌, List, [], ◌∷◌, ◌++◌, length, sym, refl, ap, ◌∙◌}
use Rattle.std.proofs.Common.{⊎_elim, append_assoc, append-nil, arith, length-append}
use lib.Seq.{set_out}
use Rattle.model.specs.Table.{Words, at, nodes, has_node, root}
use Rattle.model.specs.Slots.{View, node_view, view_from, view_of, view, height}
use Rattle.model.specs.Reached.{flat, head_or, children, reached_from, leaves_from, reached, reached_all}
use Rattle.model.specs.SoundTest.{sound_view, settled}
use Rattle.model.specs.Marks.{put, put_each}
use Rattle.list_laws.proofs.Tools.{same-or-not}
use Rattle.view_laws.proofs.NodeViews.{left_of}
use Rattle.tree_laws.proofs.Rows.{first-child, head-children}
use Rattle.tree_laws.proofs.Levels.{Level, sound-orderly, level-lower, level-root, reached-few}
use Rattle.walk_laws.specs.Chain.{leftmost, along, first_leaf, chain}
use Rattle.walk_laws.proofs.AnyRoot.{any-along}
use Rattle.walk_laws.proofs.ChainLaw.{along-none, along-row, chain-leaves}
use Rattle.walk_laws.proofs.WalkLaw.{sound-in-order}
use Rattle.two_laws.proofs.Arrange.{all-one, all-two}
use Rattle.two_laws.proofs.SameTwo.{first-there, second-there, settled-sound}
use Rattle.two_laws.proofs.CollectionTwo.{collection-sound}
use Rattle.node.specs.Word.{word_of}
use Rattle.node.proofs.WordLaws.{word-left, word-level}
use Rattle.leaves.proofs.HitLaws.{leaf-below}
use Rattle.leaves.proofs.FoundLaws.{whole-is}
use Rattle.opening.specs.Passes.{levels, above, rows}

-- ---- marks

-- a number past the marks gets none
pub put-out : (ws : Words) (n : ℕ) → length ws ≤ n / 64 → ws ≡ put ws n
unfolding put
put-out ws n h = sym (set_out ws (n / 64) _ h)

pub each-append : (ms ns : List ℕ) (ws : Words) → put_each (ms ++ ns) ws ≡ put_each ns (put_each ms ws)
unfolding put_each
each-append [] ns ws = refl
each-append (m ∷ ms) ns ws = each-append ms ns (put ws m)

-- ---- a level, node by node

module _ (ns : List ℕ) (ws : Words) where
  pub level-end : ns ≡ [] → ws ≡ put_each ns ws
  unfolding put_each
  level-end z = rw z

  pub level-next : (n : ℕ) (later : List ℕ) (after : Words) → ns ≡ n ∷ later → after ≡ put ws n → put_each later after ≡ put_each ns ws
  unfolding put_each
  level-next n later after z e = rw (z, e)

-- ---- a tree, level by level, as the code goes

module _ (t : Words) (r l : ℕ) (q : l ≡ word_of t r 2) where
  abbrev v : View
  v = view_from t r

  top : l ≡ height (view_from t r)
  top = q ∙ word-level t r

  here : (n : ℕ) → along (view t) (nodes t) n ≡ along (view_from t r) (nodes t) n
  here n = any-along t (root t) r (nodes t) n

  pub levels-start : (ws : Words) → put_each (levels v (height v - 0) r) ws ≡ put_each (above v) ws
  levels-start ws = let e : height v - 0 ≡ height v = omega arith in ap (λ (d : ℕ). put_each (levels v d r) ws) e

  module _ (i n : ℕ) (ws after : Words) (e : after ≡ put_each (along (view t) (nodes t) n) ws) where
    pub levels-next : i < l → (m : ℕ) → m ≡ word_of t n 0 → put_each (levels v (height v - (i + 1)) m) after
        ≡ put_each (levels v (height v - i) n) ws
    unfolding levels
    levels-next h m f =
        let d : height v - i ≡ suc (height v - (i + 1)) = omega (arith, top) in
        let k = height v - (i + 1) in
        ap (λ (x : ℕ). put_each (levels v k x) after) (f ∙ word-left t n)
        ∙ ap (put_each (levels v k (node_view t n).left)) (e ∙ ap (λ (ns : List ℕ). put_each ns ws) (here n))
        ∙ sym (each-append (along v (nodes t) n) (levels v k (node_view t n).left) ws) ∙ ap (λ (x : ℕ). put_each (levels v x n) ws) (sym d)

  pub levels-end : (i n : ℕ) (ws : Words) → l ≤ i → ws ≡ put_each (levels v (height v - i) n) ws
  unfolding levels put_each
  levels-end i n ws h = let d : height v - i ≡ 0 = omega (arith, top) in rw d

-- ---- a tree, level by level

levels-are : (v : View) (d n : ℕ) (ns : List ℕ) → Level v d ns → head_or 0 ns ≡ n → length (reached_from v d ns) ≤ v.nodes → levels v d n
    ++ leaves_from v d ns ≡ reached_from v d ns
unfolding levels leaves_from reached_from
levels-are v zero n ns l e h = refl
levels-are v (suc d) n ns l e h =
    let below = flat (children v) ns in
    let first : head_or 0 below ≡ (v.node n).left =
    head-children v d ns l.row.at ∙ first-child v (head_or 0 ns) l.some ∙ ap (left_of v) e in
    let count : length (ns ++ reached_from v d below) ≡ length ns + length (reached_from v d below) =
    length-append ns (reached_from v d below) in
    let here : along v v.nodes n ≡ ns = ap (along v v.nodes) (sym e) ∙ along-row v (suc d) v.nodes ns l.row.at l.row.chain (omega arith) in
    let rest = levels v d (v.node n).left in
    ap (λ (ms : List ℕ). (ms ++ rest) ++ leaves_from v d below) here ∙ append_assoc ns rest (leaves_from v d below)
    ∙ ap (λ (ms : List ℕ). ns ++ ms) (levels-are v d (v.node n).left below (level-lower v d ns l) first (omega arith))

rows-reached : (v : View) → sound_view v ≡ true → rows v ≡ reached v
rows-reached v s =
    let o = sound-orderly v s in
    ap (λ (ns : List ℕ). above v ++ ns) (chain-leaves v (sound-in-order v s))
    ∙ levels-are v (height v) v.root (v.root ∷ []) (level-root v o.top o.good) refl (reached-few v o)

-- 0 is no root
no-leaf : (t : Words) → first_leaf (view_from t 0) ≡ 0
unfolding leftmost word_of has_node
no-leaf t = sym (leaf-below t 0 0 refl (omega arith))

pub chain-none : (t : Words) → chain (view_from t 0) ≡ []
unfolding chain
chain-none t = let v = view_from t 0 in ap (along v (nodes t)) (no-leaf t) ∙ along-none v (nodes t)

rows-none : (t : Words) → rows (view_from t 0) ≡ []
unfolding levels word_of has_node
rows-none t = let e : (node_view t 0).level ≡ 0 = sym (word-level t 0) in rw e (chain-none t)

module _ (t : Words) (s : settled t ≡ true) (a b : ℕ) (p : a ≡ at t 1) (q : b ≡ at t 3) where
  first : rows (view_from t a) ≡ reached (view_of 1 t)
  first = ap (λ (r : ℕ). rows (view_from t r)) p ∙ rows-reached (view_of 1 t) (collection-sound 1 t (settled-sound t s) (first-there t))

  second : at t 3 ≢ 0 → rows (view_from t b) ≡ reached (view_of 2 t)
  second z = ap (λ (r : ℕ). rows (view_from t r)) q
      ∙ rows-reached (view_of 2 t) (collection-sound 2 t (settled-sound t s) (second-there t z))

  no-second : at t 3 ≡ 0 → rows (view_from t b) ≡ []
  no-second z = ap (λ (r : ℕ). rows (view_from t r)) (q ∙ z) ∙ rows-none t

  rows-all : rows (view_from t a) ++ rows (view_from t b) ≡ reached_all t
  rows-all = ⊎_elim (λ z. rw (first, no-second z, all-one t z)) (λ z. rw (first, second z, all-two t z, append-nil (reached (view_of 2 t))))
      (same-or-not (at t 3) 0)

  pub all-marked : (ws one two : Words) → one ≡ put_each (rows (view_from t a)) ws → two ≡ put_each (rows (view_from t b)) one → two
      ≡ put_each (reached_all t) ws
  all-marked ws one two e f =
      f ∙ ap (put_each (rows (view_from t b))) e ∙ sym (each-append (rows (view_from t a)) (rows (view_from t b)) ws)
      ∙ ap (λ (ns : List ℕ). put_each ns ws) rows-all

-- ---- the leaves of a tree, and those above them

pub chain-marked : (t : Words) (r first most : ℕ) → first ≡ first_leaf (view_from t r) → most ≡ nodes t
    → along (view t) most first ≡ chain (view_from t r)
chain-marked t r first most e q = any-along t (root t) r most first ∙ whole-is (view_from t r) first most e q

pub rows-marked : (v : View) (ws one two : Words) → one ≡ put_each (above v) ws → two ≡ put_each (chain v) one → two ≡ put_each (rows v) ws
rows-marked v ws one two e f = f ∙ ap (put_each (chain v)) e ∙ sym (each-append (above v) (chain v) ws)
