-- Searches whose looks fall at different moments: where a search that comes to a level is right, the answer is that of one moment.
use Rattle.std.proofs.Common.{◌≡◌, ℕ, zero, suc, ◌≤◌, true, false, leb, sym, refl, ap, ◌∙◌, arith, le-leb}
use mathlib.Core.List.Memᴰ
use mathlib.Core.Option.{Option, none, some}
use Rattle.model.specs.declared.Answer.{Answer}
use Rattle.model.specs.declared.Answer.TheVariants.{Absent}
use Rattle.model.specs.Table.{Words, at, nodes, root_word, header_ok, no_collection}
use Rattle.model.specs.Slots.{Slot, NodeView, View, node_view, view_of, height}
use Rattle.model.specs.Search.{below, on_level, down, route, first_with, first_above, answer_of, lookup, search, Next}
use Rattle.model.specs.Reached.{mapping}
use Rattle.model.specs.SoundTest.{sound}
use Rattle.model.specs.Looks.{seen_on, seen_pass, stood, stood_on, next_looks, answer_looks, search_looks, Forward, without_next}
use Rattle.list_laws.proofs.Tools.{decode}
use Rattle.tree_laws.proofs.Levels.{Orderly, mem-leaves, sound-orderly}
use Rattle.tree_laws.proofs.Parents.{reached-children}
use Rattle.tree_laws.proofs.SearchLaw.{Stands, range-first}
use Rattle.step_laws.proofs.Standing.{stands}
use Rattle.step_laws.proofs.Rowwise.{Straight, Comes, stands-comes, way-down}
use Rattle.two_laws.proofs.AcceptedTwo.{there}
use Rattle.two_laws.proofs.SearchTwo.{sound-head, sound-view, search-law}
use Rattle.reader_laws.proofs.Walk.{WasLeaf, Leaves, walk-absent}

-- what the two looks at n and at its sibling, at moments i and j, see
abbrev pub first : (ℕ → View) → (n i : ℕ) → NodeView
first w n i = (w i).node n

abbrev pub second : (ℕ → View) → (n i j : ℕ) → NodeView
second w n i j = (w j).node ((w i).node n).sibling

-- the looks fall at moments i and j ≥ i: the tests hold, and what is stood on is a node that stood for k at some moment up to j, as it was
-- then
module _ (w : ℕ → View) (N k : ℕ) where
  pub record Looked (l n i j : ℕ) : Type 0 where
    pub passes : seen_pass N l n (first w n i) (second w n i j) ≡ true
    pub moment : ℕ
    pub node : ℕ
    pub past : moment ≤ j
    pub stands : Stands (w moment) k l node
    pub on : stood_on n (first w n i) (second w n i j) k ≡ node
    pub left : (stood (first w n i) (second w n i j) k).left ≡ ((w moment).node node).left
    pub shown : (stood (first w n i) (second w n i j) k).shown ≡ ((w moment).node node).shown

  -- coming to n on level l at moment x, a search is right whenever its looks fall
  abbrev pub Right : (l x n : ℕ) → Type 0
  Right l x n = (i j : ℕ) → x ≤ i → i ≤ j → Looked l n i j

  -- a search that comes to level l is right
  abbrev pub Arrives : (l : ℕ) → Type 0
  Arrives l = (x n : ℕ) → Comes (w x) k l n → (Straight l (w x) → Stands (w x) k l n) → Right l x n

-- ---- the answer, where each level is right: that of a lookup in the map of some moment, but for the neighbour

same-without : (f : Option Slot) (x y : Next) → without_next (answer_of f (Absent x)) ≡ without_next (answer_of f (Absent y))
same-without none x y = refl
same-without (some s) x y = refl

leaf-same : {f g : Option Slot} {a : Answer} {x : Next} (y : Next) → f ≡ g → a ≡ Absent x → without_next (answer_of f a)
    ≡ without_next (answer_of g (Absent y))
leaf-same {f} {g} {a} {x} y e q = rw (e, q) (same-without g x y)

module _ (w : ℕ → View) (N k : ℕ) (orderly : (i : ℕ) → Orderly (w i)) (same-N : (i : ℕ) → (w i).nodes ≡ N)
    (arrives : (l : ℕ) → Arrives w N k l) (leaves : Leaves w) (moment : ℕ → ℕ) (forward : Forward moment) where
  abbrev look : (i n : ℕ) → NodeView
  look i n = (w (moment i)).node n

  -- each way down to a level is right
  ways : (l x m : ℕ) → Stands (w x) k (suc l) m → Right w N k l x (down (w x) m k)
  ways l x m s = let u = way-down (w x) (orderly x) k l m s in arrives l x (down (w x) m k) u.0 u.1

  leaf-first : (x n : ℕ) → Stands (w x) k 0 n → first_with k ((w x).node n).shown ≡ first_with k (mapping (w x))
  leaf-first x n s = sym
      (range-first (w x) k n (orderly x) ((mem-leaves (w x) n (orderly x)).1 (s.reached, s.covers.at.level)) s.covers.fence s.covers.inside)

  pub answer-at : (l i n x : ℕ) → x ≤ moment i → Right w N k l x n → (y : ℕ)
      × (without_next (answer_looks look N k i l n) ≡ without_next (lookup k (mapping (w y))))
  unfolding answer_looks lookup
  answer-at zero i n x h r =
      let f = r (moment i) (moment (suc i)) h (forward i) in
      let y = f.moment in
      let m = f.node in
      let u : WasLeaf w (moment (suc (suc i))) m =
      (y, omega (arith, f.past, forward (suc i)), (f.stands.reached, f.stands.covers.at.level)) in
      let a = walk-absent w N k orderly same-N leaves moment forward (suc (suc i)) m u in
      let e : first_with k (stood (first w n (moment i)) (second w n (moment i) (moment (suc i))) k).shown ≡ first_with k (mapping (w y)) =
      ap (first_with k) f.shown ∙ leaf-first y m f.stands in
      let q = ap (next_looks look N k N (suc (suc i))) f.on ∙ a.1 in
      (y, rw (f.passes, answer_looks) (leaf-same (first_above k (mapping (w y))) e q))
  answer-at (suc l) i n x h r =
      let f = r (moment i) (moment (suc i)) h (forward i) in
      let z = stood (first w n (moment i)) (second w n (moment i) (moment (suc i))) k in
      let e : route k z.left z.shown ≡ down (w f.moment) f.node k =
      ap (λ (p : ℕ). route k p z.shown) f.left ∙ ap (route k ((w f.moment).node f.node).left) f.shown in
      let u = answer-at l (suc (suc i)) (down (w f.moment) f.node k) f.moment (omega (arith, f.past, forward (suc i)))
      (ways l f.moment f.node f.stands) in
      (u.0, rw (f.passes, answer_looks) (ap (λ (m : ℕ). without_next (answer_looks look N k (suc (suc i)) l m)) e ∙ u.1))

-- ---- the whole search

seen-level : (N l n : ℕ) (x y : NodeView) → seen_pass N l n x y ≡ true → x.level ≡ l
unfolding seen_pass seen_on on_level
seen-level N l n x y h = (simp decode at h).0.1

-- the header and the root's level, then the rest
search-from : (n : ℕ) (u : ℕ → Words) (k N h : ℕ) (a : Answer) → header_ok (u 0) ≡ true → no_collection n (u 0) ≡ false → nodes (u 0) ≡ N
    → (node_view (u 1) (at (u 0) (root_word n))).level ≡ h → h ≤ 15
    → without_next (answer_looks (λ (i m : ℕ). node_view (u i) m) N k 1 h (at (u 0) (root_word n))) ≡ a
    → without_next (search_looks n u k) ≡ a
unfolding search_looks
search-from n u k N h a p c q r b e =
    let l : leb (node_view (u 1) (at (u 0) (root_word n))).level 15 ≡ true = ap (λ (x : ℕ). leb x 15) r ∙ le-leb h 15 b in
    rw (p, c, l, search_looks)
    (ap (λ (x : ℕ). without_next
    (answer_looks (λ (i m : ℕ). node_view (u i) m) x k 1 (node_view (u 1) (at (u 0) (root_word n))).level (at (u 0) (root_word n)))) q
    ∙ ap (λ (x : ℕ). without_next (answer_looks (λ (i m : ℕ). node_view (u i) m) N k 1 x (at (u 0) (root_word n)))) r ∙ e)

root-stands : (v : View) → Orderly v → (k : ℕ) → Stands v k (height v) v.root
root-stands v o k = stands v k (height v) v.root o (rw (reached-children v o) (Memᴰ.head refl)) refl (rw o.top.fence (omega arith))
    (rw o.top.sibling (unfold below in refl))

-- Tables t i at the moments i, each sound and with collection n, each level right: a search whose looks fall at moments that do not go back
-- answers as the search of one of them, but for the neighbour.
pub search-moments : (n : ℕ) (t : ℕ → Words) (N k : ℕ) → ((i : ℕ) → sound (t i) ≡ true) → ((i : ℕ) → no_collection n (t i) ≡ false)
    → ((i : ℕ) → nodes (t i) ≡ N)
    → ((l : ℕ) → Arrives (λ (i : ℕ). view_of n (t i)) N k l) → Leaves (λ (i : ℕ). view_of n (t i)) → (moment : ℕ → ℕ) → Forward moment
    → (y : ℕ) × (without_next (search_looks n (λ (i : ℕ). t (moment i)) k) ≡ without_next (search n (t y) k))
search-moments n t N k s c e y z moment f =
    let w : ℕ → View = λ (i : ℕ). view_of n (t i) in
    let o : (i : ℕ) → Orderly (w i) = λ i. sound-orderly (w i) (sound-view (root_word n) (t i) (s i) (there n (t i) (c i)).1) in
    let x = moment 0 in
    let r = (w x).root in
    let h = height (w x) in
    let top : Stands (w x) k h r = root-stands (w x) (o x) k in
    let right : Right w N k h x r = y h x r (stands-comes (w x) (o x) k h r top) (λ q. top) in
    let up = seen-level N h r (first w r (moment 1)) (second w r (moment 1) (moment 2)) (right (moment 1) (moment 2) (f 0) (f 1)).passes in
    let a = answer-at w N k o e y z moment f h 1 r x (f 0) right in
    let m = a.0 in (
      m,
      search-from n (λ (i : ℕ). t (moment i)) k N h _ (sound-head (t x) (s x)) (c x) (e x) up (o x).top.level a.1
          ∙ ap without_next (sym (search-law n (t m) (s m) (c m) k)),
    )
