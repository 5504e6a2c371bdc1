-- One split of an insertion: which words it stores to, node by node, and that a pointer which enters a node was none of its own.
use Rattle.std.proofs.Common.{◌≡◌, ℕ, zero, suc, ◌+◌, ◌<◌, ◌≤◌, Bool, true, false, ◌≢◌, List, [], ◌∷◌, ◌++◌, length, sym, refl, ap, ◌∙◌}
use Rattle.std.proofs.Common.{append_assoc, append-nil, arith}
use mathlib.Core.Bool.{false≢true}
use mathlib.Core.List.{Memᴰ}
use Rattle.model.specs.Table.{Words, nodes, node_start, root_word, no_collection}
use Rattle.model.specs.Slots.{Slot, slot, node_view, view_of}
use Rattle.model.specs.Reached.{kept, named, reached, reached_all, mapping}
use Rattle.model.specs.SoundTest.{elem, nothing, settled}
use Rattle.model.specs.Orders.{Store, put, apply}
use Rattle.model.specs.Shifts.{pointer_word}
use Rattle.model.specs.Writes.{shift_in_at, fresh, put_all, middle, split_words, split, splits, standing}
use Rattle.model.specs.Returns.{OfNode}
use Rattle.list_laws.proofs.Tools.{Each, Each-map}
use Rattle.list_laws.proofs.Members.{each-mem, mem-each, each-at, elem-iff}
use Rattle.list_laws.proofs.Lists.{each-map}
use Rattle.list_laws.proofs.Recordings.{pair-pointer}
use Rattle.word_laws.proofs.Outside.{Into}
use Rattle.tree_laws.proofs.Rows.{range-iff}
use Rattle.tree_laws.proofs.Parents.{child-reached}
use Rattle.tree_laws.proofs.Leftovers.{NothingUnfinished}
use Rattle.tree_laws.proofs.SearchLaw.{leaf_for}
use Rattle.tree_laws.proofs.PlaceOf.{standing-leaf}
use Rattle.cut_laws.proofs.Applying.{apply-append}
use Rattle.change_laws.proofs.Parts.{all-finished}
use Rattle.change_laws.proofs.LeafSlots.{NewPair, enter-fresh}
use Rattle.step_laws.proofs.Fresh.{Free}
use Rattle.step_laws.specs.Parts.{FullNode}
use Rattle.step_laws.proofs.LeafShift.{not-pointed}
use Rattle.step_laws.proofs.TreeAt.{tree_at}
use Rattle.two_laws.specs.Parts.{split_for, Ready}
use Rattle.two_laws.proofs.TwoLaw.{Tree, taken}
use Rattle.two_laws.proofs.Arrange.{Arr, arr-covers, free-fresh, free-off}
use Rattle.two_laws.proofs.SplitTwo.{length-split}
use Rattle.two_laws.proofs.InsertTwo.{first-course}
use Rattle.two_laws.proofs.LeafStores.{shift-in-into}
use Rattle.two_laws.proofs.PartsTwo.{beside, tree as own-tree, standing-reached, ready-later, split-stays}
use Rattle.reader_laws.proofs.Values.{values_to, values-append, values-past, into-none}
use Rattle.reader_laws.proofs.ShiftValues.{none-put}
use Rattle.reader_laws.proofs.SettledNodes.{reached-some, standing-level}

-- ---- the words of a node

-- no word is in two nodes, and none of the header is in one
pub one-node : (a b w : ℕ) → 1 ≤ a → 1 ≤ b → OfNode a w → OfNode b w → a ≡ b
unfolding node_start
one-node a b w i j p q = omega (arith, p.0, p.1, q.0, q.1)

pub no-header : (a w : ℕ) → w < 8 → OfNode a w → ⊥
unfolding node_start
no-header a w l p = omega (arith, p.0)

put-all-into : (a : ℕ) (xs : Words) → Each (Into a (length xs)) (put_all a xs)
unfolding put_all
put-all-into a [] = tt
put-all-into a (x ∷ xs) = (
  (omega arith, omega arith),
  Each-map (Into (suc a) (length xs)) (Into a (suc (length xs))) (put_all (suc a) xs) (λ s h. (omega (arith, h.0), omega (arith, h.1)))
      (put-all-into (suc a) xs),
)

-- all words of a node stored, at no word of another
pub put-all-none : (b w : ℕ) (xs : Words) → length xs ≡ 32 → (OfNode b w → ⊥) → values_to w (put_all (node_start b) xs) ≡ []
put-all-none b w xs e z =
    into-none (node_start b) (length xs) w (put_all (node_start b) xs) (put-all-into (node_start b) xs) (λ i j. z (i, omega arith))

-- a shift in goes to no other node
pub shift-none : (t : Words) (x k y w : ℕ) → length (node_view t x).shown ≤ 10 → (OfNode x w → ⊥) → values_to w (shift_in_at t x k y) ≡ []
shift-none t x k y w few z =
    into-none (node_start x + 8) 24 w (shift_in_at t x k y) (shift-in-into t x k y few) (λ i j. z (omega arith, omega arith))

-- what a root reaches is reached
pub all-reach : (n : ℕ) (t : Words) (h : no_collection n t ≡ false) → settled t ≡ true → (m : ℕ) → Memᴰ m (reached (view_of n t))
    → elem m (reached_all t) ≡ true
all-reach n t h s m i = go (elem m (reached_all t)) refl
  where
    go : (b : Bool) → elem m (reached_all t) ≡ b → b ≡ true
    go true e = refl
    go false e = absurd (false≢true
        (sym (((arr-covers (root_word n) (beside n t h s).0 t (beside n t h s).1).split m).0 e).0
        ∙ (elem-iff m (reached (view_of n t))).1 i))

-- ---- a run that is ready to be split, and a pair that may enter

module _ (n k y : ℕ) where
  pub record Going (l : ℕ) (t : Words) : Type 0 where
    pub ready : Ready l n t k
    pub new : NewPair (view_of n t) k y

  -- what is shifted in at the node on level l that stands for k: the pair at the leaf, else the fresh node of the split below
  abbrev pub new_at : (l : ℕ) → Words → ℕ
  new_at zero t = y
  new_at (suc l) t = fresh t (standing n t l k)

  abbrev pub key_at : (l : ℕ) → Words → ℕ
  key_at zero t = k
  key_at (suc l) t = (middle t (standing n t l k)).key

  -- the splits of the lowest l levels, and the shift in at the leaf
  unfoldable pub rest : (l : ℕ) → Words → List Store
  rest l t = let t₂ = apply (splits n l t k) t in splits n l t k ++ shift_in_at t₂ (standing n t₂ 0 k) k y

  pub rest-zero : (t : Words) → rest 0 t ≡ shift_in_at t (standing n t 0 k) k y
  unfolding rest splits apply
  rest-zero t = refl

  pub rest-suc : (l : ℕ) (t : Words) → rest (suc l) t ≡ split_for n t l k ++ rest l (apply (split_for n t l k) t)
  unfolding rest splits
  rest-suc l t =
      let ss = split_for n t l k in
      let us = splits n l (apply ss t) k in
      ap (λ (u : Words). (ss ++ us) ++ shift_in_at u (standing n u 0 k) k y) (apply-append ss us t) ∙ append_assoc ss us _

  -- ---- the highest of them split

  module _ (l : ℕ) (t : Words) (g : Going (suc l) t) where
    abbrev r : Ready (suc l) n t k
    r = g.ready

    abbrev a : ℕ
    a = standing n t l k

    abbrev b : ℕ
    b = fresh t (standing n t l k)

    abbrev p : ℕ
    p = standing n t (suc l) k

    abbrev ws : List ℕ
    ws = (beside n t r.collection r.settled).0

    abbrev arr : Arr (root_word n) ws t
    arr = (beside n t r.collection r.settled).1

    abbrev tree : Tree (root_word n) ws t nothing
    tree = own-tree n t r.collection r.settled

    abbrev pub ns : List ℕ
    ns = taken (beside n t g.ready.collection g.ready.settled).0 t

    pub a-reached : Memᴰ (standing n t l k) (reached (view_of n t))
    a-reached = standing-reached n t r.collection r.settled l k (omega (arith, r.high))

    pub p-reached : Memᴰ (standing n t (suc l) k) (reached (view_of n t))
    p-reached = standing-reached n t r.collection r.settled (suc l) k r.high

    pub b-free : Free (root_word n) ns t (fresh t (standing n t l k))
    b-free = free-fresh (root_word n) ws t a arr tree a-reached (omega (arith, r.enough))

    pub full-node : FullNode (tree_at (root_word n) t) k l
    full-node = record { high = r.high; full = r.full l (omega arith); roomy = r.above }

    pub a-some : 1 ≤ standing n t l k
    a-some = reached-some n t r.collection r.settled a a-reached

    pub p-some : 1 ≤ standing n t (suc l) k
    p-some = reached-some n t r.collection r.settled p p-reached

    pub b-some : 1 ≤ fresh t (standing n t l k)
    b-some = ((range-iff (nodes t) b).0 b-free.range).0

    -- B is reached from no root
    pub b-off : elem (fresh t (standing n t l k)) (reached_all t) ≡ false
    b-off = free-off (root_word n) ws t b arr b-free

    pub not-b : (m : ℕ) → elem m (reached_all t) ≡ true → m ≢ fresh t (standing n t l k)
    not-b m i e = false≢true (sym b-off ∙ ap (λ (x : ℕ). elem x (reached_all t)) (sym e) ∙ i)

    pub a-all : elem (standing n t l k) (reached_all t) ≡ true
    a-all = all-reach n t r.collection r.settled a a-reached

    pub p-all : elem (standing n t (suc l) k) (reached_all t) ≡ true
    p-all = all-reach n t r.collection r.settled p p-reached

    pub a-not-p : standing n t l k ≢ standing n t (suc l) k
    a-not-p e = omega (
      arith,
      standing-level n t r.collection r.settled l k (omega (arith, r.high)),
      standing-level n t r.collection r.settled (suc l) k r.high,
      ap (λ (m : ℕ). (node_view t m).level) e,
    )

    -- ---- its stores: B's words, two of A, the shift in at the parent

    abbrev two : List Store
    two = put (suc (node_start a)) b ∷ put (pointer_word a 5) 0 ∷ []

    abbrev shift : List Store
    shift = shift_in_at t p (middle t a).key b

    parted : (w : ℕ) → values_to w (split_for n t l k) ≡ values_to w (put_all (node_start b) (split_words t a))
        ++ (values_to w two ++ values_to w shift)
    unfolding split
    parted w = values-append w (put_all (node_start b) (split_words t a)) (two ++ shift)
        ∙ ap (λ (vs : List ℕ). values_to w (put_all (node_start b) (split_words t a)) ++ vs) (values-append w two shift)

    pub whole-none : (w : ℕ) → (OfNode (fresh t (standing n t l k)) w → ⊥)
        → values_to w (put_all (node_start (fresh t (standing n t l k))) (split_words t (standing n t l k))) ≡ []
    whole-none w z = put-all-none b w (split_words t a) (length-split t a) z

    two-none : (w : ℕ) → (OfNode a w → ⊥) → values_to w two ≡ []
    two-none w z = values-past w _ _ (λ e. z (omega arith, omega arith))
        ∙ none-put w 0 (pointer_word a 5) (λ e. z (omega arith, omega arith))

    pub parent-none : (w : ℕ) → (OfNode (standing n t (suc l) k) w → ⊥)
        → values_to w (shift_in_at t (standing n t (suc l) k) (middle t (standing n t l k)).key (fresh t (standing n t l k))) ≡ []
    parent-none w z = shift-none t p (middle t a).key b w r.above z

    -- after B is linked nothing goes to a word of B
    pub later-none : (w : ℕ) → OfNode (fresh t (standing n t l k)) w
        → let a = standing n t l k in values_to w
        (put (suc (node_start a)) (fresh t a) ∷ put (pointer_word a 5) 0
        ∷ shift_in_at t (standing n t (suc l) k) (middle t a).key (fresh t a)) ≡ []
    later-none w i = values-append w two shift
        ∙ rw (
          two-none w (λ j. not-b a a-all (one-node a b w a-some b-some j i)),
          parent-none w (λ j. not-b p p-all (one-node p b w p-some b-some j i)),
        )

    -- a word of none of the three, one of A, one of the parent
    pub split-none : (w : ℕ) → (OfNode (fresh t (standing n t l k)) w → ⊥) → (OfNode (standing n t l k) w → ⊥)
        → (OfNode (standing n t (suc l) k) w → ⊥) → values_to w (split_for n t l k) ≡ []
    split-none w x y z = parted w ∙ rw (whole-none w x, two-none w y, parent-none w z)

    pub split-a : (w : ℕ) → OfNode (standing n t l k) w → values_to w (split_for n t l k)
        ≡ values_to w (put (suc (node_start (standing n t l k))) (fresh t (standing n t l k))
        ∷ put (pointer_word (standing n t l k) 5) 0 ∷ [])
    split-a w i =
        parted w ∙ rw (
          whole-none w (λ j. not-b a a-all (one-node a b w a-some b-some i j)),
          parent-none w (λ j. a-not-p (one-node a p w a-some p-some i j)),
        ) (append-nil (values_to w two))

    pub split-p : (w : ℕ) → OfNode (standing n t (suc l) k) w → values_to w (split_for n t l k)
        ≡ values_to w (shift_in_at t (standing n t (suc l) k) (middle t (standing n t l k)).key (fresh t (standing n t l k)))
    split-p w i = parted w
        ∙ rw (
          whole-none w (λ j. not-b p p-all (one-node p b w p-some b-some i j)),
          two-none w (λ j. a-not-p (one-node a p w a-some p-some j i)),
        )

    -- ---- the table after it

    pub going-next : Going l (apply (split_for n t l k) t)
    going-next =
        let e : mapping (view_of n (apply (split_for n t l k) t)) ≡ mapping (view_of n t) = (first-course l n ws t k arr r).maps in
        record {
          ready = ready-later l n t k r;
          new = record { no-key = rw e g.new.no-key; no-recording = rw e g.new.no-recording; ok = g.new.ok };
        }

    pub stays-reached : (m : ℕ) → elem m (reached_all t) ≡ true → elem m (reached_all (apply (split_for n t l k) t)) ≡ true
    stays-reached = split-stays l n t k r

  -- ---- a pointer that enters a node was none of its own

  module _ (t : Words) (h : no_collection n t ≡ false) (s : settled t ≡ true) where
    leaf-new : NewPair (view_of n t) k y → Each (λ (s : Slot). s.pointer ≢ y) (node_view t (standing n t 0 k)).shown
    leaf-new new =
        let f = (own-tree n t h s).left in
        let ss = (node_view t (leaf_for (view_of n t) k)).shown in
        rw (standing-leaf (view_of n t) k f.orderly)
        (Each-map (λ (s : Slot). y ≢ s.pointer) (λ (s : Slot). s.pointer ≢ y) ss (λ s z e. z (sym e))
        (not-pointed y ss (enter-fresh (view_of n t) k y f new)))

    children-reached : (m : ℕ) → Memᴰ m (reached (view_of n t)) → (node_view t m).level ≢ 0
        → Each (λ (s : Slot). elem s.pointer (reached_all t) ≡ true) (node_view t m).shown
    children-reached m i z =
        let v = view_of n t in
        let f = (own-tree n t h s).left in
        let u = each-mem (NothingUnfinished v) (all-finished v f) i in
        let c : Each (λ (x : ℕ). elem x (reached_all t) ≡ true) (named v m) =
        mem-each (λ (x : ℕ). elem x (reached_all t) ≡ true) (named v m)
        (λ x j. all-reach n t h s x (child-reached v m x f.orderly i (rw (u.names z) j))) in
        rw u.keeps at ((each-map (λ (x : ℕ). elem x (reached_all t) ≡ true) (λ (s : Slot). s.pointer) (kept v m)).0 c.1)

  pub new-some : (l : ℕ) (t : Words) → Going l t → new_at l t ≢ 0
  new-some zero t g = (pair-pointer (slot k y) g.new.ok).0
  new-some (suc l) t g = λ e. omega (arith, b-some l t g)

  pub new-fresh : (l : ℕ) (t : Words) → Going l t → Each (λ (s : Slot). s.pointer ≢ new_at l t) (node_view t (standing n t l k)).shown
  new-fresh zero t g = leaf-new t g.ready.collection g.ready.settled g.new
  new-fresh (suc l) t g =
      let r = g.ready in
      let p = standing n t (suc l) k in
      Each-map (λ (s : Slot). elem s.pointer (reached_all t) ≡ true) (λ (s : Slot). s.pointer ≢ new_at (suc l) t) (node_view t p).shown
      (λ s i. not-b l t g s.pointer i)
      (children-reached t r.collection r.settled p (p-reached l t g)
      (λ z. omega (arith, standing-level n t r.collection r.settled (suc l) k r.high)))

  -- nor was the pointer of A at which it is split
  pub middle-new : (l : ℕ) (t : Words) → Going (suc l) t → (middle t (standing n t l k)).pointer ≢ new_at l (apply (split_for n t l k) t)
  middle-new zero t g =
      each-at (λ (s : Slot). s.pointer ≢ y) (node_view t (standing n t 0 k)).shown (slot 0 0) 5
      (omega (arith, g.ready.full 0 (omega arith))) (leaf-new t g.ready.collection g.ready.settled g.new)
  middle-new (suc l) t g =
      let r = g.ready in
      let a = standing n t (suc l) k in
      not-b l (apply (split_for n t (suc l) k) t) (going-next (suc l) t g) (middle t a).pointer
      (stays-reached (suc l) t g (middle t a).pointer
      (each-at (λ (s : Slot). elem s.pointer (reached_all t) ≡ true) (node_view t a).shown (slot 0 0) 5
      (omega (arith, r.full (suc l) (omega arith)))
      (children-reached t r.collection r.settled a (a-reached (suc l) t g)
      (λ z. omega (arith, standing-level n t r.collection r.settled (suc l) k (omega (arith, r.high)))))))
