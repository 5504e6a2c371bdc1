-- One split of an insertion, moment by moment: which nodes are reached, and which node stands for the key afterwards.
use Rattle.std.proofs.Common.{◌≡◌, ℕ, suc, ◌+◌, ◌<◌, ◌≤◌, Bool, true, false, ltb, ◌≢◌, ◌⊎◌, List, [], ◌∷◌, length, take, sym, refl, ap, ◌∙◌}
use Rattle.std.proofs.Common.{subst, inl, inr, arith, ltb-false, ltb-true}
use mathlib.Core.List.{Memᴰ}
use lib.Seq.{take-length, take-append-le}
use Rattle.model.specs.declared.Node.{Node}
use Rattle.model.specs.Table.{Words, at, node_start, node_from, root_word, no_collection}
use Rattle.model.specs.Slots.{node_view, View, view_of}
use Rattle.model.specs.Search.{within}
use Rattle.model.specs.Reached.{reached, reached_all}
use Rattle.model.specs.SoundTest.{elem}
use Rattle.model.specs.Orders.{Store, put, apply}
use Rattle.model.specs.Shifts.{pointer_word}
use Rattle.model.specs.Writes.{fresh, put_all, split_words, split, standing}
use Rattle.list_laws.proofs.Tools.{same-or-not}
use Rattle.table_laws.proofs.Nodes.{has-node-iff, node-in}
use Rattle.cut_laws.proofs.Applying.{length-apply}
use Rattle.tree_laws.proofs.Levels.{Orderly}
use Rattle.tree_laws.proofs.Cover.{stays, moves}
use Rattle.tree_laws.proofs.SearchLaw.{Stands}
use Rattle.step_laws.proofs.Rowwise.{OnRow, Comes, same-stands, same-comes, stands-comes}
use Rattle.step_laws.proofs.LevelCourses.{Quiet, MayTurn}
use Rattle.step_laws.proofs.LinkCourses.{whole-quiet}
use Rattle.step_laws.proofs.WholeNode.{put-all-length}
use Rattle.step_laws.proofs.Standing.{standing-stands, standing-is}
use Rattle.step_laws.proofs.Split.{split-quiet, split-turn, split-settled}
use Rattle.two_laws.specs.Parts.{split_for}
use Rattle.step_laws.proofs.TreeAt.{tree_at}
use Rattle.two_laws.proofs.Arrange.{arr-low}
use Rattle.two_laws.proofs.AcceptedTwo.{there}
use Rattle.two_laws.proofs.CallsTwo.{Is, arr-other}
use Rattle.two_laws.proofs.SplitTwo.{length-split, split-beside}
use Rattle.two_laws.proofs.InsertTwo.{first-course, first-others}
use Rattle.two_laws.proofs.PartsTwo.{beside, tree as own-tree, settled-plain}
use Rattle.reader_laws.proofs.Values.{values-here, value-one}
use Rattle.reader_laws.proofs.ShiftValues.{none-put}
use Rattle.reader_laws.proofs.Histories.{History}
use Rattle.reader_laws.proofs.StoresHistory.{stores-history}
use Rattle.reader_laws.proofs.SettledNodes.{own-fine}
use Rattle.reader_laws.proofs.SplitValues.{all-reach, Going, ns, a-reached, b-free, full-node, split-a, going-next}

-- a node that stood for k leads, by one move at most, to the one that stands for it later
pub history-comes : (w : ℕ → View) → ((i : ℕ) → Orderly (w i)) → (l : ℕ) → History w l → (i j k m : ℕ) → i ≤ j
    → Stands (w i) k l m → Comes (w j) k l m
history-comes w o l y i j k m h c = go (ltb i y.turn) (ltb j y.turn) refl refl
  where
    go : (a b : Bool) → ltb i y.turn ≡ a → ltb j y.turn ≡ b → Comes (w j) k l m
    go a true p q = stands-comes (w j) (o j) k l m (same-stands (w i) (w j) (o i) (o j) l (y.early i j h (ltb-true j y.turn q)) k m c)
    go true false p q = y.crosses i j k m (ltb-true i y.turn p) (ltb-false j y.turn q) c
    go false false p q = same-comes (w i) (w j) (o i) (o j) l (y.late i j (ltb-false i y.turn p) h) k m (stands-comes (w i) (o i) k l m c)

module _ (n k y l : ℕ) (t : Words) (g : Going n k y (suc l) t) where
  abbrev a : ℕ
  a = standing n t l k

  abbrev b : ℕ
  b = fresh t (standing n t l k)

  abbrev ss : List Store
  ss = split_for n t l k

  abbrev t' : Words
  t' = apply ss t

  abbrev part : ℕ → Words
  part j = apply (take j ss) t

  abbrev ws : List ℕ
  ws = (beside n t g.ready.collection g.ready.settled).0

  orderly : (j : ℕ) → Orderly (view_of n (part j))
  orderly j = ((first-course l n ws t k (beside n t g.ready.collection g.ready.settled).1 g.ready).part j).1.left.orderly

  may-turn : (d : ℕ) → MayTurn (tree_at (root_word n)) d t ss
  may-turn d = go (same-or-not d l)
    where
      go : (d ≡ l) ⊎ (d ≢ l) → MayTurn (tree_at (root_word n)) d t ss
      go (inl e) = inr (rw e
          (split-turn (root_word n) (ns n k y l t g) t (own-fine n t g.ready.collection g.ready.settled) k l (full-node n k y l t g)
          b (b-free n k y l t g)))
      go (inr z) = inl (split-quiet (root_word n) (ns n k y l t g) t (own-fine n t g.ready.collection g.ready.settled) k l
          (full-node n k y l t g) b (b-free n k y l t g) d z)

  history : (d : ℕ) → History (λ (j : ℕ). view_of n (part j)) d
  history d = stores-history (tree_at (root_word n)) t ss orderly d (may-turn d)

  -- ---- which nodes are reached

  own-stays : (j m : ℕ) → Memᴰ m (reached (view_of n (part j))) → j ≤ length ss → Memᴰ m (reached (view_of n t'))
  own-stays j m i h = let u =
      (history (node_view (part j) m).level).stays j (length ss) m h (i, refl) in rw (take-length {A = Store}) at u.0

  -- the first 32 stores are B's words: they change no node that is reached
  words-part : (j : ℕ) → j ≤ 32 → take j ss ≡ take j (put_all (node_start b) (split_words t a))
  unfolding split
  words-part j h = take-append-le j (put_all (node_start b) (split_words t a)) _
      (omega (arith, put-all-length (node_start b) (split_words t a), length-split t a))

  own-early : (j m : ℕ) → j ≤ 32 → Memᴰ m (reached (view_of n (part j))) → Memᴰ m (reached (view_of n t))
  own-early j m h i =
      let q = whole-quiet (root_word n) (ns n k y l t g) t b (own-fine n t g.ready.collection g.ready.settled) (b-free n k y l t g)
      (split_words t a) (length-split t a) (node_view (part j) m).level j in
      let d = (node_view (part j) m).level in
      let here : OnRow (view_of n (part j)) d m = (i, refl) in
      let r : OnRow (view_of n (apply (take j (put_all (node_start b) (split_words t a))) t)) d m =
      subst (λ (us : List Store). OnRow (view_of n (apply us t)) d m) (words-part j h) here in
      (q.same.back m r).0

  other-same : (x : ℕ) → Is x t → x ≢ root_word n → (j m : ℕ) → Memᴰ m (reached (tree_at x (part j))) → Memᴰ m (reached (tree_at x t))
  other-same x i z j m r =
      ((arr-other (root_word n) ws t x (λ (x : ℕ). (d : ℕ) → Quiet (tree_at x) d t ss) (beside n t g.ready.collection g.ready.settled).1 i z
      (split-beside (root_word n) ws t (arr-low (root_word n) ws t (beside n t g.ready.collection g.ready.settled).1)
      (own-tree n t g.ready.collection g.ready.settled) k l (full-node n k y l t g) b (b-free n k y l t g))
      (node_view (part j) m).level j).same.back m (r, refl)).0

  -- A node that some root reaches at moment j was reached before the split, or it is B, and its words are stored by then.
  pub split-sight : (j c m : ℕ) → j ≤ length (split_for n t l k) → no_collection c t ≡ false
      → Memᴰ m (reached (view_of c (apply (take j (split_for n t l k)) t)))
      → (elem m (reached_all t) ≡ true)
      ⊎ ((m ≡ fresh t (standing n t l k)) × (32 < j) × (elem m (reached_all (apply (split_for n t l k) t)) ≡ true))
  split-sight j c m h there-c i = go (same-or-not (root_word c) (root_word n)) (ltb 32 j) refl
    where
      late : 32 < j → Memᴰ m (reached (view_of n (part j))) → (elem m (reached_all t) ≡ true)
          ⊎ ((m ≡ b) × (32 < j) × (elem m (reached_all t') ≡ true))
      late q r = by (same-or-not m b)
        where
          done : elem m (reached_all t') ≡ true
          done = all-reach n t' (going-next n k y l t g).ready.collection (going-next n k y l t g).ready.settled m (own-stays j m r h)

          by : (m ≡ b) ⊎ (m ≢ b) → (elem m (reached_all t) ≡ true) ⊎ ((m ≡ b) × (32 < j) × (elem m (reached_all t') ≡ true))
          by (inl e) = inr (e, q, done)
          by (inr z) = inl (sym (first-others l n ws t k (beside n t g.ready.collection g.ready.settled).1 g.ready m z) ∙ done)

      own : root_word c ≡ root_word n → Memᴰ m (reached (view_of n (part j)))
      own e = rw e at i

      go : (root_word c ≡ root_word n) ⊎ (root_word c ≢ root_word n) → (s : Bool) → ltb 32 j ≡ s → (elem m (reached_all t) ≡ true)
          ⊎ ((m ≡ b) × (32 < j) × (elem m (reached_all t') ≡ true))
      go (inr z) s q = inl (all-reach c t there-c g.ready.settled m (other-same (root_word c) (there c t there-c).1 z j m i))
      go (inl e) true q = late (ltb-true 32 j q) (own e)
      go (inl e) false q = inl (all-reach n t g.ready.collection g.ready.settled m (own-early j m (ltb-false 32 j q) (own e)))

  -- ---- which node stands for k on level l afterwards: A or B

  b-next : (node_view t' a).sibling ≡ b
  unfolding node_from node_start
  b-next =
      let w = suc (node_start a) in
      let u = (has-node-iff t a).0 (settled-plain n t g.ready.collection g.ready.settled a (a-reached n k y l t g)).there in
      let e : node_start a + 1 ≡ w = omega arith in
      let v = split-a n k y l t g w (omega arith, omega arith) ∙ values-here w (put w b) (put (pointer_word a 5) 0 ∷ []) refl
      ∙ ap (λ (vs : List ℕ). b ∷ vs) (none-put w 0 (pointer_word a 5) (λ q. omega arith)) in
      ap (λ (x : Node). x.sibling) (node-in t' a ((has-node-iff t' a).1 (u.0, rw (length-apply ss t) u.1))) ∙ ap (at t') e
      ∙ value-one w b ss t (omega (arith, u.0, u.1)) v

  pub standing-split :
      (standing n (apply (split_for n t l k) t) l k ≡ standing n t l k)
      ⊎ (standing n (apply (split_for n t l k) t) l k ≡ fresh t (standing n t l k))
  unfolding apply
  standing-split = go (within v a k) refl
    where
      v : View
      v = view_of n t'

      comes : Comes v k l a
      comes =
          let f = full-node n k y l t g in
          let stands = standing-stands (root_word n) (ns n k y l t g) t (own-fine n t g.ready.collection g.ready.settled) k l
          (omega (arith, f.high)) in
          rw (take-length {A = Store}) at
          (history-comes (λ (j : ℕ). view_of n (part j)) orderly l (history l) 0 (length ss) k a (omega arith) stands)

      is : (m : ℕ) → Stands v k l m → standing n t' l k ≡ m
      is m c = standing-is (root_word n) (ns n k y l t g) t'
          (split-settled (root_word n) (ns n k y l t g) t (own-fine n t g.ready.collection g.ready.settled) k l (full-node n k y l t g) b
          (b-free n k y l t g)) k l m c

      go : (c : Bool) → within v a k ≡ c → (standing n t' l k ≡ a) ⊎ (standing n t' l k ≡ b)
      go true e = inl (is a (rw (stays v k a e) at comes.stands))
      go false e = inr (is (v.node a).sibling (rw (moves v k a e) at comes.stands) ∙ b-next)
