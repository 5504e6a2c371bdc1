-- The marks of the nodes visited: a node, a slot, the ways of a node one by one, the whole walk.
use Rattle.std.proofs.Common.{◌≡◌, ℕ, zero, suc, ◌+◌, ◌-◌, ◌*◌, ◌<◌, ◌≤◌, Bool, true, false, ◌||◌, eqb, ◌≢◌, List, [], ◌∷◌, ◌++◌, length}
use Rattle.std.proofs.Common.{get_or, sym, refl, ap, ◌∙◌, subst, ⊎_elim, append-nil, arith, eq-eqb, ne_eqb}
use mathlib.Core.Bool.{or-false, or_assoc, or_comm}
use Rattle.std.specs.Prelude.{None, Some}
use Rattle.model.specs.Table.{Words, root, nodes, in_range, header_ok}
use Rattle.model.specs.Slots.{Slot, View, node_view, view_from, view, height}
use Rattle.model.specs.Search.{below}
use Rattle.model.specs.Reached.{flat, head_or, pointers, kept, named, first_child, next_child, fill_row, children, reached}
use Rattle.model.specs.SoundTest.{elem}
use Rattle.list_laws.proofs.Tools.{and-iff, same-or-not, Each, Each-flat, flat-append}
use Rattle.list_laws.proofs.Members.{elem-join, flat-each}
use Rattle.table_laws.proofs.Header.{header-iff}
use Rattle.tree_laws.proofs.Rows.{At, range-iff, children-inner, link-yes, link-no}
use Rattle.tree_laws.proofs.Levels.{Level, level-lower}
use Rattle.node.specs.Word.{word_of}
use Rattle.node.proofs.WordLaws.{word-sibling, word-level}
use Rattle.walk_laws.specs.Walk.{stands, ways, Tally, walk}
use Rattle.walk_laws.proofs.Sums.{Monoid, sum, depth_first, sum-depth-first}
use Rattle.walk_laws.proofs.WalkLaw.{InOrder, in-order-iff, top-level, walk-iff}
use Rattle.slots.specs.declared.ways.Ways.{Ways}
use Rattle.slots.specs.Gathered.{span, slots_in, ways_from, pointers_from}
use Rattle.slots.proofs.Kept.{ways-end, ways-next}
use Rattle.bits.specs.Bits.{has, put}
use Rattle.bits.proofs.Marks.{has-put-same, has-put-other}
use Rattle.sound.specs.Nodes.{standing}
use Rattle.sound.specs.Visited.{visited, slot_visited, Adds, Seen}

-- ---- marks

adds-none : (ws : Words) → Adds [] ws ws
unfolding elem
adds-none ws x = sym (or-false (has ws x))

adds-then : (xs ys : List ℕ) (a b c : Words) → Adds xs a b → Adds ys b c → Adds (xs ++ ys) a c
adds-then xs ys a b c f g x =
    g x ∙ ap (λ (y : Bool). y || elem x ys) (f x) ∙ or_assoc (has a x) (elem x xs) (elem x ys)
    ∙ ap (λ (y : Bool). has a x || y) (sym (elem-join x xs ys))

adds-same : (a b : Words) (xs ys : List ℕ) → xs ≡ ys → Adds xs a b → Adds ys a b
adds-same a b xs ys e f = subst (λ (zs : List ℕ). Adds zs a b) e f

adds-put : (ws : Words) (n : ℕ) → n < 64 * length ws → Adds (n ∷ []) ws (put ws n)
unfolding elem
adds-put ws n l x =
    ⊎_elim (λ e. rw e (has-put-same ws n l ∙ sym (ap (λ (y : Bool). has ws n || (y || false)) (eq-eqb n n refl) ∙ or_comm (has ws n) true)))
    (λ e. has-put-other ws n x l e ∙ sym (ap (λ (y : Bool). has ws x || (y || false)) (ne_eqb x n e) ∙ or-false (has ws x)))
    (same-or-not x n)

-- ---- a node

-- a node that stands somewhere has a bit
pub stands-low : (t ws : Words) (n l k r : ℕ) → header_ok t ≡ true → length ws ≡ 1024 → (b : Bool) → b ≡ stands (view t) (standing n l k r)
    → b ≡ true → n < 64 * length ws
unfolding stands
stands-low t ws n l k r h e b q y =
    let range = ((range-iff (nodes t) n).0 ((and-iff (in_range (nodes t) n) _).0 (sym q ∙ y)).0).1 in
    omega (arith, ((header-iff t).0 h).size.few)

module _ (v : View) (n l : ℕ) (ws marked : Words) (low : n < 64 * length ws) (e : marked ≡ put ws n) where
  pub leaf-marked : l ≡ 0 → Adds (visited v l n) ws marked
  unfolding visited
  leaf-marked z = rw (z, e) (adds-put ws n low)

  pub inner-marked : (after : Words) → l ≢ 0 → Adds (flat (visited v (l - 1)) (fill_row v (named v n) (next_child v n))) marked after
      → Adds (visited v l n) ws after
  unfolding visited
  inner-marked after z a =
      let d : l ≡ suc (l - 1) = omega arith in
      rw d (adds-then (n ∷ []) _ ws (put ws n) after (adds-put ws n low) (rw e at a))

-- ---- a slot

module _ (t : Words) (d c r b : ℕ) (e : b ≡ word_of t c 1) where
  sibling-is : (node_view t c).sibling ≡ b
  sibling-is = sym (e ∙ word-sibling t c)

  pub right-marked : (ws after : Words) → b ≡ r → Adds (visited (view t) d c) ws after → Adds (slot_visited (view t) d c r) ws after
  unfolding slot_visited flat fill_row
  right-marked ws after h a =
      adds-same ws after _ _
      (sym (ap (flat (visited (view t) d)) (link-yes (view t) c [] r (eq-eqb (node_view t c).sibling r (sibling-is ∙ h)))
      ∙ append-nil (visited (view t) d c))) a

  pub lacks-marked : (ws between after : Words) → (b ≡ r → ⊥) → Adds (visited (view t) d c) ws between
      → Adds (visited (view t) d b) between after → Adds (slot_visited (view t) d c r) ws after
  unfolding slot_visited flat fill_row
  lacks-marked ws between after h a f =
      let row = ap (flat (visited (view t) d)) (link-no (view t) c [] r (ne_eqb (node_view t c).sibling r (λ z. h (sym sibling-is ∙ z)))) in
      let both = ap (λ (l : List ℕ). visited (view t) d c ++ l)
      (append-nil (visited (view t) d (node_view t c).sibling) ∙ ap (visited (view t) d) sibling-is) in
      adds-same ws after _ _ (sym (row ∙ both)) (adds-then (visited (view t) d c) (visited (view t) d b) ws between after a f)

-- ---- the ways of a node, one by one

row-split : (v : View) (c : ℕ) (cs : List ℕ) (e : ℕ) → fill_row v (c ∷ cs) e ≡ fill_row v (c ∷ []) (head_or e cs) ++ fill_row v cs e
row-split v c cs e = go (eqb (v.node c).sibling (head_or e cs)) refl
  where
    go : (b : Bool) → eqb (v.node c).sibling (head_or e cs) ≡ b → fill_row v (c ∷ cs) e
        ≡ fill_row v (c ∷ []) (head_or e cs) ++ fill_row v cs e
    go true q = rw (link-yes v c cs e q, link-yes v c [] (head_or e cs) q) (unfold fill_row in refl)
    go false q = rw (link-no v c cs e q, link-no v c [] (head_or e cs) q) (unfold fill_row in refl)

-- the nodes below the ways from i on
abbrev pub below_ways : View → ℕ → Ways → (i e : ℕ) → List ℕ
below_ways v d w i e = flat (visited v d) (fill_row v (pointers_from w i) e)

way-split : (v : View) (d : ℕ) (w : Ways) (i e : ℕ) → i < w.count → below_ways v d w i e
    ≡ slot_visited v d (get_or w.pointers i 0) (head_or e (pointers_from w (i + 1))) ++ below_ways v d w (i + 1) e
unfolding slot_visited
way-split v d w i e h =
    let c = get_or w.pointers i 0 in
    let cs = pointers_from w (i + 1) in
    ap (λ (ss : List Slot). flat (visited v d) (fill_row v (pointers ss) e)) (ways-next w i h)
    ∙ ap (flat (visited v d)) (row-split v c cs e)
    ∙ flat-append (visited v d) (fill_row v (c ∷ []) (head_or e cs)) (fill_row v cs e)

-- with the nodes below the ways from i on, those below all ways are marked besides
pub record Marking (v : View) (d : ℕ) (w : Ways) (e : ℕ) (first marks : Words) (i : ℕ) : Type 0 where
  pub goes : (after : Words) → Adds (below_ways v d w i e) marks after → Adds (below_ways v d w 0 e) first after

pub marking-all : (v : View) (d : ℕ) (w : Ways) (e : ℕ) (marks : Words) → Marking v d w e marks marks 0
marking-all v d w e marks = record { goes = λ after a. a }

module _ {v : View} {d : ℕ} {w : Ways} {e : ℕ} {first marks : Words} {i : ℕ} (k : Marking v d w e first marks i) where
  pub marking-next : (a : ℕ) (more : Words) → i < w.count → a ≡ head_or e (pointers_from w (i + 1))
      → Adds (slot_visited v d (get_or w.pointers i 0) a) marks more → Marking v d w e first more (i + 1)
  marking-next a more h p f =
      let c = get_or w.pointers i 0 in
      let r = head_or e (pointers_from w (i + 1)) in
      record {
        goes = λ after g.
            let here : Adds (slot_visited v d c r) marks more = subst (λ (x : ℕ). Adds (slot_visited v d c x) marks more) p f in
            k.goes after (adds-same marks after _ _ (sym (way-split v d w i e h))
            (adds-then (slot_visited v d c r) (below_ways v d w (i + 1) e) marks more after here g));
      }

  pub marking-done : (n : ℕ) → w.count ≤ i → slots_in w ≡ ways v n → e ≡ next_child v n
      → Adds (flat (visited v d) (fill_row v (named v n) (next_child v n))) first marks
  unfolding ways_from flat fill_row
  marking-done n h p q =
      let none : below_ways v d w i e ≡ [] = ap (λ (ss : List Slot). flat (visited v d) (fill_row v (pointers ss) e)) (ways-end w i h) in
      let z : w.count - 0 ≡ w.count = omega arith in
      let all : below_ways v d w 0 e ≡ flat (visited v d) (fill_row v (named v n) (next_child v n)) =
      ap (λ (m : ℕ). flat (visited v d) (fill_row v (pointers (span w.keys w.pointers 0 m)) e)) z
      ∙ ap (λ (ss : List Slot). flat (visited v d) (fill_row v (pointers ss) e)) p
      ∙ ap (λ (m : ℕ). flat (visited v d) (fill_row v (named v n) m)) q in
      adds-same first marks _ _ all (k.goes marks (adds-same marks marks _ _ (sym none) (adds-none marks)))

-- ---- the whole walk

-- where every node is in order, those visited are those reached
visited-depth : (v : View) (d : ℕ) (ns : List ℕ) → Level v d ns → Each (λ (n : ℕ). visited v d n ≡ depth_first v d n) ns
visited-depth v zero ns l = go ns
  where
    go : (ns : List ℕ) → Each (λ (n : ℕ). visited v 0 n ≡ depth_first v 0 n) ns
    go [] = tt
    go (n ∷ ns) = ((unfold visited in unfold depth_first in refl), go ns)
visited-depth v (suc d) ns l =
    let P : ℕ → Type 0 = λ (n : ℕ). visited v d n ≡ depth_first v d n in
    go ns l.row.at (Each-flat P (children v) ns (visited-depth v d (flat (children v) ns) (level-lower v d ns l)))
  where
    here : (n : ℕ) → At v (suc d) n → Each (λ (c : ℕ). visited v d c ≡ depth_first v d c) (children v n) → visited v (suc d) n
        ≡ depth_first v (suc d) n
    here n a k =
        unfold visited in unfold depth_first in ap (λ (l : List ℕ). n ∷ l)
        (ap (flat (visited v d)) (sym (children-inner v d n a.level)) ∙ flat-each (visited v d) (depth_first v d) (children v n) k)

    go : (ns : List ℕ) → Each (At v (suc d)) ns → Each (λ (n : ℕ). Each (λ (c : ℕ). visited v d c ≡ depth_first v d c) (children v n)) ns
        → Each (λ (n : ℕ). visited v (suc d) n ≡ depth_first v (suc d) n) ns
    go [] a k = tt
    go (n ∷ ns) a k = (here n a.0 k.0, go ns a.1 k.1)

ors : Monoid Bool
ors = record { unit = false; op = ◌||◌; unit-left = λ x. refl; assoc = or_assoc; comm = or_comm }

elem-sum : (x : ℕ) (l : List ℕ) → elem x l ≡ sum ors (eqb x) l
unfolding elem ors
elem-sum x [] = refl
elem-sum x (y ∷ l) = ap (λ (b : Bool). eqb x y || b) (elem-sum x l)

elem-visited : (v : View) → InOrder v → (x : ℕ) → elem x (visited v (height v) v.root) ≡ elem x (reached v)
unfolding flat
elem-visited v o x =
    let d = height v in
    ap (elem x) ((visited-depth v d (v.root ∷ []) (top-level v o)).0 ∙ sym (append-nil (depth_first v d v.root)))
    ∙ elem-sum x (depth_first v d v.root ++ [])
    ∙ sum-depth-first ors (eqb x) v d (v.root ∷ []) ∙ sym (elem-sum x (reached v))

-- a walk that was not refused
pub seen-order : (v : View) (s : Tally) → s ≡ walk v → Seen s → InOrder v
seen-order v None e h = absurd h
seen-order v (Some s) e h = let p =
    (walk-iff v s.count s.unfinished).0 (sym e) in (in-order-iff v).0 ((and-iff _ _).1 (p.root-ok, p.nodes-ok))

any-visited : (t : Words) (r q d n : ℕ) → visited (view_from t r) d n ≡ visited (view_from t q) d n
unfolding visited kept below first_child fill_row
any-visited t r q d n = refl

pub walk-marked : (t : Words) (r l : ℕ) (s : Tally) (ws after : Words) → l ≡ word_of t r 2 → s ≡ walk (view_from t r) → Seen s
    → Adds (visited (view t) l r) ws after → Adds (reached (view_from t r)) ws after
walk-marked t r l s ws after q e h a x =
    let v = view_from t r in
    a x ∙ ap (λ (b : Bool). has ws x || b)
    (ap (λ (d : ℕ). elem x (visited (view t) d r)) (q ∙ word-level t r) ∙ ap (elem x) (any-visited t (root t) r (height v) r)
    ∙ elem-visited v (seen-order v s e h) x)
