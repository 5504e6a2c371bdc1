-- The levels of an orderly tree: the nodes of each are one linked row, whose fences rise from 0.
use Rattle.std.proofs.Common.{◌≡◌, ℕ, zero, suc, ◌+◌, ◌-◌, ◌<◌, ◌≤◌, true, false, ◌≢◌, ◌↔◌, List, [], ◌∷◌, ◌++◌, length, sym, refl, ap, ◌∙◌}
use Rattle.std.proofs.Common.{⊎_elim, arith}
use mathlib.Core.List.Memᴰ
use mathlib.Core.List.{Memᴰ}
use Rattle.model.specs.Table.{in_range}
use Rattle.model.specs.Slots.{View, height}
use Rattle.model.specs.Reached.{flat, head_or, children, reached_from, leaves_from, reached, leaves, mapping}
use Rattle.model.specs.SoundTest.{elem, distinct, linked, node_ok, root_ok, recordings_ok, orderly, sound_view}
use Rattle.list_laws.proofs.Tools.{decode, and-iff, all-each, Each, Each-map, Each-append}
use Rattle.list_laws.proofs.Members.{each-mem, elem-false}
use Rattle.list_laws.proofs.Distinct.{distinct-cons, distinct-append, Once, once, UpTo, pigeonhole}
use Rattle.tree_laws.proofs.Rows.{Good, At, Row, Deep, inner, not-zero, sib-facts, linked-cons, first-child, left-range, head-children}
use Rattle.tree_laws.proofs.Rows.{deep-here, deep-lower, row-lower, range-iff}

-- ---- an orderly tree by its parts

pub record RootFacts (v : View) : Type 0 where
  pub range : in_range v.nodes v.root ≡ true
  pub level : height v ≤ 15
  pub fence : (v.node v.root).fence ≡ 0
  pub sibling : (v.node v.root).sibling ≡ 0

-- the root passes its test exactly if it is from 1 to N, of level at most 15, with fence 0 and sibling 0
pub root-iff : (v : View) → (root_ok v ≡ true) ↔ RootFacts v
unfolding root_ok
root-iff v = (
  λ h. let u = simp decode at h in record { range = u.0; level = u.1.0; fence = u.1.1.0; sibling = u.1.1.1 },
  λ r. simp decode (r.range, (r.level, (r.fence, r.sibling))),
)

pub record Orderly (v : View) : Type 0 where
  pub top : RootFacts v
  pub good : Each (Good v) (reached v)
  pub once : distinct (reached v) ≡ true
  pub recordings : recordings_ok (mapping v) ≡ true

-- a tree passes the test of order exactly if root, nodes and recording numbers do, and no node is reached twice
pub orderly-iff : (v : View) → (orderly v ≡ true) ↔ Orderly v
unfolding orderly
orderly-iff v = (
  λ h. let u = simp and-iff at h in record
      { top = (root-iff v).0 u.0; good = (all-each (node_ok v) _).0 u.1.0; once = u.1.1.0; recordings = u.1.1.1 },
  λ o. simp and-iff ((root-iff v).1 o.top, ((all-each (node_ok v) _).1 o.good, (o.once, o.recordings))),
)

-- a sound tree is orderly
pub sound-orderly : (v : View) → sound_view v ≡ true → Orderly v
unfolding sound_view
sound-orderly v h = (orderly-iff v).0 ((and-iff _ _).0 h).0

-- ---- levels

-- the nodes ns are those of level d under a root: a row from which only good nodes are reached, beginning with fence 0
pub record Level (v : View) (d : ℕ) (ns : List ℕ) : Type 0 where
  pub row : Row v d ns
  pub deep : Deep v d ns
  pub some : head_or 0 ns ≢ 0
  pub first : (v.node (head_or 0 ns)).fence ≡ 0

-- the nodes of level d, from left to right
abbrev pub row_at : View → ℕ → List ℕ
row_at v d = leaves_from v (height v - d) (v.root ∷ [])

-- the children of a level's nodes are the level below
pub level-lower : (v : View) (d : ℕ) (ns : List ℕ) → Level v (suc d) ns → Level v d (flat (children v) ns)
level-lower v d [] l = absurd (l.some refl)
level-lower v d (n ∷ ns) l =
    let r = l.row in
    let i = inner v d n r.good.0 r.at.0.level in
    let e : head_or 0 (flat (children v) (n ∷ ns)) ≡ (v.node n).left = head-children v d (n ∷ ns) r.at ∙ first-child v n l.some in
    record {
      row = row-lower v d (n ∷ ns) r l.deep;
      deep = deep-lower v d (n ∷ ns) l.deep;
      some = λ q. not-zero v (v.node n).left (left-range v d n i) (sym e ∙ q);
      first = ap (λ (x : ℕ). (v.node x).fence) e ∙ i.left_fence ∙ l.first;
    }

-- i levels down
pub level-down : (v : View) (i j d : ℕ) (ns : List ℕ) → d ≡ i + j → Level v d ns → Level v j (leaves_from v i ns)
unfolding leaves_from
level-down v zero j d ns e l = let q : d ≡ j = omega arith in rw q at l
level-down v (suc i) j zero ns e l = absurd (omega arith)
level-down v (suc i) j (suc d) ns e l = level-down v i j d (flat (children v) ns) (omega arith) (level-lower v d ns l)

-- if root and reached nodes are good, the root alone is the level of the tree's height
pub level-root : (v : View) → RootFacts v → Each (Good v) (reached v) → Level v (height v) (v.root ∷ [])
level-root v t g =
    let n = v.root in
    record {
      row = record {
        good = deep-here v (height v) (n ∷ []) g;
        at = (record { range = t.range; level = refl }, tt);
        chain = (linked-cons v n [] 0).1 (t.sibling, unfold linked in refl);
      };
      deep = g;
      some = not-zero v n t.range;
      first = t.fence;
    }

-- in an orderly tree the root alone is a row
pub top-row : (v : View) → Orderly v → Row v (height v) (v.root ∷ [])
top-row v o = (level-root v o.top o.good).row

-- in an orderly tree the row of each level up to the root's is a whole level
pub level-at : (v : View) (d : ℕ) → Orderly v → d ≤ height v → Level v d (row_at v d)
level-at v d o h = level-down v (height v - d) d (height v) (v.root ∷ []) (omega arith) (level-root v o.top o.good)

-- in an orderly tree the leaves are the whole level 0
pub level-leaves : (v : View) → Orderly v → Level v 0 (leaves v)
level-leaves v o = level-down v (height v) 0 (height v) (v.root ∷ []) (omega arith) (level-root v o.top o.good)

-- the leaves are the row of level 0, the root that of its level, and each row has the children of the row above
pub row-leaves : (v : View) → row_at v 0 ≡ leaves v
row-leaves v = let e : height v - 0 ≡ height v = omega arith in rw e

pub row-root : (v : View) → row_at v (height v) ≡ v.root ∷ []
unfolding leaves_from
row-root v = let e : height v - height v ≡ 0 = omega arith in rw e

leaves-suc : (v : View) (i : ℕ) (ns : List ℕ) → leaves_from v (suc i) ns ≡ flat (children v) (leaves_from v i ns)
unfolding leaves_from
leaves-suc v zero ns = refl
leaves-suc v (suc i) ns = leaves-suc v i (flat (children v) ns)

-- the row of a level below the root's has the children of the row above
pub row-below : (v : View) (d : ℕ) → d < height v → row_at v d ≡ flat (children v) (row_at v (suc d))
row-below v d h = let e : height v - d ≡ suc (height v - suc d) = omega arith in rw e (leaves-suc v (height v - suc d) (v.root ∷ []))

-- ---- reached nodes by levels

-- a node is reached from a row exactly if it is in the row i levels below, for some i up to d
pub mem-reached : (v : View) (n d : ℕ) (ns : List ℕ) → Memᴰ n (reached_from v d ns) ↔ ((i : ℕ) × (i ≤ d) × Memᴰ n (leaves_from v i ns))
unfolding reached_from leaves_from
mem-reached v n zero ns = (λ m. (0, omega arith, m), λ u. let e : u.0 ≡ 0 = omega (arith, u.1) in rw e at u.2)
mem-reached v n (suc d) ns = (
  λ m. ⊎_elim (λ a. (0, omega arith, a)) (λ b. let u = (mem-reached v n d (flat (children v) ns)).0 b in (suc u.0, omega (arith, u.1), u.2))
      (Memᴰ.append_cases ns m),
  λ u. from u.0 u.1 u.2 (mem-reached v n d (flat (children v) ns)).1,
)
  where
    from : (i : ℕ) → i ≤ suc d → Memᴰ n (leaves_from v i ns)
        → ((i : ℕ) × (i ≤ d) × Memᴰ n (leaves_from v i (flat (children v) ns)) → Memᴰ n (reached_from v d (flat (children v) ns)))
        → Memᴰ n (ns ++ reached_from v d (flat (children v) ns))
    from zero h m ih = Memᴰ.append_left _ m
    from (suc i) h m ih = Memᴰ.append_right ns (ih (i, omega arith, m))

pub row-reached : (v : View) (n d : ℕ) → d ≤ height v → Memᴰ n (row_at v d) → Memᴰ n (reached v)
row-reached v n d h m = (mem-reached v n (height v) (v.root ∷ [])).1 (height v - d, omega arith, m)

pub record InRow (v : View) (n : ℕ) : Type 0 where
  pub level : (v.node n).level ≤ height v
  pub row : Memᴰ n (row_at v (v.node n).level)

-- in an orderly tree a reached node stands in the row of its level
pub reached-row : (v : View) (n : ℕ) → Orderly v → Memᴰ n (reached v) → InRow v n
reached-row v n o m =
    let u = (mem-reached v n (height v) (v.root ∷ [])).0 m in
    let i = u.0 in
    let l = level-down v i (height v - i) (height v) (v.root ∷ []) (omega (arith, u.1)) (level-root v o.top o.good) in
    let e : (v.node n).level ≡ height v - i = (each-mem (At v (height v - i)) l.row.at u.2).level in
    let q : height v - (v.node n).level ≡ i = omega (arith, u.1) in
    record { level = omega arith; row = rw q u.2 }

-- the leaves are the reached nodes of level 0
pub mem-leaves : (v : View) (n : ℕ) → Orderly v → Memᴰ n (leaves v) ↔ (Memᴰ n (reached v) × ((v.node n).level ≡ 0))
mem-leaves v n o = (
  λ m. ((mem-reached v n (height v) (v.root ∷ [])).1 (height v, omega arith, m), (each-mem (At v 0) (level-leaves v o).row.at m).level),
  λ u. rw (row-leaves v) at (rw u.1 at (reached-row v n o u.0).row),
)

-- ---- fences rise along a row, so no node is reached twice

-- the fences rise strictly along the nodes
abbrev pub Ascending : View → List ℕ → Type 0
Ascending v [] = Unit {0}
Ascending v (n ∷ ns) = Each (λ (m : ℕ). (v.node n).fence < (v.node m).fence) ns × Ascending v ns

-- a row without its first node is a row
pub row-tail : (v : View) (d n : ℕ) (ns : List ℕ) → Row v d (n ∷ ns) → Row v d ns
row-tail v d n ns r = record { good = r.good.1; at = r.at.1; chain = ((linked-cons v n ns 0).0 r.chain).1 }

row-above : (v : View) (d n : ℕ) (ns : List ℕ) → Row v d (n ∷ ns) → Each (λ (m : ℕ). (v.node n).fence < (v.node m).fence) ns
row-above v d n [] r = tt
row-above v d n (m ∷ ms) r =
    let u = (linked-cons v n (m ∷ ms) 0).0 r.chain in
    let s = sib-facts v n r.good.0 (λ z. not-zero v m r.at.1.0.range (sym u.0 ∙ z)) in
    let l : (v.node n).fence < (v.node m).fence = rw u.0 at s.fence in (
      l,
      Each-map (λ (k : ℕ). (v.node m).fence < (v.node k).fence) (λ (k : ℕ). (v.node n).fence < (v.node k).fence) ms (λ k h. omega arith)
          (row-above v d m ms (row-tail v d n (m ∷ ms) r)),
    )

-- the fences along a row rise strictly
pub ascending : (v : View) (d : ℕ) (ns : List ℕ) → Row v d ns → Ascending v ns
ascending v d [] r = tt
ascending v d (n ∷ ns) r = (row-above v d n ns r, ascending v d ns (row-tail v d n ns r))

-- the first node of a row has its lowest fence
pub head-least : (v : View) (d n : ℕ) (ns : List ℕ) → Row v d ns → Memᴰ n ns → (head_or 0 ns ≢ 0)
    × ((v.node (head_or 0 ns)).fence ≤ (v.node n).fence)
head-least v d n [] r m = absurd (Memᴰ.not-nil m)
head-least v d n (x ∷ xs) r m = (
  not-zero v x r.at.0.range,
  ⊎_elim (λ e. rw e (omega arith))
      (λ t. let h = each-mem (λ (y : ℕ). (v.node x).fence < (v.node y).fence) (ascending v d (x ∷ xs) r).0 t in omega arith)
      (Memᴰ.cases_cons m),
)

-- nodes along which the fences rise are different
pub row-distinct : (v : View) (ns : List ℕ) → Ascending v ns → distinct ns ≡ true
row-distinct v [] a = unfold distinct in refl
row-distinct v (n ∷ ns) a =
    let apart : (m : ℕ) → (v.node n).fence < (v.node m).fence → m ≢ n = λ m h e. omega (arith, ap (λ (x : ℕ). (v.node x).fence) e) in
    (distinct-cons n ns).1 (
      (elem-false n ns).1
          (Each-map (λ (m : ℕ). (v.node n).fence < (v.node m).fence) (λ (m : ℕ). m ≢ n) ns apart a.0),
      row-distinct v ns a.1,
    )

-- nodes of one row with the same fence are one
pub row-apart : (v : View) (m n : ℕ) (ns : List ℕ) → Ascending v ns → Memᴰ m ns → Memᴰ n ns → (v.node m).fence ≡ (v.node n).fence → m ≡ n
row-apart v m n [] a x y e = absurd (Memᴰ.not-nil x)
row-apart v m n (k ∷ ks) a x y e =
    ⊎_elim (λ p. ⊎_elim (λ q. p ∙ sym q) (λ q. absurd (far n q (ap (λ (x : ℕ). (v.node x).fence) (sym p) ∙ e))) (Memᴰ.cases_cons y))
    (λ p. ⊎_elim (λ q. absurd (far m p (ap (λ (x : ℕ). (v.node x).fence) (sym q) ∙ sym e))) (λ q. row-apart v m n ks a.1 p q e)
    (Memᴰ.cases_cons y)) (Memᴰ.cases_cons x)
  where
    far : (j : ℕ) → Memᴰ j ks → (v.node k).fence ≡ (v.node j).fence → ⊥
    far j h q = let l = each-mem (λ (m : ℕ). (v.node k).fence < (v.node m).fence) a.0 h in omega arith

-- a node number, on level d at most
abbrev pub Bounded : View → ℕ → ℕ → Type 0
Bounded v d n = (in_range v.nodes n ≡ true) × ((v.node n).level ≤ d)

levels-below : (v : View) (d : ℕ) (ns : List ℕ) → Level v d ns → Each (Bounded v d) (reached_from v d ns)
unfolding reached_from
levels-below v zero ns l = Each-map (At v 0) (Bounded v 0) ns (λ n a. (a.range, omega (arith, a.level))) l.row.at
levels-below v (suc d) ns l =
    Each-append (Bounded v (suc d)) ns (reached_from v d (flat (children v) ns))
    (Each-map (At v (suc d)) (Bounded v (suc d)) ns (λ n a. (a.range, omega (arith, a.level))) l.row.at)
    (Each-map (Bounded v d) (Bounded v (suc d)) (reached_from v d (flat (children v) ns)) (λ n a. (a.0, omega (arith, a.1)))
    (levels-below v d (flat (children v) ns) (level-lower v d ns l)))

pub once-from : (v : View) (d : ℕ) (ns : List ℕ) → Level v d ns → distinct (reached_from v d ns) ≡ true
unfolding reached_from
once-from v zero ns l = row-distinct v ns (ascending v 0 ns l.row)
once-from v (suc d) ns l =
    let lower = reached_from v d (flat (children v) ns) in
    let b = levels-below v d (flat (children v) ns) (level-lower v d ns l) in
    let off : (n : ℕ) → At v (suc d) n → elem n lower ≡ false = λ n a.
    (elem-false n lower).1
    (Each-map (Bounded v d) (λ (m : ℕ). m ≢ n) lower (λ m h e. omega (arith, h.1, a.level, ap (λ (x : ℕ). (v.node x).level) e)) b) in
    (distinct-append ns lower).1 (
      row-distinct v ns (ascending v (suc d) ns l.row),
      once-from v d (flat (children v) ns) (level-lower v d ns l),
      Each-map (At v (suc d)) (λ (n : ℕ). elem n lower ≡ false) ns off l.row.at,
    )

-- that no node is reached twice follows from the rest
pub once-follows : (v : View) → RootFacts v → Each (Good v) (reached v) → distinct (reached v) ≡ true
once-follows v t g = once-from v (height v) (v.root ∷ []) (level-root v t g)

-- in an orderly tree each reached node is from 1 to N and not above the root's level
pub reached-bounds : (v : View) → Orderly v → Each (Bounded v (height v)) (reached v)
reached-bounds v o = levels-below v (height v) (v.root ∷ []) (level-root v o.top o.good)

-- they are numbers from 1 to N, so at most N
pub reached-numbers : (v : View) → Orderly v → Each (UpTo v.nodes) (reached v)
reached-numbers v o = Each-map (Bounded v (height v)) (UpTo v.nodes) (reached v) (λ n h. (range-iff v.nodes n).0 h.0) (reached-bounds v o)

-- in an orderly tree at most N nodes are reached
pub reached-few : (v : View) → Orderly v → length (reached v) ≤ v.nodes
reached-few v o = pigeonhole v.nodes (reached v) o.once (reached-numbers v o)

pub leaf-once : (v : View) (n : ℕ) → Orderly v → Memᴰ n (leaves v) → Once n (leaves v)
leaf-once v n o m = once n (leaves v) (row-distinct v (leaves v) (ascending v 0 (leaves v) (level-leaves v o).row)) m
