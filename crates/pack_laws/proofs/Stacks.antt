-- Rows of nodes stacked up to a root make a settled tree, whose map is the slots of its leaves in a row.
use Rattle.std.proofs.Common.{◌≡◌, ℕ, suc, ◌≤◌, true, eqb, ◌≢◌, List, [], ◌∷◌, ◌++◌, map, sym, refl, ap, ◌∙◌, append-nil, arith}
use mathlib.Core.List.{map-append}
use Rattle.model.specs.Table.{MARK, in_range}
use Rattle.model.specs.Slots.{Slot, slot, View, height}
use Rattle.model.specs.Search.{below, within}
use Rattle.model.specs.Reached.{flat, head_or, pointers, kept, named, first_child, next_child, children, reached_from, leaves_from, reached}
use Rattle.model.specs.Reached.{leaves, mapping}
use Rattle.model.specs.SoundTest.{sibling_ok, rising, come_first, linked, child_ok, slot_ok, recordings_ok}
use Rattle.view_laws.proofs.NodeViews.{shown_of}
use Rattle.list_laws.proofs.Tools.{decode, or-right, all-each, Each, Each-map, Each-split, Each-append}
use Rattle.list_laws.proofs.Members.{flat-each, mem-each}
use Rattle.list_laws.proofs.Lists.{each-map}
use Rattle.list_laws.proofs.Filters.{filter-all}
use Rattle.tree_laws.proofs.Rows.{Good, not-zero, first-child, linked-cons, each-leaf}
use Rattle.tree_laws.proofs.Cover.{below-high, below-true}
use Rattle.tree_laws.proofs.Rising.{rising-cons, rising-apart}
use Rattle.tree_laws.proofs.Kept.{each-first}
use Rattle.tree_laws.proofs.Levels.{RootFacts, once-follows}
use Rattle.tree_laws.proofs.Leftovers.{NothingUnfinished, SettledTree, names-linked}
use Rattle.change_laws.proofs.Parts.{leaf-iff, inner-iff, good-leaf, good-inner}
use Rattle.change_laws.proofs.Siblings.{linked-split}

-- a node as a child: its fence and its number
abbrev pub way_to : View → ℕ → Slot
way_to v n = slot (v.node n).fence n

-- the ways down of an inner node, the left one with the node's own fence
abbrev pub ways_of : View → ℕ → List Slot
ways_of v n = slot (v.node n).fence (v.node n).left ∷ (v.node n).shown

-- a node on level d with nothing hidden
pub record Plain (v : View) (d n : ℕ) : Type 0 where
  pub range : in_range v.nodes n ≡ true
  pub level : (v.node n).level ≡ d
  pub clear : (v.node n).clear ≡ true
  pub hidden : (v.node n).hidden ≡ 0

-- each node's fence and keys are below the fence of the node after it
abbrev pub Fits : View → List ℕ → Type 0
Fits v [] = Unit {0}
Fits v (n ∷ ns) = Each (λ (s : Slot). below v (head_or 0 ns) s.key ≡ true) (ways_of v n) × Fits v ns

-- good, and nothing unfinished
abbrev pub Fine : View → ℕ → Type 0
Fine v n = Good v n × NothingUnfinished v n

module _ (v : View) where
  pub below-zero : (k : ℕ) → below v 0 k ≡ true
  unfolding below
  below-zero k = refl

  record Stands (n : ℕ) : Type 0 where
    sib : sibling_ok v n ≡ true
    keeps : kept v n ≡ (v.node n).shown
    first : come_first (λ (s : Slot). within v n s.key) (v.node n).shown ≡ true

  sib-ok : (d n : ℕ) (ns : List ℕ) → (v.node n).level ≡ d → Each (Plain v d) ns → (v.node n).sibling ≡ head_or 0 ns
      → below v (head_or 0 ns) (v.node n).fence ≡ true → sibling_ok v n ≡ true
  unfolding sibling_ok
  sib-ok d n [] l p e b = rw e
  sib-ok d n (m ∷ ms) l p e b =
      rw e (or-right (eqb m 0) _ (simp decode (p.0.range, (p.0.level ∙ sym l, below-true v (v.node n).fence m (not-zero v m p.0.range) b))))

  fits-row : (d : ℕ) (ns : List ℕ) → Each (Plain v d) ns → linked v ns 0 ≡ true → Fits v ns → Each Stands ns
  unfolding kept
  fits-row d [] p c f = tt
  fits-row d (n ∷ ns) p c f =
      let u = (linked-cons v n ns 0).0 c in
      let w : Each (λ (s : Slot). within v n s.key ≡ true) (v.node n).shown = rw u.0 f.0.1 in (
        record {
          sib = sib-ok d n ns p.0.level p.1 u.0 f.0.0;
          keeps = filter-all _ (v.node n).shown w;
          first = each-first _ (v.node n).shown w;
        },
        fits-row d ns p.1 u.1 f.1,
      )

  -- the fences of such a row rise
  fits-rise : (d low : ℕ) (ns : List ℕ) → Each (Plain v d) ns → Fits v ns → low ≤ (v.node (head_or 0 ns)).fence
      → rising low (map (way_to v) ns) ≡ true
  fits-rise d low [] p f h = unfold rising in refl
  fits-rise d low (n ∷ []) p f h = (rising-cons low (way_to v n) []).1 (h, unfold rising in refl)
  fits-rise d low (n ∷ m ∷ ms) p f h = (rising-cons low (way_to v n) (map (way_to v) (m ∷ ms))).1 (
    h,
    fits-rise d (suc (v.node n).fence) (m ∷ ms) p.1 f.1
        (omega (arith, below-true v (v.node n).fence m (not-zero v m p.1.0.range) f.0.0)),
  )

  -- ---- an inner row over the row below it

  -- a way to a node on level d
  record Leads (d : ℕ) (s : Slot) : Type 0 where
    range : in_range v.nodes s.pointer ≡ true
    level : (v.node s.pointer).level ≡ d
    fence : (v.node s.pointer).fence ≡ s.key

  -- ways that rise, node by node, fit
  ways-fit : (low : ℕ) (ns : List ℕ) → rising low (flat (ways_of v) ns) ≡ true → Fits v ns
  unfolding flat
  ways-fit low [] r = tt
  ways-fit low (n ∷ []) r = (mem-each (λ (s : Slot). below v 0 s.key ≡ true) (ways_of v n) (λ s m. below-zero s.key), tt)
  ways-fit low (n ∷ m ∷ ms) r =
      let a = rising-apart low (ways_of v n) (flat (ways_of v) (m ∷ ms)) r in (
        Each-map _ (λ (s : Slot). below v m s.key ≡ true) (ways_of v n) (λ s h. below-high v s.key m h.0) a.between,
        ways-fit low (m ∷ ms) a.right,
      )

  -- the child after n's last is the first of the next node
  next-child : (d n : ℕ) (ns : List ℕ) → Each (Plain v (suc d)) ns → (v.node n).sibling ≡ head_or 0 ns → next_child v n
      ≡ head_or 0 (pointers (flat (ways_of v) ns))
  unfolding flat first_child
  next-child d n [] p e = rw e
  next-child d n (m ∷ ms) p e = ap (first_child v) e ∙ first-child v m (not-zero v m p.0.range)

  -- a row parted
  linked-parts : (xs ys : List ℕ) (e : ℕ) → linked v (xs ++ ys) e ≡ true → (linked v xs (head_or e ys) ≡ true) × (linked v ys e ≡ true)
  linked-parts xs [] e h = (rw (append-nil xs) at h, unfold linked in refl)
  linked-parts xs (y ∷ ys) e h = linked-split v xs y ys e h

  leads-ok : (d : ℕ) (s : Slot) → Leads d s → slot_ok v (suc d) s ≡ true
  unfolding slot_ok child_ok
  leads-ok d s l = simp decode (ap suc l.level, l.fence)

  inner-node : (d n e : ℕ) → Plain v (suc d) n → Stands n → next_child v n ≡ e → Each (Leads d) (ways_of v n)
      → linked v (pointers (ways_of v n)) e ≡ true
      → rising (suc (v.node n).fence) (v.node n).shown ≡ true → Fine v n × (children v n ≡ pointers (ways_of v n))
  unfolding slot_ok
  inner-node d n e p s x l c r =
      let z : (v.node n).level ≢ 0 = λ q. omega (arith, p.level) in
      let k : named v n ≡ pointers (ways_of v n) = ap (λ (ss : List Slot). (v.node n).left ∷ pointers ss) s.keeps in
      let h : children v n ≡ named v n = (names-linked v n z).1 (rw (k, x) c) in
      let g : Good v n = good-inner v d n p.level p.clear s.sib ((inner-iff v n).1 (record {
        keys = record { rise = rw s.keeps r; first = s.first };
        left = rw p.level (leads-ok d (slot (v.node n).fence (v.node n).left) l.0);
        slots = rw (p.level, s.keeps)
            ((all-each (slot_ok v (suc d)) (v.node n).shown).1 (Each-map (Leads d) _ (v.node n).shown (leads-ok d) l.1));
        range = rw (h, k) ((all-each (in_range v.nodes) (pointers (ways_of v n))).1
            ((each-map _ (λ (s : Slot). s.pointer) (ways_of v n)).1 (Each-map (Leads d) _ (ways_of v n) (λ s f. f.range) l)));
        chain = rw (h, k, x) c;
      })) in
      ((g, record { shows = p.hidden; keeps = s.keeps; names = λ q. h }), h ∙ k)

  inner-row : (d low : ℕ) (ns : List ℕ) → Each (Plain v (suc d)) ns → Each Stands ns → linked v ns 0 ≡ true
      → Each (Leads d) (flat (ways_of v) ns)
      → linked v (pointers (flat (ways_of v) ns)) 0 ≡ true → rising low (flat (ways_of v) ns) ≡ true → Each (Fine v) ns
      × (flat (children v) ns ≡ pointers (flat (ways_of v) ns))
  unfolding flat
  inner-row d low [] p s c l k r = (tt, refl)
  inner-row d low (n ∷ ns) p s c l k r =
      let rest = flat (ways_of v) ns in
      let u = (linked-cons v n ns 0).0 c in
      let a = rising-apart low (ways_of v n) rest r in
      let e = Each-split (Leads d) (ways_of v n) rest l in
      let m : pointers (ways_of v n ++ rest) ≡ pointers (ways_of v n) ++ pointers rest =
      map-append (λ (s : Slot). s.pointer) (ways_of v n) rest in
      let w = linked-parts (pointers (ways_of v n)) (pointers rest) 0 (rw m at k) in
      let one = inner-node d n (head_or 0 (pointers rest)) p.0 s.0 (next-child d n ns p.1 u.0) e.0 w.0
      ((rising-cons low _ (v.node n).shown).0 a.left).1 in
      let more = inner-row d low ns p.1 s.1 u.1 e.1 w.1 a.right in
      ((one.0, more.0), rw (one.1, more.1) (sym m))

  -- ---- rows stacked

  -- the row ns on level d, over rows that end with the leaves ls; rs are the nodes of all these rows
  pub record Stack (d : ℕ) (ns ls rs : List ℕ) : Type 0 where
    pub plain : Each (Plain v d) ns
    pub chain : linked v ns 0 ≡ true
    pub fits : Fits v ns
    pub first : (v.node (head_or 0 ns)).fence ≡ 0
    pub fine : Each (Fine v) (reached_from v d ns)
    pub leaves : leaves_from v d ns ≡ ls
    pub reach : reached_from v d ns ≡ rs

  leaf-fine : (ns : List ℕ) → Each (Plain v 0) ns → Each Stands ns
      → Each (λ (n : ℕ). ((v.node n).left ≡ MARK) × (rising (v.node n).fence (v.node n).shown ≡ true)) ns → Each (Fine v) ns
  leaf-fine [] p s l = tt
  leaf-fine (n ∷ ns) p s l = (
    (
      good-leaf v n p.0.level p.0.clear s.0.sib
          ((leaf-iff v n).1 (record { left = l.0.0; keys = record { rise = rw s.0.keeps l.0.1; first = s.0.first } })),
      record { shows = p.0.hidden; keeps = s.0.keeps; names = λ z. absurd (z p.0.level) },
    ),
    leaf-fine ns p.1 s.1 l.1,
  )

  -- a row of leaves
  pub stack-leaves : (ns : List ℕ) → Each (Plain v 0) ns → linked v ns 0 ≡ true → Fits v ns → (v.node (head_or 0 ns)).fence ≡ 0
      → Each (λ (n : ℕ). ((v.node n).left ≡ MARK) × (rising (v.node n).fence (v.node n).shown ≡ true)) ns → Stack 0 ns ns ns
  unfolding reached_from leaves_from
  stack-leaves ns p c f z l =
      record { plain = p; chain = c; fits = f; first = z; fine = leaf-fine ns p (fits-row 0 ns p c f) l; leaves = refl; reach = refl }

  plain-leads : (d : ℕ) (ns : List ℕ) → Each (Plain v d) ns → Each (Leads d) (map (way_to v) ns)
  plain-leads d [] p = tt
  plain-leads d (n ∷ ns) p = (record { range = p.0.range; level = p.0.level; fence = refl }, plain-leads d ns p.1)

  ways-numbers : (ns : List ℕ) → pointers (map (way_to v) ns) ≡ ns
  ways-numbers [] = refl
  ways-numbers (n ∷ ns) = ap (λ (l : List ℕ). n ∷ l) (ways-numbers ns)

  abbrev head_key : List Slot → ℕ
  head_key [] = (v.node 0).fence
  head_key (s ∷ ss) = s.key

  head-way : (ms : List ℕ) → head_key (map (way_to v) ms) ≡ (v.node (head_or 0 ms)).fence
  head-way [] = refl
  head-way (m ∷ ms) = refl

  head-ways : (ns : List ℕ) → head_key (flat (ways_of v) ns) ≡ (v.node (head_or 0 ns)).fence
  unfolding flat
  head-ways [] = refl
  head-ways (n ∷ ns) = refl

  -- a row whose ways, in a row, are those to the nodes of the row below
  pub stack-up : (d : ℕ) (ns ms ls rs : List ℕ) → Stack d ms ls rs → Each (Plain v (suc d)) ns → linked v ns 0 ≡ true → flat (ways_of v) ns
      ≡ map (way_to v) ms → Stack (suc d) ns ls (ns ++ rs)
  unfolding reached_from leaves_from
  stack-up d ns ms ls rs s p c e =
      let r : rising 0 (flat (ways_of v) ns) ≡ true = rw e (fits-rise d 0 ms s.plain s.fits (omega arith)) in
      let f = ways-fit 0 ns r in
      let k : pointers (flat (ways_of v) ns) ≡ ms = ap pointers e ∙ ways-numbers ms in
      let w = inner-row d 0 ns p (fits-row (suc d) ns p c f) c (rw e (plain-leads d ms s.plain)) (rw k s.chain) r in
      let q : flat (children v) ns ≡ ms = w.1 ∙ k in
      record {
        plain = p;
        chain = c;
        fits = f;
        first = sym (head-ways ns) ∙ ap head_key e ∙ head-way ms ∙ s.first;
        fine = rw q (Each-append (Fine v) ns _ w.0 s.fine);
        leaves = rw q s.leaves;
        reach = rw (q, s.reach);
      }

  -- Rows stacked up to the root are a settled tree; its map is the slots of the leaves.
  pub stack-map : (ls rs : List ℕ) → Stack (height v) (v.root ∷ []) ls rs → mapping v ≡ flat (shown_of v) ls
  unfolding mapping
  stack-map ls rs s =
      ap (flat (kept v)) s.leaves
      ∙ flat-each (kept v) (shown_of v) ls
      (rw s.leaves at (each-leaf v (λ (n : ℕ). kept v n ≡ (v.node n).shown) (height v) (v.root ∷ [])
      (Each-map (Fine v) _ (reached v) (λ n f. f.1.keeps) s.fine)))

  pub stack-settled : (ls rs : List ℕ) → Stack (height v) (v.root ∷ []) ls rs → height v ≤ 15
      → recordings_ok (flat (shown_of v) ls) ≡ true → SettledTree v
  stack-settled ls rs s h r =
      let t : RootFacts v =
      record { range = s.plain.0.range; level = h; fence = s.first; sibling = ((linked-cons v v.root [] 0).0 s.chain).0 } in
      let g = Each-map (Fine v) (Good v) (reached v) (λ n f. f.0) s.fine in
      record {
        orderly = record { top = t; good = g; once = once-follows v t g; recordings = rw (stack-map ls rs s) r };
        nothing-unfinished = Each-map (Fine v) (NothingUnfinished v) (reached v) (λ n f. f.1) s.fine;
      }
