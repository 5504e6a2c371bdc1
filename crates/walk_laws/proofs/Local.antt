-- Every visit fits exactly if the first one does and every node below is in order.
use Rattle.std.proofs.Common.{◌≡◌, ℕ, zero, suc, Bool, true, false, eqb, ◌↔◌, List, [], ◌∷◌, map, sym, refl, ap, ◌∙◌, subst, arith, eq-eqb}
use Rattle.std.proofs.Common.{ne_eqb, eqb-true}
use Rattle.model.specs.Table.{in_range}
use Rattle.model.specs.Slots.{Slot, View}
use Rattle.model.specs.Reached.{flat, head_or, pointers, named, next_child, fill_row, children}
use Rattle.model.specs.SoundTest.{all, sibling_ok, keys_ok, linked, child_ok, slot_ok, leaf_ok, inner_ok, node_ok, finished, missing_at}
use Rattle.list_laws.proofs.Tools.{decode, and-iff, Each, Each-append, Each-split, Each-map, all-each}
use Rattle.tree_laws.proofs.Rows.{Good, not-zero, children-inner, link-yes, link-no, head-row}
use Rattle.walk_laws.specs.Walk.{Visit, stands, alone_ok, fits, visits_of, ways, visits_below}
use Rattle.walk_laws.proofs.Sums.{depth_first}
use Rattle.walk_laws.proofs.Run.{visits}

-- what alone_ok says of the sibling
alone-sibling : (v : View) (n : ℕ) → alone_ok v n ≡ true → ((v.node n).sibling ≡ 0 → ⊥)
    → (v.node (v.node n).sibling).level ≡ (v.node n).level
unfolding alone_ok sibling_ok
alone-sibling v n h z = (simp decode at (rw (ne_eqb (v.node n).sibling 0 z) at (simp and-iff at h).1.0)).1.0

-- a visit that fits, as a record of facts
pub record Fits (v : View) (x : Visit) : Type 0 where
  pub range : in_range v.nodes x.node ≡ true
  pub level : (v.node x.node).level ≡ x.level
  pub fence : (v.node x.node).fence ≡ x.fence
  pub right : (v.node x.node).sibling ≡ x.right
  pub alone : alone_ok v x.node ≡ true

pub fits-iff : (v : View) (x : Visit) → (fits v x ≡ true) ↔ Fits v x
unfolding fits stands
fits-iff v x = (
  λ h. let u = simp decode at h in record { range = u.0.0; level = u.0.1.0; fence = u.0.1.1.0; right = u.0.1.1.1; alone = u.1 },
  λ u. simp decode ((u.range, (u.level, (u.fence, u.right))), u.alone),
)

-- if the next node of the row is the sibling of a slot's node, that node is visited once, then the rest
pub visits-yes : (v : View) (p d : ℕ) (s : Slot) (ss : List Slot) (e : ℕ) → eqb (v.node s.pointer).sibling (head_or e (pointers ss)) ≡ true
    → visits_of v p d (s ∷ ss) e
    ≡ record { node = s.pointer; level = d; fence = s.key; right = head_or e (pointers ss); way = finished } ∷ visits_of v p d ss e
unfolding visits_of
visits-yes v p d s ss e c = rw (c, visits_of)

-- if it is not, the sibling lacks its slot: both nodes are visited, then the rest
pub visits-no : (v : View) (p d : ℕ) (s : Slot) (ss : List Slot) (e : ℕ) → eqb (v.node s.pointer).sibling (head_or e (pointers ss)) ≡ false
    → visits_of v p d (s ∷ ss) e
    ≡ record { node = s.pointer; level = d; fence = s.key; right = (v.node s.pointer).sibling; way = missing_at p s.pointer }
    ∷ record {
      node = (v.node s.pointer).sibling;
      level = d;
      fence = (v.node (v.node s.pointer).sibling).fence;
      right = head_or e (pointers ss);
      way = finished;
    } ∷ visits_of v p d ss e
unfolding visits_of
visits-no v p d s ss e c = rw (c, visits_of)

abbrev pub nodes_of : List Visit → List ℕ
nodes_of xs = map (λ (x : Visit). x.node) xs

pub visits-nodes : (v : View) (p d : ℕ) (ss : List Slot) (e : ℕ) → nodes_of (visits_of v p d ss e) ≡ fill_row v (pointers ss) e
unfolding visits_of fill_row
visits-nodes v p d [] e = refl
visits-nodes v p d (s ∷ ss) e = go (eqb (v.node s.pointer).sibling (head_or e (pointers ss))) refl (visits-nodes v p d ss e)
  where
    go : (b : Bool) → eqb (v.node s.pointer).sibling (head_or e (pointers ss)) ≡ b → nodes_of (visits_of v p d ss e)
        ≡ fill_row v (pointers ss) e → nodes_of (visits_of v p d (s ∷ ss) e) ≡ fill_row v (pointers (s ∷ ss)) e
    go true c ih = rw (visits-yes v p d s ss e c, link-yes v s.pointer (pointers ss) e c) (ap (λ (l : List ℕ). s.pointer ∷ l) ih)
    go false c ih = rw (visits-no v p d s ss e c, link-no v s.pointer (pointers ss) e c)
        (ap (λ (l : List ℕ). s.pointer ∷ (v.node s.pointer).sibling ∷ l) ih)

-- what node_ok asks of a row of children, with what alone_ok asks of each
pub record RowOk (v : View) (d : ℕ) (ss : List Slot) (e : ℕ) : Type 0 where
  pub names : all (slot_ok v (suc d)) ss ≡ true
  pub range : all (in_range v.nodes) (fill_row v (pointers ss) e) ≡ true
  pub chain : linked v (fill_row v (pointers ss) e) e ≡ true
  pub alone : all (alone_ok v) (fill_row v (pointers ss) e) ≡ true

pub row-to : (v : View) (p d : ℕ) (ss : List Slot) (e : ℕ) → Each (Fits v) (visits_of v p d ss e) → RowOk v d ss e
unfolding all slot_ok child_ok linked
row-to v p d [] e h = unfold fill_row in record { names = refl; range = refl; chain = refl; alone = refl }
row-to v p d (s ∷ ss) e h = go (eqb (v.node s.pointer).sibling (head_or e (pointers ss))) refl (row-to v p d ss e)
  where
    go : (b : Bool) → eqb (v.node s.pointer).sibling (head_or e (pointers ss)) ≡ b
        → (Each (Fits v) (visits_of v p d ss e) → RowOk v d ss e) → RowOk v d (s ∷ ss) e
    go true c ih =
        let u = rw (visits-yes v p d s ss e c) at h in
        let w = ih u.1 in
        let k = u.0 in
        record {
          names = simp decode ((ap suc k.level, k.fence), w.names);
          range = rw (link-yes v s.pointer (pointers ss) e c) (simp decode (k.range, w.range));
          chain = rw (link-yes v s.pointer (pointers ss) e c) (simp decode (k.right ∙ sym (head-row v (pointers ss) e e), w.chain));
          alone = rw (link-yes v s.pointer (pointers ss) e c) (simp decode (k.alone, w.alone));
        }
    go false c ih =
        let u = rw (visits-no v p d s ss e c) at h in
        let w = ih u.1.1 in
        let k = u.0 in
        let o = u.1.0 in
        record {
          names = simp decode ((ap suc k.level, k.fence), w.names);
          range = rw (link-no v s.pointer (pointers ss) e c) (simp decode (k.range, (o.range, w.range)));
          chain = rw (link-no v s.pointer (pointers ss) e c) (simp decode (refl, (o.right ∙ sym (head-row v (pointers ss) e e), w.chain)));
          alone = rw (link-no v s.pointer (pointers ss) e c) (simp decode (k.alone, (o.alone, w.alone)));
        }

pub row-from : (v : View) (p d : ℕ) (ss : List Slot) (e : ℕ) → RowOk v d ss e → Each (Fits v) (visits_of v p d ss e)
unfolding all slot_ok child_ok linked
row-from v p d [] e h = unfold visits_of in tt
row-from v p d (s ∷ ss) e h = go (eqb (v.node s.pointer).sibling (head_or e (pointers ss))) refl (row-from v p d ss e)
  where
    go : (b : Bool) → eqb (v.node s.pointer).sibling (head_or e (pointers ss)) ≡ b → (RowOk v d ss e → Each (Fits v) (visits_of v p d ss e))
        → Each (Fits v) (visits_of v p d (s ∷ ss) e)
    go true c ih =
        let q = link-yes v s.pointer (pointers ss) e c in
        let a = simp decode at h.names in
        let r = simp decode at (rw q at h.range) in
        let l = simp decode at (rw q at h.chain) in
        let o = simp decode at (rw q at h.alone) in
        let lv : (v.node s.pointer).level ≡ d = omega (arith, a.0.0) in
        rw (visits-yes v p d s ss e c) (
          record { range = r.0; level = lv; fence = a.0.1; right = eqb-true _ _ c; alone = o.0 },
          ih (record { names = a.1; range = r.1; chain = l.1; alone = o.1 }),
        )
    go false c ih =
        let q = link-no v s.pointer (pointers ss) e c in
        let a = simp decode at h.names in
        let r = simp decode at (rw q at h.range) in
        let l = simp decode at (rw q at h.chain) in
        let o = simp decode at (rw q at h.alone) in
        let lv : (v.node s.pointer).level ≡ d = omega (arith, a.0.0) in
        rw (visits-no v p d s ss e c) (
          record { range = r.0; level = lv; fence = a.0.1; right = refl; alone = o.0 },
          (
            record {
              range = r.1.0;
              level = alone-sibling v s.pointer o.0 (not-zero v _ r.1.0) ∙ lv;
              fence = refl;
              right = l.1.0
                  ∙ head-row v (pointers ss) e e;
              alone = o.1.0;
            },
            ih (record { names = a.1; range = r.1.1; chain = l.1.1; alone = o.1.1 }),
          ),
        )

pub good-alone : (v : View) (n : ℕ) → Good v n → alone_ok v n ≡ true
unfolding node_ok alone_ok inner_ok
good-alone v n h = let u = simp and-iff at h in simp and-iff (u.0, (u.1.0, go (eqb (v.node n).level 0) u.1.1))
  where
    go : (b : Bool) → (elim b as (λ c. Bool) [ true ↦ leaf_ok v n | false ↦ inner_ok v n ]) ≡ true
        → (elim b as (λ c. Bool) [ true ↦ leaf_ok v n | false ↦ keys_ok v n (suc (v.node n).fence) ]) ≡ true
    go true e = e
    go false e = (simp and-iff at e).0

good-leaf : (v : View) (n : ℕ) → (v.node n).level ≡ 0 → alone_ok v n ≡ true → Good v n
unfolding node_ok alone_ok
good-leaf v n e h = let u =
    simp and-iff at h in simp and-iff (u.0, (u.1.0, rw (eq-eqb (v.node n).level 0 e) (rw (eq-eqb (v.node n).level 0 e) at u.1.1)))

-- what node_ok asks of the children of n, on level d
record ChildrenOk (v : View) (d n : ℕ) : Type 0 where
  pub names : all (slot_ok v (suc d)) (ways v n) ≡ true
  pub range : all (in_range v.nodes) (fill_row v (named v n) (next_child v n)) ≡ true
  pub chain : linked v (fill_row v (named v n) (next_child v n)) (next_child v n) ≡ true

good-children : (v : View) (d n : ℕ) → (v.node n).level ≡ suc d → Good v n → ChildrenOk v d n
unfolding node_ok inner_ok all slot_ok
good-children v d n e h =
    let u = simp and-iff at (rw (ne_eqb (v.node n).level 0 (λ z. omega arith)) at (simp and-iff at h).1.1) in
    let q = children-inner v d n e in
    record {
      names = subst (λ (l : ℕ). all (slot_ok v l) (ways v n) ≡ true) e (simp and-iff (u.1.0, u.1.1.0));
      range = rw (← q) u.1.1.1.0;
      chain = rw (← q) u.1.1.1.1;
    }

children-good : (v : View) (d n : ℕ) → (v.node n).level ≡ suc d → alone_ok v n ≡ true → ChildrenOk v d n → Good v n
unfolding node_ok alone_ok inner_ok all slot_ok
children-good v d n e h k =
    let u = simp and-iff at h in
    let z = ne_eqb (v.node n).level 0 (λ z. omega arith) in
    let q = children-inner v d n e in
    let w = simp and-iff at (subst (λ (l : ℕ). all (slot_ok v l) (ways v n) ≡ true) (sym e) k.names) in
    simp and-iff (u.0, (u.1.0, rw z (simp and-iff (rw z at u.1.1, (w.0, (w.1, (rw q k.range, rw q k.chain)))))))

pub visits-level : (v : View) (p d : ℕ) (ss : List Slot) (e : ℕ) → Each (λ (x : Visit). x.level ≡ d) (visits_of v p d ss e)
unfolding visits_of
visits-level v p d [] e = tt
visits-level v p d (s ∷ ss) e = go (eqb (v.node s.pointer).sibling (head_or e (pointers ss))) refl (visits-level v p d ss e)
  where
    go : (b : Bool) → eqb (v.node s.pointer).sibling (head_or e (pointers ss)) ≡ b
        → Each (λ (x : Visit). x.level ≡ d) (visits_of v p d ss e) → Each (λ (x : Visit). x.level ≡ d) (visits_of v p d (s ∷ ss) e)
    go true c ih = rw (visits-yes v p d s ss e c) (refl, ih)
    go false c ih = rw (visits-no v p d s ss e c) (refl, (refl, ih))

abbrev pub Same : View → ℕ → Type 0
Same v d = (x : Visit) → x.level ≡ d → Each (Fits v) (visits v d x) ↔ (Fits v x × Each (Good v) (depth_first v d x.node))

rows-to : (v : View) (d : ℕ) → Same v d → (xs : List Visit) → Each (λ (x : Visit). x.level ≡ d) xs → Each (Fits v) (flat (visits v d) xs)
    → Each (Fits v) xs × Each (Good v) (flat (depth_first v d) (nodes_of xs))
unfolding flat
rows-to v d ih [] l h = (tt, tt)
rows-to v d ih (x ∷ xs) l h =
    let u = Each-split (Fits v) (visits v d x) (flat (visits v d) xs) h in
    let a = (ih x l.0).0 u.0 in
    let b = rows-to v d ih xs l.1 u.1 in
    ((a.0, b.0), Each-append (Good v) (depth_first v d x.node) (flat (depth_first v d) (nodes_of xs)) a.1 b.1)

rows-from : (v : View) (d : ℕ) → Same v d → (xs : List Visit) → Each (λ (x : Visit). x.level ≡ d) xs → Each (Fits v) xs
    → Each (Good v) (flat (depth_first v d) (nodes_of xs)) → Each (Fits v) (flat (visits v d) xs)
unfolding flat
rows-from v d ih [] l a g = tt
rows-from v d ih (x ∷ xs) l a g =
    let u = Each-split (Good v) (depth_first v d x.node) (flat (depth_first v d) (nodes_of xs)) g in
    Each-append (Fits v) (visits v d x) (flat (visits v d) xs) ((ih x l.0).1 (a.0, u.0)) (rows-from v d ih xs l.1 a.1 u.1)

-- what holds of a row and the nodes below it holds of the row
heads : (v : View) (P : ℕ → Type 0) (d : ℕ) (ns : List ℕ) → Each P (flat (depth_first v d) ns) → Each P ns
unfolding flat depth_first
heads v P d [] h = tt
heads v P d (n ∷ ns) h = let u = Each-split P (depth_first v d n) (flat (depth_first v d) ns) h in (go d u.0, heads v P d ns u.1)
  where
    go : (d : ℕ) → Each P (depth_first v d n) → P n
    go zero k = k.0
    go (suc d) k = k.0

pub visits-good : (v : View) (d : ℕ) → Same v d
unfolding visits depth_first visits_below
visits-good v zero x e = (λ h. (h.0, (good-leaf v x.node (h.0.level ∙ e) h.0.alone, tt)), λ h. (h.0, tt))
visits-good v (suc d) x e = (
  λ h. let n = x.node in
      let k = rows-to v d (visits-good v d) (visits_below v d n) (visits-level v n d (ways v n) (next_child v n)) h.1 in
      let r = row-to v n d (ways v n) (next_child v n) k.0 in
      let q = visits-nodes v n d (ways v n) (next_child v n) ∙ sym (children-inner v d n (h.0.level ∙ e)) in
      (h.0, (children-good v d n (h.0.level ∙ e) h.0.alone (record { names = r.names; range = r.range; chain = r.chain }), rw q at k.1)),
  λ h. let n = x.node in
      let g = good-children v d n (h.0.level ∙ e) h.1.0 in
      let c = children-inner v d n (h.0.level ∙ e) in
      let q = visits-nodes v n d (ways v n) (next_child v n) ∙ sym c in
      let o = (all-each (alone_ok v) (children v n)).1
      (Each-map (Good v) (λ (x : ℕ). alone_ok v x ≡ true) (children v n) (good-alone v) (heads v (Good v) d (children v n) h.1.1)) in (
        h.0,
        rows-from v d (visits-good v d) (visits_below v d n) (visits-level v n d (ways v n) (next_child v n))
            (row-from v n d (ways v n) (next_child v n) (record { names = g.names; range = g.range; chain = g.chain; alone = rw c at o }))
            (rw q h.1.1),
      ),
)
