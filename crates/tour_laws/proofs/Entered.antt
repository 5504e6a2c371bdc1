-- In a sound tree the tour enters the left edge, then the leaves from left to right, and after them only inner nodes.
use Rattle.std.proofs.Common.{◌≡◌, ℕ, zero, suc, ◌+◌, ◌*◌, ◌≤◌, Bool, true, false, eqb, ◌≢◌, ◌⊎◌, List, [], ◌∷◌, ◌++◌, length, sym, refl}
use Rattle.std.proofs.Common.{ap, ◌∙◌, subst, inl, inr, ⊎_elim, arith, eq-eqb, ne_eqb}
use mathlib.Core.List.Memᴰ
use mathlib.Core.List.{Memᴰ}
use Rattle.model.specs.Table.{Words, in_range, nodes}
use Rattle.model.specs.Slots.{View, node_view, view_from, height}
use Rattle.model.specs.Reached.{filter, flat, head_or, children, leaves_from, reached, leaves}
use Rattle.model.specs.SoundTest.{elem, distinct}
use Rattle.list_laws.proofs.Tools.{Each, Each-append}
use Rattle.list_laws.proofs.Members.{each-mem, mem-each, elem-false, elem-none, elem-cons}
use Rattle.list_laws.proofs.Filters.{filter-yes, filter-no}
use Rattle.list_laws.proofs.Distinct.{distinct-cons}
use Rattle.tree_laws.proofs.Rows.{At, Row, not-zero, linked-cons, head-children, first-child, range-iff}
use Rattle.tree_laws.proofs.Levels.{Orderly, Level, level-root, level-lower, level-leaves, mem-leaves, ascending, row-distinct, row-tail}
use Rattle.tree_laws.proofs.Kept.{by-level}
use Rattle.tree_laws.proofs.Parents.{reached-children}
use Rattle.two_laws.proofs.LevelsTwo.{row-few}
use Rattle.model.specs.Salvage.{Meeting, meet, meetings, may_enter, start}
use Rattle.tour_laws.specs.Visits.{order, toured_from}
use Rattle.tour_laws.proofs.Steps.{order-yes, order-no, may-iff}
use Rattle.tour_laws.proofs.Meets.{Known, meetings-leaf, meetings-inner, further_met, further-known, inner-known, reached-known}
use Rattle.tour_laws.proofs.Meets.{left-reached}

-- the leaves among nodes
unfoldable pub leaves_in : Words → List ℕ → List ℕ
leaves_in t ns = filter (λ (n : ℕ). eqb (node_view t n).level 0) ns

pub leaf-in : (t : Words) (n : ℕ) (ns : List ℕ) → (node_view t n).level ≡ 0 → leaves_in t (n ∷ ns) ≡ n ∷ leaves_in t ns
unfolding leaves_in
leaf-in t n ns e = filter-yes (λ (n : ℕ). eqb (node_view t n).level 0) n ns (eq-eqb (node_view t n).level 0 e)

pub inner-out : (t : Words) (d n : ℕ) (ns : List ℕ) → (node_view t n).level ≡ suc d → leaves_in t (n ∷ ns) ≡ leaves_in t ns
unfolding leaves_in
inner-out t d n ns e = filter-no (λ (n : ℕ). eqb (node_view t n).level 0) n ns (ne_eqb (node_view t n).level 0 (λ z. omega arith))

known-not-zero : (v : View) (x : Meeting) → in_range v.nodes x.node ≡ true → Known v x → Memᴰ x.node (reached v)
known-not-zero v x r k = ⊎_elim (λ z. absurd (not-zero v x.node r z)) (λ m. m) k

module _ (t : Words) (r : ℕ) (o : Orderly (view_from t r)) where
  abbrev v : View
  v = view_from t r

  -- only reached nodes are entered
  known-reached : (f : ℕ) (todo : List Meeting) (es : List ℕ) → Each (Known v) todo
      → Each (λ (m : ℕ). Memᴰ m (reached v)) (order t f todo es)
  known-reached zero todo es k = unfold order in tt
  known-reached (suc f) [] es k = unfold order in tt
  known-reached (suc f) (x ∷ todo) es k =
      go (may_enter t x es) refl (known-reached f (meetings t x.node ++ todo) (x.node ∷ es)) (known-reached f todo es k.1)
    where
      go : (b : Bool) → may_enter t x es ≡ b
          → (Each (Known v) (meetings t x.node ++ todo)
          → Each (λ (m : ℕ). Memᴰ m (reached v)) (order t f (meetings t x.node ++ todo) (x.node ∷ es)))
          → Each (λ (m : ℕ). Memᴰ m (reached v)) (order t f todo es) → Each (λ (m : ℕ). Memᴰ m (reached v)) (order t (suc f) (x ∷ todo) es)
      go true c p q =
          let m = known-not-zero v x ((may-iff t x es).0 c).0 k.0 in
          rw (order-yes t f x todo es c) (m, p (Each-append (Known v) (meetings t x.node) todo (reached-known t r o x.node m) k.1))
      go false c p q = rw (order-no t f x todo es c) q

  -- once every leaf is entered, no further leaf is, with any fuel
  abbrev Rest : ℕ → List Meeting → List ℕ → Type 0
  Rest f todo es = Each (Known v) todo → ((m : ℕ) → Memᴰ m (leaves v) → Memᴰ m es) → leaves_in t (order t f todo es) ≡ []

  rest-step : (f : ℕ) (x : Meeting) (todo : List Meeting) (es : List ℕ) → Rest f (meetings t x.node ++ todo) (x.node ∷ es) → Rest f todo es
      → Rest (suc f) (x ∷ todo) es
  rest-step f x todo es p q k a = go (may_enter t x es) refl
    where
      go : (b : Bool) → may_enter t x es ≡ b → leaves_in t (order t (suc f) (x ∷ todo) es) ≡ []
      go false c = ap (leaves_in t) (order-no t f x todo es c) ∙ q k.1 a
      go true c =
          let u = (may-iff t x es).0 c in
          let m = known-not-zero v x u.0 k.0 in
          by-level v (λ (n : ℕ). leaves_in t (order t (suc f) (x ∷ todo) es) ≡ []) x.node
          (λ e. absurd ((elem-none x.node es).0 u.2 (a x.node ((mem-leaves v x.node o).1 (m, e)))))
          (λ d e. ap (leaves_in t) (order-yes t f x todo es c) ∙ inner-out t d x.node _ e
          ∙ p (Each-append (Known v) (meetings t x.node) todo (inner-known t r o d x.node e m) k.1) (λ j h. Memᴰ.tail (a j h)))

  rest : (f : ℕ) (todo : List Meeting) (es : List ℕ) → Rest f todo es
  rest zero todo es k a = unfold order leaves_in filter in refl
  rest (suc f) [] es k a = unfold order leaves_in filter in refl
  rest (suc f) (x ∷ todo) es k a = rest-step f x todo es (rest f (meetings t x.node ++ todo) (x.node ∷ es)) (rest f todo es) k a

  -- the chain of the leaves
  enter-leaf : (f n : ℕ) (todo : List Meeting) (es : List ℕ) → At v 0 n → elem n es ≡ false
      → leaves_in t (order t (suc f) (meet n 0 ∷ todo) es) ≡ n ∷ leaves_in t (order t f (meet (v.node n).sibling 0 ∷ todo) (n ∷ es))
  enter-leaf f n todo es a z =
      ap (leaves_in t) (order-yes t f (meet n 0) todo es ((may-iff t (meet n 0) es).1 (a.range, a.level, z)))
      ∙ leaf-in t n _ a.level
      ∙ ap (λ (l : List Meeting). n ∷ leaves_in t (order t f (l ++ todo) (n ∷ es))) (meetings-leaf t n a.level)

  along : (f n : ℕ) (ns : List ℕ) (todo : List Meeting) (es : List ℕ) → Row v 0 (n ∷ ns) → distinct (n ∷ ns) ≡ true
      → Each (λ (m : ℕ). elem m es ≡ false) (n ∷ ns)
      → Each (Known v) todo → ((m : ℕ) → Memᴰ m (leaves v) → Memᴰ m (n ∷ ns) ⊎ Memᴰ m es) → length (n ∷ ns) ≤ f
      → leaves_in t (order t f (meet n 0 ∷ todo) es) ≡ n ∷ ns
  along zero n ns todo es r d z k a h = absurd (omega arith)
  along (suc f) n [] todo es r d z k a h =
      let s = ((linked-cons v n [] 0).0 r.chain).0 in
      enter-leaf f n todo es r.at.0 z.0
      ∙ ap (λ (l : List ℕ). n ∷ l) (rest f (meet (v.node n).sibling 0 ∷ todo) (n ∷ es) (inl s, k)
      (λ m i. ⊎_elim (λ p. ⊎_elim (λ e. Memᴰ.head e) (λ q. absurd (Memᴰ.not-nil q)) (Memᴰ.cases_cons p)) (λ q. Memᴰ.tail q) (a m i)))
  along (suc f) n (m ∷ ms) todo es r d z k a h =
      let s = ((linked-cons v n (m ∷ ms) 0).0 r.chain).0 in
      let u = (distinct-cons n (m ∷ ms)).0 d in
      let off = (elem-false n (m ∷ ms)).0 u.0 in
      let fresh : Each (λ (j : ℕ). elem j (n ∷ es) ≡ false) (m ∷ ms) = mem-each (λ (j : ℕ). elem j (n ∷ es) ≡ false) (m ∷ ms)
      (λ j i. (elem-cons j n es).1 (each-mem (λ (j : ℕ). j ≢ n) off i, each-mem (λ (j : ℕ). elem j es ≡ false) z.1 i)) in
      enter-leaf f n todo es r.at.0 z.0
      ∙ ap (λ (c : ℕ). n ∷ leaves_in t (order t f (meet c 0 ∷ todo) (n ∷ es))) s
      ∙ ap (λ (l : List ℕ). n ∷ l) (along f m ms todo (n ∷ es) (row-tail v 0 n (m ∷ ms) r) u.1 fresh k
      (λ j i. ⊎_elim (λ p. ⊎_elim (λ e. inr (Memᴰ.head e)) (λ q. inl q) (Memᴰ.cases_cons p)) (λ q. inr (Memᴰ.tail q)) (a j i))
      (omega arith))

  -- no reached node of level d or below was entered
  abbrev Clear : ℕ → List ℕ → Type 0
  Clear d es = (j : ℕ) → Memᴰ j (reached v) → (v.node j).level ≤ d → elem j es ≡ false

  clear-next : (d n : ℕ) (es : List ℕ) → (v.node n).level ≡ suc d → Clear (suc d) es → Clear d (n ∷ es)
  clear-next d n es e h j m l = (elem-cons j n es).1 ((λ q. omega (arith, l, e, ap (λ (x : ℕ). (v.node x).level) q)), h j m (omega arith))

  -- down the left edge
  down : (d f n : ℕ) (ns : List ℕ) (todo : List Meeting) (es : List ℕ) → Level v d (n ∷ ns) → Memᴰ n (reached v)
      → leaves_from v d (n ∷ ns) ≡ leaves v
      → Clear d es → Each (Known v) todo → d + length (leaves v) ≤ f → leaves_in t (order t f (meet n d ∷ todo) es) ≡ leaves v
  down zero f n ns todo es l m e h k b =
      let q : n ∷ ns ≡ leaves v = unfold leaves_from in e in
      let fresh : Each (λ (j : ℕ). elem j es ≡ false) (n ∷ ns) = mem-each (λ (j : ℕ). elem j es ≡ false) (n ∷ ns)
      (λ j i. h j ((mem-leaves v j o).0 (subst (λ (x : List ℕ). Memᴰ j x) q i)).0 (omega (arith, (each-mem (At v 0) l.row.at i).level))) in
      along f n ns todo es l.row (row-distinct v (n ∷ ns) (ascending v 0 (n ∷ ns) l.row)) fresh k
      (λ j i. inl (subst (λ (x : List ℕ). Memᴰ j x) (sym q) i)) (omega (arith, ap length q)) ∙ q
  down (suc d) zero n ns todo es l m e h k b = absurd (omega arith)
  down (suc d) (suc f) n ns todo es l m e h k b =
      let a = l.row.at.0 in
      let s : head_or 0 (flat (children v) (n ∷ ns)) ≡ (v.node n).left = head-children v d (n ∷ ns) l.row.at ∙ first-child v n l.some in
      let q : leaves_from v d (flat (children v) (n ∷ ns)) ≡ leaves v = unfold leaves_from in e in
      ap (leaves_in t) (order-yes t f (meet n (suc d)) todo es
      ((may-iff t (meet n (suc d)) es).1 (a.range, a.level, h n m (omega (arith, a.level)))))
      ∙ inner-out t d n _ a.level
      ∙ ap (λ (x : List Meeting). leaves_in t (order t f (x ++ todo) (n ∷ es))) (meetings-inner t d n a.level)
      ∙ go (flat (children v) (n ∷ ns)) (v.node n).left (level-lower v d (n ∷ ns) l) s q (left-reached t r o d n a.level m)
      (λ c cs. down d f c cs (further_met t d n ++ todo) (n ∷ es))
    where
      go : (ms : List ℕ) (c : ℕ) → Level v d ms → head_or 0 ms ≡ c → leaves_from v d ms ≡ leaves v → Memᴰ c (reached v)
          → ((c : ℕ) (cs : List ℕ) → Level v d (c ∷ cs) → Memᴰ c (reached v) → leaves_from v d (c ∷ cs) ≡ leaves v → Clear d (n ∷ es)
          → Each (Known v) (further_met t d n ++ todo)
          → d + length (leaves v) ≤ f → leaves_in t (order t f (meet c d ∷ (further_met t d n ++ todo)) (n ∷ es)) ≡ leaves v)
          → leaves_in t (order t f (meet c d ∷ (further_met t d n ++ todo)) (n ∷ es)) ≡ leaves v
      go [] c w s q i ih = absurd (w.some refl)
      go (x ∷ xs) c w s q i ih =
          subst (λ (y : ℕ). leaves_in t (order t f (meet y d ∷ (further_met t d n ++ todo)) (n ∷ es)) ≡ leaves v) s
          (ih x xs w (subst (λ (y : ℕ). Memᴰ y (reached v)) (sym s) i) q
          (clear-next d n es l.row.at.0.level h)
          (Each-append (Known v) (further_met t d n) todo (further-known t r o d n l.row.at.0.level m) k) (omega arith))

  leaves-few : length (leaves v) ≤ v.nodes
  leaves-few = row-few v 0 (leaves v) (level-leaves v o).row

  root-known : Memᴰ r (reached v)
  root-known = rw (reached-children v o) (Memᴰ.head refl)

  -- The leaves entered are the tree's leaves, in their order, where none of its nodes was entered before.
  pub entered-leaves : (es : List ℕ) → ((j : ℕ) → Memᴰ j (reached v) → elem j es ≡ false) → leaves_in t (toured_from t r es) ≡ leaves v
  unfolding toured_from
  entered-leaves es h =
      let q = (range-iff v.nodes r).0 o.top.range in
      down (height v) (2 + 14 * nodes t) r [] [] es (level-root v o.top o.good) root-known refl (λ j m l. h j m) tt
      (omega (arith, o.top.level, leaves-few, q.0, q.1))

  -- Only nodes that the root reaches are entered.
  pub entered-reached : (es : List ℕ) → Each (λ (m : ℕ). Memᴰ m (reached v)) (toured_from t r es)
  unfolding toured_from
  entered-reached es = known-reached (2 + 14 * nodes t) (start t r) es (inr root-known, tt)
