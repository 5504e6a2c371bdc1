-- The splits of a run on any table: each test by what the code counts, and the run in the rest form.
use Rattle.std.proofs.Common.{◌≡◌, ℕ, ◌+◌, ◌*◌, ◌<◌, ◌≤◌, Bool, true, false, cond, ◌&&◌, eqb, ltb, leb, List, [], ◌∷◌, ◌++◌, length, get_or}
use Rattle.std.proofs.Common.{drop, sym, refl, ap, ◌∙◌, subst, append_assoc, append-nil, add-one, arith, drop_of_length-le, drop-cons}
use Rattle.std.proofs.Common.{eqb-true}
use Rattle.model.specs.Table.{Words, in_range, has_node, node}
use Rattle.model.specs.Slots.{Slot, slot, node_view, full}
use Rattle.model.specs.Orders.{Store, apply}
use Rattle.model.specs.Writes.{middle, split}
use Rattle.list_laws.proofs.Tools.{and-iff}
use Rattle.tree_laws.proofs.Rows.{range-iff}
use Rattle.table_laws.proofs.Nodes.{has-node-iff}
use Rattle.orders.specs.declared.Writer.{Writer}
use Rattle.orders.specs.Desk.{Desk, of, Becomes, Makes, stored_all, Room}
use Rattle.orders.proofs.Rest.{Rest, rest-start, rest-same, rest-none, rest-first, rest-after}
use Rattle.write.proofs.Parts.{part-table}
use Rattle.node.specs.Word.{word_of}
use Rattle.node.proofs.WordLaws.{word-slot}
use Rattle.std.specs.Prelude.{Option, Some, None, MatchOption}
use Rattle.std.specs.Option.{option_eq}
use Rattle.slots.specs.Scan.{in_use_of}
use Rattle.slots.proofs.Places.{in-use-at}
use Rattle.shift.proofs.AtNode.{shown-read}
use Rattle.way.specs.Ways.{plain_count}
use Rattle.model.specs.Marks.{put}
use Rattle.model.specs.Summary.{full_node, roomy, can_split, free_after, Going, going, split_way}

-- ---- the tests

module _ (N : ℕ) (t : Words) (a : ℕ) where
  pub full-none : in_range N a ≡ false → false ≡ full_node N t a
  unfolding full_node
  full-none e = rw e

  pub roomy-none : in_range N a ≡ false → false ≡ roomy N t a
  unfolding roomy
  roomy-none e = rw e

  module _ (r : in_range N a ≡ true) where
    pub full-by : (o : Option ℕ) (b : Bool) → o ≡ plain_count (node_view t a) → b ≡ option_eq eqb o (Some 11) → b ≡ full_node N t a
    unfolding full_node full plain_count
    full-by o b e f = f ∙ ap (λ (x : Option ℕ). option_eq eqb x (Some 11)) e ∙ go (eqb (node_view t a).hidden 0) refl
      where
        go : (b : Bool) → eqb (node_view t a).hidden 0 ≡ b → option_eq eqb (cond b (Some (length (node_view t a).shown)) None) (Some 11)
            ≡ (in_range N a && (eqb (node_view t a).hidden 0 && eqb (length (node_view t a).shown) 11))
        go true z = rw (r, z)
        go false z = rw (r, z)

    pub roomy-by : (o : Option ℕ) (b : Bool) (P : ℕ → Type 0) → ((x : ℕ) → P x → b ≡ leb x 10) → o ≡ plain_count (node_view t a)
        → MatchOption o (b ≡ false) P → b ≡ roomy N t a
    unfolding roomy plain_count
    roomy-by o b P h e q = go (eqb (node_view t a).hidden 0) refl o e q
      where
        go : (d : Bool) → eqb (node_view t a).hidden 0 ≡ d → (o : Option ℕ) → o ≡ cond d (Some (length (node_view t a).shown)) None
            → MatchOption o (b ≡ false) P
            → b ≡ (in_range N a && (eqb (node_view t a).hidden 0 && leb (length (node_view t a).shown) 10))
        go true z (Some n) w q = let u : n ≡ length (node_view t a).shown = cc in rw (r, z) (h n q ∙ ap (λ (m : ℕ). leb m 10) u)
        go true z None w q = cc
        go false z (Some n) w q = cc
        go false z None w q = rw (r, z) q

module _ (N : ℕ) (t : Words) (a b p : ℕ) where
  pub split-unfull : full_node N t a ≡ false → false ≡ can_split N t a b p
  split-unfull e = rw e

-- ---- what a split asks of its nodes, in a table of N nodes

pub record Splits (t : Words) (a b p : ℕ) : Type 0 where
  pub lower : has_node t a ≡ true
  pub plain : (node_view t a).hidden ≡ 0
  pub enough : 6 ≤ length (node_view t a).shown
  pub upper : has_node t b ≡ true
  pub above : has_node t p ≡ true
  pub room : (node_view t p).hidden ≡ 0

module _ (N : ℕ) (t : Words) (size : length t ≡ 8 + 32 * N) where
  in-table : (a : ℕ) → in_range N a ≡ true → has_node t a ≡ true
  in-table a r = let u = (range-iff N a).0 r in (has-node-iff t a).1 (u.0, omega (arith, u.0, u.1, size))

  pub splits-of : (a b p : ℕ) → can_split N t a b p ≡ true → Splits t a b p
  unfolding full_node roomy full
  splits-of a b p e =
      let u = simp and-iff at e in
      record {
        lower = in-table a u.0.0;
        plain = eqb-true _ _ u.0.1.0;
        enough = omega (arith, eqb-true (length (node_view t a).shown) 11 u.0.1.1);
        upper = in-table b u.1.0;
        above = in-table p u.1.1.0;
        room = eqb-true _ _ u.1.1.1.0;
      }

pub full-range : (N : ℕ) (t : Words) (a : ℕ) → full_node N t a ≡ true → (1 ≤ a) × (a ≤ N)
unfolding full_node
full-range N t a e = (range-iff N a).0 ((and-iff (in_range N a) _).0 e).0

pub upper-range : (N : ℕ) (t : Words) (a b p : ℕ) → can_split N t a b p ≡ true → b ≤ N
upper-range N t a b p e =
    ((range-iff N b).0 ((and-iff (in_range N b) (roomy N t p)).0 ((and-iff (full_node N t a) (in_range N b && roomy N t p)).0 e).1).0).1

-- the key that B begins with, as the code reads it
pub middle-word : (t : Words) (a b p : ℕ) → Splits t a b p → word_of t a 18 ≡ (middle t a).key
middle-word t a b p s =
    let x = node t a in
    let all = shown-read t a x refl s.plain in
    let six : 5 < length (in_use_of x.slots) = omega (arith, s.enough, ap length all) in
    word-slot t a 10 (omega arith)
    ∙ sym (ap (λ (ss : List Slot). (get_or ss 5 (slot 0 0)).key) all ∙ ap (λ (y : Slot). y.key) (in-use-at x.slots 5 six))

-- ---- the run, one split at a time

-- stores made before
abbrev pub pre : List Store → Going → Going
pre xs g = going (xs ++ g.stores) g.table g.marks g.under

pub way-pre : (N k : ℕ) (rest : List ℕ) (xs ys : List Store) (t ms : Words) (u : ℕ) → split_way N k rest (going (xs ++ ys) t ms u)
    ≡ pre xs (split_way N k rest (going ys t ms u))
unfolding split_way
way-pre N k [] xs ys t ms u = refl
way-pre N k (a ∷ rest) xs ys t ms u =
    let b = free_after N ms a in
    let ss = split t a b u in
    go (can_split N t a b u) refl
    (ap (λ (zs : List Store). split_way N k rest (going zs (apply ss t) (put ms b) (cond (ltb k (middle t a).key) a b)))
    (append_assoc xs ys ss)
    ∙ way-pre N k rest xs (ys ++ ss) (apply ss t) (put ms b) (cond (ltb k (middle t a).key) a b))
  where
    go : (c : Bool) → can_split N t a (free_after N ms a) u ≡ c
        → split_way N k rest
        (going ((xs ++ ys) ++ split t a (free_after N ms a) u) (apply (split t a (free_after N ms a) u) t) (put ms (free_after N ms a))
        (cond (ltb k (middle t a).key) a (free_after N ms a)))
        ≡ pre xs (split_way N k rest
        (going (ys ++ split t a (free_after N ms a) u) (apply (split t a (free_after N ms a) u) t) (put ms (free_after N ms a))
        (cond (ltb k (middle t a).key) a (free_after N ms a))))
        → split_way N k (a ∷ rest) (going (xs ++ ys) t ms u) ≡ pre xs (split_way N k (a ∷ rest) (going ys t ms u))
    go true e ih = rw (e, split_way) ih
    go false e ih = rw (e, split_way)

-- what is left of a run, of a writer that was f at first: it leads to desk x, with the marks and the node that takes the pair
pub record Left (N k : ℕ) (rest : List ℕ) (f w : Writer) (ms : Words) (u : ℕ) (x : Desk) (ms' : Words) (u' : ℕ) : Type 0 where
  pub stores : Rest (split_way N k rest (going [] w.table.now ms u)).stores f w x
  pub marks : (split_way N k rest (going [] w.table.now ms u)).marks ≡ ms'
  pub under : (split_way N k rest (going [] w.table.now ms u)).under ≡ u'

pub left-start : {N k : ℕ} {rest : List ℕ} {w : Writer} {ms : Words} {u : ℕ}
    → Room (split_way N k rest (going [] w.table.now ms u)).stores (of w)
    → let g = split_way N k rest (going [] w.table.now ms u) in Left N k rest w w ms u (stored_all g.stores (of w)) g.marks g.under
left-start r = record { stores = rest-start r; marks = refl; under = refl }

-- the nodes that are left, written otherwise
pub left-as : {N k : ℕ} (rest us : List ℕ) {f w : Writer} {ms : Words} {u : ℕ} {x : Desk} {ms' : Words} {u' : ℕ} → rest ≡ us
    → Left N k rest f w ms u x ms' u' → Left N k us f w ms u x ms' u'
left-as {N} {k} rest us {f} {w} {ms} {u} {x} {ms'} {u'} e l = subst (λ (y : List ℕ). Left N k y f w ms u x ms' u') e l

module _ {N k : ℕ} {f w : Writer} {ms : Words} {u : ℕ} {x : Desk} {ms' : Words} {u' : ℕ} where
  -- the whole state stays
  ended : {rest : List ℕ} → Left N k rest f w ms u x ms' u' → split_way N k rest (going [] w.table.now ms u) ≡ going [] w.table.now ms u
      → Becomes f x w × ((ms ≡ ms') × (u ≡ u'))
  ended l e = (
    rest-none (rest-same (ap (λ (g : Going). g.stores) e) l.stores),
    (sym (ap (λ (g : Going). g.marks) e) ∙ l.marks, sym (ap (λ (g : Going). g.under) e) ∙ l.under),
  )

  pub left-end : Left N k [] f w ms u x ms' u' → Becomes f x w × ((ms ≡ ms') × (u ≡ u'))
  unfolding split_way
  left-end l = ended l refl

  module _ {a : ℕ} {rest : List ℕ} (l : Left N k (a ∷ rest) f w ms u x ms' u') {b : ℕ} (eb : b ≡ free_after N ms a) where
    abbrev t : Words
    t = w.table.now

    stays : can_split N t a (free_after N ms a) u ≡ false → split_way N k (a ∷ rest) (going [] t ms u) ≡ going [] t ms u
    unfolding split_way
    stays e = rw (e, split_way)

    pub left-stop : can_split N t a b u ≡ false → Becomes f x w × ((ms ≡ ms') × (u ≡ u'))
    left-stop e = ended l (stays (rw eb at e))

    module _ (ok : can_split N t a b u ≡ true) where
      goes : split_way N k (a ∷ rest) (going [] t ms u)
          ≡ split_way N k rest (going (split t a b u) (apply (split t a b u) t) (put ms b) (cond (ltb k (middle t a).key) a b))
      unfolding split_way
      goes = let e : can_split N t a (free_after N ms a) u ≡ true = rw eb at ok in rw (e, split_way) (sym (rw eb))

      after : (u₁ : ℕ) → u₁ ≡ cond (ltb k (middle t a).key) a b
          → split_way N k (a ∷ rest) (going [] t ms u)
          ≡ pre (split t a b u) (split_way N k rest (going [] (apply (split t a b u) t) (put ms b) u₁))
      after u₁ e =
          let ss = split t a b u in
          goes ∙ ap (λ (y : ℕ). split_way N k rest (going ss (apply ss t) (put ms b) y)) (sym e)
          ∙ ap (λ (zs : List Store). split_way N k rest (going zs (apply ss t) (put ms b) u₁)) (sym (append-nil ss))
          ∙ way-pre N k rest ss [] (apply ss t) (put ms b) u₁

      whole : (u₁ : ℕ) → u₁ ≡ cond (ltb k (middle t a).key) a b
          → Rest (split t a b u ++ (split_way N k rest (going [] (apply (split t a b u) t) (put ms b) u₁)).stores) f w x
      whole u₁ e = rest-same (ap (λ (g : Going). g.stores) (after u₁ e)) l.stores

      pub left-room : Room (split t a b u) (of w)
      left-room = rest-first _ _ (whole _ refl)

      pub left-next : {v : Writer} → Makes (split t a b u) w v → {ms₁ : Words} → ms₁ ≡ put ms b
          → {u₁ : ℕ} → u₁ ≡ cond (ltb k (middle t a).key) a b → Left N k rest f v ms₁ u₁ x ms' u'
      left-next {v} q {ms₁} em {u₁} eu =
          let ss = split t a b u in
          let same : split_way N k rest (going [] (apply ss t) (put ms b) u₁) ≡ split_way N k rest (going [] v.table.now ms₁ u₁) =
          ap (λ (y : Words). split_way N k rest (going [] y (put ms b) u₁)) (sym (part-table ss (λ (y : Words). []) q))
          ∙ ap (λ (y : Words). split_way N k rest (going [] v.table.now y u₁)) (sym em) in
          record {
            stores = rest-same (ap (λ (g : Going). g.stores) same) (rest-after ss _ (whole u₁ eu) q);
            marks = sym (ap (λ (g : Going). g.marks) (after u₁ eu ∙ ap (pre ss) same)) ∙ l.marks;
            under = sym (ap (λ (g : Going). g.under) (after u₁ eu ∙ ap (pre ss) same)) ∙ l.under;
          }

-- ---- the list of nodes, one fewer

-- the next node of those that are left
pub left-at : {N k : ℕ} (ns : List ℕ) (i : ℕ) {f w : Writer} {ms : Words} {u : ℕ} {x : Desk} {ms' : Words} {u' : ℕ} → i < length ns
    → Left N k (drop i ns) f w ms u x ms' u' → Left N k (get_or ns i 0 ∷ drop (i + 1) ns) f w ms u x ms' u'
left-at ns i h l = left-as _ _ (drop-cons ns i 0 h ∙ ap (λ (y : ℕ). get_or ns i 0 ∷ drop y ns) (sym (add-one i))) l

pub rest-past : (ns : List ℕ) (i : ℕ) → length ns ≤ i → drop i ns ≡ []
rest-past ns i h = drop_of_length-le ns {i = i} h
