-- Laws of the check of a node and of a slot, as their code meets them.
use Rattle.std.proofs.Common.{◌≡◌, ℕ, zero, suc, ◌+◌, ◌-◌, ◌<◌, ◌≤◌, Bool, true, false, cond, ◌&&◌, eqb, ltb, leb, List, [], ◌∷◌, get_or}
use Rattle.std.proofs.Common.{sym, refl, ap, ◌∙◌, add-one, arith, eq-eqb, ne_eqb, le-leb}
use mathlib.Core.Bool.{and-false}
use borrow.Author.Tests.{lt-leb}
use Rattle.std.specs.Prelude.{None, Some}
use Rattle.std.proofs.lemmas.Option.{none-some, cond_some}
use Rattle.model.specs.declared.Unfinished.{Unfinished}
use Rattle.model.specs.declared.Visited.{Visited}
use Rattle.model.specs.Table.{Words, root, nodes, in_range, header_ok, has_node}
use Rattle.model.specs.Slots.{Slot, slot, View, node_view, view_from, view, height}
use Rattle.model.specs.Reached.{head_or, pointers, next_child, flat}
use Rattle.model.specs.SoundTest.{finished, together, missing_at, own}
use Rattle.list_laws.proofs.Tools.{and-iff}
use Rattle.table_laws.proofs.Nodes.{has-node-range}
use Rattle.node.specs.Word.{word_of}
use Rattle.node.proofs.WordLaws.{word-sibling, word-level, word-fence}
use Rattle.walk_laws.specs.Walk.{Visit, stands, alone_ok, fits, visits_of, ways, visits_below, Tally, tally, visit, fold, check, walk}
use Rattle.walk_laws.proofs.Sums.{joint}
use Rattle.walk_laws.proofs.Run.{visits, check-fold, fold-unsound, visit-yes, visit-unfit, visit-over, met}
use Rattle.walk_laws.proofs.Local.{visits-yes, visits-no}
use Rattle.walk_laws.proofs.AnyRoot.{any-check}
use Rattle.slots.specs.declared.ways.Ways.{Ways}
use Rattle.slots.specs.Gathered.{span, slots_in, ways_from, pointers_from}
use Rattle.sound.specs.Nodes.{standing, look_of, noted, slot_checked}
use Rattle.slots.proofs.Kept.{ways-end, ways-next}

-- ---- a visit that is refused, and one that is not

pub check-unsound : (v : View) (d : ℕ) (x : Visit) → check v d x None ≡ None
check-unsound v d x = check-fold v d x None ∙ fold-unsound v (visits v d x)

checks-unsound : (v : View) (d : ℕ) (xs : List Visit) → fold (check v d) xs None ≡ None
checks-unsound v d [] = refl
checks-unsound v d (x ∷ xs) = ap (fold (check v d) xs) (check-unsound v d x) ∙ checks-unsound v d xs

refused : (v : View) (d : ℕ) (x : Visit) (s : Tally) → visit v x s ≡ None → check v d x s ≡ None
unfolding visits
refused v zero x s e = check-fold v zero x s ∙ e
refused v (suc d) x s e =
    check-fold v (suc d) x s ∙ ap (fold (visit v) (flat (visits v d) (visits_below v d x.node))) e
    ∙ fold-unsound v (flat (visits v d) (visits_below v d x.node))

check-leaf : (v : View) (x : Visit) (c : ℕ) (u : Unfinished) → fits v x ≡ true → c < v.nodes → check v 0 x (tally c u)
    ≡ tally (suc c) (together u (met v x))
unfolding check
check-leaf v x c u e l = visit-yes v x c u e l

check-inner : (v : View) (d : ℕ) (x : Visit) (c : ℕ) (u : Unfinished) → fits v x ≡ true → c < v.nodes
    → check v (suc d) x (tally c u)
    ≡ fold (check v d) (visits_of v x.node d (ways v x.node) (next_child v x.node)) (tally (suc c) (together u (met v x)))
unfolding check visits_below
check-inner v d x c u e l = ap (fold (check v d) (visits_below v d x.node)) (visit-yes v x c u e l)

-- ---- a node

module _ (v : View) (n l k r : ℕ) where
  abbrev here : Visit
  here = standing n l k r

  pub node-over : (s : Visited) (m : ℕ) → m ≡ v.nodes → m ≤ s.count → None ≡ check v l here (Some s)
  node-over s m q h = sym (refused v l here (Some s) (visit-over v here s.count s.unfinished (omega arith)))

  unfit : (s : Tally) → fits v here ≡ false → None ≡ check v l here s
  unfit s e = sym (refused v l here s (visit-unfit v here s e))

  pub node-elsewhere : (s : Tally) → stands v here ≡ false → None ≡ check v l here s
  unfolding fits
  node-elsewhere s e = unfit s (rw e)

  pub node-wrong : (s : Tally) → None ≡ look_of v n → None ≡ check v l here s
  unfolding fits look_of
  node-wrong s e = unfit s (rw (alone (alone_ok v n) e, and-false (stands v here)))
    where
      alone : (b : Bool) → None ≡ cond b (Some (own v n)) None → b ≡ false
      alone true q = absurd (none-some _ q)
      alone false q = refl

-- a node on level l that fits, met after others; w is unfinished in them together with what is in it
pub record Met (v : View) (n l k r : ℕ) (s : Visited) (w : Unfinished) : Type 0 where
  pub few : s.count < v.nodes
  pub fit : fits v (standing n l k r) ≡ true
  pub all : w ≡ together s.unfinished (met v (standing n l k r))

-- N as it was read, the node's standing, what is unfinished in it, all that is
pub node-met : (v : View) (n l k r : ℕ) (s : Visited) (m : ℕ) (b : Bool) (x w : Unfinished) → m ≡ v.nodes → s.count < m → b
    ≡ stands v (standing n l k r) → b ≡ true
    → Some x ≡ look_of v n → w ≡ together s.unfinished x → Met v n l k r s w
unfolding fits look_of met
node-met v n l k r s m b x w q h st p look all =
    let u = cond_some (alone_ok v n) (own v n) x (sym look) in
    record {
      few = omega arith;
      fit = (and-iff (stands v (standing n l k r)) (alone_ok v n)).1 (sym st ∙ p, u.0);
      all = all ∙ ap (together s.unfinished) (sym u.1);
    }

module _ {v : View} {n l k r : ℕ} {s : Visited} {w : Unfinished} (m : Met v n l k r s w) where
  abbrev visited : Visit
  visited = standing n l k r

  after : tally (s.count + 1) w ≡ tally (suc s.count) (together s.unfinished (met v visited))
  after = ap (λ (i : ℕ). tally i w) (add-one s.count) ∙ ap (tally (suc s.count)) m.all

  pub node-leaf : l ≡ 0 → tally (s.count + 1) w ≡ check v l visited (Some s)
  node-leaf z = after ∙ sym (ap (λ (d : ℕ). check v d visited (Some s)) z ∙ check-leaf v visited s.count s.unfinished m.fit m.few)

  pub node-inner : (l ≡ 0 → ⊥) → fold (check v (l - 1)) (visits_of v n (l - 1) (ways v n) (next_child v n)) (tally (s.count + 1) w)
      ≡ check v l visited (Some s)
  node-inner z =
      let d : l ≡ suc (l - 1) = omega arith in
      ap (fold (check v (l - 1)) (visits_of v n (l - 1) (ways v n) (next_child v n))) after
      ∙ sym (ap (λ (e : ℕ). check v e visited (Some s)) d ∙ check-inner v (l - 1) visited s.count s.unfinished m.fit m.few)

-- a node that stands somewhere is in the table
pub stands-has : (t : Words) (n l k r : ℕ) → header_ok t ≡ true → (b : Bool) → b ≡ stands (view t) (standing n l k r) → b
    ≡ true → has_node t n ≡ true
unfolding stands
stands-has t n l k r h b e q = has-node-range t n h ∙ ((and-iff (in_range (nodes t) n) _).0 (sym e ∙ q)).0

-- ---- a slot

visit-way : (v : View) (n l k r p a c : ℕ) (u : Unfinished)
    → visit v (record { node = n; level = l; fence = k; right = r; way = missing_at p a }) (tally c u)
    ≡ visit v (standing n l k r) (tally c (together u (missing_at p a)))
unfolding visit fits stands
visit-way v n l k r p a c u =
    ap (λ (z : Unfinished). elim (fits v (standing n l k r) && ltb c v.nodes) as (λ (b : Bool). Tally)
    [ true ↦ tally (suc c) z | false ↦ None ])
    (sym (joint.assoc u (missing_at p a) (own v n)))

-- what is missing on the way may be noted before the visit
way-noted : (v : View) (d n l k r p a : ℕ) (s : Tally)
    → check v d (record { node = n; level = l; fence = k; right = r; way = missing_at p a }) s ≡ check v d (standing n l k r) (noted p a s)
unfolding check
way-noted v d n l k r p a None = check-unsound v d _ ∙ sym (check-unsound v d _)
way-noted v zero n l k r p a (Some s) = visit-way v n l k r p a s.count s.unfinished
way-noted v (suc d) n l k r p a (Some s) = ap (fold (check v d) (visits_below v d n)) (visit-way v n l k r p a s.count s.unfinished)

module _ (t : Words) (p d k c r : ℕ) (s : Tally) (b : ℕ) (e : b ≡ word_of t c 1) where
  is-sibling : (node_view t c).sibling ≡ b
  is-sibling = sym (e ∙ word-sibling t c)

  pub slot-right : (u : Tally) → u ≡ check (view t) d (standing c d k r) s → b ≡ r → u ≡ slot_checked (view t) p d k c r s
  unfolding slot_checked
  slot-right u q h = q
      ∙ rw (visits-yes (view t) p d (slot k c) [] r (eq-eqb (node_view t c).sibling r (is-sibling ∙ h))) (unfold visits_of in refl)

  pub slot-lacks : (f : ℕ) (x y u : Tally) → f ≡ word_of t b 3 → y ≡ noted p c s → x ≡ check (view t) d (standing c d k b) y
      → u ≡ check (view t) d (standing b d f r) x → (b ≡ r → ⊥) → u ≡ slot_checked (view t) p d k c r s
  unfolding slot_checked
  slot-lacks f x y u g n i q h =
      let second = check (view t) d (standing (node_view t c).sibling d (node_view t (node_view t c).sibling).fence r) in
      q ∙ ap (λ (z : ℕ). check (view t) d (standing b d z r) x) (g ∙ word-fence t b)
      ∙ ap (check (view t) d (standing b d (node_view t b).fence r)) (i ∙ ap (check (view t) d (standing c d k b)) n)
      ∙ ap (λ (z : ℕ). check (view t) d (standing z d (node_view t z).fence r) (check (view t) d (standing c d k z) (noted p c s)))
      (sym is-sibling)
      ∙ rw (visits-no (view t) p d (slot k c) [] r (ne_eqb (node_view t c).sibling r (λ z. h (sym is-sibling ∙ z))))
      (unfold visits_of in ap second (sym (way-noted (view t) d c d k (node_view t c).sibling p c s)))

-- ---- the ways of a node, one by one

-- the ways from i on, checked; e follows the last
unfoldable pub rest_checked : View → ℕ → ℕ → Ways → ℕ → ℕ → Tally → Tally
rest_checked v n d w i e s = fold (check v d) (visits_of v n d (ways_from w i) e) s

pub pointer-past : (w : Ways) (i e : ℕ) → w.count ≤ i → e ≡ head_or e (pointers_from w i)
pointer-past w i e h = sym (ap (λ (ss : List Slot). head_or e (pointers ss)) (ways-end w i h))

pub pointer-here : (w : Ways) (i e : ℕ) → i < w.count → get_or w.pointers i 0 ≡ head_or e (pointers_from w i)
pointer-here w i e h = sym (ap (λ (ss : List Slot). head_or e (pointers ss)) (ways-next w i h))

-- the first slot, then the others
slots-law : (v : View) (p d : ℕ) (s : Slot) (ss : List Slot) (e : ℕ) (y : Tally)
    → fold (check v d) (visits_of v p d (s ∷ ss) e) y
    ≡ fold (check v d) (visits_of v p d ss e) (slot_checked v p d s.key s.pointer (head_or e (pointers ss)) y)
unfolding slot_checked
slots-law v p d s ss e y = go (eqb (v.node s.pointer).sibling (head_or e (pointers ss))) refl
  where
    go : (b : Bool) → eqb (v.node s.pointer).sibling (head_or e (pointers ss)) ≡ b
        → fold (check v d) (visits_of v p d (s ∷ ss) e) y
        ≡ fold (check v d) (visits_of v p d ss e) (fold (check v d) (visits_of v p d (s ∷ []) (head_or e (pointers ss))) y)
    go true c = rw (visits-yes v p d s ss e c, visits-yes v p d s [] (head_or e (pointers ss)) c) (unfold visits_of in refl)
    go false c = rw (visits-no v p d s ss e c, visits-no v p d s [] (head_or e (pointers ss)) c) (unfold visits_of in refl)

-- checking the ways from i on, from the present state, comes to what checking all from the first state comes to
pub record Rest (v : View) (n d : ℕ) (w : Ways) (e : ℕ) (s₀ s : Tally) (i : ℕ) : Type 0 where
  pub among : i ≤ w.count
  pub comes-to : rest_checked v n d w i e s ≡ rest_checked v n d w 0 e s₀

module _ {v : View} {n d : ℕ} {w : Ways} {e : ℕ} {s₀ s : Tally} {i : ℕ} (k : Rest v n d w e s₀ s i) where
  pub rest-next : (a : ℕ) (u : Tally) → i < w.count → a ≡ head_or e (pointers_from w (i + 1)) → u
      ≡ slot_checked v n d (get_or w.keys i 0) (get_or w.pointers i 0) a s
      → Rest v n d w e s₀ u (i + 1)
  unfolding rest_checked
  rest-next a u h p q =
      record {
        among = omega arith;
        comes-to =
            ap (fold (check v d) (visits_of v n d (ways_from w (i + 1)) e))
            (q ∙ ap (λ (z : ℕ). slot_checked v n d (get_or w.keys i 0) (get_or w.pointers i 0) z s) p)
            ∙ sym
            (ap (λ (ss : List Slot). fold (check v d) (visits_of v n d ss e) s) (ways-next w i h)
            ∙ slots-law v n d (slot (get_or w.keys i 0) (get_or w.pointers i 0)) (ways_from w (i + 1)) e s)
            ∙ k.comes-to;
      }

  all-ways : slots_in w ≡ ways v n → e ≡ next_child v n → rest_checked v n d w 0 e s₀
      ≡ fold (check v d) (visits_of v n d (ways v n) (next_child v n)) s₀
  unfolding rest_checked ways_from
  all-ways p q =
      let z : w.count - 0 ≡ w.count = omega arith in
      ap (λ (m : ℕ). fold (check v d) (visits_of v n d (span w.keys w.pointers 0 m) e) s₀) z
      ∙ ap (λ (ss : List Slot). fold (check v d) (visits_of v n d ss e) s₀) p
      ∙ ap (λ (m : ℕ). fold (check v d) (visits_of v n d (ways v n) m) s₀) q

  pub rest-done : w.count ≤ i → slots_in w ≡ ways v n → e ≡ next_child v n → s
      ≡ fold (check v d) (visits_of v n d (ways v n) (next_child v n)) s₀
  unfolding rest_checked
  rest-done h p q =
      sym (ap (λ (ss : List Slot). fold (check v d) (visits_of v n d ss e) s) (ways-end w i h) ∙ (unfold visits_of in refl))
      ∙ k.comes-to ∙ all-ways p q

  pub rest-refused : s ≡ None → slots_in w ≡ ways v n → e ≡ next_child v n → None
      ≡ fold (check v d) (visits_of v n d (ways v n) (next_child v n)) s₀
  unfolding rest_checked
  rest-refused z p q =
      let xs = visits_of v n d (ways_from w i) e in
      sym (ap (fold (check v d) xs) z ∙ checks-unsound v d xs) ∙ k.comes-to ∙ all-ways p q

-- ---- the whole walk

module _ (t : Words) (r l : ℕ) (q : l ≡ word_of t r 2) where
  abbrev tree : View
  tree = view_from t r

  top : l ≡ height tree
  top = q ∙ word-level t r

  pub walk-high : 15 < l → None ≡ walk (view_from t r)
  unfolding walk
  walk-high h = let z : leb (height tree) 15 ≡ false = lt-leb (height tree) 15 (omega (arith, top)) in rw (z, walk)

  pub walk-low : (s : Tally) → l ≤ 15 → s ≡ check (view t) l (standing r l 0 0) (tally 0 finished) → s ≡ walk (view_from t r)
  unfolding walk
  walk-low s h i =
      let z : leb (height tree) 15 ≡ true = le-leb (height tree) 15 (omega (arith, top)) in
      i ∙ any-check t (root t) r l (standing r l 0 0) (tally 0 finished)
      ∙ ap (λ (k : ℕ). check tree k (standing r k 0 0) (tally 0 finished)) top ∙ rw (z, walk)
