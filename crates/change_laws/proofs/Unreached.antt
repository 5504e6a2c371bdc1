-- A node that is not reached may hold anything: reached nodes, map, soundness and leftover stay.
use Rattle.std.proofs.Common.{◌≡◌, ℕ, zero, suc, Bool, true, false, eqb, ◌≢◌, List, [], ◌∷◌, sym, refl, ap, ◌∙◌, subst, arith}
use mathlib.Core.List.{Memᴰ}
use Rattle.model.specs.Slots.{Slot, NodeView, View, height}
use Rattle.model.specs.Search.{below, within}
use Rattle.model.specs.Reached.{filter, flat, head_or, pointers, kept, named, first_child, next_child, fill_row, children, reached_from}
use Rattle.model.specs.Reached.{leaves_from, reached, leaves, mapping}
use Rattle.model.specs.SoundTest.{all, elem, sibling_ok, come_first, linked, child_ok, slot_ok, Leftover, nothing, hidden_in, missing_in}
use Rattle.model.specs.SoundTest.{both_in, room, has_room}
use Rattle.list_laws.proofs.Tools.{Each, Each-split, Each-map}
use Rattle.view_laws.proofs.NodeViews.{level_of, AllBut, level-eq}
use Rattle.list_laws.proofs.Members.{elem-none, mem-each, each-both, mem-here, flat-each}
use Rattle.tree_laws.proofs.Rows.{Good, link-head, link-tail, children-inner, leaf-ok, inner-ok, each-here, each-leaf, SameChildren}
use Rattle.tree_laws.proofs.Rows.{reached-agree, leaves-agree}
use Rattle.tree_laws.proofs.Kept.{by-level}
use Rattle.tree_laws.proofs.Levels.{RootFacts, Orderly}
use Rattle.tree_laws.proofs.Gaps.{Gap}
use Rattle.tree_laws.proofs.Leftovers.{children-of, gap-children, Left, NoneHidden, NoneTrailing, NoneMissing, HiddenOnly, TrailingOnly}
use Rattle.tree_laws.proofs.Leftovers.{MissingOnly}
use Rattle.change_laws.proofs.Lists.{Off}
use Rattle.change_laws.proofs.Parts.{KeysOk, LeafOk, leaf-iff, InnerOk, inner-iff, good-parts, good-leaf, good-inner, no-children, HasLeft}
use Rattle.change_laws.proofs.Parts.{Keeps, same-room}
use Rattle.change_laws.proofs.Parents.{sibling-reached, child-reached}

fill-names : (v : View) (P : ℕ → Type 0) (ns : List ℕ) (e : ℕ) → Each P (fill_row v ns e) → Each P ns
fill-names v P [] e h = tt
fill-names v P (n ∷ ns) e h = (link-head v P n ns e h, fill-names v P ns e (link-tail v P n ns e h))

each-and : (C P Q : ℕ → Type 0) (ns : List ℕ) → ((n : ℕ) → C n → P n → Q n) → Each C ns → Each P ns → Each Q ns
each-and C P Q ns g c p = Each-map (λ (n : ℕ). C n × P n) Q ns (λ n h. g n h.0 h.1) (each-both C P ns c p)

-- the two views differ at most at node b
module _ (v v' : View) (b : ℕ) (same-nodes : v'.nodes ≡ v.nodes) (same-root : v'.root ≡ v.root) (same : AllBut v.node v'.node b) where
  same-level : (n : ℕ) → n ≢ b → (v'.node n).level ≡ (v.node n).level
  same-level n z = level-eq (same.else n z)

  below-agree : (s k : ℕ) → s ≢ b → below v' s k ≡ below v s k
  unfolding below
  below-agree s k z = rw (same.else s z)

  first-agree : (s : ℕ) → s ≢ b → first_child v' s ≡ first_child v s
  unfolding first_child
  first-agree s z = ap (λ (m : NodeView). elim (eqb s 0) as (λ c. ℕ) [ true ↦ 0 | false ↦ m.left ]) (same.else s z)

  -- n, its sibling and its children are not b
  record Clear (n : ℕ) : Type 0 where
    own : n ≢ b
    sibling : (v.node n).sibling ≢ b
    names : (v.node n).level ≢ 0 → Off b (named v n)
    below : Off b (children v n)

  module _ (n : ℕ) (c : Clear n) where
    within-agree : (k : ℕ) → within v' n k ≡ within v n k
    within-agree k = ap (λ (m : NodeView). below v' m.sibling k) (same.else n c.own) ∙ below-agree (v.node n).sibling k c.sibling

    kept-agree : kept v' n ≡ kept v n
    unfolding kept
    kept-agree = ap (λ (m : NodeView). filter (λ (s : Slot). within v' n s.key) m.shown) (same.else n c.own)
        ∙ ap (λ (q : Slot → Bool). filter q (v.node n).shown) (λ i s. within-agree s.key i)

    next-agree : next_child v' n ≡ next_child v n
    next-agree = ap (λ (m : NodeView). first_child v' m.sibling) (same.else n c.own) ∙ first-agree (v.node n).sibling c.sibling

    named-agree : named v' n ≡ named v n
    named-agree = ap (λ (m : NodeView). m.left ∷ pointers (kept v' n)) (same.else n c.own)
        ∙ ap (λ (ks : List Slot). (v.node n).left ∷ pointers ks) kept-agree

  fill-agree : (ns : List ℕ) (e : ℕ) → Off b ns → fill_row v' ns e ≡ fill_row v ns e
  unfolding fill_row
  fill-agree [] e h = refl
  fill-agree (n ∷ ns) e h =
      ap (λ (m : NodeView). elim (eqb m.sibling (head_or e ns)) as (λ c. List ℕ)
      [ true ↦ n ∷ fill_row v' ns e | false ↦ n ∷ m.sibling ∷ fill_row v' ns e ]) (same.else n h.0)
      ∙ ap (λ (l : List ℕ). elim (eqb (v.node n).sibling (head_or e ns)) as (λ c. List ℕ)
      [ true ↦ n ∷ l | false ↦ n ∷ (v.node n).sibling ∷ l ]) (fill-agree ns e h.1)

  linked-agree : (ns : List ℕ) (e : ℕ) → Off b ns → linked v' ns e ≡ linked v ns e
  unfolding linked
  linked-agree [] e h = refl
  linked-agree (n ∷ ns) e h = rw (same.else n h.0, linked-agree ns e h.1)

  children-agree : (n : ℕ) → Clear n → children v' n ≡ children v n
  children-agree n c = by-level v (λ (m : ℕ). children v' n ≡ children v n) n
      (λ l. no-children v' n (same-level n c.own ∙ l) ∙ sym (no-children v n l))
      (λ d l.
      children-inner v' d n (same-level n c.own ∙ l) ∙ ap (λ (r : List ℕ). fill_row v' r (next_child v' n)) (named-agree n c)
      ∙ ap (fill_row v' (named v n)) (next-agree n c) ∙ fill-agree (named v n) (next_child v n) (c.names (λ z. omega arith))
      ∙ sym (children-inner v d n l))

  -- ---- the conditions of a clear node

  sib-agree : (n : ℕ) → Clear n → sibling_ok v' n ≡ sibling_ok v n
  unfolding sibling_ok
  sib-agree n c = rw (same.else n c.own, same-nodes, same.else (v.node n).sibling c.sibling)

  keys-agree : (n low : ℕ) → Clear n → KeysOk v n low → KeysOk v' n low
  keys-agree n low c k = record {
    rise = rw (kept-agree n c) k.rise;
    first = ap (λ (m : NodeView). come_first (λ (s : Slot). within v' n s.key) m.shown) (same.else n c.own)
        ∙ ap (λ (q : Slot → Bool). come_first q (v.node n).shown) (λ i s. within-agree n c s.key i) ∙ k.first;
  }

  child-agree : (l k m : ℕ) → m ≢ b → child_ok v' l k m ≡ child_ok v l k m
  unfolding child_ok
  child-agree l k m z = rw (same.else m z)

  slots-agree : (l : ℕ) (ss : List Slot) → Off b (pointers ss) → all (slot_ok v' l) ss ≡ all (slot_ok v l) ss
  unfolding all slot_ok
  slots-agree l [] h = refl
  slots-agree l (s ∷ ss) h = rw (child-agree l s.key s.pointer h.0, slots-agree l ss h.1)

  leaf-agree : (n : ℕ) → Clear n → LeafOk v n → LeafOk v' n
  leaf-agree n c k = record { left = rw (same.else n c.own) k.left; keys = rw (same.else n c.own) (keys-agree n (v.node n).fence c k.keys) }

  inner-agree : (d n : ℕ) → (v.node n).level ≡ suc d → Clear n → InnerOk v n → InnerOk v' n
  inner-agree d n l c k =
      let q = c.own in
      let z = c.names (λ y. omega arith) in
      record {
        keys = rw (same.else n q) (keys-agree n (suc (v.node n).fence) c k.keys);
        left = rw (same.else n q) (child-agree (v.node n).level (v.node n).fence (v.node n).left z.0 ∙ k.left);
        slots = rw (same.else n q, kept-agree n c) (slots-agree (v.node n).level (kept v n) z.1 ∙ k.slots);
        range = rw (children-agree n c, same-nodes) k.range;
        chain = rw (children-agree n c, next-agree n c) (linked-agree (children v n) (next_child v n) c.below ∙ k.chain);
      }

  good-agree : (n : ℕ) → Clear n → Good v n → Good v' n
  good-agree n c g = go (v.node n).level refl
    where
      u : ((v.node n).clear ≡ true) × (sibling_ok v n ≡ true)
      u = good-parts v n g

      go : (d : ℕ) → (v.node n).level ≡ d → Good v' n
      go zero l = good-leaf v' n (same-level n c.own ∙ l) (rw (same.else n c.own) u.0) (sib-agree n c ∙ u.1)
          ((leaf-iff v' n).1 (leaf-agree n c ((leaf-iff v n).0 (leaf-ok v n g l))))
      go (suc d) l = good-inner v' d n (same-level n c.own ∙ l) (rw (same.else n c.own) u.0) (sib-agree n c ∙ u.1)
          ((inner-iff v' n).1 (inner-agree d n l c ((inner-iff v n).0 (inner-ok v d n g l))))

  -- ---- the nodes reached, and the map

  module _ (o : Orderly v) (nonzero : b ≢ 0) (fresh : elem b (reached v) ≡ false) where
    not-b : (n : ℕ) → Memᴰ n (reached v) → n ≢ b
    not-b n m e = (elem-none b (reached v)).0 fresh (rw e at m)

    clear : (n : ℕ) → Memᴰ n (reached v) → Clear n
    clear n m =
        let kids : Off b (children v n) = mem-each (λ (c : ℕ). c ≢ b) (children v n) (λ c h. not-b c (child-reached v n c o m h)) in
        record {
          own = not-b n m;
          sibling = λ e. not-b (v.node n).sibling (sibling-reached v n o m (λ z. nonzero (sym e ∙ z))) e;
          names = λ z. fill-names v (λ (c : ℕ). c ≢ b) (named v n) (next_child v n) (rw (children-of v n z) at kids);
          below = kids;
        }

    clears : Each Clear (reached v)
    clears = mem-each Clear (reached v) clear

    root-clear : Clear v.root
    root-clear = (each-here v Clear (height v) (v.root ∷ []) clears).0

    same-height : height v' ≡ height v
    same-height = ap (level_of v') (same-root) ∙ same-level v.root root-clear.own

    same-children : Each (SameChildren v v') (reached v)
    same-children = Each-map Clear (SameChildren v v') (reached v) children-agree clears

    same-reached : reached v' ≡ reached v
    same-reached = ap (λ (d : ℕ). reached_from v' d (v'.root ∷ [])) same-height
        ∙ ap (λ (n : ℕ). reached_from v' (height v) (n ∷ [])) (same-root) ∙ reached-agree v v' (height v) (v.root ∷ []) same-children

    same-mapping : mapping v' ≡ mapping v
    unfolding mapping
    same-mapping = ap (flat (kept v'))
        (ap (λ (d : ℕ). leaves_from v' d (v'.root ∷ [])) same-height ∙ ap (λ (n : ℕ). leaves_from v' (height v) (n ∷ [])) (same-root)
        ∙ leaves-agree v v' (height v) (v.root ∷ []) same-children)
        ∙ flat-each (kept v') (kept v) (leaves v)
        (Each-map Clear (λ (n : ℕ). kept v' n ≡ kept v n) (leaves v) (λ n c. kept-agree n c)
        (each-leaf v Clear (height v) (v.root ∷ []) clears))

    same-top : RootFacts v'
    same-top =
        let z = root-clear.own in
        record {
          range = rw (same-root, same-nodes) o.top.range;
          level = rw same-height o.top.level;
          fence = rw (same-root, same.else v.root z) o.top.fence;
          sibling = rw (same-root, same.else v.root z) o.top.sibling;
        }

    same-orderly : Orderly v'
    same-orderly = record {
      top = same-top;
      good = rw same-reached (each-and Clear (Good v) (Good v') (reached v) good-agree clears o.good);
      once = rw same-reached o.once;
      recordings = rw same-mapping o.recordings;
    }

    -- ---- what is left

    moved-each : (P Q : ℕ → Type 0) → ((n : ℕ) → Clear n → P n → Q n) → Each P (reached v) → Each Q (reached v')
    moved-each P Q g h = rw same-reached (each-and Clear P Q (reached v) g clears h)

    hidden-at : (k n : ℕ) → Clear n → (v.node n).hidden ≡ k → (v'.node n).hidden ≡ k
    hidden-at k n c e = rw (same.else n c.own) e

    keeps-at : (n : ℕ) → Clear n → kept v n ≡ (v.node n).shown → kept v' n ≡ (v'.node n).shown
    keeps-at n c e = kept-agree n c ∙ e ∙ rw (same.else n c.own)

    names-at : (n : ℕ) → Clear n → ((v.node n).level ≢ 0 → children v n ≡ named v n) → (v'.node n).level ≢ 0 → children v' n ≡ named v' n
    names-at n c h z = children-agree n c ∙ h (λ e. z (same-level n c.own ∙ e)) ∙ sym (named-agree n c)

    gap-at : (a p : ℕ) → Memᴰ a (reached v) → Clear p → (z : (v.node p).level ≢ 0) → Gap v a (named v p) (next_child v p)
        → Gap v' a (named v' p) (next_child v' p)
    gap-at a p m c z g =
        let u = Each-split (λ (n : ℕ). n ≢ b) g.before (a ∷ g.after) (subst (λ (l : List ℕ). Off b l) g.shape (c.names z)) in
        record {
          before = g.before;
          after = g.after;
          shape = named-agree p c ∙ g.shape;
          joined-before = linked-agree g.before a u.0 ∙ g.joined-before;
          lacks = λ e. g.lacks (rw (same.else a (not-b a m)) at e ∙ ap (λ (x : ℕ). head_or x g.after) (next-agree p c));
          joined-after = ap (linked v' g.after) (next-agree p c) ∙ linked-agree g.after (next_child v p) u.1.1 ∙ g.joined-after;
        }

    no-hidden : NoneHidden v → NoneHidden v'
    no-hidden = moved-each (λ (n : ℕ). (v.node n).hidden ≡ 0) (λ (n : ℕ). (v'.node n).hidden ≡ 0) (hidden-at 0)

    no-trailing : NoneTrailing v → NoneTrailing v'
    no-trailing = moved-each (λ (n : ℕ). kept v n ≡ (v.node n).shown) (λ (n : ℕ). kept v' n ≡ (v'.node n).shown) keeps-at

    no-missing : NoneMissing v → NoneMissing v'
    no-missing = moved-each (λ (n : ℕ). (v.node n).level ≢ 0 → children v n ≡ named v n)
        (λ (n : ℕ). (v'.node n).level ≢ 0 → children v' n ≡ named v' n) names-at

    only-hidden : (x : ℕ) → HiddenOnly v x → HiddenOnly v' x
    only-hidden x h = record {
      member = rw same-reached h.member;
      here = hidden-at 1 x (clear x h.member) h.here;
      others = moved-each (λ (n : ℕ). n ≢ x → (v.node n).hidden ≡ 0) (λ (n : ℕ). n ≢ x → (v'.node n).hidden ≡ 0)
          (λ n c q z. hidden-at 0 n c (q z)) h.others;
    }

    only-trailing : (a : ℕ) → TrailingOnly v a → TrailingOnly v' a
    only-trailing a h =
        let c = clear a h.member in
        record {
          member = rw same-reached h.member;
          here = λ e. h.here (sym (kept-agree a c) ∙ e ∙ rw (same.else a c.own));
          others = moved-each (λ (n : ℕ). n ≢ a → kept v n ≡ (v.node n).shown) (λ (n : ℕ). n ≢ a → kept v' n ≡ (v'.node n).shown)
              (λ n c q z. keeps-at n c (q z)) h.others;
        }

    only-missing : (p a : ℕ) → MissingOnly v p a → MissingOnly v' p a
    only-missing p a h =
        let c = clear p h.member in
        let z = h.here.0 in
        let m = child-reached v p a o h.member
        (rw (gap-children v p a z h.here.1) (mem-here a h.here.1.before ((v.node a).sibling ∷ h.here.1.after))) in
        record {
          member = rw same-reached h.member;
          here = ((λ e. z (sym (same-level p c.own) ∙ e)), gap-at a p m c z h.here.1);
          others = moved-each (λ (n : ℕ). n ≢ p → (v.node n).level ≢ 0 → children v n ≡ named v n)
              (λ (n : ℕ). n ≢ p → (v'.node n).level ≢ 0 → children v' n ≡ named v' n) (λ n c q y. names-at n c (q y)) h.others;
        }

    same-left : (y : Leftover) → Left v y → Left v' y
    same-left nothing l = (no-hidden l.0, no-trailing l.1, no-missing l.2)
    same-left (hidden_in x) l = (only-hidden x l.0, no-trailing l.1, no-missing l.2)
    same-left (missing_in p a false) l = (no-hidden l.0, no-trailing l.1, only-missing p a l.2)
    same-left (missing_in p a true) l = (no-hidden l.0, only-trailing a l.1, only-missing p a l.2)
    same-left (both_in p a) l = (only-hidden p l.0, no-trailing l.1, only-missing p a l.2)

    room-at : (p : ℕ) → Memᴰ p (reached v) → room v p ≡ true → room v' p ≡ true
    room-at p m = same-room v v' p (rw (same.else p (not-b p m)))

    room-stays : (y : Leftover) → Left v y → has_room v y ≡ true → has_room v' y ≡ true
    room-stays nothing l r = r
    room-stays (hidden_in x) l r = r
    room-stays (missing_in p a true) l r = room-at p l.2.member r
    room-stays (missing_in p a false) l r = room-at p l.2.member r
    room-stays (both_in p a) l r = room-at p l.2.member r

  -- whatever b holds, the leftover, the map and the nodes reached stay
  pub unreached-keeps : (y : Leftover) → HasLeft v y → b ≢ 0 → elem b (reached v) ≡ false → Keeps v v' y
  unreached-keeps y l z e =
      let o = l.orderly in
      record {
        left = record { orderly = same-orderly o z e; left = same-left o z e y l.left };
        mapping = same-mapping o z e;
        reached = same-reached o z e;
        room = room-stays o z e y l.left;
      }
