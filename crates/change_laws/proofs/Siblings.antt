-- Another sibling b of node a: in every linked row b follows a, and nothing else moves.
use Rattle.std.proofs.Common.{◌≡◌, ℕ, zero, suc, ◌<◌, Bool, true, false, eqb, ◌≢◌, List, [], ◌∷◌, ◌++◌, sym, refl, ap, ◌∙◌, arith, eq-eqb}
use Rattle.std.proofs.Common.{ne_eqb, eqb-true}
use mathlib.Core.List.{map-append}
use borrow.Author.Tests.{eqb-false}
use Rattle.model.specs.Table.{in_range}
use Rattle.model.specs.Slots.{Slot, View}
use Rattle.model.specs.Search.{below}
use Rattle.model.specs.Reached.{flat, head_or, pointers, kept, named, first_child, next_child, fill_row, children, reached_from}
use Rattle.model.specs.Reached.{leaves_from}
use Rattle.model.specs.SoundTest.{all, sibling_ok, come_first, linked, child_ok, slot_ok}
use Rattle.view_laws.proofs.NodeViews.{sibling_of}
use Rattle.list_laws.proofs.Tools.{decode, or-right, Each, Each-split, all-each, all-append}
use Rattle.tree_laws.proofs.Rows.{Good, inner-ok, leaf-ok, children-inner, linked-cons, link-yes, link-no, first-child, each-here}
use Rattle.tree_laws.proofs.Rows.{each-lower}
use Rattle.change_laws.proofs.Lists.{Off}
use Rattle.change_laws.proofs.Updates.{update-at, update-off, sibling_by, with_sibling}
use Rattle.change_laws.proofs.Splice.{splice, splice-at, splice-off, splice-append, head-splice, splice-each, splice-flat, splice-out}
use Rattle.tree_laws.proofs.Gaps.{Gap, fill-whole}
use Rattle.change_laws.proofs.Parts.{KeysOk, leaf-iff, InnerOk, inner-iff, good-parts, good-leaf, good-inner}

-- a linked row that has y in it is linked up to y, and from y on
pub linked-split : (v : View) (xs : List ℕ) (y : ℕ) (ys : List ℕ) (e : ℕ) → linked v (xs ++ y ∷ ys) e ≡ true → (linked v xs y ≡ true)
    × (linked v (y ∷ ys) e ≡ true)
linked-split v [] y ys e l = (unfold linked in refl, l)
linked-split v (x ∷ []) y ys e l = let u = (linked-cons v x (y ∷ ys) e).0 l in ((linked-cons v x [] y).1 (u.0, unfold linked in refl), u.1)
linked-split v (x ∷ m ∷ xs) y ys e l = let u = (linked-cons v x (m ∷ xs ++ y ∷ ys) e).0 l in let w =
    linked-split v (m ∷ xs) y ys e u.1 in ((linked-cons v x (m ∷ xs) y).1 (u.0, w.0), w.1)

module _ (v : View) (A B : ℕ) where
  abbrev v' : View
  v' = with_sibling v A B

  at : (v'.node A).sibling ≡ B
  at = update-at (sibling_of v) A B

  off : (n : ℕ) → n ≢ A → (v'.node n).sibling ≡ (v.node n).sibling
  off n z = update-off (sibling_of v) A B n z

  -- what is asked of another node reads its own sibling only
  pub kept-off : (n : ℕ) → n ≢ A → kept v' n ≡ kept v n
  unfolding kept below
  kept-off n z = ap (λ (s : ℕ). kept (sibling_by v (λ (m : ℕ). s)) n) (off n z)

  pub next-off : (n : ℕ) → n ≢ A → next_child v' n ≡ next_child v n
  unfolding first_child
  next-off n z = ap (first_child v) (off n z)

  -- ---- a linked row: b stands after a

  fill-splice : (v.node A).sibling ≢ B → (ns : List ℕ) (e : ℕ) → linked v ns e ≡ true → fill_row v' ns e ≡ splice A B ns
  fill-splice z [] e l = unfold fill_row splice in refl
  fill-splice z (n ∷ ns) e l = go (eqb n A) refl ((linked-cons v n ns e).0 l) (fill-splice z ns e ((linked-cons v n ns e).0 l).1)
    where
      go : (c : Bool) → eqb n A ≡ c → ((v.node n).sibling ≡ head_or e ns) × (linked v ns e ≡ true) → fill_row v' ns e ≡ splice A B ns
          → fill_row v' (n ∷ ns) e ≡ splice A B (n ∷ ns)
      go true c u ih =
          let q : n ≡ A = eqb-true n A c in
          let h : head_or e ns ≡ (v.node A).sibling = sym u.0 ∙ ap (sibling_of v) q in
          let w : eqb (v'.node A).sibling (head_or e ns) ≡ false = ne_eqb _ _ (λ y. z (sym h ∙ sym y ∙ at)) in
          rw q (link-no v' A ns e w ∙ ap (λ (m : ℕ). A ∷ m ∷ fill_row v' ns e) at ∙ ap (λ (l : List ℕ). A ∷ B ∷ l) ih
          ∙ sym (splice-at A B ns))
      go false c u ih =
          let y = eqb-false n A c in
          link-yes v' n ns e (eq-eqb _ _ (off n y ∙ u.0)) ∙ ap (λ (l : List ℕ). n ∷ l) ih ∙ sym (splice-off A B n ns y)

  linked-splice : (v.node B).sibling ≡ (v.node A).sibling → B ≢ A → (ns : List ℕ) (e : ℕ) → linked v ns e ≡ true
      → linked v' (splice A B ns) e ≡ true
  linked-splice s z [] e l = unfold splice linked in refl
  linked-splice s z (n ∷ ns) e l = go (eqb n A) refl ((linked-cons v n ns e).0 l) (linked-splice s z ns e ((linked-cons v n ns e).0 l).1)
    where
      go : (c : Bool) → eqb n A ≡ c → ((v.node n).sibling ≡ head_or e ns) × (linked v ns e ≡ true) → linked v' (splice A B ns) e ≡ true
          → linked v' (splice A B (n ∷ ns)) e ≡ true
      go true c u ih =
          let q : n ≡ A = eqb-true n A c in
          let h : (v.node A).sibling ≡ head_or e ns = ap (sibling_of v) (sym q) ∙ u.0 in
          rw (q, splice-at A B ns)
          ((linked-cons v' A (B ∷ splice A B ns) e).1
          (at, (linked-cons v' B (splice A B ns) e).1 (off B z ∙ s ∙ h ∙ sym (head-splice A B e ns), ih)))
      go false c u ih =
          let y = eqb-false n A c in
          rw (splice-off A B n ns y) ((linked-cons v' n (splice A B ns) e).1 (off n y ∙ u.0 ∙ sym (head-splice A B e ns), ih))

  -- a row without a stays linked; one with a has a gap there
  pub linked-off : (ns : List ℕ) (e : ℕ) → linked v ns e ≡ true → Off A ns → linked v' ns e ≡ true
  linked-off [] e l h = unfold linked in refl
  linked-off (n ∷ ns) e l h = let u = (linked-cons v n ns e).0 l in (linked-cons v' n ns e).1 (off n h.0 ∙ u.0, linked-off ns e u.1 h.1)

  pub linked-gap : (xs ys : List ℕ) (e : ℕ) → (v.node A).sibling ≢ B → linked v (xs ++ A ∷ ys) e ≡ true → Off A xs → Off A ys
      → Gap v' A (xs ++ A ∷ ys) e
  linked-gap xs ys e b l hx hy =
      let u = linked-split v xs A ys e l in
      let w = (linked-cons v A ys e).0 u.1 in
      record {
        before = xs;
        after = ys;
        shape = refl;
        joined-before = linked-off xs A u.0 hx;
        lacks = λ q. b (w.0 ∙ sym q ∙ at);
        joined-after = linked-off ys e w.1 hy;
      }

  -- ---- the children of a node

  pub children-off : (d n : ℕ) → n ≢ A → (v.node A).sibling ≢ B → (v.node n).level ≡ suc d → linked v (named v n) (next_child v n) ≡ true
      → children v' n ≡ splice A B (children v n)
  children-off d n z b e l =
      children-inner v' d n e ∙ ap (λ (ks : List Slot). fill_row v' ((v.node n).left ∷ pointers ks) (next_child v' n)) (kept-off n z)
      ∙ ap (fill_row v' (named v n)) (next-off n z)
      ∙ fill-splice b (named v n) (next_child v n) l
      ∙ ap (splice A B) (sym ((fill-whole v (named v n) (next_child v n)).1 l) ∙ sym (children-inner v d n e))

  pub named-off : (n : ℕ) → n ≢ A → named v' n ≡ named v n
  named-off n z = ap (λ (ks : List Slot). (v.node n).left ∷ pointers ks) (kept-off n z)

  -- an inner A names low and, after it, what B names
  pub record Halves (low : List Slot) : Type 0 where
    pub lower : children v' A ≡ splice A B ((v.node A).left ∷ pointers low)
    pub upper : children v' B ≡ splice A B (named v B)
    pub lower-chain : linked v ((v.node A).left ∷ pointers low) (v.node B).left ≡ true
    pub upper-chain : linked v (named v B) (next_child v A) ≡ true
    pub next : next_child v' A ≡ (v.node B).left
    pub whole : children v A ≡ ((v.node A).left ∷ pointers low) ++ named v B

  pub halves : (d : ℕ) (low : List Slot) (s : Slot) → (v.node A).sibling ≢ B → B ≢ A → B ≢ 0 → (v.node B).sibling ≡ (v.node A).sibling
      → (v.node A).level ≡ suc d → (v.node B).level ≡ suc d
      → s.pointer ≡ (v.node B).left → kept v A ≡ low ++ s ∷ kept v B → kept v' A ≡ low
      → linked v (named v A) (next_child v A) ≡ true → Halves low
  unfolding first_child
  halves d low s b z y sb ea eb sp ka kl l =
      let xa : List ℕ = (v.node A).left ∷ pointers low in
      let yb : List ℕ = named v B in
      let na : named v A ≡ xa ++ yb = ap (λ (ks : List Slot). (v.node A).left ∷ pointers ks) ka
      ∙ ap (λ (r : List ℕ). (v.node A).left ∷ r) (map-append (λ (t : Slot). t.pointer) low (s ∷ kept v B))
      ∙ ap (λ (m : ℕ). xa ++ m ∷ pointers (kept v B)) sp in
      let cut = linked-split v xa (v.node B).left (pointers (kept v B)) (next_child v A) (rw na at l) in
      let nx : next_child v' A ≡ (v.node B).left = ap (first_child v) at ∙ first-child v B y in
      record {
        lower = children-inner v' d A ea ∙ ap (λ (ks : List Slot). fill_row v' ((v.node A).left ∷ pointers ks) (next_child v' A)) kl
            ∙ ap (fill_row v' xa) nx ∙ fill-splice b xa (v.node B).left cut.0;
        upper = children-inner v' d B eb
            ∙ ap (λ (ks : List Slot). fill_row v' ((v.node B).left ∷ pointers ks) (next_child v' B)) (kept-off B z)
            ∙ ap (fill_row v' yb) (next-off B z ∙ ap (first_child v) sb) ∙ fill-splice b yb (next_child v A) cut.1;
        lower-chain = cut.0;
        upper-chain = cut.1;
        next = nx;
        whole = children-inner v d A ea ∙ (fill-whole v (named v A) (next_child v A)).1 l ∙ na;
      }

  pub children-both : (low : List Slot) → Halves low → children v' A ++ children v' B ≡ splice A B (children v A)
  children-both low h =
      ap (λ (r : List ℕ). r ++ children v' B) h.lower ∙ ap (λ (r : List ℕ). splice A B ((v.node A).left ∷ pointers low) ++ r) h.upper
      ∙ sym (splice-append A B ((v.node A).left ∷ pointers low) (named v B))
      ∙ ap (splice A B) (sym h.whole)

  -- ---- every row below

  abbrev pub Moves : ℕ → Type 0
  Moves n = n ≢ A → children (with_sibling v A B) n ≡ splice A B (children v n)

  lower-splice : children v' A ++ children v' B ≡ splice A B (children v A) → (ns : List ℕ) → Each Moves ns
      → flat (children v') (splice A B ns) ≡ splice A B (flat (children v) ns)
  lower-splice both ns h = splice-flat A B (children v') (λ (n : ℕ). splice A B (children v n)) both ns h ∙ splice-out A B (children v) ns

  pub reached-splice :
      children v' A ++ children v' B ≡ splice A B (children v A) → (d : ℕ) (ns : List ℕ) → Each Moves (reached_from v d ns)
      → reached_from v' d (splice A B ns) ≡ splice A B (reached_from v d ns)
  unfolding reached_from
  reached-splice both zero ns h = refl
  reached-splice both (suc d) ns h =
      let u = Each-split Moves ns (reached_from v d (flat (children v) ns)) h in
      ap (λ (l : List ℕ). splice A B ns ++ l)
      (ap (reached_from v' d) (lower-splice both ns u.0) ∙ reached-splice both d (flat (children v) ns) u.1)
      ∙ sym (splice-append A B ns (reached_from v d (flat (children v) ns)))

  pub leaves-splice : children v' A ++ children v' B ≡ splice A B (children v A) → (d : ℕ) (ns : List ℕ) → Each Moves (reached_from v d ns)
      → leaves_from v' d (splice A B ns) ≡ splice A B (leaves_from v d ns)
  unfolding leaves_from
  leaves-splice both zero ns h = refl
  leaves-splice both (suc d) ns h =
      ap (leaves_from v' d) (lower-splice both ns (each-here v Moves (suc d) ns h))
      ∙ leaves-splice both d (flat (children v) ns) (each-lower v Moves d ns h)

  -- ---- the conditions of another node, and of A

  module _ (range : in_range v.nodes B ≡ true) (sibling : (v.node B).sibling ≡ (v.node A).sibling) (other : B ≢ A)
      (apart : (v.node A).sibling ≢ B) where
    sib-off : (n : ℕ) → n ≢ A → sibling_ok v' n ≡ sibling_ok v n
    unfolding sibling_ok in_range
    sib-off n z = ap (λ (s : ℕ). sibling_ok (sibling_by v (λ (m : ℕ). s)) n) (off n z)

    range-splice : (cs : List ℕ) → all (in_range v.nodes) cs ≡ true → all (in_range v.nodes) (splice A B cs) ≡ true
    range-splice cs h = (all-each (in_range v.nodes) _).1
        (splice-each A B (λ (n : ℕ). in_range v.nodes n ≡ true) (λ (n : ℕ). in_range v.nodes n ≡ true) (λ n z r. r) (λ r. (r, range)) cs
        ((all-each (in_range v.nodes) cs).0 h))

    keys-off : (n low : ℕ) → n ≢ A → KeysOk v n low → KeysOk v' n low
    unfolding below
    keys-off n low z k =
        record {
          rise = rw (kept-off n z) k.rise;
          first = ap (λ (s : ℕ). come_first (λ (t : Slot). below v s t.key) (v.node n).shown) (off n z) ∙ k.first;
        }

    inner-off : (d n : ℕ) → n ≢ A → (v.node n).level ≡ suc d → linked v (named v n) (next_child v n) ≡ true → InnerOk v n → InnerOk v' n
    unfolding child_ok slot_ok
    inner-off d n z e l k =
        let c = children-off d n z apart e l in
        record {
          keys = keys-off n (suc (v.node n).fence) z k.keys;
          left = k.left;
          slots = rw (kept-off n z) k.slots;
          range = rw c (range-splice (children v n) k.range);
          chain = rw (c, next-off n z) (linked-splice sibling other (children v n) (next_child v n) k.chain);
        }

    pub good-off : (n : ℕ) → n ≢ A → ((v.node n).level ≢ 0 → linked v (named v n) (next_child v n) ≡ true) → Good v n → Good v' n
    good-off n z l g = go (v.node n).level refl
      where
        u : ((v.node n).clear ≡ true) × (sibling_ok v n ≡ true)
        u = good-parts v n g

        go : (d : ℕ) → (v.node n).level ≡ d → Good v' n
        go zero e = let k = (leaf-iff v n).0 (leaf-ok v n g e) in good-leaf v' n e u.0 (sib-off n z ∙ u.1)
            ((leaf-iff v' n).1 (record { left = k.left; keys = keys-off n (v.node n).fence z k.keys }))
        go (suc d) e = good-inner v' d n e u.0 (sib-off n z ∙ u.1)
            ((inner-iff v' n).1 (inner-off d n z e (l (λ y. omega arith)) ((inner-iff v n).0 (inner-ok v d n g e))))

    -- A's own: its sibling is B now, and it keeps the lower part
    pub sib-at : (v.node B).level ≡ (v.node A).level → (v.node A).fence < (v.node B).fence → sibling_ok v' A ≡ true
    unfolding sibling_ok
    sib-at e h = rw at (or-right (eqb B 0) _ (simp decode (range, (e, h))))

    pub inner-at : (low : List Slot) (s : Slot) (hi : List Slot) → Halves low → kept v A ≡ low ++ s ∷ hi
        → KeysOk v' A (suc (v.node A).fence) → kept v' A ≡ low → InnerOk v A → InnerOk v' A
    unfolding child_ok slot_ok
    inner-at low s hi h ka keys kl k =
        let sl = (all-append (slot_ok v (v.node A).level) low (s ∷ hi)).0 (rw ka at k.slots) in
        let rl = (all-append (in_range v.nodes) ((v.node A).left ∷ pointers low) (named v B)).0 (rw h.whole at k.range) in
        record {
          keys = keys;
          left = k.left;
          slots = rw kl sl.0;
          range = rw h.lower (range-splice ((v.node A).left ∷ pointers low) rl.0);
          chain = rw (h.lower, h.next) (linked-splice sibling other ((v.node A).left ∷ pointers low) (v.node B).left h.lower-chain);
        }
