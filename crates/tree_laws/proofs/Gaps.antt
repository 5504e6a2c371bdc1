-- The row of children that a node names: whole, or with a gap where a child's sibling lacks its slot.
use Rattle.std.proofs.Common.{◌≡◌, ℕ, suc, ◌≤◌, Bool, true, false, eqb, ◌≢◌, ◌⊎◌, ◌↔◌, List, [], ◌∷◌, ◌++◌, length, sym, refl, ap, ◌∙◌, inl}
use Rattle.std.proofs.Common.{inr, ⊎_elim, arith, eq-eqb, ne_eqb, eqb-true}
use borrow.Author.Tests.{eqb-false}
use Rattle.model.specs.declared.Few.{Few}
use Rattle.model.specs.declared.Few.TheVariants.{Zero, One, Many}
use Rattle.model.specs.declared.MissingSlot.{MissingSlot}
use Rattle.model.specs.Slots.{View}
use Rattle.model.specs.Reached.{head_or, fill_row}
use Rattle.model.specs.SoundTest.{linked, add_few, together, under, missing_at, row_unfinished}
use Rattle.list_laws.proofs.Lists.{cons-same}
use Rattle.tree_laws.proofs.Rows.{link-yes, link-no, linked-cons, head-append}
use Rattle.tree_laws.proofs.Sums.{few-atom}

-- ---- what a row lacks

module _ (v : View) (p : ℕ) where
  row-yes : (n : ℕ) (ns : List ℕ) (e : ℕ) → eqb (v.node n).sibling (head_or e ns) ≡ true → row_unfinished v p (n ∷ ns) e
      ≡ row_unfinished v p ns e
  unfolding row_unfinished
  row-yes n ns e c = rw (c, row_unfinished)

  row-no : (n : ℕ) (ns : List ℕ) (e : ℕ) → eqb (v.node n).sibling (head_or e ns) ≡ false → row_unfinished v p (n ∷ ns) e
      ≡ together (missing_at p n) (row_unfinished v p ns e)
  unfolding row_unfinished
  row-no n ns e c = rw (c, row_unfinished)

  -- nothing but missing slots
  pub row-only : (ns : List ℕ) (e : ℕ) → ((row_unfinished v p ns e).hidden ≡ Zero) × ((row_unfinished v p ns e).trailing ≡ Zero)
  unfolding row_unfinished
  row-only [] e = (refl, refl)
  row-only (n ∷ ns) e = go (eqb (v.node n).sibling (head_or e ns)) refl (row-only ns e)
    where
      go : (b : Bool) → eqb (v.node n).sibling (head_or e ns) ≡ b → ((row_unfinished v p ns e).hidden ≡ Zero)
          × ((row_unfinished v p ns e).trailing ≡ Zero)
          → ((row_unfinished v p (n ∷ ns) e).hidden ≡ Zero) × ((row_unfinished v p (n ∷ ns) e).trailing ≡ Zero)
      go true c ih = rw (row-yes n ns e c) ih
      go false c ih = rw (row-no n ns e c) ih

  pub row-nowhere : (ns : List ℕ) (e : ℕ) → ((row_unfinished v p ns e).missing ≡ Zero) ↔ (linked v ns e ≡ true)
  unfolding row_unfinished linked
  row-nowhere [] e = (λ q. refl, λ q. refl)
  row-nowhere (n ∷ ns) e = go (eqb (v.node n).sibling (head_or e ns)) refl (row-nowhere ns e)
    where
      go : (b : Bool) → eqb (v.node n).sibling (head_or e ns) ≡ b → ((row_unfinished v p ns e).missing ≡ Zero) ↔ (linked v ns e ≡ true)
          → ((row_unfinished v p (n ∷ ns) e).missing ≡ Zero) ↔ (linked v (n ∷ ns) e ≡ true)
      go true c ih = rw (row-yes n ns e c)
          (λ q. (linked-cons v n ns e).1 (eqb-true _ _ c, ih.0 q), λ l. ih.1 ((linked-cons v n ns e).0 l).1)
      go false c ih = rw (row-no n ns e c)
          (λ q. absurd (at-least (row_unfinished v p ns e).missing n q), λ l. absurd (eqb-false _ _ c ((linked-cons v n ns e).0 l).0))
        where
          at-least : (m : Few MissingSlot) (n : ℕ) → add_few (One (under p n)) m ≡ Zero → ⊥
          at-least Zero n q = let z : ◌≡◌ {A = ℕ} 0 1 = cc in omega arith
          at-least (One r) n q = let z : ◌≡◌ {A = ℕ} 0 1 = cc in omega arith
          at-least Many n q = let z : ◌≡◌ {A = ℕ} 0 1 = cc in omega arith

-- the row ns, which e follows, has a gap after a, and no other
pub record Gap (v : View) (a : ℕ) (ns : List ℕ) (e : ℕ) : Type 0 where
  pub before : List ℕ
  pub after : List ℕ
  pub shape : ns ≡ before ++ a ∷ after
  pub joined-before : linked v before a ≡ true
  pub lacks : (v.node a).sibling ≢ head_or e after
  pub joined-after : linked v after e ≡ true

one-same : (x y : MissingSlot) → One x ≡ One y → x ≡ y
one-same x y e = cc

under-same : (p a q b : ℕ) → One (under p a) ≡ One (under q b) → (p ≡ q) × (a ≡ b)
under-same p a q b e = let m = one-same _ _ e in (ap (λ (x : MissingSlot). x.parent) m, ap (λ (x : MissingSlot). x.node) m)

-- a row with a gap has it still with a node in front whose sibling is the row's first
pub gap-more : (v : View) (a n : ℕ) (ns : List ℕ) (e : ℕ) → (v.node n).sibling ≡ head_or e ns → Gap v a ns e → Gap v a (n ∷ ns) e
gap-more v a n ns e c g = record {
  before = n ∷ g.before;
  after = g.after;
  shape = ap (λ (l : List ℕ). n ∷ l) g.shape;
  joined-before = (linked-cons v n g.before a).1 (c ∙ ap (head_or e) g.shape ∙ sym (head-append e g.before (a ∷ g.after)), g.joined-before);
  lacks = g.lacks;
  joined-after = g.joined-after;
}

-- the same by cases: the gap is after n, or n is joined to the rest, which has it
gap-cases : (v : View) (a n : ℕ) (ns : List ℕ) (e : ℕ) → Gap v a (n ∷ ns) e
    → ((a ≡ n) × ((v.node n).sibling ≢ head_or e ns) × (linked v ns e ≡ true)) ⊎ (((v.node n).sibling ≡ head_or e ns) × Gap v a ns e)
gap-cases v a n ns e g = go g.before g.after g.shape g.joined-before g.lacks g.joined-after
  where
    go : (before after : List ℕ) → n ∷ ns ≡ before ++ a ∷ after → linked v before a ≡ true → (v.node a).sibling ≢ head_or e after
        → linked v after e ≡ true
        → ((a ≡ n) × ((v.node n).sibling ≢ head_or e ns) × (linked v ns e ≡ true)) ⊎ (((v.node n).sibling ≡ head_or e ns) × Gap v a ns e)
    go [] after s l k r =
        let h : n ≡ a = (cons-same n a ns after s).0 in
        let t : ns ≡ after = (cons-same n a ns after s).1 in
        inl (sym h, (λ q. k (ap (λ (x : ℕ). (v.node x).sibling) (sym h) ∙ q ∙ ap (head_or e) t)), rw t r)
    go (m ∷ before) after s l k r =
        let h : n ≡ m = (cons-same n m ns (before ++ a ∷ after) s).0 in
        let t : ns ≡ before ++ a ∷ after = (cons-same n m ns (before ++ a ∷ after) s).1 in
        let u = (linked-cons v m before a).0 l in
        inr (
          ap (λ (x : ℕ). (v.node x).sibling) h ∙ u.0 ∙ head-append e before (a ∷ after) ∙ ap (head_or e) (sym t),
          record { before = before; after = after; shape = t; joined-before = u.1; lacks = k; joined-after = r },
        )

module _ (v : View) (p : ℕ) where
  pub row-under : (ns : List ℕ) (e q a : ℕ) → ((row_unfinished v p ns e).missing ≡ One (under q a)) ↔ ((p ≡ q) × Gap v a ns e)
  unfolding row_unfinished
  row-under [] e q a = (λ h. (let z : ◌≡◌ {A = ℕ} 0 1 = cc in absurd (omega arith)), λ u. absurd (not-empty u.1.before u.1.after u.1.shape))
    where
      not-empty : (before after : List ℕ) → [] ≡ before ++ a ∷ after → ⊥
      not-empty [] after s = let z : ◌≡◌ {A = ℕ} 0 1 = cc in omega arith
      not-empty (x ∷ before) after s = let z : ◌≡◌ {A = ℕ} 0 1 = cc in omega arith
  row-under (n ∷ ns) e q a = go (eqb (v.node n).sibling (head_or e ns)) refl (row-under ns e q a)
    where
      go : (b : Bool) → eqb (v.node n).sibling (head_or e ns) ≡ b
          → ((row_unfinished v p ns e).missing ≡ One (under q a)) ↔ ((p ≡ q) × Gap v a ns e)
          → ((row_unfinished v p (n ∷ ns) e).missing ≡ One (under q a)) ↔ ((p ≡ q) × Gap v a (n ∷ ns) e)
      go true c ih = rw (row-yes v p n ns e c) (
        λ h. let u = ih.0 h in (u.0, gap-more v a n ns e (eqb-true _ _ c) u.1),
        λ u. ⊎_elim (λ w. absurd (w.1 (eqb-true _ _ c))) (λ w. ih.1 (u.0, w.1)) (gap-cases v a n ns e u.1),
      )
      go false c ih = rw (row-no v p n ns e c) (
        λ h. ⊎_elim (λ w. let k = under-same p n q a w.0 in (
          k.0,
          record {
            before = [];
            after = ns;
            shape = ap (λ (x : ℕ). x ∷ ns) k.1;
            joined-before = unfold linked in refl;
            lacks = rw (← k.1) (eqb-false _ _ c);
            joined-after = (row-nowhere v p ns e).0 w.1;
          },
        ))
            (λ w. (let x = w.0 in let z : ◌≡◌ {A = ℕ} 0 1 = cc in absurd (omega arith)))
            ((few-atom (under q a)).one (One (under p n)) (row_unfinished v p ns e).missing h),
        λ u. ⊎_elim (λ w. ap (add_few (One (under p n))) ((row-nowhere v p ns e).1 w.2) ∙ (λ i. One (under (u.0 i) (sym w.0 i))))
            (λ w. absurd (eqb-false _ _ c w.0)) (gap-cases v a n ns e u.1),
      )

-- ---- the row filled up

fill-long : (v : View) (ns : List ℕ) (e : ℕ) → length ns ≤ length (fill_row v ns e)
unfolding fill_row
fill-long v [] e = omega arith
fill-long v (n ∷ ns) e = go (eqb (v.node n).sibling (head_or e ns)) refl (fill-long v ns e)
  where
    go : (b : Bool) → eqb (v.node n).sibling (head_or e ns) ≡ b → length ns ≤ length (fill_row v ns e)
        → suc (length ns) ≤ length (fill_row v (n ∷ ns) e)
    go true c ih = rw (link-yes v n ns e c) (omega arith)
    go false c ih = rw (link-no v n ns e c) (omega arith)

-- a row is whole exactly if its nodes are linked
pub fill-whole : (v : View) (ns : List ℕ) (e : ℕ) → (fill_row v ns e ≡ ns) ↔ (linked v ns e ≡ true)
unfolding fill_row linked
fill-whole v [] e = (λ q. refl, λ q. refl)
fill-whole v (n ∷ ns) e = go (eqb (v.node n).sibling (head_or e ns)) refl (fill-whole v ns e)
  where
    go : (b : Bool) → eqb (v.node n).sibling (head_or e ns) ≡ b → (fill_row v ns e ≡ ns) ↔ (linked v ns e ≡ true)
        → (fill_row v (n ∷ ns) e ≡ n ∷ ns) ↔ (linked v (n ∷ ns) e ≡ true)
    go true c ih = rw (link-yes v n ns e c) (
      λ q. (linked-cons v n ns e).1 (eqb-true _ _ c, ih.0 (cons-same n n _ ns q).1),
      λ l. ap (λ (x : List ℕ). n ∷ x) (ih.1 ((linked-cons v n ns e).0 l).1),
    )
    go false c ih = rw (link-no v n ns e c)
        (λ q. absurd (omega (arith, ap length q, fill-long v ns e)), λ l. absurd (eqb-false _ _ c ((linked-cons v n ns e).0 l).0))

-- a row with one gap after a gets a's sibling there
pub fill-gap : (v : View) (a : ℕ) (ns : List ℕ) (e : ℕ) (g : Gap v a ns e) → fill_row v ns e ≡ g.before ++ a ∷ (v.node a).sibling ∷ g.after
fill-gap v a ns e g = ap (λ (l : List ℕ). fill_row v l e) g.shape ∙ go g.before g.joined-before
  where
    go : (before : List ℕ) → linked v before a ≡ true → fill_row v (before ++ a ∷ g.after) e ≡ before ++ a ∷ (v.node a).sibling ∷ g.after
    go [] l = link-no v a g.after e (ne_eqb _ _ g.lacks)
        ∙ ap (λ (x : List ℕ). a ∷ (v.node a).sibling ∷ x) ((fill-whole v g.after e).1 g.joined-after)
    go (n ∷ ns) l =
        let u = (linked-cons v n ns a).0 l in
        link-yes v n (ns ++ a ∷ g.after) e (eq-eqb _ _ (u.0 ∙ head-append e ns (a ∷ g.after))) ∙ ap (λ (x : List ℕ). n ∷ x) (go ns u.1)
