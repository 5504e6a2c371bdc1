-- Neighbours in a row of nodes: which node follows which, what linked and fill_row say of each two, and the one gap of a row.
use Rattle.std.proofs.Common.{◌≡◌, ℕ, Bool, true, false, eqb, ◌≢◌, ◌⊎◌, List, [], ◌∷◌, ◌++◌, sym, refl, ap, ◌∙◌, subst, inl, inr, ⊎_elim}
use Rattle.std.proofs.Common.{eqb-true}
use mathlib.Core.List.Memᴰ
use mathlib.Core.List.{Memᴰ}
use borrow.Author.Tests.{eqb-false}
use Rattle.model.specs.Slots.{View}
use Rattle.model.specs.Reached.{head_or, fill_row}
use Rattle.model.specs.SoundTest.{elem, distinct, linked}
use Rattle.view_laws.proofs.NodeViews.{sibling_of}
use Rattle.list_laws.proofs.Tools.{same-or-not}
use Rattle.list_laws.proofs.Members.{elem-none}
use Rattle.list_laws.proofs.Distinct.{distinct-cons}
use Rattle.tree_laws.proofs.Rows.{link-yes, link-no, linked-cons, head-row, head-append}
use Rattle.tree_laws.proofs.Gaps.{Gap, gap-more}

-- c comes right after a in a row that e follows
pub data Follows (e a c : ℕ) : List ℕ → Type 0 where
  here : {n : ℕ} {ns : List ℕ} → a ≡ n → c ≡ head_or e ns → Follows e a c (n ∷ ns)
  there : {n : ℕ} {ns : List ℕ} → Follows e a c ns → Follows e a c (n ∷ ns)

pub follows-in : {e a c : ℕ} {ns : List ℕ} → Follows e a c ns → Memᴰ a ns
follows-in (here p q) = Memᴰ.head p
follows-in (there f) = Memᴰ.tail (follows-in f)

pub in-follows : (e : ℕ) {a : ℕ} {ns : List ℕ} → Memᴰ a ns → (c : ℕ) × Follows e a c ns
in-follows e (Memᴰ.head {xs = ns} p) = (head_or e ns, here p refl)
in-follows e (Memᴰ.tail m) = let u = in-follows e m in (u.0, there u.1)

pub follows-cases : {e a c n : ℕ} {ns : List ℕ} → Follows e a c (n ∷ ns) → ((a ≡ n) × (c ≡ head_or e ns)) ⊎ Follows e a c ns
follows-cases (here p q) = inl (p, q)
follows-cases (there f) = inr f

pub follows-none : {e a c : ℕ} → Follows e a c [] → ⊥
follows-none f = elim f [ ]

module _ (v : View) where
  -- ---- linked rows

  pub linked-follows : {e a c : ℕ} (ns : List ℕ) → linked v ns e ≡ true → Follows e a c ns → (v.node a).sibling ≡ c
  linked-follows [] l f = absurd (follows-none f)
  linked-follows {e} {a} {c} (n ∷ ns) l f = let u = (linked-cons v n ns e).0 l in go u.0 (follows-cases f) (linked-follows ns u.1)
    where
      go : (v.node n).sibling ≡ head_or e ns → ((a ≡ n) × (c ≡ head_or e ns)) ⊎ Follows e a c ns
          → (Follows e a c ns → (v.node a).sibling ≡ c) → (v.node a).sibling ≡ c
      go s (inl w) ih = ap (sibling_of v) w.0 ∙ s ∙ sym w.1
      go s (inr k) ih = ih k

  -- ---- rows filled with what they lack

  -- a's sibling is not the next one, c
  pub record Lost (ns : List ℕ) (e a c : ℕ) : Type 0 where
    pub follows : Follows e a c ns
    pub other : (v.node a).sibling ≡ c → ⊥

  lost-later : {ns : List ℕ} {e a c : ℕ} (n : ℕ) → Lost ns e a c → Lost (n ∷ ns) e a c
  lost-later n l = record { follows = there l.follows; other = l.other }

  -- a node of the filled row is one of the row, or the sibling of one that lost it
  pub in-fill : (e : ℕ) {x : ℕ} (ns : List ℕ) → Memᴰ x (fill_row v ns e) → Memᴰ x ns
      ⊎ ((a : ℕ) × (c : ℕ) × Lost ns e a c × (x ≡ (v.node a).sibling))
  unfolding fill_row
  in-fill e [] m = inl m
  in-fill e {x} (n ∷ ns) m = go (eqb (v.node n).sibling (head_or e ns)) refl (in-fill e ns)
    where
      Fill : List ℕ → Type 0
      Fill ks = Memᴰ x ks ⊎ ((a : ℕ) × (c : ℕ) × Lost ks e a c × (x ≡ (v.node a).sibling))

      later : Fill ns → Fill (n ∷ ns)
      later (inl k) = inl (Memᴰ.tail k)
      later (inr u) = inr (u.0, u.1, lost-later n u.2, u.3)

      yes-case : (x ≡ n) ⊎ Memᴰ x (fill_row v ns e) → (Memᴰ x (fill_row v ns e) → Fill ns) → Fill (n ∷ ns)
      yes-case (inl p) ih = inl (Memᴰ.head p)
      yes-case (inr k) ih = later (ih k)

      no-case : eqb (v.node n).sibling (head_or e ns) ≡ false → (x ≡ (v.node n).sibling) ⊎ Memᴰ x (fill_row v ns e)
          → (Memᴰ x (fill_row v ns e) → Fill ns) → Fill (n ∷ ns)
      no-case t (inl p) ih = inr (n, head_or e ns, record { follows = here refl refl; other = eqb-false _ _ t }, p)
      no-case t (inr k) ih = later (ih k)

      first : eqb (v.node n).sibling (head_or e ns) ≡ false → (x ≡ n) ⊎ Memᴰ x ((v.node n).sibling ∷ fill_row v ns e)
          → (Memᴰ x (fill_row v ns e) → Fill ns) → Fill (n ∷ ns)
      first t (inl p) ih = inl (Memᴰ.head p)
      first t (inr k) ih = no-case t (Memᴰ.cases_cons k) ih

      go : (b : Bool) → eqb (v.node n).sibling (head_or e ns) ≡ b → (Memᴰ x (fill_row v ns e) → Fill ns) → Fill (n ∷ ns)
      go true t ih = yes-case (Memᴰ.cases_cons (rw (link-yes v n ns e t) at m)) ih
      go false t ih = first t (Memᴰ.cases_cons (rw (link-no v n ns e t) at m)) ih

  pub linked-fill : (e : ℕ) (ns : List ℕ) → ((a c : ℕ) → Lost ns e a c → (v.node (v.node a).sibling).sibling ≡ c)
      → linked v (fill_row v ns e) e ≡ true
  unfolding fill_row linked
  linked-fill e [] h = refl
  linked-fill e (n ∷ ns) h = go (eqb (v.node n).sibling (head_or e ns)) refl (linked-fill e ns (λ a c l. h a c (lost-later n l)))
    where
      go : (b : Bool) → eqb (v.node n).sibling (head_or e ns) ≡ b → linked v (fill_row v ns e) e ≡ true
          → linked v (fill_row v (n ∷ ns) e) e ≡ true
      go true t ih = rw (link-yes v n ns e t) ((linked-cons v n (fill_row v ns e) e).1 (eqb-true _ _ t ∙ sym (head-row v ns e e), ih))
      go false t ih =
          let l : Lost (n ∷ ns) e n (head_or e ns) = record { follows = here refl refl; other = eqb-false _ _ t } in
          rw (link-no v n ns e t)
          ((linked-cons v n ((v.node n).sibling ∷ fill_row v ns e) e).1
          (refl, (linked-cons v (v.node n).sibling (fill_row v ns e) e).1 (h n (head_or e ns) l ∙ sym (head-row v ns e e), ih)))

  -- ---- linked rows lose no sibling, and rows with one gap lose one

  pub linked-lost : {e a c : ℕ} (ns : List ℕ) → linked v ns e ≡ true → Lost ns e a c → ⊥
  linked-lost ns l o = o.other (linked-follows ns l o.follows)

  pub lost-linked : (e : ℕ) (ns : List ℕ) → ((a c : ℕ) → Lost ns e a c → ⊥) → linked v ns e ≡ true
  lost-linked e [] h = unfold linked in refl
  lost-linked e (n ∷ ns) h =
      ⊎_elim (λ q. (linked-cons v n ns e).1 (q, lost-linked e ns (λ a c l. h a c (lost-later n l))))
      (λ z. absurd (h n (head_or e ns) (record { follows = here refl refl; other = z }))) (same-or-not (v.node n).sibling (head_or e ns))

  follows-at : (e a : ℕ) (before after : List ℕ) → Follows e a (head_or e after) (before ++ a ∷ after)
  follows-at e a [] after = here refl refl
  follows-at e a (n ∷ before) after = there (follows-at e a before after)

  pub gap-lost : {e a : ℕ} (ns : List ℕ) (g : Gap v a ns e) → Lost ns e a (head_or e g.after)
  gap-lost {e} {a} ns g =
      record { follows = subst (Follows e a (head_or e g.after)) (sym g.shape) (follows-at e a g.before g.after); other = g.lacks }

  only-middle : {e a b c : ℕ} (before after : List ℕ) → linked v before a ≡ true → linked v after e ≡ true
      → Lost (before ++ a ∷ after) e b c → b ≡ a
  only-middle [] after l r o =
      ⊎_elim (λ w. w.0) (λ k. absurd (linked-lost after r (record { follows = k; other = o.other }))) (follows-cases o.follows)
  only-middle {e} {a} (n ∷ before) after l r o =
      let u = (linked-cons v n before a).0 l in
      ⊎_elim (λ w. absurd (o.other (ap (sibling_of v) w.0 ∙ u.0 ∙ head-append e before (a ∷ after) ∙ sym w.1)))
      (λ k. only-middle before after u.1 r (record { follows = k; other = o.other })) (follows-cases o.follows)

  pub gap-only : {e a b c : ℕ} (ns : List ℕ) → Gap v a ns e → Lost ns e b c → b ≡ a
  gap-only {e} {a} {b} {c} ns g o =
      only-middle g.before g.after g.joined-before g.joined-after (subst (λ (ks : List ℕ). Lost ks e b c) g.shape o)

  pub lost-gap : {e a c : ℕ} (ns : List ℕ) → distinct ns ≡ true → Lost ns e a c → ((b d : ℕ) → Lost ns e b d → b ≡ a) → Gap v a ns e
  lost-gap [] d o only = absurd (follows-none o.follows)
  lost-gap {e} {a} {c} (n ∷ ns) d o only = let u =
      (distinct-cons n ns).0 d in go (same-or-not (v.node n).sibling (head_or e ns)) u.0 (lost-gap ns u.1)
    where
      later : (v.node n).sibling ≡ head_or e ns → Lost ns e a c
      later q = ⊎_elim (λ w. absurd (o.other (ap (sibling_of v) w.0 ∙ q ∙ sym w.1))) (λ k. record { follows = k; other = o.other })
          (follows-cases o.follows)

      go : ((v.node n).sibling ≡ head_or e ns) ⊎ ((v.node n).sibling ≢ head_or e ns) → elem n ns ≡ false
          → (Lost ns e a c → ((b d : ℕ) → Lost ns e b d → b ≡ a) → Gap v a ns e) → Gap v a (n ∷ ns) e
      go (inl q) x ih = gap-more v a n ns e q (ih (later q) (λ b d l. only b d (lost-later n l)))
      go (inr z) x ih =
          let s : n ≡ a = only n (head_or e ns) (record { follows = here refl refl; other = z }) in
          record {
            before = [];
            after = ns;
            shape = ap (λ (m : ℕ). m ∷ ns) s;
            joined-before = unfold linked in refl;
            lacks = λ q. z (ap (sibling_of v) s ∙ q);
            joined-after = lost-linked e ns
                (λ b d l. (elem-none n ns).0 x (Memᴰ.cast (s ∙ sym (only b d (lost-later n l))) (follows-in l.follows)));
          }
