-- The next key up, a leaf a turn: x is leaf n as it was read, y its sibling.
use Rattle.std.proofs.Common.{◌≡◌, ℕ, zero, suc, ◌-◌, ◌<◌, ◌≤◌, Bool, true, false, cond, eqb, sym, refl, ap, ◌∙◌, arith, eq-eqb, ne_eqb}
use mathlib.Core.Bool.{false≢true}
use Rattle.std.specs.Prelude.{Option, Some, None, is_some}
use Rattle.model.specs.declared.Answer.{Answer}
use Rattle.model.specs.declared.Answer.TheVariants.{Absent, Refused}
use Rattle.model.specs.declared.Node.{Node}
use Rattle.model.specs.Table.{Words, node}
use Rattle.model.specs.Slots.{View, view, used}
use Rattle.model.specs.Search.{below, on_level, passes, kept, first_above, absent_or, next_from, Next}
use Rattle.slots.specs.Scan.{shown_from, keeps, kept_of}
use Rattle.slots.proofs.Kept.{all-kept}
use Rattle.search.specs.Descent.{read_if}
use Rattle.search.proofs.Standing.{not-read, was-read}

-- ---- one leaf

absent-last : (x : Next) → absent_or x (Absent None) ≡ Absent x
absent-last (Some j) = refl
absent-last None = refl

-- no leaf more may be entered
pub too-many : (v : View) (c n k : ℕ) → c ≤ 0 → Refused 3 ≡ next_from v c n k
unfolding next_from
too-many v zero n k h = refl
too-many v (suc c) n k h = absurd (omega arith)

-- what a leaf on level 0 answers, with c leaves more after it
entered : (v : View) (c n k : ℕ) (b : Bool) → passes v 0 n ≡ b
    → next_from v (suc c) n k
    ≡ cond b (absent_or (first_above k (kept v n))
    (elim (eqb (v.node n).sibling 0) [ true ↦ Absent None | false ↦ next_from v c (v.node n).sibling k ])) (Refused 3)
unfolding next_from
entered v c n k true e = rw (e, next_from)
entered v c n k false e = rw (e, next_from)

module _ (v : View) (c n k : ℕ) (some : 0 < c) (on : on_level v 0 n ≡ true) where
  one : suc (c - 1) ≡ c
  one = omega arith

  next-last : (v.node n).sibling ≡ 0 → Absent (first_above k (kept v n)) ≡ next_from v c n k
  unfolding passes
  next-last e =
      let b = eq-eqb (v.node n).sibling 0 e in
      sym (entered v (c - 1) n k true (rw (on, b)) ∙ rw b (absent-last (first_above k (kept v n)))) ∙ ap (λ (d : ℕ). next_from v d n k) one

  module _ (z : (v.node n).sibling ≡ 0 → ⊥) where
    next-lost : on_level v 0 (v.node n).sibling ≡ false → Refused 3 ≡ next_from v c n k
    unfolding passes
    next-lost e = sym (entered v (c - 1) n k false (rw (on, ne_eqb (v.node n).sibling 0 z, e))) ∙ ap (λ (d : ℕ). next_from v d n k) one

    next-later : on_level v 0 (v.node n).sibling ≡ true
        → absent_or (first_above k (kept v n)) (next_from v (c - 1) (v.node n).sibling k) ≡ next_from v c n k
    unfolding passes
    next-later e =
        let b = ne_eqb (v.node n).sibling 0 z in
        sym (entered v (c - 1) n k true (rw (on, b, e)) ∙ rw b) ∙ ap (λ (d : ℕ). next_from v d n k) one

-- ---- from the records

-- the kept slots
kept-read : (t : Words) (n : ℕ) (x y : Node) → x ≡ node t n → y ≡ node t x.sibling
    → kept_of x.sibling y.fence (shown_from x.left x.slots 0) ≡ kept (view t) n
unfolding kept below keeps used
kept-read t n x y e q =
    ap (λ (w : Node). kept_of x.sibling w.fence (shown_from x.left x.slots 0)) q
    ∙ ap (λ (w : Node). kept_of w.sibling (node t w.sibling).fence (shown_from w.left w.slots 0)) e

-- without a sibling
kept-last : (t : Words) (n : ℕ) (x : Node) → x ≡ node t n → x.sibling ≡ 0 → kept_of 0 0 (shown_from x.left x.slots 0) ≡ kept (view t) n
kept-last t n x e z =
    let ss = shown_from x.left x.slots 0 in
    all-kept 0 ss ∙ sym (all-kept (node t x.sibling).fence ss)
    ∙ ap (λ (s : ℕ). kept_of s (node t x.sibling).fence ss) (sym z) ∙ kept-read t n x (node t x.sibling) e refl

-- The turn of the loop at leaf n, which is x, with c leaves that may be entered: what is looked for from the first leaf on is then r.
pub record Turn (t : Words) (k : ℕ) (x : Node) (c : ℕ) (r : Answer) : Type 0 where
  pub at : ℕ
  pub read : x ≡ node t at
  pub on : on_level (view t) 0 at ≡ true
  pub rest : next_from (view t) c at k ≡ r

pub first-turn : (t : Words) (k n c : ℕ) (x : Node) → on_level (view t) 0 n ≡ true → x ≡ node t n → Turn t k x c (next_from (view t) c n k)
first-turn t k n c x o e = record { at = n; read = e; on = o; rest = refl }

module _ (t : Words) (k : ℕ) (x : Node) (c : ℕ) (r : Answer) (u : Turn t k x c r) where
  sib : x.sibling ≡ (node t u.at).sibling
  sib = ap (λ (w : Node). w.sibling) u.read

  pub turns-over : c ≤ 0 → Refused 3 ≡ r
  turns-over h = too-many (view t) c u.at k h ∙ u.rest

  module _ (some : 0 < c) where
    pub turn-last : x.sibling ≡ 0 → (y : Next) → y ≡ first_above k (kept_of 0 0 (shown_from x.left x.slots 0)) → Absent y ≡ r
    turn-last z y e = ap Absent (e ∙ ap (first_above k) (kept-last t u.at x u.read z))
        ∙ next-last (view t) c u.at k some u.on (sym sib ∙ z) ∙ u.rest

    module _ (z : x.sibling ≡ 0 → ⊥) (o : Option Node) (i : o ≡ read_if (on_level (view t) 0 x.sibling) (node t x.sibling)) where
      w : (node t u.at).sibling ≡ 0 → ⊥
      w q = z (sib ∙ q)

      pub turn-lost : o ≡ None → Refused 3 ≡ r
      turn-lost e = next-lost (view t) c u.at k some u.on w (rw sib at (not-read _ (node t x.sibling) (sym i ∙ e))) ∙ u.rest

      module _ (y : Node) (e : o ≡ Some y) (a : Next)
          (f : a ≡ first_above k (kept_of x.sibling y.fence (shown_from x.left x.slots 0))) where
        on-sib : on_level (view t) 0 x.sibling ≡ true
        on-sib = (was-read _ (node t x.sibling) y (sym i ∙ e)).0

        is-sib : y ≡ node t x.sibling
        is-sib = (was-read (on_level (view t) 0 x.sibling) (node t x.sibling) y (sym i ∙ e)).1

        later : absent_or a (next_from (view t) (c - 1) x.sibling k) ≡ r
        later =
            ap (λ (o : Next). absent_or o (next_from (view t) (c - 1) x.sibling k))
            (f ∙ ap (first_above k) (kept-read t u.at x y u.read is-sib))
            ∙ ap (λ (m : ℕ). absent_or (first_above k (kept (view t) u.at)) (next_from (view t) (c - 1) m k)) sib
            ∙ next-later (view t) c u.at k some u.on w (rw sib at on-sib) ∙ u.rest

        pub turn-found : is_some a ≡ true → Absent a ≡ r
        turn-found p = go a later p
          where
            go : (b : Next) → absent_or b (next_from (view t) (c - 1) x.sibling k) ≡ r → is_some b ≡ true → Absent b ≡ r
            go None q p = absurd (false≢true p)
            go (Some j) q p = q

        pub turn-on : is_some a ≡ false → Turn t k y (c - 1) r
        turn-on p = record { at = x.sibling; read = is-sib; on = on-sib; rest = go a later p }
          where
            go : (b : Next) → absent_or b (next_from (view t) (c - 1) x.sibling k) ≡ r → is_some b ≡ false
                → next_from (view t) (c - 1) x.sibling k ≡ r
            go None q p = q
            go (Some j) q p = absurd (false≢true (sym p))
