-- The tour without fuel: what is entered from any list of meetings, by its equations. For the code's loop.
use Rattle.std.proofs.Common.{◌≡◌, ℕ, zero, suc, ◌+◌, ◌-◌, ◌*◌, Bool, true, false, ◌||◌, eqb, List, [], ◌∷◌, ◌++◌, length, sym, refl, ap}
use Rattle.std.proofs.Common.{◌∙◌, append_assoc, append-nil, arith, length-append}
use Rattle.model.specs.Table.{Words, nodes}
use Rattle.model.specs.Slots.{node_view}
use Rattle.model.specs.SoundTest.{elem}
use Rattle.list_laws.proofs.Tools.{refuted, Each-append}
use Rattle.list_laws.proofs.Members.{elem-join}
use Rattle.list_laws.proofs.Distinct.{UpTo, distinct-cons, distinct-middle}
use Rattle.tree_laws.proofs.Rows.{range-iff}
use Rattle.model.specs.Salvage.{Meeting, meet, meetings, may_enter, start}
use Rattle.tour_laws.specs.Visits.{order, toured_from}
use Rattle.tour_laws.proofs.Steps.{order-yes, order-no, may-iff}
use Rattle.tour_laws.proofs.Ends.{Numbers, more-numbers, need, need-yes, need-no, order-same, order-elem}

-- a number at the end of a list, or at its head
pub elem-last : (n m : ℕ) (es : List ℕ) → elem n (es ++ m ∷ []) ≡ elem n (m ∷ es)
unfolding elem
elem-last n m es = elem-join n es (m ∷ []) ∙ swap (elem n es) (eqb n m)
  where
    swap : (a b : Bool) → (a || (b || false)) ≡ (b || a)
    swap true true = refl
    swap true false = refl
    swap false true = refl
    swap false false = refl

-- the nodes entered from here on
unfoldable pub remaining : Words → List Meeting → List ℕ → List ℕ
remaining t todo es = order t (need t todo es) todo es

module _ (t : Words) where
  pub order-none : (f : ℕ) (es : List ℕ) → order t f [] es ≡ []
  unfolding order
  order-none zero es = refl
  order-none (suc f) es = refl

  -- 0 is no root: without collection 2 nothing is entered for it
  pub none-toured : (es : List ℕ) → toured_from t 0 es ≡ []
  unfolding toured_from
  none-toured es =
      let x = meet 0 (node_view t 0).level in
      let e : 2 + 14 * nodes t ≡ suc (1 + 14 * nodes t) = omega arith in
      ap (λ (f : ℕ). order t f (x ∷ []) es) e
      ∙ order-no t (1 + 14 * nodes t) x [] es
      (refuted (may_enter t x es) (λ h. let u = (range-iff (nodes t) 0).0 ((may-iff t x es).0 h).0 in omega (arith, u.0)))
      ∙ order-none (1 + 14 * nodes t) es

  -- with no meetings left no node is entered
  pub remaining-none : (es : List ℕ) → remaining t [] es ≡ []
  unfolding remaining
  remaining-none es = order-none (need t [] es) es

  pub remaining-yes : (x : Meeting) (todo : List Meeting) (es : List ℕ) → Numbers t es → may_enter t x es ≡ true → remaining t (x ∷ todo) es
      ≡ x.node ∷ remaining t (meetings t x.node ++ todo) (x.node ∷ es)
  unfolding remaining
  remaining-yes x todo es u c =
      let w = need-yes t x todo es c u in
      let k = need t todo es in
      ap (λ (f : ℕ). order t f (x ∷ todo) es) (sym (need-no t x todo es))
      ∙ order-yes t k x todo es c
      ∙ ap (λ (l : List ℕ). x.node ∷ l)
      (order-same t k _ (meetings t x.node ++ todo) (x.node ∷ es) (more-numbers t x es c u)
      (omega (arith, w, need-no t x todo es)) (omega arith))

  -- a meeting that may not be entered is passed over
  pub remaining-no : (x : Meeting) (todo : List Meeting) (es : List ℕ) → may_enter t x es ≡ false
      → remaining t (x ∷ todo) es ≡ remaining t todo es
  unfolding remaining
  remaining-no x todo es c = ap (λ (f : ℕ). order t f (x ∷ todo) es) (sym (need-no t x todo es)) ∙ order-no t (need t todo es) x todo es c

  pub toured-start : (r : ℕ) (es : List ℕ) → Numbers t es → toured_from t r es ≡ remaining t (start t r) es
  unfolding remaining toured_from
  toured-start r es u = order-same t (2 + 14 * nodes t) _ (start t r) es u (unfold need in omega arith) (omega arith)

  -- ---- with the nodes entered in their order

  -- with a node more that may be entered, the nodes entered are still different numbers from 1 to N
  pub more-last : (x : Meeting) (es : List ℕ) → may_enter t x es ≡ true → Numbers t es → Numbers t (es ++ x.node ∷ [])
  more-last x es c u =
      let m = more-numbers t x es c u in
      let d = (distinct-cons x.node es).0 m.apart in
      record {
        apart = (distinct-middle x.node es []).1 (rw (append-nil es) d.0, rw (append-nil es) d.1);
        range = Each-append (UpTo (nodes t)) es (x.node ∷ []) u.range (m.range.0, tt);
      }

  remaining-same : (todo : List Meeting) (es fs : List ℕ) → length es ≡ length fs → ((n : ℕ) → elem n es ≡ elem n fs)
      → remaining t todo es ≡ remaining t todo fs
  unfolding remaining need
  remaining-same todo es fs l h =
      ap (λ (k : ℕ). order t (length todo + 14 * (nodes t - k)) todo es) l
      ∙ order-elem t (length todo + 14 * (nodes t - length fs)) todo es fs h

  -- a node is entered: it comes last
  pub remaining-enter : (x : Meeting) (todo : List Meeting) (es : List ℕ) → Numbers t es → may_enter t x es ≡ true
      → (es ++ x.node ∷ []) ++ remaining t (meetings t x.node ++ todo) (es ++ x.node ∷ []) ≡ es ++ remaining t (x ∷ todo) es
  remaining-enter x todo es u c =
      append_assoc es (x.node ∷ []) _
      ∙ ap (λ (l : List ℕ). es ++ x.node ∷ l)
      (remaining-same (meetings t x.node ++ todo) (es ++ x.node ∷ []) (x.node ∷ es) (length-append es (x.node ∷ []) ∙ omega arith)
      (λ n. elem-last n x.node es))
      ∙ ap (λ (l : List ℕ). es ++ l) (sym (remaining-yes x todo es u c))
