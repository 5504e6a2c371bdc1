-- The request's recursion and the tour as a list of meetings enter the same nodes in the same order, from any words.
use Rattle.std.proofs.Common.{◌≡◌, ℕ, zero, suc, ◌+◌, ◌*◌, ◌≤◌, Bool, true, false, List, [], ◌∷◌, ◌++◌, length, drop, sym, refl, ap, ◌∙◌}
use Rattle.std.proofs.Common.{subst, append-nil, arith, length-append, drop_at}
use Rattle.model.specs.Table.{Words, at, nodes, root}
use Rattle.model.specs.Salvage.{Meeting, meetings, may_enter, visit, start, entered_from, entered}
use Rattle.tour_laws.specs.Visits.{toured_from}
use Rattle.tour_laws.proofs.Ends.{Numbers, no-numbers, need, need-yes, need-no, from-numbers}
use Rattle.tour_laws.proofs.Remaining.{remaining, remaining-none, remaining-no, remaining-enter, more-last, toured-start, none-toured}

module _ (t : Words) where
  visit-yes : (f : ℕ) (x : Meeting) (xs : List Meeting) (es : List ℕ) → may_enter t x es ≡ true → visit t (suc f) (x ∷ xs) es
      ≡ visit t f xs (visit t f (meetings t x.node) (es ++ x.node ∷ []))
  unfolding visit
  visit-yes f x xs es c = rw (c, visit)

  visit-no : (f : ℕ) (x : Meeting) (xs : List Meeting) (es : List ℕ) → may_enter t x es ≡ false
      → visit t (suc f) (x ∷ xs) es ≡ visit t f xs es
  unfolding visit
  visit-no f x xs es c = rw (c, visit)

  -- all that is entered in the end
  abbrev final : List Meeting → List ℕ → List ℕ
  final todo es = es ++ remaining t todo es

  final-no : (x : Meeting) (todo : List Meeting) (es : List ℕ) → may_enter t x es ≡ false → final (x ∷ todo) es ≡ final todo es
  final-no x todo es c = ap (λ (l : List ℕ). es ++ l) (remaining-no t x todo es c)

  record Visited (f : ℕ) (xs : List Meeting) (es : List ℕ) : Type 0 where
    same : (todo : List Meeting) → final (xs ++ todo) es ≡ final todo (visit t f xs es)
    numbers : Numbers t (visit t f xs es)
    more : length es ≤ length (visit t f xs es)

  none : (f : ℕ) (es : List ℕ) → Numbers t es → Visited f [] es
  unfolding visit
  none zero es u = record { same = λ todo. refl; numbers = u; more = omega arith }
  none (suc f) es u = record { same = λ todo. refl; numbers = u; more = omega arith }

  need-part : (xs ys : List Meeting) (es : List ℕ) → need t xs es ≤ need t (xs ++ ys) es
  unfolding need
  need-part xs ys es = omega (arith, length-append xs ys)

  need-rest : (xs ys : List Meeting) (es fs : List ℕ) → length es ≤ length fs → need t ys fs ≤ need t (xs ++ ys) es
  unfolding need
  need-rest xs ys es fs h = omega (arith, length-append xs ys)

  -- a number at the end of a list, or at its head
  need-last : (n : ℕ) (xs : List Meeting) (es : List ℕ) → need t xs (es ++ n ∷ []) ≡ need t xs (n ∷ es)
  unfolding need
  need-last n xs es = omega (arith, length-append es (n ∷ []))

  visits : (f : ℕ) (xs : List Meeting) (es : List ℕ) → Numbers t es → need t xs es ≤ f → Visited f xs es
  visits zero [] es u h = none zero es u
  visits (suc f) [] es u h = none (suc f) es u
  visits zero (x ∷ xs) es u h = absurd (omega (arith, need-no t x xs es))
  visits (suc f) (x ∷ xs) es u h = go (may_enter t x es) refl (visits f (meetings t x.node) (es ++ x.node ∷ [])) (λ fs. visits f xs fs)
    where
      go : (b : Bool) → may_enter t x es ≡ b
          → (Numbers t (es ++ x.node ∷ []) → need t (meetings t x.node) (es ++ x.node ∷ []) ≤ f
          → Visited f (meetings t x.node) (es ++ x.node ∷ []))
          → ((fs : List ℕ) → Numbers t fs → need t xs fs ≤ f → Visited f xs fs) → Visited (suc f) (x ∷ xs) es
      go true c p q =
          let w = need-yes t x xs es c u in
          let k = need-last x.node (meetings t x.node ++ xs) es in
          let a = p (more-last t x es c u) (omega (arith, w, k, need-part (meetings t x.node) xs (es ++ x.node ∷ []))) in
          let fs = visit t f (meetings t x.node) (es ++ x.node ∷ []) in
          let b = q fs a.numbers (omega (arith, w, k, need-rest (meetings t x.node) xs (es ++ x.node ∷ []) fs a.more)) in
          let e = visit-yes f x xs es c in
          record {
            same = λ todo. sym (remaining-enter t x (xs ++ todo) es u c) ∙ a.same (xs ++ todo) ∙ b.same todo ∙ ap (final todo) (sym e);
            numbers = subst (λ (l : List ℕ). Numbers t l) (sym e) b.numbers;
            more = omega (arith, a.more, b.more, ap length e, length-append es (x.node ∷ []));
          }
      go false c p q =
          let b = q es u (omega (arith, need-no t x xs es)) in
          let e = visit-no f x xs es c in
          record {
            same = λ todo. final-no x (xs ++ todo) es c ∙ b.same todo ∙ ap (final todo) (sym e);
            numbers = subst (λ (l : List ℕ). Numbers t l) (sym e) b.numbers;
            more = omega (arith, b.more, ap length e);
          }

-- ---- from a root, after nodes entered before

module _ (t : Words) (r : ℕ) (es : List ℕ) (u : Numbers t es) where
  -- with any fuel that suffices
  root-visits : (f : ℕ) → 2 + 14 * nodes t ≤ f → visit t f (start t r) es ≡ es ++ remaining t (start t r) es
  root-visits f h =
      let enough : need t (start t r) es ≤ f = unfold need in omega arith in
      let v = visits t f (start t r) es u enough in
      sym (ap (λ (l : List Meeting). final t l es) (sym (append-nil (start t r))) ∙ v.same []
      ∙ ap (λ (l : List ℕ). visit t f (start t r) es ++ l) (remaining-none t (visit t f (start t r) es))
      ∙ append-nil (visit t f (start t r) es))

  -- More fuel changes nothing: the recursion ends by itself.
  pub more-fuel : (k : ℕ) → visit t (2 + 14 * nodes t + k) (start t r) es ≡ visit t (2 + 14 * nodes t) (start t r) es
  more-fuel k = root-visits (2 + 14 * nodes t + k) (omega arith) ∙ sym (root-visits (2 + 14 * nodes t) (omega arith))

  -- the nodes entered from a root, after es, are those that remain from its meeting
  pub remaining-start : entered_from t r es ≡ remaining t (start t r) es
  unfolding entered_from
  remaining-start = ap (drop (length es)) (root-visits (2 + 14 * nodes t) (omega arith))
      ∙ drop_at es (remaining t (start t r) es) (length es) refl

  -- The recursion enters the nodes of the tour as a list, in its order.
  pub tour-visits : entered_from t r es ≡ toured_from t r es
  tour-visits = remaining-start ∙ sym (toured-start t r es u)

-- ---- for both collections

pub entered-one : (t : Words) → entered 1 t ≡ toured_from t (root t) []
unfolding entered
entered-one t = tour-visits t (root t) [] (no-numbers t)

-- the nodes entered in collection 1 are different numbers from 1 to N
pub first-numbers : (t : Words) → Numbers t (entered 1 t)
first-numbers t = rw (entered-one t)
    (subst (λ (l : List ℕ). Numbers t l) (append-nil (toured_from t (root t) [])) (from-numbers t (root t) [] (no-numbers t)))

pub entered-two : (t : Words) → entered 2 t ≡ toured_from t (at t 3) (entered 1 t)
unfolding entered
entered-two t = tour-visits t (at t 3) (entered 1 t) (first-numbers t)

-- Each node is entered once, for one of the collections, and its number is in 1 to N.
pub entered-once : (t : Words) → Numbers t (entered 2 t ++ entered 1 t)
entered-once t = rw (entered-two t) (from-numbers t (at t 3) (entered 1 t) (first-numbers t))

-- Without collection 2 nothing is entered for it.
pub none-entered : (t : Words) → at t 3 ≡ 0 → entered 2 t ≡ []
none-entered t z = entered-two t ∙ ap (λ (r : ℕ). toured_from t r (entered 1 t)) z ∙ none-toured t (entered 1 t)
