-- What a run of visits comes to: each fits, and there are not too many.
use Rattle.std.proofs.Common.{◌≡◌, ℕ, zero, suc, ◌+◌, ◌<◌, ◌≤◌, Bool, true, false, cond, ◌&&◌, ltb, leb, List, [], ◌∷◌, ◌++◌, length, sym}
use Rattle.std.proofs.Common.{refl, ap, ◌∙◌, add-zero, add-suc, suc-add, arith, ltb-false, ltb-true, le-ltb, lt-ltb, le-leb}
use mathlib.Core.Bool.{and-false}
use borrow.Author.Tests.{lt-leb}
use Rattle.std.specs.Prelude.{None, Some}
use Rattle.model.specs.declared.Unfinished.{Unfinished}
use Rattle.model.specs.Slots.{View}
use Rattle.model.specs.Reached.{flat}
use Rattle.model.specs.SoundTest.{all, together, own}
use Rattle.walk_laws.specs.Walk.{Visit, fits, visits_below, Tally, tally, visit, fold, check}
use Rattle.walk_laws.proofs.Sums.{joint, sum, unit-right}

-- the visits that a check makes, in order
module _ (v : View) where
  -- visit x, then the visits below its node on d levels, each one followed by those below it
  unfoldable pub visits : ℕ → Visit → List Visit
  visits zero x = x ∷ []
  visits (suc d) x = x ∷ flat (visits d) (visits_below v d x.node)

fold-append {ℓ} : {A : Type ℓ} (g : A → Tally → Tally) (xs ys : List A) (s : Tally) → fold g (xs ++ ys) s ≡ fold g ys (fold g xs s)
fold-append g [] ys s = refl
fold-append g (x ∷ xs) ys s = fold-append g xs ys (g x s)

fold-flat {ℓ} : {A B : Type ℓ} (g : B → Tally → Tally) (k : A → Tally → Tally) (h : A → List B) (xs : List A) (s : Tally)
    → ((x : A) (s : Tally) → k x s ≡ fold g (h x) s) → fold k xs s ≡ fold g (flat h xs) s
unfolding flat
fold-flat g k h [] s e = refl
fold-flat g k h (x ∷ xs) s e = fold-flat g k h xs (k x s) e ∙ ap (fold g (flat h xs)) (e x s) ∙ sym (fold-append g (h x) (flat h xs) s)

-- the check is the fold of the single visit over all visits in their order
pub check-fold : (v : View) (d : ℕ) (x : Visit) (s : Tally) → check v d x s ≡ fold (visit v) (visits v d x) s
unfolding check visits
check-fold v zero x s = refl
check-fold v (suc d) x s = fold-flat (visit v) (check v d) (visits v d) (visits_below v d x.node) (visit v x s) (check-fold v d)

-- ---- one visit

-- what a visit finds unfinished
unfoldable pub met : View → Visit → Unfinished
met v x = together x.way (own v x.node)

-- a visit that fits, with fewer than N before it, adds 1 to the count and adds what it meets unfinished
pub visit-yes : (v : View) (x : Visit) (c : ℕ) (u : Unfinished) → fits v x ≡ true → c < v.nodes → visit v x (tally c u)
    ≡ tally (suc c) (together u (met v x))
unfolding visit met
visit-yes v x c u e l = rw (e, lt-ltb c v.nodes l, visit)

-- a visit that does not fit is refused
pub visit-unfit : (v : View) (x : Visit) (s : Tally) → fits v x ≡ false → visit v x s ≡ None
unfolding visit
visit-unfit v x None e = refl
visit-unfit v x (Some s) e = rw (e, visit)

-- with N nodes visited a further visit is refused
pub visit-over : (v : View) (x : Visit) (c : ℕ) (u : Unfinished) → v.nodes ≤ c → visit v x (tally c u) ≡ None
unfolding visit
visit-over v x c u l = rw (le-ltb c v.nodes l, and-false (fits v x), visit)

-- ---- a run of visits

-- once a visit is refused, the whole is
pub fold-unsound : (v : View) (xs : List Visit) → fold (visit v) xs None ≡ None
unfolding visit
fold-unsound v [] = refl
fold-unsound v (x ∷ xs) = fold-unsound v xs

unfoldable pub allowed : View → List Visit → ℕ → Bool
allowed v xs c = all (fits v) xs && leb (c + length xs) v.nodes

unfoldable pub outcome : View → List Visit → ℕ → Unfinished → Tally
outcome v xs c u = cond (allowed v xs c) (tally (c + length xs) (together u (sum joint (met v) xs))) None

outcome-refused : (v : View) (xs : List Visit) (c : ℕ) (u : Unfinished) → allowed v xs c ≡ false → outcome v xs c u ≡ None
unfolding outcome
outcome-refused v xs c u e = rw e

pub fold-outcome : (v : View) (xs : List Visit) (c : ℕ) (u : Unfinished) → c ≤ v.nodes → fold (visit v) xs (tally c u) ≡ outcome v xs c u
fold-outcome v [] c u h = unfold outcome in unfold allowed in unfold all in rw (add-zero c, le-leb c v.nodes h, unit-right joint u)
fold-outcome v (x ∷ xs) c u h = go (fits v x) (ltb c v.nodes) refl refl (fold-outcome v xs (suc c) (together u (met v x)))
  where
    go : (a b : Bool) → fits v x ≡ a → ltb c v.nodes ≡ b
        → (suc c ≤ v.nodes → fold (visit v) xs (tally (suc c) (together u (met v x))) ≡ outcome v xs (suc c) (together u (met v x)))
        → fold (visit v) (x ∷ xs) (tally c u) ≡ outcome v (x ∷ xs) c u
    go true true e l ih =
        let less = ltb-true c v.nodes l in
        ap (fold (visit v) xs) (visit-yes v x c u e less) ∙ ih less
        ∙ (unfold outcome in unfold allowed in unfold all in rw
        (e, suc-add c (length xs), add-suc c (length xs), joint.assoc u (met v x) (sum joint (met v) xs)))
    go true false e l ih =
        let more = ltb-false c v.nodes l in
        let over : allowed v (x ∷ xs) c ≡ false = unfold allowed in rw (lt-leb (c + suc (length xs)) v.nodes (omega arith), and-false) in
        ap (fold (visit v) xs) (visit-over v x c u more) ∙ fold-unsound v xs ∙ sym (outcome-refused v (x ∷ xs) c u over)
    go false b e l ih =
        ap (fold (visit v) xs) (visit-unfit v x (tally c u) e) ∙ fold-unsound v xs
        ∙ sym (outcome-refused v (x ∷ xs) c u (unfold allowed in unfold all in rw e))
