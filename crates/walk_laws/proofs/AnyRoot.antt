-- The check of a node and of those below it, and the leaves along the siblings, do not depend on the root that the reading started from.
use Rattle.std.proofs.Common.{◌≡◌, ℕ, zero, suc, List, [], ◌∷◌, refl, ap, ◌∙◌}
use Rattle.std.specs.Prelude.{None, Some}
use Rattle.model.specs.Table.{Words}
use Rattle.model.specs.Slots.{view_from}
use Rattle.model.specs.Search.{below}
use Rattle.model.specs.Reached.{kept, first_child}
use Rattle.model.specs.SoundTest.{sibling_ok, keys_ok, leaf_ok, trailing_in, own}
use Rattle.walk_laws.specs.Walk.{Visit, stands, alone_ok, fits, visits_of, visits_below, Tally, visit, fold, check}
use Rattle.walk_laws.specs.Chain.{along}

fold-same : {A : Type 0} (g h : A → Tally → Tally) → ((x : A) (s : Tally) → g x s ≡ h x s) → (xs : List A) (s : Tally)
    → fold g xs s ≡ fold h xs s
fold-same g h e [] s = refl
fold-same g h e (x ∷ xs) s = ap (fold g xs) (e x s) ∙ fold-same g h e xs (h x s)

module _ (t : Words) (r q : ℕ) where
  -- from whichever root a table is seen, the nodes along the siblings of a node are the same
  pub any-along : (c n : ℕ) → along (view_from t r) c n ≡ along (view_from t q) c n
  unfolding along
  any-along c n = refl

  any-visit : (x : Visit) (s : Tally) → visit (view_from t r) x s ≡ visit (view_from t q) x s
  unfolding visit fits stands alone_ok sibling_ok keys_ok leaf_ok own trailing_in kept below
  any-visit x None = refl
  any-visit x (Some u) = refl

  any-below : (d n : ℕ) → visits_below (view_from t r) d n ≡ visits_below (view_from t q) d n
  unfolding visits_below visits_of kept below first_child
  any-below d n = refl

  -- from whichever root a table is seen, the check of a visit gives the same
  pub any-check : (d : ℕ) (x : Visit) (s : Tally) → check (view_from t r) d x s ≡ check (view_from t q) d x s
  unfolding check
  any-check zero x s = any-visit x s
  any-check (suc d) x s =
      fold-same (check (view_from t r) d) (check (view_from t q) d) (any-check d) (visits_below (view_from t r) d x.node)
      (visit (view_from t r) x s)
      ∙ ap (λ (xs : List Visit). fold (check (view_from t q) d) xs (visit (view_from t r) x s)) (any-below d x.node)
      ∙ ap (fold (check (view_from t q) d) (visits_below (view_from t q) d x.node)) (any-visit x s)
