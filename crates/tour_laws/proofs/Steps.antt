-- The steps of the tour.
use Rattle.std.proofs.Common.{◌≡◌, ℕ, suc, true, false, ◌↔◌, List, ◌∷◌, ◌++◌}
use Rattle.model.specs.Table.{Words, in_range, nodes}
use Rattle.model.specs.Slots.{node_view}
use Rattle.model.specs.SoundTest.{elem}
use Rattle.model.specs.Salvage.{Meeting, meetings, may_enter}
use Rattle.list_laws.proofs.Tools.{decode, not-iff}
use Rattle.tour_laws.specs.Visits.{order, unmet}

module _ (t : Words) where
  pub order-yes : (f : ℕ) (x : Meeting) (todo : List Meeting) (es : List ℕ) → may_enter t x es ≡ true → order t (suc f) (x ∷ todo) es
      ≡ x.node ∷ order t f (meetings t x.node ++ todo) (x.node ∷ es)
  unfolding order
  order-yes f x todo es h = rw (h, order)

  pub order-no : (f : ℕ) (x : Meeting) (todo : List Meeting) (es : List ℕ) → may_enter t x es ≡ false
      → order t (suc f) (x ∷ todo) es ≡ order t f todo es
  unfolding order
  order-no f x todo es h = rw (h, order)

  pub unmet-yes : (f : ℕ) (x : Meeting) (todo : List Meeting) (es : List ℕ) → may_enter t x es ≡ true → unmet t (suc f) (x ∷ todo) es
      ≡ unmet t f (meetings t x.node ++ todo) (x.node ∷ es)
  unfolding unmet
  unmet-yes f x todo es h = rw (h, unmet)

  pub unmet-no : (f : ℕ) (x : Meeting) (todo : List Meeting) (es : List ℕ) → may_enter t x es ≡ false
      → unmet t (suc f) (x ∷ todo) es ≡ unmet t f todo es
  unfolding unmet
  unmet-no f x todo es h = rw (h, unmet)

  -- what a node must have to be entered
  pub may-iff : (x : Meeting) (es : List ℕ)
      → (may_enter t x es ≡ true) ↔ ((in_range (nodes t) x.node ≡ true) × ((node_view t x.node).level ≡ x.level) × (elem x.node es ≡ false))
  unfolding may_enter
  may-iff x es = (
    λ h. let u = simp decode at h in (u.0, u.1.0, (not-iff _).0 u.1.1),
    λ u. simp decode (u.0, (u.1, (not-iff _).1 u.2)),
  )

  -- only whether it was entered before counts
  pub may-elem : (x : Meeting) (es fs : List ℕ) → elem x.node es ≡ elem x.node fs → may_enter t x es ≡ may_enter t x fs
  unfolding may_enter
  may-elem x es fs h = rw h
