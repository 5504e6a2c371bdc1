-- The new root of a collection of a settled table, where the run includes the root.
use Rattle.std.proofs.Common.{◌≡◌, ℕ, ◌+◌, ◌<◌, ◌≤◌, Bool, true, false, cond, ◌⊎◌, [], length, sym, ap, ◌∙◌, inl, inr, arith, ltb-false}
use Rattle.model.specs.Table.{MARK, Words, at, nodes, header_ok, root_word, has_node}
use Rattle.model.specs.Slots.{height, view_of}
use Rattle.model.specs.SoundTest.{sound}
use Rattle.model.specs.Writes.{unreachable, fresh, run, root_in_run, root_stores, new_root_at}
use Rattle.model.specs.Refusals.{too_few}
use Rattle.two_laws.proofs.AcceptedTwo.{there}
use Rattle.two_laws.proofs.SameTwo.{settled-sound}
use Rattle.two_laws.proofs.CollectionTwo.{settled-head, root-range, collection-orderly}
use Rattle.two_laws.proofs.PartsTwo.{root-reached, fresh-there}
use Rattle.shift.proofs.Splitting.{new-root-fresh}
use Rattle.insert.specs.Parts.{Growable}

module _ {n : ℕ} {t : Words} {k : ℕ} {whole : Bool} (h : Growable n t k whole) where
  pub number-low : (1 ≤ n) × (n ≤ 2)
  number-low = go (there n t h.collection).0
    where
      go : (n ≡ 1) ⊎ (n ≡ 2) → (1 ≤ n) × (n ≤ 2)
      go (inl e) = (omega arith, omega arith)
      go (inr e) = (omega arith, omega arith)

  pub word-low : root_word n ≤ 3
  word-low = omega (arith, number-low.1)

  pub table-header : header_ok t ≡ true
  table-header = settled-head t h.is-settled

  pub table-sound : sound t ≡ true
  table-sound = settled-sound t h.is-settled

  pub root-low : height (view_of n t) < MARK
  root-low = omega (arith, (collection-orderly n t table-sound h.collection).top.level)

  pub no-root : whole ≡ false → root_stores n t k ≡ []
  unfolding root_stores
  no-root e = rw (sym h.whole-is ∙ e, root_stores)

  -- by the root that was read
  module _ {r : ℕ} (f : r ≡ at t (root_word n)) where
    pub root-in : (1 ≤ r) × (r ≤ nodes t)
    root-in = rw f (root-range n t table-header h.collection)

    -- the stores of the new root, in the fresh node b
    module _ (e : whole ≡ true) {b : ℕ} (g : b ≡ fresh t r) where
      pub root-stores : root_stores n t k ≡ new_root_at (root_word n) t b
      unfolding root_stores
      root-stores = rw (sym h.whole-is ∙ e, root_stores) (new-root-fresh n t ∙ ap (new_root_at (root_word n) t) (sym (g ∙ ap (fresh t) f)))

      pub root-there : has_node t b ≡ true
      unfolding too_few
      root-there =
          let i : run n t k + 1 ≤ length (unreachable t) =
          rw (sym h.whole-is ∙ e) at (ltb-false (length (unreachable t)) (run n t k + cond (root_in_run n t k) 1 0) h.enough) in
          rw (g, f) (fresh-there n t h.collection h.is-settled _ (root-reached n t h.collection h.is-settled) (omega arith))
