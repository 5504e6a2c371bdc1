-- A shift out of a node of any table changes no other node, and no child before it.
use Rattle.std.proofs.Common.{◌≡◌, ℕ, ◌+◌, ◌<◌, ◌≤◌, ◌≢◌, length, take, ap, ◌∙◌, arith}
use Rattle.model.specs.Table.{Words, node_start}
use Rattle.model.specs.Slots.{NodeView, node_view, view}
use Rattle.model.specs.Orders.{apply}
use Rattle.model.specs.Shifts.{last_pointer, shift_out, place_of}
use Rattle.model.specs.Writes.{shift_out_at, child_before}
use Rattle.slot_laws.proofs.Places.{shift-out-places}
use Rattle.word_laws.proofs.Outside.{Outside, outside-start, outside-wider}
use Rattle.word_laws.proofs.Frames.{fence-same, view-else}
use Rattle.two_laws.proofs.LeafStores.{outside-apply, slots-into}

-- of the slot of key k in node x, which stands among at most 11
module _ (t : Words) (x k : ℕ) (some : 1 ≤ x) (few : length (node_view t x).shown ≤ 11)
    (place : place_of k (node_view t x).shown < length (node_view t x).shown) where
  abbrev t₁ : Words
  t₁ = apply (shift_out_at t x k) t

  out : Outside (node_start x + 8) 24 t (apply (shift_out_at t x k) t)
  unfolding shift_out_at
  out =
      let ss = (node_view t x).shown in
      outside-apply (node_start x + 8) 24 t _ t
      (slots-into x (shift_out (node_view t x).left ss (place_of k ss))
      (shift-out-places (node_view t x).left ss (place_of k ss) 12 place (omega (arith, few)))) (outside-start (node_start x + 8) 24 t)

  -- shifting a slot out of node x changes no other node
  pub out-other : (p : ℕ) → p ≢ x → node_view (apply (shift_out_at t x k) t) p ≡ node_view t p
  out-other p z = (view-else t t₁ x (outside-wider (node_start x + 8) 24 (node_start x) 32 t t₁ (omega arith) (omega arith) out) some).else
      p z

  pub out-fence : (node_view (apply (shift_out_at t x k) t) x).fence ≡ (node_view t x).fence
  out-fence = fence-same (node_start x + 8) 24 t t₁ out x (λ a b. omega arith)

  -- shifting a slot out of x does not change which child of another node p comes before x
  pub out-before : (p : ℕ) → p ≢ x → child_before (view (apply (shift_out_at t x k) t)) p x ≡ child_before (view t) p x
  unfolding child_before
  out-before p z =
      ap (λ (v : NodeView). last_pointer v.left (take (place_of (node_view t₁ x).fence v.shown) v.shown)) (out-other p z)
      ∙ ap (λ (f : ℕ). last_pointer (node_view t p).left (take (place_of f (node_view t p).shown) (node_view t p).shown)) out-fence
