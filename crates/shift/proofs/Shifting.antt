-- What is left of a shift in, a shift out and a closing, as the code makes their stores.
use Rattle.std.proofs.Common.{◌≡◌, ℕ, pred, ◌+◌, ◌-◌, ◌*◌, ◌<◌, ◌≤◌, List, [], ◌∷◌, ◌++◌, length, ap, add-one, arith}
use mathlib.Core.List.{map-append}
use Rattle.model.specs.Table.{at}
use Rattle.model.specs.Orders.{Store}
use Rattle.model.specs.Shifts.{key_to, pointer_to, shift_in, shift_out, close}
use Rattle.shift.specs.declared.Opened.{Opened}
use Rattle.shift.specs.declared.Place.{Place}
use Rattle.shift.specs.Stores.{held, PlaceOf, in_from, moves_down, slot_in, slot_out, gap_closed}
use Rattle.shift.proofs.Moves.{up_to, up-start, up-next, up-end, down-next, down-end}

-- ---- shift in: a store, the moves, three stores

module _ (o : Opened) (k x : ℕ) (p : Place) where
  abbrev pub last_three : List Store
  last_three = in_from o.start (pointer_to p.at p.before) ∷ in_from o.start (key_to p.at k) ∷ in_from o.start (pointer_to p.at x) ∷ []

  -- the moves below slot i, and the stores after them
  abbrev pub in_left : (i : ℕ) → List Store
  in_left i = up_to o p.at i ++ last_three

  pub in-start : (m : ℕ) → PlaceOf o k p → m ≡ length (held o) → slot_in o k x ≡ in_from o.start (pointer_to (m + 1) 0) ∷ in_left m
  unfolding slot_in shift_in
  in-start m c e = rw (← up-start o p.at m e) (rw (c.before_is, e, c.at_is, add-one, map-append (in_from o.start)))

  pub in-next : (i : ℕ) → p.at < i → i ≤ length (held o)
      → in_left i
      ≡ in_from o.start (pointer_to (i - 1 + 1) (at o.node.slots (2 * (i - 1) + 1)))
      ∷ in_from o.start (key_to (i - 1 + 1) (at o.node.slots (2 * (i - 1)))) ∷ in_left (i - 1)
  in-next i h l = ap (λ (ss : List Store). ss ++ last_three) (up-next o p.at i h l)

  pub in-end : (i : ℕ) → i ≤ p.at → in_left i ≡ last_three
  in-end i h = ap (λ (ss : List Store). ss ++ last_three) (up-end o p.at i h)

-- ---- closing a gap: the moves; then the last pointer in use, m, becomes 0

-- the moves from slot i + 1 on, and the store after them
abbrev pub gap_left : Opened → (m i : ℕ) → List Store
gap_left o m i = moves_down o i ++ (in_from o.start (pointer_to m 0) ∷ [])

module _ (o : Opened) (m : ℕ) (e : m ≡ pred (length (held o))) where
  pub gap-start : (p : ℕ) → gap_closed o p ≡ gap_left o m p
  unfolding gap_closed close
  gap-start p = rw (e, map-append)

  pub gap-next : (i : ℕ) → i < m
      → gap_left o m i ≡ in_from o.start (key_to i (at o.node.slots (2 * i + 2)))
      ∷ in_from o.start (pointer_to i (at o.node.slots (2 * i + 3))) ∷ gap_left o m (i + 1)
  gap-next i h = ap (λ (ss : List Store). ss ++ (in_from o.start (pointer_to m 0) ∷ [])) (down-next o i (omega arith))

  pub gap-end : (i : ℕ) → m ≤ i → gap_left o m i ≡ in_from o.start (pointer_to m 0) ∷ []
  gap-end i h = ap (λ (ss : List Store). ss ++ (in_from o.start (pointer_to m 0) ∷ [])) (down-end o i (omega arith))

-- ---- shift out: a store, the gap closed

pub out-start : (o : Opened) (k : ℕ) (p : Place) → PlaceOf o k p → slot_out o k
    ≡ in_from o.start (pointer_to p.at p.before) ∷ gap_closed o p.at
unfolding slot_out shift_out gap_closed
out-start o k p c = rw (c.before_is, c.at_is)
