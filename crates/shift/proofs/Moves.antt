-- The moves that make and close a gap, slot by slot.
use Rattle.std.proofs.Common.{◌≡◌, ℕ, suc, ◌+◌, ◌-◌, ◌*◌, ◌<◌, ◌≤◌, List, [], ◌∷◌, ◌++◌, map, length, take, drop, add-one, arith}
use Rattle.std.proofs.Common.{length-drop, drop_of_length-le, length-take-le, get_or-drop, take_all, take-suc}
use Rattle.model.specs.Table.{Words, at}
use Rattle.model.specs.Slots.{Slot, slot}
use Rattle.model.specs.Orders.{Store}
use Rattle.model.specs.Shifts.{key_to, pointer_to, move_up, move_down}
use Rattle.slots.specs.Scan.{in_use_of}
use Rattle.shift.specs.declared.Opened.{Opened}
use Rattle.shift.specs.Stores.{held, in_from, moves_up, moves_down}
use Rattle.slots.proofs.Places.{in-use-cons, in-use-at}

-- ---- up: the last slot moves first

move-up-snoc : (p : ℕ) (ss : List Slot) (s : Slot) → move_up p (ss ++ (s ∷ [])) ≡ pointer_to (suc (p + length ss)) s.pointer
    ∷ key_to (suc (p + length ss)) s.key ∷ move_up p ss
unfolding move_up
move-up-snoc p [] s = let e : p + 0 ≡ p = omega arith in rw e
move-up-snoc p (x ∷ ss) s = let e : suc p + length ss ≡ p + suc (length ss) = omega arith in rw (move-up-snoc (suc p) ss s, e)

-- the moves of the slots from p on, below slot i
abbrev pub up_to : Opened → (p i : ℕ) → List Store
up_to o p i = map (in_from o.start) (move_up p (take (i - p) (drop p (held o))))

module _ (o : Opened) (p i : ℕ) where
  abbrev ws : Words
  ws = o.node.slots

  pub up-start : i ≡ length (held o) → moves_up o p ≡ up_to o p i
  up-start e = rw (take_all (i - p) (drop p (held o)) (rw length-drop (omega arith)))

  pub up-end : i ≤ p → up_to o p i ≡ []
  unfolding move_up
  up-end h = let e : i - p ≡ 0 = omega arith in rw e

  module _ (h : p < i) (l : i ≤ length (in_use_of ws)) where
    -- the slots from p on below i, the last of them apart
    shorter : take (i - p) (drop p (in_use_of ws)) ≡ take (i - 1 - p) (drop p (in_use_of ws))
        ++ (slot (at ws (2 * (i - 1))) (at ws (2 * (i - 1) + 1)) ∷ [])
    shorter =
        let e : i - p ≡ suc (i - 1 - p) = omega arith in
        let n : i - 1 - p < length (drop p (in_use_of ws)) = rw length-drop (omega arith) in
        let q : p + (i - 1 - p) ≡ i - 1 = omega arith in
        rw (e, take-suc (drop p (in_use_of ws)) (i - 1 - p) (slot 0 0) n, get_or-drop, q, in-use-at ws (i - 1) (omega arith))

    last : suc (p + length (take (i - 1 - p) (drop p (in_use_of ws)))) ≡ i
    last = rw (length-take-le (i - 1 - p) (drop p (in_use_of ws)) (rw length-drop (omega arith))) (omega arith)

    pub up-next : up_to o p i
        ≡ in_from o.start (pointer_to (i - 1 + 1) (at ws (2 * (i - 1) + 1)))
        ∷ in_from o.start (key_to (i - 1 + 1) (at ws (2 * (i - 1)))) ∷ up_to o p (i - 1)
    up-next = let e : i - 1 + 1 ≡ i = omega arith in rw (shorter, move-up-snoc, last, e)

-- ---- down: the first slot moves first

module _ (o : Opened) where
  pub down-next : (i : ℕ) → suc i < length (held o)
      → moves_down o i ≡ in_from o.start (key_to i (at o.node.slots (2 * i + 2)))
      ∷ in_from o.start (pointer_to i (at o.node.slots (2 * i + 3))) ∷ moves_down o (i + 1)
  unfolding move_down
  down-next i l =
      let key : 2 * suc i ≡ 2 * i + 2 = omega arith in
      let pointer : 2 * suc i + 1 ≡ 2 * i + 3 = omega arith in
      rw (in-use-cons o.node.slots (suc i) l, pointer, key, add-one (suc i), add-one i)

  pub down-end : (i : ℕ) → length (held o) ≤ suc i → moves_down o i ≡ []
  unfolding move_down
  down-end i h = rw (drop_of_length-le (held o) {i = suc i} h)
