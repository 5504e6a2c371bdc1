-- Repair of the leftover in the tree of header word w, beside the settled trees of ws.
use Rattle.std.proofs.Common.{◌≡◌, ℕ, ◌≤◌, true, false, List, length, arith, leb-true}
use mathlib.Core.List.{Memᴰ}
use mathlib.Core.Option.{some}
use Rattle.model.specs.Table.{Words, at}
use Rattle.model.specs.Slots.{View, node_view}
use Rattle.model.specs.Reached.{reached, mapping}
use Rattle.model.specs.SoundTest.{Leftover, nothing, hidden_in, missing_in, both_in, room}
use Rattle.model.specs.Orders.{apply}
use Rattle.model.specs.Writes.{close_at, cut_off, attach, repair_of}
use Rattle.list_laws.proofs.Tools.{Each, Each-append}
use Rattle.list_laws.proofs.Slots.{place-length}
use Rattle.step_laws.proofs.Views.{used-few, shown-few}
use Rattle.step_laws.proofs.Repair.{a-reached, close-stage, repair-of, repair-phase}
use Rattle.two_laws.proofs.Frame.{Away}
use Rattle.two_laws.proofs.Places.{shift-in-away, close-away, put-away}
use Rattle.step_laws.proofs.TreeAt.{tree_at}
use Rattle.two_laws.proofs.TwoLaw.{taken, Tree, Low, Course, tree-fine, tree-after, taken-same, phase-course, own-usable, own-other}

-- ---- the stores go to reached nodes

module _ (w : ℕ) (ws : List ℕ) (t : Words) (y : Leftover) (f : Tree w ws t y) where
  close-off : (x : ℕ) → Memᴰ x (reached (tree_at w t)) → (node_view t x).hidden ≡ 1 → Each (Away (taken ws t)) (close_at t x)
  close-off x m one = close-away (taken ws t) x (own-other w ws t y f x m) t (used-few t x (own-usable w ws t y f x m).clear) one

  cut-off : (a : ℕ) → Memᴰ a (reached (tree_at w t)) → Each (Away (taken ws t)) (cut_off t a)
  unfolding cut_off
  cut-off a m =
      let k = (node_view t (node_view t a).sibling).fence in
      let h = place-length k (node_view t a).shown in
      let g = shown-few t a (own-usable w ws t y f a m).clear in
      (put-away (taken ws t) a (own-other w ws t y f a m) _ 0 (omega arith) (omega (arith, h, g)), tt)

  attach-off : (p a : ℕ) → Memᴰ p (reached (tree_at w t)) → length (node_view t p).shown ≤ 10 → Each (Away (taken ws t)) (attach t p a)
  unfolding attach
  attach-off p a m g = shift-in-away (taken ws t) p (own-other w ws t y f p m) t _ _ g

room-ten : (v : View) (p : ℕ) → room v p ≡ true → length (v.node p).shown ≤ 10
unfolding room
room-ten v p h = leb-true _ _ h

-- (c): the hidden slot closed, the slot still missing
pub close-tree : (w : ℕ) (ws : List ℕ) (t : Words) (p a : ℕ) → Low w ws → Tree w ws t (both_in p a)
    → Tree w ws (apply (close_at t p) t) (missing_in p a false)
close-tree w ws t p a low f =
    let h = f.left.left.0 in
    let c = close-off w ws t _ f p h.member h.here in
    tree-after w ws t _ low f (close_at t p) c (missing_in p a false) (close-stage w (taken ws t) t p a (tree-fine w ws t low _ f)).1

-- repair goes to the tree's nodes
pub repair-away : (w : ℕ) (ws : List ℕ) (t : Words) (y : Leftover) → Low w ws → Tree w ws t y
    → Each (Away (taken ws t)) (repair_of t (some y))
unfolding repair_of
repair-away w ws t nothing low f = tt
repair-away w ws t (hidden_in x) low f = let h = f.left.left.0 in close-off w ws t _ f x h.member h.here
repair-away w ws t (missing_in p a false) low f = attach-off w ws t _ f p a f.left.left.2.member (room-ten (tree_at w t) p f.room)
repair-away w ws t (missing_in p a true) low f =
    let g = f.left.left.2 in
    Each-append _ (cut_off t a) (attach t p a) (cut-off w ws t _ f a (a-reached (tree_at w t) p a f.left.orderly g))
    (attach-off w ws t _ f p a g.member (room-ten (tree_at w t) p f.room))
repair-away w ws t (both_in p a) low f =
    let h = f.left.left.0 in
    let c = close-off w ws t _ f p h.member h.here in
    let t₁ = apply (close_at t p) t in
    let g = close-tree w ws t p a low f in
    let d : Each (Away (taken ws t)) (attach t₁ p a) =
    rw (taken-same w ws t _ low f (close_at t p) c) at
    (attach-off w ws t₁ _ g p a g.left.left.2.member (room-ten (tree_at w t₁) p g.room)) in
    Each-append _ (close_at t p) (attach t₁ p a) c d

-- Repair: every first part of its stores leaves the tree sound with the same map and the others as they are, and all of them leave it
-- settled.
pub tree-repair : (w : ℕ) (ws : List ℕ) (t : Words) (y : Leftover) → Low w ws → Tree w ws t y
    → Course 51 w ws t (repair_of t (some y)) (mapping (tree_at w t))
tree-repair w ws t y low f =
    let ns = taken ws t in
    let g = tree-fine w ws t low y f in
    phase-course 51 w ws t y (repair_of t (some y)) (mapping (tree_at w t)) low f
    (rw (repair-of w ns t y g) at (repair-phase w ns t (y, g))) (repair-away w ws t y low f)
