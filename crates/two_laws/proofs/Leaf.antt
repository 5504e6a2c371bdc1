-- A pair shifted in at its leaf, one shifted out, and one with another class, in the tree of header word w beside the trees of ws.
use Rattle.std.proofs.Common.{◌≡◌, ℕ, ◌<◌, ◌≤◌, true, List, length, arith}
use mathlib.Core.List.{Memᴰ}
use Rattle.model.specs.Table.{Words}
use Rattle.model.specs.Slots.{class_ok, node_view}
use Rattle.model.specs.Reached.{reached, mapping}
use Rattle.model.specs.SoundTest.{nothing}
use Rattle.model.specs.Shifts.{place_of}
use Rattle.model.specs.Writes.{shift_in_at, shift_out_at, set_class_at, standing_in}
use Rattle.model.specs.Refusals.{has_key}
use Rattle.model.specs.Ledger.{enter, leave, reclass}
use Rattle.list_laws.proofs.Tools.{Each}
use Rattle.change_laws.proofs.LeafSlots.{NewPair}
use Rattle.step_laws.proofs.Views.{shown-few}
use Rattle.step_laws.proofs.Standing.{standing-stands}
use Rattle.step_laws.proofs.LeafShift.{leaf-shift-in, leaf-in-quiet, leaf-shift-out, leaf-out-quiet, leaf-out-place, leaf-class}
use Rattle.step_laws.proofs.LeafShift.{leaf-class-quiet}
use Rattle.two_laws.proofs.Frame.{Other, Away}
use Rattle.two_laws.proofs.Places.{shift-in-away, shift-out-away, put-away}
use Rattle.step_laws.proofs.TreeAt.{tree_at, Fine}
use Rattle.two_laws.proofs.TwoLaw.{taken, Tree, Low, Course, tree-fine, phase-course, own-usable, own-other}
use Rattle.two_laws.proofs.LevelsTwo.{AllQuiet, others-quiet}

module _ (w : ℕ) (ws : List ℕ) (t : Words) (low : Low w ws) (f : Tree w ws t nothing) (k : ℕ) where
  abbrev ns : List ℕ
  ns = taken ws t

  s : Fine w ns t nothing
  s = tree-fine w ws t low nothing f

  abbrev x : ℕ
  x = standing_in (tree_at w t) 0 k

  x-reached : Memᴰ x (reached (tree_at w t))
  x-reached = (standing-stands w ns t s k 0 (omega arith)).reached

  mine : Other ns x
  mine = own-other w ws t nothing f x x-reached

  few : length (node_view t x).shown ≤ 11
  few = shown-few t x (own-usable w ws t nothing f x x-reached).clear

  -- k with the pointer y is shifted in at its leaf, which has room for it.
  pub leaf-in : (y : ℕ) → NewPair (tree_at w t) k y → length (node_view t (standing_in (tree_at w t) 0 k)).shown ≤ 10
      → Course 27 w ws t (shift_in_at t (standing_in (tree_at w t) 0 k) k y) (enter k y (mapping (tree_at w t)))
  leaf-in y new room =
      phase-course 27 w ws t nothing _ _ low f (leaf-shift-in w ns t s k y new room) (shift-in-away (taken ws t) x mine t k y room)

  -- every level is quiet meanwhile
  pub leaf-in-all : (y : ℕ) → NewPair (tree_at w t) k y → length (node_view t (standing_in (tree_at w t) 0 k)).shown ≤ 10
      → AllQuiet w ws t (shift_in_at t (standing_in (tree_at w t) 0 k) k y)
  leaf-in-all y new room =
      (leaf-in-quiet w ns t s k y new room, others-quiet w ws t nothing low f _ (shift-in-away (taken ws t) x mine t k y room))

  module _ (has : has_key k (mapping (tree_at w t)) ≡ true) where
    -- it shows k at its place
    pub leaf-place : place_of k (node_view t (standing_in (tree_at w t) 0 k)).shown < length
        (node_view t (standing_in (tree_at w t) 0 k)).shown
    leaf-place = leaf-out-place w ns t s k has

    pub out-away : Each (Away (taken ws t)) (shift_out_at t (standing_in (tree_at w t) 0 k) k)
    out-away = shift-out-away (taken ws t) x mine t k few leaf-place

    -- The pair of k is shifted out of its leaf.
    pub leaf-out : Course 25 w ws t (shift_out_at t (standing_in (tree_at w t) 0 k) k) (leave k (mapping (tree_at w t)))
    leaf-out = phase-course 25 w ws t nothing _ _ low f (leaf-shift-out w ns t s k has) out-away

    pub leaf-out-all : AllQuiet w ws t (shift_out_at t (standing_in (tree_at w t) 0 k) k)
    leaf-out-all = (leaf-out-quiet w ns t s k has, others-quiet w ws t nothing low f _ out-away)

    class-away : (c : ℕ) → Each (Away (taken ws t)) (set_class_at t x k c)
    unfolding set_class_at
    class-away c = (put-away (taken ws t) x mine _ _ (omega arith) (omega (arith, leaf-place, few)), tt)

    -- The slot of k in its leaf gets class c.
    pub leaf-reclass : (c : ℕ) → class_ok c ≡ true
        → Course 2 w ws t (set_class_at t (standing_in (tree_at w t) 0 k) k c) (reclass k c (mapping (tree_at w t)))
    leaf-reclass c ok = phase-course 2 w ws t nothing _ _ low f (leaf-class w ns t s k has c ok) (class-away c)

    pub leaf-class-all : (c : ℕ) → class_ok c ≡ true → AllQuiet w ws t (set_class_at t (standing_in (tree_at w t) 0 k) k c)
    leaf-class-all c ok = (leaf-class-quiet w ns t s k has c ok, others-quiet w ws t nothing low f _ (class-away c))
