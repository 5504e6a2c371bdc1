-- A collection of a sound table: its root, its tree, its map after repair; and the nodes of both trees together.
use Rattle.std.proofs.Common.{◌≡◌, ℕ, ◌+◌, ◌≤◌, true, false, ◌||◌, ◌≢◌, ◌⊎◌, ◌↔◌, List, [], ◌++◌, length, ap, ◌∙◌, inl, inr, append-nil}
use Rattle.std.proofs.Common.{arith}
use lib.Seq.{take-length}
use Rattle.model.specs.Table.{Words, at, nodes, header_ok, root_word, no_collection}
use Rattle.model.specs.Slots.{view_of}
use Rattle.model.specs.Reached.{reached, reached_all}
use Rattle.model.specs.SoundTest.{elem, sound_view, sound, settled}
use Rattle.model.specs.Writes.{unreached, unreachable, repair_stores, repaired}
use Rattle.list_laws.proofs.Tools.{Each, Each-append, same-or-not}
use Rattle.list_laws.proofs.Members.{elem-join}
use Rattle.list_laws.proofs.Distinct.{UpTo}
use Rattle.list_laws.proofs.Counts.{count-without}
use Rattle.table_laws.proofs.Header.{header-iff}
use Rattle.table_laws.proofs.Collections.{by-number}
use Rattle.tree_laws.proofs.Levels.{Orderly, sound-orderly, reached-numbers}
use Rattle.two_laws.proofs.Arrange.{all-one, all-two, sound-parts}
use Rattle.two_laws.proofs.CallsTwo.{repairs}
use Rattle.two_laws.proofs.AcceptedTwo.{there}
use Rattle.two_laws.proofs.SearchTwo.{sound-head, sound-view}
use Rattle.two_laws.proofs.SameTwo.{first-there, second-there, settled-sound}

-- a settled table has a right header
pub settled-head : (t : Words) → settled t ≡ true → header_ok t ≡ true
settled-head t s = sound-head t (settled-sound t s)

-- ---- one collection

-- its root's number is in 1 to N
pub root-range : (n : ℕ) (t : Words) → header_ok t ≡ true → no_collection n t ≡ false → (1 ≤ at t (root_word n))
    × (at t (root_word n) ≤ nodes t)
root-range n t h c =
    let f = (header-iff t).0 h in
    by-number t (λ (n : ℕ). (1 ≤ at t (root_word n)) × (at t (root_word n) ≤ nodes t)) (f.root-some, f.root-in)
    (λ z. (omega (arith, z), (f.two z).0)) n c

module _ (n : ℕ) (t : Words) (s : sound t ≡ true) (h : no_collection n t ≡ false) where
  -- its tree is sound
  pub collection-sound : sound_view (view_of n t) ≡ true
  collection-sound = sound-view (root_word n) t s (there n t h).1

  -- in a sound table the tree of a collection that is there is orderly
  pub collection-orderly : Orderly (view_of n t)
  collection-orderly = sound-orderly (view_of n t) collection-sound

  -- it is there after repair
  pub collection-repaired : no_collection n (repaired t) ≡ false
  unfolding repaired
  collection-repaired =
      let l : (at (repaired t) 3 ≡ 0) ↔ (at t 3 ≡ 0) = rw take-length at ((repairs t s).part-lack (length (repair_stores t))) in
      by-number t (λ (n : ℕ). no_collection n (repaired t) ≡ false) (first-there (repaired t))
      (λ z. second-there (repaired t) (λ y. z (l.0 y))) n h

-- ---- the nodes of all

module _ (t : Words) (z : at t 3 ≡ 0) where
  -- a table of one tree reaches the nodes that the tree reaches
  pub elem-alone : (m : ℕ) → elem m (reached_all t) ≡ elem m (reached (view_of 1 t))
  elem-alone m = ap (elem m) (all-one t z ∙ append-nil (reached (view_of 1 t)))

module _ (t : Words) (z : at t 3 ≢ 0) where
  -- a table of two trees reaches the nodes that either tree reaches
  pub elem-beside : (m : ℕ) → elem m (reached_all t) ≡ (elem m (reached (view_of 1 t)) || elem m (reached (view_of 2 t)))
  elem-beside m = ap (elem m) (all-two t z ∙ ap (λ (ns : List ℕ). reached (view_of 1 t) ++ ns) (append-nil (reached (view_of 2 t))))
      ∙ elem-join m (reached (view_of 1 t)) (reached (view_of 2 t))

module _ (t : Words) (s : sound t ≡ true) where
  -- the nodes that a sound table reaches have numbers from 1 to N
  pub reached-up : Each (UpTo (nodes t)) (reached_all t)
  reached-up = go (same-or-not (at t 3) 0)
    where
      up : (n : ℕ) → no_collection n t ≡ false → Each (UpTo (nodes t)) (reached (view_of n t))
      up n h = reached-numbers (view_of n t) (collection-orderly n t s h)

      go : (at t 3 ≡ 0) ⊎ (at t 3 ≢ 0) → Each (UpTo (nodes t)) (reached_all t)
      go (inl z) = rw (all-one t z) (Each-append (UpTo (nodes t)) (reached (view_of 1 t)) [] (up 1 (first-there t)) tt)
      go (inr z) = rw (all-two t z)
          (Each-append (UpTo (nodes t)) (reached (view_of 1 t)) _ (up 1 (first-there t))
          (Each-append (UpTo (nodes t)) (reached (view_of 2 t)) [] (up 2 (second-there t z)) tt))

  -- those that some root reaches and those that none does are N together
  pub unreachable-all : length (unreachable t) + length (reached_all t) ≡ nodes t
  unfolding unreachable unreached
  unreachable-all = count-without (nodes t) (reached_all t) ((sound-parts t).0 s).2 reached-up
