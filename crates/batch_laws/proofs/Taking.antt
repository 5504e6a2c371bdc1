-- An accepted insertion makes as many unreachable nodes reached as its run has, and one more for a new root.
use Rattle.std.proofs.Common.{◌≡◌, ℕ, zero, suc, ◌+◌, cond, List, ◌++◌, length, arith}
use Rattle.model.specs.Table.{Words, root_word}
use Rattle.model.specs.Slots.{pointer_of}
use Rattle.model.specs.Reached.{reached_all}
use Rattle.model.specs.SoundTest.{nothing, sound}
use Rattle.model.specs.Orders.{apply}
use Rattle.model.specs.Writes.{shift_in_at, unreachable, standing, run, root_in_run, splits, root_stores, insert_settled, repair_stores}
use Rattle.model.specs.Writes.{repaired, insert_stores, insertion, stores_of}
use Rattle.model.specs.Refusals.{refusal}
use Rattle.cut_laws.proofs.Applying.{apply-append}
use Rattle.two_laws.specs.Parts.{Enters, split_for, Ready}
use Rattle.two_laws.proofs.TwoLaw.{Tree}
use Rattle.two_laws.proofs.Arrange.{Arr, settled-tree}
use Rattle.two_laws.proofs.LeafStores.{in-unreachable, leaf-for}
use Rattle.two_laws.proofs.InsertTwo.{first-takes, first-arr, ready-next, splits-course, splits-room, root-first, root-arr, root-take}
use Rattle.two_laws.proofs.CallsTwo.{repairs, arranged, is-repaired}
use Rattle.two_laws.proofs.AcceptedTwo.{there, Accepted, accepted-iff}
use Rattle.two_laws.proofs.MapsTwo.{sound-after, nodes-after}
use Rattle.two_laws.proofs.JudgedTwo.{unreachable-later}
use Rattle.two_laws.proofs.CollectionTwo.{unreachable-all}

-- ---- the splits

splits-take : (m n : ℕ) (ws : List ℕ) (t : Words) (k : ℕ) → Arr (root_word n) ws t → Ready m n t k → length (unreachable t)
    ≡ length (unreachable (apply (splits n m t k) t)) + m
unfolding splits apply
splits-take zero n ws t k a r = omega arith
splits-take (suc l) n ws t k a r =
    let ss = split_for n t l k in
    rw (apply-append ss (splits n l (apply ss t) k) t)
    (omega (
      arith,
      first-takes l n ws t k a r,
      splits-take l n ws (apply ss t) k (first-arr l n ws t k a r) (ready-next l n ws t k a r),
    ))

-- ---- all of it

-- the nodes that an insertion of k will take
abbrev pub takes : (n : ℕ) → Words → (k : ℕ) → ℕ
takes n t k = run n t k + cond (root_in_run n t k) 1 0

settled-take : (n : ℕ) (ws : List ℕ) (t : Words) (k r c : ℕ) → Arr (root_word n) ws t → Tree (root_word n) ws t nothing → Enters n k r c t
    → length (unreachable t) ≡ length (unreachable (apply (insert_settled n t k (pointer_of r c)) t)) + takes n t k
unfolding insert_settled
settled-take n ws t k r c arr f e =
    let y = pointer_of r c in
    let m = run n t k in
    let a = root-first n ws t k arr f e.not-high e.enough in
    let i = root-arr n ws t k arr f e.not-high e.enough in
    let t₁ = apply (root_stores n t k) t in
    let t₂ = apply (splits n m t₁ k) t₁ in
    let leaf = leaf-for n t₂ k (splits-course m n ws t₁ k i a.1).whole.left.orderly in
    let d = in-unreachable t₂ (standing n t₂ 0 k) leaf.some leaf.level k y (splits-room m n ws t₁ k i a.1) in
    rw (
      apply-append (root_stores n t k) (splits n m t₁ k ++ shift_in_at t₂ (standing n t₂ 0 k) k y) t,
      apply-append (splits n m t₁ k) (shift_in_at t₂ (standing n t₂ 0 k) k y) t₁,
      d,
    )
    (omega (arith, root-take n ws t k arr f e.not-high e.enough, splits-take m n ws t₁ k i a.1))

-- An accepted insertion: the nodes reached after it are those reached before it and those that it took.
module _ (n k r c words dock : ℕ) (t : Words) (ok : refusal (insertion n k r c) words dock t ≡ 0) where
  abbrev t₁ : Words
  t₁ = apply (stores_of (insertion n k r c) t) t

  passes : Accepted (insertion n k r c) words dock t
  passes = (accepted-iff (insertion n k r c) words dock t).0 ok

  all-take : length (unreachable t) ≡ length (unreachable t₁) + takes n (repaired t) k
  unfolding stores_of insert_stores repaired
  all-take =
      let s = passes.sound in
      let u = repaired t in
      let beside = arranged (root_word n) u (is-repaired (root_word n) t s (there n t passes.collection).1) in
      let tree = settled-tree (root_word n) beside.0 u beside.1 (repairs t s).settles in
      rw (apply-append (repair_stores t) (insert_settled n u k (pointer_of r c)) t, ← (unreachable-later t s))
      (settled-take n beside.0 u k r c beside.1 tree passes.allows)

  -- after an accepted insertion as many more nodes are reached as it takes
  pub reached-after : length (reached_all (apply (stores_of (insertion n k r c) t) t)) ≡ length (reached_all t) + takes n (repaired t) k
  reached-after =
      omega (
        arith,
        all-take,
        unreachable-all t passes.sound,
        unreachable-all t₁ (sound-after (insertion n k r c) words dock t ok),
        nodes-after (insertion n k r c) words dock t ok,
      )
