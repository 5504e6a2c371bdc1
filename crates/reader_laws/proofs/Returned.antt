-- Words that do come back, computed: in a repair, in a fresh node before it is linked, and in a shift in that stores the new pointer too
-- early.
use Rattle.std.proofs.Common.{◌≡◌, ℕ, suc, true, false, List, [], ◌∷◌, ◌++◌, map, length, take, drop, refl, inr, arith}
use mathlib.Core.Option.{some}
use Rattle.model.specs.Table.{Words, at}
use Rattle.model.specs.Slots.{Slot, node_view}
use Rattle.model.specs.Reached.{reached_all}
use Rattle.model.specs.Sound.{at-root}
use Rattle.model.specs.SoundTest.{elem, sound, settled, both_in, leftover_all}
use Rattle.model.specs.Orders.{Store, apply}
use Rattle.model.specs.Shifts.{SlotStore, key_to, pointer_to, in_node, pointer_word, last_pointer, move_up, place_of}
use Rattle.model.specs.Writes.{Call, insertion, deletion, repair, stores_of}
use Rattle.model.specs.Refusals.{refusal}
use Rattle.model.proofs.Everything.{everything}
use Rattle.model.proofs.Worked.{ten_slots}
use Rattle.model.proofs.Tables.{stale, ways, one_level, two_levels}
use Rattle.model.specs.Returns.{table_at, InSight}

-- leaves 1, 2 and 3 with a key each, 10, 210 and 410; node 4 is the root, with slots for 2 and 3
abbrev three : Words
three = two_levels (1 ∷ 1 ∷ 1 ∷ []) (ways 2 2) []

-- 210 leaves, and a cut falls after the root's first store: its slot 0 is hidden, and leaf 2 lacks its slot
abbrev both : Words
both = apply (take 3 (stores_of (deletion 1 210) three)) three

-- leaf 2 with 11 keys is split into node 4, whose words are all 9
abbrev full : Words
full = two_levels (5 ∷ 11 ∷ []) (ways 2 1) (stale 1)

abbrev nine : Call
nine = insertion 1 315 9 0

-- a shift in that shows the new pointer at once, under the key that is there, then hides it and stores the key
abbrev early : (left : ℕ) → List Slot → (p k x : ℕ) → List SlotStore
early left ss p k x =
    pointer_to (suc (length ss)) 0
    ∷ (move_up p (drop p ss) ++ (pointer_to p x ∷ pointer_to p (last_pointer left (take p ss)) ∷ key_to p k ∷ pointer_to p x ∷ []))

abbrev early_at : Words → (n k x : ℕ) → List Store
early_at t n k x = let ss = (node_view t n).shown in map (in_node n) (early (node_view t n).left ss (place_of k ss) k x)

pub record Returned : Type 0 where
  -- A leftover (c). Its repair closes the slot and shifts leaf 2 in at the same place: pointer 0 of the root is 1, then 3, then 1 again.
  pub leftover : (sound both ≡ true) × (settled both ≡ false) × (leftover_all both ≡ some (both_in 4 1))
  pub accepted : refusal repair 2560 0 both ≡ 0
  pub in-sight : InSight (table_at repair 0 both 0) (pointer_word 4 0)
  pub had : at (table_at repair 0 both 0) (pointer_word 4 0) ≡ 1
  pub lost : at (table_at repair 0 both 2) (pointer_word 4 0) ≡ 3
  pub back : at (table_at repair 0 both 7) (pointer_word 4 0) ≡ 1
  -- A settled table, and a word of a node that no root reaches: it holds 9, then 0 as B's words are stored, then the new recording, 9.
  pub stale-settled : (settled full ≡ true) × (refusal nine 2560 0 full ≡ 0) × (elem 4 (reached_all full) ≡ false)
  pub stale-had : at (table_at nine 0 full 0) (pointer_word 4 6) ≡ 9
  pub stale-lost : at (table_at nine 0 full 40) (pointer_word 4 6) ≡ 0
  pub stale-back : at (table_at nine 0 full 1000) (pointer_word 4 6) ≡ 9
  -- The other shift in, of 20 with recording 7 behind one key: its pointer is 7, then 101, then 7 again.
  pub early-had : at (apply (take 2 (early_at (one_level 1 []) 1 20 7)) (one_level 1 [])) (pointer_word 1 1) ≡ 7
  pub early-lost : at (apply (take 3 (early_at (one_level 1 []) 1 20 7)) (one_level 1 [])) (pointer_word 1 1) ≡ 101
  pub early-back : at (apply (take 5 (early_at (one_level 1 []) 1 20 7)) (one_level 1 [])) (pointer_word 1 1) ≡ 7

pub returned : Returned
unfolding everything ten_slots
returned =
    record {
      leftover = (refl, refl, refl);
      accepted = refl;
      in-sight = inr (1, 4, refl, at-root, (omega arith, omega arith));
      had = refl;
      lost = refl;
      back = refl;
      stale-settled = (refl, refl, refl);
      stale-had = refl;
      stale-lost = refl;
      stale-back = refl;
      early-had = refl;
      early-lost = refl;
      early-back = refl;
    }
