-- A split in the tree of header word w, beside the trees of ws: into any node that none of them reaches.
use Rattle.std.proofs.Common.{◌≡◌, ℕ, suc, ◌≤◌, Bool, true, false, eqb, List, length, drop, arith}
use mathlib.Core.List.{Memᴰ}
use Rattle.model.specs.Table.{MARK, Words, nodes, node_start}
use Rattle.model.specs.Slots.{node_view, height}
use Rattle.model.specs.Reached.{reached, mapping}
use Rattle.model.specs.SoundTest.{nothing}
use Rattle.model.specs.Shifts.{pointer_word}
use Rattle.model.specs.Orders.{apply}
use Rattle.model.specs.Writes.{put_all, node_words, middle, split_words, split, standing_in}
use Rattle.list_laws.proofs.Tools.{Each, Each-append}
use Rattle.word_laws.proofs.NewNodes.{length-node-words}
use Rattle.tree_laws.proofs.Rows.{range-iff}
use Rattle.step_laws.specs.Parts.{FullNode}
use Rattle.step_laws.proofs.Fresh.{Free}
use Rattle.step_laws.proofs.Split.{split-phase, split_into}
use Rattle.step_laws.proofs.Standing.{standing-stands}
use Rattle.two_laws.proofs.Frame.{Other, Away}
use Rattle.two_laws.proofs.Places.{shift-in-away, put-away, all-away}
use Rattle.step_laws.proofs.TreeAt.{tree_at, Fine}
use Rattle.two_laws.proofs.TwoLaw.{taken, Tree, Low, Course, taken-same, head-same, phase-course, tree-fine, own-other}
use Rattle.two_laws.proofs.LevelsTwo.{OthersQuiet, others-quiet}

-- the upper half is a whole node
pub length-split : (t : Words) (a : ℕ) → length (split_words t a) ≡ 32
unfolding split_words
length-split t a = go (eqb (node_view t a).level 0)
  where
    go : (b : Bool) → length {A = ℕ} (elim b as (λ x. Words) [
      | true ↦ node_words MARK (node_view t a).sibling (node_view t a).level (middle t a).key (drop 5 (node_view t a).shown)
      | false ↦ node_words (middle t a).pointer (node_view t a).sibling (node_view t a).level (middle t a).key
          (drop 6 (node_view t a).shown)
    ]) ≡ 32
    go true = length-node-words MARK (node_view t a).sibling (node_view t a).level (middle t a).key (drop 5 (node_view t a).shown)
    go false = length-node-words (middle t a).pointer (node_view t a).sibling (node_view t a).level (middle t a).key
        (drop 6 (node_view t a).shown)

module _ (w : ℕ) (ws : List ℕ) (t : Words) (low : Low w ws) (f : Tree w ws t nothing) (k l : ℕ) (h : FullNode (tree_at w t) k l) (b : ℕ)
    (g : Free w (taken ws t) t b) where
  abbrev ns : List ℕ
  ns = taken ws t

  s : Fine w ns t nothing
  s = tree-fine w ws t low nothing f

  abbrev a : ℕ
  a = standing_in (tree_at w t) l k

  abbrev p : ℕ
  p = standing_in (tree_at w t) (suc l) k

  there : (d : ℕ) → d ≤ height (tree_at w t) → Memᴰ (standing_in (tree_at w t) d k) (reached (tree_at w t))
  there d q = (standing-stands w ns t s k d q).reached

  b-other : Other ns b
  b-other = record { some = ((range-iff (nodes t) b).0 g.range).0; off = g.off }

  away : Each (Away ns) (split t a b p)
  unfolding split
  away =
      let m = there l (omega (arith, h.high)) in
      let q = there (suc l) h.high in
      Each-append (Away ns) (put_all (node_start b) (split_words t a)) _
      (all-away ns b b-other (node_start b) (split_words t a) (omega arith) (omega (arith, length-split t a))) (
        put-away ns a (own-other w ws t nothing f a m) (suc (node_start a)) b (omega arith) (omega arith),
        (
          put-away ns a (own-other w ws t nothing f a m) (pointer_word a 5) 0 (omega arith) (omega arith),
          shift-in-away ns p (own-other w ws t nothing f p q) t (middle t a).key b h.roomy,
        ),
      )

  -- Split: every first part of its stores leaves the tree sound with the same map, and the others as they are.
  pub split-course : Course 67 w ws t (split_into w t l k b) (mapping (tree_at w t))
  split-course = phase-course 67 w ws t nothing (split t a b p) (mapping (tree_at w t)) low f (split-phase w ns t s k l h b g) away

  -- while a node of one collection is split, each level of the others is quiet
  pub split-beside : OthersQuiet ws t (split_into w t l k b)
  split-beside = others-quiet w ws t nothing low f (split t a b p) away

  pub two-taken : taken ws (apply (split_into w t l k b) t) ≡ taken ws t
  two-taken = taken-same w ws t nothing low f (split t a b p) away

  -- a split does not change N
  pub two-nodes : nodes (apply (split_into w t l k b) t) ≡ nodes t
  two-nodes = head-same w ws t nothing low f (split t a b p) away 2 (omega arith)
