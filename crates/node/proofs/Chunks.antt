-- The 32 words of a node, as the code takes them out of the table.
use Rattle.std.proofs.Common.{◌≡◌, ℕ, ◌+◌, ◌-◌, ◌≤◌, true, ap, ◌∙◌, arith, length, take, drop, length-drop}
use Rattle.std.proofs.Math.ListN.{length-take}
use Rattle.std.proofs.Math.Seq.{take-take}
use Rattle.model.specs.Table.{Words, has_node, node_start}
use Rattle.table_laws.proofs.Nodes.{has-node-iff}
use Rattle.node.specs.Word.{start_of, words_at}
use Rattle.node.proofs.Answers.{start-some}

-- where the code begins to read them
module _ (t : Words) (n : ℕ) (h : has_node t n ≡ true) (w : ℕ) (e : w ≡ start_of t n) where
  begins : w ≡ node_start n
  begins = e ∙ start-some t n h

  pub node-fits : w + 32 ≤ length t
  unfolding node_start
  node-fits = omega (arith, begins, (has-node-iff t n).0 h)

  -- of what is left of the table from there
  pub node-room : 32 ≤ length (take (length t - w) (drop w t))
  node-room = simp (length-take, length-drop) (omega (arith, node-fits))

  pub node-taken : {vs : Words} → vs ≡ take 32 (take (length t - w) (drop w t)) → vs ≡ words_at t n
  node-taken q = q ∙ take-take 32 (length t - w) (drop w t) (omega (arith, node-fits)) ∙ ap (λ (i : ℕ). take 32 (drop i t)) begins
