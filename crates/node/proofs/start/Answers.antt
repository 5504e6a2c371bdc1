-- `node::start` meets its contract.
use Rattle.std.proofs.Common.{◌≡◌, ℕ, ◌+◌, ◌*◌, ◌≤◌, Bool, true, false, length, sym, ◌∙◌, arith, rules}
use Rattle.model.specs.Table.{Words, has_node, node_start}
use Rattle.table_laws.proofs.Nodes.{has-node-iff}
use Rattle.node.proofs.Answers.{start-none, start-some}
use Rattle.node.proofs.start.Goals as goal

inside : (t : Words) (i : ℕ) (r : Bool) → r ≡ has_node t i → r ≡ true → (1 ≤ i) × (8 + 32 * i ≤ length t)
inside t i r e h = (has-node-iff t i).0 (sym e ∙ h)

pub returns-then-not-has : goal.returns-then-not-has
returns-then-not-has c = let h : c.has.result ≡ false = search rules in sym (start-none _ _ (sym c.has.ensures ∙ h))

pub overflow_sub-result : goal.overflow_sub-result
overflow_sub-result c = omega (arith, inside _ _ _ c.has.ensures (search rules))

pub overflow_mul-result : goal.overflow_mul-result
overflow_mul-result c = record { fits = omega (arith, inside _ _ _ c.has.ensures (search rules)) }

pub overflow_add-result : goal.overflow_add-result
overflow_add-result c = record { fits = omega (arith, inside _ _ _ c.has.ensures (search rules)) }

pub returns : goal.returns
unfolding node_start
returns c = let h : c.has.result ≡ true = search rules in sym (start-some _ _ (sym c.has.ensures ∙ h))
