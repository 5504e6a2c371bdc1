-- `node::first_table` meets its contract.
use Rattle.std.proofs.Common.{◌≡◌, replicate, refl, ◌∙◌}
use Rattle.model.specs.Table.{length_ok, table_length, nodes_for, empty, empty_of, make_number, made}
use Rattle.node.proofs.first_table.Goals as goal

made-four : made 1 (replicate 136 0) ≡ empty 4
unfolding made make_number empty_of length_ok table_length nodes_for
made-four = refl

pub returns : goal.returns
returns c = c.make.ensures.table_after ∙ made-four
