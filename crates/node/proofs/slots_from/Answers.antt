-- `node::slots_from` meets its contract.
use Rattle.std.proofs.Common.{◌*◌, arith, rules}
use Rattle.node.proofs.Loops.{copy-slot, copied}
use Rattle.node.proofs.slots_from.Goals as goal

pub loop-i-preserved : goal.loop-i-preserved
loop-i-preserved c = let l =
    c.loop-i in (search rules, copy-slot l.slots c.args.table.now c.args.first l.i (omega arith) (omega arith) l.invariant.1)

pub returns : goal.returns
returns c = let l = c.loop-i in copied l.slots c.args.table.now c.args.first 24 (2 * l.i) (omega arith) (omega arith)
    l.invariant.0 l.invariant.1
