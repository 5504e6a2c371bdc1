-- `short_scripts::length_of` meets its contract.
use Rattle.std.proofs.Common.{sym, arith}
use Rattle.short_laws.proofs.Rank.{script-length}
use Rattle.short_scripts.proofs.length_of.Goals as goal

pub returns-in-0 : goal.returns-in-0
returns-in-0 c = sym (script-length 0 c.args.number (omega arith) (omega arith) (omega arith))

pub returns-in-1-to-6 : goal.returns-in-1-to-6
returns-in-1-to-6 c = sym (script-length 1 c.args.number (omega arith) (omega arith) (omega arith))

pub returns-in-7-to-42 : goal.returns-in-7-to-42
returns-in-7-to-42 c = sym (script-length 2 c.args.number (omega arith) (omega arith) (omega arith))

pub returns-in-43-to-258 : goal.returns-in-43-to-258
returns-in-43-to-258 c = sym (script-length 3 c.args.number (omega arith) (omega arith) (omega arith))

pub returns-in_default : goal.returns-in_default
returns-in_default c = sym (script-length 4 c.args.number (omega arith) (omega arith) (omega arith))
