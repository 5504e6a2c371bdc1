-- `pack::put_words` meets its contract.
use Rattle.std.proofs.Common.{arith, rules}
use Rattle.pack.proofs.Filling.{written-over}
use Rattle.pack.proofs.put_words.Goals as goal

pub returns : goal.returns
returns c = written-over c.args.nodes.now c.args.words _ c.args.w _ c.copy_from_slice.ensures.after (search rules) (omega arith)
