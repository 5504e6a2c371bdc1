-- `quick::mark_words` meets its contract.
use Rattle.quick.proofs.Beginning.{mark-words-is}
use Rattle.quick.proofs.mark_words.Goals as goal

pub returns : goal.returns
returns c = mark-words-is _
