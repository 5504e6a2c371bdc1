-- `leaves::find_recording` meets its contract.
use Rattle.leaves.proofs.FoundLaws.{hit-chain}
use Rattle.leaves.proofs.find_recording.Goals as goal

pub returns : goal.returns
returns c = let a = c.args in hit-chain a.table.now a.root _ _ a.recording _ c.first_leaf-first.ensures
    c.word_at.ensures c.find_from.ensures
