-- `sentinels::whole_leaf` meets its contract.
use Rattle.sentinels.proofs.Searching.{whole-answer}
use Rattle.sentinels.proofs.whole_leaf.Goals as goal

pub returns : goal.returns
returns c = whole-answer c.args.table.now c.args.m c.requires.table_value c.requires.m_value c.args.key _ _ _ c.read-x.ensures
    c.find-held.ensures c.answer.ensures.value
