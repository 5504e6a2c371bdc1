-- `quick::writes` meets its contract.
use Rattle.model.specs.declared.Refusal.TheVariants.{NoDock, ShortList}
use Rattle.model.proofs.Numbers.{passes, fails}
use Rattle.quick.proofs.Beginning.{no-dock, short-list, list-serves}
use Rattle.quick.proofs.writes.Goals as goal

pub returns-then-dock-gt1 : goal.returns-then-dock-gt1
returns-then-dock-gt1 c = fails NoDock (no-dock _ _ c.if-dock-gt1.true)

pub returns-then-list_len-words_for : goal.returns-then-list_len-words_for
returns-then-list_len-words_for c = fails ShortList (short-list _ _ c.if-dock-gt1.false _ c.words_for.ensures c.if-list_len-words_for.true)

pub returns : goal.returns
returns c = passes (list-serves _ _ c.if-dock-gt1.false _ c.words_for.ensures c.if-list_len-words_for.false)
