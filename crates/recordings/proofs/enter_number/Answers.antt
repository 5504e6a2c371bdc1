-- `recordings::enter_number` meets its contract.
use Rattle.std.proofs.Common.{sym, ◌∙◌}
use Rattle.recordings.specs.Rounds.{suspect}
use Rattle.numbers.proofs.Once.{if-yes, if-no}
use Rattle.recordings.proofs.enter_number.Goals as goal

pub returns-then-not-is_suspect : goal.returns-then-not-is_suspect
returns-then-not-is_suspect c = let a = c.args in
    sym (if-no (suspect a.round a.twice.now) _ _ (sym c.is_suspect.ensures ∙ c.if-not-is_suspect.true))

pub returns : goal.returns
returns c = let a = c.args in
    c.enter.ensures ∙ sym (if-yes (suspect a.round a.twice.now) _ _ (sym c.is_suspect.ensures ∙ c.if-not-is_suspect.false))
