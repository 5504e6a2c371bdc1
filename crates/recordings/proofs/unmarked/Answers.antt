-- `recordings::unmarked` meets its contract.
use Rattle.recordings.proofs.LastLaws.{word-none}
use Rattle.recordings.proofs.unmarked.Goals as goal

pub returns-then-marks-m-eq0-clause-none_of : goal.returns-then-marks-m-eq0-clause-none_of
returns-then-marks-m-eq0-clause-none_of c = word-none _ _ c.if-marks-m-eq0.true
