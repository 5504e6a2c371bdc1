-- `recordings::is_suspect` meets its contract.
use Rattle.std.proofs.Common.{◌∙◌, eq-eqb}
use Rattle.recordings.proofs.RoundLaws.{suspect-first, suspect-later}
use Rattle.recordings.proofs.is_suspect.Goals as goal

pub returns-then-round-eq0 : goal.returns-then-round-eq0
returns-then-round-eq0 c = eq-eqb _ _ c.if-round-eq0.true ∙ suspect-first _ _ _ c.if-round-eq0.true

pub returns-else-round-eq0 : goal.returns-else-round-eq0
returns-else-round-eq0 c = c.has.ensures ∙ suspect-later _ _ _ _ c.if-round-eq0.false c.place.ensures.value
