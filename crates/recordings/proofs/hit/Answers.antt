-- `recordings::hit` meets its contract.
use Rattle.recordings.specs.Rounds.{hits}
use Rattle.std.proofs.Common.{true, false, sym, ap, ◌∙◌}
use Rattle.model.specs.Table.{Words}
use Rattle.recordings.proofs.RoundLaws.{hit-first, hit-later}
use Rattle.recordings.proofs.hit.Goals as goal

pub returns-then-has : goal.returns-then-has
returns-then-has c = let a = c.args in
    ap (λ (w : Words). hits a.once.now w true) c.put.ensures
    ∙ sym (hit-later a.at (hits a.once.now a.twice.now false) (sym c.has.ensures ∙ c.if-has.true))

pub returns : goal.returns
returns c = let a = c.args in
    ap (λ (w : Words). hits w a.twice.now false) c.put-2.ensures
    ∙ sym (hit-first a.at (hits a.once.now a.twice.now false) (sym c.has.ensures ∙ c.if-has.false))
