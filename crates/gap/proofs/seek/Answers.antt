-- `gap::seek` meets its contract.
use Rattle.gap.proofs.Around.{sought}
use Rattle.gap.proofs.seek.Goals as goal

pub returns : goal.returns
returns c = let a = c.args in
    let u = c.seek_up in
    let d = c.seek_down-low in let both =
    sought a.pairs.now d.new.pairs u.new.pairs a.kept a.at d.result u.result a.key d.ensures.kept_after.0 d.ensures.under
    u.ensures.kept_after.0 u.ensures.kept_after.1 u.ensures.under in
    record { kept_after = both.0; under = both.1 }
