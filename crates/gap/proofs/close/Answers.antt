-- `gap::close` meets its contract.
use Rattle.std.proofs.Common.{◌≡◌, length, arith, rules}
use Rattle.model.specs.Table.{MARK}
use Rattle.gap.proofs.Around.{closed}
use Rattle.gap.proofs.close.Goals as goal

pub returns : goal.returns
returns c = let a = c.args in
    let u = c.seek_up in
    let l : length u.new.pairs ≡ length a.pairs.now = search rules in
    closed a.pairs.now u.new.pairs a.kept a.at u.result MARK (omega (arith, l, c.requires.room)) u.ensures.kept_after.0
    u.ensures.kept_after.1 u.ensures.under.1
    (λ j. omega (arith, c.type_inv.pairs j))
