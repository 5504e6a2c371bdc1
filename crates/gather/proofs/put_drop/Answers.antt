-- `gather::put_drop` meets its contract.
use Rattle.std.proofs.Common.{◌*◌, [], ◌∷◌, arith}
use Rattle.pack.proofs.Filling.{written-over}
use Rattle.gather.specs.Held.{cause_number}
use Rattle.gather.proofs.put_drop.Goals as goal

pub returns : goal.returns
returns c = let a = c.args in
    written-over a.report.now (a.node ∷ a.place ∷ cause_number a.why ∷ []) _ (3 * a.count) _
    (rw c.from.ensures at c.copy_from_slice.ensures.after) (omega arith) (omega (arith, c.requires.0))
