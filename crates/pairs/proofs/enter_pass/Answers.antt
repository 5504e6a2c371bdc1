-- `pairs::enter_pass` meets its contract.
use Rattle.numbers.proofs.Once.{all-tells}
use Rattle.pairs.proofs.enter_pass.Goals as goal

pub returns : goal.returns
returns c = all-tells _ _ _ _ c.enter_all.ensures
