-- `sentinel_writes::with_words` meets its contract.
use mathlib.Core.Path.{sym, ◌∙◌}
use Rattle.list_laws.proofs.Tools.{handed-on}
use Rattle.model.proofs.Numbers.{passed-zero}
use Rattle.sentinels.proofs.Keeping.{keep-not, keep-asks, keep-gives}
use Rattle.sentinel_writes.proofs.with_words.Goals as goal

pub returns-in_err-tested : goal.returns-in_err-tested
returns-in_err-tested g c x dock m =
    let a = c.args in
    rw (handed-on c.from_residual.ensures.1) (keep-not x a.list.now a.words.now a.table.now dock _ (sym m.test ∙ c.in_err-tested.was))

pub keep-requires : goal.keep-requires
keep-requires g c =
    let a = c.args in
    let x = c.requires.makes.0 in
    let dock = c.requires.makes.1 in
    let m = c.requires.makes.2 in
    let d = m.does _ _ _ _ _ c.change-answer.ensures in
    keep-asks x a.list.now a.words.now a.table.now dock (passed-zero _ (sym m.test ∙ c.in_ok-tested.was)) _ _ a.words.now _
    d.answered d.table d.listed

pub returns : goal.returns
returns g c x dock m =
    let a = c.args in
    let d = m.does _ _ _ _ _ c.change-answer.ensures in
    keep-gives x a.list.now a.words.now a.table.now dock (passed-zero _ (sym m.test ∙ c.in_ok-tested.was)) _ _ _ _ d.answered
    d.table d.listed c.keep.ensures
