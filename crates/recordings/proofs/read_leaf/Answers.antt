-- `recordings::read_leaf` meets its contract.
use mathlib.Core.Path.{sym, ◌∙◌}
use Rattle.recordings.proofs.LeafLaws.{leaf-read, leaf-whole, same-one}
use Rattle.recordings.proofs.read_leaf.Goals as goal

pub returns-then-eq : goal.returns-then-eq
returns-then-eq c = let a = c.args in
    leaf-read a.table.now a.marks.now a.n _ _ c.read-x.ensures c.requires c.word.ensures
    (sym (same-one a.marks.now.uncut a.n) ∙ sym c.eq.ensures ∙ c.if-eq.true)

pub returns : goal.returns
returns c = let a = c.args in
    leaf-whole a.table.now a.marks.now a.n _ _ c.read-x.ensures c.requires
    (sym (same-one a.marks.now.uncut a.n) ∙ sym c.eq.ensures ∙ c.if-eq.false)
