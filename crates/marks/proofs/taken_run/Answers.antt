-- `marks::taken_run` meets its contract.
use Rattle.std.proofs.Common.{◌/◌, sym, ◌∙◌, arith}
use Rattle.marks.proofs.Words.{taken-bits, taken-words, not-full, is-full}
use Rattle.marks.proofs.taken_run.Goals as goal

pub returns-then-not-full : goal.returns-then-not-full
returns-then-not-full c =
    let a = c.args in
    taken-bits a.marks.now a.n (omega (arith, c.type_inv.marks (a.n / 64))) (not-full _ _ (sym c.full.ensures ∙ c.if-not-full.true)) _
    (c.from.ensures ∙ c.trailing_ones.ensures)

pub returns : goal.returns
returns c = taken-words _ _ _ _ c.requires.last_bound (is-full _ _ (sym c.full.ensures ∙ c.if-not-full.false)) c.open_word-open.ensures
