-- `opening::write_summary` meets its contract.
use Rattle.std.proofs.Common.{◌≡◌, ap, ◌∙◌, rules, length}
use Rattle.std.proofs.Math.ListN.{replicate}
use Rattle.model.specs.Summary.{mark_words}
use Rattle.opening.proofs.Call.{some-nodes, some-cells, is-written}
use Rattle.opening.proofs.write_summary.Goals as goal

pub enter_both-requires-clause-cells_nonzero : goal.enter_both-requires-clause-cells_nonzero
enter_both-requires-clause-cells_nonzero c = let a = c.args in let t = a.table.now in
    let f : c.fill.new.self ≡ replicate (length a.summary.now) 0 = search rules in
    some-cells t _ _ _ c.requires.summary_len f (c.mark_words-w.ensures ∙ ap mark_words c.word_at.ensures)
    (some-nodes t c.requires.table_value) _ c.split_at_mut-marks.ensures.back

pub returns : goal.returns
returns c = let a = c.args in let t = a.table.now in let s = c.split_at_mut-marks.ensures in let e = c.enter_both.ensures in
    let f : c.fill.new.self ≡ replicate (length a.summary.now) 0 = search rules in
    is-written t _ _ _ c.requires.summary_len f (c.mark_words-w.ensures ∙ ap mark_words c.word_at.ensures) _ _ _ _ s.front s.back
    e.marks_after e.cells_after
