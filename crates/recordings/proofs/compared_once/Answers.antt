-- `recordings::compared_once` meets its contract.
use Rattle.std.proofs.Common.{◌≤◌, refl, map, ◌+◌, ◌-◌, ◌∙◌, arith, rules, tests}
use Rattle.std.proofs.lemmas.Iterator.{serves_from_Range, YieldsList-from_range}
use Rattle.std.proofs.lemmas.Iterator.Search.{all_from_yields_List}
use Rattle.model.specs.Table.{nodes}
use Rattle.model.specs.Slots.{view, recording}
use Rattle.recordings.specs.Marked.{own, own_numbers, marked_pairs}
use Rattle.recordings.specs.Once.{once_before}
use Rattle.recordings.proofs.RowLaws.{few-nodes, once-rows}
use Rattle.recordings.proofs.compared_once.Goals as goal

pub overflow_add-last : goal.overflow_add-last
overflow_add-last c = omega (arith, few-nodes _ _ c.word_at-last.result c.requires c.word_at-last.ensures)

pub all-requires-clause-callable : goal.all-requires-clause-callable
all-requires-clause-callable c = serves_from_Range (λ x q k. search rules) (λ x l u.
    let low : x ≤ 65535 = few-nodes _ _ _ c.requires c.word_at-last.ensures (omega arith) in search (rules, low))

pub returns : goal.returns
returns c = let a = c.args in
    let N = nodes a.table.now in
    all_from_yields_List
    (λ n. once_before (map recording (own (view a.table.now) a.marks.now n))
    (own_numbers (view a.table.now) a.marks.now (n + 1) (N + 1 - (n + 1))))
    _ _ c.all.result c.all.ensures.ran (YieldsList-from_range 1 (c.word_at-last.result + 1) N refl (omega (arith, c.word_at-last.ensures)))
    (λ x b q k. search (rules, tests))
    ∙ once-rows _ _ N N 1 (omega arith) ∙ (unfold marked_pairs in refl)
