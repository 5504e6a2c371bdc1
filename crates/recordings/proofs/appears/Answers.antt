-- `recordings::appears` meets its contract.
use Rattle.std.proofs.Common.{◌≤◌, refl, ℕ, map, ap, ◌+◌, ◌-◌, ◌∙◌, arith, rules, tests}
use Rattle.std.proofs.lemmas.Iterator.{serves_from_Range, YieldsList-from_range}
use Rattle.std.proofs.lemmas.Iterator.Search.{any_from_yields_List}
use Rattle.model.specs.Slots.{view, recording}
use Rattle.model.specs.SoundTest.{elem}
use Rattle.recordings.specs.Marked.{own}
use Rattle.recordings.proofs.RowLaws.{few-nodes, found-rows}
use Rattle.recordings.proofs.appears.Goals as goal

pub overflow_add-last : goal.overflow_add-last
overflow_add-last c = omega (arith, few-nodes _ _ c.word_at-last.result c.requires c.word_at-last.ensures)

pub any-requires-clause-callable : goal.any-requires-clause-callable
any-requires-clause-callable c = serves_from_Range (λ x q k. search rules) (λ x l u.
    let low : x ≤ 65535 = few-nodes _ _ _ c.requires c.word_at-last.ensures (omega arith) in search (rules, low))

pub returns : goal.returns
returns c = let a = c.args in
    any_from_yields_List (λ n. elem a.recording (map recording (own (view a.table.now) a.marks.now n))) _ _ c.any.result c.any.ensures.ran
    (YieldsList-from_range a.first (c.word_at-last.result + 1) _ refl (ap (λ (l : ℕ). l + 1 - a.first) c.word_at-last.ensures))
    (λ x b q k. search (rules, tests))
    ∙ found-rows _ _ _ _ _
