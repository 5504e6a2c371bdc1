-- `recordings::pairs_ok` meets its contract.
use Rattle.std.proofs.Common.{◌≤◌, refl, ◌+◌, ◌∙◌, arith, rules, tests}
use Rattle.std.proofs.lemmas.Iterator.{serves_from_Range, YieldsList-from_range}
use Rattle.std.proofs.lemmas.Iterator.Search.{all_from_yields_List}
use Rattle.model.specs.Slots.{view}
use Rattle.model.specs.SoundTest.{all, pair_ok}
use Rattle.recordings.specs.Marked.{own}
use Rattle.recordings.proofs.RowLaws.{few-marked, row-marked, pairs-rows}
use Rattle.recordings.proofs.pairs_ok.Goals as goal

pub overflow_add-last : goal.overflow_add-last
overflow_add-last c = omega (arith, few-marked _ _ _ c.last_marked-last.result c.requires c.last_marked-last.ensures)

pub all-requires-clause-callable : goal.all-requires-clause-callable
all-requires-clause-callable c = serves_from_Range (λ x q k. search rules) (λ x l u.
    let low : x ≤ 65535 = few-marked _ _ _ _ c.requires c.last_marked-last.ensures (omega arith) in search (rules, low))

pub returns : goal.returns
returns c = let a = c.args in
    all_from_yields_List (λ n. all pair_ok (own (view a.table.now) a.marks.now n)) _ _ c.all.result c.all.ensures.ran
    (YieldsList-from_range 1 (c.last_marked-last.result + 1) _ refl refl) (λ x b q k. search (rules, tests))
    ∙ pairs-rows _ _ _ _ ∙ row-marked (all pair_ok) _ _ _ c.last_marked-last.ensures
