-- `quick_insert_many::insert_many` meets its contract.
use Rattle.std.proofs.Common.{refl, ap, ◌∙◌, arith}
use Rattle.model.specs.QuickBatch.{QuickBatched}
use Rattle.quick_insert_many.proofs.Going.{ahead-start, ahead-all}
use Rattle.quick_insert_many.proofs.insert_many.Goals as goal

pub loop-init : goal.loop-init
loop-init c = record
    { counted = refl; taken-are = refl; inside = omega (arith, c.default.ensures); same = ahead-start _ _ _ _ _ _ _ c.default.ensures }

pub returns : goal.returns
returns c =
    let a = c.args in
    let l = c.loop in
    let all = ahead-all a.collection a.dock a.pairs.now l.p l.list l.summary l.table
    (omega (arith, l.invariant.counted, l.invariant.taken-are, c.loop-test.false)) ∙ l.invariant.same in
    record {
      value = c.answer_of-2.ensures ∙ ap (λ (r : QuickBatched). r.batched.answer) all;
      table_after = ap (λ (r : QuickBatched). r.batched.table) all;
      list_after = ap (λ (r : QuickBatched). r.batched.list) all;
      summary_after = ap (λ (r : QuickBatched). r.summary) all;
    }
