-- `insert_many::insert_many` meets its contract.
use mathlib.Core.Path.{sym, ◌∙◌}
use Rattle.model.specs.Slots.{slot}
use Rattle.model.specs.Batch.{insertion_of}
use Rattle.write.proofs.Judging.{judged-ready}
use Rattle.insert_many.proofs.Going.{gives-none, gives-refused, gives-all}
use Rattle.insert_many.proofs.insert_many.Goals as goal

pub returns-then-pairs-lt2 : goal.returns-then-pairs-lt2
returns-then-pairs-lt2 c = let a = c.args in
    let g = gives-none a.collection a.dock a.pairs.now a.list.now a.table.now c.if-pairs-lt2.true _ c.stopped.ensures in record
    { value = g.0; table_after = g.1.0; list_after = g.1.1 }

-- the table is ready for the call of any pair
pub take_all-requires : goal.take_all-requires
take_all-requires c = let p = judged-ready (insertion_of c.args.collection (slot 0 0)) _ _ _ _ (sym c.judge.ensures ∙ c.in-Ok.is) in
    record { found = p.found; table_value = p.collection; dock_bound = p.dock-ok }

pub returns-in-Err : goal.returns-in-Err
returns-in-Err c = let a = c.args in
    let g = gives-refused a.collection a.dock a.pairs.now a.list.now a.table.now c.if-pairs-lt2.false _ (sym c.judge.ensures ∙ c.in-Err.is)
    _ c.stopped-in-Err.ensures in
    record { value = g.0; table_after = g.1.0; list_after = g.1.1 }

pub returns-in-Ok : goal.returns-in-Ok
returns-in-Ok c = let a = c.args in
    let g = gives-all a.collection a.dock a.pairs.now a.list.now a.table.now c.take_all.result _ _ c.take_all.ensures in record
    { value = g.0; table_after = g.1.0; list_after = g.1.1 }
