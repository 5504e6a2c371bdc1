-- `quick_delete::delete` meets its contract.
use Rattle.std.proofs.Common.{sym, refl, ◌∙◌, arith, rules}
use Rattle.list_laws.proofs.Tools.{handed-on}
use Rattle.table_laws.proofs.Header.{header-iff}
use Rattle.orders.proofs.Rest.{room-as, stored-as}
use Rattle.quick.proofs.Ending.{call-room, finish-room, done-call}
use Rattle.quick_delete.proofs.Calling.{find-refuses, lent-refuses, key-refuses, Ready, ready, nodes-fit, collection-fits, begun}
use Rattle.quick_delete.proofs.delete.Goals.{In_ok-pointer}
use Rattle.quick_delete.proofs.delete.Goals as goal

pub returns-in_err-found : goal.returns-in_err-found
returns-in_err-found c =
    let all = find-refuses _ _ _ _ _ _ c.in_err-found.ensures.number in
    record {
      value = rw (handed-on c.from_residual.ensures.1) all.value;
      table_after = all.table_after;
      list_after = all.list_after;
      summary_after = all.summary_after;
    }

pub returns-in_err-writes : goal.returns-in_err-writes
returns-in_err-writes c =
    let all = lent-refuses _ _ _ _ _ _ c.in_ok-found.ensures.number (sym c.in_err-writes.ensures) in
    record {
      value = rw (handed-on c.from_residual-in_err-writes.ensures.1) all.value;
      table_after = all.table_after;
      list_after = all.list_after;
      summary_after = all.summary_after;
    }

pub returns-in_err-pointer : goal.returns-in_err-pointer
returns-in_err-pointer c =
    let all = key-refuses _ _ _ _ _ _ c.in_ok-found.ensures.number (sym c.in_ok-writes.ensures) (c.in_ok-found.ensures.found _ refl)
    c.in_err-pointer.ensures.value in
    record {
      value = rw (handed-on c.from_residual-in_err-pointer.ensures.1) all.value;
      table_after = all.table_after;
      list_after = all.list_after;
      summary_after = all.summary_after;
    }

ready-at : (c : In_ok-pointer) → let a =
    c.args in Ready a.collection a.key a.dock a.table.now a.list.now a.summary.now c.in_ok-found.found c.in_ok-pointer.pointer
ready-at c = ready _ _ _ _ _ _ c.in_ok-found.ensures.number (sym c.in_ok-writes.ensures) (c.in_ok-found.ensures.found _ refl)
    c.in_ok-pointer.ensures.ok_part

pub bounds-table-2 : goal.bounds-table-2
bounds-table-2 c = omega (arith, ((header-iff _).0 (ready-at (goal.at.bounds-table-2 c).In_ok-pointer).through.header).size.long)

pub take_out-requires : goal.take_out-requires
take_out-requires c =
    let r = ready-at (goal.at.take_out-requires c).In_ok-pointer in
    record { takes = r.takes; room = room-as _ _ _ r.stores (call-room (begun r c.new.ensures)) }

pub forget-requires : goal.forget-requires
forget-requires c =
    let r = ready-at (goal.at.forget-requires c).In_ok-pointer in
    let n = collection-fits r in
    record {
      summary_len = r.through.long;
      nodes_value = nodes-fit r;
      leaf_bound = r.leaf;
      collection_value = (omega (arith, n.0), omega (arith, n.1));
    }

pub finish-requires : goal.finish-requires
finish-requires c =
    let r = ready-at (goal.at.finish-requires c).In_ok-pointer in
    finish-room (begun r c.new.ensures) (stored-as r.stores c.take_out.ensures)

pub returns : goal.returns
returns c =
    let r = ready-at (goal.at.returns c).In_ok-pointer in
    let all = done-call (begun r c.new.ensures) (stored-as r.stores c.take_out.ensures) c.finish.ensures.writer c.finish.ensures.counts
    (c.forget.ensures ∙ r.words) in
    record {
      value = all.0.value;
      table_after = search (rules, all.1.0, all.0.table_after);
      list_after = search (rules, all.1.1, all.0.list_after);
      summary_after = all.0.summary_after;
    }
