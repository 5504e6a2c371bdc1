-- `short_scripts::act` meets its contract.
use Rattle.std.proofs.Common.{◌+◌, ◌≤◌, arith, rules}
use Rattle.short_scripts.proofs.Acting.{few-orders, acts-done, acts-refused}
use Rattle.short_scripts.proofs.act.Goals.{In-Ok}
use Rattle.short_scripts.proofs.act.Goals as goal

-- the orders of an accepted action are few
few : (c : In-Ok) → c.in-Ok.counts.stores + c.in-Ok.counts.flushes ≤ 1121
few c =
    let k = c.call-answer in
    few-orders c.args.action c.args.list.now c.args.table.now c.args.held.now (search rules) c.requires.table_value c.requires.table_value_2
    _ _ k.ensures.value c.in-Ok.is

pub overflow_add-count : goal.overflow_add-count
overflow_add-count c = omega (arith, few (goal.at.overflow_add-count c).In-Ok)

pub count_bad-bad-requires : goal.count_bad-bad-requires
count_bad-bad-requires c = omega (arith, few (goal.at.count_bad-bad-requires c).In-Ok)

pub overflow_add-result : goal.overflow_add-result
overflow_add-result c = omega (arith, few (goal.at.overflow_add-result c).In-Ok)

pub returns-in-Ok : goal.returns-in-Ok
returns-in-Ok c = let k = c.call-answer in record {
  acts = acts-done c.args.action c.args.list.now c.args.table.now c.args.held.now (search rules) c.requires.table_value
      c.requires.table_value_2 _ _ k.ensures.value c.in-Ok.is
      (search rules) _ c.change-next.ensures _ k.ensures.list_after _ c.count_bad-bad.ensures;
  table_after = k.ensures.table_after;
}

pub returns-in-Err : goal.returns-in-Err
returns-in-Err c = let k = c.call-answer in
    record {
      acts = acts-refused c.args.action c.args.list.now c.args.table.now c.args.held.now (search rules) c.requires.table_value
          c.requires.table_value_2 _ _ k.ensures.value c.in-Err.is;
      table_after = k.ensures.table_after;
    }
