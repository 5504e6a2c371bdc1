-- `short_scripts::call` meets its contract.
use Rattle.std.proofs.Common.{◌≡◌, length, rules}
use Rattle.short_scripts.proofs.Comparing.{call-inserts, call-deletes}
use Rattle.short_scripts.proofs.call.Goals as goal

pub returns-in-Insert : goal.returns-in-Insert
returns-in-Insert c = let e = call-inserts _ _ _ c.from.ensures c.in-Insert.is in
    let l : length c.args.list.now ≡ 2560 = search rules in
    let v = rw l at c.insert.ensures.value in
    let t = rw l at c.insert.ensures.table_after in
    record { value = rw (← e) v; table_after = rw (← e) t; list_after = rw (← e) c.insert.ensures.list_after }

pub returns-in-Delete : goal.returns-in-Delete
returns-in-Delete c = let e = call-deletes _ _ _ c.from.ensures c.in-Delete.is in
    let l : length c.args.list.now ≡ 2560 = search rules in
    let v = rw l at c.delete.ensures.value in
    let t = rw l at c.delete.ensures.table_after in
    record { value = rw (← e) v; table_after = rw (← e) t; list_after = rw (← e) c.delete.ensures.list_after }
