-- `script_bytes::Text::put_answer` meets its contract.
use Rattle.std.proofs.Common.{◌*◌, arith}
use Rattle.script_bytes.proofs.Puts.{room-after, orders-most, puts-done, puts-refused}
use Rattle.script_bytes.proofs.Text.put_answer.Goals as goal

pub put_done-requires : goal.put_done-requires
put_done-requires c =
    let n = c.spoken_count-count.result in
    room-after (48 * n) 48 c.put_orders.ensures (orders-most c.args.list.now n) (omega (arith, c.requires, c.spoken_count-count.ensures))

pub returns-in-Ok : goal.returns-in-Ok
returns-in-Ok c =
    puts-done _ _ _ _ c.in-Ok.is c.spoken_count-count.ensures (omega (arith, c.requires, c.spoken_count-count.ensures))
    c.put_orders.ensures c.put_done.ensures

pub returns-in-Err : goal.returns-in-Err
returns-in-Err c = puts-refused _ _ _ _ c.in-Err.is c.from.ensures c.put_refused.ensures
