-- `script_bytes::Text::put_order` meets its contract, by the kind of the order.
use Rattle.model.specs.Printer.{order_text}
use Rattle.script_bytes.proofs.Puts.{order-line}
use Rattle.script_bytes.proofs.Text.put_order.Goals as goal

pub returns-in-Flush : goal.returns-in-Flush
unfolding order_text
returns-in-Flush c = rw (order-line _ _ c.from.result c.from.ensures c.in-Flush.is) c.put_line.ensures

pub returns-in-Store : goal.returns-in-Store
unfolding order_text
returns-in-Store c = rw (order-line _ _ c.from.result c.from.ensures c.in-Store.is) c.put_line-in-Store.ensures

pub returns-in-Barrier : goal.returns-in-Barrier
unfolding order_text
returns-in-Barrier c = rw (order-line _ _ c.from.result c.from.ensures c.in-Barrier.is) c.put_line-in-Barrier.ensures
