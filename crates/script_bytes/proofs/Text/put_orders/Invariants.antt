-- `script_bytes::Text::put_orders` meets its contract. The loop's invariant: the lines of the orders left, put now, are those of all that
-- are asked.
use Rattle.std.proofs.Common.{◌≡◌, ◌*◌, take}
use Rattle.std.specs.Slice.Iter.{chunks_exact_rest, chunks_exact_size}
use Rattle.std.specs.Iterator.Adapters.{take_source, take_count}
use Rattle.model.specs.Orders.{decode}
use Rattle.script_bytes.specs.declared.Text.{Text}
use Rattle.script_bytes.specs.Text.{order_lines, Room, Puts}
use Rattle.script_bytes.proofs.Text.put_orders.Given as goal

abbrev pub invariant-loop-pair : goal.invariant-loop-pair
invariant-loop-pair l = record {
  pairs : chunks_exact_size (take_source l.pair-iterator) ≡ 2;
  room : Room (48 * take_count l.pair-iterator) l.self;
  text : (z : Text) → Puts
      (order_lines (take (take_count l.pair-iterator) (decode (chunks_exact_rest (take_source l.pair-iterator))))) l.self z
      → Puts (order_lines (take l.count (decode l.list))) l.initial.self z;
}
