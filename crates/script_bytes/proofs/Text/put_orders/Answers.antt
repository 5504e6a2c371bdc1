-- `script_bytes::Text::put_orders` meets its contract.
use Rattle.std.proofs.Common.{◌∙◌, ◌*◌, arith}
use Rattle.std.specs.Iterator.Adapters.{take_count}
use Rattle.script_bytes.proofs.Decimal.{order-most}
use Rattle.script_bytes.proofs.Puts.{room-after, orders-next, orders-end}
use Rattle.script_bytes.proofs.Text.put_orders.Goals as goal

pub loop-pair-preserved : goal.loop-pair-preserved
loop-pair-preserved c = let l = c.loop-pair in let s = c.in-Some.ensures.steps in record {
  pairs = s.0.0 ∙ l.invariant.pairs;
  room = room-after 48 (48 * take_count c.next.new.self) c.put_order.ensures (order-most _) (omega (arith, l.invariant.room, s.1));
  text = λ z p. l.invariant.text z
      (orders-next _ _ _ _ _ s.1 s.0.1.0 (s.0.1.1 ∙ l.invariant.pairs) (omega (arith, l.invariant.room, s.1)) c.put_order.ensures p);
}

pub returns : goal.returns
returns c = let l = c.loop-pair in l.invariant.text _
    (orders-end _ _ (λ h. omega (arith, l.invariant.pairs, (c.in-None.ensures.steps h).1.0)))
