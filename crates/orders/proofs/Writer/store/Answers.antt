-- `orders::Writer::store` meets its contract.
use Rattle.std.proofs.Common.{arith, ap, ◌∙◌}
use Rattle.orders.specs.Desk.{Desk, stored_all}
use Rattle.orders.proofs.Turning.{room-due, room-place, rule-room, store-noted, store-done}
use Rattle.orders.proofs.Writer.store.Goals as goal

pub turn-requires : goal.turn-requires
turn-requires c = room-due _ _ c.requires

pub bounds-self-w : goal.bounds-self-w
bounds-self-w c = (room-place _ _ _ c.requires c.turn.ensures.is).word

pub put-requires : goal.put-requires
put-requires c = omega (arith, room-place _ _ _ c.requires c.turn.ensures.is)

pub overflow_add-self : goal.overflow_add-self
overflow_add-self c = omega (arith, room-place _ _ _ c.requires c.turn.ensures.is, ap (λ (d : Desk). d.pen.counts.stores) c.put.ensures.is)

pub rule-requires : goal.rule-requires
rule-requires c = rule-room _ _ _ (room-place _ _ _ c.requires c.turn.ensures.is) (store-noted _ _ _ c.put.ensures.is)

pub returns : goal.returns
unfolding stored_all
returns c =
    let m = c.rule.ensures in
    record {
      is = m.is ∙ store-done _ _ _ (store-noted _ _ _ c.put.ensures.is) c.turn.ensures.is;
      same_table = m.same_table ∙ c.put.ensures.same_table ∙ c.turn.ensures.same_table;
      same_list = m.same_list ∙ c.put.ensures.same_list ∙ c.turn.ensures.same_list;
    }
