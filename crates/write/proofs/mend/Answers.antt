-- `write::mend` meets its contract, by what is left.
use Rattle.orders.proofs.Rooms.{room-first}
use Rattle.orders.proofs.Rest.{room-as, stored-as, stored-none}
use Rattle.write.proofs.Mending.{nothing-stores, close-stores, close-there, attach-stores, cut-attach-stores, attach-plain, both-stores}
use Rattle.write.proofs.Mending.{parent-there, closed-plain, closed-room, closed-attached}
use Rattle.write.proofs.mend.Goals as goal

pub close-requires : goal.close-requires
close-requires c =
    let r = c.requires in
    let q = c.in-HiddenIn.is in
    record {
      n_value = close-there _ _ r.table_value r.table_value_2 _ q;
      room = room-as _ _ _ (close-stores _ _ r.table_value r.table_value_2 _ q) r.room;
    }

pub cut_attach-requires : goal.cut_attach-requires
cut_attach-requires c =
    let r = c.requires in
    let q = c.in-MissingIn.is in
    let n = attach-plain _ _ r.table_value r.table_value_2 _ _ _ q in
    record {
      p_value = n.0.there;
      p_value_2 = n.0.plain;
      a_value = n.1.there;
      a_value_2 = n.1.plain;
      room = room-as _ _ _ (cut-attach-stores _ _ r.table_value r.table_value_2 _ _ _ q c.if-trailing.true) r.room;
    }

pub attach-requires : goal.attach-requires
attach-requires c =
    let r = c.requires in
    let q = c.in-MissingIn.is in
    let n = attach-plain _ _ r.table_value r.table_value_2 _ _ _ q in
    record {
      p_value = n.0.there;
      p_value_2 = n.0.plain;
      room = room-as _ _ _ (attach-stores _ _ r.table_value r.table_value_2 _ _ _ q c.if-trailing.false) r.room;
    }

pub close-requires-in-BothIn : goal.close-requires-in-BothIn
close-requires-in-BothIn c =
    let r = c.requires in
    let q = c.in-BothIn.is in
    record {
      n_value = parent-there _ _ r.table_value r.table_value_2 _ _ q;
      room = room-first _ _ _ (room-as _ _ _ (both-stores _ _ r.table_value r.table_value_2 _ _ q) r.room);
    }

pub attach-requires-in-BothIn : goal.attach-requires-in-BothIn
attach-requires-in-BothIn c =
    let r = c.requires in
    let n = closed-plain c.args.writer.now _ r.table_value r.table_value_2 _ _ c.in-BothIn.is c.close-in-BothIn.ensures in
    record {
      p_value = n.there;
      p_value_2 = n.plain;
      room = closed-room c.args.writer.now _ r.table_value r.table_value_2 _ _ c.in-BothIn.is c.close-in-BothIn.ensures r.room;
    }

pub returns-in-Nothing : goal.returns-in-Nothing
returns-in-Nothing c = stored-as (nothing-stores _ _ c.requires.table_value c.requires.table_value_2 c.in-Nothing.is) stored-none

pub returns-in-HiddenIn : goal.returns-in-HiddenIn
returns-in-HiddenIn c = stored-as (close-stores _ _ c.requires.table_value c.requires.table_value_2 _ c.in-HiddenIn.is) c.close.ensures

pub returns-then-trailing : goal.returns-then-trailing
returns-then-trailing c =
    stored-as (cut-attach-stores _ _ c.requires.table_value c.requires.table_value_2 _ _ _ c.in-MissingIn.is c.if-trailing.true)
    c.cut_attach.ensures

pub returns-else-trailing : goal.returns-else-trailing
returns-else-trailing c =
    stored-as (attach-stores _ _ c.requires.table_value c.requires.table_value_2 _ _ _ c.in-MissingIn.is c.if-trailing.false)
    c.attach.ensures

pub returns-in-BothIn : goal.returns-in-BothIn
returns-in-BothIn c =
    let r = c.requires in
    closed-attached c.args.writer.now _ r.table_value r.table_value_2 _ _ c.in-BothIn.is c.close-in-BothIn.ensures
    c.attach-in-BothIn.ensures
