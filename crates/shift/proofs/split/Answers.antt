-- `shift::split` meets its contract.
use Rattle.std.proofs.Common.{arith}
use Rattle.orders.proofs.Rest.{rest-first, rest-after, rest-one, rest-next, rest-all, rest-size}
use Rattle.shift.proofs.Splitting.{Parts, parts, six, split-rest}
use Rattle.shift.proofs.split.Goals.{After-new-parent}
use Rattle.shift.proofs.split.Goals as goal

-- what was read before the first store
parts-at : (c : After-new-parent) → let a =
    c.args in Parts a.writer.now.table.now a.a a.b a.p c.start-upper.result c.new-full.result c.new-parent.result
parts-at c =
    let r = c.requires in
    parts c.new-full.ensures r.a_value_2 r.in_bounds r.b_value (rw c.table.ensures at c.start-upper.ensures)
    c.new-parent.ensures r.p_value_2

pub upper_words-requires : goal.upper_words-requires
upper_words-requires c = six (parts-at (goal.at.upper_words-requires c).After-new-parent)

pub put_words-requires : goal.put_words-requires
put_words-requires c =
    let s = split-rest (parts-at (goal.at.put_words-requires c).After-new-parent) c.upper_words.ensures
    {f = c.args.writer.now} c.requires.room in
    rest-first _ _ s

pub overflow_add-full : goal.overflow_add-full
overflow_add-full c =
    let s = split-rest (parts-at (goal.at.overflow_add-full c).After-new-parent) c.upper_words.ensures
    {f = c.args.writer.now} c.requires.room in
    let q = rest-after _ _ s c.put_words.ensures in
    omega (arith, (rest-one q).inside.0, rest-size _ _ q, c.well_formed)

pub store-requires : goal.store-requires
store-requires c =
    let s = split-rest (parts-at (goal.at.store-requires c).After-new-parent) c.upper_words.ensures
    {f = c.args.writer.now} c.requires.room in
    rest-one (rest-after _ _ s c.put_words.ensures)

pub put-requires : goal.put-requires
put-requires c =
    let s = split-rest (parts-at (goal.at.put-requires c).After-new-parent) c.upper_words.ensures {f = c.args.writer.now} c.requires.room in
    rest-one (rest-next (rest-after _ _ s c.put_words.ensures) c.store.ensures)

pub slot_in-requires : goal.slot_in-requires
slot_in-requires c =
    let s = split-rest (parts-at (goal.at.slot_in-requires c).After-new-parent) c.upper_words.ensures
    {f = c.args.writer.now} c.requires.room in
    (rest-next (rest-next (rest-after _ _ s c.put_words.ensures) c.store.ensures) c.put.ensures).room

pub returns : goal.returns
returns c =
    let s = split-rest (parts-at (goal.at.returns c).After-new-parent) c.upper_words.ensures {f = c.args.writer.now} c.requires.room in
    rest-all (rest-next (rest-next (rest-after _ _ s c.put_words.ensures) c.store.ensures) c.put.ensures) c.slot_in.ensures
