-- `shift::new_root` meets its contract.
use Rattle.std.proofs.Common.{refl, arith}
use Rattle.orders.proofs.Rest.{rest-first, rest-after, rest-next, rest-none}
use Rattle.shift.proofs.Splitting.{level-is, root-rest}
use Rattle.shift.proofs.new_root.Goals as goal

pub overflow_add-words : goal.overflow_add-words
overflow_add-words c =
    let t = c.table-table.ensures in
    let r = c.requires in
    omega (arith, level-is _ _ _ _ _ _ refl r.r_value (rw t at c.start-w.ensures) (rw t at c.word-level.ensures), r.word_bound_2)

pub put_words-requires : goal.put_words-requires
put_words-requires c =
    let t = c.table-table.ensures in
    let r = c.requires in
    let q = root-rest _ _ _ _ _ _ refl r.r_value (rw t at c.start-w.ensures) (rw t at c.word-level.ensures)
    {f = c.args.writer.now} r.room in
    rw t (rest-first _ _ q)

pub store-requires : goal.store-requires
store-requires c =
    let t = c.table-table.ensures in
    let r = c.requires in
    let q = root-rest _ _ _ _ _ _ refl r.r_value (rw t at c.start-w.ensures) (rw t at c.word-level.ensures)
    {f = c.args.writer.now} r.room in
    (rest-after _ _ q (rw t at c.put_words.ensures)).room

pub returns : goal.returns
returns c =
    let t = c.table-table.ensures in
    let r = c.requires in
    let q = root-rest _ _ _ _ _ _ refl r.r_value (rw t at c.start-w.ensures) (rw t at c.word-level.ensures)
    {f = c.args.writer.now} r.room in
    rest-none (rest-next (rest-after _ _ q (rw t at c.put_words.ensures)) c.store.ensures)
