-- `sentinels::fill` meets its contract. The loop keeps that the words of the nodes before n are set.
use Rattle.std.proofs.Common.{length, ap, ◌∙◌, arith}
use Rattle.two_laws.proofs.SearchTwo.{sound-head}
use Rattle.sentinel_laws.proofs.TrueWords.{length-anew}
use Rattle.sentinels.proofs.Refusing.{few-nodes}
use Rattle.sentinels.proofs.Setting.{fill-start, fill-more, fill-done}
use Rattle.sentinels.proofs.fill.Goals as goal

pub bounds-table-2 : goal.bounds-table-2
bounds-table-2 c = omega (arith, (few-nodes _ (sound-head _ c.requires.table_value)).0)

pub loop-n-init : goal.loop-n-init
loop-n-init c = (c.requires.words_len, fill-start c.args.table.now _ c.requires.words_len)

pub loop-n-preserved : goal.loop-n-preserved
loop-n-preserved c = let t = c.args.table.now in let words = c.args.words.now in
    let e = fill-more t words c.requires.words_len _ _ c.loop-n.n c.loop-n.invariant.1 (omega arith) (omega arith) c.renew.ensures in
    (ap length e ∙ length-anew _ t words c.requires.words_len, e)

pub returns : goal.returns
returns c = fill-done c.args.table.now c.args.words.now c.requires.words_len _ c.loop-n.n c.loop-n.invariant.1 (omega arith)

pub returns-2 : goal.returns-2
returns-2 c = let t = c.args.table.now in let words = c.args.words.now in
    let e = fill-more t words c.requires.words_len _ _ c.loop-n.n c.loop-n.invariant.1 (omega arith) (omega arith) c.renew.ensures in
    fill-done t words c.requires.words_len _ _ e (omega arith)
