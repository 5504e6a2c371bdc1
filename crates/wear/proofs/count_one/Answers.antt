-- `wear::count_one` meets its contract.
use Rattle.std.proofs.Common.{arith, ◌/◌}
use Rattle.wear.proofs.Turns.{no-stores}
use Rattle.wear.proofs.Tallying.{tally-inside, tally-one}
use Rattle.wear.proofs.count_one.Goals as goal

pub returns-in_default : goal.returns-in_default
returns-in_default c = let n =
    no-stores c.args.order c.in_default.not-Store in record { value = n.0; by_index_2 = λ l. omega (arith, n.1 l) }

pub bounds-lines-word : goal.bounds-lines-word
bounds-lines-word c = tally-inside c.args.order _ _ c.in-Store.is c.args.lines.now c.requires.each

pub overflow_add-lines : goal.overflow_add-lines
overflow_add-lines c = omega (arith, c.requires.by_index (c.in-Store.word / 8))

pub bounds-lines-word-2 : goal.bounds-lines-word-2
bounds-lines-word-2 c = tally-inside c.args.order _ _ c.in-Store.is c.args.lines.now c.requires.each

pub returns-clause-value : goal.returns-clause-value
returns-clause-value c =
    (tally-one c.args.order _ _ c.in-Store.is c.args.lines.now
    (tally-inside c.args.order _ _ c.in-Store.is c.args.lines.now c.requires.each)).0

pub returns-clause-by_index_2 : goal.returns-clause-by_index_2
returns-clause-by_index_2 c =
    (tally-one c.args.order _ _ c.in-Store.is c.args.lines.now
    (tally-inside c.args.order _ _ c.in-Store.is c.args.lines.now c.requires.each)).1
