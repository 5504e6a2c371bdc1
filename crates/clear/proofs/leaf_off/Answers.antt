-- `clear::leaf_off` meets its contract.
use Rattle.std.proofs.Common.{rules, tests, ap, ◌∙◌, ◌-◌, ◌≤◌, length, arith}
use Rattle.std.proofs.lemmas.Iterator.{YieldsList-from_slice}
use Rattle.std.proofs.lemmas.Iterator.Search.{all_from_yields_List}
use Rattle.model.specs.Table.{root}
use Rattle.model.specs.Slots.{recording_of}
use Rattle.model.specs.SoundTest.{all}
use Rattle.leaves.proofs.HitLaws.{some-way, kept-ways}
use Rattle.slots.specs.Gathered.{ways_from}
use Rattle.clear.specs.New.{off, off_pair}
use Rattle.clear.proofs.Looking.{listed-ways}
use Rattle.clear.proofs.leaf_off.Goals as goal

pub slice_bounds-iter-start : goal.slice_bounds-iter-start
slice_bounds-iter-start c = some-way _ _ c.ways_of-w.result c.ways_of-w.ensures

pub slice_bounds-iter-count : goal.slice_bounds-iter-count
slice_bounds-iter-count c = some-way _ _ c.ways_of-w.result c.ways_of-w.ensures

pub returns : goal.returns
unfolding ways_from
returns c = let a = c.args in let w = c.ways_of-w.result in
    let some : 1 ≤ w.count = some-way _ _ w c.ways_of-w.ensures in
    let high : w.count ≤ length w.pointers = omega arith in
    all_from_yields_List (λ p. off a.cells.now (recording_of p)) _ _ c.all.result c.all.ensures.ran (YieldsList-from_slice _ (cc))
    (λ x b q k. search (rules, tests))
    ∙ listed-ways a.cells.now w.keys w.pointers 1 (w.count - 1) (omega arith)
    ∙ ap (all (off_pair a.cells.now)) (kept-ways a.table.now (root a.table.now) a.leaf w c.ways_of-w.ensures)
