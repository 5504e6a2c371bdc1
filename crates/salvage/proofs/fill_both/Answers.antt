-- `salvage::fill_both` meets its contract.
use Rattle.std.proofs.Common.{◌≡◌, ◌*◌, ◌≤◌, length, arith, rules}
use Rattle.salvage.proofs.Bounds.{words-some, one-few, few}
use Rattle.salvage.proofs.Both.{first-ready, part-fits, alone-filled, second-ready, beside-filled}
use Rattle.salvage.proofs.fill_both.Goals.{After-fill-f}
use Rattle.salvage.proofs.fill_both.Goals as goal

-- what the first collection drops, and the room that it leaves in the report
dropped-few : (c : After-fill-f) → c.fill-f.result.dropped ≤ 786420
dropped-few c = let k = one-few _ _ _ c.args.entered.toured in omega (arith, k, c.fill-f.ensures.dropped_bound)

report-left : (c : After-fill-f) → 3 * c.fill-f.result.dropped ≤ length c.fill-f.new.report
report-left c = let f = c.fill-f in
    let r = f.new.report in
    part-fits _ _ _ c.args.entered.toured c.args.report.now c.requires.3 r f.result.dropped f.ensures.dropped_bound (search rules)

pub fill-f-requires : goal.fill-f-requires
fill-f-requires c = first-ready _ _ _ c.args.entered.toured _ _ c.requires.0 c.requires.1 _ _ c.requires.2 c.requires.3

pub bounds-entered-3 : goal.bounds-entered-3
bounds-entered-3 c = let w = words-some _ _ _ c.args.entered.toured in omega (arith, w)

pub returns-then-entered-eq0 : goal.returns-then-entered-eq0
returns-then-entered-eq0 c = let f = c.fill-f in
    let both = alone-filled _ _ _ c.args.entered.toured _ _ c.requires.0 c.requires.1 _ _ c.requires.2 c.requires.3
    f.new.words f.new.report f.result.root f.result.dropped f.ensures.words_after.0 f.ensures.words_after.1 f.ensures.reported
    c.if-entered-eq0.true in record { words_after = both.0; one_value = both.1.0; reported = both.1.1 }

pub overflow_mul-w : goal.overflow_mul-w
overflow_mul-w c = let d = dropped-few (goal.at.overflow_mul-w c).After-fill-f in omega (arith, d)

pub offset_bounds-report-w : goal.offset_bounds-report-w
offset_bounds-report-w c = let d = dropped-few (goal.at.offset_bounds-report-w c).After-fill-f in omega (arith, d)

pub slice_bounds-fill-count : goal.slice_bounds-fill-count
slice_bounds-fill-count c = report-left (goal.at.slice_bounds-fill-count c).After-fill-f

pub slice_bounds-fill-start : goal.slice_bounds-fill-start
slice_bounds-fill-start c = report-left (goal.at.slice_bounds-fill-start c).After-fill-f

pub fill-g-requires : goal.fill-g-requires
fill-g-requires c = let a = c.args in
    let f = c.fill-f in
    let w = f.new.words in
    let r = f.new.report in
    let u : length w ≡ length a.words.now = search rules in
    let v : length r ≡ length a.report.now = search rules in
    second-ready _ _ _ c.args.entered.toured _ _ c.requires.0 c.requires.1 a.words.now a.report.now c.requires.2 c.requires.3
    w r f.result.root f.result.dropped f.ensures.words_after.0 f.ensures.words_after.1 f.ensures.reported c.if-entered-eq0.false
    f.ensures.dropped_bound v u

pub overflow_add-result : goal.overflow_add-result
overflow_add-result c = let b = few _ _ _ c.args.entered.toured _ _ c.fill-f.ensures.dropped_bound c.fill-g.ensures.dropped_bound in
    omega (arith, b.0, b.1)

pub returns : goal.returns
returns c = let f = c.fill-f in
    let g = c.fill-g in
    let both = beside-filled _ _ _ c.args.entered.toured _ _ c.requires.0 c.requires.1 _ _ c.requires.2 c.requires.3
    f.new.words f.new.report f.result.root f.result.dropped f.ensures.words_after.0 f.ensures.words_after.1
    f.ensures.reported c.if-entered-eq0.false
    g.new.words g.new.report g.result.root g.result.dropped g.ensures.words_after.0 g.ensures.words_after.1 g.ensures.reported in record
    { words_after = both.0; one_value = both.1.0; reported = both.1.1 }
