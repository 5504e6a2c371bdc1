-- `wear::wear` meets its contract, by the tests in their order.
use Rattle.std.proofs.Common.{◌≡◌, ℕ, ◌*◌, ◌/◌, true, length, drop, sym, refl, ap, ◌∙◌, arith, length-take-le}
use Rattle.model.specs.Orders.{decode}
use Rattle.model.specs.Wear.{wear_of}
use Rattle.list_laws.proofs.Tools.{handed-on}
use Rattle.model.proofs.Numbers.{passed-zero, failed-some, failed-with}
use Rattle.wear.proofs.Answers.{Inside, part-length, part-most, no-header, outside, all-inside, few-lines, marks-enough, marks-hold}
use Rattle.wear.proofs.Answers.{lines-hold, pairs-few, few-pairs, done}
use Rattle.wear.proofs.wear.Goals.{After-all_inside}
use Rattle.wear.proofs.wear.Goals as goal

-- what the tests of the header and of the orders left
inside : (c : After-all_inside) → c.all_inside.result ≡ true → Inside c.args.list.now c.args.table.now
inside c y = all-inside c.args.list.now c.args.table.now (passed-zero _ (sym c.header.ensures ∙ c.in_ok-header.was))
    _ c.all_inside.ensures y

pub returns-in_err-header : goal.returns-in_err-header
returns-in_err-header c =
    let e = sym c.header.ensures ∙ c.in_err-header.was in
    let both = no-header c.args.list.now c.args.table.now (failed-some _ e) c.args.lines.now c.args.pairs.now in
    record {
      value = rw (handed-on c.from_residual.ensures.1) (sym (failed-with _ e) ∙ both.0);
      lines_after = both.1.0;
      pairs_after = both.1.1;
    }

pub returns-then-not-all_inside : goal.returns-then-not-all_inside
returns-then-not-all_inside c =
    let z = passed-zero _ (sym c.header.ensures ∙ c.in_ok-header.was) in
    let both = outside c.args.list.now c.args.table.now z _ c.all_inside.ensures c.if-not-all_inside.true
    c.args.lines.now c.args.pairs.now in
    record { value = both.0; lines_after = both.1.0; pairs_after = both.1.1 }

pub returns-then-lines-k : goal.returns-then-lines-k
returns-then-lines-k c = let i = inside (goal.at.returns-then-lines-k c).After-all_inside c.if-not-all_inside.false in let both =
    few-lines _ _ i c.args.lines.now c.args.pairs.now c.if-lines-k.true in record
    { value = both.0; lines_after = both.1.0; pairs_after = both.1.1 }

pub mark-requires : goal.mark-requires
mark-requires c = let i = inside (goal.at.mark-requires c).After-all_inside c.if-not-all_inside.false in
    marks-hold _ _ i 32768 refl

pub count_pairs-n-requires : goal.count_pairs-n-requires
count_pairs-n-requires c = let i = inside (goal.at.count_pairs-n-requires c).After-all_inside c.if-not-all_inside.false in
    marks-enough _ _ i _ c.mark.array_long

pub overflow_mul-end : goal.overflow_mul-end
overflow_mul-end c = let i = inside (goal.at.overflow_mul-end c).After-all_inside c.if-not-all_inside.false in
    omega (arith, marks-enough _ _ i _ c.mark.array_long, pairs-few _ _ i _ c.mark.ensures _ c.count_pairs-n.ensures)

pub returns-then-pairs-end : goal.returns-then-pairs-end
returns-then-pairs-end c = let i = inside (goal.at.returns-then-pairs-end c).After-all_inside c.if-not-all_inside.false in let both =
    few-pairs _ _ i _ c.mark.ensures _ c.count_pairs-n.ensures c.args.lines.now c.args.pairs.now c.if-lines-k.false c.if-pairs-end.true in
    record { value = both.0; lines_after = both.1.0; pairs_after = both.1.1 }

pub slice_bounds-write_pairs-end-2 : goal.slice_bounds-write_pairs-end-2
slice_bounds-write_pairs-end-2 c = sym (length-take-le _ c.args.pairs.now (omega arith))

pub write_pairs-requires : goal.write_pairs-requires
write_pairs-requires c = let i = inside (goal.at.write_pairs-requires c).After-all_inside c.if-not-all_inside.false in
    let cut = length-take-le (2 * c.count_pairs-n.result) c.args.pairs.now (omega arith) in record
    { len_bound = marks-enough _ _ i _ c.mark.array_long; pairs_len = omega (arith, cut, c.count_pairs-n.ensures) }

pub slice_bounds-count_stores-end-2 : goal.slice_bounds-count_stores-end-2
slice_bounds-count_stores-end-2 c = sym (length-take-le _ c.args.lines.now (omega arith))

pub count_stores-total-requires : goal.count_stores-total-requires
count_stores-total-requires c = let i = inside (goal.at.count_stores-total-requires c).After-all_inside c.if-not-all_inside.false in
    lines-hold _ _ i _ (length-take-le _ c.args.lines.now (omega arith))

pub slice_bounds-worst-end-2 : goal.slice_bounds-worst-end-2
slice_bounds-worst-end-2 c = let k = length c.args.table.now / 8 in
    let cut = length-take-le k c.args.lines.now (omega arith) in
    part-length c.count_stores-total.new.lines (drop k c.args.lines.now) k (c.count_stores-total.auto.lines ∙ cut)

pub returns : goal.returns
returns c = let i = inside (goal.at.returns c).After-all_inside c.if-not-all_inside.false in
    let k = length c.args.table.now / 8 in
    let cut = length-take-le k c.args.lines.now (omega arith) in
    let lines = c.count_stores-total.new.lines in
    let worn = c.count_stores-total.ensures.lines_after ∙ ap (λ (n : ℕ). wear_of (8 * n) (decode c.args.list.now)) cut in
    let most = part-most lines (drop k c.args.lines.now) k (c.count_stores-total.auto.lines ∙ cut) _ _
    (c.worst-m.ensures.largest_value, c.worst-m.ensures.first_value) in let both =
    done _ _ i _ c.mark.ensures _ c.count_pairs-n.ensures c.args.lines.now c.args.pairs.now
    c.if-lines-k.false c.if-pairs-end.false _ _ _ lines _ c.count_stores-total.ensures.value worn most c.write_pairs.ensures in record
    { value = both.0; lines_after = both.1.0; pairs_after = both.1.1 }
