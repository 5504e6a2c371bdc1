-- `salvage::salvage` meets its contract.
use Rattle.std.proofs.Common.{◌≡◌, ◌≤◌, true, false, sym, ◌∙◌, arith}
use Rattle.model.specs.Table.{header_ok, nodes}
use Rattle.model.specs.Salvage.{outgrows}
use Rattle.list_laws.proofs.Tools.{handed-on}
use Rattle.model.proofs.Numbers.{failed-some, failed-with}
use Rattle.salvage.specs.Parts.{needed_both}
use Rattle.salvage.proofs.Entering.{header-size}
use Rattle.salvage.proofs.Bounds.{grown, fits}
use Rattle.salvage.proofs.Call.{header-good, refused-header, refused-length, refused-report, refused-outgrown, salvaged}
use Rattle.salvage.proofs.salvage.Goals.{In_ok-header, Else-top-needed_both}
use Rattle.salvage.proofs.salvage.Goals as goal

-- what the tests left: a good header, and pairs whose packing fits
good : (c : In_ok-header) → header_ok c.args.table.now ≡ true
good c = header-good _ c.header.ensures c.in_ok-header.was

fit : (c : Else-top-needed_both) → let t = c.args.table.now in let m =
    c.most_kept-bounds.result in (needed_both t m.one m.two ≤ nodes t) × (outgrows t ≡ false)
fit c = let m = c.most_kept-bounds in
    fits _ _ _ c.enter_nodes-counts.ensures.toured m.result.one m.result.two _ c.needed_both.ensures m.ensures.two_value
    c.if-top-needed_both.false

pub returns-in_err-header : goal.returns-in_err-header
returns-in_err-header c =
    let a = c.args in
    let e = sym c.header.ensures ∙ c.in_err-header.was in
    let all = refused-header a.table.now a.out.now a.report.now (failed-some _ e) in
    record { value = rw (handed-on c.from_residual.ensures.1) (sym (failed-with _ e) ∙ all.0); out_after = all.1.0; report_after = all.1.1 }

pub returns-then-out-table : goal.returns-then-out-table
returns-then-out-table c = let a = c.args in
    let h = good (goal.at.returns-then-out-table c).In_ok-header in
    let both = refused-length a.table.now a.out.now a.report.now h c.if-out-table.true in
    record { value = both.0; out_after = both.1.0; report_after = both.1.1 }

pub bounds-table-2 : goal.bounds-table-2
bounds-table-2 c = let w = header-size _ (good (goal.at.bounds-table-2 c).In_ok-header) in omega (arith, w.0)

pub overflow_mul-top : goal.overflow_mul-top
overflow_mul-top c = let w = header-size _ (good (goal.at.overflow_mul-top c).In_ok-header) in omega (arith, w.1)

pub returns-then-report-top : goal.returns-then-report-top
returns-then-report-top c = let a = c.args in
    let h = good (goal.at.returns-then-report-top c).In_ok-header in
    let both = refused-report a.table.now a.out.now a.report.now h c.if-out-table.false c.if-report-top.true in
    record { value = both.0; out_after = both.1.0; report_after = both.1.1 }

pub enter_nodes-counts-requires : goal.enter_nodes-counts-requires
enter_nodes-counts-requires c = good (goal.at.enter_nodes-counts-requires c).In_ok-header

pub needed_both-requires : goal.needed_both-requires
needed_both-requires c = let m = c.most_kept-bounds.ensures.most in
    ((header-size _ (good (goal.at.needed_both-requires c).In_ok-header)).0, m.one-few, m.two-few)

pub returns-then-top-needed_both : goal.returns-then-top-needed_both
returns-then-top-needed_both c = let a = c.args in
    let h = good (goal.at.returns-then-top-needed_both c).In_ok-header in
    let m = c.most_kept-bounds in
    let g = grown a.table.now _ _ c.enter_nodes-counts.ensures.toured m.result.one m.result.two _ c.needed_both.ensures m.ensures.two_value
    c.if-top-needed_both.true in
    let both = refused-outgrown a.table.now a.out.now a.report.now h c.if-out-table.false c.if-report-top.false g in
    record { value = both.0; out_after = both.1.0; report_after = both.1.1 }

pub rebuild-dropped-requires : goal.rebuild-dropped-requires
rebuild-dropped-requires c = let b = fit (goal.at.rebuild-dropped-requires c).Else-top-needed_both in
    (c.most_kept-bounds.ensures.most, b.0, c.if-out-table.false, c.if-report-top.false)

pub returns : goal.returns
returns c = let a = c.args in
    let h = good (goal.at.returns c).In_ok-header in
    let b = fit (goal.at.returns c).Else-top-needed_both in
    let r = c.rebuild-dropped in
    let both = salvaged a.table.now a.out.now a.report.now h c.if-out-table.false c.if-report-top.false b.1 r.result r.new.out
    r.new.report r.ensures.out_after r.ensures.reported in
    record { value = both.0; out_after = both.1.0; report_after = both.1.1 }
