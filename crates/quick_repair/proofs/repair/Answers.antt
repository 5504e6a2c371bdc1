-- `quick_repair::repair` meets its contract.
use Rattle.std.proofs.Common.{sym, ◌∙◌, arith}
use Rattle.list_laws.proofs.Tools.{handed-on}
use Rattle.table_laws.proofs.Header.{header-iff}
use Rattle.quick_repair.proofs.Repairing.{no-table, header, other-length, lent-refuses, no-stores}
use Rattle.quick_repair.proofs.repair.Goals as goal

pub returns-in_err-header : goal.returns-in_err-header
returns-in_err-header c = rw (handed-on c.from_residual.ensures.1) (no-table _ _ _ _ (sym c.in_err-header.ensures)).value

pub bounds-table-2 : goal.bounds-table-2
bounds-table-2 c = omega
    (arith, ((header-iff _).0 (header c.args.dock _ c.args.list.now c.args.summary.now (sym c.in_ok-header.ensures))).size.long)

pub summary_words-requires : goal.summary_words-requires
summary_words-requires c =
    ((header-iff _).0 (header c.args.dock _ c.args.list.now c.args.summary.now (sym c.in_ok-header.ensures))).size.few

pub returns-then-summary-summary_words : goal.returns-then-summary-summary_words
returns-then-summary-summary_words c =
    (other-length _ _ _ _ (sym c.in_ok-header.ensures) (λ e. c.if-summary-summary_words.true (e ∙ sym c.summary_words.ensures))).value

pub returns-in_err-writes : goal.returns-in_err-writes
returns-in_err-writes c =
    rw (handed-on c.from_residual-in_err-writes.ensures.1)
    (lent-refuses _ _ _ _ (sym c.in_ok-header.ensures) (c.if-summary-summary_words.false ∙ c.summary_words.ensures)
    (sym c.in_err-writes.ensures)).value

pub returns : goal.returns
returns c =
    let g = c.default.ensures in
    no-stores _ _ _ _ (sym c.in_ok-header.ensures) (c.if-summary-summary_words.false ∙ c.summary_words.ensures)
    (sym c.in_ok-writes.ensures) g.0 g.1.0 g.1.1
