-- `quick::begin` meets its contract.
use Rattle.std.proofs.Common.{take, sym, ap, ◌∙◌, arith}
use Rattle.model.specs.Results.{answer_number}
use Rattle.list_laws.proofs.Tools.{handed-on}
use Rattle.table_laws.proofs.Header.{header-iff}
use Rattle.node.proofs.Roots.{found-there}
use Rattle.quick.proofs.Beginning.{no-root, few, other-length, marks-reach, found-number, found-way}
use Rattle.quick.proofs.begin.Goals as goal

pub returns-in_err-root-clause-number : goal.returns-in_err-root-clause-number
returns-in_err-root-clause-number c =
    rw (handed-on c.from_residual.ensures.1) (no-root _ _ _ _ (sym c.find_root.ensures ∙ c.in_err-root.was))

pub bounds-table-2 : goal.bounds-table-2
bounds-table-2 c = omega (arith, ((header-iff _).0 (found-there _ _ (sym c.find_root.ensures ∙ c.in_ok-root.was)).0).size)

pub summary_words-requires : goal.summary_words-requires
summary_words-requires c = few c.args.collection c.args.summary.now c.args.table.now c.args.key (sym c.find_root.ensures ∙ c.in_ok-root.was)

pub returns-then-summary-summary_words-clause-number : goal.returns-then-summary-summary_words-clause-number
returns-then-summary-summary_words-clause-number c =
    other-length _ _ _ _ (sym c.find_root.ensures ∙ c.in_ok-root.was)
    (λ e. c.if-summary-summary_words.true (e ∙ sym c.summary_words.ensures))

pub find-requires-clause-table_value : goal.find-requires-clause-table_value
find-requires-clause-table_value c = (found-there _ _ (sym c.find_root.ensures ∙ c.in_ok-root.was)).0

pub find-requires-clause-table_bound : goal.find-requires-clause-table_bound
find-requires-clause-table_bound c =
    rw c.mark_words.ensures (marks-reach _ _ (c.if-summary-summary_words.false ∙ c.summary_words.ensures))

pub returns-clause-number : goal.returns-clause-number
returns-clause-number c =
    ap answer_number c.ok_or.ensures.value
    ∙ found-number _ _ _ _ (sym c.find_root.ensures ∙ c.in_ok-root.was) (c.if-summary-summary_words.false ∙ c.summary_words.ensures) _
    (ap (λ m. take m c.args.summary.now) c.mark_words.ensures) c.find.ensures

pub returns-clause-way : goal.returns-clause-way
returns-clause-way c w e =
    found-way _ _ _ _ (sym c.find_root.ensures ∙ c.in_ok-root.was) (c.if-summary-summary_words.false ∙ c.summary_words.ensures) _
    (ap (λ m. take m c.args.summary.now) c.mark_words.ensures) c.find.ensures (sym c.ok_or.ensures.value ∙ e)
