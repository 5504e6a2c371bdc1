-- `reach::fresh` meets its contract.
use Rattle.std.proofs.Common.{sym, ◌∙◌, arith}
use Rattle.reach.proofs.Members.{sound-words}
use Rattle.reach.proofs.Unreached.{first-here, fresh-after}
use Rattle.reach.proofs.Passing.{fresh-next, fresh-last, fresh-taken}
use Rattle.reach.proofs.fresh.Goals.{else-a-table-via-then-a-table+else-not-is_taken, else-a-table-via-else-a-table}
use Rattle.reach.proofs.fresh.Goals as goal

pub bounds-table-2 : goal.bounds-table-2
bounds-table-2 c = omega (arith, sound-words _ c.requires.table_value)

pub returns-then-not-is_taken-clause-value : goal.returns-then-not-is_taken-clause-value
returns-then-not-is_taken-clause-value c =
    fresh-after _ c.args.a _ (sym (first-here _ _ _ (omega arith) (sym c.is_taken.ensures ∙ c.if-not-is_taken.true))) (λ z. omega arith)

pub returns-then-not-is_taken-clause-marks_after : goal.returns-then-not-is_taken-clause-marks_after
returns-then-not-is_taken-clause-marks_after c = fresh-next _ _ _ (omega arith) (sym c.is_taken.ensures ∙ c.if-not-is_taken.true)

pub returns-clause-marks_after : goal.returns-clause-marks_after
returns-clause-marks_after c = elim c.else-a-table.branch [
  | else-a-table-via-then-a-table+else-not-is_taken w ↦
      fresh-taken _ _ _ w.if-a-table.true (sym w.is_taken.ensures ∙ w.if-not-is_taken.false) _ c.fresh_marked.ensures.marks_after
  | else-a-table-via-else-a-table w ↦ fresh-last _ _ _ w.if-a-table.false _ c.fresh_marked.ensures.marks_after
]
