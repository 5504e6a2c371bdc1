-- `reach::mark_once` meets its contract.
use Rattle.std.proofs.Common.{sym, ◌∙◌, arith, rules}
use Rattle.reach.proofs.Members.{sound-words, root-few}
use Rattle.reach.proofs.Passing.{once-known, once-new, once-taken}
use Rattle.reach.proofs.mark_once.Goals as goal

pub bounds-table-1 : goal.bounds-table-1
bounds-table-1 c = omega (arith, sound-words _ c.requires.table_value)

pub has-requires : goal.has-requires
has-requires c = omega (arith, root-few _ c.requires.table_value)

pub bounds-table-1-2 : goal.bounds-table-1-2
bounds-table-1-2 c = omega (arith, sound-words _ c.requires.table_value)

pub returns-then-has-clause-marks_after : goal.returns-then-has-clause-marks_after
returns-then-has-clause-marks_after c = once-known _ _ (sym c.has.ensures ∙ c.if-has.true)

pub returns : goal.returns
returns c = let free = sym c.has.ensures ∙ c.if-has.false in record {
  marks_after = once-new _ _ free _ _ c.mark_all.ensures c.mark.ensures;
  marked_2 =
      (search rules, once-taken _ _ c.requires.table_value c.requires.marked.1 _ _ c.mark_all.ensures c.mark.ensures);
}
