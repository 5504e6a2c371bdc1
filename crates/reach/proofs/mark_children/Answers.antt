-- `reach::mark_children` meets its contract, by the tests that led to each return.
use mathlib.Core.Path.{sym, ◌∙◌}
use Rattle.reach.proofs.Marking.{leaf-names-none, unreached-names-none, ways-named}
use Rattle.reach.proofs.mark_children.Goals as goal

pub returns-then-word-eq0 : goal.returns-then-word-eq0
returns-then-word-eq0 c = leaf-names-none _ _ _ c.word.ensures _ c.if-word-eq0.true

pub returns-then-not-is_taken : goal.returns-then-not-is_taken
returns-then-not-is_taken c =
    unreached-names-none _ _ _ c.word.ensures _ c.if-word-eq0.false (sym c.is_taken.ensures ∙ c.if-not-is_taken.true)

pub returns : goal.returns
returns c = ways-named _ _ _ c.word.ensures _ c.if-word-eq0.false c.ways_of.result c.ways_of.ensures
    (sym c.is_taken.ensures ∙ c.if-not-is_taken.false) _ c.mark_ways.ensures
