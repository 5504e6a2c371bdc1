-- `reach::frees_leaf` meets its contract, by the test that led to each return.
use Rattle.std.proofs.Common.{◌∙◌, eq-eqb, ne_eqb}
use Rattle.reach.proofs.Freeing.{more-left, root-leaf, not-leftmost}
use Rattle.reach.proofs.frees_leaf.Goals as goal

pub returns-else-shown_count-eq1 : goal.returns-else-shown_count-eq1
returns-else-shown_count-eq1 c n h =
    ne_eqb _ _ c.if-shown_count-eq1.false ∙ more-left n _ _ _ _ c.shown_count.ensures c.if-shown_count-eq1.false

pub returns-else-word-ne0 : goal.returns-else-word-ne0
returns-else-word-ne0 c n h =
    rw (eq-eqb _ _ c.if-word-ne0.false)
    (root-leaf n _ _ _ _ c.shown_count.ensures c.if-shown_count-eq1.true _ _ h c.word.ensures c.if-word-ne0.false)

pub returns-then-word-ne0 : goal.returns-then-word-ne0
returns-then-word-ne0 c n h = not-leftmost n _ _ _ _ c.shown_count.ensures c.if-shown_count-eq1.true _ _ h c.word.ensures c.if-word-ne0.true
    _ c.word-then-word-ne0.ensures
