-- `judge::finish` meets its contract.
use Rattle.std.proofs.Common.{sym, ◌∙◌}
use borrow.Author.Tests.{not-true, not-false}
use Rattle.two_laws.proofs.SearchTwo.{sound-head}
use Rattle.write.proofs.Rooted.{root-sound}
use Rattle.judge.proofs.Rest.{end-line, end-unsettled, end-pointer, end-yes, held-own}
use Rattle.judge.proofs.finish.Goals as goal
use Rattle.judge.proofs.finish.Goals.{then-is_some-via-then-is_some, then-is_some-via-else-is_some+then-not-is_settled}

pub returns-then-is_some : goal.returns-then-is_some
returns-then-is_some c = elim c.then-is_some.branch [
  | then-is_some-via-then-is_some w ↦ end-line _ _ _ _ (sym c.is_some.ensures ∙ w.if-is_some.true)
  | then-is_some-via-else-is_some+then-not-is_settled w ↦ end-unsettled _ _ _ _ (sym c.is_some.ensures ∙ w.if-is_some.false)
      (sym w.is_settled.ensures ∙ w.if-not-is_settled.true)
]

pub root_of-root-requires-clause-table_value : goal.root_of-root-requires-clause-table_value
root_of-root-requires-clause-table_value c = sound-head c.args.image.now c.requires.image_value

pub held-requires : goal.held-requires
held-requires c = root-sound _ c.args.image.now _ c.root_of-root.ensures c.requires.image_value c.requires.image_value_2

pub returns-then-ne : goal.returns-then-ne
returns-then-ne c =
    end-pointer _ _ _ _ (sym c.is_some.ensures ∙ c.if-is_some.false) (sym c.is_settled.ensures ∙ c.if-not-is_settled.false)
    _ (held-own c.args.image.now _ _ _ c.root_of-root.ensures _ c.held.ensures) (not-true _ (sym c.ne.ensures ∙ c.if-ne.true))

pub returns : goal.returns
returns c =
    end-yes _ _ _ _ (sym c.is_some.ensures ∙ c.if-is_some.false) (sym c.is_settled.ensures ∙ c.if-not-is_settled.false)
    _ (held-own c.args.image.now _ _ _ c.root_of-root.ensures _ c.held.ensures) (not-false _ (sym c.ne.ensures ∙ c.if-ne.false))
