-- `next` of `leaves::Siblings` meets its contract.
use Rattle.std.proofs.Common.{◌≡◌, [], ap, ◌∙◌}
use Rattle.model.specs.Slots.{view}
use Rattle.walk_laws.specs.Chain.{along}
use Rattle.walk_laws.proofs.ChainLaw.{along-none}
use Rattle.leaves.specs.Siblings.{siblings_left}
use Rattle.leaves.proofs.Along.{along-done, along-next}
use Rattle.leaves.proofs.siblings.SiblingsIterator.next.Goals as goal
use Rattle.leaves.proofs.siblings.SiblingsIterator.next.Goals.{then-self-eq0-via-then-self-eq0}
use Rattle.leaves.proofs.siblings.SiblingsIterator.next.Goals.{then-self-eq0-via-else-self-eq0+then-self-eq0-2}

pub returns-then-self-eq0-clause-steps : goal.returns-then-self-eq0-clause-steps
returns-then-self-eq0-clause-steps c = let s = c.args.self.now in
    let e : siblings_left s ≡ [] =
    elim c.then-self-eq0.branch [
      | then-self-eq0-via-then-self-eq0 w ↦ along-done s.table.now s.left s.next w.if-self-eq0.true
      | then-self-eq0-via-else-self-eq0+then-self-eq0-2 w ↦ ap (along (view s.table.now) s.left) w.if-self-eq0-2.true
          ∙ along-none (view s.table.now) s.left
    ] in
    (e, e)

pub returns-clause-steps : goal.returns-clause-steps
returns-clause-steps c = let s =
    c.args.self.now in along-next s.table.now s.left s.next _ c.if-self-eq0.false c.if-self-eq0-2.false c.word-self.ensures
