-- `sound::stands` meets its contract.
use Rattle.std.proofs.Common.{◌≡◌, ℕ, ap, ◌==◌, ◌&&◌, ◌∙◌}
use Rattle.model.specs.Table.{has_node}
use Rattle.node.specs.Word.{word_of}
use Rattle.list_laws.proofs.Tools.{and-then, and-else}
use Rattle.sound.proofs.NodeLaws.{stands-joined}
use Rattle.sound.proofs.stands.Goals as goal
use Rattle.sound.proofs.stands.Goals.{Joined-word-level, then-has, else-has, then-word-level, else-word-level}

-- the tests before the last
first-tests : (c : Joined-word-level)
    → c.if-word-level.value
    ≡ ((has_node c.args.table.now c.args.n && (word_of c.args.table.now c.args.n 2 == c.args.level)) &&
    (word_of c.args.table.now c.args.n 3 == c.args.fence))
first-tests c = let a = c.args in
    let level : c.if-has.value ≡ (has_node a.table.now a.n && (word_of a.table.now a.n 2 == a.level)) = elim c.if-has.branch [
      | then-has w ↦ w.value-is ∙ and-then _ _ _ _ c.has.ensures w.if-has.true (ap (λ (x : ℕ). x == a.level) w.word.ensures)
      | else-has w ↦ w.value-is ∙ and-else _ _ _ c.has.ensures w.if-has.false
    ] in
    elim c.if-word-level.branch [
      | then-word-level w ↦ w.value-is
          ∙ and-then _ _ _ _ level w.if-word-level.true (ap (λ (x : ℕ). x == a.fence) w.word-then-word-level.ensures)
      | else-word-level w ↦ w.value-is ∙ and-else _ _ _ level w.if-word-level.false
    ]

pub returns-then-word-fence : goal.returns-then-word-fence
returns-then-word-fence c =
    and-then _ _ _ _ (first-tests (goal.at.returns-then-word-fence c).Joined-word-level) c.if-word-fence.true
    (ap (λ (x : ℕ). x == c.args.right) c.word-then-word-fence.ensures)
    ∙ stands-joined _ _ _ _ _ c.requires

pub returns-else-word-fence : goal.returns-else-word-fence
returns-else-word-fence c =
    and-else _ _ _ (first-tests (goal.at.returns-else-word-fence c).Joined-word-level) c.if-word-fence.false
    ∙ stands-joined _ _ _ _ _ c.requires
