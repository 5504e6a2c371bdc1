-- `sound::sibling_ok` meets its contract.
use Rattle.std.proofs.Common.{◌≡◌, ℕ, ap₂, ◌==◌, nat_lt, ◌&&◌, ◌∙◌}
use Rattle.model.specs.Table.{has_node}
use Rattle.node.specs.Word.{word_of}
use Rattle.list_laws.proofs.Tools.{and-then, and-else}
use Rattle.sound.proofs.NodeLaws.{sibling-none, sibling-some}
use Rattle.sound.proofs.sibling_ok.Goals as goal
use Rattle.sound.proofs.sibling_ok.Goals.{Joined-has, then-has, else-has}

pub returns-then-s-eq0 : goal.returns-then-s-eq0
returns-then-s-eq0 c = sibling-none _ _ _ c.requires c.word-s.ensures c.if-s-eq0.true

-- the tests before the last
first-tests : (c : Joined-has) → c.if-has.value
    ≡ (has_node c.args.table.now c.word-s.result && (word_of c.args.table.now c.word-s.result 2 == word_of c.args.table.now c.args.n 2))
first-tests c =
    elim c.if-has.branch [
      | then-has w ↦ w.value-is
          ∙ and-then _ _ _ _ c.has.ensures w.if-has.true (ap₂ (λ (x y : ℕ). x == y) w.word.ensures w.word-then-has.ensures)
      | else-has w ↦ w.value-is ∙ and-else _ _ _ c.has.ensures w.if-has.false
    ]

pub returns-then-word : goal.returns-then-word
returns-then-word c =
    and-then _ _ _ _ (first-tests (goal.at.returns-then-word c).Joined-has) c.if-word.true
    (ap₂ (λ (x y : ℕ). nat_lt x y) c.word-then-word.ensures c.word-then-word-2.ensures)
    ∙ sibling-some _ _ _ c.requires c.word-s.ensures c.if-s-eq0.false

pub returns-else-word : goal.returns-else-word
returns-else-word c =
    and-else _ _ _ (first-tests (goal.at.returns-else-word c).Joined-has) c.if-word.false
    ∙ sibling-some _ _ _ c.requires c.word-s.ensures c.if-s-eq0.false
