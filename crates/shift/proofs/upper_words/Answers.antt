-- `shift::upper_words` meets its contract.
use Rattle.std.proofs.Common.{◌∙◌, arith, rules}
use Rattle.shift.proofs.NodeWords.{copied-words}
use Rattle.shift.proofs.Splitting.{upper-leaf, upper-inner}
use Rattle.shift.proofs.upper_words.Goals.{then-n-eq0, else-n-eq0}
use Rattle.shift.proofs.upper_words.Goals as goal

pub returns : goal.returns
returns c =
    let n = c.args.n.now in
    elim c.if-n-eq0.branch [
      | then-n-eq0 w ↦
          rw w.left-is (copied-words _ _ _ _ n.slots 5 _ c.count.ensures.value (omega (arith, c.requires, c.count.ensures.value))
          (search rules) _ (rw w.left-is at c.copy_from_slice.ensures.after))
          ∙ upper-leaf n c.requires (search rules)
      | else-n-eq0 w ↦
          rw w.left-is (copied-words _ _ _ _ n.slots 6 _ c.count.ensures.value (omega (arith, c.requires, c.count.ensures.value))
          (search rules) _ (rw w.left-is at c.copy_from_slice.ensures.after))
          ∙ upper-inner n c.requires (search rules)
    ]
