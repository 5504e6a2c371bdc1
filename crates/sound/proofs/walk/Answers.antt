-- `sound::walk` meets its contract.
use Rattle.sound.proofs.CheckLaws.{walk-high, walk-low}
use Rattle.sound.proofs.MarkLaws.{walk-marked}
use Rattle.sound.proofs.walk.Goals as goal

pub returns-then-top-gt15 : goal.returns-then-top-gt15
returns-then-top-gt15 c = record { value = walk-high _ _ _ c.word-top.ensures c.if-top-gt15.true; adds = λ h. absurd h }

pub returns : goal.returns
returns c = let e = walk-low _ _ _ c.word-top.ensures _ c.if-top-gt15.false c.check_node.ensures.value in record
    { value = e; adds = λ h. walk-marked _ _ _ _ _ _ c.word-top.ensures e h (c.check_node.ensures.adds h) }
