-- `sound::look_at` meets its contract.
use Rattle.std.proofs.Common.{ap, ◌∙◌}
use Rattle.model.specs.SoundTest.{times}
use Rattle.sound.proofs.LookLaws.{look-unfair, look-wrong, look-is, times-bit}
use Rattle.sound.proofs.look_at.Goals as goal

pub returns-then-not-s : goal.returns-then-not-s
returns-then-not-s c = look-unfair _ _ _ _ c.read-x.ensures c.word-bound.ensures _ c.survey_slots-s.ensures c.if-not-s.true

pub returns-then-not-in_order : goal.returns-then-not-in_order
returns-then-not-in_order c =
    look-wrong _ _ _ _ c.read-x.ensures c.word-bound.ensures _ c.survey_slots-s.ensures c.if-not-s.false _
    c.in_order.ensures c.if-not-in_order.true

pub returns : goal.returns
returns c =
    look-is _ _ _ _ c.read-x.ensures c.word-bound.ensures _ c.survey_slots-s.ensures c.if-not-s.false _ _ _ c.in_order.ensures
    c.if-not-in_order.false c.times.ensures
    (c.times-2.ensures ∙ ap (times c.args.n) c.from.ensures ∙ times-bit _ _)
