-- `pointer::ok` meets its contract.
use mathlib.Core.Path.{◌∙◌}
use Rattle.pointer.proofs.Tests.{number-wrong, number-right}
use Rattle.pointer.proofs.ok.Goals as goal

pub returns-then-recording_ok : goal.returns-then-recording_ok
returns-then-recording_ok c =
    c.class_ok.ensures ∙ number-right _ _ c.recording.ensures _ c.recording_ok.ensures c.if-recording_ok.true _ c.class.ensures

pub returns-else-recording_ok : goal.returns-else-recording_ok
returns-else-recording_ok c =
    c.if-recording_ok.false ∙ number-wrong _ _ c.recording.ensures _ c.recording_ok.ensures c.if-recording_ok.false
