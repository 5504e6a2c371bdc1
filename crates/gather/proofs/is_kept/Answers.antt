-- `gather::is_kept` meets its contract.
use Rattle.std.proofs.Common.{◌*◌, sym, ◌∙◌, arith, length-take-le}
use Rattle.gather.proofs.Pairs.{kept-low, kept-high}
use Rattle.gather.proofs.is_kept.Goals as goal

pub slice_bounds-has_recording-end : goal.slice_bounds-has_recording-end
slice_bounds-has_recording-end c = let a = c.args in
    sym (length-take-le (2 * a.t.at) a.words.now (omega (arith, c.requires.below, c.requires.few, c.requires.cells)))

pub returns-then-has_recording : goal.returns-then-has_recording
returns-then-has_recording c = let a = c.args in
    c.if-has_recording.true
    ∙ kept-low a.words.now a.bound a.t a.recording c.requires c.has_recording.result c.has_recording.ensures c.if-has_recording.true

pub returns-else-has_recording : goal.returns-else-has_recording
returns-else-has_recording c = let a = c.args in
    let y = c.has_recording-else-has_recording in
    kept-high a.words.now a.bound a.t a.recording c.requires c.has_recording.result y.result c.has_recording.ensures
    c.if-has_recording.false y.ensures
