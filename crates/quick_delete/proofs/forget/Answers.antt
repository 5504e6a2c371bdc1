-- `quick_delete::forget` meets its contract.
use native.Mathlib.Omega.{arith}
use Rattle.model.specs.Slots.{pointer_of}
use Rattle.model.specs.Summary.{mark_words, cell_words}
use Rattle.list_laws.proofs.Recordings.{recording-below}
use Rattle.quick_delete.proofs.forget.Goals as goal

pub clear-requires : goal.clear-requires
unfolding mark_words
clear-requires c = omega (arith, c.split_at_mut-marks.ensures.front_len, c.mark_words.ensures)

pub join-requires-clause-recording_bound : goal.join-requires-clause-recording_bound
join-requires-clause-recording_bound c = omega (arith, c.recording.ensures, recording-below c.args.pointer)

pub take_out-requires-clause-cells_nonzero : goal.take_out-requires-clause-cells_nonzero
unfolding cell_words
take_out-requires-clause-cells_nonzero c = omega (arith, c.split_at_mut-marks.ensures.back_len, c.mark_words.ensures)

pub take_out-requires-clause-number_nonzero : goal.take_out-requires-clause-number_nonzero
unfolding pointer_of
take_out-requires-clause-number_nonzero c = omega (arith, c.join.ensures)
