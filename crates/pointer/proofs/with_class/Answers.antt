-- `pointer::with_class` meets its contract.
use Rattle.std.proofs.Common.{ℕ, ap, ◌∙◌}
use Rattle.model.specs.Slots.{pointer_of}
use Rattle.pointer.proofs.Tests.{is-below}
use Rattle.pointer.proofs.with_class.Goals as goal

pub join-requires : goal.join-requires
join-requires c = record { recording_bound = is-below _ _ c.recording.ensures; access_bound = c.requires }

pub returns : goal.returns
returns c = c.join.ensures ∙ ap (λ (r : ℕ). pointer_of r c.args.access) c.recording.ensures
