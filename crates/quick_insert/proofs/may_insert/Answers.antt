-- `quick_insert::may_insert` meets its contract.
use Rattle.std.proofs.Common.{sym, ◌∙◌, arith}
use Rattle.model.specs.declared.Refusal.TheVariants.{BadRecording, BadClass, KeyPresent, RecordingPresent, TooHigh, NoNodes}
use Rattle.model.proofs.Numbers.{passes, fails}
use Rattle.way.proofs.Walking.{along-low}
use Rattle.quick_insert.proofs.Testing.{along-size, number-few, along-few, recording-low, cell-some, bad-recording, bad-class, key-present}
use Rattle.quick_insert.proofs.Testing.{recording-present, too-high, no-nodes, all-pass}
use Rattle.quick_insert.proofs.may_insert.Goals as goal

pub returns-then-not-recording_ok : goal.returns-then-not-recording_ok
returns-then-not-recording_ok c =
    fails BadRecording (bad-recording c.requires.along _ _ _ c.recording_ok.ensures c.if-not-recording_ok.true)

pub returns-then-not-class_ok : goal.returns-then-not-class_ok
returns-then-not-class_ok c =
    fails BadClass (bad-class c.requires.along _ _ _ c.recording_ok.ensures c.if-not-recording_ok.false
    c.class_ok.ensures c.if-not-class_ok.true)

pub on_level-requires : goal.on_level-requires
on_level-requires c = along-low c.requires.along

pub returns-then-has_key : goal.returns-then-has_key
returns-then-has_key c =
    fails KeyPresent (key-present c.requires.along _ _ _ c.recording_ok.ensures c.if-not-recording_ok.false c.class_ok.ensures
    c.if-not-class_ok.false c.on_level.ensures c.has_key.ensures c.if-has_key.true)

pub join-requires : goal.join-requires
join-requires c = record {
  recording_bound = (recording-low _ (sym c.recording_ok.ensures ∙ c.if-not-recording_ok.false)).1;
  access_bound = (number-few c.requires.along).1;
}

pub holds-requires-clause-number_nonzero : goal.holds-requires-clause-number_nonzero
holds-requires-clause-number_nonzero c = cell-some _ _ _ c.join.ensures (sym c.recording_ok.ensures ∙ c.if-not-recording_ok.false)

pub returns-then-holds : goal.returns-then-holds
returns-then-holds c =
    fails RecordingPresent
    (recording-present c.requires.along _ _ _ c.recording_ok.ensures c.if-not-recording_ok.false
    c.class_ok.ensures c.if-not-class_ok.false
    c.on_level.ensures c.has_key.ensures c.if-has_key.false c.join.ensures c.holds.ensures c.if-holds.true)

pub too_high-requires : goal.too_high-requires
too_high-requires c = along-low c.requires.along

pub returns-then-too_high : goal.returns-then-too_high
returns-then-too_high c =
    fails TooHigh (too-high c.requires.along _ _ _ c.recording_ok.ensures c.if-not-recording_ok.false
    c.class_ok.ensures c.if-not-class_ok.false
    c.on_level.ensures c.has_key.ensures c.if-has_key.false c.join.ensures c.holds.ensures c.if-holds.false
    c.too_high.ensures c.if-too_high.true)

pub bounds-table-2 : goal.bounds-table-2
bounds-table-2 c = omega (arith, along-size c.requires.along)

pub needed-requires : goal.needed-requires
needed-requires c = record { height_bound = along-low c.requires.along; run_bound = along-few c.requires.along }

pub few-requires-clause-nodes_bound : goal.few-requires-clause-nodes_bound
few-requires-clause-nodes_bound c = (along-size c.requires.along).few

pub returns-then-few : goal.returns-then-few
returns-then-few c =
    fails NoNodes (no-nodes c.requires.along _ _ _ c.recording_ok.ensures c.if-not-recording_ok.false
    c.class_ok.ensures c.if-not-class_ok.false
    c.on_level.ensures c.has_key.ensures c.if-has_key.false c.join.ensures c.holds.ensures c.if-holds.false
    c.too_high.ensures c.if-too_high.false
    c.needed.ensures c.few.ensures c.if-few.true)

pub returns : goal.returns
returns c =
    passes (all-pass c.requires.along _ _ _ c.recording_ok.ensures c.if-not-recording_ok.false c.class_ok.ensures c.if-not-class_ok.false
    c.on_level.ensures c.has_key.ensures c.if-has_key.false c.join.ensures c.holds.ensures c.if-holds.false
    c.too_high.ensures c.if-too_high.false
    c.needed.ensures c.few.ensures c.if-few.false)
