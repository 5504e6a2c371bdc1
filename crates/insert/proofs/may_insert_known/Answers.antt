-- `insert::may_insert_known` meets its contract: which test holds, those before it not.
use Rattle.model.specs.declared.Refusal.TheVariants.{BadRecording, BadClass, KeyPresent, RecordingPresent, TooHigh, NoNodes}
use Rattle.model.proofs.Numbers.{passes, fails}
use Rattle.two_laws.proofs.SearchTwo.{sound-head}
use Rattle.write.proofs.Rooted.{root-sound}
use Rattle.insert.proofs.Testing.{bad-recording, bad-class, key-present, recording-present, too-high, no-nodes, none-holds}
use Rattle.insert.proofs.may_insert_known.Goals as goal

pub root_of-root-requires-clause-table_value : goal.root_of-root-requires-clause-table_value
root_of-root-requires-clause-table_value c = sound-head _ c.requires.table_value_2

pub has_key-requires : goal.has_key-requires
has_key-requires c = root-sound _ _ _ c.root_of-root.ensures c.requires.table_value_2 c.requires.table_value

pub returns-then-not-recording_ok : goal.returns-then-not-recording_ok
returns-then-not-recording_ok c =
    let a = c.args in
    fails BadRecording (bad-recording a.x.collection a.table.now a.x.key a.x.recording a.x.access a.run
    c.root_of-root.ensures c.recording_ok.ensures
    c.if-not-recording_ok.true)

pub returns-then-not-class_ok : goal.returns-then-not-class_ok
returns-then-not-class_ok c =
    let a = c.args in
    fails BadClass (bad-class a.x.collection a.table.now a.x.key a.x.recording a.x.access a.run
    c.root_of-root.ensures c.recording_ok.ensures
    c.if-not-recording_ok.false c.class_ok.ensures c.if-not-class_ok.true)

pub returns-then-has_key : goal.returns-then-has_key
returns-then-has_key c =
    let a = c.args in
    fails KeyPresent (key-present a.x.collection a.table.now a.x.key a.x.recording a.x.access a.run
    c.root_of-root.ensures c.recording_ok.ensures
    c.if-not-recording_ok.false c.class_ok.ensures c.if-not-class_ok.false c.has_key.ensures c.if-has_key.true)

pub returns-then-known : goal.returns-then-known
returns-then-known c =
    let a = c.args in
    fails RecordingPresent
    (recording-present a.x.collection a.table.now a.x.key a.x.recording a.x.access a.run c.root_of-root.ensures c.recording_ok.ensures
    c.if-not-recording_ok.false c.class_ok.ensures c.if-not-class_ok.false c.has_key.ensures c.if-has_key.false c.requires.known_value
    c.if-known.true)

pub returns-then-too_high : goal.returns-then-too_high
returns-then-too_high c =
    let a = c.args in
    fails TooHigh (too-high a.x.collection a.table.now a.x.key a.x.recording a.x.access a.run c.root_of-root.ensures c.recording_ok.ensures
    c.if-not-recording_ok.false c.class_ok.ensures c.if-not-class_ok.false c.has_key.ensures c.if-has_key.false c.requires.known_value
    c.if-known.false c.too_high.ensures c.if-too_high.true)

pub returns-then-too_few : goal.returns-then-too_few
returns-then-too_few c =
    let a = c.args in
    fails NoNodes (no-nodes a.x.collection a.table.now a.x.key a.x.recording a.x.access a.run c.root_of-root.ensures c.recording_ok.ensures
    c.if-not-recording_ok.false c.class_ok.ensures c.if-not-class_ok.false c.has_key.ensures c.if-has_key.false c.requires.known_value
    c.if-known.false c.too_high.ensures c.if-too_high.false c.unreachable.ensures c.too_few.ensures c.if-too_few.true)

pub returns : goal.returns
returns c =
    let a = c.args in
    passes (none-holds a.x.collection a.table.now a.x.key a.x.recording a.x.access a.run c.root_of-root.ensures c.recording_ok.ensures
    c.if-not-recording_ok.false c.class_ok.ensures c.if-not-class_ok.false c.has_key.ensures c.if-has_key.false c.requires.known_value
    c.if-known.false c.too_high.ensures c.if-too_high.false c.unreachable.ensures c.too_few.ensures c.if-too_few.false)
