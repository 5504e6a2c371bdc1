-- `sound::check_node` and `sound::check_slot` meet their contracts.
use Rattle.std.proofs.Common.{sym, refl, ◌∙◌, arith}
use Rattle.std.specs.Prelude.{None}
use Rattle.sound.proofs.CheckLaws.{check-unsound, node-over, node-elsewhere, node-wrong, node-met, node-leaf, node-inner, stands-has}
use Rattle.sound.proofs.CheckLaws.{slot-right, slot-lacks, rest-next, rest-done, rest-refused}
use Rattle.sound.proofs.MarkLaws.{stands-low, leaf-marked, inner-marked, right-marked, lacks-marked, marking-all, marking-next}
use Rattle.sound.proofs.MarkLaws.{marking-done}
use Rattle.sound.proofs.+check_node_check_slot.Goals as goal

pub check_node-returns-then-word_at-seen-clause-value : goal.check_node-returns-then-word_at-seen-clause-value
check_node-returns-then-word_at-seen-clause-value t c = node-over _ _ _ _ _ _ _ c.word_at.ensures c.if-word_at-seen.true

pub check_node-returns-then-not-stands-clause-value : goal.check_node-returns-then-not-stands-clause-value
check_node-returns-then-not-stands-clause-value t c = node-elsewhere _ _ _ _ _ _ (sym c.stands.ensures ∙ c.if-not-stands.true)

pub check_node-look_at-requires-clause-n_value : goal.check_node-look_at-requires-clause-n_value
check_node-look_at-requires-clause-n_value t c = stands-has _ _ _ _ _ c.requires _ c.stands.ensures c.if-not-stands.false

pub check_node-returns-in_err-own-clause-value : goal.check_node-returns-in_err-own-clause-value
check_node-returns-in_err-own-clause-value t c = rw c.from_residual.ensures (node-wrong _ _ _ _ _ _ c.in_err-own.ensures)

pub check_node-put-requires : goal.check_node-put-requires
check_node-put-requires t c = stands-low _ c.args.marks.now _ _ _ _ c.requires c.told-marks _ c.stands.ensures c.if-not-stands.false

pub check_node-returns-then-level-eq0-clause-value : goal.check_node-returns-then-level-eq0-clause-value
check_node-returns-then-level-eq0-clause-value t c =
    node-leaf (node-met _ _ _ _ _ _ _ _ _ _ c.word_at.ensures c.if-word_at-seen.false c.stands.ensures c.if-not-stands.false
    c.in_ok-own.ensures c.together.ensures) c.if-level-eq0.true

pub check_node-returns-then-level-eq0-clause-adds : goal.check_node-returns-then-level-eq0-clause-adds
check_node-returns-then-level-eq0-clause-adds t c =
    let low = stands-low _ c.args.marks.now _ _ _ _ c.requires c.told-marks _ c.stands.ensures c.if-not-stands.false in
    λ h. leaf-marked _ _ _ _ _ low c.put.ensures c.if-level-eq0.true

pub check_node-loop-i-init : goal.check_node-loop-i-init
check_node-loop-i-init t c =
    (record { among = omega arith; comes-to = refl }, marking-all _ _ _ _ _)

pub check_node-returns-in_err-state-clause-value : goal.check_node-returns-in_err-state-clause-value
check_node-returns-in_err-state-clause-value t c =
    rw c.from_residual-in_err-state.ensures
    (rest-refused (rest-next c.loop-i.invariant.0 _ None c.loop-i-test.true c.pointer_from-after.ensures c.in_err-state.ensures.value) refl
    c.ways_of-w.ensures c.next_child-next.ensures
    ∙ node-inner (node-met _ _ _ _ _ _ _ _ _ _ c.word_at.ensures c.if-word_at-seen.false c.stands.ensures c.if-not-stands.false
    c.in_ok-own.ensures c.together.ensures) c.if-level-eq0.false)

pub check_node-loop-i-preserved : goal.check_node-loop-i-preserved
check_node-loop-i-preserved t c =
    let k = c.loop-i.invariant in
    let e = c.in_ok-state.ensures in (
      rest-next k.0 _ _ c.loop-i-test.true c.pointer_from-after.ensures e.value,
      marking-next k.1 _ _ c.loop-i-test.true c.pointer_from-after.ensures (e.adds tt),
    )

pub check_node-returns-clause-value : goal.check_node-returns-clause-value
check_node-returns-clause-value t c =
    rest-done c.loop-i.invariant.0 c.loop-i-test.false c.ways_of-w.ensures c.next_child-next.ensures
    ∙ node-inner (node-met _ _ _ _ _ _ _ _ _ _ c.word_at.ensures c.if-word_at-seen.false c.stands.ensures c.if-not-stands.false
    c.in_ok-own.ensures c.together.ensures) c.if-level-eq0.false

pub check_node-returns-clause-adds : goal.check_node-returns-clause-adds
check_node-returns-clause-adds t c =
    let low = stands-low _ c.args.marks.now _ _ _ _ c.requires c.told-marks _ c.stands.ensures c.if-not-stands.false in
    λ h. inner-marked _ _ _ _ _ low c.put.ensures _ c.if-level-eq0.false
    (marking-done c.loop-i.invariant.1 _ c.loop-i-test.false c.ways_of-w.ensures c.next_child-next.ensures)

pub check_slot-returns-then-sibling-right-clause-value : goal.check_slot-returns-then-sibling-right-clause-value
check_slot-returns-then-sibling-right-clause-value t c =
    slot-right _ _ _ _ _ _ _ _ c.word-sibling.ensures _ c.check_node.ensures.value c.if-sibling-right.true

pub check_slot-returns-then-sibling-right-clause-adds : goal.check_slot-returns-then-sibling-right-clause-adds
check_slot-returns-then-sibling-right-clause-adds t c =
    λ h. right-marked _ _ _ _ _ c.word-sibling.ensures _ _ c.if-sibling-right.true (c.check_node.ensures.adds h)

pub check_slot-returns-in_err-first-clause-value : goal.check_slot-returns-in_err-first-clause-value
check_slot-returns-in_err-first-clause-value t c =
    rw c.from_residual.ensures
    (slot-lacks _ _ _ _ _ _ _ _ c.word-sibling.ensures _ None _ _ c.word-fence.ensures c.note-lacking.ensures c.in_err-first.ensures.value
    (sym (check-unsound _ _ _)) c.if-sibling-right.false)

pub check_slot-returns-clause-value : goal.check_slot-returns-clause-value
check_slot-returns-clause-value t c =
    slot-lacks _ _ _ _ _ _ _ _ c.word-sibling.ensures _ _ _ _ c.word-fence.ensures c.note-lacking.ensures c.in_ok-first.ensures.value
    c.check_node-3.ensures.value c.if-sibling-right.false

pub check_slot-returns-clause-adds : goal.check_slot-returns-clause-adds
check_slot-returns-clause-adds t c =
    λ h. lacks-marked _ _ _ _ _ c.word-sibling.ensures _ _ _ c.if-sibling-right.false (c.in_ok-first.ensures.adds tt)
    (c.check_node-3.ensures.adds h)
