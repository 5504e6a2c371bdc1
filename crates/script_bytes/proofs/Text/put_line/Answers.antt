-- `script_bytes::Text::put_line` meets its contract.
use Rattle.std.proofs.Common.{◌+◌, ◌-◌, ◌*◌, length, get_or, arith}
use Rattle.script_bytes.proofs.Decimal.{decimal-most}
use Rattle.script_bytes.proofs.Puts.{puts-then, room-after, fields-next, fields-end}
use Rattle.script_bytes.proofs.Text.put_line.Goals as goal

pub loop-n-init : goal.loop-n-init
loop-n-init c =
    let n = length c.args.numbers.now in
    (room-after (length c.args.word.now) (21 * (n - 0) + 1) c.put_word.ensures (omega arith) (omega (arith, c.requires)), λ z p. p)

pub put_field-requires : goal.put_field-requires
put_field-requires c = omega (arith, c.loop-n.invariant.0)

pub loop-n-preserved : goal.loop-n-preserved
loop-n-preserved c =
    let l = c.loop-n in
    let ns = c.args.numbers.now in (
      room-after 21 (21 * (length ns - (l.n-index + 1)) + 1) c.put_field.ensures (omega (arith, decimal-most (get_or ns l.n-index 0)))
          (omega (arith, l.invariant.0)),
      λ z p. l.invariant.1 z (fields-next ns l.n-index (omega arith) (omega (arith, l.invariant.0)) c.put_field.ensures p),
    )

pub put_byte-requires : goal.put_byte-requires
put_byte-requires c = omega (arith, c.loop-n.invariant.0)

pub returns : goal.returns
returns c =
    let l = c.loop-n in
    puts-then c.put_word.ensures (omega (arith, c.requires))
    (l.invariant.1 _ (fields-end c.args.numbers.now l.n-index (omega arith) c.put_byte.ensures))
