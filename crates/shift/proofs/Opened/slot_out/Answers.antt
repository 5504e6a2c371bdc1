-- `shift::Opened::slot_out` meets its contract.
use Rattle.orders.proofs.Rest.{rest-start, rest-same, rest-one, rest-next, rest-all}
use Rattle.shift.proofs.Shifting.{out-start}
use Rattle.shift.proofs.Opened.slot_out.Goals as goal

pub put-requires : goal.put-requires
put-requires c = rest-one (rest-same (out-start _ _ _ c.place-at.ensures) (rest-start {w = c.args.writer.now} c.requires))

pub close_gap-requires : goal.close_gap-requires
close_gap-requires c =
    (rest-next (rest-same (out-start _ _ _ c.place-at.ensures) (rest-start {w = c.args.writer.now} c.requires)) c.put.ensures).room

pub returns : goal.returns
returns c = rest-all
    (rest-next (rest-same (out-start _ _ _ c.place-at.ensures) (rest-start {w = c.args.writer.now} c.requires)) c.put.ensures)
    c.close_gap.ensures
