-- `script::Session::read_line` meets its contract.
use Rattle.std.proofs.Common.{refl, rules}
use Rattle.script.proofs.Spoken.{part-read, line-told}
use Rattle.script.proofs.Session.read_line.Goals as goal

pub returns : goal.returns
returns c =
    let h = c.end_line.ensures in
    line-told _ _ _ c.read_line-read.ensures _ (search rules) c.start-self.ensures h.is
    (record { same_table = h.slices.same_table; same_list = h.slices.same_list; same_buffer = h.slices.same_buffer })

pub returns-in_default : goal.returns-in_default
returns-in_default c =
    part-read _ _ _ c.read_line-read.ensures c.in_default.is refl (record { same_table = refl; same_list = refl; same_buffer = refl })
