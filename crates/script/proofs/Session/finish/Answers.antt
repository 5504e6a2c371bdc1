-- `script::Session::finish` meets its contract.
use mathlib.Core.Path.{refl}
use Rattle.script.proofs.Spoken.{finish-line, finish-none}
use Rattle.script.proofs.Session.finish.Goals as goal

pub returns-then-begun : goal.returns-then-begun
returns-then-begun c =
    let h = c.end_line.ensures in
    record { is = finish-line _ _ c.begun.ensures c.if-begun.true _ h.is; slices = h.slices }

pub returns : goal.returns
returns c =
    record {
      is = finish-none _ _ c.begun.ensures c.if-begun.false _;
      slices = record { same_table = refl; same_list = refl; same_buffer = refl };
    }
