-- `script_bytes::Text::put_byte` meets its contract.
use Rattle.std.proofs.Common.{refl, ◌∙◌, add-one, arith}
use lib.Seq.{set_split, append_snoc}
use Rattle.script_bytes.proofs.Text.put_byte.Goals as goal

pub returns : goal.returns
returns c =
    let x = c.args.self.now in
    record {
      put = record { buffer = set_split x.out.now x.at c.args.b (omega (arith, c.requires)) ∙ rw (append_snoc, ← add-one); next = refl };
      same_buffer = refl;
    }
