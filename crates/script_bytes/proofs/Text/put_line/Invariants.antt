-- `script_bytes::Text::put_line` meets its contract. The loop's invariant: what is put of the numbers that are left is put of all of them.
use Rattle.std.proofs.Common.{◌+◌, ◌-◌, ◌*◌, length, drop}
use Rattle.model.specs.Printer.{numbers_text}
use Rattle.script_bytes.specs.declared.Text.{Text}
use Rattle.script_bytes.specs.Text.{Room, Puts}
use Rattle.script_bytes.proofs.Text.put_line.Given as goal

abbrev pub invariant-loop-n : goal.invariant-loop-n
invariant-loop-n l = Room (21 * (length l.numbers - l.n-index) + 1) l.self
    × ((z : Text) → Puts (numbers_text (drop l.n-index l.numbers)) l.self z → Puts (numbers_text l.numbers) l.initial.self z)
