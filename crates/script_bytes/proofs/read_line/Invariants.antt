-- `script_bytes::read_line` meets its contract. The loop's invariant: what is left of the piece, read from the line so far, is the whole
-- read.
use Rattle.std.proofs.Common.{◌≡◌, ℕ, drop}
use Rattle.model.specs.Printer.{Bytes}
use Rattle.script_bytes.specs.Line.{line_in, further_by}
use Rattle.script_bytes.specs.declared.LineState.{LineState}
use Rattle.script_bytes.specs.declared.LineRead.{LineRead}
use Rattle.script_bytes.proofs.read_line.Given as goal

-- what is left of the piece, after i bytes
abbrev pub left : LineState → ℕ → Bytes → LineRead
left s i piece = let x = line_in s (drop i piece) in record { line = x.line; end = further_by i x.end }

abbrev pub invariant-loop-i : goal.invariant-loop-i
invariant-loop-i l = line_in l.initial.s l.piece ≡ left l.s l.i l.piece
