-- `script_bytes::read_line` meets its contract. The loop's invariant: what is left of the piece, read from the line so far, is the whole
-- read.
use Rattle.std.proofs.Common.{◌≡◌, ℕ, suc, ◌+◌, ◌<◌, ◌≢◌, length, get_or, drop, sym, refl, ap, ◌∙◌, add-one, arith, drop_of_length-le}
use Rattle.std.proofs.Common.{drop-cons, ne_eqb}
use Rattle.std.specs.Prelude.{Option, Some, None}
use Rattle.model.specs.Printer.{Bytes}
use Rattle.script_bytes.specs.Line.{step, line_in, further_by}
use Rattle.script_bytes.specs.declared.LineState.{LineState}
use Rattle.script_bytes.specs.declared.LineRead.{LineRead}
use Rattle.script_bytes.proofs.read_line.Invariants.{left}
use Rattle.script_bytes.proofs.read_line.Goals as goal

by-none : (e : Option ℕ) → e ≡ further_by 0 e
by-none None = refl
by-none (Some n) = let z : n ≡ 0 + n = omega arith in ap Some z

by-more : (i : ℕ) (e : Option ℕ) → further_by i (further_by 1 e) ≡ further_by (suc i) e
by-more i None = refl
by-more i (Some n) = let z : i + (1 + n) ≡ suc i + n = omega arith in ap Some z

at-start : (s : LineState) (piece : Bytes) → line_in s piece ≡ left s 0 piece
at-start s piece = let x =
    line_in s piece in ap (λ (e : Option ℕ). let y : LineRead = record { line = x.line; end = e } in y) (by-none x.end)

module _ (s : LineState) (i : ℕ) (piece : Bytes) where
  at-feed : i < length piece → get_or piece i 0 ≡ 10 → record { line = s; end = Some (i + 1) } ≡ left s i piece
  unfolding line_in
  at-feed h e = rw (drop-cons piece i 0 h, line_in, e)

  at_other : i < length piece → get_or piece i 0 ≢ 10 → (s' : LineState) → s' ≡ step s (get_or piece i 0)
      → left s i piece ≡ left s' (i + 1) piece
  unfolding line_in
  at_other h e s' f =
      let x = line_in (step s (get_or piece i 0)) (drop (suc i) piece) in
      rw (drop-cons piece i 0 h, line_in, ne_eqb (get_or piece i 0) 10 e, add-one i, f)
      (ap (λ (e : Option ℕ). let y : LineRead = record { line = x.line; end = e } in y) (by-more i x.end))

  at-end : length piece ≡ i → record { line = s; end = None } ≡ left s i piece
  unfolding line_in
  at-end h = rw (drop_of_length-le piece {i = i} (omega (arith, h)), line_in)

pub loop-i-init : goal.loop-i-init
loop-i-init c = at-start _ _

pub returns-then-b-eq10 : goal.returns-then-b-eq10
returns-then-b-eq10 c = at-feed _ _ _ (omega arith) c.if-b-eq10.true ∙ sym c.loop-i.invariant

pub loop-i-preserved : goal.loop-i-preserved
loop-i-preserved c = c.loop-i.invariant ∙ at_other _ c.loop-i.i c.args.piece.now (omega arith) c.if-b-eq10.false _ c.take.ensures

pub returns : goal.returns
returns c = at-end _ c.loop-i.i c.args.piece.now (omega arith) ∙ sym c.loop-i.invariant
