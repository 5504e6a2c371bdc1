-- `printer::read_piece` meets its contract.
use Rattle.std.proofs.Common.{◌-◌, length, drop, sym, refl, ◌∙◌, arith, length-drop, take_all, eqb-true}
use Rattle.script.proofs.Spoken.{same-start, same-line, same-end, slices-then}
use Rattle.printer.proofs.read_piece.Goals as goal

pub loop-rest-init : goal.loop-rest-init
loop-rest-init g c = (same-start _, record { same_table = refl; same_list = refl; same_buffer = refl })

pub loop-rest-preserved : goal.loop-rest-preserved
loop-rest-preserved g c =
    let l = c.loop-rest in
    let rest = l.rest.now in
    let used = c.read_line-used.result in
    rw (take_all (length rest - used) (drop used rest) (omega (arith, length-drop used rest)))
    (same-line l.session rest c.read_line-used.ensures l.invariant.0, slices-then l.invariant.1 c.read_line-used.ensures.slices)

pub returns : goal.returns
returns g c =
    let l = c.loop-rest in
    let none = eqb-true (length l.rest.now) 0 (sym c.is_empty.ensures ∙ c.loop-rest-test.false) in
    same-end _ c.args.piece.now l.rest.now (omega (arith, none)) l.invariant.0 l.invariant.1
