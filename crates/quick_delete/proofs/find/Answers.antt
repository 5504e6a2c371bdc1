-- `quick_delete::find` meets its contract.
use mathlib.Core.Path.{refl, sym, ◌∙◌}
use Rattle.list_laws.proofs.Tools.{handed-on}
use Rattle.way.proofs.Walking.{along-low}
use Rattle.quick_delete.proofs.Finding.{Seen, seen, way-refused, found-as, parent-plain, neighbour-refuses, neighbour-passes, stays-passes}
use Rattle.quick_delete.proofs.Finding.{absent-passes}
use Rattle.quick_delete.proofs.find.Goals.{After-is_some}
use Rattle.quick_delete.proofs.find.Goals.{else-is_some-via-then-is_some+then-frees+else-not-neighbour_there}
use Rattle.quick_delete.proofs.find.Goals.{else-is_some-via-then-is_some+else-frees, else-is_some-via-else-is_some}
use Rattle.quick_delete.proofs.find.Goals as goal

pub returns-in_err-way-clause-number : goal.returns-in_err-way-clause-number
returns-in_err-way-clause-number c = rw (handed-on c.from_residual.ensures.1) (way-refused _ _ _ _ _ c.in_err-way.ensures.number)

pub on_level-leaf-requires : goal.on_level-leaf-requires
on_level-leaf-requires c = along-low (c.in_ok-way.ensures.way _ refl)

pub on_level-parent-requires : goal.on_level-parent-requires
on_level-parent-requires c = along-low (c.in_ok-way.ensures.way _ refl)

-- what was read by then
read : (c : After-is_some) → let a = c.args in
    Seen a.collection a.summary.now a.table.now a.key c.on_level-leaf.result c.on_level-parent.result
    c.frees_leaf-frees.result c.held-pointer.result
read c =
    seen c.in_ok-way.ensures.number (c.in_ok-way.ensures.way _ refl) c.root_of-root.ensures c.on_level-leaf.ensures
    c.on_level-parent.ensures c.frees_leaf-frees.ensures c.held-pointer.ensures

pub neighbour_there-requires-clause-p_value : goal.neighbour_there-requires-clause-p_value
neighbour_there-requires-clause-p_value c =
    parent-plain (read (goal.at.neighbour_there-requires-clause-p_value c).After-is_some) c.if-frees.true

pub returns-then-not-neighbour_there-clause-number : goal.returns-then-not-neighbour_there-clause-number
returns-then-not-neighbour_there-clause-number c =
    neighbour-refuses (read (goal.at.returns-then-not-neighbour_there-clause-number c).After-is_some)
    (sym c.is_some.ensures ∙ c.if-is_some.true) c.if-frees.true
    (sym c.neighbour_there.ensures ∙ c.if-not-neighbour_there.true)

pub returns-clause-number : goal.returns-clause-number
returns-clause-number c =
    let s = read (goal.at.returns-clause-number c).After-is_some in
    elim c.else-is_some.branch [
      | else-is_some-via-then-is_some+then-frees+else-not-neighbour_there w ↦
          neighbour-passes s (sym c.is_some.ensures ∙ w.if-is_some.true) w.if-frees.true
          (sym w.neighbour_there.ensures ∙ w.if-not-neighbour_there.false)
      | else-is_some-via-then-is_some+else-frees w ↦ stays-passes s w.if-frees.false
      | else-is_some-via-else-is_some w ↦ absent-passes s (sym c.is_some.ensures ∙ w.if-is_some.false)
    ]

pub returns-clause-found : goal.returns-clause-found
returns-clause-found c f e = found-as (read (goal.at.returns-clause-found c).After-is_some) f cc
