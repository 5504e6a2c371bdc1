-- `packing::pack_table` meets its contract.
use Rattle.std.proofs.Common.{◌≡◌, length, sym, ◌∙◌}
use Rattle.list_laws.proofs.Tools.{handed-on}
use Rattle.model.specs.Table.{nodes_for, make_number}
use Rattle.model.proofs.Numbers.{passed-zero, failed-some, failed-with}
use Rattle.table_laws.proofs.Header.{LengthFacts, length-iff}
use Rattle.table_laws.proofs.Making.{makes}
use Rattle.node.proofs.Answers.{nodes-in-sized}
use Rattle.packing.proofs.Call.{not-grown, refused-making, refused-outgrown, refused-pairs, packs}
use Rattle.packing.proofs.pack_table.Goals.{After-nodes_in-top}
use Rattle.packing.proofs.pack_table.Goals as goal

-- what the test of the length left
number : (c : After-nodes_in-top) → make_number c.args.collections c.args.table.now ≡ 0
number c = passed-zero _ (sym c.may_make.ensures ∙ c.in_ok-may_make.was)

sized : (c : After-nodes_in-top) → LengthFacts (length c.args.table.now) c.nodes_in-top.result
sized c = nodes-in-sized _ _ _ c.nodes_in-top.ensures (makes _ _ (number c)).size

size : (c : After-nodes_in-top) → c.nodes_in-top.result ≡ nodes_for (length c.args.table.now)
size c = ((length-iff _ _).1 (sized c)).1

pub returns-in_err-may_make : goal.returns-in_err-may_make
returns-in_err-may_make c =
    let a = c.args in
    let e = sym c.may_make.ensures ∙ c.in_err-may_make.was in
    let both = refused-making a.collections a.pairs.now a.loans.now a.table.now (failed-some _ e) in
    record { value = rw (handed-on c.from_residual.ensures.1) (sym (failed-with _ e) ∙ both.0); table_after = both.1 }

pub outgrows-requires : goal.outgrows-requires
outgrows-requires c = (sized (goal.at.outgrows-requires c).After-nodes_in-top).few

pub returns-then-outgrows : goal.returns-then-outgrows
returns-then-outgrows c = let t = (goal.at.returns-then-outgrows c).After-nodes_in-top in
    let r = refused-outgrown _ _ _ _ (number t) _ (size t) _ c.outgrows.ensures c.if-outgrows.true in
    record { value = r.0; table_after = r.1 }

pub returns-then-not-maps_ok : goal.returns-then-not-maps_ok
returns-then-not-maps_ok c = let t = (goal.at.returns-then-not-maps_ok c).After-nodes_in-top in
    let r = refused-pairs _ _ _ _ (number t) _ (size t) _ c.outgrows.ensures c.if-outgrows.false _ c.maps_ok.ensures
    c.if-not-maps_ok.true in
    record { value = r.0; table_after = r.1 }

pub put_table-requires : goal.put_table-requires
put_table-requires c = let f =
    sized (goal.at.put_table-requires c).After-nodes_in-top in (f.long, f.few, not-grown _ _ _ c.outgrows.ensures c.if-outgrows.false)

pub returns : goal.returns
returns c = let t = (goal.at.returns c).After-nodes_in-top in
    let x = c.put_table in
    let r = packs _ _ _ _ (number t) _ (size t) _ c.outgrows.ensures c.if-outgrows.false _ c.maps_ok.ensures c.if-not-maps_ok.false
    x.new.table x.ensures in
    record { value = r.0; table_after = r.1 }
