-- `node::make` meets its contract.
use Rattle.std.proofs.Common.{◌≡◌, sym, ◌∙◌, rules, arith, length}
use Rattle.std.proofs.Math.ListN.{length-set, replicate}
use Rattle.list_laws.proofs.Tools.{handed-on}
use Rattle.model.proofs.Numbers.{passed-zero, failed-some, failed-with}
use Rattle.table_laws.proofs.Making.{makes}
use Rattle.node.proofs.Answers.{nodes-in-sized}
use Rattle.node.proofs.Making.{making-refused, making-one, making-two}
use Rattle.node.proofs.make.Goals as goal

pub returns-in_err-may_make : goal.returns-in_err-may_make
returns-in_err-may_make c =
    let e = sym c.may_make.ensures ∙ c.in_err-may_make.was in
    let both = making-refused _ _ (failed-some _ e) in
    record { value = rw (handed-on c.from_residual.ensures.1) (sym (failed-with _ e) ∙ both.0); table_after = both.1 }

pub bounds-table-0 : goal.bounds-table-0
bounds-table-0 c = omega (arith, (makes _ _ (passed-zero _ (sym c.may_make.ensures ∙ c.in_ok-may_make.was))).size)

pub bounds-table-1 : goal.bounds-table-1
bounds-table-1 c = simp length-set (omega (arith, (makes _ _ (passed-zero _ (sym c.may_make.ensures ∙ c.in_ok-may_make.was))).size))

pub bounds-table-2 : goal.bounds-table-2
bounds-table-2 c = simp length-set (omega (arith, (makes _ _ (passed-zero _ (sym c.may_make.ensures ∙ c.in_ok-may_make.was))).size))

pub bounds-table-8 : goal.bounds-table-8
bounds-table-8 c = simp length-set (omega (arith, (makes _ _ (passed-zero _ (sym c.may_make.ensures ∙ c.in_ok-may_make.was))).size))

pub returns-then-collections-eq1 : goal.returns-then-collections-eq1
returns-then-collections-eq1 c =
    let f : c.fill.new.self ≡ replicate (length c.args.table.now) 0 = search rules in
    let z = passed-zero _ (sym c.may_make.ensures ∙ c.in_ok-may_make.was) in
    let both = making-one _ _ _ z _ (nodes-in-sized _ _ _ c.nodes_in-n.ensures (makes _ _ z).size) f c.if-collections-eq1.true in
    record { value = both.0; table_after = both.1 }

pub bounds-table-3 : goal.bounds-table-3
bounds-table-3 c =
    let m = makes _ _ (passed-zero _ (sym c.may_make.ensures ∙ c.in_ok-may_make.was)) in
    simp length-set (omega (arith, m.size, (m.two c.if-collections-eq1.false).1))

pub bounds-table-40 : goal.bounds-table-40
bounds-table-40 c =
    let m = makes _ _ (passed-zero _ (sym c.may_make.ensures ∙ c.in_ok-may_make.was)) in
    simp length-set (omega (arith, m.size, (m.two c.if-collections-eq1.false).1))

pub returns : goal.returns
returns c =
    let z = passed-zero _ (sym c.may_make.ensures ∙ c.in_ok-may_make.was) in
    let m = makes _ _ z in
    let f : c.fill.new.self ≡ replicate (length c.args.table.now) 0 = search rules in
    let both = making-two _ _ _ z _ (nodes-in-sized _ _ _ c.nodes_in-n.ensures m.size) f (m.two c.if-collections-eq1.false).0 in
    record { value = both.0; table_after = both.1 }
