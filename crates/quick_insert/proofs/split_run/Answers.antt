-- `quick_insert::split_run` meets its contract. The loop keeps what is left of the run (`Left`).
use Rattle.std.proofs.Common.{ℕ, cond, ltb, [], get_or, sym, refl, ap, ◌∙◌, arith}
use Rattle.orders.proofs.Rest.{rest-size}
use Rattle.quick_insert.proofs.Splitting.{left-start, left-as, left-end, left-stop, left-room, left-next, left-at, rest-past, splits-of}
use Rattle.quick_insert.proofs.Splitting.{middle-word, split-unfull, full-range, upper-range}
use Rattle.quick_insert.proofs.split_run.Goals as goal

pub loop-a-init : goal.loop-a-init
loop-a-init c = record { left = left-start c.requires.room }

pub returns-then-not-full_node : goal.returns-then-not-full_node
returns-then-not-full_node c =
    let l = c.loop-a in
    let left = left-at c.args.run.now l.a-index c.loop-a-test.true l.invariant.left in
    let not-full = rw c.table-table.ensures at (sym c.full_node.ensures ∙ c.if-not-full_node.true) in
    let all = left-stop left refl (sym (split-unfull _ _ _ _ _ not-full)) in
    record { stores = all.0; marks_after = all.1.0; under_value = all.1.1 }

pub free_after-b-requires-clause-a_le_nodes : goal.free_after-b-requires-clause-a_le_nodes
free_after-b-requires-clause-a_le_nodes c = (full-range _ _ _ (sym c.full_node.ensures ∙ c.if-not-full_node.false)).1

pub returns-then-not-can_split : goal.returns-then-not-can_split
returns-then-not-can_split c =
    let l = c.loop-a in
    let left = left-at c.args.run.now l.a-index c.loop-a-test.true l.invariant.left in
    let can-not = rw c.table-table.ensures at (sym c.can_split.ensures ∙ c.if-not-can_split.true) in
    let all = left-stop left c.free_after-b.ensures can-not in
    record { stores = all.0; marks_after = all.1.0; under_value = all.1.1 }

pub split-requires : goal.split-requires
split-requires c =
    let l = c.loop-a in
    let can = rw c.table-table.ensures at (sym c.can_split.ensures ∙ c.if-not-can_split.false) in
    let s = splits-of c.args.nodes l.writer.table.now (rest-size _ _ l.invariant.left.stores ∙ c.requires.table_len) _ _ _ can in
    let left = left-at c.args.run.now l.a-index c.loop-a-test.true l.invariant.left in
    record {
      a_value = s.lower;
      a_value_2 = s.plain;
      in_bounds = s.enough;
      b_value = s.upper;
      p_value = s.above;
      p_value_2 = s.room;
      room = left-room left c.free_after-b.ensures can;
    }

pub put-requires : goal.put-requires
put-requires c =
    let l = c.loop-a in
    omega (
      arith,
      upper-range c.args.nodes _ (get_or c.args.run.now l.a-index 0) c.free_after-b.result l.p
          (sym c.can_split.ensures ∙ c.if-not-can_split.false),
      c.requires.nodes_bound_2,
      l.auto.marks,
    )

pub loop-a-preserved : goal.loop-a-preserved
loop-a-preserved c =
    let l = c.loop-a in
    let t = c.table-table.ensures in
    let can = rw t at (sym c.can_split.ensures ∙ c.if-not-can_split.false) in
    let s = splits-of c.args.nodes l.writer.table.now (rest-size _ _ l.invariant.left.stores ∙ c.requires.table_len) _ _ _ can in
    let left = left-at c.args.run.now l.a-index c.loop-a-test.true l.invariant.left in
    let fence = rw t at c.word-fence.ensures ∙ middle-word _ _ _ _ s in
    record {
      left =
          left-next left c.free_after-b.ensures can c.split.ensures c.put.ensures
          (c.half-p.ensures ∙ ap (λ (x : ℕ). cond (ltb c.args.key x) (get_or c.args.run.now l.a-index 0) c.free_after-b.result) fence);
    }

pub returns : goal.returns
returns c =
    let a = c.args in
    let all = left-end (left-as _ [] (rest-past a.run.now c.loop-a.a-index c.loop-a-test.false) c.loop-a.invariant.left) in
    record { stores = all.0; marks_after = all.1.0; under_value = all.1.1 }
