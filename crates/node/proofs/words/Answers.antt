-- `node::words` meets its contract.
use native.Mathlib.Omega.{arith}
use Rattle.node.proofs.Chunks.{node-fits, node-room, node-taken}
use Rattle.node.proofs.words.Goals as goal

pub offset_bounds-table-start : goal.offset_bounds-table-start
offset_bounds-table-start c = omega (arith, node-fits c.args.table.now c.args.i c.requires _ c.start.ensures)

pub slice_bounds-first_chunk-count : goal.slice_bounds-first_chunk-count
slice_bounds-first_chunk-count c = omega (arith, node-fits c.args.table.now c.args.i c.requires _ c.start.ensures)

pub slice_bounds-first_chunk-start : goal.slice_bounds-first_chunk-start
slice_bounds-first_chunk-start c = omega (arith, node-fits c.args.table.now c.args.i c.requires _ c.start.ensures)

pub unwrap-requires : goal.unwrap-requires
unwrap-requires c = c.first_chunk.ensures.variant.1 (node-room c.args.table.now c.args.i c.requires _ c.start.ensures)

pub returns : goal.returns
returns c = node-taken c.args.table.now c.args.i c.requires _ c.start.ensures (rw c.unwrap.ensures at c.first_chunk.ensures.cases).same
