-- `packing::put_table` meets its contract.
use Rattle.model.specs.Pack.{maps_in}
use Rattle.packing.proofs.Call.{nodes-long, nodes-count, put-table}
use Rattle.packing.proofs.put_table.Goals as goal

pub fill_both-roots-requires : goal.fill_both-roots-requires
fill_both-roots-requires c = let a = c.args in
    let r = c.requires in
    rw (nodes-count a.table.now a.top r.0) (nodes-long a.table.now a.top r.0, r.1, r.2)

pub returns : goal.returns
returns c = let a = c.args in
    let f = c.fill_both-roots in
    let h = c.put_header in
    put-table a.table.now a.top c.requires.0 (maps_in a.maps.collections a.maps.pairs.now a.maps.loans.now) f.new.words h.new.table
    f.result.one f.result.two
    (rw (nodes-count a.table.now a.top c.requires.0) at f.ensures.words_after) f.ensures.one_value h.ensures
