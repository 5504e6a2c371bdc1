-- Demand 3 from the tables that the tools build: a load's packed table, and a salvaged one. (The empty one: demand3.)
use Rattle.std.proofs.Common.{◌≡◌, ℕ, length}
use Rattle.model.specs.Table.{Words, nodes}
use Rattle.model.specs.Reached.{maps_of}
use Rattle.model.specs.Pack.{maps_in, pack_number, pack_out}
use Rattle.model.specs.Salvage.{kept_maps, salvage_number, salvage_out}
use Rattle.model.specs.Demand3.{HoldsFrom}
use Rattle.two_laws.proofs.SameTwo.{sound-same, settled-sound}
use Rattle.pack_laws.proofs.Call.{pack-settled, pack-maps}
use Rattle.tour_laws.proofs.Calls.{salvaged-settled, salvaged-nodes, salvaged-maps}
use Rattle.crash_laws.proofs.Demand3.{demand3-from}

-- An accepted packing: the ledger is the pairs of its slices.
pub packed-start : (n : ℕ) (pairs loans t : Words) → pack_number n pairs loans t ≡ 0
    → HoldsFrom (nodes (pack_out n pairs loans t)) (pack_out n pairs loans t) (maps_in n pairs loans)
packed-start n pairs loans t z =
    let u = pack_out n pairs loans t in
    let d : HoldsFrom (nodes u) u (maps_of u) = demand3-from u ((sound-same u).0 (settled-sound u (pack-settled n pairs loans t z))) in
    rw (pack-maps n pairs loans t z) at d

-- An accepted salvage: N is the old table's, and the ledger is the pairs that it kept.
pub salvaged-start :
    (t out : Words) (report : ℕ) → salvage_number t (length out) report ≡ 0 → HoldsFrom (nodes t) (salvage_out t out report) (kept_maps t)
salvaged-start t out report z =
    let u = salvage_out t out report in
    let d : HoldsFrom (nodes u) u (maps_of u) = demand3-from u ((sound-same u).0 (settled-sound u (salvaged-settled t out report z))) in
    rw (salvaged-nodes t out report z, salvaged-maps t out report z) at d
