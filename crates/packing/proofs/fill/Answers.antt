-- `packing::fill` meets its contract.
use Rattle.std.proofs.Common.{◌≡◌, List, ℕ, ◌+◌, ◌-◌, ◌*◌, ◌/◌, ◌≤◌, length, take, arith}
use lib.Seq.{sets}
use borrow.Rule.Slice.PartMut.{put_mid}
use Rattle.pack_laws.specs.Needed.{nodes_needed}
use Rattle.pack.proofs.Filling.{written-over}
use Rattle.packing.proofs.Filling.{pairs-long, pairs-fit, pack-fits, filled}
use Rattle.packing.proofs.fill.Goals as goal

-- the slice with the pairs in it
copied : (words pairs part : List ℕ) (before top : ℕ)
    → (length words ≡ 32 * top) × (top ≤ 65535) × (before + nodes_needed (length pairs / 2) ≤ top)
    → part ≡ take (2 * (length pairs / 2)) pairs → let w = 32 * before in let e = 2 * (length pairs / 2) in
    put_mid w (w + e - w) words part ≡ sets words w (take e pairs)
copied words pairs part before top r same =
    let n = pairs-long pairs in
    let f = pairs-fit words pairs before top r.0 r.1 r.2 in
    written-over words (take (2 * (length pairs / 2)) pairs) part (32 * before) _ same (omega (arith, n)) (omega (arith, f))

pub slice_bounds-copy-end-2 : goal.slice_bounds-copy-end-2
slice_bounds-copy-end-2 g c = pairs-fit _ _ _ g.top c.requires.0 c.requires.1 c.requires.2

pub pack-requires : goal.pack-requires
pack-requires g c = pack-fits _ _ _ g.top c.requires.0 c.requires.1 c.requires.2 _
    (copied _ c.args.pairs.now _ _ g.top c.requires c.copy.ensures)

pub returns : goal.returns
returns g c = let x = c.pack in
    let both = filled _ _ _ g.top c.requires.0 c.requires.1 c.requires.2 _ (copied _ c.args.pairs.now _ _ g.top c.requires c.copy.ensures)
    x.new.nodes x.result x.ensures.nodes_after x.ensures.value in
    record { words_after = both.0; value = both.1 }
