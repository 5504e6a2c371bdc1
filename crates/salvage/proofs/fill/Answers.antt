-- `salvage::fill` meets its contract.
use Rattle.std.proofs.Common.{◌≡◌, ◌-◌, ◌*◌, length, take, drop, rules}
use Rattle.salvage.proofs.Filling.{gather-ready, pack-fits, filled}
use Rattle.salvage.proofs.fill.Goals.{After-gather-t}
use Rattle.salvage.proofs.fill.Goals as goal

-- the slices are as long as before
same-long : (c : After-gather-t) → let a = c.args in let w = 32 * a.before in let ws = a.words.now in
    (length c.gather-t.new.words ≡ length (take (length ws - w) (drop w ws))) × (length c.gather-t.new.report ≡ length a.report.now)
same-long c = let a = c.args in
    let w = c.gather-t.new.words in
    let r = c.gather-t.new.report in
    let u : length w ≡ length (take (length a.words.now - 32 * a.before) (drop (32 * a.before) a.words.now)) = search rules in
    let v : length r ≡ length a.report.now = search rules in
    (u, v)

pub gather-t-requires : goal.gather-t-requires
gather-t-requires c = let a = c.args in
    gather-ready a.table.now a.order.now a.words.now a.before a.bound a.report.now c.requires

pub pack-root-requires : goal.pack-root-requires
pack-root-requires c = let g = c.gather-t in
    let l = same-long (goal.at.pack-root-requires c).After-gather-t in
    pack-fits _ _ _ _ _ _ c.requires g.new.words g.new.report g.result g.ensures.result_after g.ensures.kept_le_bound.0
    g.ensures.kept_le_bound.1 l.0 l.1

pub returns : goal.returns
returns c = let g = c.gather-t in
    let k = c.pack-root in
    let l = same-long (goal.at.returns c).After-gather-t in
    let both = filled _ _ _ _ _ _ c.requires
    g.new.words g.new.report g.result g.ensures.result_after g.ensures.kept_le_bound.0 g.ensures.kept_le_bound.1 l.0 l.1 k.new.nodes
    k.result k.ensures.nodes_after k.ensures.value in
    record { words_after = both.0; reported = both.1.0; dropped_bound = both.1.1 }
