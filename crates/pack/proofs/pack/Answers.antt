-- `pack::pack` meets its contract.
use Rattle.std.proofs.Common.{◌≡◌, suc, ◌+◌, ◌-◌, ◌*◌, ◌/◌, ◌<◌, ◌≤◌, ◌++◌, length, take, drop, ap, ◌∙◌, arith}
use Rattle.model.specs.Table.{Words}
use Rattle.model.specs.Packing.{bottom, row_words}
use Rattle.pack_laws.specs.Needed.{nodes_above}
use Rattle.pack.specs.Rows.{pairs_after}
use Rattle.pack.proofs.Raising.{leaves-fit, leaves-back, rows-fit, raised-long, packed-all}
use Rattle.pack.proofs.pack.Goals.{After-put_leaves}
use Rattle.pack.proofs.pack.Goals as goal

-- the slice with the leaves put back
abbrev whole : (g : _) → After-put_leaves g → Words
whole g c = let ws = c.args.nodes.now in let w =
    32 * c.args.before in take w ws ++ (c.put_leaves.new.nodes ++ drop (length ws - w) (drop w ws))

put-back : (g : _) (c : After-put_leaves g)
    → let a = c.args in let ws = a.nodes.now in let w = 32 * a.before in
    whole g c ≡ take w ws
    ++ (row_words 0 (suc a.before) (bottom (pairs_after a.before ws a.pairs)) ++ drop (32 * suc ((a.pairs - 1) / 11)) (drop w ws))
put-back g c = let e = c.leaf_count-leaves in
    leaves-back _ _ _ g.count c.requires.0 c.requires.2 c.put_leaves.new.nodes e.result e.ensures c.put_leaves.ensures

-- the rows above them fit in it
rows : (g : _) (c : After-put_leaves g) → let b = c.args.before in let e = c.leaf_count-leaves.result in
    (32 * (b + (e + nodes_above 15 e)) ≤ length (whole g c)) × (b + e < 65536)
rows g c = let e = c.leaf_count-leaves in
    rows-fit _ _ _ g.count c.requires.0 c.requires.2 _ (put-back g c) e.result e.ensures c.requires.1

pub put_leaves-requires : goal.put_leaves-requires
put_leaves-requires g c = leaves-fit _ _ _ g.count c.requires.0 c.requires.2 _ c.leaf_count-leaves.ensures c.requires.1

pub put_rows-root-requires : goal.put_rows-root-requires
put_rows-root-requires g c = rows g (goal.at.put_rows-root-requires g c).After-put_leaves

pub overflow_mul-root : goal.overflow_mul-root
overflow_mul-root g c = let f = rows g (goal.at.overflow_mul-root g c).After-put_leaves in
    omega (arith, f, c.put_rows-root.ensures.value)

pub clear-requires : goal.clear-requires
clear-requires g c = let f = rows g (goal.at.clear-requires g c).After-put_leaves in
    let m = ap length c.put_rows-root.ensures.nodes_after ∙ raised-long 15 _ c.args.before c.leaf_count-leaves.result 1 in
    omega (arith, f.0, c.put_rows-root.ensures.value, m)

pub returns : goal.returns
returns g c = let e = c.leaf_count-leaves in
    let r = c.put_rows-root in
    let both = packed-all _ _ _ g.count c.requires.0 c.requires.2 _ (put-back g (goal.at.returns g c).After-put_leaves)
    _ _ e.result _ e.ensures
    r.ensures.nodes_after r.ensures.value c.clear.ensures in
    record { nodes_after = both.0; value = both.1 }
