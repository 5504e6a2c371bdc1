-- `salvage::rebuild` meets its contract.
use Rattle.std.proofs.Common.{◌≡◌, ◌-◌, length, take, drop, arith, rules}
use Rattle.salvage.proofs.Bounds.{words-some}
use Rattle.salvage.proofs.Call.{out-long, part-long, put-out, rebuilt}
use Rattle.salvage.proofs.rebuild.Goals as goal

pub slice_bounds-fill_both-count : goal.slice_bounds-fill_both-count
slice_bounds-fill_both-count c = let a = c.args in out-long _ _ _ a.out.now a.entered.toured c.requires.2

pub slice_bounds-fill_both-start : goal.slice_bounds-fill_both-start
slice_bounds-fill_both-start c = let a = c.args in out-long _ _ _ a.out.now a.entered.toured c.requires.2

pub fill_both-f-requires : goal.fill_both-f-requires
fill_both-f-requires c = let a = c.args in
    (c.requires.0, c.requires.1, part-long _ _ _ a.out.now a.entered.toured c.requires.2, c.requires.3)

pub put_header-requires : goal.put_header-requires
put_header-requires c = let a = c.args in
    let w = c.fill_both-f.new.words in
    let u : length w ≡ length (take (length a.out.now - 8) (drop 8 a.out.now)) = search rules in
    put-out _ _ _ a.out.now a.entered.toured c.requires.2 w u

pub returns : goal.returns
returns c = let a = c.args in
    let f = c.fill_both-f in
    let s = f.result in
    let h = c.put_header in record {
      out_after = rebuilt _ _ _ a.out.now a.entered.toured c.requires.2
          f.new.words h.new.table s.root.one s.root.two f.ensures.words_after f.ensures.one_value h.ensures;
      reported = f.ensures.reported;
    }

pub bounds-entered-2 : goal.bounds-entered-2
bounds-entered-2 c = let w = words-some _ _ _ c.args.entered.toured in omega (arith, w)
