-- `gather::gather_node` meets its contract.
use borrow.Author.Rules.{rules}
use Rattle.gather.proofs.Leaves.{collecting-start, collecting-room, collecting-most, collecting-step, collecting-stop, collecting-end}
use Rattle.gather.proofs.Leaves.{collecting-none}
use Rattle.gather.proofs.gather_node.Goals as goal

pub returns-then-x-ne0 : goal.returns-then-x-ne0
returns-then-x-ne0 c = let a = c.args in
    let r = c.read-x in let both =
    collecting-none _ _ r.result r.ensures a.bound a.words.now a.report.now a.t c.requires.1 c.requires.2 c.if-x-ne0.true c.requires.0
    in record { result_after = both.0; standing = both.1 }

pub loop-i-init : goal.loop-i-init
loop-i-init c = let a = c.args in
    let r = c.read-x in (
      r.ensures,
      c.requires.1,
      c.requires.2,
      collecting-start _ _ r.result r.ensures a.bound a.words.now a.report.now a.t c.requires.1 c.requires.2
          c.if-x-ne0.false c.requires.0,
    )

pub returns-then-pointer-eq0 : goal.returns-then-pointer-eq0
returns-then-pointer-eq0 c = let l = c.loop-i.invariant in let t = c.loop-i-test.true in let both =
    collecting-stop _ _ _ l.0 _ _ _ _ l.1 l.2 _ _ _ _ _ l.3 t c.if-pointer-eq0.true in record { result_after = both.0; standing = both.1 }

pub gather_shown-p-requires : goal.gather_shown-p-requires
gather_shown-p-requires c = let l = c.loop-i.invariant in
    let t = c.loop-i-test.true in (
      l.3.standing,
      collecting-room _ _ _ l.0 _ _ _ _ l.1 l.2 _ _ _ _ _ l.3 t,
      collecting-most _ _ _ l.0 _ _ _ _ l.1 l.2 _ _ _ _ _ l.3 t c.if-pointer-eq0.false,
    )

pub loop-i-preserved : goal.loop-i-preserved
loop-i-preserved c = let l = c.loop-i.invariant in
    let t = c.loop-i-test.true in (
      l.0,
      l.1,
      l.2,
      collecting-step _ _ _ l.0 _ _ _ _ l.1 l.2 _ _ _ _ _ l.3 t c.if-pointer-eq0.false _ _ _ c.gather_shown-p.ensures.result_after
          c.gather_shown-p.ensures.standing.0 c.gather_shown-p.ensures.standing.1
          (search rules) (search rules),
    )

pub returns : goal.returns
returns c = let l = c.loop-i.invariant in let both =
    collecting-end _ _ _ l.0 _ _ _ _ l.1 l.2 _ _ _ _ _ l.3 c.loop-i-test.false in record { result_after = both.0; standing = both.1 }
