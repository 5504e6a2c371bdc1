-- `short_scripts::words_of` meets its contract.
use Rattle.std.proofs.Common.{◌≡◌, ◌+◌, ◌-◌, ◌<◌, sym, refl, ◌∙◌, arith, length-set}
use Rattle.short_laws.proofs.Rank.{unrank-length, script-within}
use Rattle.short_scripts.proofs.Words.{filled-none, filled-next, filled-words, grown-some, grown-down}
use Rattle.short_scripts.proofs.words_of.Goals as goal

pub loop-i-init : goal.loop-i-init
loop-i-init c = let n = c.args.number in
    let w = script-within n c.requires in (
      omega (arith, c.length_of-count.ensures, unrank-length 4 n),
      refl,
      rw c.length_of-count.ensures w.0,
      rw c.length_of-count.ensures w.1,
      refl,
    )

pub overflow_sub-words : goal.overflow_sub-words
overflow_sub-words c = let l = c.loop-i in omega (arith, grown-some l.i (omega arith), l.invariant.2)

pub overflow_sub-n : goal.overflow_sub-n
overflow_sub-n c = let l = c.loop-i in omega (arith, grown-some l.i (omega arith), l.invariant.2)

pub loop-i-preserved : goal.loop-i-preserved
loop-i-preserved c = let l = c.loop-i in
    let d = grown-down l.i l.n (omega arith) l.invariant.2 l.invariant.3 in
    let some : 0 < l.n = omega (arith, grown-some l.i (omega arith), l.invariant.2) in
    let same : l.i - 1 + 1 ≡ l.i = omega arith in
    (omega arith, simp length-set l.invariant.1, d.0, d.1, rw same (filled-next l.i l.n l.words (omega arith) some ∙ l.invariant.4))

pub returns : goal.returns
returns c = let l = c.loop-i in
    sym (filled-none l.i l.n l.words (omega arith)) ∙ l.invariant.4 ∙ rw c.length_of-count.ensures (filled-words c.args.number c.requires)
