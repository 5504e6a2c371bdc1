-- `sound::clear` meets its contract.
use Rattle.std.proofs.Common.{◌≡◌, length, arith}
use Rattle.sound.proofs.NodeLaws.{clear-then, clear-else}
use Rattle.sound.proofs.clear.Goals as goal

pub returns-then-eq : goal.returns-then-eq
returns-then-eq c = let w = c.words-w.result.now in
    let long : length w ≡ 32 = omega arith in
    clear-then _ _ c.requires w c.words-w.ensures long _ c.eq.ensures c.if-eq.true

pub returns-else-eq : goal.returns-else-eq
returns-else-eq c = let w = c.words-w.result.now in
    let long : length w ≡ 32 = omega arith in
    clear-else _ _ c.requires w c.words-w.ensures long _ c.eq.ensures c.if-eq.false
