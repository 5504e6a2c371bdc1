-- `recordings::step` meets its contract.
use Rattle.std.proofs.Common.{◌≡◌, rules, length}
use Rattle.std.proofs.Math.ListN.{replicate}
use Rattle.recordings.proofs.RoundLaws.{round-stays, round-apart, from-zero, cells-tell}
use Rattle.recordings.proofs.step.Goals as goal

pub returns-then-not-hit_leaves : goal.returns-then-not-hit_leaves
returns-then-not-hit_leaves c = let a = c.args in
    let once : c.fill.new.self ≡ replicate (length a.once.now) 0 = search rules in
    let twice : c.fill-2.new.self ≡ replicate (length a.twice.now) 0 = search rules in
    let e = from-zero _ _ _ a.once.now a.twice.now _ _ _ c.told-once c.told-twice once twice c.hit_leaves.ensures in
    record { tells = round-apart _ _ _ c.requires.stays _ e c.if-not-hit_leaves.true; stays_2 = round-stays _ _ _ c.requires.stays _ e }

pub returns : goal.returns
returns c = let a = c.args in
    let once : c.fill.new.self ≡ replicate (length a.once.now) 0 = search rules in
    let twice : c.fill-2.new.self ≡ replicate (length a.twice.now) 0 = search rules in
    let again : c.fill-3.new.self ≡ replicate (length c.hit_leaves.new.once) 0 = search rules in
    let e = from-zero _ _ _ a.once.now a.twice.now _ _ _ c.told-once c.told-twice once twice c.hit_leaves.ensures in
    let stays = round-stays _ _ _ c.requires.stays _ e in
    record {
      tells = cells-tell _ _ stays c.hit_leaves.new.once _ _ _ c.hit_leaves.array_long again
          c.enter_leaves.ensures;
      stays_2 = stays;
    }
