-- `gather::gather_slot` meets its contract.
use Rattle.std.proofs.Common.{◌≡◌, ℕ, ◌*◌, ◌≢◌, [], ◌∷◌, sym, ap, ◌∙◌}
use lib.Seq.{sets}
use Rattle.gather.specs.Held.{number_of}
use Rattle.gather.proofs.Slots.{Moved, front-long, front-fits, after-front-long, sought-standing, cause-some, put-then, taken-then}
use Rattle.gather.proofs.Slots.{left-then}
use Rattle.gather.proofs.gather_slot.Goals.{After-seek-at, In-None, In-Some, After-put_drop}
use Rattle.gather.proofs.gather_slot.Goals as goal

-- where the gap went
moved : (c : After-seek-at) → let a = c.args in Moved a.words.now a.bound a.t a.s.key c.seek-at.result c.seek-at.new.pairs
moved c = let k = c.seek-at in
    let e = k.ensures in
    record { long = k.auto.pairs; same = e.kept_after.0; below = e.kept_after.1; under = e.under.0; over = e.under.1 }

-- what the arms say of the reason's number
kept-number : (c : In-None) → number_of c.reason.result ≡ 0
kept-number c = ap number_of c.in-None.is

left-number : (c : In-Some) → number_of c.reason.result ≢ 0
left-number c = let e = ap number_of c.in-Some.is in λ z. cause-some c.in-Some.why (sym e ∙ z)

reported : (c : After-put_drop) → let a =
    c.args in c.put_drop.new.report ≡ sets a.report.now (3 * a.t.dropped) (a.s.node ∷ a.s.place ∷ number_of c.reason.result ∷ [])
reported c = let a =
    c.args in c.put_drop.ensures
    ∙ ap (λ (x : ℕ). sets a.report.now (3 * a.t.dropped) (a.s.node ∷ a.s.place ∷ x ∷ [])) (sym (ap number_of c.in-Some.is))

pub slice_bounds-seek-end-2 : goal.slice_bounds-seek-end-2
slice_bounds-seek-end-2 c = let a = c.args in front-long a.words.now a.bound a.t c.requires.0

pub seek-at-requires : goal.seek-at-requires
seek-at-requires c = let a = c.args in front-fits a.words.now a.bound a.t c.requires.0

pub reason-requires : goal.reason-requires
reason-requires c = let a =
    c.args in sought-standing a.words.now a.bound a.t c.requires.0 a.s.key _ _ (moved (goal.at.reason-requires c).After-seek-at)

pub slice_bounds-put-end-in-None : goal.slice_bounds-put-end-in-None
slice_bounds-put-end-in-None c = let a = c.args in
    after-front-long a.words.now a.bound a.t c.requires.0 a.s.key _ _
    (moved (goal.at.slice_bounds-put-end-in-None c).After-seek-at) _ c.reason.auto.words

pub put-requires : goal.put-requires
put-requires c = let a = c.args in
    let g = goal.at.put-requires c in
    let y = c.reason in
    put-then a.words.now a.bound a.t a.report.now a.s.node a.s.place a.s.key a.s.pointer c.requires.0 c.requires.1 c.requires.2 _
    _ (moved g.After-seek-at)
    (number_of y.result) y.ensures.value y.new.words y.ensures.filing y.auto.words (kept-number g.In-None)

pub returns-in-None : goal.returns-in-None
returns-in-None c = let a = c.args in
    let g = goal.at.returns-in-None c in
    let y = c.reason in
    let both = taken-then a.words.now a.bound a.t a.report.now a.s.node a.s.place a.s.key a.s.pointer c.requires.0 c.requires.1 c.requires.2
    _ _ (moved g.After-seek-at)
    (number_of y.result) y.ensures.value y.new.words y.ensures.filing y.auto.words (kept-number g.In-None) c.put.new.pairs
    c.put.auto.pairs c.put.ensures in
    record { result_after = both.0; standing = both.1 }

pub returns-in-Some : goal.returns-in-Some
returns-in-Some c = let a = c.args in
    let g = goal.at.returns-in-Some c in
    let y = c.reason in
    let both = left-then a.words.now a.bound a.t a.report.now a.s.node a.s.place a.s.key a.s.pointer c.requires.0 c.requires.1 c.requires.2
    _ _ (moved g.After-seek-at)
    (number_of y.result) y.ensures.value y.new.words y.ensures.filing y.auto.words (left-number g.In-Some) c.put_drop.new.report
    (reported g.After-put_drop) in
    record { result_after = both.0; standing = both.1 }
