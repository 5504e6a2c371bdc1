-- `recordings::hit_number` meets its contract.
use Rattle.std.proofs.Common.{Bool, ℕ, false, sym, ap, ◌∙◌}
use Rattle.recordings.specs.Rounds.{suspect, place_of, hits, hit}
use Rattle.recordings.proofs.RoundLaws.{if-yes, if-no}
use Rattle.recordings.proofs.hit_number.Goals as goal

pub returns-else-is_suspect : goal.returns-else-is_suspect
returns-else-is_suspect c = let a = c.args in
    ap (λ (b : Bool). hits a.once.now a.twice.now b) c.if-is_suspect.false
    ∙ sym (if-no (suspect a.round a.olds.now) (place_of a.round) _ (hits a.once.now a.twice.now false)
    (sym c.is_suspect.ensures ∙ c.if-is_suspect.false))

pub returns-then-is_suspect : goal.returns-then-is_suspect
returns-then-is_suspect c = let a = c.args in
    let h = hits a.once.now a.twice.now false in
    c.hit.ensures ∙ ap (λ (y : ℕ). hit y h) c.place.ensures.value
    ∙ sym (if-yes (suspect a.round a.olds.now) (place_of a.round) _ h (sym c.is_suspect.ensures ∙ c.if-is_suspect.true))
