-- `script_bytes::begun` meets its contract.
use Rattle.std.proofs.Common.{◌≡◌, true, ◌≢◌, refl}
use Rattle.script_bytes.specs.Line.{begun}
use Rattle.script_bytes.specs.declared.Place.{Place}
use Rattle.script_bytes.specs.declared.Place.TheVariants.{Start, Sign, CodeStart, Code, RecordingStart, Recording, Other}
use Rattle.script_bytes.proofs.begun.Goals as goal
use Rattle.script_bytes.proofs.begun.Goals.{in-Start, in_default}

-- all variants but the first
past-start : (p : Place) → p ≢ Start → true ≡ begun p
unfolding begun
past-start Start h = absurd (h refl)
past-start Sign h = refl
past-start CodeStart h = refl
past-start Code h = refl
past-start RecordingStart h = refl
past-start Recording h = refl
past-start Other h = refl

pub returns : goal.returns
unfolding begun
returns c = elim c.match-matches.branch
    [ in-Start w ↦ rw (w.matches-is, w.in-Start.is) | in_default w ↦ rw w.matches-is (past-start _ w.in_default.not-Start) ]
