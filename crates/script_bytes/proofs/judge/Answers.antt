-- `script_bytes::judge` meets its contract.
use Rattle.std.proofs.Common.{◌≡◌, false, ◌≢◌, sym, refl, ◌∙◌}
use Rattle.std.specs.Prelude.{None, Ok}
use Rattle.list_laws.proofs.Tools.{handed-on}
use Rattle.model.specs.Results.{Parsed}
use Rattle.script_bytes.specs.Line.{code_of, insertion_of, deletion_of, request_at}
use Rattle.script_bytes.specs.declared.LineState.{LineState}
use Rattle.script_bytes.specs.declared.Place.{Place}
use Rattle.script_bytes.specs.declared.Place.TheVariants.{Start, Sign, CodeStart, Code, RecordingStart, Recording, Other}
use Rattle.script_bytes.proofs.judge.Goals as goal

-- the two whole forms, by what their code is read as
deletes : (s : LineState) (p : Place) (x : Parsed) → p ≡ Code → s.plus ≡ false → x ≡ code_of s.code → deletion_of x ≡ request_at p s
unfolding request_at
deletes s p x e f h = rw (e, ← h, f)

inserts : (s : LineState) (p : Place) (x : Parsed) → p ≡ Recording → x ≡ code_of s.code → insertion_of x s.recording ≡ request_at p s
unfolding request_at
inserts s p x e h = rw (e, ← h)

-- the places of no whole form
unfinished : (s : LineState) (p : Place) → p ≢ Code → p ≢ Recording → Ok None ≡ request_at p s
unfolding request_at
unfinished s Start h i = refl
unfinished s Sign h i = refl
unfinished s CodeStart h i = refl
unfinished s Code h i = absurd (h refl)
unfinished s RecordingStart h i = refl
unfinished s Recording h i = absurd (i refl)
unfinished s Other h i = refl

pub returns-in_err-code_of-in-Code-2 : goal.returns-in_err-code_of-in-Code-2
returns-in_err-code_of-in-Code-2 c =
    rw (handed-on c.from_residual.ensures.1)
    (deletes _ _ _ c.in-Code-2.is c.if-s.false (sym c.in_err-code_of-in-Code-2.was ∙ c.code_of.ensures))

pub returns-in_err-key-in-Recording : goal.returns-in_err-key-in-Recording
returns-in_err-key-in-Recording c =
    rw (handed-on c.from_residual-in_err-key-in-Recording.ensures.1)
    (inserts _ _ _ c.in-Recording.is (sym c.in_err-key-in-Recording.was ∙ c.code_of-in-Recording.ensures))

pub returns-in-Code : goal.returns-in-Code
unfolding request_at
returns-in-Code c = rw (c.in-Code.is, c.if-s.true)

pub returns-in_ok-code_of-in-Code-2 : goal.returns-in_ok-code_of-in-Code-2
returns-in_ok-code_of-in-Code-2 c = deletes _ _ _ c.in-Code-2.is c.if-s.false (sym c.in_ok-code_of-in-Code-2.was ∙ c.code_of.ensures)

pub returns-in_ok-key-in-Recording : goal.returns-in_ok-key-in-Recording
returns-in_ok-key-in-Recording c = inserts _ _ _ c.in-Recording.is (sym c.in_ok-key-in-Recording.was ∙ c.code_of-in-Recording.ensures)

pub returns-in_default : goal.returns-in_default
returns-in_default c = unfinished _ _ c.in_default.not-Code c.in_default.not-Recording
