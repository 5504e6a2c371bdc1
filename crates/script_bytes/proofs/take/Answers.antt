-- `script_bytes::take` meets its contract.
use Rattle.std.proofs.Common.{◌≡◌, ℕ, ◌≢◌, refl, ◌∙◌}
use Rattle.script_bytes.specs.Line.{next_place, moved, entered, step}
use Rattle.script_bytes.specs.declared.Place.TheVariants.{Start, Sign, CodeStart, Code, RecordingStart, Recording, Other}
use Rattle.script_bytes.specs.declared.LineState.{LineState}
use Rattle.script_bytes.specs.declared.Place.{Place}
use Rattle.script_bytes.proofs.take.Goals as goal

-- the places that only move the line
only-moved : (s : LineState) (b : ℕ) (p : Place) → p ≢ Sign → p ≢ Code → p ≢ Recording → moved s p ≡ entered p s b
unfolding entered
only-moved s b Start h i j = refl
only-moved s b Sign h i j = absurd (h refl)
only-moved s b CodeStart h i j = refl
only-moved s b Code h i j = absurd (i refl)
only-moved s b RecordingStart h i j = refl
only-moved s b Recording h i j = absurd (j refl)
only-moved s b Other h i j = refl

-- what the arm of place q gives is right where the next place is q
arm : (s : LineState) (b : ℕ) (p q : Place) (r : LineState) → p ≡ next_place s.place s.plus b → p ≡ q → r ≡ entered q s b → r ≡ step s b
unfolding step
arm s b p q r e f h = rw (← e, f) h

pub returns-in-Sign : goal.returns-in-Sign
unfolding entered
returns-in-Sign c = arm _ _ _ _ _ c.next_place-place.ensures c.in-Sign.is c.with_sign.ensures

pub returns-in-Code : goal.returns-in-Code
unfolding entered
returns-in-Code c = arm _ _ _ _ _ c.next_place-place.ensures c.in-Code.is c.with_character.ensures

pub returns-in-Recording : goal.returns-in-Recording
unfolding entered
returns-in-Recording c = arm _ _ _ _ _ c.next_place-place.ensures c.in-Recording.is c.with_digit.ensures

pub returns-in_default : goal.returns-in_default
returns-in_default c =
    arm _ _ _ _ _ c.next_place-place.ensures refl
    (c.moved.ensures ∙ only-moved _ _ _ c.in_default.not-Sign c.in_default.not-Code c.in_default.not-Recording)
