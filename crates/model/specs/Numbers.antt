-- Document 01, "What refuses, and with which number"; the requests' numbers, of which 12 stands for nothing; and ours, from 25 on.
use Rattle.std.specs.Prelude.{cond, List, [], ◌∷◌, ℕ, eqb, Option, Some, None}
use Rattle.model.specs.declared.Refusal.{Refusal}
use Rattle.model.specs.declared.Refusal.TheVariants.{NoCode, NoTable, SearchLost, NotSound, ShortList, BadRecording, KeyPresent, RecordingPresent}
use Rattle.model.specs.declared.Refusal.TheVariants.{KeyAbsent, NoNodes, TooHigh, BadOrders, BadClass, OtherLength, ShortReport, NoCollection}
use Rattle.model.specs.declared.Refusal.TheVariants.{NoDock, OtherSentinels, NotSettled, ChangeRefused, NoScript, BadScript, ShortFigures}
use Rattle.model.specs.declared.Refusal.TheVariants.{BadPairs, OtherSummary}

-- the number of a refusal
abbrev pub refusal_number : Refusal → ℕ
refusal_number NoCode = 1
refusal_number NoTable = 2
refusal_number SearchLost = 3
refusal_number NotSound = 4
refusal_number ShortList = 5
refusal_number BadRecording = 6
refusal_number KeyPresent = 7
refusal_number RecordingPresent = 8
refusal_number KeyAbsent = 9
refusal_number NoNodes = 10
refusal_number TooHigh = 11
refusal_number BadOrders = 13
refusal_number BadClass = 14
refusal_number OtherLength = 15
refusal_number ShortReport = 16
refusal_number NoCollection = 17
refusal_number NoDock = 18
refusal_number OtherSentinels = 19
refusal_number NotSettled = 20
refusal_number ChangeRefused = 21
refusal_number NoScript = 22
refusal_number BadScript = 23
refusal_number ShortFigures = 24
refusal_number BadPairs = 25
refusal_number OtherSummary = 26

abbrev pub all_refusals : List Refusal
all_refusals =
    NoCode ∷ NoTable ∷ SearchLost ∷ NotSound ∷ ShortList ∷ BadRecording ∷ KeyPresent ∷ RecordingPresent ∷ KeyAbsent ∷ NoNodes ∷ TooHigh
    ∷ BadOrders ∷ BadClass ∷ OtherLength ∷ ShortReport ∷ NoCollection ∷ NoDock ∷ OtherSentinels ∷ NotSettled ∷ ChangeRefused ∷ NoScript
    ∷ BadScript ∷ ShortFigures ∷ BadPairs ∷ OtherSummary ∷ []

-- the first of these with a number; NoCode if none has it, which no call asks for
unfoldable pub first_of : ℕ → List Refusal → Refusal
first_of n [] = NoCode
first_of n (r ∷ rs) = cond (eqb n (refusal_number r)) r (first_of n rs)

-- the refusal with a number
unfoldable pub refusal_of : ℕ → Refusal
refusal_of n = first_of n all_refusals

-- the number of the refusal that stopped a batch; 0 for none
abbrev pub stop_number : Option Refusal → ℕ
stop_number None = 0
stop_number (Some r) = refusal_number r
