-- The refusals and their numbers: each gives the other back.
use Rattle.std.proofs.Common.{◌≡◌, ℕ, zero, suc, Bool, true, false, ◌≢◌, ◌⊎◌, List, [], sym, refl, ap, ◌∙◌, inl, inr, arith}
use Rattle.std.specs.Prelude.{cond, Result, Ok, Err}
use Rattle.model.specs.declared.Refusal.{Refusal}
use Rattle.model.specs.declared.Refusal.TheVariants.{NoCode, NoTable, SearchLost, NotSound, ShortList, BadRecording, KeyPresent}
use Rattle.model.specs.declared.Refusal.TheVariants.{RecordingPresent}
use Rattle.model.specs.declared.Refusal.TheVariants.{KeyAbsent, NoNodes, TooHigh, BadOrders, BadClass, OtherLength, ShortReport}
use Rattle.model.specs.declared.Refusal.TheVariants.{NoCollection}
use Rattle.model.specs.declared.Refusal.TheVariants.{NoDock, OtherSentinels, NotSettled, ChangeRefused, NoScript, BadScript, ShortFigures}
use Rattle.model.specs.declared.Refusal.TheVariants.{BadPairs, OtherSummary}
use Rattle.model.specs.Numbers.{refusal_number, first_of, refusal_of}
use Rattle.model.specs.Results.{answer_number, refused_with, passed}
use Rattle.model.specs.Table.{Words}
use Rattle.model.specs.Slots.{Slot}
use Rattle.model.specs.Writes.{repaired, Call, insertion, deletion, class_change, repair}
use Rattle.model.specs.Sentinels.{slice_number}
use Rattle.model.specs.Refusals.{first_number, map_tests, eleven_in, ten_in, own_map, refusal, unless_refused}

-- the refusal with the number of a refusal
pub refusal-of-number : (r : Refusal) → refusal_of (refusal_number r) ≡ r
unfolding refusal_of first_of
refusal-of-number NoCode = refl
refusal-of-number NoTable = refl
refusal-of-number SearchLost = refl
refusal-of-number NotSound = refl
refusal-of-number ShortList = refl
refusal-of-number BadRecording = refl
refusal-of-number KeyPresent = refl
refusal-of-number RecordingPresent = refl
refusal-of-number KeyAbsent = refl
refusal-of-number NoNodes = refl
refusal-of-number TooHigh = refl
refusal-of-number BadOrders = refl
refusal-of-number BadClass = refl
refusal-of-number OtherLength = refl
refusal-of-number ShortReport = refl
refusal-of-number NoCollection = refl
refusal-of-number NoDock = refl
refusal-of-number OtherSentinels = refl
refusal-of-number NotSettled = refl
refusal-of-number ChangeRefused = refl
refusal-of-number NoScript = refl
refusal-of-number BadScript = refl
refusal-of-number ShortFigures = refl
refusal-of-number BadPairs = refl
refusal-of-number OtherSummary = refl

-- what a call answers that refuses with the number of a refusal
pub refused-by : {T : Type 0} (r : Refusal) → ◌≡◌ {A = Result T Refusal} (refused_with (refusal_number r)) (Err r)
refused-by r = ap Err (refusal-of-number r)

-- ---- a test that passes with 0 and fails with the number of a refusal

-- the number of a refusal gives that refusal
pub passed-number : (r : Refusal) → passed (refusal_number r) ≡ Err r
unfolding refusal_of first_of
passed-number NoCode = refl
passed-number NoTable = refl
passed-number SearchLost = refl
passed-number NotSound = refl
passed-number ShortList = refl
passed-number BadRecording = refl
passed-number KeyPresent = refl
passed-number RecordingPresent = refl
passed-number KeyAbsent = refl
passed-number NoNodes = refl
passed-number TooHigh = refl
passed-number BadOrders = refl
passed-number BadClass = refl
passed-number OtherLength = refl
passed-number ShortReport = refl
passed-number NoCollection = refl
passed-number NoDock = refl
passed-number OtherSentinels = refl
passed-number NotSettled = refl
passed-number ChangeRefused = refl
passed-number NoScript = refl
passed-number BadScript = refl
passed-number ShortFigures = refl
passed-number BadPairs = refl
passed-number OtherSummary = refl

-- the number 0 passes
pub passes : {n : ℕ} → 0 ≡ n → Ok tt ≡ passed n
passes e = ap passed e

-- the number of a refusal fails with that refusal
pub fails : (r : Refusal) {n : ℕ} → refusal_number r ≡ n → Err r ≡ passed n
fails r e = sym (passed-number r) ∙ ap passed e

-- only the number 0 passes
pub passed-zero : (n : ℕ) {x : Unit {0}} → passed n ≡ Ok x → n ≡ 0
passed-zero zero e = refl
passed-zero (suc n) e = let z : ◌≡◌ {A = ℕ} 0 1 = cc in absurd (omega arith)

-- a number that fails is not 0
pub failed-some : (n : ℕ) {r : Refusal} → passed n ≡ Err r → n ≢ 0
failed-some zero e = let z : ◌≡◌ {A = ℕ} 0 1 = cc in absurd (omega arith)
failed-some (suc n) e = λ z. omega arith

-- the refusal is handed on
pub failed-with : {T : Type 0} (n : ℕ) {r : Refusal} → passed n ≡ Err r → ◌≡◌ {A = Result T Refusal} (refused_with n) (Err r)
failed-with zero e = let z : ◌≡◌ {A = ℕ} 0 1 = cc in absurd (omega arith)
failed-with (suc n) e = let same : refusal_of (suc n) ≡ _ = cc in ap Err same

-- what an answer by a number says of the number
pub done-ok : {T : Type 0} (n : ℕ) (d : T) {x : T} → unless_refused n (Ok d) (refused_with n) ≡ Ok x → (n ≡ 0) × (d ≡ x)
done-ok zero d e = (refl, cc)
done-ok (suc n) d e = let z : ◌≡◌ {A = ℕ} 0 1 = cc in absurd (omega arith)

-- if what is done or refused by number n is refused, n is not 0, and the refusal is the one with it
pub done-err : {T U : Type 0} (n : ℕ) (d : T) {r : Refusal} → unless_refused n (Ok d) (refused_with n) ≡ Err r → (n ≢ 0)
    × ◌≡◌ {A = Result U Refusal} (refused_with n) (Err r)
done-err zero d e = let z : ◌≡◌ {A = ℕ} 0 1 = cc in absurd (omega arith)
done-err (suc n) d e = let same : refusal_of (suc n) ≡ _ = cc in ((λ z. omega arith), ap Err same)

-- 0, or a number that a refusal has
abbrev pub Numbered : ℕ → Type 0
Numbered n = (n ≡ 0) ⊎ (refusal_number (refusal_of n) ≡ n)

-- the number of a refusal is a number that a refusal has
pub numbered : (r : Refusal) → Numbered (refusal_number r)
numbered r = inr (ap refusal_number (refusal-of-number r))

-- tests whose numbers are those of refusals
pub none-numbered : Numbered (first_number [])
none-numbered = inl refl

-- a refusal's number by a test, or else a number that is 0 or a refusal's, is again 0 or a refusal's
pub one-more : (b : Bool) (r : Refusal) (n : ℕ) → Numbered n → Numbered (cond b (refusal_number r) n)
one-more true r n h = numbered r
one-more false r n h = h

-- a refusal that a number gave has that number
pub handed-number : {T : Type 0} (m : ℕ) {r : Refusal} → m ≢ 0 → ◌≡◌ {A = Result T Refusal} (refused_with m) (Err r)
    → Numbered m → refusal_number r ≡ m
handed-number m z h (inl a) = absurd (z a)
handed-number m {r} z h (inr a) = let same : refusal_of m ≡ r = cc in ap refusal_number (sym same) ∙ a

-- what answers with the refusal of a number has that number
pub answered-number : {T : Type 0} (n m : ℕ) (done : Result T Refusal) → Numbered n → answer_number done ≡ m
    → answer_number (unless_refused n done (refused_with n)) ≡ unless_refused n m n
answered-number zero m done h e = e
answered-number (suc n) m done (inr h) e = h
answered-number (suc n) m done (inl h) e = absurd (omega arith)

-- answering 0 if n is 0, and n otherwise, is answering n
pub itself : (n : ℕ) → unless_refused n 0 n ≡ n
itself zero = refl
itself (suc n) = refl

-- what a writing call refuses with is the number of a refusal
map-numbered : (x : Call) (eleven ten : Bool) (ps : List Slot) → Numbered (first_number (map_tests x eleven ten ps))
map-numbered (insertion n k r c) eleven ten ps =
    one-more _ BadRecording _ (one-more _ BadClass _ (one-more _ KeyPresent _ (one-more _ RecordingPresent _
    (one-more _ TooHigh _ (one-more _ NoNodes _ none-numbered)))))
map-numbered (deletion n k) eleven ten ps = one-more _ KeyAbsent _ none-numbered
map-numbered (class_change n k c) eleven ten ps = one-more _ BadClass _ (one-more _ KeyAbsent _ none-numbered)
map-numbered repair eleven ten ps = none-numbered

-- what a writing call is refused with is 0 or a refusal's number
pub refusal-numbered : (x : Call) (words dock : ℕ) (t : Words) → Numbered (refusal x words dock t)
unfolding refusal
refusal-numbered x words dock t =
    let u = repaired t in
    one-more _ NoTable _ (one-more _ NoCollection _ (one-more _ NotSound _ (one-more _ NoDock _ (one-more _ ShortList _
    (map-numbered x (eleven_in x u) (ten_in x u) (own_map x u))))))

-- what a call with a sentinel slice tests first gives 0 or a refusal's number
pub slice-numbered : (s : Bool) (m : ℕ) (t : Words) → Numbered (slice_number s m t)
unfolding slice_number
slice-numbered s m t = one-more _ NoTable _ (one-more _ NoCollection _ (one-more _ OtherSentinels _ none-numbered))
