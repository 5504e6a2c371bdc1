-- Each call answers the number that its definition gives: a refusal and its number give each other back.
use Rattle.std.proofs.Common.{◌≡◌, ℕ, zero, suc, Bool, true, false, List, length, refl, ap, ◌∙◌, inl, inr, arith, ne_eqb}
use Rattle.std.specs.Prelude.{cond, eqb, ltb, ◌/◌, Result, Ok}
use Rattle.crash_laws.proofs.Demand3.{plain-answered}
use Rattle.model.specs.declared.Refusal.{Refusal}
use Rattle.model.specs.declared.Refusal.TheVariants.{NoCode, NoTable, NotSound, ShortList, BadRecording, KeyPresent, RecordingPresent}
use Rattle.model.specs.declared.Refusal.TheVariants.{KeyAbsent}
use Rattle.model.specs.declared.Refusal.TheVariants.{NoNodes, TooHigh, BadOrders, BadClass, OtherLength, ShortReport, NoCollection, NoDock}
use Rattle.model.specs.declared.Refusal.TheVariants.{NotSettled, ChangeRefused, NoScript, BadScript, ShortFigures, BadPairs, OtherSummary}
use Rattle.model.specs.Numbers.{refusal_number}
use Rattle.model.specs.Results.{Verdict, refused_with, passed, answer_number, done_with}
use Rattle.model.specs.Codes.{is_code, key_of, has_code, spelling, parse, print}
use Rattle.model.specs.Table.{Words, nodes, header_number, make_number, making}
use Rattle.model.specs.Reached.{map_of}
use Rattle.model.specs.Orders.{carry_number, carry_out, decode, store_count, flush_count, barrier_count}
use Rattle.model.specs.Statistics.{check_number, checking}
use Rattle.model.specs.Listing.{in_range_of, listed, list_number, list}
use Rattle.model.specs.Pack.{pack_number, packing}
use Rattle.model.specs.Salvage.{dropped_all, salvage_number, salvage}
use Rattle.model.specs.Wear.{wear_number, figures, worn}
use Rattle.model.specs.Writes.{Call, insertion, deletion, class_change, repair}
use Rattle.model.specs.Refusals.{first_number, unless_refused, seventeen_in, refusal, written}
use Rattle.model.specs.Sentinels.{slice_number, work_number, work_out, refusal_with, written_with}
use Rattle.model.specs.Summary.{open_number, opening, own_tests, marks_in, cells_in, quick_number, quick_orders, quick_written, page_of}
use Rattle.model.specs.Summary.{quick_list_number, quick_listed}
use Rattle.model.specs.Scripts.{SCRIPTS, rank, actions_in, form_script, script_answer, script_number}
use Rattle.model.specs.Judge.{judged, judge_number, judge, verdict_number}
use Rattle.model.proofs.Numbers.{refusal-of-number, Numbered, numbered, none-numbered, one-more, answered-number, itself, slice-numbered}

-- ---- numbers of refusals

either : (b : Bool) (n m : ℕ) → Numbered n → Numbered m → Numbered (cond b n m)
either true n m g h = g
either false n m g h = h

-- tests after others
behind : (n m : ℕ) → Numbered n → Numbered m → Numbered (unless_refused n m n)
behind zero m g h = h
behind (suc n) m g h = g

-- ---- answers by a number

by-refusal : {T : Type 0} (n : ℕ) (done : Result T Refusal) → Numbered n → answer_number done ≡ 0
    → answer_number (unless_refused n done (refused_with n)) ≡ n
by-refusal n done h e = answered-number n 0 done h e ∙ itself n

by-zero : {T : Type 0} (n : ℕ) (done : Result T Refusal) → Numbered n → answer_number done ≡ 0
    → answer_number (cond (eqb n 0) done (refused_with n)) ≡ n
by-zero zero done h e = e
by-zero (suc n) done (inr h) e = rw (ne_eqb (suc n) 0 (λ z. omega arith)) h
by-zero (suc n) done (inl h) e = absurd (omega arith)

by-test : {T : Type 0} (b : Bool) (x : T) (r : Refusal) → answer_number (cond b (Ok x) (refused_with (refusal_number r)))
    ≡ cond b 0 (refusal_number r)
by-test true x r = refl
by-test false x r = ap refusal_number (refusal-of-number r)

-- ---- codes: 1

pub parse-answers : (text : List ℕ) → answer_number (parse text) ≡ cond (is_code text) 0 1
unfolding parse
parse-answers text = by-test (is_code text) (key_of text) NoCode

pub print-answers : (k : ℕ) → answer_number (print k) ≡ cond (has_code k) 0 1
unfolding print
print-answers k = by-test (has_code k) (spelling k) NoCode

-- ---- the header test: 2

pub passed-answers : (n : ℕ) → Numbered n → answer_number (passed n) ≡ n
passed-answers zero h = refl
passed-answers (suc n) (inr h) = h
passed-answers (suc n) (inl h) = absurd (omega arith)

header-numbered : (t : Words) → Numbered (header_number t)
unfolding header_number
header-numbered t = either _ _ _ none-numbered (numbered NoTable)

pub header-answers : (t : Words) → answer_number (passed (header_number t)) ≡ header_number t
header-answers t = passed-answers (header_number t) (header-numbered t)

-- ---- making a table: 2, 17; from pairs: 10 and 25 as well

make-numbered : (n : ℕ) (t : Words) → Numbered (make_number n t)
unfolding make_number
make-numbered n t = one-more _ NoTable _ (one-more _ NoCollection _ none-numbered)

pub making-answers : (n : ℕ) (t : Words) → answer_number (making n t) ≡ make_number n t
unfolding making
making-answers n t = by-zero (make_number n t) (Ok tt) (make-numbered n t) refl

pack-numbered : (n : ℕ) (pairs loans t : Words) → Numbered (pack_number n pairs loans t)
unfolding pack_number
pack-numbered n pairs loans t =
    behind (make_number n t) _ (make-numbered n t) (one-more _ NoNodes _ (one-more _ BadPairs _ none-numbered))

pub packing-answers : (n : ℕ) (pairs loans t : Words) → answer_number (packing n pairs loans t) ≡ pack_number n pairs loans t
unfolding packing
packing-answers n pairs loans t = by-refusal (pack_number n pairs loans t) (Ok tt) (pack-numbered n pairs loans t) refl

-- ---- carry-out: 2, 13; the wear figures: 24 as well

carry-numbered : (c : ℕ) (os t : Words) → Numbered (carry_number c os t)
unfolding carry_number
carry-numbered c os t = either _ _ _ (either _ _ _ none-numbered (numbered BadOrders)) (numbered NoTable)

pub carry-answers : (c : ℕ) (os t : Words) → answer_number (carry_out c os t) ≡ carry_number c os t
unfolding carry_out
carry-answers c os t = by-zero (carry_number c os t) (Ok tt) (carry-numbered c os t) refl

wear-numbered : (os : Words) (lines pairs : ℕ) (t : Words) → Numbered (wear_number os lines pairs t)
unfolding wear_number
wear-numbered os lines pairs t =
    behind (carry_number (length os / 2) os t) _ (carry-numbered (length os / 2) os t) (one-more _ ShortFigures _ none-numbered)

pub worn-answers : (os : Words) (lines pairs : ℕ) (t : Words) → answer_number (worn os lines pairs t) ≡ wear_number os lines pairs t
unfolding worn figures
worn-answers os lines pairs t =
    by-refusal (wear_number os lines pairs t) (figures (length t) (decode os)) (wear-numbered os lines pairs t) refl

-- ---- the check: 2, 4; a listing: 17 as well; salvage: 2, 15, 16, 10

check-numbered : (t : Words) → Numbered (check_number t)
unfolding check_number
check-numbered t = either _ _ _ (either _ _ _ none-numbered (numbered NotSound)) (numbered NoTable)

pub checking-answers : (t : Words) → answer_number (checking t) ≡ check_number t
unfolding checking
checking-answers t = by-zero (check_number t) (Ok tt) (check-numbered t) refl

list-numbered : (n : ℕ) (t : Words) → Numbered (list_number n t)
unfolding list_number
list-numbered n t = either _ _ _ (one-more _ NoCollection _ (either _ _ _ none-numbered (numbered NotSound))) (numbered NoTable)

pub list-answers : (n : ℕ) (t : Words) (low high : ℕ) (out : Words) → answer_number (list n t low high out) ≡ list_number n t
unfolding list listed
list-answers n t low high out =
    by-zero (list_number n t) (listed (in_range_of low high (map_of n t)) (length out)) (list-numbered n t) refl

salvage-numbered : (t : Words) (out report : ℕ) → Numbered (salvage_number t out report)
unfolding salvage_number
salvage-numbered t out report =
    one-more _ NoTable _ (one-more _ OtherLength _ (one-more _ ShortReport _ (one-more _ NoNodes _ none-numbered)))

pub salvage-answers : (t : Words) (out report : ℕ) → answer_number (salvage t out report) ≡ salvage_number t out report
unfolding salvage
salvage-answers t out report =
    by-refusal (salvage_number t out report) (Ok (length (dropped_all t))) (salvage-numbered t out report) refl

-- ---- the writing calls: `plain-answered` in crates/crash_laws; sentinels: working them out, 4; the writing calls with them

work-numbered : (m : ℕ) (t : Words) → Numbered (work_number m t)
unfolding work_number
work-numbered m t =
    behind (slice_number false m t) _ (slice-numbered false m t) (either _ _ _ none-numbered (numbered NotSound))

pub work-answers : (m : ℕ) (t : Words) → answer_number (work_out m t) ≡ work_number m t
unfolding work_out
work-answers m t = by-refusal (work_number m t) (Ok tt) (work-numbered m t) refl

pub with-answers : (x : Call) (m words dock : ℕ) (t : Words) → answer_number (written_with x m words dock t) ≡ refusal_with x m words dock t
unfolding written_with refusal_with
with-answers x m words dock t =
    let n = slice_number (seventeen_in x t) m t in
    answered-number n (refusal x words dock t) (written x words dock t) (slice-numbered (seventeen_in x t) m t)
    (plain-answered x words dock t)

-- ---- summaries: opening, 2, 26, 4, 20; the quick calls, and the quick listing

open-numbered : (m : ℕ) (t : Words) → Numbered (open_number m t)
unfolding open_number
open-numbered m t =
    one-more _ NoTable _ (one-more _ OtherSummary _ (one-more _ NotSound _ (one-more _ NotSettled _ none-numbered)))

pub opening-answers : (m : ℕ) (t : Words) → answer_number (opening m t) ≡ open_number m t
unfolding opening
opening-answers m t = by-refusal (open_number m t) (Ok tt) (open-numbered m t) refl

own-numbered : (x : Call) (ms cs t : Words) → Numbered (first_number (own_tests x ms cs t))
own-numbered (insertion n k r c) ms cs t =
    one-more _ BadRecording _ (one-more _ BadClass _ (one-more _ KeyPresent _ (one-more _ RecordingPresent _
    (one-more _ TooHigh _ (one-more _ NoNodes _ none-numbered)))))
own-numbered (deletion n k) ms cs t = one-more _ KeyAbsent _ none-numbered
own-numbered (class_change n k c) ms cs t = one-more _ BadClass _ (one-more _ KeyAbsent _ none-numbered)
own-numbered repair ms cs t = none-numbered

quick-numbered : (x : Call) (words dock : ℕ) (ws t : Words) → Numbered (quick_number x words dock ws t)
unfolding quick_number
quick-numbered x words dock ws t =
    one-more _ NoTable _ (one-more _ NoCollection _ (one-more _ OtherSummary _ (one-more _ NotSound _
    (one-more _ NoDock _ (one-more _ ShortList _ (own-numbered x (marks_in (nodes t) ws) (cells_in (nodes t) ws) t))))))

pub quick-answers : (x : Call) (words dock : ℕ) (ws t : Words) → answer_number (quick_written x words dock ws t)
    ≡ quick_number x words dock ws t
unfolding quick_written
quick-answers x words dock ws t =
    let os = quick_orders x dock ws t in
    by-refusal (quick_number x words dock ws t) (done_with (store_count os) (flush_count os) (barrier_count os))
    (quick-numbered x words dock ws t) refl

quick-list-numbered : (n : ℕ) (ws t : Words) (low : ℕ) → Numbered (quick_list_number n ws t low)
unfolding quick_list_number
quick-list-numbered n ws t low =
    one-more _ NoTable _ (one-more _ NoCollection _ (one-more _ OtherSummary _ (one-more _ NotSound _ none-numbered)))

pub quick-list-answers : (n : ℕ) (ws t : Words) (low high : ℕ) (out : Words)
    → answer_number (quick_listed n ws t low high out) ≡ quick_list_number n ws t low
unfolding quick_listed listed
quick-list-answers n ws t low high out =
    by-refusal (quick_list_number n ws t low) (listed (page_of n t low high) (length out)) (quick-list-numbered n ws t low) refl

-- ---- scripts: 22, 23

pub script-answers : (n : ℕ) → answer_number (script_answer n) ≡ cond (ltb n SCRIPTS) 0 22
unfolding script_answer
script-answers n = by-test (ltb n SCRIPTS) tt NoScript

pub rank-answers : (ws : Words) → answer_number (script_number ws) ≡ cond (form_script ws) 0 23
unfolding script_number
rank-answers ws = by-test (form_script ws) (rank (actions_in ws)) BadScript

-- ---- the judge: 2, 17, 4, 20, 13, 15, 21

judge-numbered : (x : Call) (t os : Words) (out : ℕ) → Numbered (judge_number x t os out)
unfolding judge_number
judge-numbered x t os out =
    one-more _ NoTable _ (one-more _ NoCollection _ (one-more _ NotSound _ (one-more _ NotSettled _
    (one-more _ BadOrders _ (one-more _ OtherLength _ (one-more _ ChangeRefused _ none-numbered))))))

refused-verdict : (k : ℕ) (v : Verdict) → Numbered k → (n : ℕ) → k ≡ suc n → verdict_number (unless_refused k v (refused_with k)) ≡ suc n
refused-verdict zero v h n e = absurd (omega arith)
refused-verdict (suc k) v (inr h) n e = h ∙ e
refused-verdict (suc k) v (inl h) n e = absurd (omega arith)

pub judge-answers : (x : Call) (t os : Words) (out n : ℕ) → judge_number x t os out ≡ suc n → verdict_number (judge x t os out) ≡ suc n
unfolding judge
judge-answers x t os out n e = refused-verdict (judge_number x t os out) (judged x t (decode os)) (judge-numbered x t os out) n e
