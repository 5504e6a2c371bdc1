-- What the calls answer: what a call that does its work has to say, or why it refuses.
use Rattle.std.specs.Prelude.{Bool, List, ℕ, zero, suc, ◌+◌, ◌^◌, ◌<◌, Option, Result, Ok, Err}
use Rattle.model.specs.declared.Refusal.{Refusal}
use Rattle.model.specs.declared.Counts.{Counts}
use Rattle.model.specs.declared.Page.{Page}
use Rattle.model.specs.declared.Figures.{Figures}
use Rattle.model.specs.Numbers.{refusal_of, refusal_number}

-- reading a code, printing a key; a listing; a call that answers nothing, a write; a salvage, the judge, the wear figures; the
-- number of a script
abbrev pub Parsed : Type 0
Parsed = Result ℕ Refusal

abbrev pub Printed : Type 0
Printed = Result (List ℕ) Refusal

abbrev pub Listed : Type 0
Listed = Result Page Refusal

abbrev pub Outcome : Type 0
Outcome = Result (Unit {0}) Refusal

abbrev pub Written : Type 0
Written = Result Counts Refusal

abbrev pub Salvaged : Type 0
Salvaged = Result ℕ Refusal

abbrev pub Verdict : Type 0
Verdict = Result (Option ℕ) Refusal

abbrev pub Worn : Type 0
Worn = Result Figures Refusal

abbrev pub Ranked : Type 0
Ranked = Result ℕ Refusal

-- the refusal with a number
abbrev pub refused_with : {T : Type 0} → ℕ → Result T Refusal
refused_with n = Err (refusal_of n)

-- what a test answers by its number: it passes with 0, and refuses with any other
abbrev pub passed : ℕ → Outcome
passed zero = Ok tt
passed (suc n) = refused_with (suc n)

-- work that was done, by its numbers
abbrev pub done_with : (stores flushes barriers : ℕ) → Written
done_with s f b = Ok (record { stores = s; flushes = f; barriers = b })

-- the counts of a list with those of what follows it; where each of the sums fits its word
abbrev pub counts_sum : Counts → Counts → Counts
counts_sum a b = record { stores = a.stores + b.stores; flushes = a.flushes + b.flushes; barriers = a.barriers + b.barriers }

pub record CountsFit (a b : Counts) : Type 0 where
  pub stores : a.stores + b.stores < 2 ^ 64
  pub flushes : a.flushes + b.flushes < 2 ^ 64
  pub barriers : a.barriers + b.barriers < 2 ^ 64

-- those of no orders
abbrev pub no_counts : Counts
no_counts = record { stores = 0; flushes = 0; barriers = 0 }

-- how many orders they count
abbrev pub orders_counted : Counts → ℕ
orders_counted a = a.stores + a.flushes + a.barriers

abbrev pub page_with : (count : ℕ) → (more : Bool) → Listed
page_with n m = Ok (record { count = n; more = m })

abbrev pub worn_with : (total largest first_line pairs : ℕ) → Worn
worn_with t l f p = Ok (record { total = t; largest = l; first_line = f; pairs = p })

-- the number of an answer's refusal; 0 if the call did its work
abbrev pub answer_number : {T : Type 0} → Result T Refusal → ℕ
answer_number (Ok x) = 0
answer_number (Err r) = refusal_number r
