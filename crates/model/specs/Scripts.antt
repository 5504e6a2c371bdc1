-- Request 11: every short script, its number, and the tables that are met while it runs.
use Rattle.std.specs.Prelude.{Bool, true, false, cond, not, ◌&&◌, ◌||◌, List, [], ◌∷◌, ◌++◌, map, ℕ, zero, suc, ◌+◌, ◌-◌, ◌*◌, ◌/◌, ◌%◌, eqb, ltb}
use Rattle.std.specs.Prelude.{leb, length, Some, None, Ok, Err}
use Rattle.std.specs.Prelude.{take, drop, replicate}
use Rattle.model.specs.Results.{Outcome, Ranked, refused_with}
use Rattle.model.specs.declared.Answer.{Answer}
use Rattle.model.specs.declared.Answer.TheVariants.{Found, Absent, Refused}
use Rattle.model.specs.Lists.{sum}
use Rattle.model.specs.Table.{Words, at, all_zero, empty}
use Rattle.model.specs.Slots.{Slot}
use Rattle.model.specs.Search.{lookup, search, Next}
use Rattle.model.specs.Reached.{filter, map_of}
use Rattle.model.specs.SoundTest.{all}
use Rattle.model.specs.Orders.{carry}
use Rattle.model.specs.Writes.{numbers, Call, insertion, deletion}
use Rattle.model.specs.Refusals.{unless_refused, refusal, orders_of, table_after}
use Rattle.model.specs.Printer.{Bytes, decimal}

-- ---- actions and scripts

-- Actions are numbers: 0 to 2 insert keys 1 to 3, 3 to 5 delete them.
abbrev pub inserts : (action : ℕ) → Bool
inserts a = ltb a 3

abbrev pub action_key : (action : ℕ) → ℕ
action_key a = suc (a % 3)

-- with recording 10 plus the key, class 0, one collection
unfoldable pub call_of : (action : ℕ) → Call
call_of a = cond (inserts a) (insertion 1 (action_key a) (10 + action_key a) 0) (deletion 1 (action_key a))

-- a script's actions, the first one first
abbrev pub Script : Type 0
Script = List ℕ

-- up to 4 actions over insert or delete of the three keys
unfoldable pub is_script : Script → Bool
is_script s = leb (length s) 4 && all (λ (a : ℕ). leb a 5) s

-- ---- the order

-- insert before delete, then the smaller key
unfoldable pub action_before : (a b : ℕ) → Bool
action_before a b = cond (inserts a) (not (inserts b) || ltb (action_key a) (action_key b)) (not (inserts b) && ltb (action_key a) (action_key b))

-- by the first action that differs
unfoldable pub first_differs : Script → Script → Bool
first_differs [] u = false
first_differs (a ∷ s) [] = false
first_differs (a ∷ s) (b ∷ u) = cond (eqb a b) (first_differs s u) (action_before a b)

-- Shorter scripts come first, equal lengths by the first action that differs.
unfoldable pub before : Script → Script → Bool
before s u = ltb (length s) (length u) || (eqb (length s) (length u) && first_differs s u)

-- ---- numbers. `rank` and `script_of` are proved twins of the order `before` and need no belief: each script has one number below 1,555, in that
-- order (`script-there`, `script-once` and `script-order` in crates/short_laws/proofs/Rank.antt), and `rank` goes the other way
-- (`rank-script` in crates/short_laws/proofs/Rank.antt).

-- That is 1,555 scripts.
abbrev pub SCRIPTS : ℕ
SCRIPTS = 1555

-- The number of a script: its actions as digits 1 to 6 in base 6, the first one highest, so that a longer script has the larger number. n is
-- what the actions before these make.
unfoldable pub rank_on : (n : ℕ) → Script → ℕ
rank_on n [] = n
rank_on n (a ∷ s) = rank_on (6 * n + suc a) s

abbrev pub rank : Script → ℕ
rank s = rank_on 0 s

-- the script of a number, with m actions at most: its last digit is its last action
unfoldable pub unrank : (m n : ℕ) → Script
unrank zero n = []
unrank (suc m) zero = []
unrank (suc m) (suc n) = unrank m (n / 6) ++ (n % 6 ∷ [])

abbrev pub script_of : (number : ℕ) → Script
script_of n = unrank 4 n

-- ---- the two calls; a script is a length and four numbers, 0 past the length

unfoldable pub script_words : Script → Words
script_words s = length s ∷ (s ++ replicate (4 - length s) 0)

-- 22, number above 1,554; else the script
unfoldable pub script_answer : (number : ℕ) → Outcome
script_answer n = cond (ltb n SCRIPTS) (Ok tt) (refused_with 22)

unfoldable pub script_out : (number : ℕ) → Words → Words
script_out n lent = cond (ltb n SCRIPTS) (script_words (script_of n)) lent

-- the actions within the length
abbrev pub actions_in : Words → Script
actions_in ws = take (at ws 0) (drop 1 ws)

-- a script, and 0 past the length
unfoldable pub form_script : Words → Bool
form_script ws = leb (at ws 0) 4 && (all (λ (a : ℕ). leb a 5) (actions_in ws) && all_zero (drop (at ws 0) (drop 1 ws)))

-- 23, actions that form no such script; else the number
unfoldable pub script_number : Words → Ranked
script_number ws = cond (form_script ws) (Ok (rank (actions_in ws))) (refused_with 23)

-- what a lent word then holds; it stays if there is none
abbrev pub rank_or : Ranked → ℕ → ℕ
rank_or (Ok n) old = n
rank_or (Err r) old = old

-- ---- what an action meets

-- the table as carry-out leaves it after every count of an accepted call's orders, 0 included
unfoldable pub cut_tables : Call → Words → List Words
cut_tables x t = let os = orders_of x 0 t in map (λ (c : ℕ). carry (take c os) t) (numbers 0 (suc (length os)))

abbrev pub same_next : Next → Next → Bool
same_next (Some j) (Some k) = eqb j k
same_next (Some j) None = false
same_next None (Some k) = false
same_next None None = true

abbrev pub same_answer : Answer → Answer → Bool
same_answer (Found r c) (Found s d) = eqb r s && eqb c d
same_answer (Found r c) (Absent y) = false
same_answer (Found r c) (Refused n) = false
same_answer (Absent x) (Found s d) = false
same_answer (Absent x) (Absent y) = same_next x y
same_answer (Absent x) (Refused n) = false
same_answer (Refused m) y = false

-- the table, searched for the three keys, agrees with the map
unfoldable pub agrees : List Slot → Words → Bool
agrees ps t = all (λ (k : ℕ). same_answer (search 1 t k) (lookup k ps)) (1 ∷ 2 ∷ 3 ∷ [])

-- the tables that agree with the map neither before nor after the action
unfoldable pub bad_tables : Call → Words → List Words
bad_tables x t =
    let old = map_of 1 t in
    let new = map_of 1 (table_after x 2560 0 t) in
    filter (λ (u : Words). not (agrees old u || agrees new u)) (cut_tables x t)

-- ---- over a script, and over all scripts; dock 0

-- what is counted at the accepted actions of a script, run from table t on
unfoldable pub along : (Call → Words → ℕ) → Script → Words → ℕ
along count [] t = 0
along count (a ∷ s) t =
    let x = call_of a in
    unless_refused (refusal x 2560 0 t) (count x t) 0 + along count s (table_after x 2560 0 t)

-- each script on an empty table with N = 4
unfoldable pub over_all : (Call → Words → ℕ) → ℕ
over_all count = sum (map (λ (n : ℕ). along count (script_of n) (empty 4)) (numbers 0 SCRIPTS))

-- how many such tables there were over all scripts, repeats counted, and how many of them were bad
abbrev pub table_count : Call → Words → ℕ
table_count x t = length (cut_tables x t)

abbrev pub bad_count : Call → Words → ℕ
bad_count x t = length (bad_tables x t)

abbrev pub tables_met : ℕ
tables_met = over_all table_count

abbrev pub bad_met : ℕ
bad_met = over_all bad_count

-- They are printed on a line each.
unfoldable pub met_text : Bytes
met_text = decimal tables_met ++ (10 ∷ (decimal bad_met ++ (10 ∷ [])))
