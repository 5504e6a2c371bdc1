-- A script run action by action, and the scripts one after the other: what holds in between.
use Rattle.std.proofs.Common.{◌≡◌, ℕ, suc, ◌+◌, ◌-◌, ◌*◌, ◌<◌, ◌≤◌, true, false, [], map, length, get_or, drop, replicate, ap, ◌∙◌, add-one}
use Rattle.std.proofs.Common.{arith, drop_of_length-le, drop-cons}
use Rattle.model.specs.Lists.{sum}
use Rattle.model.specs.Table.{Words, empty, empty_of}
use Rattle.model.specs.Reached.{map_of, Maps, maps_of}
use Rattle.model.specs.SoundTest.{sound}
use Rattle.model.specs.Writes.{numbers, Call}
use Rattle.model.specs.Refusals.{table_after}
use Rattle.model.specs.Scripts.{Script, call_of, SCRIPTS, script_of, script_words, actions_in, form_script, along, over_all, table_count}
use Rattle.model.specs.Scripts.{bad_count}
use Rattle.two_laws.proofs.EmptyTwo.{empty-one-maps}
use Rattle.short_laws.proofs.Rank.{script-is}
use Rattle.short_laws.proofs.Calls.{words-form, words-actions}
use Rattle.short_laws.proofs.Runs.{after-call, start-sound}
use Rattle.short_scripts.specs.declared.Met.{Met}
use Rattle.short_scripts.specs.Held.{Held, pairs}
use Rattle.short_scripts.specs.Met.{at_action, Acts, Runs}
use Rattle.short_scripts.proofs.Words.{form-says}

-- ---- one script

-- from place i on what is left is still to be met
pub record Running (s : Script) (t : Words) (h : Held) (tables bad i : ℕ) : Type 0 where
  pub place : i ≤ length s
  pub few : length s ≤ 4
  pub fine : sound t ≡ true
  pub map-is : map_of 1 t ≡ pairs h
  pub tables-few : tables ≤ 1122 * i
  pub bad-few : bad ≤ 1122 * i
  pub tables-are : tables + along table_count (drop i s) t ≡ along table_count s (empty 4)
  pub bad-are : bad + along bad_count (drop i s) t ≡ along bad_count s (empty 4)

empty-map : map_of 1 (empty 4) ≡ []
unfolding maps_of empty_of
empty-map = ap (λ (m : Maps). m.one) (empty-one-maps 4 (omega arith) (omega arith))

pub running-start : (ws t : Words) → form_script ws ≡ true → t ≡ empty 4 → Running (actions_in ws) t (replicate 3 false) 0 0 0
unfolding pairs
running-start ws t f e = record {
  place = omega arith;
  few = (form-says ws f).1;
  fine = rw e start-sound;
  map-is = rw e empty-map;
  tables-few = omega arith;
  bad-few = omega arith;
  tables-are = rw e (omega arith);
  bad-are = rw e (omega arith);
}

-- one action more
module _ {s : Script} {t : Words} {h : Held} {tables bad i : ℕ} (r : Running s t h tables bad i) where
  onward-next : (f : Call → Words → ℕ) → i < length s
      → along f (drop i s) t ≡ at_action f (get_or s i 0) t + along f (drop (i + 1) s) (table_after (call_of (get_or s i 0)) 2560 0 t)
  unfolding along
  onward-next f k = rw (drop-cons s i 0 k, add-one i)

  pub running-next : (m : Met) (g : Held) (u : Words) → i < length s → Acts (get_or s i 0) t m g → u
      ≡ table_after (call_of (get_or s i 0)) 2560 0 t
      → Running s u g (tables + m.tables) (bad + m.bad) (i + 1)
  running-next m g u k a e = record {
    place = omega arith;
    few = r.few;
    fine = rw e (after-call (call_of (get_or s i 0)) 2560 t r.fine);
    map-is = rw e a.map-is;
    tables-few = omega (arith, r.tables-few, a.tables-few);
    bad-few = omega (arith, r.bad-few, a.bad-few);
    tables-are = rw e (omega (arith, r.tables-are, a.tables-are, onward-next table_count k));
    bad-are = rw e (omega (arith, r.bad-are, a.bad-are, onward-next bad_count k));
  }

  pub running-end : length s ≤ i → Runs s (record { tables = tables; bad = bad })
  unfolding along
  running-end k =
      let none : drop i s ≡ [] = drop_of_length-le s {i = i} k in
      record {
        tables-are = omega (arith, rw none at r.tables-are);
        bad-are = omega (arith, rw none at r.bad-are);
        tables-few = omega (arith, r.tables-few, r.place, r.few);
        bad-few = omega (arith, r.bad-few, r.place, r.few);
      }

-- ---- all scripts

-- what the scripts from a number on meet
abbrev rest : (Call → Words → ℕ) → (number : ℕ) → ℕ
rest f n = sum (map (λ (m : ℕ). along f (script_of m) (empty 4)) (numbers n (SCRIPTS - n)))

pub record Totals (tables bad number : ℕ) : Type 0 where
  pub place : number ≤ SCRIPTS
  pub tables-few : tables ≤ 4488 * number
  pub bad-few : bad ≤ 4488 * number
  pub tables-are : tables + rest table_count number ≡ over_all table_count
  pub bad-are : bad + rest bad_count number ≡ over_all bad_count

pub totals-start : Totals 0 0 0
unfolding over_all
totals-start = record
    { place = omega arith; tables-few = omega arith; bad-few = omega arith; tables-are = omega arith; bad-are = omega arith }

rest-next : (f : Call → Words → ℕ) (n : ℕ) → n < SCRIPTS → rest f n ≡ along f (script_of n) (empty 4) + rest f (n + 1)
unfolding numbers
rest-next f n h =
    let e : SCRIPTS - n ≡ suc (SCRIPTS - (n + 1)) = omega arith in
    let k : n + 1 ≡ suc n = add-one n in
    rw (e, k)

-- the script's words are fit to run
pub script-runs : (n : ℕ) (ws : Words) → ws ≡ script_words (script_of n) → form_script ws ≡ true
script-runs n ws e = rw e (words-form (script_of n) (script-is n))

pub totals-next : (tables bad number : ℕ) (ws : Words) (met : Met) → Totals tables bad number → number < SCRIPTS → ws
    ≡ script_words (script_of number)
    → Runs (actions_in ws) met → Totals (tables + met.tables) (bad + met.bad) (number + 1)
totals-next tables bad number ws met r h e m =
    let s : actions_in ws ≡ script_of number = ap actions_in e ∙ words-actions (script_of number) in
    record {
      place = omega arith;
      tables-few = omega (arith, r.tables-few, m.tables-few);
      bad-few = omega (arith, r.bad-few, m.bad-few);
      tables-are = omega (arith, r.tables-are, rw s at m.tables-are, rest-next table_count number h);
      bad-are = omega (arith, r.bad-are, rw s at m.bad-are, rest-next bad_count number h);
    }

pub totals-end : (tables bad number : ℕ) → Totals tables bad number → SCRIPTS ≤ number → (tables ≡ over_all table_count)
    × (bad ≡ over_all bad_count)
unfolding numbers
totals-end tables bad number r h =
    let e : SCRIPTS - number ≡ 0 = omega arith in
    (omega (arith, rw e at r.tables-are), omega (arith, rw e at r.bad-are))
