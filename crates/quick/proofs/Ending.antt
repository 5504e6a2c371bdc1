-- A quick call from its tests to its end: a refusal changes no word, and the stores, made and finished, are what the call promises.
use Rattle.std.proofs.Common.{◌≡◌, ℕ, zero, suc, ◌*◌, ◌≤◌, not, eqb, ◌≢◌, List, [], ◌∷◌, ◌++◌, length, refl, ap, ◌∙◌, subst, append-nil}
use Rattle.std.proofs.Common.{arith, ltb-false}
use Rattle.std.specs.Prelude.{Ok, Err}
use Rattle.model.specs.declared.Counts.{Counts}
use Rattle.model.specs.declared.Refusal.{Refusal}
use Rattle.model.specs.Results as answer
use Rattle.model.specs.Results.{refused_with, passed}
use Rattle.model.specs.Numbers.{refusal_number}
use Rattle.model.specs.Table.{Words, nodes, header_ok, no_collection}
use Rattle.model.specs.Slots.{view_of}
use Rattle.model.specs.Orders.{Order, orders, barred}
use Rattle.model.specs.Writes.{Call}
use Rattle.model.specs.Refusals.{test, Test, first_number, words_for}
use Rattle.model.specs.Summary.{summary_words, marks_in, way_ok, quick_list_number, quick_number, quick_stores, quick_words, quick_written}
use Rattle.model.specs.Summary.{quick_table, quick_list, quick_summary}
use Rattle.model.proofs.Numbers.{refused-by, passed-number, failed-some, failed-with}
use Rattle.cut_laws.proofs.Barriers.{barred-length}
use Rattle.step_laws.proofs.Accepted.{Passed, none-holds}
use Rattle.summary_laws.proofs.AnyCalls.{quick-fits}
use Rattle.orders.specs.declared.Writer.{Writer}
use Rattle.orders.specs.Desk.{Desk, desk, first_pen, start, of, Becomes, Makes, stored_all, finished, Room}
use Rattle.orders.proofs.Rooms.{room-rest}
use Rattle.orders.proofs.Meaning.{Written, finished-means, start-room}
use Rattle.write.proofs.Judging.{first-shared}
use Rattle.write.proofs.Ending.{done-same}
use Rattle.quick.specs.Lists.{lent_tests, lent_number}

-- what a call promises of its answer, the table, the list and the summary at its end
pub record Promised (x : Call) (t lent ws : Words) (dock : ℕ) (r : answer.Written) (t' list' ws' : Words) : Type 0 where
  pub value : r ≡ quick_written x (length lent) dock ws t
  pub table_after : t' ≡ quick_table x (length lent) dock ws t
  pub list_after : list' ≡ quick_list x lent dock ws t
  pub summary_after : ws' ≡ quick_summary x (length lent) dock ws t

-- ---- the number, part by part

-- tests that pass are passed over
first-after : (cs ds : List Test) → Passed cs → first_number (cs ++ ds) ≡ first_number ds
first-after [] ds p = refl
first-after (c ∷ cs) ds p = rw p.0 (first-after cs ds p.1)

-- 2, 17, 26 and 4
abbrev pub begin_tests : (n : ℕ) → (ws t : Words) → (k : ℕ) → List Test
begin_tests n ws t k =
    test (not (header_ok t)) 2 ∷ test (no_collection n t) 17 ∷ test (not (eqb (length ws) (summary_words (nodes t)))) 26
    ∷ test (not (way_ok (marks_in (nodes t) ws) (view_of n t) k)) 4 ∷ []

module _ (n : ℕ) (ws t : Words) (k : ℕ) (later : List Test) where
  -- if one of the first tests holds, its number is that of all tests
  pub begin-refused : quick_list_number n ws t k ≢ 0 → first_number (begin_tests n ws t k ++ later) ≡ quick_list_number n ws t k
  unfolding quick_list_number
  begin-refused z = first-shared (begin_tests n ws t k) later z

  -- if none of the first tests holds, the later ones give the number
  pub begin-passed : quick_list_number n ws t k ≡ 0 → first_number (begin_tests n ws t k ++ later) ≡ first_number later
  unfolding quick_list_number
  begin-passed e =
      first-after (begin_tests n ws t k) later
      ((none-holds (begin_tests n ws t k) ((λ e. omega arith), ((λ e. omega arith), ((λ e. omega arith), ((λ e. omega arith), tt))))).0
      e)

-- 18 and 5
module _ (words dock : ℕ) (later : List Test) where
  -- if the dock or the length of the order list is refused, that number comes before those of the later tests
  pub lent-refused : lent_number words dock ≢ 0 → first_number (lent_tests words dock ++ later) ≡ lent_number words dock
  unfolding lent_number
  lent-refused z = first-shared (lent_tests words dock) later z

  lent-each : lent_number words dock ≡ 0 → Passed (lent_tests words dock)
  unfolding lent_number
  lent-each e = (none-holds (lent_tests words dock) ((λ e. omega arith), ((λ e. omega arith), tt))).0 e

  -- if dock and order list pass, the later tests give the number
  pub lent-passed : lent_number words dock ≡ 0 → first_number (lent_tests words dock ++ later) ≡ first_number later
  lent-passed e = first-after (lent_tests words dock) later (lent-each e)

-- an order list that passes is long enough for its dock
pub list-long : (words dock : ℕ) → lent_number words dock ≡ 0 → words_for dock ≤ words
list-long words dock e = ltb-false words (words_for dock) (lent-each words dock [] e).1.0

-- ---- a refused call

-- no refusal has the number 0
pub refusal-some : (r : Refusal) → refusal_number r ≢ 0
refusal-some r = failed-some (refusal_number r) (passed-number r)

module _ (x : Call) (t lent ws : Words) (dock : ℕ) where
  refused-call : (n : ℕ) → n ≢ 0 → quick_number x (length lent) dock ws t ≡ n → Promised x t lent ws dock (refused_with n) t lent ws
  unfolding quick_written quick_table quick_list quick_summary
  refused-call zero z e = absurd (z refl)
  refused-call (suc n) z e = record { value = rw e; table_after = rw e; list_after = rw e; summary_after = rw e }

  -- by the number of a refusal
  pub refused-for : (r : Refusal) → quick_number x (length lent) dock ws t ≡ refusal_number r → Promised x t lent ws dock (Err r) t lent ws
  refused-for r e = subst (λ (w : answer.Written). Promised x t lent ws dock w t lent ws) (refused-by r)
      (refused-call (refusal_number r) (refusal-some r) e)

  -- by a test that answers by its number
  pub refused-as : (n : ℕ) {r : Refusal} → passed n ≡ Err r → quick_number x (length lent) dock ws t ≡ n
      → Promised x t lent ws dock (Err r) t lent ws
  refused-as n f e = subst (λ (w : answer.Written). Promised x t lent ws dock w t lent ws) (failed-with n f)
      (refused-call n (failed-some n f) e)

-- ---- an accepted call, from its writer's first pen on

words-room : (dock : ℕ) (os : List Order) → length os ≤ 1137 → 2 * length (barred dock os) ≤ words_for dock
words-room zero os h = omega arith
words-room (suc d) os h = omega (arith, barred-length (suc d) os)

-- its orders fit the list
pub quick-room : (x : Call) (lent : Words) (dock : ℕ) (ws t : Words) → quick_number x (length lent) dock ws t ≡ 0
    → words_for dock ≤ length lent
    → 2 * length (barred dock (orders (quick_stores x ws t))) ≤ length lent
quick-room x lent dock ws t ok long =
    omega (arith, words-room dock (orders (quick_stores x ws t)) (quick-fits x (length lent) dock ws t ok).few, long)

pub record Begun (x : Call) (dock : ℕ) (ws : Words) (d : Desk) : Type 0 where
  pub accepted : quick_number x (length d.list) dock ws d.table ≡ 0
  pub long : words_for dock ≤ length d.list
  pub first : d.pen ≡ first_pen dock

module _ {x : Call} {dock : ℕ} {ws : Words} {d : Desk} (b : Begun x dock ws d) where
  fits : 2 * length (barred dock (orders (quick_stores x ws d.table))) ≤ length d.list
  fits = quick-room x d.list dock ws d.table b.accepted b.long

  started : d ≡ start d.table d.list dock
  started = ap (desk d.table d.list) b.first

  -- the order list of an accepted call has room for the orders of its stores
  pub call-room : Room (quick_stores x ws d.table) d
  call-room = rw started
      (start-room (quick_stores x ws d.table) d.table d.list dock fits (quick-fits x (length d.list) dock ws d.table b.accepted).inside)

-- its stores are made
module _ {x : Call} {dock : ℕ} {ws : Words} {w z : Writer} (b : Begun x dock ws (of w))
    (h : Makes (quick_stores x ws w.table.now) w z) where
  -- after the stores of an accepted call the order list has room for what finishes it
  pub finish-room : Room [] (of z)
  finish-room = rw h.is (room-rest (quick_stores x ws w.table.now) [] (of w) (rw append-nil (call-room b)))

  -- and finished
  pub done-call : {y : Writer} {r : Counts} {ws' : Words} → Becomes z (finished (of z)) y → r ≡ (finished (of z)).pen.counts → ws'
      ≡ quick_words x ws w.table.now
      → Promised x w.table.now w.list.now ws dock (Ok r) y.table.now y.list.now ws'
      × ((y.table.ghost_name ≡ w.table.ghost_name) × (y.list.ghost_name ≡ w.list.ghost_name))
  unfolding quick_written quick_table quick_list quick_summary
  done-call {y} {r} {ws'} f e s =
      let t = w.table.now in
      let ss = quick_stores x ws t in
      let q = ap finished (h.is ∙ ap (stored_all ss) (started b)) in
      let u : Written ss t w.list.now dock (finished (of z)) = rw q (finished-means ss t w.list.now dock (fits b)) in (
        record {
          value = rw (b.accepted, e) (done-same u.stores u.flushes u.barriers);
          table_after = rw b.accepted (ap (λ (d : Desk). d.table) f.is ∙ u.table);
          list_after = rw b.accepted (ap (λ (d : Desk). d.list) f.is ∙ u.list);
          summary_after = rw b.accepted s;
        },
        (f.same_table ∙ h.same_table, f.same_list ∙ h.same_list),
      )
