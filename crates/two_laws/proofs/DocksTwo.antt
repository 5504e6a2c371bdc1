-- Calls for either dock: without its barriers the list of every call is dock 0's; what the counts come to, and that the list fits; the
-- refusals that the docks share.
use Rattle.std.proofs.Common.{◌≡◌, ℕ, zero, suc, ◌+◌, ◌*◌, ◌≤◌, length, take, sym, refl, ap, ◌∙◌, arith, le-ltb}
use Rattle.model.specs.Table.{Words}
use Rattle.model.specs.SoundTest.{sound}
use Rattle.model.specs.Orders.{orders, without_barriers, store_count, flush_count, barrier_count, decode}
use Rattle.model.specs.Writes.{Call, stores_of}
use Rattle.model.specs.Refusals.{words_for, refusal, orders_of, written, orders_answered, list_after}
use Rattle.cut_laws.proofs.Applying.{counts-length}
use Rattle.cut_laws.proofs.Barriers.{barred-store_count, barred-flush_count, with-barrier_count, barred-length}
use Rattle.cut_laws.proofs.FlushRule.{orders-barrier_count}
use Rattle.cut_laws.proofs.Docks.{list-without}
use Rattle.cut_laws.proofs.Lent.{list-read-back}
use Rattle.two_laws.proofs.AcceptedTwo.{accepted-iff}
use Rattle.two_laws.proofs.MapsTwo.{accepted-steps}

-- Without its barriers the list of every call is dock 0's.
pub call-without : (x : Call) (dock : ℕ) (t : Words) → without_barriers (orders_of x dock t) ≡ orders_of x 0 t
call-without x dock t = list-without dock (stores_of x t)

-- Dock 0 has no barriers, dock 1 as many as stores.
pub no-barriers : (x : Call) (t : Words) → barrier_count (orders_of x 0 t) ≡ 0
no-barriers x t = orders-barrier_count (stores_of x t)

pub barrier-each : (x : Call) (t : Words) → barrier_count (orders_of x 1 t) ≡ store_count (orders_of x 1 t)
barrier-each x t =
    omega (arith, with-barrier_count (orders (stores_of x t)), no-barriers x t, barred-store_count 1 (orders (stores_of x t)))

-- With a list that is long enough a call is refused for either dock as for dock 0.
pub same-refusal : (x : Call) (words dock words' : ℕ) (t : Words) → dock ≤ 1 → words_for dock ≤ words → 2560 ≤ words'
    → refusal x words dock t ≡ refusal x words' 0 t
unfolding refusal
same-refusal x words dock words' t a b c = rw (le-ltb 1 dock a, le-ltb words (words_for dock) b, le-ltb words' 2560 c)

words-room : (dock orders : ℕ) → orders ≤ 2242 → (dock ≡ 0 → orders ≤ 1121) → 2 * orders ≤ words_for dock
words-room zero n a b = let c = b refl in omega arith
words-room (suc d) n a b = omega arith

-- ---- an accepted call

module _ (x : Call) (words dock : ℕ) (t : Words) (ok : refusal x words dock t ≡ 0) where
  few : length (orders (stores_of x t)) ≤ 1121
  few = (accepted-steps x words dock t ((accepted-iff x words dock t).0 ok).sound ok).few

  -- at most 1,121 stores and flushes
  pub stores-and-flushes : store_count (orders_of x dock t) + flush_count (orders_of x dock t) ≤ 1121
  stores-and-flushes =
      let os = orders (stores_of x t) in
      omega (arith, few, counts-length os, barred-store_count dock os, barred-flush_count dock os)

  -- the list fits, with its barriers
  pub list-fits : 2 * length (orders_of x dock t) ≤ words
  list-fits =
      let a = ((accepted-iff x words dock t).0 ok).long in
      let b = words-room dock (length (orders_of x dock t))
      (omega (arith, few, barred-length dock (orders (stores_of x t)))) (λ e. rw e few) in
      omega arith

-- the orders that it answered, read back from the lent list
pub call-read : (x : Call) (lent : Words) (dock : ℕ) (t : Words) → refusal x (length lent) dock t ≡ 0
    → take (orders_answered (written x (length lent) dock t)) (decode (list_after x lent dock t)) ≡ orders_of x dock t
unfolding written list_after
call-read x lent dock t ok =
    let a = (accepted-iff x (length lent) dock t).0 ok in
    rw (ok, counts-length (orders_of x dock t))
    (list-read-back dock (stores_of x t) lent t a.header (accepted-steps x (length lent) dock t a.sound ok).stores-inside)

-- So the words of the two lists, read back, differ by the barriers alone.
pub docks-agree : (x : Call) (lent : Words) (dock : ℕ) (lent' t : Words) → refusal x (length lent) dock t ≡ 0 → 2560 ≤ length lent'
    → without_barriers (take (orders_answered (written x (length lent) dock t)) (decode (list_after x lent dock t)))
    ≡ take (orders_answered (written x (length lent') 0 t)) (decode (list_after x lent' 0 t))
docks-agree x lent dock lent' t ok h =
    let a = (accepted-iff x (length lent) dock t).0 ok in
    let e = sym (same-refusal x (length lent) dock (length lent') t a.dock-ok a.long h) ∙ ok in
    ap without_barriers (call-read x lent dock t ok) ∙ call-without x dock t ∙ sym (call-read x lent' 0 t e)
