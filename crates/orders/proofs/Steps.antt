-- The desk after orders and after stores: lists in a row, the place, the open line, lengths and counts.
use Rattle.std.proofs.Common.{◌≡◌, ℕ, zero, suc, ◌+◌, ◌*◌, true, false, cond, eqb, List, [], ◌∷◌, ◌++◌, length, sym, refl, ap, ◌∙◌}
use Rattle.std.proofs.Common.{append_assoc, arith, length-set}
use mathlib.Core.Option.{Option, none, some}
use Rattle.model.specs.Table.{line}
use Rattle.model.specs.Orders.{Store, Order, store, flush, barrier, apply, carry, with_barriers, barred}
use Rattle.cut_laws.specs.Growing.{due, added, open_after, closing}
use Rattle.cut_laws.proofs.Applying.{carry-stores, length-carry}
use Rattle.cut_laws.proofs.Barriers.{barred-nil, barred-append, barred-carry}
use Rattle.cut_laws.proofs.FlushRule.{added-stores}
use Rattle.orders.specs.declared.Dock.{Dock}
use Rattle.orders.specs.Desk.{Desk, dock_number, dock_at, open_at, noted, noted_all, stored, stored_all}

pub noted_all-append : (a b : List Order) (d : Desk) → noted_all (a ++ b) d ≡ noted_all b (noted_all a d)
unfolding noted_all
noted_all-append [] b d = refl
noted_all-append (o ∷ a) b d = noted_all-append a b (noted o d)

pub stored_all-append : (a b : List Store) (d : Desk) → stored_all (a ++ b) d ≡ stored_all b (stored_all a d)
unfolding stored_all
stored_all-append [] b d = refl
stored_all-append (s ∷ a) b d = stored_all-append a b (stored s d)

-- ---- orders

pub noted-at : (os : List Order) (d : Desk) → (noted_all os d).pen.at ≡ d.pen.at + 2 * length os
unfolding noted_all noted
noted-at [] d = omega arith
noted-at (store s ∷ os) d = omega (arith, noted-at os (noted (store s) d))
noted-at (flush l ∷ os) d = omega (arith, noted-at os (noted (flush l) d))
noted-at (barrier ∷ os) d = omega (arith, noted-at os (noted barrier d))

pub noted-list-length : (os : List Order) (d : Desk) → length (noted_all os d).list ≡ length d.list
unfolding noted_all noted
noted-list-length [] d = refl
noted-list-length (store s ∷ os) d = noted-list-length os (noted (store s) d) ∙ simp length-set
noted-list-length (flush l ∷ os) d = noted-list-length os (noted (flush l) d) ∙ simp length-set
noted-list-length (barrier ∷ os) d = noted-list-length os (noted barrier d) ∙ simp length-set

pub noted-table : (os : List Order) (d : Desk) → (noted_all os d).table ≡ carry os d.table
unfolding noted_all noted carry
noted-table [] d = refl
noted-table (store s ∷ os) d = noted-table os (noted (store s) d)
noted-table (flush l ∷ os) d = noted-table os (noted (flush l) d)
noted-table (barrier ∷ os) d = noted-table os (noted barrier d)

pub noted-table-length : (os : List Order) (d : Desk) → length (noted_all os d).table ≡ length d.table
noted-table-length os d = ap length (noted-table os d) ∙ length-carry os d.table

-- each order is counted once
pub noted-counts : (os : List Order) (d : Desk)
    → (noted_all os d).pen.counts.stores + (noted_all os d).pen.counts.flushes + (noted_all os d).pen.counts.barriers
    ≡ d.pen.counts.stores + d.pen.counts.flushes + d.pen.counts.barriers + length os
unfolding noted_all noted
noted-counts [] d = omega arith
noted-counts (store s ∷ os) d = omega (arith, noted-counts os (noted (store s) d))
noted-counts (flush l ∷ os) d = omega (arith, noted-counts os (noted (flush l) d))
noted-counts (barrier ∷ os) d = omega (arith, noted-counts os (noted barrier d))

pub noted-dock : (os : List Order) (d : Desk) → (noted_all os d).pen.dock ≡ d.pen.dock
unfolding noted_all noted
noted-dock [] d = refl
noted-dock (store s ∷ os) d = noted-dock os (noted (store s) d)
noted-dock (flush l ∷ os) d = noted-dock os (noted (flush l) d)
noted-dock (barrier ∷ os) d = noted-dock os (noted barrier d)

-- ---- stores

-- flushes need no barrier
pub due-barred : (dock : ℕ) (o : Option ℕ) (s : Store) → barred dock (due o s) ≡ due o s
unfolding with_barriers
due-barred zero o s = refl
due-barred (suc n) none s = refl
due-barred (suc n) (some l) s =
    elim (eqb (line s.word) l) as (λ b. with_barriers (cond b [] (flush l ∷ [])) ≡ cond b [] (flush l ∷ [])) [ true ↦ refl | false ↦ refl ]

pub closing-barred : (dock : ℕ) (o : Option ℕ) → barred dock (closing o) ≡ closing o
unfolding with_barriers
closing-barred zero o = refl
closing-barred (suc n) none = refl
closing-barred (suc n) (some l) = refl

-- a store leaves its line open, on either dock
open-after : (dock : ℕ) (s : Store) (d : Desk) → open_at (noted_all (barred dock (store s ∷ [])) d) ≡ some (line s.word)
unfolding noted_all noted with_barriers
open-after zero s d = refl
open-after (suc n) s d = refl

pub stored-open : (s : Store) (d : Desk) → open_at (stored s d) ≡ some (line s.word)
unfolding stored
stored-open s d =
    ap open_at (noted_all-append (due (open_at d) s) (barred (dock_at d) (store s ∷ [])) d)
    ∙ open-after (dock_at d) s (noted_all (due (open_at d) s) d)

pub stored-dock : (s : Store) (d : Desk) → (stored s d).pen.dock ≡ d.pen.dock
unfolding stored
stored-dock s d = noted-dock (due (open_at d) s ++ barred (dock_at d) (store s ∷ [])) d

-- what the first store adds, and the others
added-first : (dock : ℕ) (o : Option ℕ) (s : Store) (ss : List Store)
    → barred dock (added o (s ∷ ss)) ≡ (due o s ++ barred dock (store s ∷ [])) ++ barred dock (added (some (line s.word)) ss)
unfolding added
added-first dock o s ss =
    barred-append dock (due o s) (store s ∷ added (some (line s.word)) ss)
    ∙ ap (λ q. q ++ barred dock (store s ∷ added (some (line s.word)) ss)) (due-barred dock o s)
    ∙ ap (λ q. due o s ++ q) (barred-append dock (store s ∷ []) (added (some (line s.word)) ss))
    ∙ sym (append_assoc (due o s) (barred dock (store s ∷ [])) (barred dock (added (some (line s.word)) ss)))

-- stores note the orders that they add
pub stored_all-noted : (ss : List Store) (d : Desk) → stored_all ss d ≡ noted_all (barred (dock_at d) (added (open_at d) ss)) d
unfolding stored_all noted_all added stored
stored_all-noted [] d = ap (λ q. noted_all q d) (sym (barred-nil (dock_at d)))
stored_all-noted (s ∷ ss) d =
    let dock = dock_at d in
    let later = added (some (line s.word)) ss in
    stored_all-noted ss (stored s d)
    ∙ ap (λ (o : Option ℕ). noted_all (barred (dock_at (stored s d)) (added o ss)) (stored s d)) (stored-open s d)
    ∙ ap (λ (k : Dock). noted_all (barred (dock_number k) later) (stored s d)) (stored-dock s d)
    ∙ sym (noted_all-append (due (open_at d) s ++ barred dock (store s ∷ [])) (barred dock later) d)
    ∙ ap (λ q. noted_all q d) (sym (added-first dock (open_at d) s ss))

pub stored_all-open : (ss : List Store) (d : Desk) → open_at (stored_all ss d) ≡ open_after (open_at d) ss
unfolding stored_all open_after
stored_all-open [] d = refl
stored_all-open (s ∷ ss) d = stored_all-open ss (stored s d) ∙ ap (λ (o : Option ℕ). open_after o ss) (stored-open s d)

pub stored_all-dock : (ss : List Store) (d : Desk) → (stored_all ss d).pen.dock ≡ d.pen.dock
unfolding stored_all
stored_all-dock [] d = refl
stored_all-dock (s ∷ ss) d = stored_all-dock ss (stored s d) ∙ stored-dock s d

-- the working copy is the table with the stores applied
pub stored_all-table : (ss : List Store) (d : Desk) → (stored_all ss d).table ≡ apply ss d.table
stored_all-table ss d =
    rw (
      stored_all-noted ss d,
      noted-table (barred (dock_at d) (added (open_at d) ss)) d,
      barred-carry (dock_at d) (added (open_at d) ss) d.table,
      carry-stores (added (open_at d) ss) d.table,
      added-stores (open_at d) ss,
    )
