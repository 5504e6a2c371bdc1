-- What a finished desk holds: the stores applied, their orders in the lent list, and the three counts.
use Rattle.std.proofs.Common.{◌≡◌, ℕ, zero, suc, ◌+◌, ◌*◌, ◌≤◌, List, [], ◌∷◌, ◌++◌, length, sym, refl, ◌∙◌, append-nil, arith}
use Rattle.std.proofs.Common.{length-append}
use lib.Seq.{append_snoc}
use Rattle.model.specs.Table.{Words}
use Rattle.model.specs.Orders.{Store, Order, store, flush, barrier, apply, carry, orders, barred, store_count, flush_count, barrier_count}
use Rattle.model.specs.Orders.{list_with}
use Rattle.cut_laws.proofs.Applying.{carry-append, store_count-append, flush_count-append, barrier_count-append}
use Rattle.cut_laws.proofs.Barriers.{barred-append}
use Rattle.cut_laws.proofs.FlushRule.{orders-closed}
use Rattle.cut_laws.proofs.Docks.{list-apply}
use Rattle.cut_laws.specs.Growing.{closing, open_orders, open_line}
use Rattle.cut_laws.specs.Inside.{StoresInside}
use Rattle.cut_laws.proofs.Lent.{list_with-nil, list_with-store, list_with-flush, list_with-barrier}
use Rattle.orders.specs.Desk.{Desk, dock_of, dock_number, start, noted, noted_all, stored_all, finished, Room}
use Rattle.orders.proofs.Steps.{noted_all-append, closing-barred, stored_all-noted, stored_all-open}

-- the desk holds these orders, begun on table t and the lent list
pub record Holds (t lent : Words) (os : List Order) (d : Desk) : Type 0 where
  pub table : d.table ≡ carry os t
  pub list : d.list ≡ list_with os lent
  pub at : d.pen.at ≡ 2 * length os
  pub stores : d.pen.counts.stores ≡ store_count os
  pub flushes : d.pen.counts.flushes ≡ flush_count os
  pub barriers : d.pen.counts.barriers ≡ barrier_count os

begun : (t lent : Words) (dock : ℕ) → Holds t lent [] (start t lent dock)
unfolding carry store_count flush_count barrier_count
begun t lent dock = record
    { table = refl; list = sym (list_with-nil lent); at = omega arith; stores = refl; flushes = refl; barriers = refl }

one-more : (t lent : Words) (os : List Order) (o : Order) (d : Desk) → 2 * length os + 2 ≤ length lent → Holds t lent os d
    → Holds t lent (os ++ (o ∷ [])) (noted o d)
unfolding noted carry store_count flush_count barrier_count
one-more t lent os (store s) d h i =
    record {
      table = rw (carry-append os (store s ∷ []) t, i.table);
      list = rw (i.at, i.list) (list_with-store os s lent h);
      at = omega (arith, length-append os (store s ∷ []), i.at);
      stores = omega (arith, store_count-append os (store s ∷ []), i.stores);
      flushes = omega (arith, flush_count-append os (store s ∷ []), i.flushes);
      barriers = omega (arith, barrier_count-append os (store s ∷ []), i.barriers);
    }
one-more t lent os (flush l) d h i =
    record {
      table = rw (carry-append os (flush l ∷ []) t, i.table);
      list = rw (i.at, i.list) (list_with-flush os l lent h);
      at = omega (arith, length-append os (flush l ∷ []), i.at);
      stores = omega (arith, store_count-append os (flush l ∷ []), i.stores);
      flushes = omega (arith, flush_count-append os (flush l ∷ []), i.flushes);
      barriers = omega (arith, barrier_count-append os (flush l ∷ []), i.barriers);
    }
one-more t lent os barrier d h i =
    record {
      table = rw (carry-append os (barrier ∷ []) t, i.table);
      list = rw (i.at, i.list) (list_with-barrier os lent h);
      at = omega (arith, length-append os (barrier ∷ []), i.at);
      stores = omega (arith, store_count-append os (barrier ∷ []), i.stores);
      flushes = omega (arith, flush_count-append os (barrier ∷ []), i.flushes);
      barriers = omega (arith, barrier_count-append os (barrier ∷ []), i.barriers);
    }

-- orders noted after others, where all of them fit
noted-holds : (t lent : Words) (os ps : List Order) (d : Desk) → 2 * length (os ++ ps) ≤ length lent → Holds t lent os d
    → Holds t lent (os ++ ps) (noted_all ps d)
unfolding noted_all
noted-holds t lent os [] d h i = rw append-nil i
noted-holds t lent os (o ∷ ps) d h i =
    rw (← (append_snoc os o ps))
    (noted-holds t lent (os ++ (o ∷ [])) ps (noted o d) (rw append_snoc h)
    (one-more t lent os o d (omega (arith, length-append os (o ∷ ps))) i))

-- a list as the dock with a number needs it
pub barred-dock : (n : ℕ) (os : List Order) → barred (dock_number (dock_of n)) os ≡ barred n os
barred-dock zero os = refl
barred-dock (suc n) os = refl

module _ (ss : List Store) (t lent : Words) (dock : ℕ) where
  -- a finished desk has noted the orders of its stores, as the dock needs them
  finished-noted : finished (stored_all ss (start t lent dock)) ≡ noted_all (barred dock (orders ss)) (start t lent dock)
  unfolding finished
  finished-noted =
      let d = start t lent dock in
      let o = open_line ss in
      rw (
        stored_all-open ss d,
        stored_all-noted ss d,
        barred-dock dock (open_orders ss),
        orders-closed ss,
        barred-append dock (open_orders ss) (closing o),
        closing-barred dock o,
        noted_all-append,
      )

  -- The finished desk: the table is the stores applied, the list has their orders, and the counts are those of the list.
  pub record Written (d : Desk) : Type 0 where
    pub table : d.table ≡ apply ss t
    pub list : d.list ≡ list_with (barred dock (orders ss)) lent
    pub stores : d.pen.counts.stores ≡ store_count (barred dock (orders ss))
    pub flushes : d.pen.counts.flushes ≡ flush_count (barred dock (orders ss))
    pub barriers : d.pen.counts.barriers ≡ barrier_count (barred dock (orders ss))

  module _ (fits : 2 * length (barred dock (orders ss)) ≤ length lent) where
    -- stores written with room for their orders leave the table, the list and the counts that the definitions say
    pub finished-means : Written (finished (stored_all ss (start t lent dock)))
    finished-means =
        let i = noted-holds t lent [] (barred dock (orders ss)) (start t lent dock) fits (begun t lent dock) in
        rw finished-noted (record
        { table = i.table ∙ list-apply dock ss t; list = i.list; stores = i.stores; flushes = i.flushes; barriers = i.barriers })

    -- Before the first store there is room for stores inside the table whose orders fit the list.
    pub start-room : StoresInside (length t) ss → Room ss (start t lent dock)
    start-room a = record { inside = a; space = rw (barred-dock dock, ← (orders-closed ss)) (omega arith); counts = omega arith }
