-- Room for stores: for lists in a row, for the first of them, and what it says of the lengths.
use Rattle.std.proofs.Common.{◌≡◌, ℕ, ◌+◌, ◌*◌, ◌≤◌, ◌↔◌, List, [], ◌∷◌, ◌++◌, length, append_assoc, arith, length-append}
use mathlib.Core.Option.{Option, none, some}
use Rattle.list_laws.proofs.Tools.{Each-append, Each-split}
use Rattle.model.specs.Table.{line}
use Rattle.model.specs.Orders.{Store, Order, store, barred}
use Rattle.cut_laws.specs.Growing.{due, added, open_after, closing}
use Rattle.cut_laws.proofs.Barriers.{barred-append, barred-longer}
use Rattle.cut_laws.proofs.FlushRule.{added-append, open_after-append}
use Rattle.orders.specs.Desk.{Desk, dock_at, open_at, stored, stored_all, closed, Room}
use Rattle.orders.proofs.Steps.{noted-at, noted-list-length, noted-table-length, noted-counts, closing-barred, stored_all-noted}
use Rattle.orders.proofs.Steps.{stored_all-open, stored_all-dock}

-- ---- what stores leave: the place, lengths, counts

-- the orders that they add on the desk's dock
abbrev added_on : List Store → Desk → List Order
added_on ss d = barred (dock_at d) (added (open_at d) ss)

pub stored-at : (ss : List Store) (d : Desk) → (stored_all ss d).pen.at ≡ d.pen.at + 2 * length (barred (dock_at d) (added (open_at d) ss))
stored-at ss d = rw (stored_all-noted ss d) (noted-at (added_on ss d) d)

pub stored-list-length : (ss : List Store) (d : Desk) → length (stored_all ss d).list ≡ length d.list
stored-list-length ss d = rw (stored_all-noted ss d) (noted-list-length (added_on ss d) d)

pub stored-table-length : (ss : List Store) (d : Desk) → length (stored_all ss d).table ≡ length d.table
stored-table-length ss d = rw (stored_all-noted ss d) (noted-table-length (added_on ss d) d)

stored-counts : (ss : List Store) (d : Desk)
    → (stored_all ss d).pen.counts.stores + (stored_all ss d).pen.counts.flushes + (stored_all ss d).pen.counts.barriers
    ≡ d.pen.counts.stores + d.pen.counts.flushes + d.pen.counts.barriers + length (added_on ss d)
stored-counts ss d = rw (stored_all-noted ss d) (noted-counts (added_on ss d) d)

-- ---- closed lists

closing-short : (o : Option ℕ) → length (closing o) ≤ 1
closing-short none = omega arith
closing-short (some l) = omega arith

-- more stores, no fewer orders
orders-grow : (o : Option ℕ) (ss : List Store) → length (closing o) ≤ length (added o ss ++ closing (open_after o ss))
unfolding added open_after
orders-grow o [] = omega arith
orders-grow o (s ∷ ss) =
    omega (
      arith,
      closing-short o,
      length-append (due o s) (store s ∷ added (some (line s.word)) ss),
      length-append (added o (s ∷ ss)) (closing (open_after o (s ∷ ss))),
    )

module _ (dock : ℕ) (o : Option ℕ) where
  closed-grows : (ss : List Store) → length (closing o) ≤ length (closed dock o ss)
  closed-grows ss = omega (arith, orders-grow o ss, barred-longer dock (added o ss ++ closing (open_after o ss)))

  -- what is added, and the flush at the end
  closed-length : (ss : List Store) → length (closed dock o ss) ≡ length (barred dock (added o ss)) + length (closing (open_after o ss))
  closed-length ss =
      rw (barred-append dock (added o ss) (closing (open_after o ss)), closing-barred dock (open_after o ss))
      (length-append (barred dock (added o ss)) (closing (open_after o ss)))

closed-append : (dock : ℕ) (o : Option ℕ) (a b : List Store) → length (closed dock o (a ++ b))
    ≡ length (barred dock (added o a)) + length (closed dock (open_after o a) b)
closed-append dock o a b =
    let later = added (open_after o a) b in
    let last = closing (open_after (open_after o a) b) in
    rw (added-append o a b, open_after-append o a b, append_assoc (added o a) later last, barred-append dock (added o a) (later ++ last))
    (length-append (barred dock (added o a)) (barred dock (later ++ last)))

-- ---- room for lists in a row

module _ (a b : List Store) (d : Desk) where
  -- the orders of both are those of a, and of b on the desk that a leaves
  both : length (closed (dock_at d) (open_at d) (a ++ b))
      ≡ length (added_on a d) + length (closed (dock_at (stored_all a d)) (open_at (stored_all a d)) b)
  both = rw (stored_all-open a d, stored_all-dock a d) (closed-append (dock_at d) (open_at d) a b)

  less : length (closed (dock_at d) (open_at d) a) ≤ length (closed (dock_at d) (open_at d) (a ++ b))
  less = omega (
    arith,
    closed-append (dock_at d) (open_at d) a b,
    closed-length (dock_at d) (open_at d) a,
    closed-grows (dock_at d) (open_after (open_at d) a) b,
  )

  pub room-append : Room (a ++ b) d ↔ (Room a d × Room b (stored_all a d))
  room-append = (
    λ r. let u = Each-split _ a b r.inside in (
      record { inside = u.0; space = omega (arith, less); counts = r.counts },
      record {
        inside = rw (stored-table-length a d) u.1;
        space = omega (arith, both, stored-at a d, stored-list-length a d);
        counts = omega (arith, stored-at a d, stored-counts a d);
      },
    ),
    λ u. record {
      inside = Each-append _ a b u.0.inside (rw (stored-table-length a d) at u.1.inside);
      space = omega (arith, both, stored-at a d, stored-list-length a d);
      counts = u.0.counts;
    },
  )

-- the first part has room
pub room-first : (a b : List Store) (d : Desk) → Room (a ++ b) d → Room a d
room-first a b d r = ((room-append a b d).0 r).0

-- if there is room for both parts, then after the first there is room for the second
pub room-rest : (a b : List Store) (d : Desk) → Room (a ++ b) d → Room b (stored_all a d)
room-rest a b d r = ((room-append a b d).0 r).1

pub room-cons : (s : Store) (ss : List Store) (d : Desk) → Room (s ∷ ss) d → Room (s ∷ []) d × Room ss (stored s d)
unfolding stored_all
room-cons s ss d r = (room-append (s ∷ []) ss d).0 r
