-- A write under way: the working copy, the lent list and the pen, and what an order, a store, stores and the end make of them.
use Rattle.std.specs.Prelude.{◌≡◌, Bool, false, cond, List, [], ◌∷◌, ◌++◌, ℕ, zero, suc, ◌+◌, ◌*◌, ◌≤◌, eqb, length, set, Option as Line, Some, None}
use Rattle.std.proofs.Math.Option.{Option, none, some}
use Rattle.model.specs.Table.{MARK, Words, line}
use Rattle.model.specs.Orders.{Store, Order, store, flush, barrier, barred, BAR}
use Rattle.cut_laws.specs.Growing.{due, added, open_after, closing}
use Rattle.cut_laws.specs.Inside.{StoresInside}
use Rattle.orders.specs.declared.Dock.{Dock}
use Rattle.orders.specs.declared.Dock.TheVariants.{Ordered, Unordered}
use Rattle.orders.specs.declared.Pen.{Pen}
use Rattle.orders.specs.declared.Writer.{Writer}

pub record Desk : Type 0 where
  pub table : Words
  pub list : Words
  pub pen : Pen

abbrev pub desk : Words → Words → Pen → Desk
desk t l p = record { table = t; list = l; pen = p }

-- the desk that a writer has, and a writer whose desk becomes d: over the same table and list
abbrev pub of : Writer → Desk
of w = desk w.table.now w.list.now w.pen

pub record Becomes (w : Writer) (d : Desk) (v : Writer) : Type 0 where
  pub is : of v ≡ d
  pub same_table : v.table.ghost_name ≡ w.table.ghost_name
  pub same_list : v.list.ghost_name ≡ w.list.ghost_name

-- the dock with a number, and the number of a dock
abbrev pub dock_of : ℕ → Dock
dock_of zero = Ordered
dock_of (suc n) = Unordered

abbrev pub dock_number : Dock → ℕ
dock_number Ordered = 0
dock_number Unordered = 1

abbrev pub dock_at : Desk → ℕ
dock_at d = dock_number d.pen.dock

-- the pen before the first store, and the desk
abbrev pub first_pen : (dock : ℕ) → Pen
first_pen dock = record { dock = dock_of dock; at = 0; line = None; counts = record { stores = 0; flushes = 0; barriers = 0 } }

abbrev pub start : Words → Words → (dock : ℕ) → Desk
start t l dock = desk t l (first_pen dock)

-- the line that is open
abbrev pub open_of : Line ℕ → Option ℕ
open_of None = none
open_of (Some l) = some l

abbrev pub open_at : Desk → Option ℕ
open_at d = open_of d.pen.line

-- ---- one order more: its two words after those that are filled, and its count; a store is made too

abbrev pub filled : Words → ℕ → ℕ → ℕ → Words
filled l a x y = set (set l a x) (a + 1) y

abbrev pub listed : (x y : ℕ) → Desk → Desk
listed x y d = let p = d.pen in desk d.table (filled d.list p.at x y) (record { dock = p.dock; at = p.at + 2; line = p.line; counts = p.counts })

unfoldable pub noted : Order → Desk → Desk
noted (store s) d =
    let e = listed s.word s.value d in
    let p = e.pen in
    let n = p.counts in
    desk (set e.table s.word s.value) e.list
    (record { dock = p.dock; at = p.at; line = Some (line s.word); counts = record { stores = n.stores + 1; flushes = n.flushes; barriers = n.barriers } })
noted (flush l) d =
    let e = listed MARK l d in
    let p = e.pen in
    let n = p.counts in
    desk e.table e.list
    (record { dock = p.dock; at = p.at; line = None; counts = record { stores = n.stores; flushes = n.flushes + 1; barriers = n.barriers } })
noted barrier d =
    let e = listed BAR 0 d in
    let p = e.pen in
    let n = p.counts in
    desk e.table e.list
    (record { dock = p.dock; at = p.at; line = p.line; counts = record { stores = n.stores; flushes = n.flushes; barriers = n.barriers + 1 } })

unfoldable pub noted_all : List Order → Desk → Desk
noted_all [] d = d
noted_all (o ∷ os) d = noted_all os (noted o d)

-- ---- stores: each after the flush that is due, and as the dock needs it; the flush at the end

unfoldable pub stored : Store → Desk → Desk
stored s d = noted_all (due (open_at d) s ++ barred (dock_at d) (store s ∷ [])) d

unfoldable pub stored_all : List Store → Desk → Desk
stored_all [] d = d
stored_all (s ∷ ss) d = stored_all ss (stored s d)

-- a writer after these stores
abbrev pub Makes : List Store → Writer → Writer → Type 0
Makes ss w v = Becomes w (stored_all ss (of w)) v

unfoldable pub finished : Desk → Desk
finished d = noted_all (closing (open_at d)) d

-- ready for a store to a line: another line that is open is flushed
abbrev pub is_open : ℕ → Line ℕ → Bool
is_open l None = false
is_open l (Some m) = eqb m l

unfoldable pub turned : ℕ → Desk → Desk
turned l d = cond (is_open l d.pen.line) d (finished d)

-- after a store: with the barrier that the dock needs
unfoldable pub ruled : Desk → Desk
ruled d = cond (eqb (dock_at d) 0) d (noted barrier d)

-- ---- room: what stores, and the flush at the end, need of a desk

-- the orders that the stores add, closed, as the dock needs them
abbrev pub closed : (dock : ℕ) → Option ℕ → List Store → List Order
closed dock o ss = barred dock (added o ss ++ closing (open_after o ss))

pub record Room (ss : List Store) (d : Desk) : Type 0 where
  pub inside : StoresInside (length d.table) ss
  pub space : d.pen.at + 2 * length (closed (dock_at d) (open_at d) ss) ≤ length d.list
  pub counts : d.pen.counts.stores + d.pen.counts.flushes + d.pen.counts.barriers ≤ d.pen.at

-- room for the barrier
pub record Ruling (d : Desk) : Type 0 where
  pub space : (d.pen.dock ≡ Ordered → ⊥) → d.pen.at + 2 ≤ length d.list
  pub counts : d.pen.counts.stores + d.pen.counts.flushes + d.pen.counts.barriers ≤ d.pen.at
