-- The flush that is due and the flush at the end, as the code makes them; and what room says of the place where it writes.
use Rattle.std.proofs.Common.{◌≡◌, ℕ, ◌+◌, ◌<◌, ◌≤◌, Bool, true, false, cond, eqb, [], ◌∷◌, ◌++◌, length, set, sym, refl, ap, ◌∙◌, arith}
use Rattle.std.proofs.Common.{length-append, length-set, eq-eqb, ne_eqb}
use mathlib.Core.Option.{Option, some}
use Rattle.std.specs.Prelude.{Option as Line, Some, None}
use Rattle.list_laws.proofs.Tools.{eqb-sym}
use Rattle.model.specs.Table.{MARK, line}
use Rattle.model.specs.Orders.{BAR, Store, put, store, flush, barrier, with_barriers, barred}
use Rattle.cut_laws.specs.Growing.{due, added, open_after, closing}
use Rattle.cut_laws.proofs.Barriers.{barred-append}
use Rattle.orders.specs.declared.Writer.{Writer}
use Rattle.orders.specs.declared.Dock.{Dock}
use Rattle.orders.specs.declared.Dock.TheVariants.{Ordered, Unordered}
use Rattle.orders.specs.Desk.{Desk, desk, of, listed, Becomes, dock_number, dock_at, open_of, open_at, is_open, noted, noted_all, stored}
use Rattle.orders.specs.Desk.{turned, finished, ruled, closed, Room, Ruling}
use Rattle.orders.proofs.Steps.{noted_all-append, noted-at, noted-list-length, noted-table-length, noted-counts, noted-dock, due-barred}
use Rattle.orders.proofs.Steps.{closing-barred}
use Rattle.orders.proofs.Rooms.{room-first}

-- ---- finishing

pub stays : {w : Writer} {d : Desk} → of w ≡ d → Becomes w d w
stays e = record { is = e; same_table = refl; same_list = refl }

pub becomes-as : {w v : Writer} {d e : Desk} → e ≡ d → Becomes w d v → Becomes w e v
becomes-as q h = record { is = h.is ∙ sym q; same_table = h.same_table; same_list = h.same_list }

pub finish-none : (d : Desk) (o : Line ℕ) → d.pen.line ≡ None → o ≡ None
    → desk d.table d.list (record { dock = d.pen.dock; at = d.pen.at; line = o; counts = d.pen.counts }) ≡ finished d
unfolding finished noted_all
finish-none d o e z =
    let same : d ≡ finished d = rw e in
    ap (λ (l : Line ℕ). desk d.table d.list (record { dock = d.pen.dock; at = d.pen.at; line = l; counts = d.pen.counts })) (z ∙ sym e)
    ∙ same

pub finish-open : (d : Desk) (l : ℕ) (o : Line ℕ) → Some l ≡ d.pen.line → o ≡ None → {u : Desk}
    → u ≡ listed MARK l (desk d.table d.list (record { dock = d.pen.dock; at = d.pen.at; line = o; counts = d.pen.counts }))
    → (let n = u.pen.counts in
    desk u.table u.list
    (record {
      dock = u.pen.dock;
      at = u.pen.at;
      line = u.pen.line;
      counts = record { stores = n.stores; flushes = n.flushes + 1; barriers = n.barriers };
    }))
    ≡ finished d
unfolding finished noted_all noted
finish-open d l o e z q = rw (q, z, ← e)

pub room-open : (d : Desk) (l : ℕ) → Room [] d → Some l ≡ d.pen.line → d.pen.at + 2 ≤ length d.list
unfolding added open_after
room-open d l r e =
    let q : length (closed (dock_at d) (open_of d.pen.line) []) ≡ 1 =
    ap length (closing-barred (dock_at d) (open_of d.pen.line)) ∙ rw (← e) in
    omega arith

-- ---- turning to the line of a store

pub turn-same : (d : Desk) (n : ℕ) → d.pen.line ≡ Some n → d ≡ turned n d
unfolding turned
turn-same d n e = rw (e, eq-eqb n n refl)

pub turn-other : (d : Desk) (n : ℕ) → (d.pen.line ≡ Some n → ⊥) → turned n d ≡ finished d
unfolding turned finished noted_all
turn-other d n h = go d.pen.line refl
  where
    go : (o : Line ℕ) → d.pen.line ≡ o → cond (is_open n d.pen.line) d (noted_all (closing (open_at d)) d)
        ≡ noted_all (closing (open_at d)) d
    go None e = rw e
    go (Some m) e = rw (e, ne_eqb m n (λ z. h (e ∙ ap Some z)))

-- what is noted then is what is due
due-turning : (o : Line ℕ) (s : Store) → due (open_of o) s ≡ cond (is_open (line s.word) o) [] (closing (open_of o))
due-turning None s = refl
due-turning (Some l) s = rw (eqb-sym (line s.word) l) refl

turned-due : (s : Store) (d : Desk) → turned (line s.word) d ≡ noted_all (due (open_at d) s) d
unfolding turned finished noted_all
turned-due s d = rw (due-turning d.pen.line s) (go (is_open (line s.word) d.pen.line))
  where
    go : (b : Bool) → cond b d (noted_all (closing (open_at d)) d) ≡ noted_all (cond b [] (closing (open_at d))) d
    go true = refl
    go false = refl

-- ---- the barrier after a store

pub rule-none : (d : Desk) → (d.pen.dock ≡ Unordered → ⊥) → d ≡ ruled d
unfolding ruled
rule-none d h = go d.pen.dock h
  where
    go : (k : Dock) → (k ≡ Unordered → ⊥) → d ≡ cond (eqb (dock_number k) 0) d (noted barrier d)
    go Ordered z = refl
    go Unordered z = absurd (z refl)

pub rule-some : (d : Desk) → d.pen.dock ≡ Unordered → {u : Desk} → u ≡ listed BAR 0 d
    → (let n = u.pen.counts in
    desk u.table u.list
    (record {
      dock = u.pen.dock;
      at = u.pen.at;
      line = u.pen.line;
      counts = record { stores = n.stores; flushes = n.flushes; barriers = n.barriers + 1 };
    }))
    ≡ ruled d
unfolding ruled noted
rule-some d e q = rw (q, e)

-- a store as the dock needs it
store-ruled : (k : Dock) (s : Store) (d : Desk) → d.pen.dock ≡ k → noted_all (barred (dock_number k) (store s ∷ [])) d
    ≡ ruled (noted (store s) d)
unfolding noted_all ruled noted with_barriers
store-ruled Ordered s d e = rw e
store-ruled Unordered s d e = rw e

pub stored-turned : (s : Store) (d : Desk) → ruled (noted (store s) (turned (line s.word) d)) ≡ stored s d
unfolding stored
stored-turned s d =
    let due-noted = noted_all (due (open_at d) s) d in
    ap (λ (e : Desk). ruled (noted (store s) e)) (turned-due s d)
    ∙ sym (store-ruled d.pen.dock s due-noted (noted-dock (due (open_at d) s) d))
    ∙ sym (noted_all-append (due (open_at d) s) (barred (dock_at d) (store s ∷ [])) d)

-- ---- room for one store

-- room at the place where a store is listed, after the flush that is due, and for its barrier
pub record Place (s : Store) (d e : Desk) : Type 0 where
  pub word : s.word < length e.table
  pub space : e.pen.at + 2 ≤ length d.list
  pub barrier-space : (e.pen.dock ≡ Ordered → ⊥) → e.pen.at + 4 ≤ length d.list
  pub keeps : length e.list ≡ length d.list
  pub counts : e.pen.counts.stores + e.pen.counts.flushes + e.pen.counts.barriers ≤ e.pen.at

-- the orders of one store, closed
one-closed : (dock : ℕ) (o : Option ℕ) (s : Store) → length (closed dock o (s ∷ []))
    ≡ length (due o s) + length (barred dock (store s ∷ [])) + 1
unfolding added open_after
one-closed dock o s =
    rw (
      barred-append dock (due o s ++ (store s ∷ [])) (flush (line s.word) ∷ []),
      closing-barred dock (some (line s.word)),
      barred-append dock (due o s) (store s ∷ []),
      due-barred dock o s,
    )
    (simp length-append)

with-barrier : (k : Dock) (s : Store) → (1 ≤ length (barred (dock_number k) (store s ∷ [])))
    × ((k ≡ Ordered → ⊥) → length (barred (dock_number k) (store s ∷ [])) ≡ 2)
unfolding with_barriers
with-barrier Ordered s = (omega arith, λ z. absurd (z refl))
with-barrier Unordered s = (omega arith, λ z. refl)

pub room-place : (s : Store) (d e : Desk) → Room (s ∷ []) d → e ≡ turned (line s.word) d → Place s d e
room-place s d e r q =
    let all = one-closed (dock_at d) (open_at d) s in
    let place = noted-at (due (open_at d) s) d in
    let dock = noted-dock (due (open_at d) s) d in
    let b = with-barrier d.pen.dock s in
    rw (q ∙ turned-due s d)
    (record {
      word = omega (arith, r.inside.0, noted-table-length (due (open_at d) s) d);
      space = omega (arith, r.space, all, place, b.0);
      barrier-space = λ z. omega (arith, r.space, all, place, b.1 (λ y. z (dock ∙ y)));
      keeps = noted-list-length (due (open_at d) s) d;
      counts = omega (arith, r.counts, place, noted-counts (due (open_at d) s) d);
    })

-- room for a store is room for what is due
pub room-due : (s : Store) (d : Desk) → Room (s ∷ []) d → Room [] d
room-due s d r = room-first [] (s ∷ []) d r

-- the store made and listed
pub store-noted : (w x : ℕ) (e : Desk) {u : Desk} → u ≡ listed w x (desk (set e.table w x) e.list e.pen)
    → (let n = u.pen.counts in
    desk u.table u.list
    (record {
      dock = u.pen.dock;
      at = u.pen.at;
      line = Some (line w);
      counts = record { stores = n.stores + 1; flushes = n.flushes; barriers = n.barriers };
    }))
    ≡ noted (store (put w x)) e
unfolding noted
store-noted w x e q = rw q

-- once the store is listed there is room for its barrier
pub rule-room : (s : Store) (d e : Desk) → Place s d e → {f : Desk} → f ≡ noted (store s) e → Ruling f
unfolding noted
rule-room s d e h q =
    rw q (record { space = λ z. simp length-set (omega (arith, h.barrier-space z, h.keeps)); counts = omega (arith, h.counts) })

-- the store made and listed, with its barrier
pub store-done : (s : Store) (d e : Desk) → {f : Desk} → f ≡ noted (store s) e → e ≡ turned (line s.word) d → ruled f ≡ stored s d
store-done s d e q z = ap ruled q ∙ ap (λ (f : Desk). ruled (noted (store s) f)) z ∙ stored-turned s d
