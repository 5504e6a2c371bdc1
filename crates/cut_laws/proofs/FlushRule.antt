-- The flush rule one store at a time, and the counts of an order list.
use Rattle.std.proofs.Common.{◌≡◌, ℕ, suc, ◌+◌, ◌-◌, ◌≤◌, Bool, true, false, cond, eqb, ◌≢◌, List, [], ◌∷◌, ◌++◌, length, sym, refl, ap}
use Rattle.std.proofs.Common.{◌∙◌, append_assoc, append-nil, arith, length-append, eq-eqb, ne_eqb}
use mathlib.Core.Option.{Option, none, some}
use native.Mathlib.Decide.{ℕ_discrete}
use Rattle.list_laws.proofs.Tools.{Each}
use Rattle.model.specs.Table.{Words, line}
use Rattle.model.specs.Orders.{Store, store, flush, apply, carry, orders_after, orders, without_barriers, store_count, flush_count}
use Rattle.model.specs.Orders.{barrier_count}
use Rattle.cut_laws.specs.Growing.{due, added, open_after, closing, open_orders, open_line, changes_from, line_changes}
use Rattle.cut_laws.specs.Unflushed.{stores_in}
use Rattle.cut_laws.proofs.Applying.{carry-stores, stores_in-append, store_count-stores, counts-length}
use Rattle.cut_laws.proofs.Barriers.{without-barrier_count}

-- ---- the rule's two cases

pub after-same : (l : ℕ) (s : Store) (ss : List Store) → line s.word ≡ l → orders_after l (s ∷ ss) ≡ store s ∷ orders_after l ss
unfolding orders_after
after-same l s ss e = rw (eq-eqb (line s.word) l e, orders_after)

pub after-other : (l : ℕ) (s : Store) (ss : List Store) → line s.word ≢ l → orders_after l (s ∷ ss) ≡ flush l ∷ store s
    ∷ orders_after (line s.word) ss
unfolding orders_after
after-other l s ss e = rw (ne_eqb (line s.word) l e, orders_after)

-- ---- the rule has no barriers

after-without : (l : ℕ) (ss : List Store) → without_barriers (orders_after l ss) ≡ orders_after l ss
unfolding orders_after without_barriers
after-without l [] = refl
after-without l (s ∷ ss) = go (ℕ_discrete (line s.word) l) (after-without (line s.word) ss)
  where
    go : Dec (line s.word ≡ l) → without_barriers (orders_after (line s.word) ss) ≡ orders_after (line s.word) ss
        → without_barriers (orders_after l (s ∷ ss)) ≡ orders_after l (s ∷ ss)
    go (yes e) ih = rw (after-same l s ss e) (ap (λ q. store s ∷ q) (rw e at ih))
    go (no k) ih = rw (after-other l s ss k) (ap (λ q. flush l ∷ store s ∷ q) ih)

pub orders-without : (ss : List Store) → without_barriers (orders ss) ≡ orders ss
unfolding orders without_barriers
orders-without [] = refl
orders-without (s ∷ ss) = ap (λ q. store s ∷ q) (after-without (line s.word) ss)

-- the flush rule adds no barriers
pub orders-barrier_count : (ss : List Store) → barrier_count (orders ss) ≡ 0
orders-barrier_count ss = ap barrier_count (sym (orders-without ss)) ∙ without-barrier_count (orders ss)

-- ---- a list that grows

-- joined stores add what the first add, then what the others add with the line open that the first left open
pub added-append : (o : Option ℕ) (a b : List Store) → added o (a ++ b) ≡ added o a ++ added (open_after o a) b
unfolding added open_after
added-append o [] b = refl
added-append o (s ∷ a) b = rw (added-append (some (line s.word)) a b, append_assoc)

-- the line left open by joined stores is the one that the second leave after the first
pub open_after-append : (o : Option ℕ) (a b : List Store) → open_after o (a ++ b) ≡ open_after (open_after o a) b
unfolding open_after
open_after-append o [] b = refl
open_after-append o (s ∷ a) b = open_after-append (some (line s.word)) a b

-- the flush that is due, by cases
pub due-same : (l : ℕ) (s : Store) → line s.word ≡ l → due (some l) s ≡ []
due-same l s e = rw (eq-eqb (line s.word) l e)

pub due-other : (l : ℕ) (s : Store) → line s.word ≢ l → due (some l) s ≡ flush l ∷ []
due-other l s e = rw (ne_eqb (line s.word) l e)

-- what follows a store to line l: what the stores add, and the flush at the end
pub after-added : (l : ℕ) (ss : List Store) → orders_after l ss ≡ added (some l) ss ++ closing (open_after (some l) ss)
unfolding orders_after added open_after
after-added l [] = refl
after-added l (s ∷ ss) = go (ℕ_discrete (line s.word) l) (after-added (line s.word) ss)
  where
    go : Dec (line s.word ≡ l) → orders_after (line s.word) ss ≡ added (some (line s.word)) ss
        ++ closing (open_after (some (line s.word)) ss)
        → orders_after l (s ∷ ss) ≡ (due (some l) s ++ (store s ∷ added (some (line s.word)) ss))
        ++ closing (open_after (some (line s.word)) ss)
    go (yes e) ih = rw (after-same l s ss e, due-same l s e) (ap (λ q. store s ∷ q) (ap (λ (k : ℕ). orders_after k ss) (sym e) ∙ ih))
    go (no k) ih = rw (after-other l s ss k, due-other l s k) (ap (λ q. flush l ∷ store s ∷ q) ih)

-- The orders of a list of stores are those of the growing list, closed.
pub orders-closed : (ss : List Store) → orders ss ≡ open_orders ss ++ closing (open_line ss)
unfolding orders added open_after
orders-closed [] = refl
orders-closed (s ∷ ss) = ap (λ q. store s ∷ q) (after-added (line s.word) ss)

-- ---- the stores among the orders: all, in their order

due-stores : (o : Option ℕ) (s : Store) → stores_in (due o s) ≡ []
unfolding stores_in
due-stores none s = refl
due-stores (some l) s = elim (eqb (line s.word) l) as (λ b. stores_in (cond b [] (flush l ∷ [])) ≡ []) [ true ↦ refl | false ↦ refl ]

closing-stores : (o : Option ℕ) → stores_in (closing o) ≡ []
unfolding stores_in
closing-stores none = refl
closing-stores (some l) = refl

-- the stores among the orders added for ss are ss
pub added-stores : (o : Option ℕ) (ss : List Store) → stores_in (added o ss) ≡ ss
unfolding added stores_in
added-stores o [] = refl
added-stores o (s ∷ ss) = stores_in-append (due o s) _ ∙ rw (due-stores o s) (ap (λ q. s ∷ q) (added-stores (some (line s.word)) ss))

-- the stores among the orders of ss are ss
pub orders-stores : (ss : List Store) → stores_in (orders ss) ≡ ss
orders-stores ss = rw (orders-closed ss, stores_in-append, added-stores, closing-stores, append-nil)

-- Carrying the orders out applies the stores: all, and of the first c orders the stores among these.
pub orders-apply : (ss : List Store) (t : Words) → carry (orders ss) t ≡ apply ss t
orders-apply ss t = rw (carry-stores (orders ss) t, orders-stores ss)

-- ---- counts

pub orders-store_count : (ss : List Store) → store_count (orders ss) ≡ length ss
orders-store_count ss = store_count-stores (orders ss) ∙ ap length (orders-stores ss)

-- the orders of ss are its stores and their flushes
pub orders-length : (ss : List Store) → length (orders ss) ≡ length ss + flush_count (orders ss)
orders-length ss = omega (arith, counts-length (orders ss), orders-store_count ss, orders-barrier_count ss)

after-flush_count : (l : ℕ) (ss : List Store) → flush_count (orders_after l ss) ≡ suc (changes_from l ss)
unfolding orders_after flush_count changes_from
after-flush_count l [] = refl
after-flush_count l (s ∷ ss) = go (ℕ_discrete (line s.word) l) (after-flush_count (line s.word) ss)
  where
    go : Dec (line s.word ≡ l) → flush_count (orders_after (line s.word) ss) ≡ suc (changes_from (line s.word) ss)
        → flush_count (orders_after l (s ∷ ss)) ≡ suc (changes_from l (s ∷ ss))
    go (yes e) ih = rw (after-same l s ss e, eq-eqb (line s.word) l e)
        (ap (λ (k : ℕ). flush_count (orders_after k ss)) (sym e) ∙ omega arith)
    go (no k) ih = rw (after-other l s ss k, ne_eqb (line s.word) l k) (omega arith)

-- and one more at its end
pub orders-flush_count : (s : Store) (ss : List Store) → flush_count (orders (s ∷ ss)) ≡ suc (line_changes (s ∷ ss))
unfolding orders flush_count line_changes
orders-flush_count s ss = after-flush_count (line s.word) ss

-- ---- bounds

change-le : (b : Bool) → cond b 0 1 ≤ 1
change-le true = omega arith
change-le false = omega arith

-- stores that follow change line at most once more than by themselves
changes-orders : (l : ℕ) (ss : List Store) → changes_from l ss ≤ flush_count (orders ss)
unfolding changes_from orders flush_count
changes-orders l [] = omega arith
changes-orders l (s ∷ ss) = omega (arith, change-le (eqb (line s.word) l), after-flush_count (line s.word) ss)

changes-append : (l : ℕ) (a b : List Store) → changes_from l (a ++ b) ≤ changes_from l a + flush_count (orders b)
unfolding changes_from
changes-append l [] b = omega (arith, changes-orders l b)
changes-append l (s ∷ a) b = omega (arith, changes-append (line s.word) a b)

pub flush_count-orders-append : (a b : List Store) → flush_count (orders (a ++ b)) ≤ flush_count (orders a) + flush_count (orders b)
unfolding orders flush_count
flush_count-orders-append [] b = omega arith
flush_count-orders-append (s ∷ a) b =
    omega (arith, after-flush_count (line s.word) (a ++ b), after-flush_count (line s.word) a, changes-append (line s.word) a b)

-- Bounds add over the parts of a write.
pub length-orders-append : (a b : List Store) → length (orders (a ++ b)) ≤ length (orders a) + length (orders b)
length-orders-append a b =
    omega (arith, orders-length (a ++ b), orders-length a, orders-length b, length-append a b, flush_count-orders-append a b)

-- lines that never fall, or never rise, from one store to the next, l before the first
abbrev pub Rising : ℕ → List Store → Type 0
Rising l [] = Unit {0}
Rising l (s ∷ ss) = (l ≤ line s.word) × Rising (line s.word) ss

-- no store goes to a line above that of the store before it; l stands before the first
abbrev pub Falling : ℕ → List Store → Type 0
Falling l [] = Unit {0}
Falling l (s ∷ ss) = (line s.word ≤ l) × Falling (line s.word) ss

change-apart : (k l : ℕ) → cond (eqb k l) 0 1 ≤ (k - l) + (l - k)
change-apart k l = elim (ℕ_discrete k l) [ yes e ↦ rw (eq-eqb k l e) (omega arith) | no n ↦ rw (ne_eqb k l n) (omega arith) ]

-- Between lines l and h such stores change line at most as often as these are apart.
pub rising-changes :
    (l h : ℕ) (ss : List Store) → l ≤ h → Rising l ss → Each (λ (s : Store). line s.word ≤ h) ss → l + changes_from l ss ≤ h
unfolding changes_from
rising-changes l h [] a r e = omega arith
rising-changes l h (s ∷ ss) a r e = omega (arith, change-apart (line s.word) l, r.0, rising-changes (line s.word) h ss e.0 r.1 e.1)

-- stores whose lines fall from l, and not below h, go to another line at most l - h times
pub falling-changes :
    (l h : ℕ) (ss : List Store) → h ≤ l → Falling l ss → Each (λ (s : Store). h ≤ line s.word) ss → h + changes_from l ss ≤ l
unfolding changes_from
falling-changes l h [] a r e = omega arith
falling-changes l h (s ∷ ss) a r e = omega (arith, change-apart (line s.word) l, r.0, falling-changes (line s.word) h ss e.0 r.1 e.1)
