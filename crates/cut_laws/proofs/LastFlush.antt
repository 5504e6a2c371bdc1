-- The last flush of a line and the later stores to it, in two lists of orders in a row; both together give what the orders leave.
use Rattle.std.proofs.Common.{◌≡◌, ℕ, Bool, true, false, cond, ◌||◌, eqb, ◌≢◌, List, [], ◌∷◌, ◌++◌, set, sym, refl, ap, ◌∙◌, append-nil}
use Rattle.std.proofs.Common.{arith, length-set, eq-eqb, ne_eqb}
use mathlib.Core.Bool.{or-false, or_assoc}
use native.Mathlib.Decide.{ℕ_discrete}
use borrow.Author.Tests.{eqb-false}
use Rattle.list_laws.proofs.Tools.{or-right, or-false-iff}
use Rattle.model.specs.Table.{Words, at, line}
use Rattle.model.specs.Orders.{Store, Order, store, flush, barrier, apply, carry, flush_count}
use Rattle.model.specs.Cuts.{flushed, up_to_flush, since_flush, line_stores, later_stores}
use Rattle.cut_laws.proofs.Applying.{apply-agree, set-elsewhere, carry-append}

-- ---- the stores to a line

pub line-stores-append : (l : ℕ) (a b : List Order) → line_stores l (a ++ b) ≡ line_stores l a ++ line_stores l b
unfolding line_stores
line-stores-append l [] b = refl
line-stores-append l (store s ∷ a) b = go (eqb (line s.word) l) (line-stores-append l a b)
  where
    go : (q : Bool) → line_stores l (a ++ b) ≡ line_stores l a ++ line_stores l b
        → cond q (s ∷ line_stores l (a ++ b)) (line_stores l (a ++ b)) ≡ cond q (s ∷ line_stores l a) (line_stores l a) ++ line_stores l b
    go true ih = ap (λ q. s ∷ q) ih
    go false ih = ih
line-stores-append l (flush k ∷ a) b = line-stores-append l a b
line-stores-append l (barrier ∷ a) b = line-stores-append l a b

-- With them a line is as the orders leave it.
line-stores-current : (os : List Order) (t : Words) (w : ℕ) → at (apply (line_stores (line w) os) t) w ≡ at (carry os t) w
unfolding carry apply line_stores
line-stores-current [] t w = refl
line-stores-current (flush k ∷ os) t w = line-stores-current os t w
line-stores-current (barrier ∷ os) t w = line-stores-current os t w
line-stores-current (store s ∷ os) t w = go (eqb (line s.word) (line w)) refl (line-stores-current os (set t s.word s.value) w)
  where
    go : (q : Bool) → eqb (line s.word) (line w) ≡ q → at (apply (line_stores (line w) os) (set t s.word s.value)) w
        ≡ at (carry os (set t s.word s.value)) w
        → at (apply (cond q (s ∷ line_stores (line w) os) (line_stores (line w) os)) t) w ≡ at (carry os (set t s.word s.value)) w
    go true e ih = ih
    go false e ih =
        apply-agree (line_stores (line w) os) t (set t s.word s.value) w (sym (length-set t _ _))
        (sym (set-elsewhere t s w (eqb-false _ _ e))) ∙ ih

-- ---- the last flush of a line

pub flushed-append : (l : ℕ) (a b : List Order) → flushed l (a ++ b) ≡ flushed l a || flushed l b
unfolding flushed
flushed-append l [] b = refl
flushed-append l (store s ∷ a) b = flushed-append l a b
flushed-append l (barrier ∷ a) b = flushed-append l a b
flushed-append l (flush k ∷ a) b =
    ap (λ (x : Bool). eqb k l || x) (flushed-append l a b) ∙ sym (or_assoc (eqb k l) (flushed l a) (flushed l b))

-- orders that flush nothing
pub no-flush : (l : ℕ) (os : List Order) → flush_count os ≡ 0 → flushed l os ≡ false
unfolding flushed flush_count
no-flush l [] e = refl
no-flush l (store s ∷ os) e = no-flush l os e
no-flush l (barrier ∷ os) e = no-flush l os e
no-flush l (flush k ∷ os) e = absurd (omega arith)

-- with no flush of line l, no order comes up to its last flush
pub up_to_flush-nil : (l : ℕ) (os : List Order) → flushed l os ≡ false → up_to_flush l os ≡ []
unfolding up_to_flush
up_to_flush-nil l [] e = refl
up_to_flush-nil l (o ∷ os) e = rw e

pub since-all : (l : ℕ) (os : List Order) → flushed l os ≡ false → since_flush l os ≡ os
unfolding since_flush
since-all l [] e = refl
since-all l (o ∷ os) e = rw e

-- the orders are those up to it and those since
up-to-since : (l : ℕ) (os : List Order) → up_to_flush l os ++ since_flush l os ≡ os
unfolding up_to_flush since_flush
up-to-since l [] = refl
up-to-since l (o ∷ os) = go (flushed l (o ∷ os)) (up-to-since l os)
  where
    go : (b : Bool) → up_to_flush l os ++ since_flush l os ≡ os → cond b (o ∷ up_to_flush l os) []
        ++ cond b (since_flush l os) (o ∷ os) ≡ o ∷ os
    go true ih = ap (λ q. o ∷ q) ih
    go false ih = refl

-- b flushes l
module _ (l : ℕ) (b : List Order) (e : flushed l b ≡ true) where
  flushed-after : (a : List Order) → flushed l (a ++ b) ≡ true
  flushed-after a = flushed-append l a b ∙ or-right (flushed l a) (flushed l b) e

  -- if b flushes line l, the orders up to the last flush are all of a and those of b up to it
  pub up_to_flush-after : (a : List Order) → up_to_flush l (a ++ b) ≡ a ++ up_to_flush l b
  unfolding up_to_flush
  up_to_flush-after [] = refl
  up_to_flush-after (o ∷ a) = rw (flushed-after (o ∷ a), up_to_flush) (ap (λ q. o ∷ q) (up_to_flush-after a))

  since-after : (a : List Order) → since_flush l (a ++ b) ≡ since_flush l b
  unfolding since_flush
  since-after [] = refl
  since-after (o ∷ a) = rw (flushed-after (o ∷ a)) (since-after a)

  -- if b flushes line l, the stores to l after its last flush are those in b
  pub later_stores-after : (a : List Order) → later_stores l (a ++ b) ≡ later_stores l b
  later_stores-after a = ap (line_stores l) (since-after a)

-- b does not
module _ (l : ℕ) (b : List Order) (e : flushed l b ≡ false) where
  flushed-before : (a : List Order) → flushed l (a ++ b) ≡ flushed l a
  flushed-before a = rw (flushed-append l a b, e) (or-false (flushed l a))

  -- if b does not flush line l, the orders up to the last flush are those in a
  pub up_to_flush-before : (a : List Order) → up_to_flush l (a ++ b) ≡ up_to_flush l a
  unfolding up_to_flush
  up_to_flush-before [] = up_to_flush-nil l b e
  up_to_flush-before (o ∷ a) = rw (flushed-before (o ∷ a), up_to_flush-before a)

  since-before : (a : List Order) → since_flush l (a ++ b) ≡ since_flush l a ++ b
  unfolding since_flush
  since-before [] = since-all l b e
  since-before (o ∷ a) = rw (flushed-before (o ∷ a)) (go (flushed l (o ∷ a)) (since-before a))
    where
      go : (q : Bool) → since_flush l (a ++ b) ≡ since_flush l a ++ b → cond q (since_flush l (a ++ b)) (o ∷ (a ++ b))
          ≡ cond q (since_flush l a) (o ∷ a) ++ b
      go true ih = ih
      go false ih = refl

  -- if b does not flush line l, the stores after its last flush are those in a, then all in b to it
  pub later_stores-before : (a : List Order) → later_stores l (a ++ b) ≡ later_stores l a ++ later_stores l b
  later_stores-before a = rw (since-before a, since-all l b e) (line-stores-append l (since_flush l a) b)

-- ---- one flush; one store in front, or at the end

pub flush-front : (l k : ℕ) (os : List Order) → later_stores l (flush k ∷ os) ≡ later_stores l os
unfolding since_flush line_stores flushed
flush-front l k os = go (eqb k l || flushed l os) refl
  where
    go : (b : Bool) → eqb k l || flushed l os ≡ b → line_stores l (cond b (since_flush l os) (flush k ∷ os))
        ≡ line_stores l (since_flush l os)
    go true e = refl
    go false e = ap (line_stores l) (sym (since-all l os ((or-false-iff (eqb k l) (flushed l os)).0 e).1))

-- a lone flush has no later stores to any line
pub flush-alone : (l k : ℕ) → later_stores l (flush k ∷ []) ≡ []
unfolding since_flush line_stores
flush-alone l k = flush-front l k []

other-one : (s : Store) (os : List Order) (l : ℕ) → line s.word ≢ l → line_stores l (store s ∷ os) ≡ line_stores l os
unfolding line_stores
other-one s os l k = rw (ne_eqb (line s.word) l k)

pub other-front : (s : Store) (os : List Order) (l : ℕ) → line s.word ≢ l → later_stores l (store s ∷ os) ≡ later_stores l os
unfolding since_flush flushed
other-front s os l k = go (flushed l os) refl
  where
    go : (b : Bool) → flushed l os ≡ b → line_stores l (cond b (since_flush l os) (store s ∷ os)) ≡ line_stores l (since_flush l os)
    go true e = refl
    go false e = rw (since-all l os e) (other-one s os l k)

-- a store to a line that is flushed after it is no later store
pub flushed-front : (s : Store) (os : List Order) (l : ℕ) → flushed (line s.word) os ≡ true
    → later_stores l (store s ∷ os) ≡ later_stores l os
unfolding since_flush flushed
flushed-front s os l f = go (ℕ_discrete (line s.word) l)
  where
    go : Dec (line s.word ≡ l) → later_stores l (store s ∷ os) ≡ later_stores l os
    go (yes e) = rw (rw e at f)
    go (no k) = other-front s os l k

-- a store at the end is the last of the later stores to its own line
pub same-end : (os : List Order) (s : Store) → later_stores (line s.word) (os ++ (store s ∷ [])) ≡ later_stores (line s.word) os ++ (s ∷ [])
unfolding flushed since_flush line_stores
same-end os s = rw (later_stores-before (line s.word) (store s ∷ []) refl os, eq-eqb (line s.word) (line s.word) refl)

-- a store at the end adds no later store to another line
pub other-end : (os : List Order) (s : Store) (l : ℕ) → l ≢ line s.word → later_stores l (os ++ (store s ∷ [])) ≡ later_stores l os
unfolding flushed since_flush line_stores
other-end os s l k = rw (later_stores-before l (store s ∷ []) refl os, ne_eqb (line s.word) l (λ q. k (sym q)), append-nil)

-- ---- with all its later stores a line is as the orders leave it

-- a word has its present value once the orders to its line's last flush and the line's later stores are done
pub line-current : (os : List Order) (t : Words) (w : ℕ)
    → at (apply (later_stores (line w) os) (carry (up_to_flush (line w) os) t)) w ≡ at (carry os t) w
line-current os t w =
    line-stores-current (since_flush (line w) os) (carry (up_to_flush (line w) os) t) w
    ∙ ap (λ (u : Words). at u w)
    (sym (carry-append (up_to_flush (line w) os) (since_flush (line w) os) t)
    ∙ ap (λ (q : List Order). carry q t) (up-to-since (line w) os))
