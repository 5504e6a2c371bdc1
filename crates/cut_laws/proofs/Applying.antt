-- Applying stores and carrying orders out: lengths, lists in a row, agreement word by word; flushes and barriers change no word.
use Rattle.std.proofs.Common.{◌≡◌, ℕ, zero, suc, ◌+◌, ◌≤◌, ◌≢◌, List, [], ◌∷◌, ◌++◌, length, take, set, sym, refl, ap, ◌∙◌, arith}
use Rattle.std.proofs.Common.{length-set, get_or-set_other}
use Rattle.model.specs.Table.{Words, at, line}
use Rattle.model.specs.Orders.{Store, Order, store, flush, barrier, apply, carry, store_count, flush_count, barrier_count}
use Rattle.cut_laws.specs.Unflushed.{stores_in}
pub use Rattle.list_laws.proofs.Lists.{take-append}

-- ---- stores

-- stores keep the length of a table
pub length-apply : (ss : List Store) (t : Words) → length (apply ss t) ≡ length t
unfolding apply
length-apply [] t = refl
length-apply (s ∷ ss) t = length-apply ss _ ∙ length-set t s.word s.value

-- no stores change nothing
pub apply-nil : (t : Words) → apply [] t ≡ t
unfolding apply
apply-nil t = refl

-- applying joined lists of stores is applying the one, then the other
pub apply-append : (a b : List Store) (t : Words) → apply (a ++ b) t ≡ apply b (apply a t)
unfolding apply
apply-append [] b t = refl
apply-append (s ∷ a) b t = apply-append a b _

-- What holds after each first part of a, and from there after each first part of b, holds after each first part of both.
pub always-append : (P : Words → Type 0) (a b : List Store) (t : Words) → ((i : ℕ) → P (apply (take i a) t))
    → ((i : ℕ) → P (apply (take i b) (apply a t))) → (i : ℕ) → P (apply (take i (a ++ b)) t)
unfolding apply
always-append P [] b t f g i = g i
always-append P (s ∷ a) b t f g zero = f 0
always-append P (s ∷ a) b t f g (suc i) = always-append P a b _ (λ k. f (suc k)) g i

-- ---- orders

-- orders keep the length of a table
pub length-carry : (os : List Order) (t : Words) → length (carry os t) ≡ length t
unfolding carry
length-carry [] t = refl
length-carry (store s ∷ os) t = length-carry os _ ∙ length-set t s.word s.value
length-carry (flush l ∷ os) t = length-carry os t
length-carry (barrier ∷ os) t = length-carry os t

-- no orders change nothing
pub carry-nil : (t : Words) → carry [] t ≡ t
unfolding carry
carry-nil t = refl

-- carrying out joined lists of orders is carrying out the one, then the other
pub carry-append : (a b : List Order) (t : Words) → carry (a ++ b) t ≡ carry b (carry a t)
unfolding carry
carry-append [] b t = refl
carry-append (store s ∷ a) b t = carry-append a b _
carry-append (flush l ∷ a) b t = carry-append a b t
carry-append (barrier ∷ a) b t = carry-append a b t

-- only the stores among the orders matter
pub carry-stores : (os : List Order) (t : Words) → carry os t ≡ apply (stores_in os) t
unfolding carry apply stores_in
carry-stores [] t = refl
carry-stores (store s ∷ os) t = carry-stores os _
carry-stores (flush l ∷ os) t = carry-stores os t
carry-stores (barrier ∷ os) t = carry-stores os t

pub stores_in-append : (a b : List Order) → stores_in (a ++ b) ≡ stores_in a ++ stores_in b
unfolding stores_in
stores_in-append [] b = refl
stores_in-append (store s ∷ a) b = ap (λ l. s ∷ l) (stores_in-append a b)
stores_in-append (flush l ∷ a) b = stores_in-append a b
stores_in-append (barrier ∷ a) b = stores_in-append a b

-- the stores among the first c orders are the first stores
pub stores_in-take : (c : ℕ) (os : List Order) → stores_in (take c os) ≡ take (store_count (take c os)) (stores_in os)
unfolding stores_in store_count
stores_in-take zero os = refl
stores_in-take (suc c) [] = refl
stores_in-take (suc c) (store s ∷ os) = ap (λ l. s ∷ l) (stores_in-take c os)
stores_in-take (suc c) (flush l ∷ os) = stores_in-take c os
stores_in-take (suc c) (barrier ∷ os) = stores_in-take c os

-- ---- counts

pub store_count-stores : (os : List Order) → store_count os ≡ length (stores_in os)
unfolding stores_in store_count
store_count-stores [] = refl
store_count-stores (store s ∷ os) = ap suc (store_count-stores os)
store_count-stores (flush l ∷ os) = store_count-stores os
store_count-stores (barrier ∷ os) = store_count-stores os

-- the stores of joined lists are counted by the sum
pub store_count-append : (a b : List Order) → store_count (a ++ b) ≡ store_count a + store_count b
unfolding store_count
store_count-append [] b = omega arith
store_count-append (store s ∷ a) b = omega (arith, store_count-append a b)
store_count-append (flush l ∷ a) b = store_count-append a b
store_count-append (barrier ∷ a) b = store_count-append a b

-- the flushes of joined lists are counted by the sum
pub flush_count-append : (a b : List Order) → flush_count (a ++ b) ≡ flush_count a + flush_count b
unfolding flush_count
flush_count-append [] b = omega arith
flush_count-append (store s ∷ a) b = flush_count-append a b
flush_count-append (flush l ∷ a) b = omega (arith, flush_count-append a b)
flush_count-append (barrier ∷ a) b = flush_count-append a b

-- the barriers of joined lists are counted by the sum
pub barrier_count-append : (a b : List Order) → barrier_count (a ++ b) ≡ barrier_count a + barrier_count b
unfolding barrier_count
barrier_count-append [] b = omega arith
barrier_count-append (store s ∷ a) b = barrier_count-append a b
barrier_count-append (flush l ∷ a) b = barrier_count-append a b
barrier_count-append (barrier ∷ a) b = omega (arith, barrier_count-append a b)

-- each order is a store, a flush or a barrier
pub counts-length : (os : List Order) → store_count os + flush_count os + barrier_count os ≡ length os
unfolding store_count flush_count barrier_count
counts-length [] = refl
counts-length (store s ∷ os) = omega (arith, counts-length os)
counts-length (flush l ∷ os) = omega (arith, counts-length os)
counts-length (barrier ∷ os) = omega (arith, counts-length os)

-- more orders, at least as many stores
pub store_count-take-le : (i j : ℕ) (os : List Order) → i ≤ j → store_count (take i os) ≤ store_count (take j os)
unfolding store_count
store_count-take-le zero j os h = omega arith
store_count-take-le (suc i) zero os h = absurd (omega arith)
store_count-take-le (suc i) (suc j) [] h = omega arith
store_count-take-le (suc i) (suc j) (store s ∷ os) h = omega (arith, store_count-take-le i j os (omega arith))
store_count-take-le (suc i) (suc j) (flush l ∷ os) h = store_count-take-le i j os (omega arith)
store_count-take-le (suc i) (suc j) (barrier ∷ os) h = store_count-take-le i j os (omega arith)

-- ---- word by word

-- a store writes the same into two tables that agree at a word
set-agree : (t u : Words) (a x w : ℕ) → length t ≡ length u → at t w ≡ at u w → at (set t a x) w ≡ at (set u a x) w
set-agree [] [] a x w l e = refl
set-agree [] (z ∷ u) a x w l e = absurd (omega arith)
set-agree (y ∷ t) [] a x w l e = absurd (omega arith)
set-agree (y ∷ t) (z ∷ u) zero x zero l e = refl
set-agree (y ∷ t) (z ∷ u) zero x (suc w) l e = e
set-agree (y ∷ t) (z ∷ u) (suc a) x zero l e = e
set-agree (y ∷ t) (z ∷ u) (suc a) x (suc w) l e = set-agree t u a x w (omega arith) e

-- tables of one length that agree in word w still agree in it after the same stores
pub apply-agree : (ss : List Store) (t u : Words) (w : ℕ) → length t ≡ length u → at t w ≡ at u w → at (apply ss t) w ≡ at (apply ss u) w
unfolding apply
apply-agree [] t u w l e = e
apply-agree (s ∷ ss) t u w l e = apply-agree ss _ _ w (simp length-set l) (set-agree t u s.word s.value w l e)

-- a store to another line leaves a word
pub set-elsewhere : (t : Words) (s : Store) (w : ℕ) → line s.word ≢ line w → at (set t s.word s.value) w ≡ at t w
set-elsewhere t s w k = get_or-set_other t s.word w s.value 0 (λ q. k (ap line (sym q)))
