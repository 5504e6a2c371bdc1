-- A list's orders, and the words of its stores: as many as the stores, and inside where the list is. What is said by cases on orders is
-- said here.
use Rattle.std.proofs.Common.{◌≡◌, ℕ, zero, suc, ◌*◌, ◌/◌, ◌<◌, ◌≤◌, true, List, [], ◌∷◌, length, take, refl, ap, arith, take_all, ltb-true}
use Rattle.model.specs.Table.{Words}
use Rattle.model.specs.Orders.{Order, store, flush, barrier, without_barriers, store_count, order_of, decode, inside, all_inside}
use Rattle.model.specs.Wear.{stored_to}
use Rattle.list_laws.proofs.Tools.{Each, and-iff, double-suc}

-- an odd last word is no order
pub decode-length : (ws : Words) → length (decode ws) ≡ length ws / 2
unfolding decode
decode-length [] = refl
decode-length (a ∷ []) = refl
decode-length (a ∷ b ∷ ws) = omega (arith, decode-length ws)

-- the first orders of a list are those of its first words
pub decode-take : (n : ℕ) (ws : Words) → decode (take (2 * n) ws) ≡ take n (decode ws)
unfolding decode
decode-take zero ws = refl
decode-take (suc n) [] = rw (double-suc n) refl
decode-take (suc n) (a ∷ []) = rw (double-suc n) refl
decode-take (suc n) (a ∷ b ∷ ws) = rw (double-suc n) (ap (λ (os : List Order). order_of a b ∷ os) (decode-take n ws))

-- all orders of a list are its first so many
pub all-orders : (list : Words) → take (length list / 2) (decode list) ≡ decode list
all-orders list = take_all (length list / 2) (decode list) (omega (arith, decode-length list))

-- as many words are stored to as there are stores
pub stored-count : (os : List Order) → store_count os ≡ length (stored_to os)
unfolding store_count stored_to
stored-count [] = refl
stored-count (store s ∷ os) = ap suc (stored-count os)
stored-count (flush l ∷ os) = stored-count os
stored-count (barrier ∷ os) = stored-count os

-- no more words are stored to than there are orders
pub stored-few : (os : List Order) → length (stored_to os) ≤ length os
unfolding stored_to
stored-few [] = omega arith
stored-few (store s ∷ os) = omega (arith, stored-few os)
stored-few (flush l ∷ os) = omega (arith, stored-few os)
stored-few (barrier ∷ os) = omega (arith, stored-few os)

-- the words that orders inside a table store to are below its length
pub stored-inside : (n : ℕ) (os : List Order) → all_inside n os ≡ true → Each (λ (w : ℕ). w < n) (stored_to os)
unfolding stored_to all_inside
stored-inside n [] e = tt
stored-inside n (store s ∷ os) e = let u =
    (and-iff (inside n (store s)) (all_inside n os)).0 e in (ltb-true s.word n u.0, stored-inside n os u.1)
stored-inside n (flush l ∷ os) e = stored-inside n os ((and-iff (inside n (flush l)) (all_inside n os)).0 e).1
stored-inside n (barrier ∷ os) e = stored-inside n os ((and-iff (inside n barrier) (all_inside n os)).0 e).1

-- a barrier has no word
pub stored-without : (os : List Order) → stored_to (without_barriers os) ≡ stored_to os
unfolding stored_to without_barriers
stored-without [] = refl
stored-without (store s ∷ os) = ap (λ (ws : List ℕ). s.word ∷ ws) (stored-without os)
stored-without (flush l ∷ os) = stored-without os
stored-without (barrier ∷ os) = stored-without os
