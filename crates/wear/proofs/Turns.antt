-- Orders taken one by one: what the next one adds to the words marked and to the lines' numbers.
use Rattle.std.proofs.Common.{◌≡◌, ℕ, ◌+◌, ◌*◌, ◌<◌, Bool, ◌||◌, eqb, List, [], ◌∷◌, ◌++◌, length, sym, refl, ap, ◌∙◌, arith}
use mathlib.Core.Bool.{or-false}
use Rattle.model.specs.Table.{Words, at}
use Rattle.model.specs.Search.{filter}
use Rattle.model.specs.SoundTest.{elem}
use Rattle.model.specs.Orders.{Order, store, flush, barrier, order_of, store_count, decode}
use Rattle.model.specs.declared.ListedOrder.{ListedOrder}
use Rattle.model.specs.declared.ListedOrder.TheVariants.{Store, Flush, Barrier}
use Rattle.model.specs.ListedOrders.{meant}
use Rattle.model.specs.Wear.{stored_to, stores_to}
use Rattle.list_laws.proofs.Tools.{Each}
use Rattle.carry.proofs.Turns.{next-order}
use Rattle.wear_laws.proofs.Lines.{on-line-cons}

-- ---- one order: what it adds to the orders after it

pub elem-order : (w : ℕ) (o : Order) (os : List Order) → elem w (stored_to (o ∷ os)) ≡ elem w (stored_to (o ∷ [])) || elem w (stored_to os)
unfolding stored_to elem
elem-order w (store s) os = ap (λ (x : Bool). x || elem w (stored_to os)) (sym (or-false (eqb w s.word)))
elem-order w (flush l) os = refl
elem-order w barrier os = refl

pub each-order : (P : ℕ → Type 0) (o : Order) (os : List Order) → Each P (stored_to (o ∷ os))
    → Each P (stored_to (o ∷ [])) × Each P (stored_to os)
unfolding stored_to
each-order P (store s) os h = ((h.0, tt), h.1)
each-order P (flush l) os h = (tt, h)
each-order P barrier os h = (tt, h)

pub stores-order : (o : Order) (os : List Order) (l : ℕ) → stores_to (o ∷ os) l ≡ stores_to (o ∷ []) l + stores_to os l
unfolding stored_to stores_to filter
stores-order (store s) os l = on-line-cons s.word (stored_to os) l ∙ omega (arith, on-line-cons s.word [] l)
stores-order (flush k) os l = omega arith
stores-order barrier os l = omega arith

pub count-order : (o : Order) (os : List Order) → store_count (o ∷ os) ≡ store_count (o ∷ []) + store_count os
unfolding store_count
count-order (store s) os = omega arith
count-order (flush k) os = omega arith
count-order barrier os = omega arith

-- a bound by another name
pub below-as : (k m n : ℕ) (ws : List ℕ) → m ≡ n → Each (λ (w : ℕ). w < k * n) ws → Each (λ (w : ℕ). w < k * m) ws
below-as k m n ws e h = rw e h

-- ---- the orders of the words left, of which a turn takes the first two

-- what holds of the words that are stored to holds of the next order's and of those after it
module _ (ws pair after : Words) (e : ws ≡ pair ++ after) (two : length pair ≡ 2) (n : ℕ)
    (b : Each (λ (w : ℕ). w < n) (stored_to (decode ws))) where
  both : Each (λ (w : ℕ). w < n) (stored_to (order_of (at pair 0) (at pair 1) ∷ [])) × Each (λ (w : ℕ). w < n) (stored_to (decode after))
  both = each-order (λ (w : ℕ). w < n) _ _ (rw (next-order ws pair after e two) at b)

  pub below-here : (m : ℕ) → m ≡ n → (o : Order) → o ≡ order_of (at pair 0) (at pair 1) → Each (λ (w : ℕ). w < m) (stored_to (o ∷ []))
  below-here m q o p = rw (q, p) both.0

  pub below-next : Each (λ (w : ℕ). w < n) (stored_to (decode after))
  below-next = both.1

-- ---- what is no store stores to no word

pub nothing-stored : (order : ListedOrder) → ((word value : ℕ) → order ≡ Store word value → ⊥) → stored_to (meant order ∷ []) ≡ []
unfolding stored_to
nothing-stored (Store word value) z = absurd (z word value refl)
nothing-stored (Flush line) z = refl
nothing-stored Barrier z = refl

pub no-stores : (order : ListedOrder) → ((word value : ℕ) → order ≡ Store word value → ⊥) → (0 ≡ store_count (meant order ∷ []))
    × ((l : ℕ) → 0 ≡ stores_to (meant order ∷ []) l)
unfolding store_count stored_to stores_to filter
no-stores (Store word value) z = absurd (z word value refl)
no-stores (Flush line) z = (refl, λ l. refl)
no-stores Barrier z = (refl, λ l. refl)
