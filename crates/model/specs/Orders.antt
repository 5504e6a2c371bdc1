-- Document 01, "Orders": stores and flushes, their words in a lent list, the flush rule, and carry-out; request 7: barriers.
use Rattle.std.specs.Prelude.{Bool, true, false, cond, ◌&&◌, List, [], ◌∷◌, ◌++◌, ℕ, zero, suc, ◌*◌, ◌/◌, eqb, ltb, leb, length, take, drop, set, Ok}
use Rattle.model.specs.Results.{Outcome, refused_with}
use Rattle.model.specs.Table.{MARK, Words, line, header_ok}

pub record Store : Type 0 where
  pub word : ℕ
  pub value : ℕ

abbrev pub put : ℕ → ℕ → Store
put w x = record { word = w; value = x }

pub data Order : Type 0 where
  store : Store → Order
  flush : ℕ → Order
  barrier : Order

-- ---- carrying orders out on words

unfoldable pub apply : List Store → Words → Words
apply [] t = t
apply (s ∷ ss) t = apply ss (set t s.word s.value)

unfoldable pub carry : List Order → Words → Words
carry [] t = t
carry (store s ∷ os) t = carry os (set t s.word s.value)
carry (flush l ∷ os) t = carry os t
carry (barrier ∷ os) t = carry os t

-- ---- the flush rule: a line is flushed before a store to another line, and at the end

-- what follows a store to line l
unfoldable pub orders_after : ℕ → List Store → List Order
orders_after l [] = flush l ∷ []
orders_after l (s ∷ ss) =
    elim (eqb (line s.word) l) [ true ↦ store s ∷ orders_after l ss | false ↦ flush l ∷ store s ∷ orders_after (line s.word) ss ]

unfoldable pub orders : List Store → List Order
orders [] = []
orders (s ∷ ss) = store s ∷ orders_after (line s.word) ss

-- ---- docks: 0 keeps the stores to one line in order, 1 does not

-- each store is followed by a barrier
unfoldable pub with_barriers : List Order → List Order
with_barriers [] = []
with_barriers (store s ∷ os) = store s ∷ barrier ∷ with_barriers os
with_barriers (flush l ∷ os) = flush l ∷ with_barriers os
with_barriers (barrier ∷ os) = barrier ∷ with_barriers os

-- a list as its dock needs it
abbrev pub barred : (dock : ℕ) → List Order → List Order
barred zero os = os
barred (suc n) os = with_barriers os

-- a list without its barriers
unfoldable pub without_barriers : List Order → List Order
without_barriers [] = []
without_barriers (store s ∷ os) = store s ∷ without_barriers os
without_barriers (flush l ∷ os) = flush l ∷ without_barriers os
without_barriers (barrier ∷ os) = without_barriers os

-- the three counts
unfoldable pub store_count : List Order → ℕ
store_count [] = 0
store_count (store s ∷ os) = suc (store_count os)
store_count (flush l ∷ os) = store_count os
store_count (barrier ∷ os) = store_count os

unfoldable pub flush_count : List Order → ℕ
flush_count [] = 0
flush_count (store s ∷ os) = flush_count os
flush_count (flush l ∷ os) = suc (flush_count os)
flush_count (barrier ∷ os) = flush_count os

unfoldable pub barrier_count : List Order → ℕ
barrier_count [] = 0
barrier_count (store s ∷ os) = barrier_count os
barrier_count (flush l ∷ os) = barrier_count os
barrier_count (barrier ∷ os) = suc (barrier_count os)

-- ---- the lent list, two words an order: a store's word index and value; MARK and a flush's line number; BAR and 0 for a barrier

abbrev pub BAR : ℕ
BAR = 18446744073709551614

unfoldable pub encode : List Order → Words
encode [] = []
encode (store s ∷ os) = s.word ∷ s.value ∷ encode os
encode (flush l ∷ os) = MARK ∷ l ∷ encode os
encode (barrier ∷ os) = BAR ∷ 0 ∷ encode os

abbrev pub order_of : ℕ → ℕ → Order
order_of a b = cond (eqb a MARK) (flush b) (cond (eqb a BAR && eqb b 0) barrier (store (put a b)))

unfoldable pub decode : Words → List Order
decode [] = []
decode (a ∷ []) = []
decode (a ∷ b ∷ ws) = order_of a b ∷ decode ws

-- the lent list with these orders; words after them keep their contents
unfoldable pub list_with : List Order → Words → Words
list_with os lent = encode os ++ drop (2 * length os) lent

-- ---- carry-out: the call that applies the first c orders of a list to a table

-- the order lies in a table of so many words; a barrier lies in each
abbrev pub inside : ℕ → Order → Bool
inside n (store s) = ltb s.word n
inside n (flush l) = ltb l (n / 8)
inside n barrier = true

unfoldable pub all_inside : ℕ → List Order → Bool
all_inside n [] = true
all_inside n (o ∷ os) = inside n o && all_inside n os

-- 2; then 13: c above half the list's length rounded down, or one of the c orders outside the table; else 0
unfoldable pub carry_number : ℕ → Words → Words → ℕ
carry_number c list t =
    cond (header_ok t) (cond (leb c (length list / 2) && all_inside (length t) (take c (decode list))) 0 13) 2

unfoldable pub carry_out : ℕ → Words → Words → Outcome
carry_out c list t = cond (eqb (carry_number c list t) 0) (Ok tt) (refused_with (carry_number c list t))

-- the table that it leaves
unfoldable pub carried_out : ℕ → Words → Words → Words
carried_out c list t = cond (eqb (carry_number c list t) 0) (carry (take c (decode list)) t) t
