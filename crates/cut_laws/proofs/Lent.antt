-- The lent list: its words while orders are added to it, and carry-out of what a write listed.
use Rattle.std.proofs.Common.{◌≡◌, ℕ, zero, suc, ◌+◌, ◌*◌, ◌/◌, ◌<◌, ◌≤◌, true, ◌&&◌, ltb, leb, List, [], ◌∷◌, ◌++◌, length, get_or, take}
use Rattle.std.proofs.Common.{drop, set, refl, ap, ◌∙◌, append_assoc, add-one, arith, length-append, drop-cons, ltb-true, lt-ltb, ne_eqb}
use Rattle.std.proofs.Common.{le-leb}
use native.Mathlib.Decide.{ℕ_discrete}
use lib.Seq.{take-append-le, take-length, set_at, append_snoc}
use Rattle.list_laws.proofs.Tools.{and-iff, decode as facts}
use Rattle.model.specs.Table.{MARK, Words, line, length_ok, nodes_for, table_length, header_ok}
use Rattle.model.specs.Orders.{Store, Order, store, flush, barrier, apply, carry, orders_after, orders, barred, BAR, encode, decode}
use Rattle.model.specs.Orders.{list_with, all_inside, carry_number, carried_out}
use Rattle.cut_laws.specs.Unflushed.{stores_in}
use Rattle.cut_laws.specs.Inside.{StoresInside}
use Rattle.cut_laws.proofs.Barriers.{barred-inside}
use Rattle.cut_laws.proofs.FlushRule.{after-same, after-other}
use Rattle.cut_laws.proofs.Docks.{list-apply}

-- ---- the words

-- orders take two words each
pub length-encode : (os : List Order) → length (encode os) ≡ 2 * length os
unfolding encode
length-encode [] = refl
length-encode (store s ∷ os) = omega (arith, length-encode os)
length-encode (flush l ∷ os) = omega (arith, length-encode os)
length-encode (barrier ∷ os) = omega (arith, length-encode os)

-- the words of joined orders are the words of the one, then of the other
pub encode-append : (a b : List Order) → encode (a ++ b) ≡ encode a ++ encode b
unfolding encode
encode-append [] b = refl
encode-append (store s ∷ a) b = ap (λ q. s.word ∷ s.value ∷ q) (encode-append a b)
encode-append (flush l ∷ a) b = ap (λ q. MARK ∷ l ∷ q) (encode-append a b)
encode-append (barrier ∷ a) b = ap (λ q. BAR ∷ 0 ∷ q) (encode-append a b)

-- a lent list with no orders is the lent list
pub list_with-nil : (lent : Words) → list_with [] lent ≡ lent
unfolding list_with encode
list_with-nil lent = refl

set-two : (p lent : Words) (n x y : ℕ) → length p ≡ n → suc n < length lent → set (set (p ++ drop n lent) n x) (suc n) y
    ≡ (p ++ (x ∷ y ∷ [])) ++ drop (suc (suc n)) lent
set-two p lent n x y e h =
    let rest = drop (suc (suc n)) lent in
    let next = get_or lent (suc n) 0 in
    rw (
      drop-cons lent n 0 (omega arith),
      drop-cons lent (suc n) 0 h,
      set_at p (get_or lent n 0) (next ∷ rest) x n e,
      ← (append_snoc p x (next ∷ rest)),
      set_at (p ++ (x ∷ [])) next rest y (suc n) (simp length-append (omega arith)),
    )
    (simp append_assoc)

list_with-snoc : (os : List Order) (o : Order) (lent : Words) (x y : ℕ) → encode (o ∷ []) ≡ x ∷ y ∷ [] → 2 * length os + 2 ≤ length lent
    → set (set (list_with os lent) (2 * length os) x) (2 * length os + 1) y ≡ list_with (os ++ (o ∷ [])) lent
unfolding list_with
list_with-snoc os o lent x y e h =
    let n : 2 * length (os ++ (o ∷ [])) ≡ suc (suc (2 * length os)) = simp length-append (omega arith) in
    rw (encode-append os (o ∷ []), e, n, add-one) (set-two (encode os) lent (2 * length os) x y (length-encode os) (omega arith))

-- One order more is two words stored after those of the orders before it.
pub list_with-store :
    (os : List Order) (s : Store) (lent : Words) → 2 * length os + 2 ≤ length lent
    → set (set (list_with os lent) (2 * length os) s.word) (2 * length os + 1) s.value ≡ list_with (os ++ (store s ∷ [])) lent
unfolding encode
list_with-store os s lent h = list_with-snoc os (store s) lent s.word s.value refl h

-- storing MARK and l in the two words behind the orders adds a flush of line l to the list
pub list_with-flush :
    (os : List Order) (l : ℕ) (lent : Words) → 2 * length os + 2 ≤ length lent
    → set (set (list_with os lent) (2 * length os) MARK) (2 * length os + 1) l ≡ list_with (os ++ (flush l ∷ [])) lent
unfolding encode
list_with-flush os l lent h = list_with-snoc os (flush l) lent MARK l refl h

-- storing BAR and 0 in the two words behind the orders adds a barrier to the list
pub list_with-barrier :
    (os : List Order) (lent : Words) → 2 * length os + 2 ≤ length lent
    → set (set (list_with os lent) (2 * length os) BAR) (2 * length os + 1) 0 ≡ list_with (os ++ (barrier ∷ [])) lent
unfolding encode
list_with-barrier os lent h = list_with-snoc os barrier lent BAR 0 refl h

-- ---- reading the list back

-- Read back, the words of orders whose stores are to words below BAR begin with these orders.
pub decode-encode : (os : List Order) (rest : Words) → StoresInside BAR (stores_in os) → decode (encode os ++ rest) ≡ os ++ decode rest
unfolding encode decode stores_in
decode-encode [] rest h = refl
decode-encode (store s ∷ os) rest h =
    rw (ne_eqb s.word MARK (λ e. omega (arith, h.0)), ne_eqb s.word BAR (λ e. omega (arith, h.0)), decode-encode os rest h.1)
decode-encode (flush l ∷ os) rest h = rw (decode-encode os rest h)
decode-encode (barrier ∷ os) rest h = rw (decode-encode os rest h)

-- orders inside a table that is no longer than BAR
inside-words : (n : ℕ) (os : List Order) → n ≤ BAR → all_inside n os ≡ true → StoresInside BAR (stores_in os)
unfolding all_inside stores_in
inside-words n [] h a = tt
inside-words n (store s ∷ os) h a =
    let u = simp and-iff at a in
    let b : s.word < n = ltb-true s.word n u.0 in
    (omega arith, inside-words n os h u.1)
inside-words n (barrier ∷ os) h a = inside-words n os h a
inside-words n (flush l ∷ os) h a = inside-words n os h ((and-iff (ltb l (n / 8)) (all_inside n os)).0 a).1

-- if all orders lie inside a table of n words, the first c do
pub inside-take : (n c : ℕ) (os : List Order) → all_inside n os ≡ true → all_inside n (take c os) ≡ true
unfolding all_inside
inside-take n zero os a = refl
inside-take n (suc c) [] a = refl
inside-take n (suc c) (o ∷ os) a = let u = simp and-iff at a in simp and-iff (u.0, inside-take n c os u.1)

-- ---- carry-out of a listed write

-- a table with a right header has a whole number of lines, and no word of it has the index MARK or BAR
pub header-length : (t : Words) → header_ok t ≡ true → (length t ≡ 8 * (length t / 8)) × (length t ≤ BAR)
unfolding header_ok length_ok table_length
header-length t e =
    let u = simp facts at e in
    let n : ℕ = nodes_for (length t) in
    let a : length t ≡ 8 + 32 * n = u.0.0.0 in
    let b : n ≤ 65535 = u.0.1 in
    (omega arith, omega arith)

-- where stores are inside a whole number of lines, so are the flushes of their lines
after-inside : (n : ℕ) (ss : List Store) (l : ℕ) → n ≡ 8 * (n / 8) → l < n / 8 → StoresInside n ss → all_inside n (orders_after l ss) ≡ true
unfolding all_inside orders_after
after-inside n [] l d h a = rw (lt-ltb l (n / 8) h)
after-inside n (s ∷ ss) l d h a = go (ℕ_discrete (line s.word) l) (after-inside n ss (line s.word) d (omega arith) a.1)
  where
    go : Dec (line s.word ≡ l) → all_inside n (orders_after (line s.word) ss) ≡ true → all_inside n (orders_after l (s ∷ ss)) ≡ true
    go (yes e) ih = rw (after-same l s ss e, lt-ltb s.word n a.0) (rw e at ih)
    go (no k) ih = rw (after-other l s ss k, lt-ltb l (n / 8) h, lt-ltb s.word n a.0) ih

-- if all stores go to words below n, a whole number of lines, their orders lie inside a table of n words
pub orders-inside : (n : ℕ) (ss : List Store) → n ≡ 8 * (n / 8) → StoresInside n ss → all_inside n (orders ss) ≡ true
unfolding all_inside orders
orders-inside n [] d a = refl
orders-inside n (s ∷ ss) d a = rw (lt-ltb s.word n a.0) (after-inside n ss (line s.word) d (omega arith) a.1)

-- The first c of orders that lie in the table are read back, and pass the test of 13.
module _ (os : List Order) (lent t : Words) (c : ℕ) (few : length t ≤ BAR) (a : all_inside (length t) os ≡ true) (h : c ≤ length os) where
  -- the first c orders read from a lent list are the first c that were written into it
  pub read-back : take c (decode (list_with os lent)) ≡ take c os
  unfolding list_with
  read-back = rw (decode-encode os (drop (2 * length os) lent) (inside-words (length t) os few a)) (take-append-le c os _ h)

  room : leb c (length (list_with os lent) / 2) ≡ true
  unfolding list_with
  room = le-leb c _ (simp (length-append, length-encode) (omega arith))

  pub listed-inside : (leb c (length (list_with os lent) / 2) && all_inside (length t) (take c (decode (list_with os lent)))) ≡ true
  listed-inside = rw (room, read-back) (inside-take (length t) c os a)

-- Carry-out of them is not refused, and leaves what they leave.
module _ (os : List Order) (lent t : Words) (c : ℕ) (ok : header_ok t ≡ true) (a : all_inside (length t) os ≡ true)
    (h : c ≤ length os) where
  -- carry-out accepts c orders of a list whose orders lie inside a table with a right header
  pub listed-number : carry_number c (list_with os lent) t ≡ 0
  unfolding carry_number
  listed-number = rw (ok, listed-inside os lent t c (header-length t ok).1 a h)

  -- carry-out of c orders of such a list leaves the table with the first c orders carried out
  pub listed-carried : carried_out c (list_with os lent) t ≡ carry (take c os) t
  unfolding carried_out
  listed-carried = rw (listed-number, read-back os lent t c (header-length t ok).1 a h)

-- The same of a write's list on either dock, by its stores.
module _ (dock : ℕ) (ss : List Store) (lent t : Words) (ok : header_ok t ≡ true) (a : StoresInside (length t) ss) where
  abbrev list : List Order
  list = barred dock (orders ss)

  list-in : all_inside (length t) list ≡ true
  list-in = barred-inside dock (length t) (orders ss) ∙ orders-inside (length t) ss (header-length t ok).0 a

  -- the order list of the stores is read back as it was written
  pub list-read-back : take (length (barred dock (orders ss))) (decode (list_with (barred dock (orders ss)) lent)) ≡ barred dock (orders ss)
  list-read-back = read-back list lent t (length list) (header-length t ok).1 list-in (omega arith) ∙ take-length list

  -- carry-out accepts any first part of the order list of stores inside the table
  pub carry-list-number : (c : ℕ) → c ≤ length (barred dock (orders ss)) → carry_number c (list_with (barred dock (orders ss)) lent) t ≡ 0
  carry-list-number c h = listed-number list lent t c ok list-in h

  -- carry-out of c orders of the list leaves the table with the first c of them carried out
  pub carry-list : (c : ℕ) → c ≤ length (barred dock (orders ss)) → carried_out c (list_with (barred dock (orders ss)) lent) t
      ≡ carry (take c (barred dock (orders ss))) t
  carry-list c h = listed-carried list lent t c ok list-in h

  -- all of them: the stores are applied
  pub carry-list-all : carried_out (length (barred dock (orders ss))) (list_with (barred dock (orders ss)) lent) t ≡ apply ss t
  carry-list-all = carry-list (length list) (omega arith) ∙ rw take-length (list-apply dock ss t)
