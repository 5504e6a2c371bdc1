-- The per-line numbers: counts of the list that sum to the total; the largest is one of them, and the first line is the first that has it.
use Rattle.std.proofs.Common.{◌≡◌, ℕ, zero, suc, ◌+◌, ◌*◌, ◌/◌, ◌<◌, ◌≤◌, Bool, true, false, cond, eqb, ◌≢◌, List, [], ◌∷◌, map, length}
use Rattle.std.proofs.Common.{sym, refl, ap, ◌∙◌, ap₂, ⊎_elim, arith, eq-eqb, ne_eqb}
use native.Mathlib.Nat.{le-max_left, le-max_right, max-eq_left, max-eq_right, max-le}
use lib.ListN.{length-map}
use Rattle.model.specs.Lists.{sum}
use Rattle.model.specs.Table.{Words, at, line}
use Rattle.model.specs.Search.{filter}
use Rattle.model.specs.Orders.{Order, store_count, all_inside}
use Rattle.model.specs.Writes.{numbers}
use Rattle.model.specs.Wear.{stored_to, stores_to, wear_of, largest, first_at}
use Rattle.list_laws.proofs.Tools.{Each, Each-map, same-or-not, compared}
use Rattle.list_laws.proofs.Filters.{filter-yes, filter-no}
use Rattle.list_laws.proofs.Counts.{numbers-length}
use Rattle.list_laws.proofs.Lists.{sum-none}
use Rattle.wear_laws.proofs.Stored.{stored-count, stored-inside}

-- ---- counts

-- the words of ws on line l
abbrev pub on_line : List ℕ → ℕ → ℕ
on_line ws l = length (filter (λ (w : ℕ). eqb (line w) l) ws)

-- 1 for line k, 0 for the others
abbrev pub one : ℕ → ℕ → ℕ
one k l = cond (eqb k l) 1 0

-- a word more counts one more on its own line
pub on-line-cons : (w : ℕ) (ws : List ℕ) (l : ℕ) → on_line (w ∷ ws) l ≡ one (line w) l + on_line ws l
on-line-cons w ws l = go (eqb (line w) l) refl
  where
    go : (b : Bool) → eqb (line w) l ≡ b → on_line (w ∷ ws) l ≡ one (line w) l + on_line ws l
    go true e = rw e (ap length (filter-yes (λ (w : ℕ). eqb (line w) l) w ws e) ∙ omega arith)
    go false e = rw e (ap length (filter-no (λ (w : ℕ). eqb (line w) l) w ws e) ∙ omega arith)

-- ---- the sum

sum-add : (f g : ℕ → ℕ) (ls : List ℕ) → sum (map (λ (l : ℕ). f l + g l) ls) ≡ sum (map f ls) + sum (map g ls)
sum-add f g [] = refl
sum-add f g (l ∷ ls) = omega (arith, sum-add f g ls)

sum-same : (f g : ℕ → ℕ) (ls : List ℕ) → ((l : ℕ) → f l ≡ g l) → sum (map f ls) ≡ sum (map g ls)
sum-same f g [] e = refl
sum-same f g (l ∷ ls) e = omega (arith, sum-same f g ls e, e l)

-- line k counts once in a row of lines that has it, and not in one that begins after it
sum-past : (k from count : ℕ) → k < from → sum (map (one k) (numbers from count)) ≡ 0
unfolding numbers
sum-past k from zero h = refl
sum-past k from (suc c) h = rw (ne_eqb k from (omega arith)) (omega (arith, sum-past k (suc from) c (omega arith)))

module _ (k from c : ℕ) where
  row : ℕ
  row = sum (map (one k) (numbers (suc from) c))

  sum-here : k ≡ from → one k from + row ≡ 1
  unfolding row
  sum-here e = rw (eq-eqb k from e) (omega (arith, sum-past k (suc from) c (omega arith)))

  sum-after : row ≡ 1 → k ≢ from → one k from + row ≡ 1
  sum-after ih e = rw (ne_eqb k from e) (omega arith)

sum-one : (k from count : ℕ) → from ≤ k → k < from + count → sum (map (one k) (numbers from count)) ≡ 1
unfolding numbers row
sum-one k from zero h l = absurd (omega arith)
sum-one k from (suc c) h l =
    ⊎_elim (sum-here k from c) (λ e. sum-after k from c (sum-one k (suc from) c (omega arith) (omega arith)) e) (same-or-not k from)

-- the words on each of n lines, of words that all lie on these lines
sum-lines : (n : ℕ) (ws : List ℕ) → Each (λ (w : ℕ). line w < n) ws → sum (map (on_line ws) (numbers 0 n)) ≡ length ws
unfolding filter
sum-lines n [] e = sum-none (on_line []) (numbers 0 n) (λ l. refl)
sum-lines n (w ∷ ws) e = sum-same (on_line (w ∷ ws)) (λ (l : ℕ). one (line w) l + on_line ws l) (numbers 0 n) (on-line-cons w ws)
    ∙ sum-add (one (line w)) (on_line ws) (numbers 0 n)
    ∙ ap₂ (λ (a b : ℕ). a + b) (let h = e.0 in sum-one (line w) 0 n (omega arith) (omega arith)) (sum-lines n ws e.1) ∙ omega arith

-- The per-line numbers of a list inside a table sum to its stores.
pub wear-sum : (n : ℕ) (os : List Order) → all_inside (8 * n) os ≡ true → sum (wear_of (8 * n) os) ≡ store_count os
unfolding wear_of stores_to
wear-sum n os e =
    let l : 8 * n / 8 ≡ n = omega arith in
    rw l (sum-lines n (stored_to os)
    (Each-map (λ (w : ℕ). w < 8 * n) (λ (w : ℕ). line w < n) (stored_to os) (λ w h. omega arith) (stored-inside (8 * n) os e))
    ∙ sym (stored-count os))

-- ---- a line's number

row-at : (f : ℕ → ℕ) (from count i : ℕ) → i < count → at (map f (numbers from count)) i ≡ f (from + i)
unfolding numbers
row-at f from zero i h = absurd (omega arith)
row-at f from (suc c) zero h = let e : from + 0 ≡ from = omega arith in rw e
row-at f from (suc c) (suc i) h = let e : from + suc i ≡ suc from + i = omega arith in rw e (row-at f (suc from) c i (omega arith))

-- there is a figure for each line of the table
pub wear-length : (words : ℕ) (os : List Order) → length (wear_of words os) ≡ words / 8
unfolding wear_of
wear-length words os = length-map (numbers 0 (words / 8)) (stores_to os) ∙ numbers-length 0 (words / 8)

-- Each number is the count of the list's stores to its line.
pub wear-at : (words : ℕ) (os : List Order) (l : ℕ) → l < words / 8 → at (wear_of words os) l ≡ stores_to os l
unfolding wear_of
wear-at words os l h = let e : 0 + l ≡ l = omega arith in row-at (stores_to os) 0 (words / 8) l h ∙ rw e

-- ---- the largest

pub largest-top : (ns : Words) (l : ℕ) → at ns l ≤ largest ns
unfolding largest
largest-top [] l = omega arith
largest-top (n ∷ ns) zero = le-max_left n (largest ns)
largest-top (n ∷ ns) (suc l) = omega (arith, largest-top ns l, le-max_right n (largest ns))

module _ (m : ℕ) (ms : Words) where
  -- the first figure is the largest if no later one is above it
  pub largest-here : largest ms ≤ m → largest (m ∷ ms) ≡ m
  unfolding largest
  largest-here h = max-eq_left h

  -- the largest of the later figures is the largest if the first is not above it
  pub largest-later : m ≤ largest ms → largest (m ∷ ms) ≡ largest ms
  unfolding largest
  largest-later h = max-eq_right h

  -- the place of the first n is 0 if the first figure is n
  pub first-here : (n : ℕ) → m ≡ n → first_at n (m ∷ ms) ≡ 0
  unfolding first_at
  first-here n e = rw (eq-eqb m n e)

  -- the place of the first n is one more than among the later figures if the first figure is not n
  pub first-later : (n : ℕ) → m ≢ n → first_at n (m ∷ ms) ≡ suc (first_at n ms)
  unfolding first_at
  first-later n e = rw (ne_eqb m n e)

-- The first line has the largest number.
abbrev pub HasIt : Words → ℕ → Type 0
HasIt ns n = (first_at n ns < length ns) × (at ns (first_at n ns) ≡ n)

has-here : (m : ℕ) (ms : Words) → HasIt (m ∷ ms) m
has-here m ms = rw (first-here m ms m refl) (omega arith, refl)

has-later : (m : ℕ) (ms : Words) (n : ℕ) → m ≢ n → HasIt ms n → HasIt (m ∷ ms) n
has-later m ms n d h = rw (first-later m ms n d) (omega (arith, h.0), h.1)

some-line : (ns : Words) (m : ℕ) → m < largest ns → 1 ≤ length ns
unfolding largest
some-line [] m h = absurd (omega arith)
some-line (n ∷ ns) m h = omega arith

has-cons : (m : ℕ) (ms : Words) → (m < largest ms → HasIt ms (largest ms)) → HasIt (m ∷ ms) (largest (m ∷ ms))
has-cons m ms h = ⊎_elim later (λ o. here (⊎_elim (λ e. omega arith) (λ l. omega arith) o)) (compared m (largest ms))
  where
    later : m < largest ms → HasIt (m ∷ ms) (largest (m ∷ ms))
    later l = let e = largest-later m ms (omega arith) in rw e (has-later m ms (largest ms) (λ d. omega arith) (h l))

    here : largest ms ≤ m → HasIt (m ∷ ms) (largest (m ∷ ms))
    here l = let e = largest-here m ms l in rw e (has-here m ms)

pub first-has : (ns : Words) → 1 ≤ length ns → HasIt ns (largest ns)
first-has [] h = absurd (omega arith)
first-has (m ∷ ms) h = has-cons m ms (λ l. first-has ms (some-line ms m l))

-- No line before it has so many.
pub first-before : (n : ℕ) (ns : Words) (l : ℕ) → l < first_at n ns → at ns l ≢ n
unfolding first_at
first-before n [] l h = absurd (omega arith)
first-before n (m ∷ ms) zero h = λ e. omega (arith, first-here m ms n e)
first-before n (m ∷ ms) (suc l) h =
    ⊎_elim (λ e. absurd (omega (arith, first-here m ms n e)))
    (λ e. first-before n ms l (omega (arith, first-later m ms n e))) (same-or-not m n)

-- ---- no stores

largest-sum : (ns : Words) → largest ns ≤ sum ns
unfolding largest
largest-sum [] = omega arith
largest-sum (n ∷ ns) = max-le (omega arith) (omega (arith, largest-sum ns))

first-zero : (ns : Words) → largest ns ≡ 0 → first_at 0 ns ≡ 0
unfolding first_at
first-zero [] e = refl
first-zero (n ∷ ns) e = first-here n ns 0 (omega (arith, largest-top (n ∷ ns) 0))

-- A list without stores gives largest 0 and first line 0.
pub none-largest : (n : ℕ) (os : List Order) → all_inside (8 * n) os ≡ true → store_count os ≡ 0
    → (largest (wear_of (8 * n) os) ≡ 0) × (first_at (largest (wear_of (8 * n) os)) (wear_of (8 * n) os) ≡ 0)
none-largest n os i e =
    let z : largest (wear_of (8 * n) os) ≡ 0 =
    omega (arith, largest-sum (wear_of (8 * n) os), wear-sum n os i) in (z, rw z (first-zero _ z))
