-- Stores counted at their lines, order by order; and the most over the lines from a line on.
use Rattle.std.proofs.Common.{◌≡◌, ℕ, ◌+◌, ◌*◌, ◌/◌, ◌<◌, ◌≤◌, Bool, true, false, cond, eqb, ltb, ◌≢◌, List, [], ◌∷◌, ◌++◌, length, set}
use Rattle.std.proofs.Common.{replicate, sym, refl, ap, ◌∙◌, ⊎_elim, append_assoc, append-nil, arith, length-append, get_or-set_other}
use Rattle.std.proofs.Common.{get_or-set_same, ext_get_or, ltb-false, ltb-true, eq-eqb, ne_eqb}
use Rattle.model.specs.Table.{Words, at, line}
use Rattle.model.specs.Search.{filter}
use Rattle.model.specs.declared.ListedOrder.{ListedOrder}
use Rattle.model.specs.declared.ListedOrder.TheVariants.{Store}
use Rattle.model.specs.ListedOrders.{meant}
use Rattle.model.specs.Orders.{Order, order_of, store_count, decode}
use Rattle.model.specs.Wear.{stored_to, stores_to, wear_of, largest, first_at}
use Rattle.list_laws.proofs.Tools.{Each, same-or-not}
use Rattle.list_laws.proofs.Filters.{filter-short}
use Rattle.list_laws.proofs.Lists.{at-replicate}
use Rattle.carry.proofs.Turns.{next-order, no-order}
use Rattle.wear_laws.proofs.Stored.{decode-length, stored-count, stored-few}
use Rattle.wear_laws.proofs.Lines.{one, on-line-cons, wear-length, wear-at, largest-here, largest-later, first-here, first-later}
use Rattle.wear.specs.Counting.{or_here}
use Rattle.wear.specs.declared.Most.{Most}
use Rattle.wear.proofs.Turns.{stores-order, count-order}

-- ---- one order

-- what counting an order leaves
abbrev pub Tallied : (o : Order) (lines new : Words) → Type 0
Tallied o lines new = (l : ℕ) → at new l ≡ at lines l + stores_to (o ∷ []) l

module _ (order : ListedOrder) (word value : ℕ) (e : order ≡ Store word value) (lines : Words) where
  pub tally-inside : Each (λ (w : ℕ). w < 8 * length lines) (stored_to (meant order ∷ [])) → word / 8 < length lines
  unfolding stored_to
  tally-inside h = let l = (rw e at h).0 in omega arith

  pub tally-one : word / 8 < length lines → (1 ≡ store_count (meant order ∷ []))
      × Tallied (meant order) lines (set lines (word / 8) (at lines (word / 8) + 1))
  unfolding stored_to store_count stores_to filter
  tally-one h = (rw e refl, λ l. rw (e, on-line-cons word [] l) (⊎_elim (here l) (there l) (same-or-not l (word / 8))))
    where
      here : (l : ℕ) → l ≡ word / 8 → at (set lines (word / 8) (at lines (word / 8) + 1)) l ≡ at lines l + (one (line word) l + 0)
      here l q = rw (q, eq-eqb (word / 8) (word / 8) refl) (get_or-set_same lines (word / 8) (at lines (word / 8) + 1) 0 h ∙ omega arith)

      there : (l : ℕ) → l ≢ word / 8 → at (set lines (word / 8) (at lines (word / 8) + 1)) l ≡ at lines l + (one (line word) l + 0)
      there l q = rw (ne_eqb (word / 8) l (λ z. q (sym z)))
          (get_or-set_other lines (word / 8) l (at lines (word / 8) + 1) 0 q ∙ omega arith)

-- ---- one turn

-- the lines' numbers, with the orders of the words left, come to those of the whole list; so does the total
pub record Tally (list ws : Words) (total : ℕ) (lines : Words) : Type 0 where
  pub counted : (l : ℕ) → at lines l + stores_to (decode ws) l ≡ stores_to (decode list) l
  pub summed : total + store_count (decode ws) ≡ store_count (decode list)

pub tally-begins : (list : Words) (n : ℕ) (lines : Words) → lines ≡ replicate n 0 → Tally list list 0 lines
tally-begins list n lines e = record { counted = λ l. rw (e, at-replicate n l) (omega arith); summed = omega arith }

module _ (list ws : Words) (total : ℕ) (lines : Words) (t : Tally list ws total lines) where
  -- no number, and no total, is above the number of orders
  few : (l : ℕ) → stores_to (decode list) l ≤ length list / 2
  unfolding stores_to
  few l = omega (arith, filter-short (λ (w : ℕ). eqb (line w) l) (stored_to (decode list)), stored-few (decode list), decode-length list)

  pub tally-few : (l : ℕ) → at lines l ≤ length list / 2
  tally-few l = omega (arith, t.counted l, few l)

  module _ (pair after : Words) (p : ws ≡ pair ++ after) (two : length pair ≡ 2) (o : Order)
      (is : o ≡ order_of (at pair 0) (at pair 1)) where
    next : decode ws ≡ o ∷ decode after
    next = next-order ws pair after p two ∙ ap (λ (x : Order). x ∷ decode after) (sym is)

    pub total-few : (r : ℕ) → r ≡ store_count (o ∷ []) → total + r ≤ length list / 2
    total-few r q =
        omega (
          arith,
          t.summed,
          ap store_count next,
          count-order o (decode after),
          stored-count (decode list),
          stored-few (decode list),
          decode-length list,
        )

    pub tally-next : (r : ℕ) → r ≡ store_count (o ∷ []) → (new : Words) → Tallied o lines new → Tally list after (total + r) new
    tally-next r e new q = record {
      counted = λ l. omega (arith, t.counted l, q l, ap (λ (os : List Order). stores_to os l) next, stores-order o (decode after) l);
      summed = omega (arith, t.summed, e, ap store_count next, count-order o (decode after));
    }

  module _ (h : length ws < 2) where
    pub tally-total : total ≡ store_count (decode list)
    unfolding store_count
    tally-total = omega (arith, t.summed, ap store_count (no-order ws h))

    pub tally-lines : (n : ℕ) → length lines ≡ n → lines ≡ wear_of (8 * n) (decode list)
    unfolding stores_to stored_to filter
    tally-lines n e =
        let m : 8 * n / 8 ≡ n = omega arith in
        ext_get_or 0 lines (wear_of (8 * n) (decode list)) (omega (arith, wear-length (8 * n) (decode list)))
        (λ l u. omega (
          arith,
          t.counted l,
          ap (λ (os : List Order). stores_to os l) (no-order ws h),
          wear-at (8 * n) (decode list) l (omega arith),
        ))

-- ---- the most over the lines from the last on

-- m has the largest number of the lines after the rest, and the first of these lines that has it
pub record MostAfter (lines rest : Words) (m : Most) : Type 0 where
  pub later : Words
  pub parts : rest ++ later ≡ lines
  pub largest-is : m.largest ≡ largest later
  pub first-is : m.first ≡ length rest + first_at m.largest later

pub most-none : (lines : Words) → MostAfter lines lines (record { largest = 0; first = length lines })
unfolding largest first_at
most-none lines = record { later = []; parts = append-nil lines; largest-is = refl; first-is = omega arith }

pub most-all : (lines rest : Words) (m : Most) → length rest ≡ 0 → MostAfter lines rest m → (m.largest ≡ largest lines)
    × (m.first ≡ first_at (largest lines) lines)
most-all lines [] m e was =
    let all = was.largest-is ∙ ap largest was.parts in
    (all, omega (arith, was.first-is, ap (first_at m.largest) was.parts, ap (λ (n : ℕ). first_at n lines) all))
most-all lines (x ∷ rest) m e was = omega (arith, e)

module _ (lines rest : Words) (m : Most) (was : MostAfter lines rest m) (before : Words) (here : ℕ)
    (last : rest ≡ before ++ here ∷ []) where
  abbrev i : ℕ
  i = length before

  one-more : length rest ≡ i + 1
  one-more = ap length last ∙ length-append before (here ∷ [])

  parts-next : before ++ (here ∷ was.later) ≡ lines
  parts-next = sym (append_assoc before (here ∷ []) was.later) ∙ ap (λ (l : Words). l ++ was.later) (sym last) ∙ was.parts

  stays : here < m.largest → MostAfter lines before m
  stays l =
      let rest-most = largest-later here was.later (omega (arith, was.largest-is)) in
      let past = first-later here was.later m.largest (λ e. omega arith) in
      record {
        later = here ∷ was.later;
        parts = parts-next;
        largest-is = was.largest-is ∙ sym rest-most;
        first-is = omega (arith, was.first-is, past, one-more);
      }

  moves : m.largest ≤ here → MostAfter lines before (record { largest = here; first = i })
  moves l =
      let first = first-here here was.later here refl in
      record {
        later = here ∷ was.later;
        parts = parts-next;
        largest-is = sym (largest-here here was.later (omega (arith, was.largest-is)));
        first-is = omega (arith, first);
      }

  pub most-next : (at : ℕ) → at ≡ i → (r : Most) → r ≡ or_here m at here → MostAfter lines before r
  most-next at q r e = rw (e, q) (go (ltb here m.largest) refl)
    where
      go : (b : Bool) → ltb here m.largest ≡ b → MostAfter lines before (cond b m (record { largest = here; first = i }))
      go true q = stays (ltb-true here m.largest q)
      go false q = moves (ltb-false here m.largest q)
