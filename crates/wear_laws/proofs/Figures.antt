-- What the figures of every accepted call say.
use Rattle.std.proofs.Common.{◌≡◌, ℕ, zero, suc, ◌+◌, ◌*◌, ◌/◌, ◌≤◌, Bool, true, false, cond, ◌&&◌, leb, List, [], ◌∷◌, map, length, take}
use Rattle.std.proofs.Common.{sym, refl, ap, ◌∙◌, arith}
use Rattle.model.specs.Table.{Words, nodes, header_ok}
use Rattle.model.specs.Search.{filter}
use Rattle.model.specs.SoundTest.{elem}
use Rattle.model.specs.Orders.{Order, without_barriers, store_count, decode, all_inside, carry_number}
use Rattle.model.specs.Writes.{numbers}
use Rattle.model.specs.Refusals.{unless_refused}
use Rattle.model.specs.Wear.{stored_to, stores_to, wear_of, largest, join_all, extents_of, figures, wear_number, Figured}
use Rattle.list_laws.proofs.Tools.{and-iff}
use Rattle.list_laws.proofs.Members.{mem-each}
use Rattle.list_laws.proofs.Filters.{filter-none}
use Rattle.table_laws.proofs.Header.{header-iff}
use Rattle.wear_laws.proofs.Stored.{all-orders, stored-count, stored-without}
use Rattle.wear_laws.proofs.Lines.{on_line, wear-length, wear-at, wear-sum, largest-top, first-has, first-before, none-largest}
use Rattle.wear_laws.proofs.Extents.{extents-cover, extents-apart}

-- no store, no extent
no-words : (ws : List ℕ) → length ws ≡ 0 → (w : ℕ) → elem w ws ≡ false
unfolding elem
no-words [] e w = refl
no-words (v ∷ ws) e w = absurd (omega arith)

none-extents : (n : ℕ) (os : List Order) → store_count os ≡ 0 → extents_of n os ≡ []
unfolding extents_of join_all
none-extents n os e =
    let has : ℕ → Bool = λ w. elem w (stored_to os) in
    ap join_all (filter-none has (numbers 0 n)
    (mem-each (λ (w : ℕ). has w ≡ false) (numbers 0 n) (λ w m. no-words (stored_to os) (sym (stored-count os) ∙ e) w)))

-- a list wears as it does without its barriers
module _ (words : ℕ) (os : List Order) where
  pub wear-without : wear_of words (without_barriers os) ≡ wear_of words os
  unfolding wear_of stores_to
  wear-without = ap (λ (ws : List ℕ). map (on_line ws) (numbers 0 (words / 8))) (stored-without os)

  pub extents-without : extents_of words (without_barriers os) ≡ extents_of words os
  unfolding extents_of
  extents-without = ap (λ (ws : List ℕ). join_all (filter (λ (w : ℕ). elem w ws) (numbers 0 words))) (stored-without os)

  pub figures-without : figures words (without_barriers os) ≡ figures words os
  unfolding figures
  figures-without =
      let c : store_count (without_barriers os) ≡ store_count os =
      stored-count (without_barriers os) ∙ ap length (stored-without os) ∙ sym (stored-count os) in
      rw (c, wear-without, extents-without)

-- orders inside a table of n lines
figured : (n : ℕ) (os : List Order) → 1 ≤ n → all_inside (8 * n) os ≡ true → Figured (8 * n) os (wear_of (8 * n) os) (extents_of (8 * n) os)
figured n os h i =
    let ns = wear_of (8 * n) os in
    record {
      counts = wear-at (8 * n) os;
      total = wear-sum n os i;
      top = largest-top ns;
      first = first-has ns (omega (arith, wear-length (8 * n) os));
      before = λ l b. omega (arith, largest-top ns l, first-before (largest ns) ns l b);
      cover = extents-cover (8 * n) os i;
      separate = extents-apart (8 * n) os;
      none = λ e. let u = none-largest n os i e in (u.0, u.1, none-extents (8 * n) os e);
    }

-- ---- every accepted call

-- what is known where the number is 0
both-passed : (b c : Bool) → cond {A = ℕ} b (cond c 0 13) 2 ≡ 0 → (b ≡ true) × (c ≡ true)
both-passed true true e = (refl, refl)
both-passed true false e = absurd (omega arith)
both-passed false c e = absurd (omega arith)

carried-zero : (n : ℕ) (short : ℕ) → unless_refused n short n ≡ 0 → n ≡ 0
carried-zero zero short e = refl
carried-zero (suc n) short e = absurd (omega arith)

pub wear-figures : (list t : Words) (lines pairs : ℕ) → wear_number list lines pairs t ≡ 0
    → Figured (length t) (decode list) (wear_of (length t) (decode list)) (extents_of (length t) (decode list))
unfolding wear_number carry_number
wear-figures list t lines pairs e =
    let n = length list / 2 in
    let u = both-passed (header_ok t) (leb n n && all_inside (length t) (take n (decode list)))
    (carried-zero (carry_number n list t) _ e) in
    let inside = ap (all_inside (length t)) (sym (all-orders list))
    ∙ ((and-iff (leb n n) (all_inside (length t) (take n (decode list)))).0 u.1).1 in
    let m : length t ≡ 8 * (1 + 4 * nodes t) = omega (arith, ((header-iff t).0 u.0).size.long) in
    rw m (figured (1 + 4 * nodes t) (decode list) (omega arith) (rw m at inside))
