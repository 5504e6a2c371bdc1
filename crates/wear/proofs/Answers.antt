-- What the call answers and leaves, from the tests in their order.
use Rattle.std.proofs.Common.{◌≡◌, ℕ, zero, suc, ◌+◌, ◌*◌, ◌/◌, ◌<◌, ◌≤◌, Bool, true, false, ◌||◌, ◌≢◌, List, ◌++◌, length, take, drop}
use Rattle.std.proofs.Common.{replicate, sym, refl, ap, ◌∙◌, arith, take_at, le-ltb, lt-ltb, le-leb}
use mathlib.Core.Bool.{or-false}
use Rattle.std.specs.Prelude.{Err}
use Rattle.model.specs.declared.Refusal.{Refusal}
use Rattle.model.specs.declared.Refusal.TheVariants.{BadOrders, ShortFigures}
use Rattle.model.specs.Numbers.{refusal_number}
use Rattle.model.specs.Results.{Worn, refused_with, worn_with}
use Rattle.model.specs.Table.{Words, header_ok, header_number, nodes}
use Rattle.model.specs.SoundTest.{elem}
use Rattle.model.specs.Orders.{Order, decode, all_inside, store_count, carry_number}
use Rattle.model.specs.Wear.{stored_to, wear_of, largest, first_at, extents_of, extent_words, wear_number, figures, worn, lines_after}
use Rattle.model.specs.Wear.{pairs_after}
use Rattle.model.proofs.Numbers.{refused-by}
use Rattle.list_laws.proofs.Tools.{Each, Each-map}
use Rattle.table_laws.proofs.Header.{header-iff, header-number-iff, header-number-refused}
use Rattle.wear_laws.specs.Wearing.{extents_in}
use Rattle.wear_laws.proofs.Stored.{all-orders, stored-inside}
use Rattle.wear_laws.proofs.Extents.{extents-few, extents-same}
use Rattle.bits.specs.Bits.{has}
use Rattle.bits.proofs.Marks.{none-marked}

-- the answer, and the two slices left
abbrev pub Answers : (list lines pairs t : Words) (r : Worn) (l p : Words) → Type 0
Answers list lines pairs t r l p =
    (r ≡ worn list (length lines) (length pairs) t) × ((l ≡ lines_after list lines pairs t) × (p ≡ pairs_after list lines pairs t))

refused : (list lines pairs t : Words) (n : ℕ) → wear_number list (length lines) (length pairs) t ≡ n → n ≢ 0
    → Answers list lines pairs t (refused_with n) lines pairs
unfolding worn lines_after pairs_after
refused list lines pairs t zero e z = absurd (z refl)
refused list lines pairs t (suc n) e z = rw e (refl, (refl, refl))

refuses : (r : Refusal) (list lines pairs t : Words) → wear_number list (length lines) (length pairs) t
    ≡ refusal_number r → refusal_number r ≢ 0
    → Answers list lines pairs t (Err r) lines pairs
refuses r list lines pairs t e z =
    let all = refused list lines pairs t (refusal_number r) e z in
    (sym (refused-by r) ∙ all.0, all.1)

-- the lines counted, seen as the first part of the slice that they were written into
module _ (l past : Words) (k : ℕ) (h : length l ≡ k) where
  pub part-length : k ≡ length (take k (l ++ past))
  part-length = sym (ap length (take_at l past k h) ∙ h)

  pub part-most : (most first : ℕ) → (most ≡ largest (take k (l ++ past)))
      × (first ≡ first_at (largest (take k (l ++ past))) (take k (l ++ past)))
      → (most ≡ largest l) × (first ≡ first_at (largest l) l)
  part-most most first e = rw (take_at l past k h) at e

-- ---- 2 and 13, as in carry-out of all orders

-- what these tests leave known: the header, and that every order lies in the table
pub record Inside (list t : Words) : Type 0 where
  pub header : header_ok t ≡ true
  pub orders : all_inside (length t) (decode list) ≡ true

module _ (list t : Words) where
  pub no-header : header_number t ≢ 0 → (lines pairs : Words) → Answers list lines pairs t (refused_with (header_number t)) lines pairs
  unfolding header_number wear_number carry_number
  no-header z lines pairs = let h : header_ok t ≡ false = header-number-refused t z in refused list lines pairs t (header_number t) (rw h) z

  module _ (z : header_number t ≡ 0) (r : Bool) (q : r ≡ all_inside (length t) (decode list)) where
    ok : header_ok t ≡ true
    ok = (header-number-iff t).0 z

    pub outside : r ≡ false → (lines pairs : Words) → Answers list lines pairs t (Err BadOrders) lines pairs
    unfolding wear_number carry_number
    outside f lines pairs =
        refuses BadOrders list lines pairs t
        (rw (ok, le-leb (length list / 2) (length list / 2) (omega arith), all-orders list, sym q ∙ f)) (λ y. omega arith)

    pub all-inside : r ≡ true → Inside list t
    all-inside f = record { header = ok; orders = sym q ∙ f }

-- ---- 24, and the figures

module _ (list t : Words) (i : Inside list t) where
  abbrev os : List Order
  os = decode list

  carried : carry_number (length list / 2) list t ≡ 0
  unfolding carry_number
  carried = rw (i.header, le-leb (length list / 2) (length list / 2) (omega arith), all-orders list, i.orders)

  -- the words stored to lie in the table, so that each has a mark and a line
  stored : Each (λ (w : ℕ). w < length t) (stored_to os)
  stored = stored-inside (length t) os i.orders

  size : length t ≡ 8 + 32 * nodes t
  size = ((header-iff t).0 i.header).size.long

  pub marks-enough : (m : ℕ) → m ≡ 32768 → length t ≤ 64 * m
  marks-enough m h = omega (arith, size, ((header-iff t).0 i.header).size.few)

  pub marks-hold : (m : ℕ) → m ≡ 32768 → Each (λ (w : ℕ). w < 64 * m) (stored_to os)
  marks-hold m h = Each-map (λ (w : ℕ). w < length t) (λ (w : ℕ). w < 64 * m) (stored_to os) (λ w u. omega (arith, marks-enough m h)) stored

  pub lines-hold : (k : ℕ) → k ≡ length t / 8 → Each (λ (w : ℕ). w < 8 * k) (stored_to os)
  lines-hold k h = Each-map (λ (w : ℕ). w < length t) (λ (w : ℕ). w < 8 * k) (stored_to os) (λ w u. omega (arith, size)) stored

  -- all words of the table are on its lines
  whole : 8 * (length t / 8) ≡ length t
  whole = omega (arith, size)

  pub few-lines : (lines pairs : Words) → length lines < length t / 8 → Answers list lines pairs t (Err ShortFigures) lines pairs
  unfolding wear_number
  few-lines lines pairs h =
      refuses ShortFigures list lines pairs t (rw (carried, lt-ltb (length lines) (length t / 8) h)) (λ y. omega arith)

  module _ (marks : Words) (m : (w : ℕ) → has marks w ≡ elem w (stored_to os) || has (replicate 32768 0) w) (k : ℕ)
      (count : k ≡ length (extents_in (has marks) 0 (length t))) where
    extents : extents_in (has marks) 0 (length t) ≡ extents_of (length t) os
    unfolding extents_of
    extents = extents-same (has marks) (λ (w : ℕ). elem w (stored_to os))
        (λ w. m w ∙ ap (λ (b : Bool). elem w (stored_to os) || b) (none-marked 32768 w) ∙ or-false (elem w (stored_to os))) 0 (length t)

    pub pairs-few : k ≤ length t
    pairs-few = omega (arith, count, extents-few (has marks) 0 (length t))

    needed : 2 * length (extents_of (length t) os) ≡ 2 * k
    needed = omega (arith, count, ap length extents)

    module _ (lines pairs : Words) (enough : length t / 8 ≤ length lines) where
      pub few-pairs : length pairs < 2 * k → Answers list lines pairs t (Err ShortFigures) lines pairs
      unfolding wear_number
      few-pairs h = refuses ShortFigures list lines pairs t
          (rw (carried, le-ltb (length lines) (length t / 8) enough, needed, lt-ltb (length pairs) (2 * k) h)) (λ y. omega arith)

      module _ (room : 2 * k ≤ length pairs) where
        accepted : wear_number list (length lines) (length pairs) t ≡ 0
        unfolding wear_number
        accepted = rw (carried, le-ltb (length lines) (length t / 8) enough, needed, le-ltb (length pairs) (2 * k) room)

        pub done : (total most first : ℕ) (l p : Words) → total ≡ store_count os → l ≡ wear_of (8 * (length t / 8)) os
            → (most ≡ largest l) × (first ≡ first_at (largest l) l) → p ≡ extent_words (extents_in (has marks) 0 (length t))
            → Answers list lines pairs t (worn_with total most first k) (l ++ drop (length t / 8) lines) (p ++ drop (2 * k) pairs)
        unfolding worn lines_after pairs_after figures
        done total most first l p a b c e =
            let n : k ≡ length (extents_of (length t) os) = count ∙ ap length extents in
            let b' : l ≡ wear_of (length t) os = b ∙ rw whole in
            rw (accepted, a, c.0, c.1, b', e, extents, n) (refl, (refl, refl))
