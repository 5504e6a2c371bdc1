-- Request 12, "Wear figures": over an order list of any length, the stores to each line of a table, and the words that have a store.
use Rattle.std.specs.Prelude.{◌≡◌, Bool, false, cond, ◌&&◌, ◌||◌, List, [], ◌∷◌, ◌++◌, map, ℕ, suc, ◌+◌, ◌*◌, ◌/◌, ◌≤◌, ◌<◌, max, eqb, leb, ltb}
use Rattle.std.specs.Prelude.{length, drop, Ok, Err}
use Rattle.model.specs.Results.{Worn, refused_with, worn_with}
use Rattle.model.specs.Lists.{sum}
use Rattle.model.specs.Table.{Words, line, at}
use Rattle.model.specs.Search.{filter}
use Rattle.model.specs.SoundTest.{elem}
use Rattle.model.specs.Orders.{Order, store, flush, barrier, store_count, decode, carry_number}
use Rattle.model.specs.Writes.{numbers}
use Rattle.model.specs.Refusals.{unless_refused}

-- the words of the list's stores, in its order; a word as often as it is stored to
unfoldable pub stored_to : List Order → List ℕ
stored_to [] = []
stored_to (store s ∷ os) = s.word ∷ stored_to os
stored_to (flush l ∷ os) = stored_to os
stored_to (barrier ∷ os) = stored_to os

-- ---- lines

-- the stores to line l
unfoldable pub stores_to : List Order → (l : ℕ) → ℕ
stores_to os l = length (filter (λ (w : ℕ). eqb (line w) l) (stored_to os))

-- those to each line of a table of so many words
unfoldable pub wear_of : (words : ℕ) → List Order → Words
wear_of words os = map (stores_to os) (numbers 0 (words / 8))

unfoldable pub largest : Words → ℕ
largest [] = 0
largest (n ∷ ns) = max n (largest ns)

-- the place of the first n
unfoldable pub first_at : (n : ℕ) → Words → ℕ
first_at n [] = 0
first_at n (m ∷ ms) = cond (eqb m n) 0 (suc (first_at n ms))

-- ---- words that have a store

pub record Extent : Type 0 where
  pub offset : ℕ
  pub size : ℕ

abbrev pub extent : ℕ → ℕ → Extent
extent w n = record { offset = w; size = n }

-- word w before extents that lie after it: joined to the first where the two touch
abbrev pub joined : ℕ → List Extent → List Extent
joined w [] = extent w 1 ∷ []
joined w (e ∷ es) = cond (eqb e.offset (suc w)) (extent w (suc e.size) ∷ es) (extent w 1 ∷ e ∷ es)

-- rising words as extents, touching ones joined
unfoldable pub join_all : List ℕ → List Extent
join_all [] = []
join_all (w ∷ ws) = joined w (join_all ws)

-- The words that have a store, sorted by offset, touching ones joined.
unfoldable pub extents_of : (words : ℕ) → List Order → List Extent
extents_of words os = join_all (filter (λ (w : ℕ). elem w (stored_to os)) (numbers 0 words))

-- pairs of offset and length
unfoldable pub extent_words : List Extent → Words
extent_words [] = []
extent_words (e ∷ es) = e.offset ∷ e.size ∷ extent_words es

-- ---- the call, on table t with lent slices of so many words for the lines and for the pairs

-- 2 and 13 as in carry-out of the whole list; then 24: a slice too short for the lines or for the pairs needed; else 0
unfoldable pub wear_number : (list : Words) (lines pairs : ℕ) → Words → ℕ
wear_number list lines pairs t =
    let carried = carry_number (length list / 2) list t in
    let short = ltb lines (length t / 8) || ltb pairs (2 * length (extents_of (length t) (decode list))) in
    unless_refused carried (cond short 24 0) carried

-- the total, the largest, the first line that has it, and the number of pairs
unfoldable pub figures : (words : ℕ) → List Order → Worn
figures words os =
    let ns = wear_of words os in worn_with (store_count os) (largest ns) (first_at (largest ns) ns) (length (extents_of words os))

unfoldable pub worn : (list : Words) (lines pairs : ℕ) → Words → Worn
worn list lines pairs t =
    unless_refused (wear_number list lines pairs t) (figures (length t) (decode list)) (refused_with (wear_number list lines pairs t))

-- the two lent slices after the call; words past what is written stay
unfoldable pub lines_after : (list lines pairs : Words) → Words → Words
lines_after list lines pairs t =
    unless_refused (wear_number list (length lines) (length pairs) t) (wear_of (length t) (decode list) ++ drop (length t / 8) lines) lines

unfoldable pub pairs_after : (list lines pairs : Words) → Words → Words
pairs_after list lines pairs t =
    let es = extents_of (length t) (decode list) in
    unless_refused (wear_number list (length lines) (length pairs) t) (extent_words es ++ drop (2 * length es) pairs) pairs

-- the figures that lent words then hold; they stay if there are none
abbrev pub total_or : Worn → ℕ → ℕ
total_or (Ok w) old = w.total
total_or (Err r) old = old

abbrev pub largest_or : Worn → ℕ → ℕ
largest_or (Ok w) old = w.largest
largest_or (Err r) old = old

abbrev pub first_line_or : Worn → ℕ → ℕ
first_line_or (Ok w) old = w.first_line
first_line_or (Err r) old = old

abbrev pub pairs_or : Worn → ℕ → ℕ
pairs_or (Ok w) old = w.pairs
pairs_or (Err r) old = old

-- ---- what holds of the figures

-- word w lies in one of the extents
unfoldable pub covered : ℕ → List Extent → Bool
covered w [] = false
covered w (e ∷ es) = (leb e.offset w && ltb w (e.offset + e.size)) || covered w es

-- each has a word, and ends before the word before the next: they rise and do not touch
abbrev pub Separate : List Extent → Type 0
Separate [] = Unit {0}
Separate (e ∷ []) = 1 ≤ e.size
Separate (e ∷ f ∷ es) = (1 ≤ e.size) × (e.offset + e.size < f.offset) × Separate (f ∷ es)

-- What holds of the figures of orders on a table of so many words, with the lines' numbers ns and the extents es.
pub record Figured (words : ℕ) (os : List Order) (ns : Words) (es : List Extent) : Type 0 where
  -- the per-line numbers are counts of the list and sum to the total
  pub counts : (l : ℕ) → l < words / 8 → at ns l ≡ stores_to os l
  pub total : sum ns ≡ store_count os
  -- the largest is one of them; the first line is the first that has it
  pub top : (l : ℕ) → at ns l ≤ largest ns
  pub first : (first_at (largest ns) ns < length ns) × (at ns (first_at (largest ns) ns) ≡ largest ns)
  pub before : (l : ℕ) → l < first_at (largest ns) ns → at ns l < largest ns
  -- a word is in an extent exactly if it has a store; extents rise and do not touch
  pub cover : (w : ℕ) → covered w es ≡ elem w (stored_to os)
  pub separate : Separate es
  -- a list without stores gives largest 0, first line 0 and no pairs
  pub none : store_count os ≡ 0 → (largest ns ≡ 0) × (first_at (largest ns) ns ≡ 0) × (es ≡ [])
