-- A set of numbers in cells, by open addressing: 0 is a free cell. A number's path begins at its home and goes round; a number stands in the
-- first cell of its path that was free. A number that is taken out leaves no gap on the path of another.
use Rattle.std.specs.Prelude.{Bool, true, false, cond, ◌||◌, List, [], ◌∷◌, ℕ, zero, suc, ◌+◌, ◌-◌, ◌*◌, ◌%◌, eqb, leb, length, set}
use Rattle.model.specs.Table.{Words, at}

-- ---- paths

abbrev pub SPREAD : ℕ
SPREAD = 4294967291

-- a number scattered over 0 to SPREAD - 1: numbers that follow each other, or in small equal steps, fall apart
unfoldable pub mixed : ℕ → ℕ
mixed x = (x % 2147483647) * 2246822519 % SPREAD

-- the cell of m in which the path of x begins
unfoldable pub home_of : (m x : ℕ) → ℕ
home_of m x = mixed x % m

-- the cell after cell i of m; the first comes after the last
unfoldable pub next_cell : (m i : ℕ) → ℕ
next_cell m i = cond (eqb (i + 1) m) 0 (i + 1)

-- how far cell j of m comes after cell i, going round
unfoldable pub ahead : (m i j : ℕ) → ℕ
ahead m i j = cond (leb i j) (j - i) (j + m - i)

-- ---- a number looked for

-- from cell i on, so many cells: the first that holds x or is free; the number of cells, which is no cell, if there is none
unfoldable pub seek : Words → (x i f : ℕ) → ℕ
seek cs x i zero = length cs
seek cs x i (suc f) = elim (eqb (at cs i) x || eqb (at cs i) 0) [ true ↦ i | false ↦ seek cs x (next_cell (length cs) i) f ]

-- the cell that holds x, or the one for it
unfoldable pub cell_for : Words → (x : ℕ) → ℕ
cell_for cs x = seek cs x (home_of (length cs) x) (length cs)

unfoldable pub holds : Words → (x : ℕ) → Bool
holds cs x = eqb (at cs (cell_for cs x)) x

-- ---- a number more, a number less

unfoldable pub entered : Words → (x : ℕ) → Words
entered cs x = set cs (cell_for cs x) x

-- one after the other
unfoldable pub entered_all : Words → List ℕ → Words
entered_all cs [] = cs
entered_all cs (x ∷ xs) = entered_all (entered cs x) xs

-- Cell i is a gap. Of the numbers from cell j on, up to a free cell, each whose path leads over the gap moves into it and leaves the next gap.
unfoldable pub closed_up : Words → (i j f : ℕ) → Words
closed_up cs i j zero = set cs i 0
closed_up cs i j (suc f) =
    let m = length cs in
    elim (eqb (at cs j) 0) [
      | true ↦ set cs i 0
      | false ↦
          elim (leb (ahead m i j) (ahead m (home_of m (at cs j)) j)) [
            | true ↦ closed_up (set cs i (at cs j)) j (next_cell m j) f
            | false ↦ closed_up cs i (next_cell m j) f
          ]
    ]

-- without x, if they hold it
unfoldable pub without : Words → (x : ℕ) → Words
without cs x = let i = cell_for cs x in cond (holds cs x) (closed_up cs i (next_cell (length cs) i) (length cs)) cs
