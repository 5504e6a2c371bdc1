-- What the parts of a salvage take and give.
use Rattle.std.specs.Prelude.{◌≡◌, true, cond, List, ◌++◌, ℕ, ◌+◌, ◌*◌, ◌≤◌, eqb, length, drop}
use Rattle.model.specs.Table.{Words, at, nodes, header_ok}
use Rattle.model.specs.Salvage.{entered, Drop, gathered_along, gathered, drop_words}
use Rattle.pack_laws.specs.Needed.{nodes_needed}

-- ---- what is known of the damaged one

-- a table with a good header, and the nodes entered for collection 1 and for collection 2
pub record Toured (t firsts seconds : Words) : Type 0 where
  pub header : header_ok t ≡ true
  pub one : firsts ≡ entered 1 t
  pub two : seconds ≡ entered 2 t
  pub few : length firsts + length seconds ≤ nodes t

-- the nodes that so many pairs of each collection need; without collection 2 none for it
unfoldable pub needed_both : Words → (a b : ℕ) → ℕ
needed_both t a b = nodes_needed a + cond (eqb (at t 3) 0) 0 (nodes_needed b)

-- no more pairs than these are kept
pub record Most (t : Words) (a b : ℕ) : Type 0 where
  pub one : length (gathered 1 t).kept ≤ a
  pub two : length (gathered 2 t).kept ≤ b
  pub one-few : a ≤ 16777216
  pub two-few : b ≤ 16777216

-- ---- one collection

-- what these nodes hold, at most b pairs, fits behind the nodes before; the report has room for all their slots
pub record Fits (t order words : Words) (before b : ℕ) (report : Words) : Type 0 where
  pub small : nodes t ≤ 65535
  pub long : length words ≡ 32 * nodes t
  pub room : before + nodes_needed b ≤ nodes t
  pub most : length (gathered_along t order).kept ≤ b
  pub few : length order ≤ nodes t
  pub drops : 36 * length order ≤ length report

-- these slots were reported, so many; the words after them stayed
abbrev pub Reported : (report after : Words) → List Drop → (n : ℕ) → Type 0
Reported report after ds n = (n ≡ length ds) × (after ≡ drop_words ds ++ drop (3 * n) report)
