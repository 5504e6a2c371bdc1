-- The check of a whole table as a call: whether it is sound, what is left over, and how much of it each collection uses.
use Rattle.std.specs.Prelude.{◌≡◌, ◌≢◌, ◌↔◌, true, false, cond, [], ◌∷◌, ◌++◌, ℕ, suc, ◌+◌, ◌-◌, eqb, length, replicate, Ok}
use Rattle.std.proofs.Math.Option.{Option, none, some}
use Rattle.model.specs.Results.{Outcome, refused_with}
use Rattle.model.specs.Table.{Words, at, nodes, header_ok}
use Rattle.model.specs.Slots.{View, node_view, view_of, view, height, used}
use Rattle.model.specs.Reached.{kept, reached, mapping, map_of}
use Rattle.model.specs.SoundTest.{Leftover, nothing, hidden_in, missing_in, both_in, leftover, is_nothing, leftover_all, sound, settled}
use Rattle.model.specs.Shifts.{hidden_place}
use Rattle.model.specs.Writes.{unreachable}

-- What it refuses with: 2, then 4; else 0.
unfoldable pub check_number : Words → ℕ
check_number t = cond (header_ok t) (cond (sound t) 0 4) 2

unfoldable pub checking : Words → Outcome
checking t = cond (eqb (check_number t) 0) (Ok tt) (refused_with (check_number t))

-- ---- the report, 16 words

-- the hidden slot of node n, and how many slots it shows from its sibling's fence up
unfoldable pub hidden_slot : Words → (n : ℕ) → ℕ
hidden_slot t n = hidden_place (node_view t n).left (used t n)

unfoldable pub trailing_slots : Words → (n : ℕ) → ℕ
trailing_slots t n = length (node_view t n).shown - length (kept (view t) n)

-- Words 0 to 7, what is left over in collection c: 0 for nothing, 1, 2 or 3 for (a), (b) or (c); c; the node with the hidden slot, and the
-- slot; B, which lacks its slot in the parent, A, whose sibling it is, and the parent; the slots that A shows from B's fence up.
abbrev pub left_words : Words → (c : ℕ) → Leftover → Words
left_words t c nothing = replicate 8 0
left_words t c (hidden_in x) = 1 ∷ c ∷ x ∷ hidden_slot t x ∷ replicate 4 0
left_words t c (missing_in p a trailing) = 2 ∷ c ∷ 0 ∷ 0 ∷ (node_view t a).sibling ∷ a ∷ p ∷ trailing_slots t a ∷ []
left_words t c (both_in p a) = 3 ∷ c ∷ p ∷ hidden_slot t p ∷ (node_view t a).sibling ∷ a ∷ p ∷ 0 ∷ []

-- the leftover of a sound table, and the collection that has it
abbrev pub or_nothing : Option Leftover → Leftover
or_nothing none = nothing
or_nothing (some x) = x

unfoldable pub left_in : Words → ℕ
left_in t = cond (is_nothing (leftover (view_of 1 t))) 2 1

-- of a collection's tree: the nodes reached, the codes of its map, its levels
unfoldable pub tree_words : View → Words
tree_words v = length (reached v) ∷ length (mapping v) ∷ suc (height v) ∷ []

-- Words 8 and 9 are N and how many nodes are free; then each collection, zeros for one that there is not.
unfoldable pub report : Words → Words
report t =
    left_words t (left_in t) (or_nothing (leftover_all t))
    ++ (nodes t ∷ length (unreachable t) ∷ (tree_words (view_of 1 t) ++ cond (eqb (at t 3) 0) (replicate 3 0) (tree_words (view_of 2 t))))

-- the lent words then; a check that is refused leaves them
unfoldable pub report_out : Words → Words → Words
report_out t lent = cond (eqb (check_number t) 0) (report t) lent

-- ---- what it means of a sound table

pub record Meant (t : Words) : Type 0 where
  -- word 0 is 0 exactly if the table is settled
  pub settled-iff : (at (report t) 0 ≡ 0) ↔ (settled t ≡ true)
  -- else word 1 is the collection whose leftover the table has
  pub left-in : settled t ≡ false → leftover (view_of (at (report t) 1) t) ≡ leftover_all t
  -- each node is one collection's, or free
  pub all-nodes : at (report t) 9 + (at (report t) 10 + at (report t) 13) ≡ at (report t) 8
  -- the codes are those of the maps
  pub codes-one : at (report t) 11 ≡ length (map_of 1 t)
  pub codes-two : at t 3 ≢ 0 → at (report t) 14 ≡ length (map_of 2 t)
