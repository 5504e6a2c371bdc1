-- Change request 5: salvage of a damaged table into a fresh one. Which nodes are entered, in which order; what is gathered along them; the
-- call. Request 6: salvage takes both collections.
use Rattle.std.specs.Prelude.{Bool, true, false, not, ◌&&◌, ◌||◌, List, [], ◌∷◌, ◌++◌, map, ℕ, zero, suc, pred, ◌+◌, ◌*◌, eqb, ltb, length, drop, Ok, Err}
use Rattle.model.specs.Results.{Salvaged, refused_with}
use Rattle.model.specs.Table.{Words, at, in_range, nodes, root, root_word, header_ok}
use Rattle.model.specs.Slots.{Slot, pointer_ok, recording, node_view, used}
use Rattle.model.specs.Reached.{filter, Maps, unless_lacking}
use Rattle.model.specs.SoundTest.{elem}
use Rattle.model.specs.Refusals.{test, first_number, has_key, has_recording, unless_refused}
use Rattle.model.specs.Ledger.{enter}
use Rattle.model.specs.Packing.{packed_both, packed_table}

-- ---- the nodes entered

-- a slot and its place in the node
pub record Placed : Type 0 where
  pub place : ℕ
  pub slot : Slot

-- the shown slots with their places; i is the first one's, p the pointer before it. Without the places they are `shown`:
-- `shown-at` in crates/tour_laws/proofs/Meets.antt.
unfoldable pub shown_at : (p i : ℕ) → List Slot → List Placed
shown_at p i [] = []
shown_at p i (s ∷ ss) =
    elim (eqb s.pointer p) [ true ↦ shown_at s.pointer (suc i) ss | false ↦ record { place = i; slot = s } ∷ shown_at s.pointer (suc i) ss ]

-- In every node it follows or collects only shown slots below the sibling's fence; where the sibling number is outside 1 to N, all shown ones.
unfoldable pub under_fence : Words → (sibling key : ℕ) → Bool
under_fence t s k = not (in_range (nodes t) s) || ltb k (node_view t s).fence

abbrev pub in_reach : Words → (n : ℕ) → Placed → Bool
in_reach t n x = under_fence t (node_view t n).sibling x.slot.key

unfoldable pub followed : Words → ℕ → List Placed
followed t n = filter (in_reach t n) (shown_at (node_view t n).left 0 (used t n))

-- a node met, and the level that it must have
pub record Meeting : Type 0 where
  pub node : ℕ
  pub level : ℕ

abbrev pub meet : ℕ → ℕ → Meeting
meet n l = record { node = n; level = l }

-- From a node: left child first, shown slots in order, then the sibling; a child one level below its parent, a sibling on the same.
unfoldable pub meetings : Words → ℕ → List Meeting
meetings t n =
    let v = node_view t n in
    let l = v.level in
    elim (eqb l 0) [
      | true ↦ meet v.sibling l ∷ []
      | false ↦ meet v.left (pred l) ∷ (map (λ (x : Placed). meet x.slot.pointer (pred l)) (followed t n) ++ (meet v.sibling l ∷ []))
    ]

-- A node is entered once, and only if its number is in 1 to N and it has the level that it must have; es are the nodes entered before.
unfoldable pub may_enter : Words → Meeting → List ℕ → Bool
may_enter t x es = in_range (nodes t) x.node && (eqb (node_view t x.node).level x.level && not (elem x.node es))

module _ (t : Words) where
  -- Each meeting in turn: enter the node if it may be, go everywhere from it, then on to what comes after it. The nodes entered by then, in order,
  -- where es were entered before.
  unfoldable pub visit : (fuel : ℕ) → List Meeting → List ℕ → List ℕ
  visit zero xs es = es
  visit (suc f) [] es = es
  visit (suc f) (x ∷ xs) es =
      elim (may_enter t x es) [ true ↦ visit f xs (visit f (meetings t x.node) (es ++ x.node ∷ [])) | false ↦ visit f xs es ]

-- a root, whatever its level
abbrev pub start : Words → (root : ℕ) → List Meeting
start t r = meet r (node_view t r).level ∷ []

-- The nodes entered from a root, in order, where es were entered before: what comes after these. Each node meets 14 at most, so the fuel
-- suffices.
unfoldable pub entered_from : Words → (root : ℕ) → List ℕ → List ℕ
entered_from t r es = drop (length es) (visit t (2 + 14 * nodes t) (start t r) es)

-- Salvage takes both, collection 1 first: a node entered for it is not entered again for collection 2.
abbrev pub earlier : (n : ℕ) → Words → List ℕ
earlier n t = elim (eqb n 1) [ true ↦ [] | false ↦ entered_from t (root t) [] ]

-- The nodes entered for collection n, in order; without collection 2 its root is 0, which is none.
unfoldable pub entered : (n : ℕ) → Words → List ℕ
entered n t = entered_from t (at t (root_word n)) (earlier n t)

-- ---- what is gathered

-- a slot that was dropped
pub record Drop : Type 0 where
  pub node : ℕ
  pub place : ℕ
  pub reason : ℕ

-- the pairs kept, in the order of their keys; the slots dropped, in the order met
pub record Gathered : Type 0 where
  pub kept : List Slot
  pub dropped : List Drop

-- recording number or class out of range
unfoldable pub out_of_range : (pointer : ℕ) → Bool
out_of_range p = not (pointer_ok p)

-- The first reason that holds: 1 recording number or class out of range, 2 code already kept, 3 recording already kept; 0 for none.
unfoldable pub reason_for : List Slot → Slot → ℕ
reason_for ps s = first_number (test (out_of_range s.pointer) 1 ∷ test (has_key s.key ps) 2 ∷ test (has_recording (recording s) ps) 3 ∷ [])

-- The first holder of a code or a recording keeps it.
unfoldable pub gather_slot : (n : ℕ) → Gathered → Placed → Gathered
gather_slot n g x =
    let s = x.slot in
    let r = reason_for g.kept s in
    unless_refused r (record { kept = enter s.key s.pointer g.kept; dropped = g.dropped })
    (record { kept = g.kept; dropped = g.dropped ++ (record { node = n; place = x.place; reason = r } ∷ []) })

unfoldable pub gather_slots : (n : ℕ) → List Placed → Gathered → Gathered
gather_slots n [] g = g
gather_slots n (x ∷ xs) g = gather_slots n xs (gather_slot n g x)

-- what a node adds: the slots of a leaf
unfoldable pub collected : Words → ℕ → List Placed
collected t n = elim (eqb (node_view t n).level 0) [ true ↦ followed t n | false ↦ [] ]

unfoldable pub gather_nodes : Words → List ℕ → Gathered → Gathered
gather_nodes t [] g = g
gather_nodes t (n ∷ ns) g = gather_nodes t ns (gather_slots n (collected t n) g)

unfoldable pub gathered_along : Words → List ℕ → Gathered
gathered_along t ns = gather_nodes t ns (record { kept = []; dropped = [] })

-- Duplicates are judged per collection.
unfoldable pub gathered : (n : ℕ) → Words → Gathered
gathered n t = gathered_along t (entered n t)

-- the pairs kept of each collection; the second's, or its lack
unfoldable pub kept_maps : Words → Maps
kept_maps t = record { one = (gathered 1 t).kept; two = unless_lacking (eqb (at t 3) 0) (gathered 2 t).kept }

-- the slots dropped, collection 1's first
unfoldable pub dropped_all : Words → List Drop
dropped_all t = (gathered 1 t).dropped ++ (gathered 2 t).dropped

-- ---- the call

-- every dropped slot as node, slot, reason
unfoldable pub drop_words : List Drop → Words
drop_words [] = []
drop_words (d ∷ ds) = d.node ∷ d.place ∷ d.reason ∷ drop_words ds

-- the packing needs more than N nodes
unfoldable pub outgrows : Words → Bool
outgrows t = ltb (nodes t) (packed_both (kept_maps t))

-- 2, 15, 16, 10 in that order, for a second slice and a report of so many words; 0: accepted
unfoldable pub salvage_number : Words → (out report : ℕ) → ℕ
salvage_number t out report =
    first_number (test (not (header_ok t)) 2 ∷ test (not (eqb out (length t))) 15 ∷ test (ltb report (36 * nodes t)) 16 ∷ test (outgrows t) 10 ∷ [])

-- The answer counts the dropped slots.
unfoldable pub salvage : Words → (out report : ℕ) → Salvaged
salvage t out report =
    unless_refused (salvage_number t out report) (Ok (length (dropped_all t))) (refused_with (salvage_number t out report))

-- the second slice, and the report, after the call; the report's words past what is written stay
unfoldable pub salvage_out : Words → (out : Words) → (report : ℕ) → Words
salvage_out t out report = unless_refused (salvage_number t (length out) report) (packed_table (nodes t) (kept_maps t)) out

unfoldable pub salvage_report : Words → (out : ℕ) → (report : Words) → Words
salvage_report t out report =
    let ds = dropped_all t in
    unless_refused (salvage_number t out (length report)) (drop_words ds ++ drop (3 * length ds) report) report

-- the count that a lent word then holds; it stays if there is none
abbrev pub dropped_or : Salvaged → ℕ → ℕ
dropped_or (Ok count) old = count
dropped_or (Err r) old = old
