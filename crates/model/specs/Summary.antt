-- Scale 3: quick calls. A summary is a second lent slice, in ordinary memory: which nodes are reached, and which recordings are in use. Opening
-- works it out from a settled table, every accepted quick call keeps it, and no order list has it. While it is true of the table, a quick call
-- answers, stores and refuses as the plain one, and looks only at the nodes on its way. On other words it is what is defined here.
use Rattle.std.specs.Prelude.{Bool, true, false, cond, not, ◌&&◌, ◌||◌, List, [], ◌∷◌, ◌++◌, map, ℕ, zero, suc, pred, ◌+◌, ◌-◌, ◌*◌, ◌/◌, eqb, leb}
use Rattle.std.specs.Prelude.{ltb, length, Ok}
use Rattle.std.specs.Prelude.{take, drop, replicate}
use Rattle.std.proofs.Math.Option.{Option, none, some}
use Rattle.model.specs.Results.{Listed, Outcome, Written, refused_with, done_with}
use Rattle.model.specs.Table.{Words, at, nodes, root_word, in_range, header_ok, no_collection}
use Rattle.model.specs.Slots.{Slot, recording, pointer_of, recording_ok, class_ok, View, node_view, view_of, height, full}
use Rattle.model.specs.Search.{filter, locate, path, first_with}
use Rattle.model.specs.Reached.{flat, head_or, kept, reached_all, Maps, maps_of}
use Rattle.model.specs.SoundTest.{all, settled, sound}
use Rattle.model.specs.Listing.{in_range_of, listed, listed_words}
use Rattle.model.specs.Orders.{Store, Order, apply, orders, barred, store_count, flush_count, barrier_count, list_with}
use Rattle.model.specs.Shifts.{place_of}
use Rattle.model.specs.Writes.{shift_in_at, set_class_at, numbers, middle, split, new_root_at, standing, run, root_in_run, child_before, frees_leaf}
use Rattle.model.specs.Writes.{delete_settled, Call, insertion, deletion, class_change, repair}
use Rattle.model.specs.Refusals.{seventeen_in, too_high, test, Test, first_number, has_key, words_for, unless_refused}
use Rattle.model.specs.Ledger.{pairs_of}
use Rattle.model.specs.Marks.{has, put, cleared, put_each}
use Rattle.model.specs.Cells.{holds, entered, entered_all, without}

-- ---- the words of a summary for N nodes: marks, a bit for each node; then cells, 16 for each node, of which a leaf needs 11

unfoldable pub mark_words : (N : ℕ) → ℕ
mark_words N = suc (N / 64)

unfoldable pub cell_words : (N : ℕ) → ℕ
cell_words N = 16 * N

abbrev pub summary_words : (N : ℕ) → ℕ
summary_words N = mark_words N + cell_words N

abbrev pub marks_in : (N : ℕ) → Words → Words
marks_in N ws = take (mark_words N) ws

abbrev pub cells_in : (N : ℕ) → Words → Words
cells_in N ws = drop (mark_words N) ws

-- a recording of collection n, as a cell holds it: the collection stands where a pointer has its class
abbrev pub cell_of : (n r : ℕ) → ℕ
cell_of n r = pointer_of r n

-- the recordings of both maps
abbrev pub cells_of : (n : ℕ) → List Slot → List ℕ
cells_of n ps = map (λ (s : Slot). cell_of n (recording s)) ps

unfoldable pub recordings_of : Maps → List ℕ
recordings_of m = cells_of 1 m.one ++ cells_of 2 (pairs_of m.two)

abbrev pub recordings_in : Words → List ℕ
recordings_in t = recordings_of (maps_of t)

-- ---- opening: 2; 26, a slice of another length; 4, not sound; 20, sound but not settled

-- every reached node is marked, every recording entered
unfoldable pub opened : Words → Words
opened t = put_each (reached_all t) (replicate (mark_words (nodes t)) 0) ++ entered_all (replicate (cell_words (nodes t)) 0) (recordings_in t)

-- with a slice of m words
unfoldable pub open_number : (m : ℕ) → Words → ℕ
open_number m t =
    first_number (test (not (header_ok t)) 2 ∷ test (not (eqb m (summary_words (nodes t)))) 26 ∷ test (not (sound t)) 4 ∷ test (not (settled t)) 20 ∷ [])

unfoldable pub opening : (m : ℕ) → Words → Outcome
opening m t = unless_refused (open_number m t) (Ok tt) (refused_with (open_number m t))

-- the slice that it leaves
unfoldable pub opened_words : (ws : Words) → Words → Words
opened_words ws t = unless_refused (open_number (length ws) t) (opened t) ws

-- ---- the way to a leaf

-- a node that a quick call may pass: it is marked, hides nothing and shows at most 11 slots
unfoldable pub fit_node : (ms : Words) → View → (n : ℕ) → Bool
fit_node ms v n = has ms n && (eqb (v.node n).hidden 0 && leb (length (v.node n).shown) 11)

abbrev pub is_there : Option ℕ → Bool
is_there none = false
is_there (some n) = true

-- the search for k passes its tests down to the leaf, and each node that it stands on is fit
unfoldable pub way_ok : (ms : Words) → View → (k : ℕ) → Bool
way_ok ms v k = leb (height v) 15 && (is_there (locate v (height v) v.root k) && all (fit_node ms v) (path v k))

-- the leaf for k
abbrev pub leaf_for : (n : ℕ) → Words → (k : ℕ) → ℕ
leaf_for n t k = standing n t 0 k

-- it has k
abbrev pub key_there : (n : ℕ) → Words → (k : ℕ) → Bool
key_there n t k = has_key k (node_view t (leaf_for n t k)).shown

-- ---- fresh nodes by the marks

-- the nodes of these that are not marked
unfoldable pub unmarked : (ms : Words) → List ℕ → List ℕ
unmarked ms ns = filter (λ (m : ℕ). not (has ms m)) ns

-- the first of N nodes after a that is not marked, going round from N to 1; 0 if there is none
unfoldable pub free_after : (N : ℕ) → (ms : Words) → (a : ℕ) → ℕ
free_after N ms a = head_or 0 (unmarked ms (numbers (suc a) (N - a) ++ numbers 1 (pred a)))

-- ---- insertion

-- An insertion under way: its stores so far, the table and the marks that they leave, and the node that takes the next slot.
pub record Going : Type 0 where
  pub stores : List Store
  pub table : Words
  pub marks : Words
  pub under : ℕ

abbrev pub going : List Store → (t ms : Words) → ℕ → Going
going ss t ms p = record { stores = ss; table = t; marks = ms; under = p }

-- A node that can be split hides nothing and is full; one that takes a slot hides nothing and shows at most 10.
unfoldable pub full_node : (N : ℕ) → Words → (a : ℕ) → Bool
full_node N t a = in_range N a && (eqb (node_view t a).hidden 0 && full (node_view t a).shown)

unfoldable pub roomy : (N : ℕ) → Words → (p : ℕ) → Bool
roomy N t p = in_range N p && (eqb (node_view t p).hidden 0 && leb (length (node_view t p).shown) 10)

abbrev pub can_split : (N : ℕ) → Words → (a b p : ℕ) → Bool
can_split N t a b p = full_node N t a && (in_range N b && roomy N t p)

-- Nodes on the way to k split, the highest first, each into the next node that is not marked; the half that k belongs to takes the next slot.
-- It ends at a node that cannot be split; with a summary that is true of the table there is none.
unfoldable pub split_way : (N k : ℕ) → List ℕ → Going → Going
split_way N k [] g = g
split_way N k (a ∷ rest) g =
    let t = g.table in
    let b = free_after N g.marks a in
    let ss = split t a b g.under in
    elim (can_split N t a b g.under) [
      | true ↦ split_way N k rest (going (g.stores ++ ss) (apply ss t) (put g.marks b) (cond (ltb k (middle t a).key) a b))
      | false ↦ g
    ]

-- first a new root, if the run includes the root; else the node above the run takes the first slot, which is the leaf if there is no run
unfoldable pub start_way : (n : ℕ) → (ms t : Words) → (k : ℕ) → Going
start_way n ms t k =
    let r = free_after (nodes t) ms (at t (root_word n)) in
    let ss = new_root_at (root_word n) t r in
    cond (root_in_run n t k && in_range (nodes t) r) (going ss (apply ss t) (put ms r) r) (going [] t ms (standing n t (run n t k) k))

-- the nodes of the run, the highest first
unfoldable pub run_of : (n : ℕ) → Words → (k : ℕ) → List ℕ
run_of n t k = let ps = path (view_of n t) k in drop (length ps - run n t k) ps

unfoldable pub way_made : (n : ℕ) → (ms t : Words) → (k : ℕ) → Going
way_made n ms t k = split_way (nodes t) k (run_of n t k) (start_way n ms t k)

-- a new root and the splits; then shift in, k with the pointer x
unfoldable pub quick_insert : (n : ℕ) → (ms t : Words) → (k x : ℕ) → List Store
quick_insert n ms t k x = let g = way_made n ms t k in g.stores ++ cond (roomy (nodes t) g.table g.under) (shift_in_at g.table g.under k x) []

-- ---- deletion

-- it frees the leaf for k
abbrev pub frees : (n : ℕ) → Words → (k : ℕ) → Bool
frees n t k = frees_leaf n t (standing n t 1 k) (leaf_for n t k)

-- then the parent has a slot for the leaf's fence, and the left neighbour lies in the table
unfoldable pub neighbour_ok : (n : ℕ) → Words → (k : ℕ) → Bool
neighbour_ok n t k =
    let p = standing n t 1 k in
    let x = leaf_for n t k in
    let ss = (node_view t p).shown in
    cond (key_there n t k && frees n t k) (ltb (place_of (node_view t x).fence ss) (length ss) && in_range (nodes t) (child_before (view_of n t) p x)) true

-- the recording of k in its leaf; 0 if k is not there
abbrev pub recording_in : Option Slot → ℕ
recording_in none = 0
recording_in (some s) = recording s

abbrev pub recording_at : (n : ℕ) → Words → (k : ℕ) → ℕ
recording_at n t k = recording_in (first_with k (node_view t (leaf_for n t k)).shown)

-- ---- the numbers in their order: 2; 17; 26, a slice of another length; 4, by the nodes on the way; then as in a plain call, by leaf and summary

abbrev pub way_in : Call → (ms t : Words) → Bool
way_in (insertion n k r c) ms t = way_ok ms (view_of n t) k
way_in (deletion n k) ms t = way_ok ms (view_of n t) k && neighbour_ok n t k
way_in (class_change n k c) ms t = way_ok ms (view_of n t) k
way_in repair ms t = true

-- 10: fewer nodes without a mark than the run's length, plus 1 for a new root
unfoldable pub too_few_in : (n : ℕ) → (ms t : Words) → (k : ℕ) → Bool
too_few_in n ms t k = ltb (length (unmarked ms (numbers 1 (nodes t)))) (run n t k + cond (root_in_run n t k) 1 0)

abbrev pub own_tests : Call → (ms cs t : Words) → List Test
own_tests (insertion n k r c) ms cs t =
    test (not (recording_ok r)) 6 ∷ test (not (class_ok c)) 14
    ∷ test (key_there n t k) 7 ∷ test (holds cs (cell_of n r)) 8 ∷ test (too_high n t k) 11 ∷ test (too_few_in n ms t k) 10 ∷ []
own_tests (deletion n k) ms cs t = test (not (key_there n t k)) 9 ∷ []
own_tests (class_change n k c) ms cs t = test (not (class_ok c)) 14 ∷ test (not (key_there n t k)) 9 ∷ []
own_tests repair ms cs t = []

-- with a summary ws, an order list of so many words, and a dock
unfoldable pub quick_number : Call → (words dock : ℕ) → (ws t : Words) → ℕ
quick_number x words dock ws t =
    let ms = marks_in (nodes t) ws in
    first_number (test (not (header_ok t)) 2 ∷ test (seventeen_in x t) 17 ∷ test (not (eqb (length ws) (summary_words (nodes t)))) 26
    ∷ test (not (way_in x ms t)) 4 ∷ test (ltb 1 dock) 18 ∷ test (ltb words (words_for dock)) 5 ∷ own_tests x ms (cells_in (nodes t) ws) t)

-- ---- what a quick call does: all of it follows from its number, its stores and the summary that it leaves

-- A table with a true summary is settled: there is nothing to repair.
unfoldable pub quick_stores : Call → (ws t : Words) → List Store
quick_stores (insertion n k r c) ws t = quick_insert n (marks_in (nodes t) ws) t k (pointer_of r c)
quick_stores (deletion n k) ws t = delete_settled n t k
quick_stores (class_change n k c) ws t = set_class_at t (leaf_for n t k) k c
quick_stores repair ws t = []

-- new nodes get a mark, a freed leaf loses its own; the recording is entered, or taken out
unfoldable pub quick_words : Call → (ws t : Words) → Words
quick_words (insertion n k r c) ws t = (way_made n (marks_in (nodes t) ws) t k).marks ++ entered (cells_in (nodes t) ws) (cell_of n r)
quick_words (deletion n k) ws t =
    let ms = marks_in (nodes t) ws in
    cond (frees n t k) (cleared ms (leaf_for n t k)) ms ++ without (cells_in (nodes t) ws) (cell_of n (recording_at n t k))
quick_words (class_change n k c) ws t = ws
quick_words repair ws t = ws

abbrev pub quick_orders : Call → (dock : ℕ) → (ws t : Words) → List Order
quick_orders x dock ws t = barred dock (orders (quick_stores x ws t))

unfoldable pub quick_written : Call → (words dock : ℕ) → (ws t : Words) → Written
quick_written x words dock ws t =
    let os = quick_orders x dock ws t in
    let n = quick_number x words dock ws t in
    unless_refused n (done_with (store_count os) (flush_count os) (barrier_count os)) (refused_with n)

-- the working copy, the lent order list and the summary after the call
unfoldable pub quick_table : Call → (words dock : ℕ) → (ws t : Words) → Words
quick_table x words dock ws t = unless_refused (quick_number x words dock ws t) (apply (quick_stores x ws t) t) t

unfoldable pub quick_list : Call → (lent : Words) → (dock : ℕ) → (ws t : Words) → Words
quick_list x lent dock ws t = unless_refused (quick_number x (length lent) dock ws t) (list_with (quick_orders x dock ws t) lent) lent

unfoldable pub quick_summary : Call → (words dock : ℕ) → (ws t : Words) → Words
quick_summary x words dock ws t = unless_refused (quick_number x words dock ws t) (quick_words x ws t) ws

-- ---- a listing: the leaves from the one for the lowest key along the siblings, at most N, up to one whose fence is above the highest key

module _ (v : View) (high : ℕ) where
  unfoldable pub leaves_up_to : (c n : ℕ) → List ℕ
  leaves_up_to zero n = []
  leaves_up_to (suc c) n = elim (eqb n 0 || ltb high (v.node n).fence) [ true ↦ [] | false ↦ n ∷ leaves_up_to c (v.node n).sibling ]

-- their pairs in the range
unfoldable pub page_of : (n : ℕ) → Words → (low high : ℕ) → List Slot
page_of n t low high = let v = view_of n t in in_range_of low high (flat (kept v) (leaves_up_to v high (nodes t) (leaf_for n t low)))

-- 2, 17, 26, then 4 by the nodes on the way to the lowest key
unfoldable pub quick_list_number : (n : ℕ) → (ws t : Words) → (low : ℕ) → ℕ
quick_list_number n ws t low =
    first_number (test (not (header_ok t)) 2 ∷ test (no_collection n t) 17 ∷ test (not (eqb (length ws) (summary_words (nodes t)))) 26
    ∷ test (not (way_ok (marks_in (nodes t) ws) (view_of n t) low)) 4 ∷ [])

unfoldable pub quick_listed : (n : ℕ) → (ws t : Words) → (low high : ℕ) → (out : Words) → Listed
quick_listed n ws t low high out =
    let r = quick_list_number n ws t low in unless_refused r (listed (page_of n t low high) (length out)) (refused_with r)

unfoldable pub quick_list_out : (n : ℕ) → (ws t : Words) → (low high : ℕ) → (out : Words) → Words
quick_list_out n ws t low high out = unless_refused (quick_list_number n ws t low) (listed_words (page_of n t low high) out) out
