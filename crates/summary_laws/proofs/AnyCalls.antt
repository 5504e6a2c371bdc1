-- Every quick call on any table with any summary of the right length: an accepted one's stores lie in the table and its orders in the lent
-- list,
-- and the summary keeps its length.
use Rattle.std.proofs.Common.{◌≡◌, ℕ, ◌+◌, ◌<◌, ◌≤◌, Bool, true, false, cond, not, ◌&&◌, eqb, ltb, ◌≢◌, List, [], ◌∷◌, length, sym, refl}
use Rattle.std.proofs.Common.{ap, ◌∙◌, ⊎_elim, arith, length-append, take-append-drop}
use Rattle.model.specs.Table.{Words, at, nodes, in_range, root_word, header_ok, no_collection}
use Rattle.model.specs.Slots.{view_of, height}
use Rattle.model.specs.Orders.{apply}
use Rattle.model.specs.Writes.{new_root_at, standing, run, root_in_run, Call, insertion, deletion, class_change, repair}
use Rattle.model.specs.Refusals.{seventeen_in, test, Test, words_for}
use Rattle.model.specs.Marks.{put, cleared}
use Rattle.model.specs.Cells.{entered, without}
use Rattle.model.specs.Summary.{mark_words, summary_words, marks_in, cells_in, way_in, way_ok, cell_of, frees, leaf_for, recording_at}
use Rattle.model.specs.Summary.{own_tests}
use Rattle.model.specs.Summary.{free_after, can_split, run_of, Going, going, split_way, start_way, way_made, quick_number, quick_stores}
use Rattle.model.specs.Summary.{quick_words}
use Rattle.list_laws.proofs.Tools.{Each, and-iff, leb-iff, not-false-iff}
use Rattle.table_laws.proofs.Header.{header-iff}
use Rattle.set_laws.proofs.Marks.{put-length, cleared-length}
use Rattle.set_laws.proofs.Room.{entered-length}
use Rattle.set_laws.proofs.Closing.{without-length}
use Rattle.step_laws.proofs.Accepted.{Passed, none-holds}
use Rattle.two_laws.proofs.AcceptedTwo.{there}
use Rattle.summary_laws.proofs.AnyWords.{Fits, fits-none, fits-more, insert-fits}
use Rattle.summary_laws.proofs.AnyWays.{class-fits, delete-fits}

own-numbers : (x : Call) (ms cs t : Words) → Each (λ (c : Test). c.number ≢ 0) (own_tests x ms cs t)
own-numbers (insertion n k r c) ms cs t =
    ((λ e. omega arith), ((λ e. omega arith), ((λ e. omega arith), ((λ e. omega arith), ((λ e. omega arith), ((λ e. omega arith), tt))))))
own-numbers (deletion n k) ms cs t = ((λ e. omega arith), tt)
own-numbers (class_change n k c) ms cs t = ((λ e. omega arith), ((λ e. omega arith), tt))
own-numbers repair ms cs t = tt

-- what an accepted call has passed
record Taken (x : Call) (ws t : Words) : Type 0 where
  header : header_ok t ≡ true
  collection : seventeen_in x t ≡ false
  way : way_in x (marks_in (nodes t) ws) t ≡ true
  own : Passed (own_tests x (marks_in (nodes t) ws) (cells_in (nodes t) ws) t)

module _ (x : Call) (words dock : ℕ) (ws t : Words) (ok : quick_number x words dock ws t ≡ 0) where
  abbrev ms : Words
  ms = marks_in (nodes t) ws

  taken : Taken x ws t
  unfolding quick_number
  taken =
      let ts = test (not (header_ok t)) 2 ∷ test (seventeen_in x t) 17 ∷ test (not (eqb (length ws) (summary_words (nodes t)))) 26
      ∷ test (not (way_in x ms t)) 4 ∷ test (ltb 1 dock) 18 ∷ test (ltb words (words_for dock)) 5
      ∷ own_tests x ms (cells_in (nodes t) ws) t in
      let h = (none-holds ts (
        (λ e. omega arith),
        (
          (λ e. omega arith),
          (
            (λ e. omega arith),
            ((λ e. omega arith), ((λ e. omega arith), ((λ e. omega arith), own-numbers x ms (cells_in (nodes t) ws) t))),
          ),
        ),
      )).0 ok in
      record { header = (not-false-iff _).0 h.0; collection = h.1.0; way = (not-false-iff _).0 h.1.1.1.0; own = h.1.1.1.1.1.1 }

root-low : (n : ℕ) (t : Words) → no_collection n t ≡ false → root_word n < 8
root-low n t h = ⊎_elim (λ e. omega (arith, e)) (λ e. omega (arith, e)) (there n t h).0

high-of : (ms t : Words) (n k : ℕ) → way_ok ms (view_of n t) k ≡ true → height (view_of n t) ≤ 15
unfolding way_ok
high-of ms t n k e = let u = simp and-iff at e in (leb-iff _ _).0 u.0

-- Its stores lie in the table, with at most 1,137 orders.
pub quick-fits : (x : Call) (words dock : ℕ) (ws t : Words) → quick_number x words dock ws t ≡ 0
    → Fits 1137 (length t) (quick_stores x ws t)
unfolding quick_stores
quick-fits (insertion n k r d) words dock ws t ok =
    let u = taken (insertion n k r d) words dock ws t ok in
    insert-fits n (marks_in (nodes t) ws) t k ((header-iff t).0 u.header).size.long (root-low n t u.collection)
    (high-of (marks_in (nodes t) ws) t n k u.way) _
quick-fits (deletion n k) words dock ws t ok =
    let u = taken (deletion n k) words dock ws t ok in
    let w = (and-iff _ _).0 u.way in
    fits-more 52 1137 (length t) _ (omega arith)
    (delete-fits n (marks_in (nodes t) ws) t k ((header-iff t).0 u.header).size.long w.0 ((not-false-iff _).0 u.own.0) w.1)
quick-fits (class_change n k d) words dock ws t ok =
    let u = taken (class_change n k d) words dock ws t ok in
    fits-more 2 1137 (length t) _ (omega arith)
    (class-fits n (marks_in (nodes t) ws) t k ((header-iff t).0 u.header).size.long u.way ((not-false-iff _).0 u.own.1.0) d)
quick-fits repair words dock ws t ok = fits-more 0 1137 (length t) [] (omega arith) (fits-none (length t))

-- ---- the summary keeps its length

way-marks : (N k : ℕ) (rest : List ℕ) (g : Going) → length (split_way N k rest g).marks ≡ length g.marks
unfolding split_way
way-marks N k [] g = refl
way-marks N k (a ∷ rest) g = go (can_split N g.table a (free_after N g.marks a) g.under) refl (way-marks N k rest)
  where
    go : (e : Bool) → can_split N g.table a (free_after N g.marks a) g.under ≡ e
        → ((g : Going) → length (split_way N k rest g).marks ≡ length g.marks) → length (split_way N k (a ∷ rest) g).marks ≡ length g.marks
    go true e ih = rw (e, split_way) (ih _ ∙ put-length g.marks (free_after N g.marks a))
    go false e ih = rw (e, split_way)

start-marks : (n : ℕ) (ms t : Words) (k : ℕ) → length (start_way n ms t k).marks ≡ length ms
unfolding start_way
start-marks n ms t k = go (root_in_run n t k && in_range (nodes t) r)
  where
    r : ℕ
    r = free_after (nodes t) ms (at t (root_word n))

    go : (b : Bool) → length
        (cond b (going (new_root_at (root_word n) t r) (apply (new_root_at (root_word n) t r) t) (put ms r) r)
        (going [] t ms (standing n t (run n t k) k))).marks ≡ length ms
    go true = put-length ms r
    go false = refl

both-parts : (N : ℕ) (ws : Words) → length (marks_in N ws) + length (cells_in N ws) ≡ length ws
both-parts N ws = sym (length-append (marks_in N ws) (cells_in N ws)) ∙ ap length (take-append-drop (mark_words N) ws)

made-marks : (n : ℕ) (ms t : Words) (k : ℕ) → length (way_made n ms t k).marks ≡ length ms
unfolding way_made
made-marks n ms t k = way-marks (nodes t) k (run_of n t k) (start_way n ms t k) ∙ start-marks n ms t k

freed-marks : (b : Bool) (ms : Words) (x : ℕ) → length (cond b (cleared ms x) ms) ≡ length ms
freed-marks true ms x = cleared-length ms x
freed-marks false ms x = refl

pub quick-length : (x : Call) (ws t : Words) → length (quick_words x ws t) ≡ length ws
unfolding quick_words
quick-length (insertion n k r d) ws t =
    let ms = marks_in (nodes t) ws in
    let cs = cells_in (nodes t) ws in
    length-append (way_made n ms t k).marks (entered cs (cell_of n r))
    ∙ omega (arith, made-marks n ms t k, entered-length cs (cell_of n r), both-parts (nodes t) ws)
quick-length (deletion n k) ws t =
    let ms = marks_in (nodes t) ws in
    let cs = cells_in (nodes t) ws in
    length-append (cond (frees n t k) (cleared ms (leaf_for n t k)) ms) (without cs (cell_of n (recording_at n t k)))
    ∙ omega (
      arith,
      freed-marks (frees n t k) ms (leaf_for n t k),
      without-length cs (cell_of n (recording_at n t k)),
      both-parts (nodes t) ws,
    )
quick-length (class_change n k d) ws t = refl
quick-length repair ws t = refl
