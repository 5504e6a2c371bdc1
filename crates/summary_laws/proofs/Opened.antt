-- The recordings of a settled table: how many, all different; and the summary that opening it gives is true of it.
use Rattle.std.proofs.Common.{◌≡◌, ℕ, suc, ◌*◌, ◌<◌, ◌≤◌, Bool, true, false, ◌&&◌, ◌||◌, eqb, ◌≢◌, ◌⊎◌, List, [], ◌∷◌, ◌++◌, map, length}
use Rattle.std.proofs.Common.{take, drop, replicate, refl, ap, ◌∙◌, inl, inr, append-nil, arith, length-append, take_at, drop_at, eq-eqb}
use Rattle.std.proofs.Common.{ne_eqb}
use mathlib.Core.Bool.{or-false, and-false}
use lib.ListN.{length-replicate}
use Rattle.model.specs.Table.{Words, at, nodes, in_range}
use Rattle.model.specs.Slots.{Slot, RECORDINGS, recording, pointer_of, height, view_of}
use Rattle.model.specs.Search.{within}
use Rattle.model.specs.Reached.{kept, reached, leaves, mapping, map_of, reached_all, maps_of}
use Rattle.model.specs.SoundTest.{elem, distinct, settled}
use Rattle.model.specs.Marks.{has, put_each}
use Rattle.model.specs.Cells.{entered, entered_all}
use Rattle.model.specs.Summary.{mark_words, cell_words, cell_of, cells_of, recordings_of, recordings_in, opened}
use Rattle.list_laws.proofs.Tools.{Each, Each-map, Each-append, same-or-not}
use Rattle.list_laws.proofs.Members.{each-mem, mem-each, elem-false, flat-short}
use Rattle.list_laws.proofs.Distinct.{distinct-cons, distinct-append, UpTo}
use Rattle.list_laws.proofs.Filters.{filter-short}
use Rattle.list_laws.proofs.Recordings.{recordings-iff, recording-below}
use Rattle.tree_laws.proofs.Rows.{Good, range-iff}
use Rattle.tree_laws.proofs.Levels.{Orderly, orderly-iff, mem-leaves}
use Rattle.tree_laws.proofs.NextLaw.{leaves-few}
use Rattle.word_laws.proofs.ShiftViews.{shown-few}
use Rattle.change_laws.proofs.Parts.{good-parts}
use Rattle.change_laws.proofs.Pairs.{has-recording}
use Rattle.set_laws.specs.Sets.{SetOf}
use Rattle.set_laws.proofs.Room.{none-set, same-set, entered-length, entered-all}
use Rattle.two_laws.proofs.Arrange.{all-one, all-two}
use Rattle.two_laws.proofs.SameTwo.{each-settled, settled-orderly, settled-sound}
use Rattle.two_laws.proofs.CollectionTwo.{reached-up, unreachable-all}
use Rattle.summary_laws.specs.Current.{Current}
use Rattle.summary_laws.proofs.Marks.{MarksTrue, marks-opened}
use Rattle.summary_laws.proofs.Recordings.{cells-elem}

-- ---- how many

map-few : (n : ℕ) (t : Words) → Orderly (view_of n t) → length (map_of n t) ≤ 11 * length (reached (view_of n t))
unfolding mapping kept
map-few n t o =
    let v = view_of n t in
    let few : Each (λ (x : ℕ). length (kept v x) ≤ 11) (leaves v) = mem-each (λ (x : ℕ). length (kept v x) ≤ 11) (leaves v) (λ x m.
    omega (
      arith,
      filter-short (λ (s : Slot). within v x s.key) (v.node x).shown,
      shown-few t x (good-parts v x (each-mem (Good v) o.good ((mem-leaves v x o).0 m).0)).0,
    )) in
    omega (arith, flat-short (kept v) 11 (leaves v) few, leaves-few v (height v) (v.root ∷ []))

cells-length : (n : ℕ) (ps : List Slot) → length (cells_of n ps) ≡ length ps
cells-length n [] = refl
cells-length n (s ∷ ps) = ap suc (cells-length n ps)

-- ---- a settled table, tree by tree

module _ (t : Words) (s : settled t ≡ true) where
  pub first-orderly : Orderly (view_of 1 t)
  first-orderly = (orderly-iff (view_of 1 t)).0 (settled-orderly (view_of 1 t) ((each-settled t).0 s).one)

  pub second-orderly : at t 3 ≢ 0 → Orderly (view_of 2 t)
  second-orderly z = (orderly-iff (view_of 2 t)).0 (settled-orderly (view_of 2 t) (((each-settled t).0 s).two z))

  alone : at t 3 ≡ 0 → recordings_in t ≡ cells_of 1 (map_of 1 t) ++ []
  unfolding recordings_of maps_of
  alone z = rw (eq-eqb (at t 3) 0 z)

  beside : at t 3 ≢ 0 → recordings_in t ≡ cells_of 1 (map_of 1 t) ++ cells_of 2 (map_of 2 t)
  unfolding recordings_of maps_of
  beside z = rw (ne_eqb (at t 3) 0 z)

  pub recordings-few : length (recordings_in t) ≤ 11 * nodes t
  recordings-few = go (same-or-not (at t 3) 0)
    where
      count : length (reached_all t) ≤ nodes t
      count = omega (arith, unreachable-all t (settled-sound t s))

      go : (at t 3 ≡ 0) ⊎ (at t 3 ≢ 0) → length (recordings_in t) ≤ 11 * nodes t
      go (inl z) = omega (
        arith,
        count,
        ap length (alone z),
        ap length (append-nil (cells_of 1 (map_of 1 t))),
        cells-length 1 (map_of 1 t),
        map-few 1 t first-orderly,
        ap length (all-one t z),
        ap length (append-nil (reached (view_of 1 t))),
      )
      go (inr z) = omega (
        arith,
        count,
        ap length (beside z),
        length-append (cells_of 1 (map_of 1 t)) (cells_of 2 (map_of 2 t)),
        cells-length 1 (map_of 1 t),
        cells-length 2 (map_of 2 t),
        map-few 1 t first-orderly,
        map-few 2 t (second-orderly z),
        ap length (all-two t z),
        length-append (reached (view_of 1 t)) (reached (view_of 2 t) ++ []),
        ap length (append-nil (reached (view_of 2 t))),
      )

-- ---- all different

cells-distinct : (n : ℕ) (ps : List Slot) → distinct (map recording ps) ≡ true → distinct (cells_of n ps) ≡ true
cells-distinct n [] d = unfold distinct in refl
cells-distinct n (s ∷ ps) d =
    let u = (distinct-cons (recording s) (map recording ps)).0 d in
    let r = recording s in
    (distinct-cons (cell_of n r) (cells_of n ps)).1 (
      cells-elem n n r ps (recording-below s.pointer) ∙ ap (λ (b : Bool). eqb n n && b) (has-recording r ps ∙ u.0) ∙ and-false (eqb n n),
      cells-distinct n ps u.1,
    )

cells-each : (P : ℕ → Type 0) (n : ℕ) (ps : List Slot) → ((r : ℕ) → r < RECORDINGS → P (cell_of n r)) → Each P (cells_of n ps)
cells-each P n [] h = tt
cells-each P n (s ∷ ps) h = (h (recording s) (recording-below s.pointer), cells-each P n ps h)

cell-some : (n r : ℕ) → 1 ≤ n → cell_of n r ≢ 0
unfolding pointer_of
cell-some n r h e = omega arith

module _ (t : Words) (s : settled t ≡ true) where
  pub recordings-distinct : distinct (recordings_in t) ≡ true
  recordings-distinct = go (same-or-not (at t 3) 0)
    where
      one : distinct (cells_of 1 (map_of 1 t)) ≡ true
      one = cells-distinct 1 (map_of 1 t) ((recordings-iff (map_of 1 t)).0 (first-orderly t s).recordings).1

      go : (at t 3 ≡ 0) ⊎ (at t 3 ≢ 0) → distinct (recordings_in t) ≡ true
      go (inl z) = rw (alone t s z, append-nil (cells_of 1 (map_of 1 t))) one
      go (inr z) = rw (beside t s z) ((distinct-append (cells_of 1 (map_of 1 t)) (cells_of 2 (map_of 2 t))).1 (
        one,
        cells-distinct 2 (map_of 2 t) ((recordings-iff (map_of 2 t)).0 (second-orderly t s z).recordings).1,
        cells-each (λ (x : ℕ). elem x (cells_of 2 (map_of 2 t)) ≡ false) 1 (map_of 1 t) (λ r l. cells-elem 1 2 r (map_of 2 t) l),
      ))

  pub recordings-some : Each (λ (x : ℕ). x ≢ 0) (recordings_in t)
  recordings-some = go (same-or-not (at t 3) 0)
    where
      some : (n : ℕ) → 1 ≤ n → Each (λ (x : ℕ). x ≢ 0) (cells_of n (map_of n t))
      some n h = cells-each (λ (x : ℕ). x ≢ 0) n (map_of n t) (λ r l. cell-some n r h)

      go : (at t 3 ≡ 0) ⊎ (at t 3 ≢ 0) → Each (λ (x : ℕ). x ≢ 0) (recordings_in t)
      go (inl z) = rw (alone t s z) (Each-append (λ (x : ℕ). x ≢ 0) (cells_of 1 (map_of 1 t)) [] (some 1 (omega arith)) tt)
      go (inr z) = rw (beside t s z)
          (Each-append (λ (x : ℕ). x ≢ 0) (cells_of 1 (map_of 1 t)) (cells_of 2 (map_of 2 t)) (some 1 (omega arith)) (some 2 (omega arith)))

  pub no-zero : elem 0 (recordings_in t) ≡ false
  no-zero = (elem-false 0 (recordings_in t)).1 recordings-some

  -- ---- opening

  marks : MarksTrue (put_each (reached_all t) (replicate (mark_words (nodes t)) 0)) t
  marks = marks-opened t
      (Each-map (UpTo (nodes t)) (λ (n : ℕ). in_range (nodes t) n ≡ true) (reached_all t) (λ n u. (range-iff (nodes t) n).1 u)
      (reached-up t (settled-sound t s)))

  abbrev blanks : Words
  blanks = replicate (cell_words (nodes t)) 0

  all-cells : (xs : List ℕ) (cs : Words) → length (entered_all cs xs) ≡ length cs
  unfolding entered_all
  all-cells [] cs = refl
  all-cells (x ∷ xs) cs = all-cells xs (entered cs x) ∙ entered-length cs x

  cells : SetOf (entered_all (replicate (cell_words (nodes t)) 0) (recordings_in t)) (λ (y : ℕ). elem y (recordings_in t))
  unfolding cell_words elem
  cells =
      same-set (entered_all blanks (recordings_in t)) (λ (y : ℕ). elem y (recordings_in t) || elem y [])
      (λ (y : ℕ). elem y (recordings_in t)) (λ y. or-false (elem y (recordings_in t)))
      (entered-all (recordings_in t) [] blanks (none-set (cell_words (nodes t))) refl recordings-some recordings-distinct
      (mem-each (λ (x : ℕ). elem x [] ≡ false) (recordings_in t) (λ x m. refl))
      (omega (arith, recordings-few t s, length-replicate {A = ℕ} (16 * nodes t) 0)))

  -- The summary that opening gives is true of the table.
  pub opened-current : Current (opened t) t
  unfolding opened
  opened-current =
      let a = put_each (reached_all t) (replicate (mark_words (nodes t)) 0) in
      let b = entered_all blanks (recordings_in t) in
      let first : take (mark_words (nodes t)) (a ++ b) ≡ a = take_at a b (mark_words (nodes t)) marks.long in
      let second : drop (mark_words (nodes t)) (a ++ b) ≡ b = drop_at a b (mark_words (nodes t)) marks.long in
      record {
        long = length-append a b
            ∙ omega (arith, marks.long, all-cells (recordings_in t) blanks, length-replicate {A = ℕ} (cell_words (nodes t)) 0);
        settled = s;
        marks = λ n r. ap (λ (ms : Words). has ms n) first ∙ marks.same n r;
        cells = rw second cells;
      }
