-- A quick call with a summary that is true of the table: its number, its stores, and the summary after it.
use Rattle.std.proofs.Common.{◌≡◌, ℕ, zero, suc, ◌<◌, ◌≤◌, Bool, true, false, cond, not, ◌&&◌, ◌||◌, eqb, ltb, ◌≢◌, List, [], ◌∷◌, ◌++◌}
use Rattle.std.proofs.Common.{map, length, sym, refl, ap, ◌∙◌, inl, inr, arith, length-append, length-drop, length-take, take_at, drop_at}
use Rattle.std.proofs.Common.{eq-eqb, ne_eqb, eqb-true}
use mathlib.Core.Bool.{false≢true}
use borrow.Author.Tests.{eqb-false}
use Rattle.model.specs.Results.{refused_with, done_with}
use Rattle.model.specs.Table.{Words, at, nodes, root_word, header_ok, no_collection}
use Rattle.model.specs.Slots.{Slot, RECORDINGS, recording, pointer_of, recording_ok, view_of}
use Rattle.model.specs.Search.{first_with}
use Rattle.model.specs.Reached.{map_of, reached_all, Maps, unless_lacking, maps_of}
use Rattle.model.specs.SoundTest.{elem, distinct, settled, sound}
use Rattle.model.specs.Orders.{Store, apply, store_count, flush_count, barrier_count, list_with}
use Rattle.model.specs.Writes.{set_class_at, standing, repaired, insert_settled, insert_stores, delete_settled, delete_stores, class_stores}
use Rattle.model.specs.Writes.{Call, insertion, deletion, class_change, repair, stores_of}
use Rattle.model.specs.Refusals.{seventeen_in, eleven_in, ten_in, own_map, too_high, too_few, first_number, has_key, has_recording}
use Rattle.model.specs.Refusals.{map_tests, words_for, refusal, unless_refused, orders_of, written, table_after, list_after}
use Rattle.model.specs.Marks.{has, cleared}
use Rattle.model.specs.Cells.{holds, entered, without}
use Rattle.model.specs.Summary.{mark_words, cell_words, summary_words, marks_in, cells_in, cell_of, recordings_of, recordings_in, way_in}
use Rattle.model.specs.Summary.{frees, recording_in, recording_at, own_tests, way_made}
use Rattle.model.specs.Summary.{quick_number, quick_stores, quick_words, quick_orders, quick_written, quick_table, quick_list}
use Rattle.model.specs.Summary.{quick_summary}
use Rattle.list_laws.proofs.Tools.{or-false-iff, or-right, and-iff, eqb-sym, first-here, first-past}
use Rattle.list_laws.proofs.Distinct.{distinct-cons}
use Rattle.list_laws.proofs.Recordings.{recording-iff, recording-below, recording-of}
use Rattle.table_laws.proofs.Header.{header-iff}
use Rattle.table_laws.proofs.Collections.{by-number}
use Rattle.tree_laws.proofs.MapLaw.{MapRises, map-rises}
use Rattle.set_laws.specs.Sets.{SetOf}
use Rattle.set_laws.proofs.Holding.{holds-member}
use Rattle.set_laws.proofs.Closing.{without-set, without-length}
use Rattle.set_laws.proofs.Room.{Free, room, same-set, entered-one, entered-length}
use Rattle.two_laws.specs.Parts.{Enters}
use Rattle.two_laws.proofs.LeafStores.{leaf-for, class-reached}
use Rattle.two_laws.proofs.DeleteTwo.{settled-frees, settled-others, settled-stays, delete-course}
use Rattle.two_laws.proofs.Arrange.{arr-covers, course-arr}
use Rattle.two_laws.proofs.CallsTwo.{settled-repair}
use Rattle.two_laws.proofs.AcceptedTwo.{Accepted, accepted-iff}
use Rattle.two_laws.proofs.PartsTwo.{beside, tree}
use Rattle.two_laws.proofs.MapsTwo.{Steps, accepted-steps, nodes-after}
use Rattle.two_laws.proofs.SearchTwo.{sound-head}
use Rattle.two_laws.proofs.SameTwo.{settled-sound}
use Rattle.summary_laws.specs.Current.{Current}
use Rattle.summary_laws.proofs.Marks.{MarksTrue, marks-less, marks-same}
use Rattle.summary_laws.proofs.Entering.{insert-stores, insert-marks}
use Rattle.summary_laws.proofs.Recordings.{Has, KeyOnce, recordings-elem, recordings-more, recordings-less, recordings-class}
use Rattle.change_laws.proofs.Pairs.{has-recording}
use Rattle.summary_laws.proofs.Opened.{recordings-few, no-zero}
use Rattle.summary_laws.proofs.Testing.{in-range, stands, way-ok, too-few, leaf-first, leaf-key, neighbour}

-- ---- the parts of a summary

-- a summary from its parts
pub current : (t ms cs : Words) → settled t ≡ true → MarksTrue ms t → length cs ≡ cell_words (nodes t)
    → SetOf cs (λ (x : ℕ). elem x (recordings_in t)) → Current (ms ++ cs) t
current t ms cs s m l c = record {
  long = length-append ms cs ∙ omega (arith, m.long, l);
  settled = s;
  marks = λ n r. ap (λ (q : Words). has q n) (take_at ms cs (mark_words (nodes t)) m.long) ∙ m.same n r;
  cells = rw (drop_at ms cs (mark_words (nodes t)) m.long) c;
}

-- the maps of a settled table
has-map : (n : ℕ) (t : Words) → no_collection n t ≡ false → Has n (map_of n t) (maps_of t)
has-map n t h = by-number t (λ (n : ℕ). Has n (map_of n t) (maps_of t)) (inl (refl, unfold maps_of in refl)) second n h
  where
    second : at t 3 ≢ 0 → Has 2 (map_of 2 t) (maps_of t)
    second z = inr (refl, unfold maps_of in ap (λ (b : Bool). unless_lacking b (map_of 2 t)) (ne_eqb (at t 3) 0 z))

cell-real : (n r : ℕ) → 1 ≤ r → cell_of n r ≢ 0
unfolding pointer_of
cell-real n r h e = omega arith

-- ---- the pair of a key

key-elem : (k : ℕ) (ps : List Slot) → has_key k ps ≡ elem k (map (λ (s : Slot). s.key) ps)
unfolding has_key elem
key-elem k [] = refl
key-elem k (s ∷ ps) = ap (λ (b : Bool). b || has_key k ps) (eqb-sym s.key k) ∙ ap (λ (b : Bool). eqb k s.key || b) (key-elem k ps)

member : (r : ℕ) (a : List Slot) (x : Slot) (b : List Slot) → recording x ≡ r → has_recording r (a ++ x ∷ b) ≡ true
unfolding has_recording
member r [] x b e = ap (λ (c : Bool). c || has_recording r b) (eq-eqb (recording x) r e)
member r (y ∷ a) x b e = or-right (eqb (recording y) r) (has_recording r (a ++ x ∷ b)) (member r a x b e)

-- in a map keys and recordings stand once
key-once : (k : ℕ) (ps : List Slot) → distinct (map (λ (s : Slot). s.key) ps) ≡ true → distinct (map recording ps) ≡ true → has_key k ps
    ≡ true → KeyOnce k (recording_in (first_with k ps)) ps
unfolding has_key has_recording
key-once k [] d e h = absurd (false≢true h)
key-once k (s ∷ ps) d e h =
    let u = (distinct-cons s.key (map (λ (s : Slot). s.key) ps)).0 d in
    let w = (distinct-cons (recording s) (map recording ps)).0 e in
    go (eqb s.key k) refl u.0 w.0 (key-once k ps u.1 w.1)
  where
    go : (b : Bool) → eqb s.key k ≡ b → elem s.key (map (λ (s : Slot). s.key) ps) ≡ false → elem (recording s) (map recording ps) ≡ false
        → (has_key k ps ≡ true → KeyOnce k (recording_in (first_with k ps)) ps) → KeyOnce k (recording_in (first_with k (s ∷ ps))) (s ∷ ps)
    go true q off other ih =
        let z = eqb-true s.key k q in
        rw (first-here k s ps z) (record {
          before = [];
          it = s;
          after = ps;
          shape = refl;
          key = z;
          has = refl;
          no-key = (refl, key-elem k ps ∙ ap (λ (j : ℕ). elem j (map (λ (s : Slot). s.key) ps)) (sym z) ∙ off);
          no-other = (refl, has-recording (recording s) ps ∙ other);
        })
    go false q off other ih =
        let r = recording_in (first_with k ps) in
        let o = ih (ap (λ (b : Bool). b || has_key k ps) (sym q) ∙ h) in
        let differs : recording s ≢ r =
        λ z. false≢true (sym other ∙ ap (λ (j : ℕ). elem j (map recording ps)) z ∙ sym (has-recording r ps)
        ∙ ap (has_recording r) o.shape ∙ member r o.before o.it o.after o.has) in
        rw (first-past k s ps (eqb-false s.key k q)) (record {
          before = s ∷ o.before;
          it = o.it;
          after = o.after;
          shape = ap (λ (l : List Slot). s ∷ l) o.shape;
          key = o.key;
          has = o.has;
          no-key = ((or-false-iff (eqb s.key k) (has_key k o.before)).1 (q, o.no-key.0), o.no-key.1);
          no-other = (
            (or-false-iff (eqb (recording s) r) (has_recording r o.before)).1
                (ne_eqb (recording s) r differs, o.no-other.0),
            o.no-other.1,
          );
        })

module _ (ws t : Words) (c : Current ws t) where
  abbrev ms : Words
  ms = marks_in (nodes t) ws

  abbrev cs : Words
  cs = cells_in (nodes t) ws

  s : settled t ≡ true
  s = c.settled

  snd : sound t ≡ true
  snd = settled-sound t s

  header : header_ok t ≡ true
  header = sound-head t snd

  pub marks-true : MarksTrue (marks_in (nodes t) ws) t
  marks-true = record { long = omega (arith, length-take (mark_words (nodes t)) ws, c.long); same = c.marks }

  cells-long : length (cells_in (nodes t) ws) ≡ cell_words (nodes t)
  cells-long = omega (arith, length-drop (mark_words (nodes t)) ws, c.long)

  fewer : length (recordings_in t) < length (cells_in (nodes t) ws)
  unfolding cell_words
  fewer = omega (arith, cells-long, recordings-few t s, ((header-iff t).0 header).size.some)

  free : Free (cells_in (nodes t) ws)
  free = room (cells_in (nodes t) ws) (recordings_in t) c.cells fewer

  same-repaired : repaired t ≡ t
  unfolding repaired apply
  same-repaired = rw (settled-repair t s)

  -- ---- 8

  eight : (n r : ℕ) → no_collection n t ≡ false → recording_ok r ≡ true → holds (cells_in (nodes t) ws) (cell_of n r)
      ≡ has_recording r (map_of n t)
  eight n r h e =
      let u = (recording-iff r).0 e in
      holds-member (length (cells_in (nodes t) ws)) (cells_in (nodes t) ws) (λ (x : ℕ). elem x (recordings_in t)) (omega (arith, fewer))
      (no-zero t s) refl c.cells (cell_of n r) (cell-real n r u.0)
      ∙ recordings-elem n r (map_of n t) (maps_of t) u.1 (has-map n t h)

  -- ---- the number

  own-number : (x : Call) → seventeen_in x t ≡ false → first_number (own_tests x (marks_in (nodes t) ws) (cells_in (nodes t) ws) t)
      ≡ first_number (map_tests x (eleven_in x t) (ten_in x t) (own_map x t))
  own-number (insertion n k r d) h = go (recording_ok r) refl
    where
      go : (b : Bool) → recording_ok r ≡ b
          → first_number (own_tests (insertion n k r d) (marks_in (nodes t) ws) (cells_in (nodes t) ws) t)
          ≡ first_number (map_tests (insertion n k r d) (too_high n t k) (too_few n t k) (map_of n t))
      go true e = rw (leaf-key n t h s k, eight n r h e, too-few n t h s ms marks-true k)
      go false e = rw e
  own-number (deletion n k) h = rw (leaf-key n t h s k)
  own-number (class_change n k d) h = rw (leaf-key n t h s k)
  own-number repair h = refl

  way-in : (x : Call) → seventeen_in x t ≡ false → way_in x (marks_in (nodes t) ws) t ≡ true
  way-in (insertion n k r d) h = way-ok n t h s ms marks-true k
  way-in (deletion n k) h = (and-iff _ _).1 (way-ok n t h s ms marks-true k, neighbour n t h s k)
  way-in (class_change n k d) h = way-ok n t h s ms marks-true k
  way-in repair h = refl

  -- The number is that of the plain call.
  pub quick-number : (x : Call) (words dock : ℕ) → quick_number x words dock ws t ≡ refusal x words dock t
  unfolding quick_number refusal
  quick-number x words dock = go (seventeen_in x t) refl
    where
      go : (b : Bool) → seventeen_in x t ≡ b → quick_number x words dock ws t ≡ refusal x words dock t
      go true e = rw (header, e)
      go false e =
          rw (header, e, eq-eqb (length ws) (summary_words (nodes t)) c.long, way-in x e, snd, same-repaired)
          (ap (λ (z : ℕ). cond (ltb 1 dock) 18 (cond (ltb words (words_for dock)) 5 z)) (own-number x e))

  -- ---- the stores

  insert-same : (n k x : ℕ) → insert_stores n t k x ≡ insert_settled n t k x
  unfolding insert_stores
  insert-same n k x = rw (settled-repair t s, same-repaired)

  delete-same : (n k : ℕ) → delete_stores n t k ≡ delete_settled n t k
  unfolding delete_stores
  delete-same n k = rw (settled-repair t s, same-repaired)

  class-same : (n k d : ℕ) → class_stores n t k d ≡ set_class_at t (standing n t 0 k) k d
  unfolding class_stores
  class-same n k d = rw (settled-repair t s, same-repaired)

  class-stores : (n k d : ℕ) → stores_of (class_change n k d) t ≡ set_class_at t (standing n t 0 k) k d
  unfolding stores_of
  class-stores n k d = class-same n k d

  no-stores : apply (stores_of repair t) t ≡ t
  unfolding stores_of apply
  no-stores = rw (settled-repair t s)

  -- what an accepted call says of the table
  module _ (x : Call) (words dock : ℕ) (ok : refusal x words dock t ≡ 0) where
    accepted : Accepted x words dock t
    accepted = (accepted-iff x words dock t).0 ok

    steps : Steps x t
    steps = accepted-steps x words dock t snd ok

  enters : (n k r d words dock : ℕ) → refusal (insertion n k r d) words dock t ≡ 0 → Enters n k r d t
  enters n k r d words dock ok = rw same-repaired at (accepted (insertion n k r d) words dock ok).allows

  -- Accepted, it makes the stores of the plain call.
  pub quick-stores : (x : Call) (words dock : ℕ) → refusal x words dock t ≡ 0 → quick_stores x ws t ≡ stores_of x t
  unfolding quick_stores stores_of
  quick-stores (insertion n k r d) words dock ok =
      let h = (accepted (insertion n k r d) words dock ok).collection in
      let e = enters n k r d words dock ok in
      insert-stores n (beside n t h s).0 t k (beside n t h s).1 (tree n t h s) e.not-high e.enough ms marks-true (pointer_of r d)
      ∙ sym (insert-same n k (pointer_of r d))
  quick-stores (deletion n k) words dock ok = sym (delete-same n k)
  quick-stores (class_change n k d) words dock ok = sym (class-same n k d)
  quick-stores repair words dock ok = sym (settled-repair t s)

  -- ---- the summary after it

  module _ (n k r d words dock : ℕ) (ok : refusal (insertion n k r d) words dock t ≡ 0) where
    abbrev x : Call
    x = insertion n k r d

    abbrev t' : Words
    t' = apply (stores_of (insertion n k r d) t) t

    there' : no_collection n t ≡ false
    there' = (accepted x words dock ok).collection

    e : Enters n k r d t
    e = enters n k r d words dock ok

    r-ok : (1 ≤ r) × (r < RECORDINGS)
    r-ok = (recording-iff r).0 e.recording-ok

    stores-are : stores_of (insertion n k r d) t ≡ insert_settled n t k (pointer_of r d)
    unfolding stores_of
    stores-are = insert-same n k (pointer_of r d)

    marks-then : MarksTrue (way_made n (marks_in (nodes t) ws) t k).marks t'
    marks-then =
        rw stores-are (insert-marks n (beside n t there' s).0 t k (beside n t there' s).1 (tree n t there' s) e.not-high e.enough ms
        marks-true (pointer_of r d)
        (rw stores-are at (nodes-after x words dock t ok)))

    recordings-then : (y : ℕ) → elem y (cell_of n r ∷ recordings_in t) ≡ elem y (recordings_in t')
    unfolding elem
    recordings-then y =
        sym (ap (λ (m : Maps). elem y (recordings_of m)) (steps x words dock ok).all-map
        ∙ recordings-more n k (pointer_of r d) (map_of n t) (maps_of t) (has-map n t there') y
        ∙ ap (λ (q : ℕ). eqb y (cell_of n q) || elem y (recordings_in t)) (recording-of r d r-ok.1))

    pub insert-current :
        Current ((way_made n (marks_in (nodes t) ws) t k).marks ++ entered (cells_in (nodes t) ws) (cell_of n r))
        (apply (stores_of (insertion n k r d) t) t)
    insert-current =
        current t' _ (entered cs (cell_of n r)) (steps x words dock ok).all-settled marks-then
        (entered-length cs (cell_of n r) ∙ cells-long ∙ ap cell_words (sym (nodes-after x words dock t ok)))
        (same-set (entered cs (cell_of n r)) (λ (y : ℕ). elem y (cell_of n r ∷ recordings_in t))
        (λ (y : ℕ). elem y (recordings_in t')) recordings-then
        (entered-one cs (recordings_in t) (cell_of n r) c.cells (no-zero t s) (cell-real n r r-ok.0)
        (recordings-elem n r (map_of n t) (maps_of t) r-ok.1 (has-map n t there') ∙ e.no-recording) fewer))

  module _ (n k words dock : ℕ) (ok : refusal (deletion n k) words dock t ≡ 0) where
    abbrev y : Call
    y = deletion n k

    abbrev t₁ : Words
    t₁ = apply (stores_of (deletion n k) t) t

    there₁ : no_collection n t ≡ false
    there₁ = (accepted y words dock ok).collection

    has-key : has_key k (map_of n t) ≡ true
    has-key = rw same-repaired at (accepted y words dock ok).allows

    deletes : stores_of (deletion n k) t ≡ delete_settled n t k
    unfolding stores_of
    deletes = delete-same n k

    abbrev leaf : ℕ
    leaf = standing n t 0 k

    size₁ : nodes (apply (delete_settled n t k) t) ≡ nodes t
    size₁ = rw deletes at (nodes-after y words dock t ok)

    marks₁ : MarksTrue (cond (frees n t k) (cleared (marks_in (nodes t) ws) (standing n t 0 k)) (marks_in (nodes t) ws)) t₁
    marks₁ = rw deletes (go (frees n t k) refl)
      where
        ws' : List ℕ
        ws' = (beside n t there₁ s).0

        go : (b : Bool) → frees n t k ≡ b
            → MarksTrue (cond (frees n t k) (cleared ms (standing n t 0 k)) ms) (apply (delete_settled n t k) t)
        go true q =
            let arr = (beside n t there₁ s).1 in
            let f = tree n t there₁ s in
            let freed = settled-frees n ws' t arr f k has-key q in
            let after = course-arr 52 (root_word n) ws' t _ _ (delete-course n ws' t arr f k has-key) arr in
            rw q (marks-less ms t marks-true (apply (delete_settled n t k) t) size₁ leaf
            (in-range n t there₁ s leaf (stands n t there₁ s k).reached)
            (settled-others n ws' t arr f k has-key q)
            (((arr-covers (root_word n) ws' _ after).split leaf).1 (freed.free.unreached, freed.free.off)))
        go false q = rw q (marks-same ms t marks-true (apply (delete_settled n t k) t) size₁
            (λ z. ap (elem z) (settled-stays n ws' t (beside n t there₁ s).1 (tree n t there₁ s) k has-key q)))

    abbrev r : ℕ
    r = recording_at n t k

    rises : MapRises (map_of n t)
    rises = map-rises (view_of n t) (tree n t there₁ s).left.orderly

    once : KeyOnce k (recording_at n t k) (map_of n t)
    once = rw (leaf-first n t there₁ s k) at (key-once k (map_of n t) rises.keys-once rises.recordings-once has-key)

    r-in : recording_at n t k < RECORDINGS
    r-in = rw once.has at (recording-below once.it.pointer)

    held : elem (cell_of n (recording_at n t k)) (recordings_in t) ≡ true
    held = recordings-elem n r (map_of n t) (maps_of t) r-in (has-map n t there₁) ∙ ap (has_recording r) once.shape
        ∙ member r once.before once.it once.after once.has

    pub delete-current :
        Current (cond (frees n t k) (cleared (marks_in (nodes t) ws) (standing n t 0 k)) (marks_in (nodes t) ws)
        ++ without (cells_in (nodes t) ws) (cell_of n (recording_at n t k))) (apply (stores_of (deletion n k) t) t)
    delete-current =
        let f = free in
        current t₁ _ (without cs (cell_of n r)) (steps y words dock ok).all-settled marks₁
        (without-length cs (cell_of n r) ∙ cells-long ∙ ap cell_words (sym (nodes-after y words dock t ok)))
        (same-set (without cs (cell_of n r)) (λ (z : ℕ). not (eqb z (cell_of n r)) && elem z (recordings_in t))
        (λ (z : ℕ). elem z (recordings_in t₁))
        (λ z. sym (ap (λ (m : Maps). elem z (recordings_of m)) (steps y words dock ok).all-map
        ∙ recordings-less n k r (map_of n t) (maps_of t) (has-map n t there₁) r-in once z))
        (without-set (length cs) cs (λ (z : ℕ). elem z (recordings_in t)) (no-zero t s) refl c.cells f.cell f.inside
        f.free (cell_of n r) held))

  -- the same words, of a table with as many nodes that reaches the same and has the same recordings
  stays-current : (t' : Words) → nodes t' ≡ nodes t → settled t' ≡ true → ((m : ℕ) → elem m (reached_all t') ≡ elem m (reached_all t))
      → ((z : ℕ) → elem z (recordings_in t) ≡ elem z (recordings_in t')) → Current ws t'
  stays-current t' size s' same sets = record {
    long = c.long ∙ ap summary_words (sym size);
    settled = s';
    marks = λ m i. ap (λ (N : ℕ). has (marks_in N ws) m) size ∙ c.marks m (rw size at i) ∙ sym (same m);
    cells = rw size (same-set cs (λ (z : ℕ). elem z (recordings_in t)) (λ (z : ℕ). elem z (recordings_in t')) sets c.cells);
  }

  class-current : (n k d words dock : ℕ) → refusal (class_change n k d) words dock t ≡ 0
      → Current ws (apply (stores_of (class_change n k d) t) t)
  class-current n k d words dock ok =
      let x = class_change n k d in
      let h = (accepted x words dock ok).collection in
      let leaf = leaf-for n t k (tree n t h s).left.orderly in
      let stores : stores_of x t ≡ set_class_at t (standing n t 0 k) k d = class-stores n k d in
      stays-current (apply (stores_of x t) t) (nodes-after x words dock t ok) (steps x words dock ok).all-settled
      (λ m. ap (λ (ss : List Store). elem m (reached_all (apply ss t))) stores
      ∙ ap (elem m) (class-reached t (standing n t 0 k) leaf.some leaf.level k d leaf.few))
      (λ z. sym (ap (λ (m : Maps). elem z (recordings_of m)) (steps x words dock ok).all-map
      ∙ recordings-class n k d (map_of n t) (maps_of t) (has-map n t h) z))

  -- Accepted, it leaves a summary that is true of the table that it leaves.
  pub quick-current : (x : Call) (words dock : ℕ) → refusal x words dock t ≡ 0 → Current (quick_words x ws t) (apply (stores_of x t) t)
  unfolding quick_words
  quick-current (insertion n k r d) words dock ok = insert-current n k r d words dock ok
  quick-current (deletion n k) words dock ok = delete-current n k words dock ok
  quick-current (class_change n k d) words dock ok = class-current n k d words dock ok
  quick-current repair words dock ok = rw no-stores c

-- ---- what the host sees

module _ (ws t : Words) (c : Current ws t) (x : Call) where
  -- Answer, table and list are those of the plain call,
  pub quick-written : (words dock : ℕ) → quick_written x words dock ws t ≡ written x words dock t
  unfolding quick_written written
  quick-written words dock = rw (quick-number ws t c x words dock) (go (refusal x words dock t) refl)
    where
      go : (m : ℕ) → refusal x words dock t ≡ m
          → unless_refused (refusal x words dock t)
          (done_with (store_count (quick_orders x dock ws t)) (flush_count (quick_orders x dock ws t))
          (barrier_count (quick_orders x dock ws t))) (refused_with (refusal x words dock t))
          ≡ unless_refused (refusal x words dock t)
          (done_with (store_count (orders_of x dock t)) (flush_count (orders_of x dock t)) (barrier_count (orders_of x dock t)))
          (refused_with (refusal x words dock t))
      go zero e = rw (e, quick-stores ws t c x words dock e)
      go (suc m) e = rw e

  -- with a true summary a quick call leaves the table that the plain call leaves
  pub quick-table : (words dock : ℕ) → quick_table x words dock ws t ≡ table_after x words dock t
  unfolding quick_table table_after
  quick-table words dock = rw (quick-number ws t c x words dock) (go (refusal x words dock t) refl)
    where
      go : (m : ℕ) → refusal x words dock t ≡ m → unless_refused (refusal x words dock t) (apply (quick_stores x ws t) t) t
          ≡ unless_refused (refusal x words dock t) (apply (stores_of x t) t) t
      go zero e = rw (e, quick-stores ws t c x words dock e)
      go (suc m) e = rw e

  -- with a true summary a quick call leaves the order list that the plain call leaves
  pub quick-list : (lent : Words) (dock : ℕ) → quick_list x lent dock ws t ≡ list_after x lent dock t
  unfolding quick_list list_after
  quick-list lent dock = rw (quick-number ws t c x (length lent) dock) (go (refusal x (length lent) dock t) refl)
    where
      go : (m : ℕ) → refusal x (length lent) dock t ≡ m
          → unless_refused (refusal x (length lent) dock t) (list_with (quick_orders x dock ws t) lent) lent
          ≡ unless_refused (refusal x (length lent) dock t) (list_with (orders_of x dock t) lent) lent
      go zero e = rw (e, quick-stores ws t c x (length lent) dock e)
      go (suc m) e = rw e

  -- and the summary stays true, also where the call is refused.
  pub quick-true : (words dock : ℕ) → Current (quick_summary x words dock ws t) (quick_table x words dock ws t)
  unfolding quick_summary quick_table
  quick-true words dock = rw (quick-number ws t c x words dock) (go (refusal x words dock t) refl)
    where
      go : (m : ℕ) → refusal x words dock t ≡ m
          → Current (unless_refused (refusal x words dock t) (quick_words x ws t) ws)
          (unless_refused (refusal x words dock t) (apply (quick_stores x ws t) t) t)
      go zero e = rw (e, quick-stores ws t c x words dock e) (quick-current ws t c x words dock e)
      go (suc m) e = rw e c
