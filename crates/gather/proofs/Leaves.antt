-- The slots of a leaf, and of all leaves among nodes entered.
use Rattle.std.proofs.Common.{◌≡◌, ℕ, zero, suc, ◌+◌, ◌-◌, ◌*◌, ◌<◌, ◌≤◌, Bool, true, false, cond, not, ◌&&◌, eqb, ◌≢◌, List, [], ◌∷◌, ◌++◌}
use Rattle.std.proofs.Common.{length, get_or, take, drop, replicate, sym, refl, ap, ◌∙◌, subst, le_trans, arith, length-append}
use Rattle.std.proofs.Common.{drop_of_length-le, length-take-le, drop-cons, drop-drop, drop_at, ne_eqb, eqb-true}
use lib.ListN.{length-replicate}
use lib.Seq.{drop-length, take-append-le}
use borrow.Author.Tests.{eqb-false}
use Rattle.model.specs.declared.Node.{Node}
use Rattle.model.specs.Table.{Words, node}
use Rattle.model.specs.Slots.{Slot, slot, slots_of, node_view}
use Rattle.model.specs.SoundTest.{rising}
use Rattle.model.specs.Refusals.{has_recording}
use Rattle.model.specs.Salvage.{Placed, under_fence, in_reach, Gathered, reason_for, gather_slot, gather_slots, collected, gather_nodes}
use Rattle.model.specs.Salvage.{gathered_along}
use Rattle.tour_laws.specs.Walk.{slot_at, before, slots_from}
use Rattle.tour_laws.proofs.Gathering.{slot-kept, slot-dropped, collected-leaf, collected-inner}
use Rattle.tour_laws.proofs.Ways.{slots-first, slots-end, slots-hidden, slots-ignored, slots-next, slots-past}
use Rattle.tour.proofs.Looks.{slot-words, met-then}
use Rattle.numbers.proofs.Filed.{filed-none}
use Rattle.pack.specs.Rows.{pairs_in}
use Rattle.gap.specs.Around.{around}
use Rattle.gather.specs.declared.Tally.{Tally}
use Rattle.gather.specs.Held.{placed, drops_in, held, gathered_in, Standing, Room, Kept, met, none, Along, Ready}
use Rattle.gather.proofs.Pairs.{enter-length}

-- ---- what is kept is never fewer

slot-grows : (n : ℕ) (g : Gathered) (x : Placed) → length g.kept ≤ length (gather_slot n g x).kept
slot-grows n g x = go (reason_for g.kept x.slot) refl
  where
    go : (y : ℕ) → reason_for g.kept x.slot ≡ y → length g.kept ≤ length (gather_slot n g x).kept
    go zero e = let a = ap (λ (h : Gathered). length h.kept) (slot-kept n g x e) in let b =
        enter-length x.slot.key x.slot.pointer g.kept in omega arith
    go (suc y) e = let a = ap (λ (h : Gathered). length h.kept) (slot-dropped n g x y e) in omega arith

slots-grow : (n : ℕ) (xs : List Placed) (g : Gathered) → length g.kept ≤ length (gather_slots n xs g).kept
unfolding gather_slots
slots-grow n [] g = omega arith
slots-grow n (x ∷ xs) g = le_trans (slot-grows n g x) (slots-grow n xs (gather_slot n g x))

nodes-grow : (t : Words) (ns : List ℕ) (g : Gathered) → length g.kept ≤ length (gather_nodes t ns g).kept
unfolding gather_nodes
nodes-grow t [] g = omega arith
nodes-grow t (n ∷ ns) g = le_trans (slots-grow n (collected t n) g) (nodes-grow t ns (gather_slots n (collected t n) g))

-- ---- one slot of a leaf

-- what `tour::is_met` answers is whether it is collected
module _ (t : Words) (s b i k p : ℕ) where
  pub unmet-is : (not (eqb p b) && under_fence t s k) ≡ false → met t s b i k p ≡ []
  unfolding met
  unmet-is e = go (eqb p b) refl
    where
      go : (c : Bool) → eqb p b ≡ c → cond (eqb p b) [] (cond (under_fence t s k) (placed i k p ∷ []) []) ≡ []
      go true q = rw q refl
      go false q = rw (q, (rw q at e)) refl

  pub met-is : (not (eqb p b) && under_fence t s k) ≡ true → met t s b i k p ≡ placed i k p ∷ []
  unfolding met
  met-is e = let u = met-then p b (under_fence t s k) e in rw (ne_eqb p b u.0, u.1) refl

module _ (t : Words) (s b i k p n : ℕ) (g : Gathered) where
  -- a slot that is hidden, or not below the sibling's fence, adds nothing
  pub met-none : (not (eqb p b) && under_fence t s k) ≡ false → g ≡ gather_slots n (met t s b i k p) g
  met-none e = rw (unmet-is t s b i k p e) (unfold gather_slots in refl)

  -- a shown slot below the sibling's fence is gathered
  pub met-taken : (not (eqb p b) && under_fence t s k) ≡ true → (h : Gathered) → h ≡ gather_slot n g (placed i k p) → h
      ≡ gather_slots n (met t s b i k p) g
  met-taken e h q = rw (met-is t s b i k p e) (unfold gather_slots in q)

  pub met-most : (not (eqb p b) && under_fence t s k) ≡ true → (m : ℕ) → length (gather_slots n (met t s b i k p) g).kept ≤ m
      → length (gather_slot n g (placed i k p)).kept ≤ m
  met-most e m h = rw (met-taken e (gather_slot n g (placed i k p)) refl) h

pub kept-same : (report : Words) (t : Tally) → Kept report t report t 1
kept-same report t = record { stay = refl; sum = omega arith; more = omega arith }

-- what is met at place i, then the rest
module _ (t : Words) (n : ℕ) (x : Node) (q : x ≡ node t n) where
  abbrev key : ℕ → ℕ
  key i = get_or x.slots (2 * i) 0

  abbrev pointer : ℕ → ℕ
  pointer i = get_or x.slots (2 * i + 1) 0

  at-slot : (i : ℕ) → i < 12 → slot_at t n i ≡ slot (key i) (pointer i)
  at-slot i h = slot-words t n x q i (omega arith)

  sibling-is : (node_view t n).sibling ≡ x.sibling
  sibling-is = ap (λ (y : Node). y.sibling) (sym q)

  -- a slot in use adds what is met at it, then what the slots after it add
  pub leaf-step : (i b : ℕ) → i < 12 → pointer i ≢ 0 → b ≡ before t n i → slots_from t n i ≡ met t x.sibling b i (key i) (pointer i)
      ++ slots_from t n (i + 1)
  leaf-step i b h z e = go (eqb (pointer i) b) refl (under_fence t x.sibling (key i)) refl
    where
      ptr : (slot_at t n i).pointer ≡ pointer i
      ptr = ap (λ (u : Slot). u.pointer) (at-slot i h)

      some : (slot_at t n i).pointer ≢ 0
      some y = z (sym ptr ∙ y)

      reach : in_reach t n (record { place = i; slot = slot_at t n i }) ≡ under_fence t x.sibling (key i)
      reach = ap (λ (u : Slot). under_fence t (node_view t n).sibling u.key) (at-slot i h)
          ∙ ap (λ (y : ℕ). under_fence t y (key i)) sibling-is

      next : i + 1 ≡ suc i
      next = omega arith

      go : (c : Bool) → eqb (pointer i) b ≡ c → (d : Bool) → under_fence t x.sibling (key i) ≡ d → slots_from t n i
          ≡ met t x.sibling b i (key i) (pointer i) ++ slots_from t n (i + 1)
      go true c d f = slots-hidden t n i some (ptr ∙ eqb-true (pointer i) b c ∙ e) ∙ (unfold met in rw (c, next))
      go false c false f =
          slots-ignored t n i some (λ y. eqb-false (pointer i) b c (sym ptr ∙ y ∙ sym e)) (reach ∙ f) ∙ (unfold met in rw (c, f, next))
      go false c true f = slots-next t n i some (λ y. eqb-false (pointer i) b c (sym ptr ∙ y ∙ sym e)) (reach ∙ f)
          ∙ ap (λ (u : Slot). record { place = i; slot = u } ∷ slots_from t n (suc i)) (at-slot i h) ∙ (unfold met in rw (c, f, next))

  -- from a slot with pointer 0 on nothing is collected
  pub leaf-stop : (i : ℕ) → i < 12 → pointer i ≡ 0 → slots_from t n i ≡ []
  leaf-stop i h z = slots-end t n i (ap (λ (u : Slot). u.pointer) (at-slot i h) ∙ z)

  -- the pointer before slot i + 1 is that of slot i
  pub before-next : (i : ℕ) → i < 12 → pointer i ≡ before t n (i + 1)
  before-next i h = let e : i + 1 ≡ suc i = omega arith in rw e (sym (ap (λ (u : Slot). u.pointer) (at-slot i h)))

  -- the pointer before slot 0 is the node's left
  pub before-first : x.left ≡ before t n 0
  before-first = ap (λ (y : Node). y.left) q

  -- a leaf adds what its slots from 0 on add
  pub leaf-start : x.level ≡ 0 → collected t n ≡ slots_from t n 0
  leaf-start e = collected-leaf t n (ap (λ (y : Node). y.level) (sym q) ∙ e) ∙ slots-first t n

  -- a node that is no leaf adds nothing
  pub leaf-not : x.level ≢ 0 → collected t n ≡ []
  leaf-not e = collected-inner t n (λ y. e (ap (λ (z : Node). z.level) q ∙ y))

-- ---- the loops

-- no pairs below the gap, and none above it
no-pairs : (ws : Words) → around ws 0 0 ≡ []
unfolding slots_of
no-pairs ws = let e : length ws - 2 * (0 - 0) ≡ length ws =
    omega arith in ap (λ (i : ℕ). slots_of (drop i ws)) e ∙ ap slots_of (drop-length ws)

-- gathering joined lists of slots is gathering the one, then the other
pub slots-append : (n : ℕ) (xs ys : List Placed) (g : Gathered) → gather_slots n (xs ++ ys) g ≡ gather_slots n ys (gather_slots n xs g)
unfolding gather_slots
slots-append n [] ys g = refl
slots-append n (x ∷ xs) ys g = slots-append n xs ys (gather_slot n g x)

kept-then : (r r' r'' : Words) (t t' t'' : Tally) (a b : ℕ) → Kept r t r' t' a → Kept r' t' r'' t'' b → Kept r t r'' t'' (a + b)
kept-then r r' r'' t t' t'' a b x y =
    let d = t'.dropped in
    let e = t''.dropped in
    let f : 3 * d + 3 * (e - d) ≡ 3 * e = let m = y.more in omega arith in
    let far : (l : Words) → drop (3 * e) l ≡ drop (3 * (e - d)) (drop (3 * d) l) =
    λ l. sym (drop-drop (3 * (e - d)) (3 * d) l ∙ ap (λ (i : ℕ). drop i l) f) in
    record {
      stay = y.stay ∙ far r' ∙ ap (drop (3 * (e - d))) x.stay ∙ sym (far r);
      sum = let p = x.sum in let q = y.sum in omega arith;
      more = let p = x.more in let q = y.more in omega arith;
    }

module _ (t : Words) (n : ℕ) (x : Node) (q : x ≡ node t n) (b : ℕ) (w₀ r₀ : Words) (t₀ : Tally) (room : Room r₀ t₀ 12)
    (most : length (gather_slots n (collected t n) (held w₀ b r₀ t₀)).kept ≤ b) where
  -- the slots before place i are gathered
  pub record Collecting (w r : Words) (p : Tally) (y i : ℕ) : Type 0 where
    pub few : i ≤ 12
    pub pointer-before : y ≡ before t n i
    pub rest : gather_slots n (slots_from t n i) (held w b r p) ≡ gather_slots n (collected t n) (held w₀ b r₀ t₀)
    pub kept : Kept r₀ t₀ r p i
    pub standing : Standing w b p
    pub words : length w ≡ length w₀
    pub report : length r ≡ length r₀

  pub collecting-start : x.level ≡ 0 → Standing w₀ b t₀ → Collecting w₀ r₀ t₀ x.left 0
  collecting-start e s = record {
    few = omega arith;
    pointer-before = before-first t n x q;
    rest = ap (λ (xs : List Placed). gather_slots n xs (held w₀ b r₀ t₀)) (sym (leaf-start t n x q e));
    kept = record { stay = refl; sum = omega arith; more = omega arith };
    standing = s;
    words = refl;
    report = refl;
  }

  module _ (w r : Words) (p : Tally) (y i : ℕ) (c : Collecting w r p y i) where
    pub collecting-room : i < 12 → Room r p 1
    collecting-room h =
        let d = room.drops in
        let f = room.few in
        let s = c.kept.sum in
        let v = c.report in
        record { drops = omega arith; few = omega arith }

    -- what is met at place i, then the rest
    opened : i < 12 → pointer t n x q i ≢ 0
        → gather_slots n (slots_from t n (i + 1)) (gather_slots n (met t x.sibling y i (key t n x q i) (pointer t n x q i)) (held w b r p))
        ≡ gather_slots n (collected t n) (held w₀ b r₀ t₀)
    opened h z =
        sym (slots-append n (met t x.sibling y i (key t n x q i) (pointer t n x q i)) (slots_from t n (i + 1)) (held w b r p))
        ∙ ap (λ (xs : List Placed). gather_slots n xs (held w b r p)) (sym (leaf-step t n x q i y h z c.pointer-before)) ∙ c.rest

    pub collecting-most :
        i < 12 → pointer t n x q i ≢ 0
        → length (gather_slots n (met t x.sibling y i (key t n x q i) (pointer t n x q i)) (held w b r p)).kept ≤ b
    collecting-most h z =
        let g = gather_slots n (met t x.sibling y i (key t n x q i) (pointer t n x q i)) (held w b r p) in
        let a = slots-grow n (slots_from t n (i + 1)) g in
        let e = ap (λ (u : Gathered). length u.kept) (opened h z) in
        omega (arith, a, e, most)

    pub collecting-step :
        i < 12 → pointer t n x q i ≢ 0 → (w' r' : Words) (p' : Tally) → held w' b r' p'
        ≡ gather_slots n (met t x.sibling y i (key t n x q i) (pointer t n x q i)) (held w b r p)
        → Standing w' b p' → Kept r p r' p' 1 → length w' ≡ length w → length r' ≡ length r
        → Collecting w' r' p' (pointer t n x q i) (i + 1)
    collecting-step h z w' r' p' e s k u v =
        record {
          few = omega arith;
          pointer-before = before-next t n x q i h;
          rest = ap (gather_slots n (slots_from t n (i + 1))) e ∙ opened h z;
          kept = kept-then r₀ r r' t₀ p p' i 1 c.kept k;
          standing = s;
          words = u ∙ c.words;
          report = v ∙ c.report;
        }

    abbrev Done : Type 0
    Done = (held w b r p ≡ gather_slots n (collected t n) (held w₀ b r₀ t₀)) × (Standing w b p × Kept r₀ t₀ r p 12)

    done : slots_from t n i ≡ [] → Done
    unfolding gather_slots
    done e = let k = c.kept in let f =
        c.few in (
          sym (ap (λ (xs : List Placed). gather_slots n xs (held w b r p)) e) ∙ c.rest,
          (c.standing, record { stay = k.stay; sum = let s = k.sum in omega arith; more = k.more }),
        )

    pub collecting-stop : i < 12 → pointer t n x q i ≡ 0 → Done
    collecting-stop h z = done (leaf-stop t n x q i h z)

    pub collecting-end : 12 ≤ i → Done
    collecting-end h = let f = c.few in let e : i ≡ 12 = omega arith in done (ap (slots_from t n) e ∙ slots-past t n)

  pub collecting-none :
      x.level ≢ 0 → Standing w₀ b t₀ → (held w₀ b r₀ t₀ ≡ gather_slots n (collected t n) (held w₀ b r₀ t₀))
      × (Standing w₀ b t₀ × Kept r₀ t₀ r₀ t₀ 12)
  unfolding gather_slots
  collecting-none e s = (
    sym (ap (λ (xs : List Placed). gather_slots n xs (held w₀ b r₀ t₀)) (leaf-not t n x q e)),
    (s, record { stay = refl; sum = omega arith; more = omega arith }),
  )

-- the next node, and the end of them
pub nodes-next : (t order : Words) (i : ℕ) → i < length order → (g : Gathered)
    → gather_nodes t (drop (i + 1) order) (gather_slots (get_or order i 0) (collected t (get_or order i 0)) g)
    ≡ gather_nodes t (drop i order) g
unfolding gather_nodes
nodes-next t order i h g =
    let s : i + 1 ≡ suc i = omega arith in
    ap (λ (j : ℕ). gather_nodes t (drop j order) (gather_slots (get_or order i 0) (collected t (get_or order i 0)) g)) s
    ∙ sym (ap (λ (ns : List ℕ). gather_nodes t ns g) (drop-cons order i 0 h))

-- past the end of the order no node adds anything
pub nodes-last : (t order : Words) (i : ℕ) → length order ≤ i → (g : Gathered) → gather_nodes t (drop i order) g ≡ g
unfolding gather_nodes
nodes-last t order i h g = ap (λ (ns : List ℕ). gather_nodes t ns g) (drop_of_length-le order {i = i} h)

module _ (t order : Words) (b : ℕ) (w₀ r₀ : Words) (along : Along order r₀) (most : length (gathered_along t order).kept ≤ b) where
  -- the nodes before place i are gathered
  pub record Walking (w r : Words) (p : Tally) (i : ℕ) : Type 0 where
    pub few : i ≤ length order
    pub rest : gather_nodes t (drop i order) (held w b r p) ≡ gathered_along t order
    pub kept : Kept r₀ none r p (12 * i)
    pub standing : Standing w b p
    pub words : length w ≡ length w₀
    pub report : length r ≡ length r₀

  pub walking-start : Standing w₀ b none → Walking w₀ r₀ none 0
  unfolding gathered_along
  walking-start s = record {
    few = omega arith;
    rest = ap (gather_nodes t order) empty;
    kept = record { stay = refl; sum = omega arith; more = omega arith };
    standing = s;
    words = refl;
    report = refl;
  }
    where
      empty : held w₀ b r₀ none ≡ record { kept = []; dropped = [] }
      empty = ap (λ (l : List Slot). record { kept = l; dropped = drops_in r₀ 0 }) (no-pairs (take (2 * b) w₀)) ∙ (unfold drops_in in refl)

  module _ (w r : Words) (p : Tally) (i : ℕ) (c : Walking w r p i) where
    pub walking-room : i < length order → Room r p 12
    walking-room h =
        let d = along.drops in
        let f = along.few in
        let s = c.kept.sum in
        let v = c.report in
        record { drops = omega arith; few = omega arith }

    abbrev n : ℕ
    n = get_or order i 0

    opened-nodes : i < length order → gather_nodes t (drop (i + 1) order) (gather_slots n (collected t n) (held w b r p))
        ≡ gathered_along t order
    opened-nodes h = nodes-next t order i h (held w b r p) ∙ c.rest

    pub walking-most : i < length order → length (gather_slots n (collected t n) (held w b r p)).kept ≤ b
    walking-most h =
        let a = nodes-grow t (drop (i + 1) order) (gather_slots n (collected t n) (held w b r p)) in
        let e = ap (λ (u : Gathered). length u.kept) (opened-nodes h) in
        omega (arith, a, e, most)

    pub walking-step : i < length order → (w' r' : Words) (p' : Tally) → held w' b r' p' ≡ gather_slots n (collected t n) (held w b r p)
        → Standing w' b p' → Kept r p r' p' 12
        → length w' ≡ length w → length r' ≡ length r → Walking w' r' p' (i + 1)
    walking-step h w' r' p' e s k u v =
        let m : 12 * i + 12 ≡ 12 * (i + 1) = omega arith in
        record {
          few = omega arith;
          rest = ap (gather_nodes t (drop (i + 1) order)) e ∙ opened-nodes h;
          kept = subst (λ (y : ℕ). Kept r₀ none r' p' y) m (kept-then r₀ r r' none p p' (12 * i) 12 c.kept k);
          standing = s;
          words = u ∙ c.words;
          report = v ∙ c.report;
        }

    pub walking-end : length order ≤ i → (held w b r p ≡ gathered_along t order) × (Standing w b p × Kept r₀ none r p (12 * length order))
    walking-end h =
        let f = c.few in
        let e : i ≡ length order = omega arith in
        (sym (nodes-last t order i h (held w b r p)) ∙ c.rest, (c.standing, subst (λ (y : ℕ). Kept r₀ none r p (12 * y)) e c.kept))

-- ---- the whole

module _ (t order words : Words) (b : ℕ) (report : Words) (ready : Ready t order words b report) where
  cleared-long : (w : Words) → w ≡ take (2 * b) words ++ replicate (length words - 2 * b) 0 → length w ≡ length words
  cleared-long w e =
      let c = ready.cells in
      let f = length-take-le (2 * b) words (omega arith) in
      let g = length-replicate {A = ℕ} (length words - 2 * b) 0 in
      let a = length-append (take (2 * b) words) (replicate (length words - 2 * b) 0) in
      ap length e ∙ omega arith

  pub cleared-standing : (w : Words) → w ≡ take (2 * b) words ++ replicate (length words - 2 * b) 0 → Standing w b none
  cleared-standing w e =
      let c = ready.cells in
      let l = cleared-long w e in
      let f = length-take-le (2 * b) words (omega arith) in
      let cells : drop (2 * b) w ≡ replicate (length words - 2 * b) 0 =
      ap (drop (2 * b)) e ∙ drop_at (take (2 * b) words) (replicate (length words - 2 * b) 0) (2 * b) f in
      let z = no-pairs (take (2 * b) w) in
      record {
        below = omega arith;
        few = omega arith;
        cells = omega arith;
        small = ready.small;
        rise = rw z (unfold rising in refl);
        recorded = rw (l, cells, z) (unfold has_recording in filed-none (length words - 2 * b) (length words - 2 * b));
      }

-- the gap closed: the pairs stand in the first words
pub closed-pairs : (w : Words) (b : ℕ) (r : Words) (p : Tally) (g : Gathered) (front : Words) → Standing w b p → held w b r p ≡ g
    → length front ≡ length (take (2 * b) w) → pairs_in front p.kept ≡ around (take (2 * b) w) p.at p.kept
    → gathered_in (front ++ drop (2 * b) w) r p ≡ g
closed-pairs w b r p g front s e l q =
    let c = s.cells in
    let f = s.few in
    let n : length front ≡ 2 * b = l ∙ length-take-le (2 * b) w (omega arith) in
    ap (λ (x : Words). record { kept = slots_of x; dropped = drops_in r p.dropped })
    (take-append-le (2 * p.kept) front (drop (2 * b) w) (omega arith))
    ∙ ap (λ (x : List Slot). record { kept = x; dropped = drops_in r p.dropped }) q ∙ e
