-- One slot kept or reported, as the words tell it.
use Rattle.std.proofs.Common.{◌≡◌, ℕ, zero, suc, ◌+◌, ◌-◌, ◌*◌, ◌<◌, ◌≤◌, Bool, true, false, ◌&&◌, ◌||◌, eqb, ◌≢◌, List, [], ◌∷◌, ◌++◌}
use Rattle.std.proofs.Common.{length, take, drop, set, sym, refl, ap, ◌∙◌, append_assoc, arith, length-append, length-drop, length-set}
use Rattle.std.proofs.Common.{length-take-le, get_or-set_other, take-suc, get_or-set_same, take_at, drop-set-lt, drop_at, eq-eqb, ne_eqb}
use lib.Seq.{sets}
use Rattle.model.specs.Table.{Words, at}
use Rattle.model.specs.Slots.{Slot, slot, recording_of}
use Rattle.model.specs.SoundTest.{rising}
use Rattle.model.specs.Refusals.{has_key, has_recording}
use Rattle.model.specs.Ledger.{enter}
use Rattle.model.specs.Salvage.{Drop, Gathered, reason_for, gather_slot, drop_words}
use Rattle.list_laws.proofs.Recordings.{enter-recording}
use Rattle.list_laws.proofs.Tools.{eqb-sym}
use Rattle.tree_laws.proofs.Rising.{lower, upper, lower-upper, lower-below, upper-above, rising-insert}
use Rattle.change_laws.proofs.Pairs.{has-key-iff, enter-at}
use Rattle.tour_laws.proofs.Gathering.{no-reason, slot-kept, slot-dropped}
use Rattle.numbers.proofs.Filed.{filed-same}
use Rattle.gap.specs.Around.{around, Fits, Under, Over}
use Rattle.gap.proofs.Around.{around-length, around-put}
use Rattle.gap.proofs.Places.{enter-place}
use Rattle.gather.specs.declared.Tally.{Tally}
use Rattle.gather.specs.declared.Cause.{Cause}
use Rattle.gather.specs.declared.Cause.TheVariants.{OutOfRange, KeyHeld, RecordingHeld}
use Rattle.gather.specs.Held.{placed, cause_number, drops_in, pairs_of, held, Standing, Filing, Room, Kept}
use Rattle.gather.proofs.Pairs.{enter-length}

abbrev pub tally : (m i d : ℕ) → Tally
tally m i d = record { kept = m; at = i; dropped = d }

-- ---- the report

drops-set : (ws : Words) (n j x : ℕ) → 3 * n ≤ j → drops_in (set ws j x) n ≡ drops_in ws n
unfolding drops_in
drops-set ws zero j x h = refl
drops-set ws (suc n) j x h =
    rw (
      get_or-set_other ws j (3 * n) x 0 (λ z. omega arith),
      get_or-set_other ws j (3 * n + 1) x 0 (λ z. omega arith),
      get_or-set_other ws j (3 * n + 2) x 0 (λ z. omega arith),
      drops-set ws n j x (omega arith),
    )

pub drops-more : (ws : Words) (d a b c : ℕ) → 3 * d + 3 ≤ length ws → drops_in (sets ws (3 * d) (a ∷ b ∷ c ∷ [])) (d + 1) ≡ drops_in ws d
    ++ (record { node = a; place = b; reason = c } ∷ [])
unfolding drops_in
drops-more ws d a b c h =
    let e : d + 1 ≡ suc d = omega arith in
    let w = 3 * d in
    let f : w + 1 ≡ suc w = omega arith in
    let g : w + 2 ≡ suc (suc w) = omega arith in
    let x = set ws w a in
    let y = set x (suc w) b in
    let z = set y (suc (suc w)) c in
    let xl = length-set ws w a in
    let yl = length-set x (suc w) b in
    let p : at z w ≡ a =
    get_or-set_other y (suc (suc w)) w c 0 (λ q. omega arith) ∙ get_or-set_other x (suc w) w b 0 (λ q. omega arith)
    ∙ get_or-set_same ws w a 0 (omega arith) in
    let q : at z (w + 1) ≡ b =
    ap (at z) f ∙ get_or-set_other y (suc (suc w)) (suc w) c 0 (λ q. omega arith) ∙ get_or-set_same x (suc w) b 0 (omega arith) in
    let r : at z (w + 2) ≡ c = ap (at z) g ∙ get_or-set_same y (suc (suc w)) c 0 (omega arith) in
    let s : drops_in z d ≡ drops_in ws d =
    drops-set y d (suc (suc w)) c (omega arith) ∙ drops-set x d (suc w) b (omega arith) ∙ drops-set ws d w a (omega arith) in
    rw (e, p, q, r, s)

-- the first n slots of a report are n
pub drops-length : (ws : Words) (n : ℕ) → length (drops_in ws n) ≡ n
unfolding drops_in
drops-length ws zero = refl
drops-length ws (suc n) = let e =
    length-append (drops_in ws n) (record { node = at ws (3 * n); place = at ws (3 * n + 1); reason = at ws (3 * n + 2) } ∷ []) in let q =
    drops-length ws n in omega arith

-- the words of joined dropped slots are those of the one, then of the other
pub words-append : (xs ys : List Drop) → drop_words (xs ++ ys) ≡ drop_words xs ++ drop_words ys
unfolding drop_words
words-append [] ys = refl
words-append (d ∷ xs) ys = ap (λ (l : Words). d.node ∷ d.place ∷ d.reason ∷ l) (words-append xs ys)

-- the words of the first n slots of a report are its first 3n words
pub drop-words : (ws : Words) (n : ℕ) → 3 * n ≤ length ws → drop_words (drops_in ws n) ≡ take (3 * n) ws
unfolding drops_in drop_words
drop-words ws zero h = refl
drop-words ws (suc n) h =
    let e : 3 * suc n ≡ suc (suc (suc (3 * n))) = omega arith in
    let f : 3 * n + 1 ≡ suc (3 * n) = omega arith in
    let g : 3 * n + 2 ≡ suc (suc (3 * n)) = omega arith in
    let w = 3 * n in
    let a = take-suc ws w 0 (omega arith) in
    let b = take-suc ws (suc w) 0 (omega arith) in
    let c = take-suc ws (suc (suc w)) 0 (omega arith) in
    words-append (drops_in ws n) _ ∙ ap (λ (l : Words). l ++ (at ws w ∷ at ws (w + 1) ∷ at ws (w + 2) ∷ [])) (drop-words ws n (omega arith))
    ∙ rw (e, f, g) (sym (c ∙ ap (λ (l : Words). l ++ (at ws (suc (suc w)) ∷ [])) (b ∙ ap (λ (l : Words). l ++ (at ws (suc w) ∷ [])) a)
    ∙ append_assoc (take w ws ++ (at ws w ∷ [])) (at ws (suc w) ∷ []) (at ws (suc (suc w)) ∷ [])
    ∙ append_assoc (take w ws) (at ws w ∷ []) (at ws (suc w) ∷ at ws (suc (suc w)) ∷ [])))

-- a reason's number is not 0, which is none
pub cause-some : (x : Cause) → cause_number x ≢ 0
cause-some OutOfRange e = absurd (omega (arith, e))
cause-some KeyHeld e = absurd (omega (arith, e))
cause-some RecordingHeld e = absurd (omega (arith, e))

-- ---- the keys kept go on rising

enter-rise : (k p : ℕ) (ps : List Slot) → rising 0 ps ≡ true → has_key k ps ≡ false → rising 0 (enter k p ps) ≡ true
enter-rise k p ps r h =
    let off = (has-key-iff k ps).0 h in
    let e : enter k p ps ≡ lower k ps ++ slot k p ∷ upper k ps =
    ap (enter k p) (lower-upper k ps) ∙ enter-at k p (lower k ps) (upper k ps) (lower-below k ps) (upper-above 0 k ps r off) in
    rw e (rising-insert 0 k p ps r (omega arith) off)

-- ---- the words for the pairs, and those after them

module _ (words : Words) (b : ℕ) (front : Words) (room : 2 * b ≤ length words) (long : length front ≡ 2 * b) where
  abbrev joined : Words
  joined = front ++ drop (2 * b) words

  joined-front : take (2 * b) joined ≡ front
  joined-front = take_at front (drop (2 * b) words) (2 * b) long

  joined-cells : drop (2 * b) joined ≡ drop (2 * b) words
  joined-cells = drop_at front (drop (2 * b) words) (2 * b) long

  joined-long : length joined ≡ length words
  joined-long = let a = length-append front (drop (2 * b) words) in let d = length-drop (2 * b) words in omega arith

-- ---- the gap at the key's place

-- the gap went to the place of a key, before the pair i
pub record Moved (words : Words) (b : ℕ) (t : Tally) (k i : ℕ) (front : Words) : Type 0 where
  pub long : length front ≡ length (take (2 * b) words)
  pub same : around front i t.kept ≡ around (take (2 * b) words) t.at t.kept
  pub below : i ≤ t.kept
  pub under : Under (around (take (2 * b) words) t.at t.kept) k i
  pub over : Over (around (take (2 * b) words) t.at t.kept) k i

module _ (words : Words) (b : ℕ) (t : Tally) (s : Standing words b t) where
  pub front-long : 2 * b ≡ length (take (2 * b) words)
  front-long = sym (length-take-le (2 * b) words (let c = s.cells in omega arith))

  pub front-fits : Fits (take (2 * b) words) t.at t.kept
  front-fits = record {
    below = s.below;
    room = let l = front-long in let f = s.few in omega arith;
    few = let f = s.few in let m = s.small in omega arith;
  }

  module _ (k i : ℕ) (front : Words) (v : Moved words b t k i front) where
    abbrev sought : Words
    sought = front ++ drop (2 * b) words

    abbrev moved : Tally
    moved = tally t.kept i t.dropped

    room : 2 * b ≤ length words
    room = let c = s.cells in omega arith

    front-is : length front ≡ 2 * b
    front-is = v.long ∙ sym front-long

    pub sought-pairs : pairs_of sought b moved ≡ pairs_of words b t
    sought-pairs = ap (λ (x : Words). around x i t.kept) (joined-front words b front room front-is) ∙ v.same

    -- the words for the pairs, after the cells were looked at
    pub after-front-long : (after : Words) → length after ≡ length sought → 2 * b ≡ length (take (2 * b) after)
    after-front-long after e =
        sym (length-take-le (2 * b) after (let n = joined-long words b front room front-is in let c = s.cells in omega arith))

    pub sought-standing : Standing sought b moved × Under (pairs_of sought b moved) k i × Over (pairs_of sought b moved) k i
    sought-standing =
        let e = sought-pairs in
        let n = joined-long words b front room front-is in
        let c = joined-cells words b front room front-is in (
          record {
            below = v.below;
            few = s.few;
            cells = let c = s.cells in omega arith;
            small = s.small;
            rise = rw e s.rise;
            recorded = rw (n, c, e) s.recorded;
          },
          rw e v.under,
          rw e v.over,
        )

-- ---- one slot

module _ (words : Words) (b : ℕ) (t : Tally) (report : Words) (n i k p : ℕ) (s : Standing words b t)
    (under : Under (pairs_of words b t) k t.at) (over : Over (pairs_of words b t) k t.at)
    (room : Room report t 1) (most : length (gather_slot n (held words b report t) (placed i k p)).kept ≤ b) (r : ℕ)
    (r-is : r ≡ reason_for (pairs_of words b t) (slot k p)) (after : Words)
    (filed : Filing words b t (recording_of p) (eqb r 0) after) (after-long : length after ≡ length words) where
  abbrev ps : List Slot
  ps = pairs_of words b t

  abbrev m : ℕ
  m = t.kept

  pairs-few : length ps ≡ m
  pairs-few = around-length (take (2 * b) words) m (front-fits words b t s).room t.at s.below

  module _ (z : r ≡ 0) where
    none : reason_for ps (slot k p) ≡ 0
    none = sym r-is ∙ z

    kept-now : gather_slot n (held words b report t) (placed i k p) ≡ record { kept = enter k p ps; dropped = drops_in report t.dropped }
    kept-now = slot-kept n (held words b report t) (placed i k p) none

    fewer : m + 1 ≤ b
    fewer = let a = ap (λ (g : Gathered). length g.kept) kept-now in let e = enter-length k p ps in let f = pairs-few in omega arith

    after-front : length (take (2 * b) after) ≡ 2 * b
    after-front = length-take-le (2 * b) after (let c = s.cells in omega arith)

    pub put-fits : (2 * t.at + 2 ≤ length (take (2 * b) after)) × (t.at < 16777216)
    put-fits = let a = after-front in let f = fewer in let l = s.below in let c = s.small in (omega arith, omega arith)

    module _ (front : Words) (long : length front ≡ length (take (2 * b) after))
        (put : front ≡ take (2 * t.at) (take (2 * b) after) ++ (k ∷ p ∷ drop (2 * t.at + 2) (take (2 * b) after))) where
      abbrev w : Words
      w = front ++ drop (2 * b) after

      abbrev grown : Tally
      grown = tally (m + 1) (t.at + 1) t.dropped

      entered : pairs_of w b grown ≡ enter k p ps
      entered =
          let f = fewer in
          let c = s.cells in
          let h = pairs-few in
          let l = s.below in
          let o = (no-reason ps (slot k p)).0 none in
          ap (λ (x : Words). around x (t.at + 1) (m + 1)) (joined-front after b front (omega arith) (long ∙ after-front) ∙ put)
          ∙ around-put (take (2 * b) after) t.at m k p l (let q = after-front in omega arith)
          ∙ ap (λ (x : Words). take t.at (around x t.at m) ++ slot k p ∷ drop t.at (around x t.at m)) filed.stay
          ∙ sym (enter-place ps k t.at s.rise (omega arith) under over p o.key)

      pub slot-taken : (held w b report grown ≡ gather_slot n (held words b report t) (placed i k p)) × Standing w b grown
          × Kept report t report grown 1
      slot-taken =
          let o = (no-reason ps (slot k p)).0 none in
          let c = s.cells in
          let cells = joined-cells after b front (omega arith) (long ∙ after-front) in
          let n-is = joined-long after b front (omega arith) (long ∙ after-front) in (
            ap (λ (l : List Slot). record { kept = l; dropped = drops_in report t.dropped }) entered ∙ sym kept-now,
            record {
              below = let l = s.below in omega arith;
              few = fewer;
              cells = omega arith;
              small = s.small;
              rise = rw entered (enter-rise k p ps s.rise o.key);
              recorded = rw (n-is, cells, entered)
                  (filed-same _ _ (drop (2 * b) after) _ (λ (x : ℕ). has_recording x (enter k p ps)) new filed.recorded);
            },
            record { stay = refl; sum = omega arith; more = omega arith },
          )
        where
          new : (x : ℕ) → ((eqb r 0 && eqb x (recording_of p)) || has_recording x ps) ≡ has_recording x (enter k p ps)
          new x = rw (eq-eqb r 0 z)
              (ap (λ (y : Bool). y || has_recording x ps) (eqb-sym x (recording_of p)) ∙ sym (enter-recording x k p ps))

  pub slot-left : r ≢ 0 → (after-report : Words) → after-report ≡ sets report (3 * t.dropped) (n ∷ i ∷ r ∷ [])
      → (held after b after-report (tally m t.at (t.dropped + 1)) ≡ gather_slot n (held words b report t) (placed i k p))
      × Standing after b (tally m t.at (t.dropped + 1))
      × Kept report t after-report (tally m t.at (t.dropped + 1)) 1
  slot-left z after-report q =
      let d = t.dropped in
      let w = 3 * d in
      let h = room.drops in
      let c = s.cells in
      let y : suc (r - 1) ≡ r = omega arith in
      let e = filed.stay in
      let more : drops_in after-report (d + 1) ≡ drops_in report d ++ (record { node = n; place = i; reason = r } ∷ []) =
      ap (λ (l : Words). drops_in l (d + 1)) q ∙ drops-more report d n i r (omega arith) in
      let stay : drop (3 * (d + 1)) after-report ≡ drop (3 * (d + 1)) report =
      ap (drop (3 * (d + 1))) q ∙ drop-set-lt (3 * (d + 1)) (set (set report w n) (suc w) i) (suc (suc w)) r (omega arith)
      ∙ drop-set-lt (3 * (d + 1)) (set report w n) (suc w) i (omega arith)
      ∙ drop-set-lt (3 * (d + 1)) report w n (omega arith) in (
        ap (λ (l : Words). record { kept = around l t.at m; dropped = drops_in after-report (d + 1) }) e
            ∙ ap (λ (l : List Drop). record { kept = ps; dropped = l }) more
            ∙ ap (λ (j : ℕ). record { kept = ps; dropped = drops_in report d ++ (record { node = n; place = i; reason = j } ∷ []) }) (sym y)
            ∙ sym (slot-dropped n (held words b report t) (placed i k p) (r - 1) (sym r-is ∙ sym y)),
        record {
          below = s.below;
          few = s.few;
          cells = omega arith;
          small = s.small;
          rise = rw e s.rise;
          recorded = rw e (filed-same _ _ (drop (2 * b) after) _ (λ (x : ℕ). has_recording x ps) (λ x. rw (ne_eqb r 0 z)) filed.recorded);
        },
        record { stay = stay; sum = omega arith; more = omega arith },
      )

-- ---- the gap moved, then one slot

kept-from : (report after : Words) (t u r : Tally) (n : ℕ) → t.kept ≡ u.kept → t.dropped ≡ u.dropped → Kept report u after r n
    → Kept report t after r n
kept-from report after t u r n e f k = record { stay = k.stay; sum = let s = k.sum in omega arith; more = let m = k.more in omega arith }

module _ (words : Words) (b : ℕ) (t : Tally) (report : Words) (n i k p : ℕ) (s : Standing words b t) (room : Room report t 1)
    (most : length (gather_slot n (held words b report t) (placed i k p)).kept ≤ b)
    (j : ℕ) (front : Words) (v : Moved words b t k j front) (r : ℕ) where
  abbrev w₁ : Words
  w₁ = front ++ drop (2 * b) words

  abbrev t₁ : Tally
  t₁ = tally t.kept j t.dropped

  pairs-are : pairs_of w₁ b t₁ ≡ pairs_of words b t
  pairs-are = sought-pairs words b t s k j front v

  held-are : held w₁ b report t₁ ≡ held words b report t
  held-are = ap (λ (ps : List Slot). record { kept = ps; dropped = drops_in report t.dropped }) pairs-are

  standing : Standing w₁ b t₁ × Under (pairs_of w₁ b t₁) k j × Over (pairs_of w₁ b t₁) k j
  standing = sought-standing words b t s k j front v

  room₁ : Room report t₁ 1
  room₁ = record { drops = room.drops; few = room.few }

  most₁ : length (gather_slot n (held w₁ b report t₁) (placed i k p)).kept ≤ b
  most₁ = rw held-are most

  module _ (r-is : r ≡ reason_for (pairs_of w₁ b t₁) (slot k p)) (after : Words) (filed : Filing w₁ b t₁ (recording_of p) (eqb r 0) after)
      (after-long : length after ≡ length w₁) where
    pub put-then : r ≡ 0 → (2 * j + 2 ≤ length (take (2 * b) after)) × (j < 16777216)
    put-then z = put-fits w₁ b t₁ report n i k p standing.0 standing.1 standing.2 room₁ most₁ r r-is after filed after-long z

    pub taken-then : r ≡ 0 → (front' : Words) → length front' ≡ length (take (2 * b) after) → front' ≡ take (2 * j) (take (2 * b) after)
        ++ (k ∷ p ∷ drop (2 * j + 2) (take (2 * b) after))
        → (held (front' ++ drop (2 * b) after) b report (tally (t.kept + 1) (j + 1) t.dropped)
        ≡ gather_slot n (held words b report t) (placed i k p))
        × (Standing (front' ++ drop (2 * b) after) b (tally (t.kept + 1) (j + 1) t.dropped)
        × Kept report t report (tally (t.kept + 1) (j + 1) t.dropped) 1)
    taken-then z front' fl put =
        let x = slot-taken w₁ b t₁ report n i k p standing.0 standing.1 standing.2 room₁ most₁ r r-is after filed
        after-long z front' fl put in
        (x.0 ∙ ap (λ (g : Gathered). gather_slot n g (placed i k p)) held-are, (x.1, kept-from report report t t₁ _ 1 refl refl x.2))

    pub left-then : r ≢ 0 → (after-report : Words) → after-report ≡ sets report (3 * t.dropped) (n ∷ i ∷ r ∷ [])
        → (held after b after-report (tally t.kept j (t.dropped + 1)) ≡ gather_slot n (held words b report t) (placed i k p))
        × (Standing after b (tally t.kept j (t.dropped + 1)) × Kept report t after-report (tally t.kept j (t.dropped + 1)) 1)
    left-then z after-report q =
        let x = slot-left w₁ b t₁ report n i k p standing.0 standing.1 standing.2 room₁ most₁ r r-is after filed
        after-long z after-report q in
        (x.0 ∙ ap (λ (g : Gathered). gather_slot n g (placed i k p)) held-are, (x.1, kept-from report after-report t t₁ _ 1 refl refl x.2))
