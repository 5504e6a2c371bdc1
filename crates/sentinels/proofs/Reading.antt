-- A line of a node, slot by slot.
use Rattle.std.proofs.Common.{◌≡◌, ℕ, zero, suc, ◌+◌, ◌-◌, ◌*◌, ◌<◌, ◌≤◌, Bool, true, false, eqb, ◌≢◌, List, [], ◌∷◌, length, take, drop}
use Rattle.std.proofs.Common.{sym, refl, ap, ◌∙◌, arith, length-drop, length-take, take-take, drop-drop, eqb-true}
use borrow.Author.Tests.{eqb-false}
use lib.Seq.{take-nil}
use Rattle.std.specs.Prelude.{Option, Some, None, MatchOption}
use Rattle.model.specs.Table.{MARK, Words, at, node_from, has_node, node_start}
use Rattle.model.specs.Slots.{Slot, slot, slots_of, in_use, shown, used}
use Rattle.model.specs.Search.{first_with}
use Rattle.model.specs.Sentinels.{first_key, shown_on}
use Rattle.model.specs.Shifts.{last_pointer}
use Rattle.list_laws.proofs.Tools.{first-here, first-past}
use Rattle.table_laws.proofs.Words.{at-part}
use Rattle.table_laws.proofs.Nodes.{node-in}
use Rattle.node.specs.Word.{words_at}
use Rattle.slots.specs.Scan.{used_from}
use Rattle.slots.specs.Held.{held_by}
use Rattle.slots.proofs.Scans.{scan-stop, scan-more, shown-hide, shown-show}
use Rattle.sentinels.specs.Lines.{left_in, words_in, slots_in, begun_in, line_of, first_taken}

-- ---- the words of a node of a table

part-part : {A : Type 0} (a m n : ℕ) (l : List A) → a + m ≤ n → take m (drop a (take n l)) ≡ take m (drop a l)
part-part zero m n l h = take-take m n l (omega arith)
part-part (suc a) m zero l h = absurd (omega arith)
part-part (suc a) m (suc n) [] h = refl
part-part (suc a) m (suc n) (x ∷ l) h = part-part a m n l (omega arith)

module _ (t : Words) (n : ℕ) (h : has_node t n ≡ true) where
  pub line-is : (j : ℕ) (vs : Words) → vs ≡ words_at t n → line_of vs (4 * j) ≡ shown_on t n j
  unfolding line_of shown_on used node_from
  line-is j vs e =
      let w = node_start n in
      let q : w + 0 ≡ w = omega arith in
      let left : left_in vs ≡ at t w = ap left_in e ∙ at-part t w 32 0 (omega arith) ∙ ap (at t) q in
      let words : words_in vs ≡ take 24 (drop (w + 8) t) =
      ap words_in e ∙ part-part 8 24 32 (drop w t) (omega arith) ∙ ap (take 24) (drop-drop 8 w t) in
      rw (node-in t n h, left, words)

-- ---- the words

pub words-long : (vs : Words) → length vs ≡ 32 → length (words_in vs) ≡ 24
words-long vs h = simp (length-take, length-drop, h)

module _ (vs : Words) (i : ℕ) (h : i < 12) where
  pub pointer-at : at (words_in vs) (2 * i + 1) ≡ at vs (2 * i + 9)
  pointer-at = let q : 8 + (2 * i + 1) ≡ 2 * i + 9 = omega arith in at-part vs 8 24 (2 * i + 1) (omega arith) ∙ ap (at vs) q

  pub key-at : at (words_in vs) (2 * i) ≡ at vs (2 * i + 8)
  key-at = let q : 8 + 2 * i ≡ 2 * i + 8 = omega arith in at-part vs 8 24 (2 * i) (omega arith) ∙ ap (at vs) q

-- ---- what comes before a line

begun-end : (p m : ℕ) → 0 < m → begun_in p m [] ≡ None
unfolding begun_in
begun-end p zero h = absurd (omega arith)
begun-end p (suc m) h = refl

begun-more : (p m : ℕ) (s : Slot) (ss : List Slot) → 0 < m → begun_in p m (s ∷ ss) ≡ begun_in s.pointer (m - 1) ss
unfolding begun_in
begun-more p zero s ss h = absurd (omega arith)
begun-more p (suc m) s ss h = let q : m ≡ suc m - 1 = omega arith in ap (λ (n : ℕ). begun_in s.pointer n ss) q

-- A turn of the loop to the line's first slot, at slot i with pointer p: what comes before that slot is then x.
module _ (vs : Words) (p first i : ℕ) (x : Option ℕ) (long : length vs ≡ 32) (few : first ≤ 12) (h : i < first)
    (keeps : begun_in p (first - i) (used_from (words_in vs) i) ≡ x) where
  inside : 2 * i + 1 < length (words_in vs)
  inside = omega (arith, words-long vs long)

  pub begun-stop : at vs (2 * i + 9) ≡ 0 → None ≡ x
  begun-stop e = sym (begun-end p (first - i) (omega arith))
      ∙ scan-stop (begun_in p (first - i)) (words_in vs) i keeps inside (pointer-at vs i (omega arith) ∙ e)

  pub begun-on : at vs (2 * i + 9) ≢ 0 → begun_in (at vs (2 * i + 9)) (first - (i + 1)) (used_from (words_in vs) (i + 1)) ≡ x
  begun-on e =
      let q : first - i - 1 ≡ first - (i + 1) = omega arith in
      let a = pointer-at vs i (omega arith) in
      scan-more (begun_in p (first - i)) (words_in vs) i keeps inside (λ z. e (sym a ∙ z)) (
      begun-more p (first - i) _ (used_from (words_in vs) (i + 1)) (omega arith)
      ∙ ap (λ (n : ℕ). begun_in (at (words_in vs) (2 * i + 1)) n (used_from (words_in vs) (i + 1))) q
      ∙ ap (λ (y : ℕ). begun_in y (first - (i + 1)) (used_from (words_in vs) (i + 1))) a
      )

pub begun-done : (p first i : ℕ) (ws : Words) (x : Option ℕ) → first ≤ i → begun_in p (first - i) (used_from ws i) ≡ x → Some p ≡ x
unfolding begun_in
begun-done p first i ws x h keeps = let q : first - i ≡ 0 = omega arith in sym (ap (λ (n : ℕ). begun_in p n (used_from ws i)) q) ∙ keeps

-- ---- the line

-- there are slots up to it: it goes on from the pointer before it
open-line : (p m : ℕ) (ss : List Slot) (q : ℕ) → begun_in p m (in_use ss) ≡ Some q → (last_pointer p (take m (in_use ss)) ≡ q)
    × (drop m (in_use ss) ≡ in_use (drop m ss))
unfolding begun_in last_pointer in_use
open-line p zero ss q e = (cc, refl)
open-line p (suc m) [] q e = cc
open-line p (suc m) (s ∷ ss) q e = go (eqb s.pointer 0) refl (open-line s.pointer m ss q)
  where
    go : (c : Bool) → eqb s.pointer 0 ≡ c
        → (begun_in s.pointer m (in_use ss) ≡ Some q → (last_pointer s.pointer (take m (in_use ss)) ≡ q)
        × (drop m (in_use ss) ≡ in_use (drop m ss)))
        → (last_pointer p (take (suc m) (in_use (s ∷ ss))) ≡ q) × (drop (suc m) (in_use (s ∷ ss)) ≡ in_use (drop m ss))
    go true c ih = let none : None ≡ Some q = rw (c, in_use) at e in cc
    go false c ih = rw (c, in_use) (ih (rw (c, in_use) at e))

-- there are not: it shows none
shut-line : (p m : ℕ) (us : List Slot) → begun_in p m us ≡ None → drop m us ≡ []
unfolding begun_in
shut-line p zero us e = cc
shut-line p (suc m) [] e = refl
shut-line p (suc m) (s ∷ us) e = shut-line s.pointer m us e

module _ (vs : Words) (first : ℕ) where
  pub line-shut : begun_in (left_in vs) first (slots_in vs) ≡ None → line_of vs first ≡ []
  unfolding line_of shown
  line-shut e = ap (λ (ss : List Slot). shown (last_pointer (left_in vs) (take first (slots_in vs))) (take 4 ss))
      (shut-line (left_in vs) first (slots_in vs) e)

  -- where a loop over it begins
  pub line-start : (q : ℕ) → begun_in (left_in vs) first (slots_in vs) ≡ Some q
      → shown q (take (first + 4 - first) (used_from (words_in vs) first)) ≡ line_of vs first
  unfolding line_of
  line-start q e =
      let u = open-line (left_in vs) first (slots_of (words_in vs)) q e in
      let n : first + 4 - first ≡ 4 = omega arith in
      rw (n, u.0, u.1)

-- ---- a turn of that loop, at slot i after pointer p, with the slots left before stop: what they come to is x

module _ {A : Type 0} (f : List Slot → A) (vs : Words) (p stop i : ℕ) (x : A)
    (keeps : f (shown p (take (stop - i) (used_from (words_in vs) i))) ≡ x) where
  pub line-end : stop ≤ i → f [] ≡ x
  unfolding shown
  line-end h = let q : stop - i ≡ 0 = omega arith in sym (ap (λ (n : ℕ). f (shown p (take n (used_from (words_in vs) i)))) q) ∙ keeps

  module _ (long : length vs ≡ 32) (some : i < stop) (few : stop ≤ 12) where
    in-words : 2 * i + 1 < length (words_in vs)
    in-words = omega (arith, words-long vs long)

    pub line-stop : at vs (2 * i + 9) ≡ 0 → f [] ≡ x
    unfolding shown
    line-stop e =
        sym (ap (λ (ss : List Slot). f (shown p ss)) (take-nil {A = Slot} (stop - i)))
        ∙ scan-stop (λ (ss : List Slot). f (shown p (take (stop - i) ss))) (words_in vs) i keeps in-words
        (pointer-at vs i (omega arith) ∙ e)

    -- one slot more
    module _ (e : at vs (2 * i + 9) ≢ 0) where
      abbrev s : Slot
      s = slot (at vs (2 * i + 8)) (at vs (2 * i + 9))

      abbrev later : List Slot
      later = used_from (words_in vs) (i + 1)

      abbrev left : List Slot
      left = take (stop - (i + 1)) (used_from (words_in vs) (i + 1))

      first-of : f (shown p (s ∷ left)) ≡ x
      first-of =
          let q : stop - i ≡ suc (stop - (i + 1)) = omega arith in
          let a = key-at vs i (omega arith) in
          let b = pointer-at vs i (omega arith) in
          scan-more (λ (ss : List Slot). f (shown p (take (stop - i) ss))) (words_in vs) i keeps in-words (λ z. e (sym b ∙ z)) (
          ap (λ (n : ℕ). f (shown p (take n (slot (at (words_in vs) (2 * i)) (at (words_in vs) (2 * i + 1)) ∷ later)))) q
          ∙ ap (λ (k : ℕ). f (shown p (slot k (at (words_in vs) (2 * i + 1)) ∷ left))) a
          ∙ ap (λ (y : ℕ). f (shown p (slot (at vs (2 * i + 8)) y ∷ left))) b
          )

      -- it is shown, or hidden
      pub line-shows : at vs (2 * i + 9) ≢ p → {y : A}
          → f (slot (at vs (2 * i + 8)) (at vs (2 * i + 9)) ∷ shown (at vs (2 * i + 9)) left) ≡ y → y ≡ x
      line-shows z q = sym q ∙ sym (ap f (shown-show p s left z)) ∙ first-of

      pub line-hides : at vs (2 * i + 9) ≡ p → f (shown (at vs (2 * i + 9)) left) ≡ x
      line-hides z = sym (ap f (shown-hide p s left z)) ∙ first-of

-- ---- the first slot whose key passes

pub taken-nil : (p : ℕ → Bool) → first_taken p [] ≡ None
unfolding first_taken
taken-nil p = refl

pub taken-here : (p : ℕ → Bool) (s : Slot) (ss : List Slot) → p s.key ≡ true → first_taken p (s ∷ ss) ≡ Some (s.key, s.pointer)
unfolding first_taken
taken-here p s ss e = rw e

pub taken-later : (p : ℕ → Bool) (s : Slot) (ss : List Slot) → p s.key ≡ false → first_taken p (s ∷ ss) ≡ first_taken p ss
unfolding first_taken
taken-later p s ss e = rw e

-- any of them
pub any-taken : (ss : List Slot) (r : ℕ) (o : Option (ℕ × ℕ)) → o ≡ first_taken (λ k. true) ss
    → MatchOption o (r ≡ MARK) (λ x. r ≡ x.0) → r ≡ first_key ss
unfolding first_taken
any-taken [] r o e h = rw e at h
any-taken (u ∷ ss) r o e h = rw e at h

-- that of a key
held-taken : (k : ℕ) (ss : List Slot) (r : Option ℕ) → MatchOption (first_taken (λ x. eqb x k) ss) (r ≡ None) (λ x. r ≡ Some x.1) → r
    ≡ held_by (first_with k ss)
unfolding first_taken first_with
held-taken k [] r h = h
held-taken k (u ∷ ss) r h = go (eqb u.key k) refl (held-taken k ss r)
  where
    go : (b : Bool) → eqb u.key k ≡ b
        → (MatchOption (first_taken (λ x. eqb x k) ss) (r ≡ None) (λ x. r ≡ Some x.1) → r ≡ held_by (first_with k ss)) → r
        ≡ held_by (first_with k (u ∷ ss))
    go true e ih = (rw e at h) ∙ sym (ap held_by (first-here k u ss (eqb-true u.key k e)))
    go false e ih = ih (rw e at h) ∙ sym (ap held_by (first-past k u ss (eqb-false u.key k e)))

pub key-taken : (k : ℕ) (ss : List Slot) (r : Option ℕ) (o : Option (ℕ × ℕ)) → o ≡ first_taken (λ x. eqb x k) ss
    → MatchOption o (r ≡ None) (λ x. r ≡ Some x.1) → r ≡ held_by (first_with k ss)
key-taken k ss r o e h = held-taken k ss r (rw e at h)
