-- Marked slots stand for the pairs kept: the same codes, the same recordings, as many.
use Rattle.std.proofs.Common.{◌≡◌, ℕ, zero, suc, ◌+◌, ◌*◌, ◌/◌, ◌%◌, ◌<◌, ◌≤◌, Bool, true, false, cond, not, ◌&&◌, ◌||◌, eqb, ◌≢◌, List, []}
use Rattle.std.proofs.Common.{◌∷◌, length, get_or, sym, refl, ap, ◌∙◌, subst, arith, eqb-true}
use mir.Val.{bool_byte}
use borrow.Author.Tests.{eqb-false}
use Rattle.model.specs.declared.Node.{Node}
use Rattle.model.specs.Table.{Words, node}
use Rattle.model.specs.Slots.{Slot, slot, recording_of, recording, pointer_ok}
use Rattle.model.specs.Refusals.{test, first_number, has_key, has_recording}
use Rattle.model.specs.Ledger.{enter}
use Rattle.model.specs.Salvage.{Placed, under_fence, Gathered, out_of_range, reason_for, gather_slot, gather_slots}
use Rattle.list_laws.proofs.Recordings.{enter-recording}
use Rattle.tour_laws.proofs.Gathering.{slot-kept, slot-dropped}
use Rattle.bits.specs.Bits.{has, put}
use Rattle.bits.proofs.Marks.{has-put-same, has-put-other, put-length}
use Rattle.gather.specs.Held.{placed, met}
use Rattle.gather.proofs.Pairs.{enter-key, enter-length}
use Rattle.gather.proofs.Leaves.{met-none, met-taken}
use Rattle.std.specs.List.{list_any}
use Rattle.keeping.specs.Marks.{slot_of, marked_to, Matches, Unmarked, Marked}
use Rattle.keeping.proofs.Downwards.{downwards}

-- a bool as a number
pub marked-one : (b : Bool) → bool_byte b ≡ cond b 1 0
marked-one true = refl
marked-one false = refl

-- ---- the pairs kept and the marked ones

or-apart : (a b c d : Bool) → ((a || b) || (c || d)) ≡ ((a || c) || (b || d))
or-apart true b c d = refl
or-apart false true true d = refl
or-apart false true false d = refl
or-apart false false c d = refl

matches-enter : (k p : ℕ) (ps ms : List Slot) → Matches ps ms → Matches (enter k p ps) (slot k p ∷ ms)
matches-enter k p ps ms m = record {
  keys = λ q. enter-key q k p ps ∙ ap (λ (b : Bool). eqb k q || b) (m.keys q) ∙ (unfold has_key in refl);
  recordings = λ q. enter-recording q k p ps ∙ ap (λ (b : Bool). eqb (recording_of p) q || b) (m.recordings q)
      ∙ (unfold has_recording in refl);
}

reason-same : (ps ms : List Slot) (s : Slot) → Matches ps ms → reason_for ps s ≡ reason_for ms s
unfolding reason_for
reason-same ps ms s m = rw (m.keys s.key, m.recordings (recording s))

-- ---- a slot

module _ (t order : Words) where
  marked-no : (ms : Words) (x : ℕ) → has ms x ≡ false → marked_to t order ms (suc x) ≡ marked_to t order ms x
  unfolding marked_to
  marked-no ms x e = rw e

  marked-yes : (ms : Words) (x : ℕ) → has ms x ≡ true → marked_to t order ms (suc x) ≡ slot_of t order x ∷ marked_to t order ms x
  unfolding marked_to
  marked-yes ms x e = rw e

  marked-below : (ms : Words) (x y : ℕ) → x < 64 * length ms → y ≤ x → marked_to t order (put ms x) y ≡ marked_to t order ms y
  unfolding marked_to
  marked-below ms x zero l h = refl
  marked-below ms x (suc y) l h = rw (has-put-other ms x y l (λ z. omega arith), marked-below ms x y l (omega arith))

  -- marks of none further are those so far
  pub marked-far : (ms : Words) (x d : ℕ) → Unmarked ms x → marked_to t order ms (x + d) ≡ marked_to t order ms x
  marked-far ms x zero z = let e : x + 0 ≡ x = omega arith in rw e
  marked-far ms x (suc d) z = let e : x + suc d ≡ suc (x + d) =
      omega arith in rw e (marked-no ms (x + d) (z (x + d) (omega arith)) ∙ marked-far ms x d z)

  module _ (ms : Words) (x k p : ℕ) where
    -- nothing is kept of what is met
    pub marked-none : (xs : List Placed)
        → ((n : ℕ) (g : Gathered) → Matches g.kept (marked_to t order ms x) → (gather_slots n xs g).kept ≡ g.kept)
        → Marked t order ms ms x k p xs 0
    marked-none xs same = record {
      long = refl;
      few = omega arith;
      beyond = λ z y h. z y (omega arith);
      goes = λ z e n g m. (
        subst (λ (l : List Slot). Matches (gather_slots n xs g).kept l) (sym (marked-no ms x (z x (omega arith))))
            (subst (λ (l : List Slot). Matches l (marked_to t order ms x)) (sym (same n g m)) m),
        ap length (same n g m) ∙ omega arith,
      );
    }

    pub marked-unmet : (s b i : ℕ) → (not (eqb p b) && under_fence t s k) ≡ false → Marked t order ms ms x k p (met t s b i k p) 0
    marked-unmet s b i e = marked-none (met t s b i k p) (λ n g m. ap (λ (h : Gathered). h.kept) (sym (met-none t s b i k p n g e)))

    one : (s b i n : ℕ) (g : Gathered) → (not (eqb p b) && under_fence t s k) ≡ true → gather_slots n (met t s b i k p) g
        ≡ gather_slot n g (placed i k p)
    one s b i n g e = sym (met-taken t s b i k p n g e (gather_slot n g (placed i k p)) refl)

    pub marked-left : (s b i : ℕ) → (not (eqb p b) && under_fence t s k) ≡ true → eqb (reason_for (marked_to t order ms x) (slot k p)) 0
        ≡ false → Marked t order ms ms x k p (met t s b i k p) 0
    marked-left s b i e r = marked-none (met t s b i k p)
        (λ n g m. ap (λ (h : Gathered). h.kept) (one s b i n g e)
        ∙ left n g (reason_for g.kept (slot k p)) refl
        (λ z. eqb-false _ 0 r (sym (reason-same g.kept (marked_to t order ms x) (slot k p) m) ∙ z)))
      where
        left : (n : ℕ) (g : Gathered) (y : ℕ) → reason_for g.kept (slot k p) ≡ y → reason_for g.kept (slot k p) ≢ 0
            → (gather_slot n g (placed i k p)).kept ≡ g.kept
        left n g zero q z = absurd (z q)
        left n g (suc y) q z = ap (λ (h : Gathered). h.kept) (slot-dropped n g (placed i k p) y q)

    pub marked-kept : (s b i : ℕ) → (not (eqb p b) && under_fence t s k) ≡ true → eqb (reason_for (marked_to t order ms x) (slot k p)) 0
        ≡ true → x < 64 * length ms → Marked t order ms (put ms x) x k p (met t s b i k p) 1
    marked-kept s b i e r h = record {
      long = put-length ms x;
      few = omega arith;
      beyond = λ z y l. has-put-other ms x y h (λ q. omega arith) ∙ z y (omega arith);
      goes = λ z q n g m.
          let none : reason_for g.kept (slot k p) ≡ 0 = reason-same g.kept (marked_to t order ms x) (slot k p) m ∙ eqb-true _ 0 r in
          let now : (gather_slots n (met t s b i k p) g).kept ≡ enter k p g.kept =
          ap (λ (h : Gathered). h.kept) (one s b i n g e ∙ slot-kept n g (placed i k p) none) in
          let list : marked_to t order (put ms x) (suc x) ≡ slot k p ∷ marked_to t order ms x =
          marked-yes (put ms x) x (has-put-same ms x h)
          ∙ ap (λ (u : Slot). u ∷ marked_to t order (put ms x) x) q
          ∙ ap (λ (l : List Slot). slot k p ∷ l) (marked-below ms x x h (omega arith)) in
          (rw (now, list) (matches-enter k p g.kept (marked_to t order ms x) m), ap length now ∙ enter-length k p g.kept ∙ omega arith);
    }

  -- ---- the marked slots that clash

  module _ (ms : Words) (k r : ℕ) where
    -- slot x is marked, and has this key or this recording
    abbrev pub clashing : ℕ → Bool
    clashing x = has ms x && (eqb (slot_of t order x).key k || eqb (recording (slot_of t order x)) r)

    pub clash-any : (x : ℕ) → list_any clashing (downwards 0 x)
        ≡ (has_key k (marked_to t order ms x) || has_recording r (marked_to t order ms x))
    unfolding marked_to has_key has_recording downwards
    clash-any zero = refl
    clash-any (suc x) = let z : 0 + x ≡ x = omega arith in rw z (go (has ms x) refl (clash-any x))
      where
        s : Slot
        s = slot_of t order x

        before : List Slot
        before = marked_to t order ms x

        go : (b : Bool) → has ms x ≡ b → list_any clashing (downwards 0 x) ≡ (has_key k before || has_recording r before)
            → (clashing x || list_any clashing (downwards 0 x))
            ≡ (has_key k (marked_to t order ms (suc x)) || has_recording r (marked_to t order ms (suc x)))
        go true e ih = rw e (ap (λ (b : Bool). (eqb s.key k || eqb (recording s) r) || b) ih
            ∙ or-apart (eqb s.key k) (eqb (recording s) r) (has_key k before) (has_recording r before))
        go false e ih = rw e ih

-- ---- no reason

module _ (ms : List Slot) (k p : ℕ) where
  pub keeps-range : pointer_ok p ≡ false → false ≡ eqb (reason_for ms (slot k p)) 0
  unfolding reason_for out_of_range
  keeps-range e = rw e

  pub keeps-else : pointer_ok p ≡ true → (r : ℕ) → r ≡ recording_of p → (b : Bool) → b ≡ (has_key k ms || has_recording r ms) → not b
      ≡ eqb (reason_for ms (slot k p)) 0
  unfolding reason_for out_of_range
  keeps-else e r z b q = rw (e, ← z, q) (go (has_key k ms) (has_recording r ms))
    where
      go : (x y : Bool) → not (x || y) ≡ eqb (first_number (test false 1 ∷ test x 2 ∷ test y 3 ∷ [])) 0
      go true y = refl
      go false true = refl
      go false false = refl

pub slot-read : (t order : Words) (x : ℕ) (n : Node) → n ≡ node t (get_or order (x / 12) 0)
    → slot (get_or n.slots (2 * (x % 12)) 0) (get_or n.slots (2 * (x % 12) + 1) 0) ≡ slot_of t order x
unfolding slot_of
slot-read t order x n e = rw e
