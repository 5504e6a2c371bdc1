-- Places among the slots in use, one slot more; and the slots in use as a node's first slot words.
use Rattle.std.proofs.Common.{◌≡◌, ℕ, zero, suc, ◌+◌, ◌-◌, ◌*◌, ◌<◌, ◌≤◌, Bool, true, false, ◌||◌, eqb, leb, List, [], ◌∷◌, ◌++◌, length}
use Rattle.std.proofs.Common.{get_or, take, drop, sym, refl, ap, ◌∙◌, add-zero, zero-add, arith, length-drop, get_or-drop, take-suc, le-ltb}
use Rattle.std.proofs.Common.{lt-ltb, eq-eqb, ne_eqb, eqb-true, leb-false, leb-true}
use mathlib.Core.Bool.{false≢true}
use borrow.Author.Tests.{eqb-false}
use Rattle.std.specs.Prelude.{unwrap_or}
use Rattle.std.specs.List.{find, range_with_len}
use Rattle.model.specs.Table.{Words, at}
use Rattle.model.specs.Slots.{Slot, slot, slots_of, in_use}
use Rattle.model.specs.Shifts.{last_pointer, place_of, hidden_place}
use Rattle.slots.specs.Scan.{used_from, in_use_of}
use Rattle.slots.proofs.Scans.{used-past, used-stop, used-more}

-- ---- one slot more, where i slots are passed

-- What a look for the first place that passes a test finds from place j on, with so many places left: g of the slots in use from there,
-- counted from
-- j, if g is 0 of none and of those from a place that passes, and one more than g of the later ones if it does not.
module _ (test : ℕ → Bool) (g : List Slot → ℕ) (ws : Words) (none : g [] ≡ 0)
    (here : (i : ℕ) → 2 * i + 1 < length ws → test i ≡ true → g (used_from ws i) ≡ 0)
    (later : (i : ℕ) → 2 * i + 1 < length ws → test i ≡ false → g (used_from ws i) ≡ suc (g (used_from ws (i + 1)))) where
  place-found : (m j last : ℕ) → j + m ≡ last → length ws ≡ 2 * last → unwrap_or (find test (range_with_len j m)) last
      ≡ j + g (used_from ws j)
  place-found zero j last e l = omega (arith, e, ap g (used-past ws j (omega (arith, e, l))) ∙ none)
  place-found (suc m) j last e l = go (test j) refl (place-found m (j + 1) last (omega (arith, e)) l)
    where
      go : (b : Bool) → test j ≡ b → unwrap_or (find test (range_with_len (j + 1) m)) last ≡ j + 1 + g (used_from ws (j + 1))
          → unwrap_or (find test (range_with_len j (suc m))) last ≡ j + g (used_from ws j)
      go true q ih = rw q (omega (arith, here j (omega (arith, e, l)) q))
      go false q ih = rw q (ih ∙ omega (arith, later j (omega (arith, e, l)) q))

  pub place-first : length ws ≡ 24 → unwrap_or (find test (range_with_len 0 12)) 12 ≡ g (used_from ws 0)
  place-first l = place-found 12 0 12 refl (omega (arith, l)) ∙ zero-add _

-- the first that is not in use
pub count-found : (ws : Words) → length ws ≡ 24
    → unwrap_or (find (λ (i : ℕ). eqb (at ws (2 * i + 1)) 0) (range_with_len 0 12)) 12 ≡ length (in_use_of ws)
unfolding in_use_of
count-found ws l =
    place-first _ length ws refl (λ i h e. ap length (used-stop ws i h (eqb-true _ 0 e)))
    (λ i h e. ap length (used-more ws i h (eqb-false _ 0 e))) l

-- the first that is not in use, or whose key is not below k
pub key-found : (ws : Words) (k : ℕ) → length ws ≡ 24
    → unwrap_or (find (λ (i : ℕ). eqb (at ws (2 * i + 1)) 0 || leb k (at ws (2 * i))) (range_with_len 0 12)) 12 ≡ place_of k (in_use_of ws)
unfolding in_use_of place_of
key-found ws k l = place-first _ (place_of k) ws refl (λ i h. here i h (eqb (at ws (2 * i + 1)) 0) refl)
    (λ i h. past i h (eqb (at ws (2 * i + 1)) 0) refl) l
  where
    here : (i : ℕ) → 2 * i + 1 < length ws → (b : Bool) → eqb (at ws (2 * i + 1)) 0 ≡ b → b || leb k (at ws (2 * i)) ≡ true
        → place_of k (used_from ws i) ≡ 0
    here i h true q e = ap (place_of k) (used-stop ws i h (eqb-true _ 0 q))
    here i h false q e = ap (place_of k) (used-more ws i h (eqb-false _ 0 q)) ∙ rw (le-ltb (at ws (2 * i)) k (leb-true k _ e), place_of)

    past : (i : ℕ) → 2 * i + 1 < length ws → (b : Bool) → eqb (at ws (2 * i + 1)) 0 ≡ b → b || leb k (at ws (2 * i)) ≡ false
        → place_of k (used_from ws i) ≡ suc (place_of k (used_from ws (i + 1)))
    past i h true q e = absurd (false≢true (sym e))
    past i h false q e = ap (place_of k) (used-more ws i h (eqb-false _ 0 q)) ∙ rw (lt-ltb (at ws (2 * i)) k (leb-false k _ e), place_of)

pub hidden-none : (i b : ℕ) → i + hidden_place b [] ≡ i
unfolding hidden_place
hidden-none i b = omega arith

module _ (i b k p : ℕ) (ss : List Slot) where
  pub hidden-here : p ≡ b → i + hidden_place b (slot k p ∷ ss) ≡ i
  unfolding hidden_place
  hidden-here e = rw (eq-eqb p b e, hidden_place) (omega arith)

  pub hidden-later : (p ≡ b → ⊥) → i + hidden_place b (slot k p ∷ ss) ≡ i + 1 + hidden_place p ss
  unfolding hidden_place
  hidden-later e = rw (ne_eqb p b e, hidden_place) (omega arith)

-- ---- the slots in use are the first slots

-- there are at most half as many slots in use as words
pub in-use-short : (ws : Words) → 2 * length (in_use_of ws) ≤ length ws
unfolding in_use_of slots_of in_use
in-use-short [] = omega arith
in-use-short (k ∷ []) = omega arith
in-use-short (k ∷ p ∷ ws) = go (eqb p 0) refl (in-use-short ws)
  where
    go : (b : Bool) → eqb p 0 ≡ b → 2 * length (in_use_of ws) ≤ length ws → 2 * length (in_use_of (k ∷ p ∷ ws)) ≤ length (k ∷ p ∷ ws)
    go true e ih = rw (e, in_use) (omega arith)
    go false e ih = rw (e, in_use) (omega arith)

drop-in-use : (i : ℕ) (ss : List Slot) → i ≤ length (in_use ss) → drop i (in_use ss) ≡ in_use (drop i ss)
unfolding in_use
drop-in-use zero ss h = refl
drop-in-use (suc i) [] h = absurd (omega arith)
drop-in-use (suc i) (s ∷ ss) h = go (eqb s.pointer 0) refl h (drop-in-use i ss)
  where
    go : (b : Bool) → eqb s.pointer 0 ≡ b → suc i ≤ length (in_use (s ∷ ss))
        → (i ≤ length (in_use ss) → drop i (in_use ss) ≡ in_use (drop i ss)) → drop (suc i) (in_use (s ∷ ss)) ≡ in_use (drop i ss)
    go true e g ih = absurd (omega (arith, rw (e, in_use) at g))
    go false e g ih = rw (e, in_use) (ih (omega (arith, rw (e, in_use) at g)))

-- slot i in use is words 2 i and 2 i + 1
module _ (ws : Words) (i : ℕ) (h : i < length (in_use_of ws)) where
  here : drop i (in_use_of ws) ≡ used_from ws i
  unfolding in_use_of
  here = drop-in-use i (slots_of ws) (omega arith)

  after : drop (i + 1) (in_use_of ws) ≡ used_from ws (i + 1)
  unfolding in_use_of
  after = drop-in-use (i + 1) (slots_of ws) (omega arith)

  inside : 2 * i + 1 < length ws
  inside = omega (arith, in-use-short ws)

  pub in-use-pointer : at ws (2 * i + 1) ≡ 0 → ⊥
  in-use-pointer e = omega (arith, length-drop i (in_use_of ws), ap length (here ∙ used-stop ws i inside e))

  -- the slots in use from place i on are the slot of words 2i and 2i + 1, then those from i + 1 on
  pub in-use-cons : drop i (in_use_of ws) ≡ slot (at ws (2 * i)) (at ws (2 * i + 1)) ∷ drop (i + 1) (in_use_of ws)
  in-use-cons = here ∙ used-more ws i inside in-use-pointer
      ∙ ap (λ (ss : List Slot). slot (at ws (2 * i)) (at ws (2 * i + 1)) ∷ ss) (sym after)

  -- slot i of those in use is made of words 2i and 2i + 1
  pub in-use-at : get_or (in_use_of ws) i (slot 0 0) ≡ slot (at ws (2 * i)) (at ws (2 * i + 1))
  in-use-at =
      let e : get_or (drop i (in_use_of ws)) 0 (slot 0 0) ≡ get_or (in_use_of ws) i (slot 0 0) = rw (get_or-drop, add-zero) in
      sym e ∙ ap (λ (ss : List Slot). get_or ss 0 (slot 0 0)) in-use-cons

-- the pointer before place p
pub pointer-first : (left p : ℕ) (ss : List Slot) → p ≡ 0 → left ≡ last_pointer left (take p ss)
unfolding last_pointer
pointer-first left p ss e = rw e

last-of-snoc : (left : ℕ) (ss : List Slot) (s : Slot) → last_pointer left (ss ++ (s ∷ [])) ≡ s.pointer
unfolding last_pointer
last-of-snoc left [] s = refl
last-of-snoc left (x ∷ ss) s = last-of-snoc x.pointer ss s

pub pointer-later : (left p : ℕ) (ws : Words) → p ≤ length (in_use_of ws) → (p ≡ 0 → ⊥) → at ws (2 * p - 1)
    ≡ last_pointer left (take p (in_use_of ws))
pointer-later left p ws h z =
    let e : p ≡ suc (p - 1) = omega arith in
    let l : p - 1 < length (in_use_of ws) = omega arith in
    let w : 2 * p - 1 ≡ 2 * (p - 1) + 1 = omega (arith, z) in
    rw w (sym (ap (λ (n : ℕ). last_pointer left (take n (in_use_of ws))) e
    ∙ ap (last_pointer left) (take-suc (in_use_of ws) (p - 1) (slot 0 0) l)
    ∙ last-of-snoc left (take (p - 1) (in_use_of ws)) _ ∙ ap (λ (s : Slot). s.pointer) (in-use-at ws (p - 1) l)))
