-- The place of a key among pairs whose keys rise.
use Rattle.std.proofs.Common.{◌≡◌, ℕ, zero, suc, ◌-◌, ◌*◌, ◌<◌, ◌≤◌, Bool, true, false, eqb, ◌≢◌, List, [], ◌∷◌, ◌++◌, length, take, drop}
use Rattle.std.proofs.Common.{sym, refl, ap, ◌∙◌, subst, ⊎_elim, arith, take-append-drop, drop_of_length-le, eq-eqb, eqb-true}
use borrow.Author.Tests.{eqb-false}
use Rattle.model.specs.Table.{Words}
use Rattle.model.specs.Slots.{Slot, slot}
use Rattle.model.specs.SoundTest.{rising}
use Rattle.model.specs.Refusals.{has_key}
use Rattle.model.specs.Ledger.{enter}
use Rattle.list_laws.proofs.Tools.{Each, Each-map, Each-append, Each-split, or-right, same-or-not}
use Rattle.list_laws.proofs.Members.{each-both}
use Rattle.tree_laws.proofs.Rising.{rising-cons, rising-from}
use Rattle.change_laws.proofs.Pairs.{has-key-iff, enter-at}
use Rattle.gap.specs.Around.{around, key_at, Under, Over, ends_with}
use Rattle.gap.proofs.Around.{key-below, around-length, ends-none, ends-some}

rise-low : (k b : ℕ) (ps : List Slot) (r : ℕ) → rising b ps ≡ true → 0 < r → r ≤ length ps → key_at ps (r - 1) ≤ k
    → Each (λ (s : Slot). s.key ≤ k) (take r ps)
rise-low k b ps zero h z l g = absurd (omega arith)
rise-low k b [] (suc r) h z l g = absurd (omega arith)
rise-low k b (s ∷ ss) (suc zero) h z l g = (g, tt)
rise-low k b (s ∷ []) (suc (suc r)) h z l g = absurd (omega arith)
rise-low k b (s ∷ u ∷ us) (suc (suc r)) h z l g =
    let c = ((rising-cons b s (u ∷ us)).0 h).1 in
    let f : suc (suc r) - 1 ≡ suc (suc r - 1) = omega arith in
    let ih = rise-low k (suc s.key) (u ∷ us) (suc r) c (omega arith) (omega arith) (subst (λ (i : ℕ). key_at (s ∷ u ∷ us) i ≤ k) f g) in
    (omega (arith, ih.0, ((rising-cons (suc s.key) u us).0 c).0), ih)

rise-high : (k b : ℕ) (ps : List Slot) (r : ℕ) → rising b ps ≡ true → r < length ps → k < key_at ps r
    → Each (λ (s : Slot). k < s.key) (drop r ps)
rise-high k b [] r h l g = absurd (omega arith)
rise-high k b (s ∷ ss) zero h l g = (
  g,
  Each-map (λ (u : Slot). suc s.key ≤ u.key) (λ (u : Slot). k < u.key) ss (λ u e. omega (arith, e, g))
      (rising-from (suc s.key) ss ((rising-cons b s ss).0 h).1),
)
rise-high k b (s ∷ ss) (suc r) h l g = rise-high k (suc s.key) ss r ((rising-cons b s ss).0 h).1 (omega arith) g

has-get : (k : ℕ) (ps : List Slot) (i : ℕ) → i < length ps → key_at ps i ≡ k → has_key k ps ≡ true
unfolding has_key
has-get k [] i h e = absurd (omega arith)
has-get k (s ∷ ss) zero h e = rw (eq-eqb s.key k e)
has-get k (s ∷ ss) (suc i) h e = or-right (eqb s.key k) (has_key k ss) (has-get k ss i (omega arith) e)

module _ (ps : List Slot) (k r : ℕ) (rise : rising 0 ps ≡ true) (few : r ≤ length ps) (under : Under ps k r) (over : Over ps k r) where
  abbrev low : List Slot
  low = take r ps

  abbrev high : List Slot
  high = drop r ps

  -- the keys before the place are at most k, those from it on above k
  low-keys : (x : ℕ) → (r ≢ 0 → key_at ps (r - 1) ≤ x) → Each (λ (s : Slot). s.key ≤ x) low
  low-keys x h = ⊎_elim (λ e. subst (λ (i : ℕ). Each (λ (s : Slot). s.key ≤ x) (take i ps)) (sym e) tt)
      (λ d. rise-low x 0 ps r rise (omega arith) few (h d)) (same-or-not r 0)

  last-key : r ≢ 0 → key_at ps (r - 1) ≤ k
  last-key d = ⊎_elim (λ e. absurd (d e)) (λ h. h) under

  high-keys : Each (λ (s : Slot). k < s.key) high
  high-keys = ⊎_elim none some (same-or-not r (length ps))
    where
      none : r ≡ length ps → Each (λ (s : Slot). k < s.key) high
      none e = rw (drop_of_length-le ps {i = r} (omega arith)) tt

      some : r ≢ length ps → Each (λ (s : Slot). k < s.key) high
      some d = ⊎_elim none (λ h. rise-high k 0 ps r rise (omega arith) h) over

  parts : low ++ high ≡ ps
  parts = take-append-drop r ps

  misses : Each (λ (s : Slot). s.key ≢ k) low → has_key k ps ≡ false
  misses h =
      (has-key-iff k ps).1 (subst (λ (l : List Slot). Each (λ (s : Slot). s.key ≢ k) l) parts
      (Each-append (λ (s : Slot). s.key ≢ k) low high h
      (Each-map (λ (s : Slot). k < s.key) (λ (s : Slot). s.key ≢ k) high (λ s l y. omega (arith, l, y)) high-keys)))

  key-none : r ≡ 0 → has_key k ps ≡ false
  key-none e = misses (subst (λ (i : ℕ). Each (λ (s : Slot). s.key ≢ k) (take i ps)) (sym e) tt)

  key-some : r ≢ 0 → eqb (key_at ps (r - 1)) k ≡ has_key k ps
  key-some z = go (eqb (key_at ps (r - 1)) k) refl
    where
      go : (b : Bool) → eqb (key_at ps (r - 1)) k ≡ b → b ≡ has_key k ps
      go true e = sym (has-get k ps (r - 1) (omega arith) (eqb-true (key_at ps (r - 1)) k e))
      go false e =
          let d = eqb-false (key_at ps (r - 1)) k e in
          let l = last-key z in
          sym (misses (Each-map (λ (s : Slot). s.key ≤ key_at ps (r - 1)) (λ (s : Slot). s.key ≢ k) low
          (λ s h y. d (omega (arith, h, y, l))) (low-keys (key_at ps (r - 1)) (λ y. omega arith))))

  -- a new key enters at its place
  pub enter-place : (x : ℕ) → has_key k ps ≡ false → enter k x ps ≡ low ++ slot k x ∷ high
  enter-place x e =
      let off = Each-split (λ (s : Slot). s.key ≢ k) low high
      (subst (λ (l : List Slot). Each (λ (s : Slot). s.key ≢ k) l) (sym parts) ((has-key-iff k ps).0 e)) in
      let below : Each (λ (s : Slot). s.key < k) low =
      Each-map _ (λ (s : Slot). s.key < k) low (λ s h. omega (arith, h.0, h.1))
      (each-both (λ (s : Slot). s.key ≤ k) (λ (s : Slot). s.key ≢ k) low (low-keys k last-key) off.0) in
      ap (enter k x) (sym parts) ∙ enter-at k x low high below high-keys

-- the last pair below the gap tells whether the key is there
pub ends-key : (ws : Words) (m i k : ℕ) → 2 * m ≤ length ws → i ≤ m → rising 0 (around ws i m) ≡ true → Under (around ws i m) k i
    → Over (around ws i m) k i → ends_with ws i k ≡ has_key k (around ws i m)
ends-key ws m i k room h rise u o = ⊎_elim none some (same-or-not i 0)
  where
    few : i ≤ length (around ws i m)
    few = let n = around-length ws m room i h in omega arith

    none : i ≡ 0 → ends_with ws i k ≡ has_key k (around ws i m)
    none e = sym (ends-none ws i k e) ∙ sym (key-none (around ws i m) k i rise few u o e)

    some : i ≢ 0 → ends_with ws i k ≡ has_key k (around ws i m)
    some d = sym (ends-some ws i k d) ∙ ap (λ (x : ℕ). eqb x k) (sym (key-below ws m room i (omega arith) h))
        ∙ key-some (around ws i m) k i rise few u o d
