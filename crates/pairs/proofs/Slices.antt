-- The pairs of a slice, one by one: what is left from pair i on.
use Rattle.std.proofs.Common.{◌≡◌, ℕ, zero, suc, ◌+◌, ◌-◌, ◌*◌, ◌/◌, ◌<◌, ◌≤◌, Bool, true, false, not, ◌&&◌, ◌||◌, eqb, ltb, List, [], ◌∷◌}
use Rattle.std.proofs.Common.{◌++◌, map, length, drop, sym, refl, ap, ◌∙◌, ap₂, arith, ltb-false, ltb-true, le-leb}
use Rattle.std.specs.Slice.Iter.{chunks_exact_rest, chunks_exact_size, chunks_exact_steps}
use Rattle.std.proofs.lemmas.Iterator.{YieldsList}
use Rattle.std.specs.List.{list_all, list_any, range_with_len}
use Rattle.model.specs.Table.{Words, at}
use Rattle.model.specs.Slots.{Slot, slot, slots_of, recording_of, recording}
use Rattle.model.specs.SoundTest.{distinct, rising}
use Rattle.model.specs.Refusals.{has_recording}
use Rattle.list_laws.proofs.Twos.{no-two, first-two, twos-come}
use Rattle.table_laws.proofs.SlotWords.{slots-cons, slots-end}
use Rattle.change_laws.proofs.Pairs.{has-recording}

module _ (ws : Words) where
  abbrev ps : List Slot
  ps = slots_of ws

  pub pair-next : (i : ℕ) → i < length ws / 2 → drop i ps ≡ slot (at ws (2 * i)) (at ws (2 * i + 1)) ∷ drop (i + 1) ps
  pair-next i h = let e : i + 1 ≡ suc i = omega arith in rw e (slots-cons ws i (omega arith))

  pub pair-none : (i : ℕ) → length ws / 2 ≤ i → drop i ps ≡ []
  pair-none i h = slots-end ws i (omega arith)

  -- ---- the keys rise

  -- from pair i on, each above the one before it
  listed-rise : (i m : ℕ) → 1 ≤ i → length ws / 2 - i ≡ m → list_all (λ k. ltb (at ws (2 * k - 2)) (at ws (2 * k))) (range_with_len i m)
      ≡ rising (suc (at ws (2 * i - 2))) (drop i ps)
  unfolding rising
  listed-rise i zero h e = sym (ap (rising (suc (at ws (2 * i - 2)))) (pair-none i (omega arith)))
  listed-rise i (suc m) h e =
      let d : 2 * (i + 1) - 2 ≡ 2 * i = omega arith in
      let later = listed-rise (i + 1) m (omega arith) (omega arith) in
      ap (λ b. ltb (at ws (2 * i - 2)) (at ws (2 * i)) && b) (rw d at later)
      ∙ sym (ap (rising (suc (at ws (2 * i - 2)))) (pair-next i (omega arith)))

  first-some : 1 ≤ length ws / 2 → rising (suc (at ws 0)) (drop 1 ps) ≡ rising 0 ps
  unfolding rising
  first-some h =
      sym
      (ap (rising 0) (pair-next 0 (omega (arith, h)))
      ∙ ap (λ (b : Bool). b && rising (suc (at ws 0)) (drop 1 ps)) (le-leb 0 (at ws 0) (omega arith)))

  first-none : length ws / 2 < 1 → rising (suc (at ws 0)) (drop 1 ps) ≡ rising 0 ps
  unfolding rising
  first-none h = ap (rising (suc (at ws 0))) (pair-none 1 (omega (arith, h))) ∙ sym (ap (rising 0) (pair-none 0 (omega (arith, h))))

  pub listed-rising : list_all (λ k. ltb (at ws (2 * k - 2)) (at ws (2 * k))) (range_with_len 1 (length ws / 2 - 1)) ≡ rising 0 ps
  listed-rising = listed-rise 1 _ (omega arith) refl ∙ go (ltb (length ws / 2) 1) refl
    where
      go : (b : Bool) → ltb (length ws / 2) 1 ≡ b → rising (suc (at ws 0)) (drop 1 ps) ≡ rising 0 ps
      go true e = first-none (ltb-true _ _ e)
      go false e = first-some (ltb-false _ _ e)

  -- ---- a recording number among the pairs from pair i on

  pub listed-recording : (r i m : ℕ) → length ws / 2 - i ≡ m → list_any (λ k. eqb (recording_of (at ws (2 * k + 1))) r) (range_with_len i m)
      ≡ has_recording r (drop i ps)
  unfolding has_recording
  listed-recording r i zero e = sym (ap (has_recording r) (pair-none i (omega arith)))
  listed-recording r i (suc m) e =
      ap (λ b. eqb (recording_of (at ws (2 * i + 1))) r || b) (listed-recording r (i + 1) m (omega arith))
      ∙ sym (ap (has_recording r) (pair-next i (omega arith)))

  -- ---- no recording number twice

  abbrev pub numbers_of : ℕ → List ℕ
  numbers_of i = map recording (drop i ps)

  pub number-next : (i : ℕ) → i < length ws / 2 → numbers_of i ≡ recording_of (at ws (2 * i + 1)) ∷ numbers_of (i + 1)
  number-next i h = ap (map recording) (pair-next i h)

  pub number-none : (i : ℕ) → length ws / 2 ≤ i → numbers_of i ≡ []
  number-none i h = ap (map recording) (pair-none i h)

  pub listed-once : (i m : ℕ) → length ws / 2 - i ≡ m
      → list_all (λ k. not (has_recording (recording_of (at ws (2 * k + 1))) (drop (k + 1) ps))) (range_with_len i m)
      ≡ distinct (numbers_of i)
  unfolding distinct
  listed-once i zero e = sym (ap distinct (number-none i (omega arith)))
  listed-once i (suc m) e =
      ap₂ (λ x y. not x && y) (has-recording (recording_of (at ws (2 * i + 1))) (drop (i + 1) ps)) (listed-once (i + 1) m (omega arith))
      ∙ sym (ap distinct (number-next i (omega arith)))

-- ---- two words at a time

pub first-pair : (ws pair after : Words) → ws ≡ pair ++ after → length pair ≡ 2 → slots_of ws
    ≡ slot (at pair 0) (at pair 1) ∷ slots_of after
unfolding slots_of
first-pair = first-two slots_of slot refl (λ a. refl) (λ a b ws. refl)

pub no-pair : (ws : Words) → length ws < 2 → slots_of ws ≡ []
unfolding slots_of
no-pair = no-two slots_of slot refl (λ a. refl) (λ a b ws. refl)

-- the pairs of a slice come in order
pub pairs-come : (ws : Words) (s : _) → chunks_exact_size s ≡ 2 → chunks_exact_rest s ≡ ws
    → YieldsList chunks_exact_steps (λ x. slot (at x.now 0) (at x.now 1)) s (slots_of ws)
unfolding slots_of
pairs-come = twos-come slots_of slot refl (λ a. refl) (λ a b ws. refl)
