-- Extents counted and written one by one: the next one, and the end.
use Rattle.std.proofs.Common.{◌≡◌, ℕ, suc, ◌+◌, ◌-◌, ◌*◌, ◌/◌, ◌<◌, ◌≤◌, Bool, true, false, List, [], ◌∷◌, ◌++◌, length, take, set, sym, ap}
use Rattle.std.proofs.Common.{◌∙◌, ⊎_elim, append_assoc, append-nil, add-one, arith, length-set, take_all, take-suc-set}
use native.Mathlib.Nat.{sub-zero}
use Rattle.std.proofs.lemmas.Bool.{cases_lt}
use Rattle.std.proofs.lemmas.List.{nil_from_length}
use Rattle.model.specs.Table.{Words}
use Rattle.model.specs.Writes.{numbers}
use Rattle.model.specs.Search.{filter}
use Rattle.model.specs.Wear.{Extent, extent, join_all, extent_words}
use Rattle.wear_laws.specs.Wearing.{extents_in, Sought}
use Rattle.wear_laws.proofs.Extents.{sought-past, sought-longer, sought-run}

-- ---- by what was sought

module _ (f : ℕ → Bool) (len : ℕ) where
  -- the extents from w on
  abbrev pub left : ℕ → List Extent
  left w = extents_in f w (len - w)

  pub left-all : left 0 ≡ extents_in f 0 len
  left-all = rw sub-zero

  pub left-first : (w : ℕ) → Sought f true 0 len w → left w ≡ extents_in f 0 len
  left-first w s = sym (sought-past f len 0 w (omega arith) s) ∙ left-all

  pub left-none : (w : ℕ) → len ≤ w → left w ≡ []
  unfolding numbers filter join_all
  left-none w h = let e : len - w ≡ 0 = omega arith in rw e

  pub counted-end : (w : ℕ) → len ≤ w → (pairs : ℕ) → pairs + length (left w) ≡ length (extents_in f 0 len) → pairs
      ≡ length (extents_in f 0 len)
  counted-end w h pairs q = omega (arith, ap length (left-none w h))

  module _ (w e v : ℕ) (h : w < len) (y : f w ≡ true) (s : Sought f false w len e) (t : Sought f true e len v) where
    pub left-next : left w ≡ extent w (e - w) ∷ left v
    left-next = sought-run f len w e h y s ∙ ap (λ (es : List Extent). extent w (e - w) ∷ es) (sought-past f len e v s.within t)

    pub left-longer : w < v
    left-longer = omega (arith, sought-longer f len w e h y s, t.after)

    -- one pair more is counted
    pub counted-next : (pairs : ℕ) → pairs + length (left w) ≡ length (extents_in f 0 len) → (pairs + 1) + length (left v)
        ≡ length (extents_in f 0 len)
    counted-next pairs q = omega (arith, ap length left-next)

-- ---- written

-- two words more of a slice
take-two : (ws : Words) (n x y : ℕ) → n + 1 < length ws → take (suc (suc n)) (set (set ws n x) (n + 1) y) ≡ take n ws ++ x ∷ y ∷ []
take-two ws n x y h =
    rw (add-one n)
    (take-suc-set (set ws n x) (suc n) y (omega (arith, length-set ws n x))
    ∙ ap (λ (l : Words). l ++ (y ∷ [])) (take-suc-set ws n x (omega arith))
    ∙ append_assoc (take n ws) (x ∷ []) (y ∷ []))

-- k pairs are written and those from w on are left; there is room for just these
pub record Written (f : ℕ → Bool) (len : ℕ) (pairs : Words) (k w : ℕ) : Type 0 where
  pub room : 2 * k + 2 * length (left f len w) ≡ length pairs
  pub words : take (2 * k) pairs ++ extent_words (left f len w) ≡ extent_words (extents_in f 0 len)

module _ (f : ℕ → Bool) (len : ℕ) (pairs : Words) where
  pub written-first : (w : ℕ) → Sought f true 0 len w → length pairs ≡ 2 * length (extents_in f 0 len) → Written f len pairs 0 w
  written-first w s h = record { room = omega (arith, ap length (left-first f len w s)); words = ap extent_words (left-first f len w s) }

  module _ (k w : ℕ) (i : Written f len pairs k w) where
    pub written-end : length pairs / 2 ≤ k → pairs ≡ extent_words (extents_in f 0 len)
    unfolding extent_words
    written-end h =
        let z : left f len w ≡ [] = nil_from_length (left f len w) (omega (arith, i.room)) in
        let all : take (2 * k) pairs ≡ pairs = take_all (2 * k) pairs (omega (arith, i.room, ap length z)) in
        sym all ∙ sym (append-nil (take (2 * k) pairs)) ∙ ap (λ (es : List Extent). take (2 * k) pairs ++ extent_words es) (sym z) ∙ i.words

    module _ (some : k < length pairs / 2) where
      pub written-more : w < len
      written-more = ⊎_elim (λ h. h) (λ h. absurd (omega (arith, i.room, ap length (left-none f len w h)))) (cases_lt w len)

    module _ (e : ℕ) (h : w < len) (y : f w ≡ true) (s : Sought f false w len e) where
      written-room : 2 * k + 1 < length pairs
      written-room = omega (arith, i.room, ap length (sought-run f len w e h y s))

      pub written-next : (v : ℕ) → Sought f true e len v → Written f len (set (set pairs (2 * k) w) (2 * k + 1) (e - w)) (k + 1) v
      unfolding extent_words
      written-next v t =
          let n = left-next f len w e v h y s t in
          let two : 2 * (k + 1) ≡ suc (suc (2 * k)) = omega arith in
          record {
            room = omega (arith, i.room, ap length n, length-set (set pairs (2 * k) w) (2 * k + 1) (e - w), length-set pairs (2 * k) w);
            words =
                rw two
                (ap (λ (l : Words). l ++ extent_words (left f len v)) (take-two pairs (2 * k) w (e - w) written-room)
                ∙ append_assoc (take (2 * k) pairs) (w ∷ (e - w) ∷ []) _
                ∙ ap (λ (es : List Extent). take (2 * k) pairs ++ extent_words es) (sym n) ∙ i.words);
          }
