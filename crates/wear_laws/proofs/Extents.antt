-- Extents: a word lies in one exactly if it has a store; they rise and do not touch; and they are found run by run.
use Rattle.std.proofs.Common.{◌≡◌, ℕ, zero, suc, ◌+◌, ◌-◌, ◌<◌, ◌≤◌, Bool, true, false, ◌&&◌, ◌||◌, eqb, ltb, leb, ◌≢◌, List, [], ◌∷◌}
use Rattle.std.proofs.Common.{length, sym, refl, ap, ◌∙◌, ⊎_elim, arith, le-ltb, lt-ltb, eq-eqb, ne_eqb, le-leb}
use mathlib.Core.Bool.{or_assoc, false≢true}
use borrow.Author.Tests.{lt-leb}
use Rattle.model.specs.Search.{filter}
use Rattle.model.specs.SoundTest.{elem}
use Rattle.model.specs.Orders.{Order, all_inside}
use Rattle.model.specs.Writes.{numbers}
use Rattle.model.specs.Wear.{stored_to, Extent, extent, joined, join_all, extents_of, covered, Separate}
use Rattle.list_laws.proofs.Tools.{same-or-not, compared, same-test, or-right}
use Rattle.list_laws.proofs.Filters.{filter-yes, filter-no, mem-filter}
use Rattle.list_laws.proofs.Members.{elem-iff, each-elem}
use Rattle.wear_laws.specs.Wearing.{extents_in, Sought}
use Rattle.wear_laws.proofs.Stored.{stored-inside}

-- ---- a word joined to an extent that it touches, or before one that it does not touch

joined-touching : (v : ℕ) (e : Extent) (es : List Extent) → e.offset ≡ suc v → joined v (e ∷ es) ≡ extent v (suc e.size) ∷ es
joined-touching v e es h = rw (eq-eqb e.offset (suc v) h)

joined-apart : (v : ℕ) (e : Extent) (es : List Extent) → e.offset ≢ suc v → joined v (e ∷ es) ≡ extent v 1 ∷ e ∷ es
joined-apart v e es h = rw (ne_eqb e.offset (suc v) h)

-- ---- the extents from a word on, by whether that word is one of them

module _ (f : ℕ → Bool) (w c : ℕ) where
  pub extents-yes : f w ≡ true → extents_in f w (suc c) ≡ joined w (extents_in f (suc w) c)
  unfolding numbers join_all
  extents-yes e = ap join_all (filter-yes f w (numbers (suc w) c) e)

  pub extents-no : f w ≡ false → extents_in f w (suc c) ≡ extents_in f (suc w) c
  unfolding numbers
  extents-no e = ap join_all (filter-no f w (numbers (suc w) c) e)

-- ---- the words covered

-- w is among so many words from a word on
abbrev among : ℕ → ℕ → ℕ → Bool
among w from n = leb from w && ltb w (from + n)

among-one : (w v : ℕ) → among w v 1 ≡ eqb w v
among-one w v = ⊎_elim below (⊎_elim same above) (compared w v)
  where
    below : w < v → among w v 1 ≡ eqb w v
    below l = rw (lt-leb v w l, ne_eqb w v (λ e. omega arith))

    same : w ≡ v → among w v 1 ≡ eqb w v
    same e = rw (le-leb v w (omega arith), lt-ltb w (v + 1) (omega arith), eq-eqb w v e)

    above : v < w → among w v 1 ≡ eqb w v
    above l = rw (le-leb v w (omega arith), le-ltb w (v + 1) (omega arith), ne_eqb w v (λ e. omega arith))

-- one word more in front
among-more : (w v n : ℕ) → among w v (suc n) ≡ eqb w v || among w (suc v) n
among-more w v n = ⊎_elim below (⊎_elim same above) (compared w v)
  where
    below : w < v → among w v (suc n) ≡ eqb w v || among w (suc v) n
    below l = rw (lt-leb v w l, ne_eqb w v (λ e. omega arith), lt-leb (suc v) w (omega arith))

    same : w ≡ v → among w v (suc n) ≡ eqb w v || among w (suc v) n
    same e = rw (le-leb v w (omega arith), lt-ltb w (v + suc n) (omega arith), eq-eqb w v e)

    above : v < w → among w v (suc n) ≡ eqb w v || among w (suc v) n
    above l = let e : v + suc n ≡ suc v + n =
        omega arith in rw (le-leb v w (omega arith), ne_eqb w v (λ e. omega arith), le-leb (suc v) w (omega arith), e)

covered-joined : (w v : ℕ) (es : List Extent) → covered w (joined v es) ≡ eqb w v || covered w es
unfolding covered
covered-joined w v [] = rw (among-one w v)
covered-joined w v (e ∷ es) = ⊎_elim touching apart (same-or-not e.offset (suc v))
  where
    touching : e.offset ≡ suc v → covered w (joined v (e ∷ es)) ≡ eqb w v || covered w (e ∷ es)
    touching h = unfold covered in rw (joined-touching v e es h)
        (ap (λ (b : Bool). b || covered w es) (among-more w v e.size) ∙ or_assoc (eqb w v) (among w (suc v) e.size) (covered w es)
        ∙ ap (λ (o : ℕ). eqb w v || (among w o e.size || covered w es)) (sym h))

    apart : e.offset ≢ suc v → covered w (joined v (e ∷ es)) ≡ eqb w v || covered w (e ∷ es)
    apart h = unfold covered in rw (joined-apart v e es h)
        (ap (λ (b : Bool). b || (among w e.offset e.size || covered w es)) (among-one w v))

covered-all : (w : ℕ) (vs : List ℕ) → covered w (join_all vs) ≡ elem w vs
unfolding covered join_all elem
covered-all w [] = refl
covered-all w (v ∷ vs) = covered-joined w v (join_all vs) ∙ ap (λ (b : Bool). eqb w v || b) (covered-all w vs)

elem-row : (w from count : ℕ) → from ≤ w → w < from + count → elem w (numbers from count) ≡ true
unfolding elem numbers
elem-row w from zero h l = absurd (omega arith)
elem-row w from (suc c) h l =
    ⊎_elim (λ e. rw (eq-eqb w from e))
    (λ e. or-right (eqb w from) _ (elem-row w (suc from) c (omega arith) (omega arith))) (same-or-not w from)

-- A word lies in an extent exactly if it has a store.
pub extents-cover : (n : ℕ) (os : List Order) → all_inside n os ≡ true → (w : ℕ) → covered w (extents_of n os) ≡ elem w (stored_to os)
unfolding extents_of
extents-cover n os i w = covered-all w (filter has (numbers 0 n)) ∙ same-test _ _ (there, back)
  where
    has : ℕ → Bool
    has v = elem v (stored_to os)

    there : elem w (filter has (numbers 0 n)) ≡ true → has w ≡ true
    there h = ((mem-filter has w (numbers 0 n)).0 ((elem-iff w (filter has (numbers 0 n))).0 h)).1

    back : has w ≡ true → elem w (filter has (numbers 0 n)) ≡ true
    back h =
        let l : w < 0 + n = omega (arith, each-elem (λ (v : ℕ). v < n) w (stored_to os) h (stored-inside n os i)) in
        (elem-iff w (filter has (numbers 0 n))).1
        ((mem-filter has w (numbers 0 n)).1 ((elem-iff w (numbers 0 n)).0 (elem-row w 0 n (omega arith) l), h))

-- ---- they rise and do not touch

-- each of them begins at word w or after it
abbrev From : ℕ → List Extent → Type 0
From w [] = Unit {0}
From w (e ∷ es) = w ≤ e.offset

from-earlier : (w : ℕ) (es : List Extent) → From (suc w) es → From w es
from-earlier w [] h = tt
from-earlier w (e ∷ es) h = omega arith

longer-apart : (w : ℕ) (e : Extent) (es : List Extent) → e.offset ≡ suc w → Separate (e ∷ es) → Separate (extent w (suc e.size) ∷ es)
longer-apart w e [] h a = omega arith
longer-apart w e (f ∷ es) h a = let l = a.1 in (omega arith, omega arith, a.2)

joined-rises : (w : ℕ) (es : List Extent) → From (suc w) es → Separate es → From w (joined w es) × Separate (joined w es)
joined-rises w [] h a = (omega arith, omega arith)
joined-rises w (e ∷ es) h a = ⊎_elim touching apart (same-or-not e.offset (suc w))
  where
    touching : e.offset ≡ suc w → From w (joined w (e ∷ es)) × Separate (joined w (e ∷ es))
    touching t = rw (joined-touching w e es t) (omega arith, longer-apart w e es t a)

    apart : e.offset ≢ suc w → From w (joined w (e ∷ es)) × Separate (joined w (e ∷ es))
    apart t = rw (joined-apart w e es t) (omega arith, (omega arith, omega arith, a))

extents-rise : (f : ℕ → Bool) (from count : ℕ) → From from (extents_in f from count) × Separate (extents_in f from count)
unfolding filter numbers join_all
extents-rise f from zero = (tt, tt)
extents-rise f from (suc c) = go (f from) refl (extents-rise f (suc from) c)
  where
    go : (b : Bool) → f from ≡ b → From (suc from) (extents_in f (suc from) c) × Separate (extents_in f (suc from) c)
        → From from (extents_in f from (suc c)) × Separate (extents_in f from (suc c))
    go true e ih = rw (extents-yes f from c e) (joined-rises from (extents_in f (suc from) c) ih.0 ih.1)
    go false e ih = rw (extents-no f from c e) (from-earlier from (extents_in f (suc from) c) ih.0, ih.1)

-- The extents rise and do not touch.
pub extents-apart : (n : ℕ) (os : List Order) → Separate (extents_of n os)
unfolding extents_of
extents-apart n os = (extents-rise (λ (w : ℕ). elem w (stored_to os)) 0 n).1

-- there are no more of them than words
joined-few : (w : ℕ) (es : List Extent) → length (joined w es) ≤ suc (length es)
joined-few w [] = omega arith
joined-few w (e ∷ es) =
    ⊎_elim (λ h. omega (arith, ap length (joined-touching w e es h))) (λ h. omega (arith, ap length (joined-apart w e es h)))
    (same-or-not e.offset (suc w))

-- among so many words there are at most so many extents
pub extents-few : (f : ℕ → Bool) (from count : ℕ) → length (extents_in f from count) ≤ count
unfolding filter numbers join_all
extents-few f from zero = omega arith
extents-few f from (suc c) = go (f from) refl (extents-few f (suc from) c)
  where
    go : (b : Bool) → f from ≡ b → length (extents_in f (suc from) c) ≤ c → length (extents_in f from (suc c)) ≤ suc c
    go true e ih = omega (arith, ap length (extents-yes f from c e), joined-few from (extents_in f (suc from) c))
    go false e ih = omega (arith, ap length (extents-no f from c e))

-- ---- run by run

-- a word before extents that begin later than right after it
joined-first : (w : ℕ) (es : List Extent) → From (suc (suc w)) es → joined w es ≡ extent w 1 ∷ es
joined-first w [] h = refl
joined-first w (e ∷ es) h = joined-apart w e es (λ q. omega arith)

module _ (f : ℕ → Bool) where
  -- no word for d words
  past : (w d c : ℕ) → ((v : ℕ) → w ≤ v → v < w + d → f v ≡ false) → extents_in f w (d + c) ≡ extents_in f (w + d) c
  past w zero c h = let p : 0 + c ≡ c = omega arith in let q : w + 0 ≡ w = omega arith in rw (p, q)
  past w (suc d) c h =
      let p : suc d + c ≡ suc (d + c) = omega arith in
      let q : w + suc d ≡ suc w + d = omega arith in
      rw (p, q) (extents-no f w (d + c) (h w (omega arith) (omega arith)) ∙ past (suc w) d c (λ v a b. h v (omega arith) (omega arith)))

  -- no word at w, or the end there
  abbrev Ends : ℕ → ℕ → Type 0
  Ends w c = (0 < c) → f w ≡ false

  ends-from : (w c : ℕ) → Ends w c → From (suc w) (extents_in f w c)
  unfolding numbers filter join_all
  ends-from w zero h = tt
  ends-from w (suc c) h = rw (extents-no f w c (h (omega arith))) (extents-rise f (suc w) c).0

  -- a word at each of d + 1 words, and none after them
  run : (w d c : ℕ) → ((v : ℕ) → w ≤ v → v < w + suc d → f v ≡ true) → Ends (w + suc d) c → extents_in f w (suc d + c) ≡ extent w (suc d)
      ∷ extents_in f (w + suc d) c
  run w zero c h n =
      let p : 1 + c ≡ suc c = omega arith in
      let q : w + 1 ≡ suc w = omega arith in
      rw (p, q) (extents-yes f w c (h w (omega arith) (omega arith))
      ∙ joined-first w (extents_in f (suc w) c) (ends-from (suc w) c (rw q at n)))
  run w (suc d) c h n =
      let p : suc (suc d) + c ≡ suc (suc d + c) = omega arith in
      let q : w + suc (suc d) ≡ suc w + suc d = omega arith in
      rw (p, q)
      (extents-yes f w (suc d + c) (h w (omega arith) (omega arith))
      ∙ ap (joined w) (run (suc w) d c (λ v a b. h v (omega arith) (omega arith)) (rw q at n))
      ∙ joined-touching w (extent (suc w) (suc d)) (extents_in f (suc w + suc d) c) refl)

  -- with what a search for the next word, and for the next gap, says
  module _ (len w r : ℕ) where
    -- the extents from w on are those from the first word on for which f holds
    pub sought-past : w ≤ len → Sought f true w len r → extents_in f w (len - w) ≡ extents_in f r (len - r)
    sought-past h s =
        let p : len - w ≡ (r - w) + (len - r) = omega (arith, s.after, s.within) in
        let q : w + (r - w) ≡ r = omega (arith, s.after) in
        rw p (past w (r - w) (len - r) (λ v a b. s.before v a (omega arith)) ∙ rw q)

    -- from a word for which f holds, the first one for which it does not comes later
    pub sought-longer : w < len → f w ≡ true → Sought f false w len r → w < r
    sought-longer h e s =
        ⊎_elim (λ q. absurd (false≢true (sym (s.found (omega arith)) ∙ ap f (sym q) ∙ e))) (λ q. omega (arith, s.after)) (same-or-not w r)

    -- from a word for which f holds the first extent runs to where f ends, and the others come after it
    pub sought-run : w < len → f w ≡ true → Sought f false w len r → extents_in f w (len - w) ≡ extent w (r - w) ∷ extents_in f r (len - r)
    sought-run h e s =
        let l = sought-longer h e s in
        let p : len - w ≡ suc (r - suc w) + (len - r) = omega (arith, s.within) in
        let q : w + suc (r - suc w) ≡ r = omega arith in
        let z : r - w ≡ suc (r - suc w) = omega arith in
        rw (p, z) (run w (r - suc w) (len - r) (λ v a b. s.before v a (omega arith)) (λ m. rw q (s.found (omega arith))) ∙ rw q)

-- tests that agree give the same extents
module _ (f g : ℕ → Bool) (h : (w : ℕ) → f w ≡ g w) where
  -- tests that agree give the same extents
  pub extents-same : (from count : ℕ) → extents_in f from count ≡ extents_in g from count
  extents-same from count = ap (λ (q : ℕ → Bool). extents_in q from count) (λ i w. h w i)
