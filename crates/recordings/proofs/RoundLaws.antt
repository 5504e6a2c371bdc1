-- What is there twice stays a suspect, round by round; where no place is hit twice, nothing is there twice.
use Rattle.std.proofs.Common.{◌≡◌, ℕ, zero, suc, ◌+◌, ◌-◌, ◌*◌, ◌/◌, ◌%◌, ◌<◌, ◌≤◌, Bool, true, false, cond, not, ◌&&◌, ◌||◌, eqb, ◌≢◌}
use Rattle.std.proofs.Common.{List, [], ◌∷◌, length, replicate, sym, refl, ap, ◌∙◌, ⊎_elim, mod-lt, arith, eq-eqb, ne_eqb, eqb-true}
use mathlib.Core.Bool.{or-true, or-false, false≢true}
use lib.ListN.{length-replicate}
use Rattle.model.specs.Table.{Words}
use Rattle.model.specs.Reached.{filter}
use Rattle.model.specs.SoundTest.{elem, distinct}
use Rattle.list_laws.proofs.Tools.{and-iff, same-or-not, refuted, or-right}
use Rattle.list_laws.proofs.Filters.{elem-filter, filter-yes, filter-no}
use Rattle.list_laws.proofs.Distinct.{distinct-cons}
use Rattle.numbers.specs.Cells.{CELLS, Entry, outcome, entered_all, Tells}
use Rattle.numbers.proofs.Once.{tells-same, all-tells}
use Rattle.bits.specs.Bits.{has, put}
use Rattle.bits.proofs.Marks.{has-put-same, has-put-other, put-length}
use Rattle.recordings.specs.Rounds.{PLACES, ONCE, TWICE, prime_of, place_of, Hits, hits, or_before, hit, hit_if, hit_all, suspect, again}
use Rattle.recordings.specs.Rounds.{Stays}

-- ---- places

prime-some : (k : ℕ) → (0 < prime_of k) × (prime_of k ≤ PLACES)
unfolding prime_of
prime-some zero = (omega arith, omega arith)
prime-some (suc zero) = (omega arith, omega arith)
prime-some (suc (suc zero)) = (omega arith, omega arith)
prime-some (suc (suc (suc zero))) = (omega arith, omega arith)
prime-some (suc (suc (suc (suc zero)))) = (omega arith, omega arith)
prime-some (suc (suc (suc (suc (suc k))))) = (omega arith, omega arith)

pub place-below : (k x : ℕ) → place_of k x < PLACES
unfolding place_of
place-below k x = let p = prime-some k in let l = mod-lt x p.0 in omega arith

pub place-at : (k x p : ℕ) → prime_of k ≡ p → x % p ≡ place_of k x
unfolding place_of
place-at k x p e = rw e

pub prime-last : (k : ℕ) → 4 < k → prime_of k ≡ 891287
unfolding prime_of
prime-last k h = let z : k ≡ suc (suc (suc (suc (suc (k - 5))))) = omega arith in rw z

pub suspect-first : (k : ℕ) (ws : Words) (x : ℕ) → k ≡ 0 → true ≡ suspect k ws x
unfolding suspect
suspect-first k ws x e = rw e

pub suspect-later : (k : ℕ) (ws : Words) (x y : ℕ) → k ≢ 0 → y ≡ place_of (k - 1) x → has ws (y / 2) ≡ suspect k ws x
unfolding suspect
suspect-later k ws x y z e = ap (λ (i : ℕ). has ws (i / 2)) e ∙ sym (rw (ne_eqb k 0 z))

-- ---- marks keep

or-left : (a b : Bool) → a ≡ true → (a || b) ≡ true
or-left true b e = refl
or-left false b e = absurd (false≢true e)

put-keeps : (ws : Words) (x y : ℕ) → x < 64 * length ws → has ws y ≡ true → has (put ws x) y ≡ true
put-keeps ws x y l h = ⊎_elim (λ q. rw q (has-put-same ws x l)) (λ q. has-put-other ws x y l q ∙ h) (same-or-not y x)

-- ---- one round

record Wide (h : Hits) : Type 0 where
  once-long : length h.once ≡ ONCE
  twice-long : length h.twice ≡ TWICE

-- y was hit; its pair was hit twice, and that is told
abbrev Hit : ℕ → Hits → Type 0
Hit y h = has h.once y ≡ true

abbrev Caught : ℕ → Hits → Type 0
Caught y h = (has h.twice (y / 2) ≡ true) × (h.crowded ≡ true)

module _ (y : ℕ) (h : Hits) where
  pub hit-first : has h.once y ≡ false → hit y h ≡ hits (put h.once y) h.twice h.crowded
  unfolding hit
  hit-first e = rw e

  pub hit-later : has h.once y ≡ true → hit y h ≡ hits h.once (put h.twice (y / 2)) true
  unfolding hit
  hit-later e = rw e

module _ (y : ℕ) (l : y < PLACES) (h : Hits) (w : Wide h) where
  hit-cases : (P : Hits → Type 0) → (has h.once y ≡ false → P (hits (put h.once y) h.twice h.crowded))
      → (has h.once y ≡ true → P (hits h.once (put h.twice (y / 2)) true)) → P (hit y h)
  hit-cases P a b = go (has h.once y) refl
    where
      go : (c : Bool) → has h.once y ≡ c → P (hit y h)
      go true e = rw (hit-later y h e) (b e)
      go false e = rw (hit-first y h e) (a e)

  room-once : y < 64 * length h.once
  room-once = omega (arith, w.once-long)

  room-twice : y / 2 < 64 * length h.twice
  room-twice = omega (arith, w.twice-long)

  hit-wide : Wide (hit y h)
  hit-wide = hit-cases Wide
      (λ e. record { once-long = put-length h.once y ∙ w.once-long; twice-long = w.twice-long })
      (λ e. record { once-long = w.once-long; twice-long = put-length h.twice (y / 2) ∙ w.twice-long })

  hit-here : Hit y (hit y h)
  hit-here = hit-cases (Hit y) (λ e. has-put-same h.once y room-once) (λ e. e)

  hit-again : Hit y h → Caught y (hit y h)
  hit-again k = rw (hit-later y h k) (has-put-same h.twice (y / 2) room-twice, refl)

  hit-keeps : (x : ℕ) → Hit x h → Hit x (hit y h)
  hit-keeps x k = hit-cases (Hit x) (λ e. put-keeps h.once y x room-once k) (λ e. k)

  caught-keeps : (x : ℕ) → Caught x h → Caught x (hit y h)
  caught-keeps x k = hit-cases (Caught x) (λ e. k) (λ e. (put-keeps h.twice (y / 2) (x / 2) room-twice k.0, refl))

-- ---- whether some place was hit twice before is data

hit-before : (y : ℕ) (c : Bool) (h : Hits) → hit y (or_before c h) ≡ or_before c (hit y h)
hit-before y c h = go (has h.once y) refl
  where
    go : (b : Bool) → has h.once y ≡ b → hit y (or_before c h) ≡ or_before c (hit y h)
    go true e = hit-later y (or_before c h) e
        ∙ sym (ap (or_before c) (hit-later y h e) ∙ ap (hits h.once (put h.twice (y / 2))) (or-true c))
    go false e = hit-first y (or_before c h) e ∙ sym (ap (or_before c) (hit-first y h e))

module _ (q : ℕ → Bool) (place : ℕ → ℕ) (x : ℕ) (h : Hits) where
  pub if-yes : q x ≡ true → hit_if q place x h ≡ hit (place x) h
  unfolding hit_if
  if-yes e = rw e

  pub if-no : q x ≡ false → hit_if q place x h ≡ h
  unfolding hit_if
  if-no e = rw e

module _ (q : ℕ → Bool) (place : ℕ → ℕ) where
  if-before : (x : ℕ) (c : Bool) (h : Hits) → hit_if q place x (or_before c h) ≡ or_before c (hit_if q place x h)
  if-before x c h = go (q x) refl
    where
      go : (b : Bool) → q x ≡ b → hit_if q place x (or_before c h) ≡ or_before c (hit_if q place x h)
      go true e = if-yes q place x (or_before c h) e ∙ hit-before (place x) c h ∙ sym (ap (or_before c) (if-yes q place x h e))
      go false e = if-no q place x (or_before c h) e ∙ sym (ap (or_before c) (if-no q place x h e))

  all-before : (xs : List ℕ) (c : Bool) (h : Hits) → hit_all q place xs (or_before c h) ≡ or_before c (hit_all q place xs h)
  unfolding hit_all
  all-before [] c h = refl
  all-before (x ∷ xs) c h = ap (hit_all q place xs) (if-before x c h) ∙ all-before xs c (hit_if q place x h)

  module _ (once twice : Words) (c : Bool) (o t : Words) (r : Bool) where
    none-before : or_before c (hits once twice false) ≡ hits once twice c
    none-before = ap (hits once twice) (or-false c)

    pub if-joined : (x : ℕ) → hits o t r ≡ hit_if q place x (hits once twice false) → hits o t (c || r)
        ≡ hit_if q place x (hits once twice c)
    if-joined x e = ap (or_before c) e ∙ sym (if-before x c (hits once twice false)) ∙ ap (hit_if q place x) none-before

    pub all-joined : (xs : List ℕ) → hits o t r ≡ hit_all q place xs (hits once twice false) → hits o t (c || r)
        ≡ hit_all q place xs (hits once twice c)
    all-joined xs e = ap (or_before c) e ∙ sym (all-before xs c (hits once twice false)) ∙ ap (hit_all q place xs) none-before

module _ (q : ℕ → Bool) (place : ℕ → ℕ) (low : (x : ℕ) → place x < PLACES) where
  if-cases : (P : Hits → Type 0) (x : ℕ) (h : Hits) → P h → (q x ≡ true → P (hit (place x) h)) → P (hit_if q place x h)
  unfolding hit_if
  if-cases P x h a b = go (q x) refl
    where
      go : (c : Bool) → q x ≡ c → P (cond c (hit (place x) h) h)
      go true e = b e
      go false e = a

  if-wide : (x : ℕ) (h : Hits) → Wide h → Wide (hit_if q place x h)
  if-wide x h w = if-cases Wide x h w (λ e. hit-wide (place x) (low x) h w)

  all-keeps : (y : ℕ) (xs : List ℕ) (h : Hits) → Wide h → Caught y h → Caught y (hit_all q place xs h)
  unfolding hit_all
  all-keeps y [] h w k = k
  all-keeps y (x ∷ xs) h w k =
      all-keeps y xs (hit_if q place x h) (if-wide x h w) (if-cases (Caught y) x h k (λ e. caught-keeps (place x) (low x) h w y k))

  -- a suspect whose place was hit before is caught
  caught-elem : (x : ℕ) → q x ≡ true → (xs : List ℕ) (h : Hits) → Wide h → Hit (place x) h → elem x xs ≡ true
      → Caught (place x) (hit_all q place xs h)
  unfolding hit_all elem
  caught-elem x s [] h w k e = absurd (false≢true e)
  caught-elem x s (y ∷ ys) h w k e = go (eqb x y) refl e (caught-elem x s ys)
    where
      go : (b : Bool) → eqb x y ≡ b → (b || elem x ys) ≡ true
          → ((h : Hits) → Wide h → Hit (place x) h → elem x ys ≡ true → Caught (place x) (hit_all q place ys h))
          → Caught (place x) (hit_all q place ys (hit_if q place y h))
      go true c e ih =
          let z : x ≡ y = eqb-true x y c in
          let m : q y ≡ true = rw z at s in
          let n : Caught (place x) (hit_if q place y h) = rw (if-yes q place y h m, ← z) (hit-again (place x) (low x) h w k) in
          all-keeps (place x) ys (hit_if q place y h) (if-wide y h w) n
      go false c e ih = ih (hit_if q place y h) (if-wide y h w)
          (if-cases (Hit (place x)) y h k (λ m. hit-keeps (place y) (low y) h w (place x) k)) e

  -- a suspect that is there twice is caught
  caught : (x : ℕ) → q x ≡ true → (xs : List ℕ) (h : Hits) → Wide h → again x xs ≡ true → Caught (place x) (hit_all q place xs h)
  unfolding hit_all again
  caught x s [] h w e = absurd (false≢true e)
  caught x s (y ∷ ys) h w e = go (eqb x y && elem x ys) refl e (caught x s ys)
    where
      go : (b : Bool) → (eqb x y && elem x ys) ≡ b → (b || again x ys) ≡ true
          → ((h : Hits) → Wide h → again x ys ≡ true → Caught (place x) (hit_all q place ys h))
          → Caught (place x) (hit_all q place ys (hit_if q place y h))
      go true c e ih =
          let u = (and-iff (eqb x y) (elem x ys)).0 c in
          let z : x ≡ y = eqb-true x y u.0 in
          let m : q y ≡ true = rw z at s in
          let n : Hit (place x) (hit_if q place y h) = rw (if-yes q place y h m, ← z) (hit-here (place x) (low x) h w) in
          caught-elem x s ys (hit_if q place y h) (if-wide y h w) n u.1
      go false c e ih = ih (hit_if q place y h) (if-wide y h w) e

-- ---- there twice

again-cons : (x y : ℕ) (ys : List ℕ) → again x ys ≡ true → again x (y ∷ ys) ≡ true
unfolding again
again-cons x y ys e = or-right (eqb x y && elem x ys) (again x ys) e

again-here : (x : ℕ) (ys : List ℕ) → elem x ys ≡ true → again x (x ∷ ys) ≡ true
unfolding again
again-here x ys e = or-left (eqb x x && elem x ys) (again x ys) ((and-iff (eqb x x) (elem x ys)).1 (eq-eqb x x refl, e))

-- numbers of which none is there twice are different
pub none-again : (xs : List ℕ) → ((x : ℕ) → again x xs ≡ true → ⊥) → distinct xs ≡ true
none-again [] h = unfold distinct in refl
none-again (x ∷ xs) h =
    (distinct-cons x xs).1 (refuted (elem x xs) (λ e. h x (again-here x xs e)), none-again xs (λ y e. h y (again-cons y x xs e)))

distinct-step : (x : ℕ) (xs : List ℕ) → distinct (x ∷ xs) ≡ (not (elem x xs) && distinct xs)
unfolding distinct
distinct-step x xs = refl

-- whether numbers are different shows among the suspects
pub stays-distinct : (p : ℕ → Bool) (xs : List ℕ) → Stays p xs → distinct (filter p xs) ≡ distinct xs
unfolding filter
stays-distinct p [] s = refl
stays-distinct p (x ∷ xs) s = go (p x) refl (stays-distinct p xs (λ y e. s y (again-cons y x xs e)))
  where
    go : (b : Bool) → p x ≡ b → distinct (filter p xs) ≡ distinct xs → distinct (filter p (x ∷ xs)) ≡ distinct (x ∷ xs)
    go true e ih =
        ap distinct (filter-yes p x xs e) ∙ distinct-step x (filter p xs)
        ∙ ap (λ (b : Bool). not b && distinct (filter p xs)) (elem-filter p x xs e)
        ∙ ap (λ (b : Bool). not (elem x xs) && b) ih ∙ sym (distinct-step x xs)
    go false e ih =
        let once : elem x xs ≡ false = refuted (elem x xs) (λ k. false≢true (sym e ∙ s x (again-here x xs k))) in
        ap distinct (filter-no p x xs e) ∙ ih ∙ sym (distinct-step x xs ∙ rw once)

-- ---- the rounds

pub first-stays : (ws : Words) (xs : List ℕ) → Stays (suspect 0 ws) xs
unfolding suspect
first-stays ws xs x e = refl

suspect-next : (k : ℕ) (ws : Words) (x : ℕ) → suspect (k + 1) ws x ≡ has ws (place_of k x / 2)
unfolding suspect
suspect-next k ws x =
    let z : k + 1 - 1 ≡ k = omega arith in
    ap (λ (b : Bool). cond b true (has ws (place_of (k + 1 - 1) x / 2))) (ne_eqb (k + 1) 0 (λ e. omega arith))
    ∙ ap (λ (i : ℕ). has ws (place_of i x / 2)) z

module _ (k : ℕ) (olds : Words) (xs : List ℕ) (s : Stays (suspect k olds) xs) (h : Hits)
    (e : h ≡ hit_all (suspect k olds) (place_of k) xs (hits (replicate ONCE 0) (replicate TWICE 0) false)) where
  all-caught : (x : ℕ) → again x xs ≡ true → Caught (place_of k x) h
  all-caught x a =
      rw e
      (caught (suspect k olds) (place_of k) (place-below k) x (s x a) xs (hits (replicate ONCE 0) (replicate TWICE 0) false)
      (record { once-long = length-replicate {A = ℕ} ONCE 0; twice-long = length-replicate {A = ℕ} TWICE 0 }) a)

  -- those that a round leaves as suspects
  pub round-stays : Stays (suspect (k + 1) h.twice) xs
  round-stays x a = suspect-next k h.twice x ∙ (all-caught x a).0

  -- where no place was hit twice
  pub round-apart : h.crowded ≡ false → distinct xs ≡ true
  round-apart z = none-again xs (λ x a. false≢true (sym z ∙ (all-caught x a).1))

-- ---- a round, then the cells, as the code meets them

-- words that were made 0
pub from-zero : (q : ℕ → Bool) (place : ℕ → ℕ) (xs : List ℕ) (a b once twice : Words) (h : Hits) → length a ≡ ONCE → length b ≡ TWICE → once
    ≡ replicate (length a) 0 → twice ≡ replicate (length b) 0
    → h ≡ hit_all q place xs (hits once twice false) → h ≡ hit_all q place xs (hits (replicate ONCE 0) (replicate TWICE 0) false)
from-zero q place xs a b once twice h l m e f i =
    i ∙ ap (λ (ws : Words). hit_all q place xs (hits ws twice false)) (e ∙ ap (λ (n : ℕ). replicate n 0) l)
    ∙ ap (λ (ws : Words). hit_all q place xs (hits (replicate ONCE 0) ws false)) (f ∙ ap (λ (n : ℕ). replicate n 0) m)

pub cells-tell : (p : ℕ → Bool) (xs : List ℕ) → Stays p xs → (a cells after : Words) (r : Entry) → length a ≡ CELLS → cells
    ≡ replicate (length a) 0 → outcome r after ≡ entered_all p xs cells → Tells r xs
cells-tell p xs s a cells after r l e i =
    tells-same r (filter p xs) xs (stays-distinct p xs s)
    (all-tells p xs r after (i ∙ ap (entered_all p xs) (e ∙ ap (λ (n : ℕ). replicate n 0) l)))
