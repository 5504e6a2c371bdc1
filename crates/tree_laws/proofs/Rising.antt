-- Slots whose keys rise: joined and filtered, each key once, and lookups in them.
use Rattle.std.proofs.Common.{◌≡◌, ℕ, suc, ◌<◌, ◌≤◌, Bool, true, false, eqb, ltb, ◌≢◌, ◌↔◌, List, [], ◌∷◌, ◌++◌, map, length, take, drop}
use Rattle.std.proofs.Common.{sym, refl, ap, ◌∙◌, ⊎_elim, arith, take-append-drop, ltb-false, ltb-true, le-ltb, lt-ltb, eqb-true}
use mathlib.Core.List.Memᴰ
use mathlib.Core.List.{Memᴰ}
use mathlib.Core.Option.{Option, none, some}
use borrow.Author.Tests.{eqb-false}
use Rattle.model.specs.declared.Answer.TheVariants.{Found, Absent, Refused}
use Rattle.model.specs.Slots.{Slot, slot, recording_of, class_of, pointer_of, recording, class, recording_ok, class_ok}
use Rattle.model.specs.Search.{first_with, first_above, answer_of, lookup, Next}
use Rattle.model.specs.Reached.{filter}
use Rattle.model.specs.SoundTest.{distinct, rising, pair_ok}
use Rattle.model.specs.Sound.{Rise}
use Rattle.model.specs.Shifts.{place_of}
use Rattle.list_laws.proofs.Recordings.{pointer-of, pair-iff}
use Rattle.list_laws.proofs.Tools.{decode, Each, Each-map, Misses, first-nil, first-here, first-past}
use Rattle.list_laws.proofs.Members.{each-mem, each-drop, each-both, elem-false}
use Rattle.list_laws.proofs.Filters.{filter-yes, filter-no}
use Rattle.list_laws.proofs.Distinct.{distinct-cons}
pub use Rattle.list_laws.proofs.Slots.{place-length}

-- keys rise from lo exactly if the first is at least lo and the others rise from above the first
pub rising-cons : (lo : ℕ) (s : Slot) (ss : List Slot) → (rising lo (s ∷ ss) ≡ true) ↔ ((lo ≤ s.key) × (rising (suc s.key) ss ≡ true))
unfolding rising
rising-cons lo s ss = (λ r. simp decode at r, λ u. simp decode u)

-- keys that rise from b rise from each a up to b
pub rising-weaken : (a b : ℕ) (ss : List Slot) → a ≤ b → rising b ss ≡ true → rising a ss ≡ true
unfolding rising
rising-weaken a b [] l r = refl
rising-weaken a b (s ∷ ss) l r = let u = (rising-cons b s ss).0 r in (rising-cons a s ss).1 (omega (arith, u.0), u.1)

-- each key is from lo up
pub rising-from : (lo : ℕ) (ss : List Slot) → rising lo ss ≡ true → Each (λ (s : Slot). lo ≤ s.key) ss
rising-from lo [] r = tt
rising-from lo (s ∷ ss) r =
    let u = (rising-cons lo s ss).0 r in
    (u.0, Each-map (λ (x : Slot). suc s.key ≤ x.key) (λ (x : Slot). lo ≤ x.key) ss (λ x y. omega (arith, u.0)) (rising-from _ ss u.1))

pub rising-filter : (lo : ℕ) (q : Slot → Bool) (ss : List Slot) → rising lo ss ≡ true → rising lo (filter q ss) ≡ true
unfolding rising filter
rising-filter lo q [] r = refl
rising-filter lo q (s ∷ ss) r = go (q s) refl ((rising-cons lo s ss).0 r) (λ u. rising-filter (suc s.key) q ss u)
  where
    go : (b : Bool) → q s ≡ b → (lo ≤ s.key) × (rising (suc s.key) ss ≡ true)
        → (rising (suc s.key) ss ≡ true → rising (suc s.key) (filter q ss) ≡ true) → rising lo (filter q (s ∷ ss)) ≡ true
    go true c u ih = rw (filter-yes q s ss c) ((rising-cons lo s (filter q ss)).1 (u.0, ih u.1))
    go false c u ih = rw (filter-no q s ss c) (rising-weaken lo (suc s.key) (filter q ss) (omega (arith, u.0)) (ih u.1))

-- the bound of a rising list is that of its first key
pub rising-raise : (lo mid : ℕ) (ss : List Slot) → rising lo ss ≡ true → Each (λ (s : Slot). mid ≤ s.key) ss → rising mid ss ≡ true
unfolding rising
rising-raise lo mid [] r h = refl
rising-raise lo mid (s ∷ ss) r h = (rising-cons mid s ss).1 (h.0, ((rising-cons lo s ss).0 r).1)

-- rising lists join where all keys of the first are below mid and the second rises from mid
pub rising-join : (lo mid : ℕ) (a b : List Slot) → lo ≤ mid → rising lo a ≡ true → Each (λ (s : Slot). s.key < mid) a → rising mid b ≡ true
    → rising lo (a ++ b) ≡ true
rising-join lo mid [] b l r h q = rising-weaken lo mid b l q
rising-join lo mid (s ∷ a) b l r h q = let u =
    (rising-cons lo s a).0 r in (rising-cons lo s (a ++ b)).1 (u.0, rising-join (suc s.key) mid a b h.0 u.1 h.1 q)

-- and come apart: every key of the first is below every key of the second
pub record Apart (lo : ℕ) (a b : List Slot) : Type 0 where
  pub left : rising lo a ≡ true
  pub right : rising lo b ≡ true
  pub between : Each (λ (s : Slot). Each (λ (u : Slot). s.key < u.key) b) a

-- if the keys of joined slots rise, so do those of each part, and the first part's are below the second's
pub rising-apart : (lo : ℕ) (a b : List Slot) → rising lo (a ++ b) ≡ true → Apart lo a b
unfolding rising
rising-apart lo [] b r = record { left = refl; right = r; between = tt }
rising-apart lo (s ∷ a) b r =
    let u = (rising-cons lo s (a ++ b)).0 r in
    let i = rising-apart (suc s.key) a b u.1 in
    record {
      left = (rising-cons lo s a).1 (u.0, i.left);
      right = rising-weaken lo (suc s.key) b (omega (arith, u.0)) i.right;
      between = (rising-from (suc s.key) b i.right, i.between);
    }

-- ---- the other reading: each key is below the next

-- keys that pass the test of rising rise strictly
pub rise-from-rising : (lo : ℕ) (ss : List Slot) → rising lo ss ≡ true → Rise ss
rise-from-rising lo [] r = tt
rise-from-rising lo (s ∷ []) r = tt
rise-from-rising lo (s ∷ u ∷ ss) r =
    let h = (rising-cons lo s (u ∷ ss)).0 r in
    (((rising-cons (suc s.key) u ss).0 h.1).0, rise-from-rising (suc s.key) (u ∷ ss) h.1)

rise-rest : (s : Slot) (ss : List Slot) → Rise (s ∷ ss) → rising (suc s.key) ss ≡ true
unfolding rising
rise-rest s [] r = refl
rise-rest s (u ∷ ss) r = (rising-cons (suc s.key) u ss).1 (r.0, rise-rest u ss r.1)

-- keys that rise strictly, each at least lo, pass the test of rising from lo
pub rising-from-rise : (lo : ℕ) (ss : List Slot) → Rise ss → Each (λ (s : Slot). lo ≤ s.key) ss → rising lo ss ≡ true
unfolding rising
rising-from-rise lo [] r h = refl
rising-from-rise lo (s ∷ ss) r h = (rising-cons lo s ss).1 (h.0, rise-rest s ss r)

-- ---- each key is there once

pub keys-distinct : (lo : ℕ) (ss : List Slot) → rising lo ss ≡ true → distinct (map (λ (s : Slot). s.key) ss) ≡ true
keys-distinct lo [] r = unfold distinct in refl
keys-distinct lo (s ∷ ss) r =
    let u = (rising-cons lo s ss).0 r in
    (distinct-cons s.key (map (λ (x : Slot). x.key) ss)).1
    ((elem-false _ _).1 (other s.key ss (rising-from (suc s.key) ss u.1)), keys-distinct (suc s.key) ss u.1)
  where
    other : (k : ℕ) (xs : List Slot) → Each (λ (x : Slot). suc k ≤ x.key) xs → Each (λ (n : ℕ). n ≢ k) (map (λ (x : Slot). x.key) xs)
    other k [] h = tt
    other k (x ∷ xs) h = (λ e. omega (arith, h.0), other k xs h.1)

-- ---- the slot found

some-inj : (x y : Slot) → some x ≡ some y → x ≡ y
some-inj x y e = ap (λ (o : Option Slot). elim o as (λ c. Slot) [ none ↦ x | some z ↦ z ]) e

-- what was found is there
pub first-mem : (k : ℕ) (s : Slot) (ss : List Slot) → first_with k ss ≡ some s → Memᴰ s ss × (s.key ≡ k)
unfolding first_with
first-mem k s [] h = let z : ◌≡◌ {A = ℕ} 0 1 = cc in absurd (omega arith)
first-mem k s (x ∷ ss) h = go (eqb x.key k) refl (first-mem k s ss)
  where
    go : (b : Bool) → eqb x.key k ≡ b → (first_with k ss ≡ some s → Memᴰ s ss × (s.key ≡ k)) → Memᴰ s (x ∷ ss) × (s.key ≡ k)
    go true c ih =
        let e = eqb-true x.key k c in
        let q : x ≡ s = some-inj x s (sym (first-here k x ss e) ∙ h) in
        (Memᴰ.head (sym q), ap (λ (y : Slot). y.key) (sym q) ∙ e)
    go false c ih = let u = ih (sym (first-past k x ss (eqb-false x.key k c)) ∙ h) in (Memᴰ.tail u.0, u.1)

-- of slots whose keys rise, each is the first with its key
pub mem-first : (lo : ℕ) (s : Slot) (ss : List Slot) → rising lo ss ≡ true → Memᴰ s ss → first_with s.key ss ≡ some s
mem-first lo s [] h m = absurd (Memᴰ.not-nil m)
mem-first lo s (x ∷ ss) h m =
    let u = (rising-cons lo x ss).0 h in
    ⊎_elim (λ e. first-here s.key x ss (ap (λ (y : Slot). y.key) (sym e)) ∙ ap some (sym e))
    (λ t. let l = each-mem (λ (y : Slot). suc x.key ≤ y.key) (rising-from (suc x.key) ss u.1) t in
    first-past s.key x ss (λ e. omega arith) ∙ mem-first (suc x.key) s ss u.1 t) (Memᴰ.cases_cons m)

-- if no first slot with key k is found, no slot has that key
pub first-misses : (k : ℕ) (ss : List Slot) → first_with k ss ≡ none → Misses k ss
first-misses k [] h = tt
first-misses k (s ∷ ss) h = go (eqb s.key k) refl (first-misses k ss)
  where
    go : (b : Bool) → eqb s.key k ≡ b → (first_with k ss ≡ none → Misses k ss) → Misses k (s ∷ ss)
    go true c ih = let y : some s ≡ none = sym (first-here k s ss (eqb-true s.key k c)) ∙ h in let z : ◌≡◌ {A = ℕ} 0 1 =
        cc in absurd (omega arith)
    go false c ih = (eqb-false s.key k c, ih (sym (first-past k s ss (eqb-false s.key k c)) ∙ h))

-- ---- the answer from it

answer-found : (o : Option Slot) (x : Next) (y : ℕ) → answer_of o (Absent x) ≡ Found (recording_of y) (class_of y) → (s : Slot)
    × (o ≡ some s) × (s.pointer ≡ y)
answer-found none x y e = let z : ◌≡◌ {A = ℕ} 0 1 = cc in absurd (omega arith)
answer-found (some s) x y e =
    let r : recording s ≡ recording_of y = cc in
    let c : class s ≡ class_of y = cc in
    (s, refl, sym (pointer-of s.pointer) ∙ ap (λ (n : ℕ). pointer_of n (class s)) r ∙ ap (pointer_of (recording_of y)) c ∙ pointer-of y)

answer-none : (o : Option Slot) (x y : Next) → answer_of o (Absent x) ≡ Absent y → (o ≡ none) × (x ≡ y)
answer-none none x y e = let p : x ≡ y = cc in (refl, p)
answer-none (some s) x y e = let z : ◌≡◌ {A = ℕ} 0 1 = cc in absurd (omega arith)

-- of slots whose keys rise, k is found with x's recording number and class exactly if (k, x) is one
pub found-iff : (lo k x : ℕ) (ss : List Slot) → rising lo ss ≡ true
    → (lookup k ss ≡ Found (recording_of x) (class_of x)) ↔ Memᴰ (slot k x) ss
unfolding lookup
found-iff lo k x ss h = (
  λ e. let u = answer-found (first_with k ss) (first_above k ss) x e in let m =
      first-mem k u.0 ss u.1 in Memᴰ.cast (sym (λ i. slot (m.1 i) (u.2 i))) m.0,
  λ m. ap (λ (o : Option Slot). answer_of o (Absent (first_above k ss))) (mem-first lo (slot k x) ss h m),
)

-- what is found is right where each pair is
pub found-ok : (k r c : ℕ) (ss : List Slot) → Each (λ (s : Slot). pair_ok s ≡ true) ss → lookup k ss ≡ Found r c
    → (recording_ok r ≡ true) × (class_ok c ≡ true)
unfolding lookup
found-ok k r c ss h e = go (first_with k ss) (λ s q. (first-mem k s ss q).0) e
  where
    go : (o : Option Slot) → ((s : Slot) → o ≡ some s → Memᴰ s ss) → answer_of o (Absent (first_above k ss)) ≡ Found r c
        → (recording_ok r ≡ true) × (class_ok c ≡ true)
    go none m q = let z : ◌≡◌ {A = ℕ} 0 1 = cc in absurd (omega arith)
    go (some s) m q =
        let a : recording s ≡ r = cc in
        let b : class s ≡ c = cc in
        let u = (pair-iff s).0 (each-mem (λ (x : Slot). pair_ok x ≡ true) h (m s refl)) in
        (sym (ap recording_ok a) ∙ u.0, sym (ap class_ok b) ∙ u.1)

-- absent, with the next key up
pub absent-iff : (k : ℕ) (x : Next) (ss : List Slot) → (lookup k ss ≡ Absent x) ↔ (Misses k ss × (x ≡ first_above k ss))
unfolding lookup
absent-iff k x ss = (
  λ e. let u = answer-none (first_with k ss) (first_above k ss) x e in (first-misses k ss u.0, sym u.1),
  λ m. ap (λ (o : Option Slot). answer_of o (Absent (first_above k ss))) (first-nil k ss m.0) ∙ ap Absent (sym m.1),
)

-- looking k up in a list is never refused
pub lookup-answers : (k n : ℕ) (ss : List Slot) → lookup k ss ≢ Refused n
unfolding lookup
lookup-answers k n ss = go (first_with k ss)
  where
    go : (o : Option Slot) → answer_of o (Absent (first_above k ss)) ≢ Refused n
    go none e = let z : ◌≡◌ {A = ℕ} 0 1 = cc in omega arith
    go (some s) e = let z : ◌≡◌ {A = ℕ} 0 1 = cc in omega arith

-- ---- the place of a key

place-yes : (k : ℕ) (s : Slot) (ss : List Slot) → ltb s.key k ≡ true → place_of k (s ∷ ss) ≡ suc (place_of k ss)
unfolding place_of
place-yes k s ss c = rw (c, place_of)

place-no : (k : ℕ) (s : Slot) (ss : List Slot) → ltb s.key k ≡ false → place_of k (s ∷ ss) ≡ 0
unfolding place_of
place-no k s ss c = rw (c, place_of)

-- the slots below k, and the others
abbrev pub lower : ℕ → List Slot → List Slot
lower k ss = take (place_of k ss) ss

-- the slots from the place of k on
abbrev pub upper : ℕ → List Slot → List Slot
upper k ss = drop (place_of k ss) ss

-- slots are those below k, then those from its place on
pub lower-upper : (k : ℕ) (ss : List Slot) → ss ≡ lower k ss ++ upper k ss
lower-upper k ss = sym (take-append-drop (place_of k ss) ss)

-- what is proved of a list and of its rest, by whether the first key is below k
by-place : (k : ℕ) (P : List Slot → ℕ → Type 0) → P [] 0 → ((s : Slot) (ss : List Slot) → k ≤ s.key → P (s ∷ ss) 0)
    → ((s : Slot) (ss : List Slot) → s.key < k → P ss (place_of k ss) → P (s ∷ ss) (suc (place_of k ss)))
    → (ss : List Slot) → P ss (place_of k ss)
unfolding place_of
by-place k P e o i [] = e
by-place k P e o i (s ∷ ss) = go (ltb s.key k) refl (by-place k P e o i ss)
  where
    go : (b : Bool) → ltb s.key k ≡ b → P ss (place_of k ss) → P (s ∷ ss) (place_of k (s ∷ ss))
    go true c ih = rw (place-yes k s ss c) (i s ss (ltb-true s.key k c) ih)
    go false c ih = rw (place-no k s ss c) (o s ss (ltb-false s.key k c))

-- the keys of the slots before the place of k are below k
pub lower-below : (k : ℕ) (ss : List Slot) → Each (λ (s : Slot). s.key < k) (lower k ss)
lower-below k = by-place k (λ ss p. Each (λ (s : Slot). s.key < k) (take p ss)) tt (λ s ss l. tt) (λ s ss l ih. (l, ih))

pub upper-from : (lo k : ℕ) (ss : List Slot) → rising lo ss ≡ true → Each (λ (s : Slot). k ≤ s.key) (upper k ss)
upper-from lo k ss r = by-place k (λ ss p. (lo : ℕ) → rising lo ss ≡ true → Each (λ (s : Slot). k ≤ s.key) (drop p ss)) (λ lo r. tt)
    (λ s ss l lo r. (
      l,
      Each-map (λ (x : Slot). suc s.key ≤ x.key) (λ (x : Slot). k ≤ x.key) ss (λ x y. omega arith)
          (rising-from (suc s.key) ss ((rising-cons lo s ss).0 r).1),
    ))
    (λ s ss l ih lo r. ih (suc s.key) ((rising-cons lo s ss).0 r).1) ss lo r

-- where k is not there, the others are above it, and a slot with key k fits in between
pub upper-above : (lo k : ℕ) (ss : List Slot) → rising lo ss ≡ true → Misses k ss → Each (λ (s : Slot). k < s.key) (upper k ss)
upper-above lo k ss r m =
    let h = each-both (λ (s : Slot). k ≤ s.key) (λ (s : Slot). s.key ≢ k) (upper k ss) (upper-from lo k ss r)
    (each-drop (λ (s : Slot). s.key ≢ k) (place_of k ss) ss m) in
    Each-map (λ (s : Slot). (k ≤ s.key) × (s.key ≢ k)) (λ (s : Slot). k < s.key) (upper k ss) (λ s u. omega (arith, u.0, u.1)) h

-- keys that rise still do with a new key k put in at its place
pub rising-insert : (lo k x : ℕ) (ss : List Slot) → rising lo ss ≡ true → lo ≤ k → Misses k ss
    → rising lo (lower k ss ++ slot k x ∷ upper k ss) ≡ true
rising-insert lo k x ss r l m =
    let a = rising-apart lo (lower k ss) (upper k ss) (ap (rising lo) (sym (lower-upper k ss)) ∙ r) in
    rising-join lo k (lower k ss) (slot k x ∷ upper k ss) l a.left (lower-below k ss)
    ((rising-cons k (slot k x) (upper k ss)).1 (omega arith, rising-raise lo (suc k) (upper k ss) a.right (upper-above lo k ss r m)))

-- where it is there, it is the first of the others
pub upper-first : (lo k x : ℕ) (ss : List Slot) → rising lo ss ≡ true → Memᴰ (slot k x) ss → upper k ss ≡ slot k x
    ∷ drop (suc (place_of k ss)) ss
upper-first lo k x ss r m =
    by-place k (λ ss p. (lo : ℕ) → rising lo ss ≡ true → Memᴰ (slot k x) ss → drop p ss ≡ slot k x ∷ drop (suc p) ss)
    (λ lo r m. absurd (Memᴰ.not-nil m))
    (λ s ss l lo r m. ⊎_elim (λ e. ap (λ (u : Slot). u ∷ ss) (sym e))
    (λ t. let q = each-mem (λ (x : Slot). suc s.key ≤ x.key) (rising-from (suc s.key) ss ((rising-cons lo s ss).0 r).1) t in absurd
    (omega arith)) (Memᴰ.cases_cons m))
    (λ s ss l ih lo r m. ⊎_elim (λ e. let q : k ≡ s.key = ap (λ (u : Slot). u.key) e in absurd (omega arith))
    (λ t. ih (suc s.key) ((rising-cons lo s ss).0 r).1 t) (Memᴰ.cases_cons m))
    ss lo r m

-- slots that are not below k do not move its place
pub place-append : (k : ℕ) (a b : List Slot) → Each (λ (s : Slot). k ≤ s.key) b → place_of k (a ++ b) ≡ place_of k a
place-append k [] [] h = refl
place-append k [] (s ∷ b) h = place-no k s b (le-ltb s.key k h.0) ∙ unfold place_of in refl
place-append k (s ∷ a) b h = go (ltb s.key k) refl (place-append k a b h)
  where
    go : (c : Bool) → ltb s.key k ≡ c → place_of k (a ++ b) ≡ place_of k a → place_of k (s ∷ a ++ b) ≡ place_of k (s ∷ a)
    go true c ih = place-yes k s (a ++ b) c ∙ ap suc ih ∙ sym (place-yes k s a c)
    go false c ih = place-no k s (a ++ b) c ∙ sym (place-no k s a c)

-- between slots below k and slots that are not
pub place-between : (k : ℕ) (a b : List Slot) → Each (λ (s : Slot). s.key < k) a → Each (λ (s : Slot). k ≤ s.key) b
    → place_of k (a ++ b) ≡ length a
place-between k [] b l h = place-append k [] b h ∙ unfold place_of in refl
place-between k (s ∷ a) b l h = place-yes k s (a ++ b) (lt-ltb s.key k l.0) ∙ ap suc (place-between k a b l.1 h)
