-- The way down, the slot of a key, the kept slots and the ways, one slot in use more.
use Rattle.std.proofs.Common.{◌≡◌, ℕ, zero, suc, ◌+◌, ◌-◌, ◌<◌, ◌≤◌, Bool, true, false, cond, eqb, leb, List, [], ◌∷◌, ◌++◌, length, get_or}
use Rattle.std.proofs.Common.{set, replicate, sym, refl, ap, ◌∙◌, append_assoc, append-nil, add-zero, zero-add, add-one, arith}
use Rattle.std.proofs.Common.{get_or-set_other, get_or-set_same, eq-eqb, ne_eqb, eqb-true}
use borrow.Author.Tests.{eqb-false}
use Rattle.std.specs.Prelude.{Some, None}
use Rattle.model.specs.Table.{Words}
use Rattle.model.specs.Slots.{Slot, slot, shown}
use Rattle.model.specs.Search.{route, first_with, first_above}
use Rattle.model.specs.Reached.{filter}
use Rattle.list_laws.proofs.Tools.{first-here, first-past, above-here, above-past}
use Rattle.list_laws.proofs.Members.{mem-each}
use Rattle.list_laws.proofs.Filters.{filter-all}
use Rattle.slots.specs.declared.Seen.{Seen}
use Rattle.slots.specs.declared.ways.Ways.{Ways}
use Rattle.slots.specs.Held.{pointer_in}
use Rattle.slots.specs.Scan.{keeps, is_kept, kept_of, is_way, way_after, held_after}
use Rattle.slots.specs.Gathered.{span, ways_from}
use Rattle.slots.proofs.Scans.{shown-hide, shown-show, picked}

-- ---- the way down

way-none : (key way before : ℕ) → route key way (shown before []) ≡ way
unfolding route shown
way-none key way before = refl

way-more : (key way before k p w : ℕ) (ss : List Slot) → w ≡ way_after way before k p key
    → route key way (shown before (slot k p ∷ ss)) ≡ route key w (shown p ss)
unfolding route
way-more key way before k p w ss h = go (eqb p before) (leb k key) refl refl h
  where
    s : Slot
    s = slot k p

    go : (a b : Bool) → eqb p before ≡ a → leb k key ≡ b → w ≡ cond a way (cond b p way) → route key way (shown before (s ∷ ss))
        ≡ route key w (shown p ss)
    go true b e q h = rw (h, shown-hide before s ss (eqb-true p before e))
    go false true e q h = rw (h, shown-show before s ss (eqb-false p before e)) (rw (q, route))
    go false false e q h = rw (h, shown-show before s ss (eqb-false p before e)) (rw (q, route))

-- ---- the slot of a key

-- ---- what shown slots tell of a key, after the way and the pointer so far

-- the pointer so far or, where that is 0, the later one
abbrev pointer_or : (held later : ℕ) → ℕ
pointer_or held later = cond (eqb held 0) later held

pointer-none : (key held before : ℕ) → pointer_or held (pointer_in (first_with key (shown before []))) ≡ held
unfolding first_with shown
pointer-none key held before = go (eqb held 0) refl
  where
    go : (b : Bool) → eqb held 0 ≡ b → cond b 0 held ≡ held
    go true e = sym (eqb-true held 0 e)
    go false e = refl

pointer-more : (key held before k p h : ℕ) (ss : List Slot) → (p ≡ 0 → ⊥) → h ≡ held_after held before k p key
    → pointer_or held (pointer_in (first_with key (shown before (slot k p ∷ ss)))) ≡ pointer_or h (pointer_in (first_with key (shown p ss)))
pointer-more key held before k p h ss z e = go (eqb p before) (eqb k key) (eqb held 0) refl refl refl e
  where
    s : Slot
    s = slot k p

    go : (a b c : Bool) → eqb p before ≡ a → eqb k key ≡ b → eqb held 0 ≡ c → h ≡ cond a held (cond b (cond c p held) held)
        → pointer_or held (pointer_in (first_with key (shown before (s ∷ ss)))) ≡ pointer_or h (pointer_in (first_with key (shown p ss)))
    go true b c e q o u = rw (u, shown-hide before s ss (eqb-true p before e))
    go false false c e q o u = rw (u, shown-show before s ss (eqb-false p before e), first-past key s (shown p ss) (eqb-false k key q))
    go false true true e q o u =
        rw (u, shown-show before s ss (eqb-false p before e), first-here key s (shown p ss) (eqb-true k key q), o, ne_eqb p 0 z)
    go false true false e q o u = rw (u, o)

abbrev pub seen_after : (key way held : ℕ) → List Slot → Seen
seen_after key way held ss = record { way = route key way ss; held = pointer_or held (pointer_in (first_with key ss)) }

pub seen-none : (key way held before : ℕ) → seen_after key way held (shown before []) ≡ record { way = way; held = held }
seen-none key way held before = rw (way-none key way before, pointer-none key held before)

pub seen-more : (key way held before k p w h : ℕ) (ss : List Slot) → (p ≡ 0 → ⊥) → w ≡ way_after way before k p key → h
    ≡ held_after held before k p key
    → seen_after key way held (shown before (slot k p ∷ ss)) ≡ seen_after key w h (shown p ss)
seen-more key way held before k p w h ss z e f = rw (way-more key way before k p w ss e, pointer-more key held before k p h ss z f)

-- ---- kept slots

pub keeps-all : (s b k : ℕ) → s ≡ 0 → true ≡ keeps s b k
unfolding keeps
keeps-all s b k z = rw (eq-eqb s 0 z)

-- without a sibling all shown slots are kept
pub all-kept : (b : ℕ) (ss : List Slot) → kept_of 0 b ss ≡ ss
all-kept b ss = filter-all (is_kept 0 b) ss (mem-each (λ (s : Slot). is_kept 0 b s ≡ true) ss (λ s m. sym (keeps-all 0 b s.key refl)))

module _ (s b before k p : ℕ) where
  pub kept-more : (ss : List Slot) → kept_of s b (shown before (slot k p ∷ ss))
      ≡ cond (is_way s b before k p) (slot k p ∷ kept_of s b (shown p ss)) (kept_of s b (shown p ss))
  unfolding is_way
  kept-more ss = picked (is_kept s b) before (slot k p) ss

  module _ (ss : List Slot) {w : Bool} (e : w ≡ is_way s b before k p) where
    -- a first slot that is shown and kept comes first, before what is kept of those after it
    pub kept-taken : w ≡ true → kept_of s b (shown before (slot k p ∷ ss)) ≡ slot k p ∷ kept_of s b (shown p ss)
    kept-taken h = rw (kept-more ss, ← e, h)

    -- a first slot that is hidden or not kept is passed over
    pub kept-passed : w ≡ false → kept_of s b (shown before (slot k p ∷ ss)) ≡ kept_of s b (shown p ss)
    kept-passed h = rw (kept-more ss, ← e, h)

pub count-none : (count s b before : ℕ) → count + length (kept_of s b (shown before [])) ≡ count
unfolding shown filter
count-none count s b before = omega arith

-- ---- the next key up

pub above-none : (key s b before : ℕ) → first_above key (kept_of s b (shown before [])) ≡ None
unfolding first_above shown filter
above-none key s b before = refl

module _ (key s b before k p : ℕ) (ss : List Slot) (w : Bool) (e : w ≡ is_way s b before k p) where
  pub above-found : w ≡ true → key < k → first_above key (kept_of s b (shown before (slot k p ∷ ss))) ≡ Some k
  above-found h l = ap (first_above key) (rw (kept-more s b before k p ss, ← e, h)) ∙ above-here key (slot k p) (kept_of s b (shown p ss)) l

  pub above-low : w ≡ true → k ≤ key → first_above key (kept_of s b (shown before (slot k p ∷ ss)))
      ≡ first_above key (kept_of s b (shown p ss))
  above-low h l = ap (first_above key) (rw (kept-more s b before k p ss, ← e, h)) ∙ above-past key (slot k p) (kept_of s b (shown p ss)) l

  pub above-no-way : w ≡ false → first_above key (kept_of s b (shown before (slot k p ∷ ss))) ≡ first_above key (kept_of s b (shown p ss))
  above-no-way h = ap (first_above key) (rw (kept-more s b before k p ss, ← e, h))

-- ---- the ways

-- slots of two arrays: the last one, and those that a later store leaves alone
span-last : (ks ps : Words) (i m : ℕ) → span ks ps i (suc m) ≡ span ks ps i m ++ slot (get_or ks (i + m) 0) (get_or ps (i + m) 0) ∷ []
unfolding span
span-last ks ps i zero = rw (add-zero i)
span-last ks ps i (suc m) =
    let z : suc i + m ≡ i + suc m = omega arith in
    ap (λ (l : List Slot). slot (get_or ks i 0) (get_or ps i 0) ∷ l) (span-last ks ps (suc i) m ∙ rw z)

span-before : (ks ps : Words) (i m a k p : ℕ) → i + m ≤ a → span (set ks a k) (set ps a p) i m ≡ span ks ps i m
unfolding span
span-before ks ps i zero a k p h = refl
span-before ks ps i (suc m) a k p h =
    rw (
      get_or-set_other ks a i k 0 (λ z. omega arith),
      get_or-set_other ps a i p 0 (λ z. omega arith),
      span-before ks ps (suc i) m a k p (omega arith),
    )

-- one way more
span-more : (ks ps : Words) (a k p : ℕ) → a < length ks → a < length ps → span (set ks a k) (set ps a p) 0 (a + 1)
    ≡ span ks ps 0 a ++ slot k p ∷ []
span-more ks ps a k p h g =
    let us = set ks a k in
    let qs = set ps a p in
    ap (span us qs 0) (add-one a) ∙ span-last us qs 0 a
    ∙ rw (span-before ks ps 0 a a k p (omega arith), zero-add a, get_or-set_same ks a k 0 h, get_or-set_same ps a p 0 g)

pub way-taken : (ks ps : Words) (a k p : ℕ) (ss : List Slot) → a < length ks → a < length ps
    → span ks ps 0 a ++ slot k p ∷ ss ≡ span (set ks a k) (set ps a p) 0 (a + 1) ++ ss
way-taken ks ps a k p ss l m = rw (span-more ks ps a k p l m) (sym (append_assoc (span ks ps 0 a) (slot k p ∷ []) ss))

-- the first way alone
pub first-way : (k p : ℕ) (ss : List Slot) → span (set (replicate 13 0) 0 k) (set (replicate 13 0) 0 p) 0 1 ++ ss ≡ slot k p ∷ ss
unfolding span
first-way k p ss = refl

pub ways-none : (s b before : ℕ) (ss : List Slot) → ss ++ kept_of s b (shown before []) ≡ ss
unfolding shown filter
ways-none s b before ss = append-nil ss

-- the ways from i on
pub ways-end : (w : Ways) (i : ℕ) → w.count ≤ i → ways_from w i ≡ []
unfolding ways_from span
ways-end w i h = let z : w.count - i ≡ 0 = omega arith in ap (span w.keys w.pointers i) z

-- the ways from i on are way i, then those from i + 1 on
pub ways-next : (w : Ways) (i : ℕ) → i < w.count → ways_from w i ≡ slot (get_or w.keys i 0) (get_or w.pointers i 0) ∷ ways_from w (i + 1)
unfolding ways_from span
ways-next w i h =
    let z : w.count - i ≡ suc (w.count - (i + 1)) = omega arith in
    ap (span w.keys w.pointers i) z
    ∙ ap (λ (j : ℕ). slot (get_or w.keys i 0) (get_or w.pointers i 0) ∷ span w.keys w.pointers j (w.count - (i + 1))) (sym (add-one i))
