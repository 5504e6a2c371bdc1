-- Lists of pairs in the order of their keys: two are the same exactly if they are but for one key, and have the same pointer for that.
use Rattle.std.proofs.Common.{◌≡◌, ℕ, suc, ◌<◌, ◌≤◌, Bool, true, false, ◌&&◌, ◌||◌, eqb, ltb, ◌≢◌, ◌⊎◌, ◌↔◌, List, [], ◌∷◌, sym, refl, ap}
use Rattle.std.proofs.Common.{◌∙◌, inl, inr, arith, ltb-false, ltb-true, le-ltb, lt-ltb, eq-eqb, ne_eqb, eqb-true}
use mathlib.Core.Bool.{false≢true}
use mathlib.Core.Option.{Option, none, some}
use Rattle.std.specs.Prelude.{Option as Known, Some, None, is_some, unwrap_or}
use Rattle.std.specs.Option.{option_eq}
use Rattle.model.specs.Slots.{Slot, slot}
use Rattle.model.specs.Search.{first_with}
use Rattle.model.specs.SoundTest.{rising}
use Rattle.model.specs.Refusals.{has_key}
use Rattle.model.specs.Ledger.{enter, leave}
use Rattle.model.specs.Judge.{same_slots}
use Rattle.list_laws.proofs.Tools.{Each-map, Misses, same-or-not, first-nil, first-here, first-past}
use Rattle.list_laws.proofs.Lists.{cons-same}
use Rattle.list_laws.proofs.OrdinaryMap.{enter-first}
use Rattle.tree_laws.proofs.Rising.{rising-cons, rising-weaken, rising-from}
use Rattle.change_laws.proofs.Pairs.{has-key-iff}
use Rattle.judge_laws.proofs.Compared.{slot-same, slots-same}
use Rattle.slots.specs.Held.{held_by}
use Rattle.compare.specs.Cursors.{same_but}
use Rattle.compare.specs.Pointers.{held, with_pointer, old_or_new}

-- ---- without a key

pub leave-skip : (k : ℕ) (s : Slot) (ss : List Slot) → s.key ≡ k → leave k (s ∷ ss) ≡ leave k ss
unfolding leave
leave-skip k s ss e = rw (eq-eqb s.key k e)

pub leave-stay : (k : ℕ) (s : Slot) (ss : List Slot) → s.key ≢ k → leave k (s ∷ ss) ≡ s ∷ leave k ss
unfolding leave
leave-stay k s ss z = rw (ne_eqb s.key k z)

leave-none : (k : ℕ) (ss : List Slot) → Misses k ss → leave k ss ≡ ss
unfolding leave
leave-none k [] m = refl
leave-none k (s ∷ ss) m = leave-stay k s ss m.0 ∙ ap (λ (l : List Slot). s ∷ l) (leave-none k ss m.1)

leave-misses : (k : ℕ) (ss : List Slot) → Misses k (leave k ss)
unfolding leave
leave-misses k [] = tt
leave-misses k (s ∷ ss) = go (same-or-not s.key k) (leave-misses k ss)
  where
    go : (s.key ≡ k) ⊎ (s.key ≢ k) → Misses k (leave k ss) → Misses k (leave k (s ∷ ss))
    go (inl e) ih = rw (leave-skip k s ss e) ih
    go (inr z) ih = rw (leave-stay k s ss z) (z, ih)

rising-leave : (k lo : ℕ) (ss : List Slot) → rising lo ss ≡ true → rising lo (leave k ss) ≡ true
unfolding leave
rising-leave k lo [] r = r
rising-leave k lo (s ∷ ss) r = go (same-or-not s.key k) (rising-leave k (suc s.key) ss u.1)
  where
    u : (lo ≤ s.key) × (rising (suc s.key) ss ≡ true)
    u = (rising-cons lo s ss).0 r

    go : (s.key ≡ k) ⊎ (s.key ≢ k) → rising (suc s.key) (leave k ss) ≡ true → rising lo (leave k (s ∷ ss)) ≡ true
    go (inl e) ih = rw (leave-skip k s ss e) (rising-weaken lo (suc s.key) (leave k ss) (let h = u.0 in omega arith) ih)
    go (inr z) ih = rw (leave-stay k s ss z) ((rising-cons lo s (leave k ss)).1 (u.0, ih))

-- ---- with another pointer for the key

enter-below : (k x : ℕ) (s : Slot) (ss : List Slot) → k < s.key → enter k x (s ∷ ss) ≡ slot k x ∷ s ∷ ss
unfolding enter
enter-below k x s ss h = rw (lt-ltb k s.key h)

enter-after : (k x : ℕ) (s : Slot) (ss : List Slot) → s.key ≤ k → enter k x (s ∷ ss) ≡ s ∷ enter k x ss
unfolding enter
enter-after k x s ss h = rw (le-ltb k s.key h)

leave-enter : (k x : ℕ) (ss : List Slot) → Misses k ss → leave k (enter k x ss) ≡ ss
unfolding enter leave
leave-enter k x [] m = rw (eq-eqb k k refl)
leave-enter k x (s ∷ ss) m = go (ltb k s.key) refl (leave-enter k x ss m.1)
  where
    go : (b : Bool) → ltb k s.key ≡ b → leave k (enter k x ss) ≡ ss → leave k (enter k x (s ∷ ss)) ≡ s ∷ ss
    go true h ih = rw (enter-below k x s ss (ltb-true k s.key h)) (leave-skip k (slot k x) (s ∷ ss) refl ∙ leave-none k (s ∷ ss) m)
    go false h ih = rw (enter-after k x s ss (ltb-false k s.key h)) (leave-stay k s (enter k x ss) m.0 ∙ ap (λ (l : List Slot). s ∷ l) ih)

rising-enter : (k x lo : ℕ) (ss : List Slot) → lo ≤ k → Misses k ss → rising lo ss ≡ true → rising lo (enter k x ss) ≡ true
unfolding enter rising
rising-enter k x lo [] h m r = (rising-cons lo (slot k x) []).1 (h, r)
rising-enter k x lo (s ∷ ss) h m r = go (ltb k s.key) refl (λ h. rising-enter k x (suc s.key) ss h m.1 u.1)
  where
    u : (lo ≤ s.key) × (rising (suc s.key) ss ≡ true)
    u = (rising-cons lo s ss).0 r

    go : (b : Bool) → ltb k s.key ≡ b → (suc s.key ≤ k → rising (suc s.key) (enter k x ss) ≡ true) → rising lo (enter k x (s ∷ ss)) ≡ true
    go true q ih = rw (enter-below k x s ss (ltb-true k s.key q))
        ((rising-cons lo (slot k x) (s ∷ ss)).1 (h, (rising-cons (suc k) s ss).1 (ltb-true k s.key q, u.1)))
    go false q ih =
        let l : s.key ≤ k = ltb-false k s.key q in
        let z : s.key ≢ k = m.0 in
        rw (enter-after k x s ss l) ((rising-cons lo s (enter k x ss)).1 (u.0, ih (omega (arith, z))))

-- ---- the slot of a key, by its pointer

-- a slot found for k has that key
abbrev Keyed : ℕ → Option Slot → Type 0
Keyed k none = Unit {0}
Keyed k (some s) = s.key ≡ k

by-pointer : (k : ℕ) (a b : Option Slot) → Keyed k a → Keyed k b → held_by a ≡ held_by b → a ≡ b
by-pointer k none none p q e = refl
by-pointer k none (some u) p q e = let d : false ≡ true = ap is_some e in absurd (false≢true d)
by-pointer k (some s) none p q e = let d : false ≡ true = ap is_some (sym e) in absurd (false≢true d)
by-pointer k (some s) (some u) p q e = ap some (slot-same s u (p ∙ sym q) (ap (λ (o : Known ℕ). unwrap_or o 0) e))

first-keyed : (k : ℕ) (ss : List Slot) → Keyed k (first_with k ss)
unfolding first_with
first-keyed k [] = tt
first-keyed k (s ∷ ss) = go (same-or-not s.key k) (first-keyed k ss)
  where
    go : (s.key ≡ k) ⊎ (s.key ≢ k) → Keyed k (first_with k ss) → Keyed k (first_with k (s ∷ ss))
    go (inl e) ih = rw (first-here k s ss e) e
    go (inr z) ih = rw (first-past k s ss z) ih

-- two pointers compared, where there may be none
pub same-pointer : (a b : Known ℕ) → option_eq eqb a b ≡ true → a ≡ b
same-pointer None None e = refl
same-pointer None (Some y) e = absurd (false≢true e)
same-pointer (Some x) None e = absurd (false≢true e)
same-pointer (Some x) (Some y) e = ap Some (eqb-true x y e)

-- equal pointers, or two lacks of one, pass the test of equality
pub own-pointer : (a b : Known ℕ) → a ≡ b → option_eq eqb a b ≡ true
own-pointer a None e = rw e refl
own-pointer a (Some y) e = rw e (eq-eqb y y refl)

-- what fails the test of equality is not equal
pub other-pointer : (a b : Known ℕ) → option_eq eqb a b ≡ false → a ≢ b
other-pointer a b e q = false≢true (sym e ∙ own-pointer a b q)

-- ---- the same but for a key, and the same slot for that

above-misses : (k lo : ℕ) (ss : List Slot) → rising lo ss ≡ true → k < lo → Misses k ss
above-misses k lo ss r h = Each-map (λ (s : Slot). lo ≤ s.key) (λ (s : Slot). s.key ≡ k → ⊥) ss (λ s l e. omega arith) (rising-from lo ss r)

-- one list has the key first, the other does not
one-sided : (k lo : ℕ) (p : Slot) (ps : List Slot) (q : Slot) (qs : List Slot) → rising lo (p ∷ ps) ≡ true → rising lo (q ∷ qs)
    ≡ true → p.key ≡ k → q.key ≢ k
    → leave k (p ∷ ps) ≡ leave k (q ∷ qs) → first_with k (p ∷ ps) ≡ first_with k (q ∷ qs) → ⊥
one-sided k lo p ps q qs r s e z l f =
    let u = (rising-cons lo p ps).0 r in
    let w = (rising-cons lo q qs).0 s in
    let a : ps ≡ q ∷ leave k qs =
    sym (leave-skip k p ps e ∙ leave-none k ps (above-misses k (suc p.key) ps u.1 (omega arith))) ∙ l ∙ leave-stay k q qs z in
    let b : suc p.key ≤ q.key = ((rising-cons (suc p.key) q (leave k qs)).0 (rw a at u.1)).0 in
    let c : first_with k (q ∷ qs) ≡ none = first-past k q qs z ∙ first-nil k qs (above-misses k (suc q.key) qs w.1 (omega arith)) in
    let d : some p ≡ none = sym (first-here k p ps e) ∙ f ∙ c in
    let o : ◌≡◌ {A = ℕ} 0 1 = cc in omega arith

same-list : (k lo : ℕ) (ps qs : List Slot) → rising lo ps ≡ true → rising lo qs ≡ true → leave k ps ≡ leave k qs → first_with k ps
    ≡ first_with k qs → ps ≡ qs
unfolding leave first_with
same-list k lo [] [] r s l f = refl
same-list k lo [] (q ∷ qs) r s l f = absurd (go (same-or-not q.key k))
  where
    go : (q.key ≡ k) ⊎ (q.key ≢ k) → ⊥
    go (inl e) = let d : none ≡ some q = f ∙ first-here k q qs e in let o : ◌≡◌ {A = ℕ} 0 1 = cc in omega arith
    go (inr z) = let d : [] ≡ q ∷ leave k qs = l ∙ leave-stay k q qs z in let o : ◌≡◌ {A = ℕ} 0 1 = cc in omega arith
same-list k lo (p ∷ ps) [] r s l f = absurd (go (same-or-not p.key k))
  where
    go : (p.key ≡ k) ⊎ (p.key ≢ k) → ⊥
    go (inl e) = let d : none ≡ some p = sym f ∙ first-here k p ps e in let o : ◌≡◌ {A = ℕ} 0 1 = cc in omega arith
    go (inr z) = let d : [] ≡ p ∷ leave k ps = sym l ∙ leave-stay k p ps z in let o : ◌≡◌ {A = ℕ} 0 1 = cc in omega arith
same-list k lo (p ∷ ps) (q ∷ qs) r s l f = go (same-or-not p.key k) (same-or-not q.key k) (λ lo. same-list k lo ps qs)
  where
    u : (lo ≤ p.key) × (rising (suc p.key) ps ≡ true)
    u = (rising-cons lo p ps).0 r

    w : (lo ≤ q.key) × (rising (suc q.key) qs ≡ true)
    w = (rising-cons lo q qs).0 s

    go : (p.key ≡ k) ⊎ (p.key ≢ k) → (q.key ≡ k) ⊎ (q.key ≢ k)
        → ((lo : ℕ) → rising lo ps ≡ true → rising lo qs ≡ true → leave k ps ≡ leave k qs → first_with k ps ≡ first_with k qs → ps ≡ qs) → p
        ∷ ps ≡ q ∷ qs
    go (inl e) (inl d) ih =
        let a : some p ≡ some q = sym (first-here k p ps e) ∙ f ∙ first-here k q qs d in
        let b : p ≡ q = cc in
        let c : ps ≡ qs = sym (leave-skip k p ps e ∙ leave-none k ps (above-misses k (suc p.key) ps u.1 (omega arith))) ∙ l
        ∙ leave-skip k q qs d ∙ leave-none k qs (above-misses k (suc q.key) qs w.1 (omega arith)) in
        cc
    go (inl e) (inr z) ih = absurd (one-sided k lo p ps q qs r s e z l f)
    go (inr z) (inl e) ih = absurd (one-sided k lo q qs p ps s r e z (sym l) (sym f))
    go (inr y) (inr z) ih =
        let a = cons-same p q (leave k ps) (leave k qs) (sym (leave-stay k p ps y) ∙ l ∙ leave-stay k q qs z) in
        let b = ih (suc p.key) u.1 (rw (← a.0) at w.1) a.1 (sym (first-past k p ps y) ∙ f ∙ first-past k q qs z) in
        let c : p ≡ q = a.0 in
        cc

-- ---- with another pointer

with-leave : (k : ℕ) (x : Known ℕ) (ps : List Slot) → leave k (with_pointer k x ps) ≡ leave k ps
unfolding with_pointer
with-leave k None ps = leave-none k (leave k ps) (leave-misses k ps)
with-leave k (Some x) ps = leave-enter k x (leave k ps) (leave-misses k ps)

-- after a key's pointer is set to x, or taken away, the key has x, or none
pub with-held : (k : ℕ) (x : Known ℕ) (ps : List Slot) → held k (with_pointer k x ps) ≡ x
unfolding with_pointer
with-held k None ps = ap held_by (first-nil k (leave k ps) (leave-misses k ps))
with-held k (Some x) ps =
    let e : first_with k (enter k x (leave k ps)) ≡ some (slot k x) =
    enter-first k k x (leave k ps) ((has-key-iff k (leave k ps)).1 (leave-misses k ps)) ∙ rw (eq-eqb k k refl) in
    ap held_by e

with-rising : (k : ℕ) (x : Known ℕ) (ps : List Slot) → rising 0 ps ≡ true → rising 0 (with_pointer k x ps) ≡ true
unfolding with_pointer
with-rising k None ps r = rising-leave k 0 ps r
with-rising k (Some x) ps r = rising-enter k x 0 (leave k ps) (omega arith) (leave-misses k ps) (rising-leave k 0 ps r)

-- ---- old or new, of pairs in the order of their keys

module _ (k : ℕ) (ps qs : List Slot) (r : rising 0 ps ≡ true) (s : rising 0 qs ≡ true) where
  same-iff : (same_slots ps qs ≡ true) ↔ ((held k ps ≡ held k qs) × (same_but k ps qs ≡ true))
  unfolding same_but
  same-iff = (
    λ e. let d = (slots-same ps qs).0 e in (ap (held k) d, (slots-same (leave k ps) (leave k qs)).1 (ap (leave k) d)),
    λ h. (slots-same ps qs).1
        (same-list k 0 ps qs r s ((slots-same (leave k ps) (leave k qs)).0 h.1)
        (by-pointer k (first_with k ps) (first_with k qs) (first-keyed k ps) (first-keyed k qs) h.0)),
  )

module _ (k : ℕ) (x : Known ℕ) (old ps : List Slot) (o : rising 0 old ≡ true) (n : rising 0 ps ≡ true) where
  old-iff : (same_slots ps old ≡ true) ↔ ((held k ps ≡ held k old) × (same_but k ps old ≡ true))
  old-iff = same-iff k ps old n o

  new-iff : (same_slots ps (with_pointer k x old) ≡ true) ↔ ((held k ps ≡ x) × (same_but k ps old ≡ true))
  unfolding same_but
  new-iff =
      let i = same-iff k ps (with_pointer k x old) n (with-rising k x old o) in (
        λ e. let u = i.0 e in (u.0 ∙ with-held k x old, rw (with-leave k x old) at u.1),
        λ h. i.1 (h.0 ∙ sym (with-held k x old), rw (with-leave k x old) h.1),
      )

  -- the pointer is another one than the old, and none may change it, or it is not the new one
  pub not-own : held k ps ≢ held k old → false ≡ old_or_new false k x old ps
  unfolding old_or_new
  not-own z = sym (go (same_slots ps old) refl)
    where
      go : (b : Bool) → same_slots ps old ≡ b → b || false ≡ false
      go true e = absurd (z (old-iff.0 e).0)
      go false e = refl

  pub not-new : (own : Bool) → held k ps ≢ held k old → held k ps ≢ x → false ≡ old_or_new own k x old ps
  unfolding old_or_new
  not-new own z y = sym (go own (same_slots ps old) (same_slots ps (with_pointer k x old)) refl refl)
    where
      go : (own b c : Bool) → same_slots ps old ≡ b → same_slots ps (with_pointer k x old) ≡ c → b || (own && c) ≡ false
      go own true c e f = absurd (z (old-iff.0 e).0)
      go own false true e f = absurd (y (new-iff.0 f).0)
      go true false false e f = refl
      go false false false e f = refl

  -- it is the old one or, where it may change, the new one
  pub as-old : (own : Bool) → held k ps ≡ held k old → same_but k ps old ≡ old_or_new own k x old ps
  unfolding old_or_new
  as-old own e = go own (same_but k ps old) (same_slots ps old) (same_slots ps (with_pointer k x old)) refl refl refl
    where
      go : (own a b c : Bool) → same_but k ps old ≡ a → same_slots ps old ≡ b → same_slots ps (with_pointer k x old)
          ≡ c → a ≡ b || (own && c)
      go own true true c p q r = refl
      go own true false c p q r = absurd (false≢true (sym q ∙ old-iff.1 (e, p)))
      go own false true c p q r = absurd (false≢true (sym p ∙ (old-iff.0 q).1))
      go own false false true p q r = absurd (false≢true (sym p ∙ (new-iff.0 r).1))
      go true false false false p q r = refl
      go false false false false p q r = refl

  pub as-new : held k ps ≡ x → same_but k ps old ≡ old_or_new true k x old ps
  unfolding old_or_new
  as-new e = go (same_but k ps old) (same_slots ps old) (same_slots ps (with_pointer k x old)) refl refl refl
    where
      go : (a b c : Bool) → same_but k ps old ≡ a → same_slots ps old ≡ b → same_slots ps (with_pointer k x old) ≡ c → a ≡ b || c
      go true true c p q r = refl
      go true false true p q r = refl
      go true false false p q r = absurd (false≢true (sym r ∙ new-iff.1 (e, p)))
      go false true c p q r = absurd (false≢true (sym p ∙ (old-iff.0 q).1))
      go false false true p q r = absurd (false≢true (sym p ∙ (new-iff.0 r).1))
      go false false false p q r = refl

-- the pointer that it has: nothing changes
pub with-same : (k : ℕ) (x : Known ℕ) (ps : List Slot) → rising 0 ps ≡ true → held k ps ≡ x → with_pointer k x ps ≡ ps
unfolding same_but
with-same k x ps o e =
    sym ((slots-same ps (with_pointer k x ps)).0 ((new-iff k x ps ps o o).1 (e, (slots-same (leave k ps) (leave k ps)).1 refl)))

-- a key that is not there enters
pub with-enters : (k x : ℕ) (ps : List Slot) → has_key k ps ≡ false → with_pointer k (Some x) ps ≡ enter k x ps
unfolding with_pointer
with-enters k x ps m = ap (enter k x) (leave-none k ps ((has-key-iff k ps).0 m))
