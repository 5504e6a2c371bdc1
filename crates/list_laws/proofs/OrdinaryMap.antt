-- Entering, leaving and a new class are those of an ordinary map: one key changes, every other key keeps its slot.
use Rattle.std.proofs.Common.{◌≡◌, ℕ, Bool, true, false, cond, eqb, ltb, List, [], ◌∷◌, map, sym, refl, ap, ◌∙◌, ne_eqb, eqb-true}
use mathlib.Core.Option
use mathlib.Core.Option.{Option, none, some}
use borrow.Author.Tests.{eqb-false}
use Rattle.model.specs.Slots.{Slot, slot, with_class, recording}
use Rattle.model.specs.Search.{first_with}
use Rattle.model.specs.Refusals.{has_key}
use Rattle.model.specs.Ledger.{enter, leave, reclass}
use Rattle.list_laws.proofs.Tools.{eqb-sym, or-false-iff, first-nil, first-here, first-past}
use Rattle.list_laws.proofs.Recordings.{class-keeps}

-- the slot found for j after the pair (k, r) came before ps
front : (j k r : ℕ) (ps : List Slot) → first_with j (slot k r ∷ ps) ≡ cond (eqb k j) (some (slot k r)) (first_with j ps)
front j k r ps = go (eqb k j) refl
  where
    go : (b : Bool) → eqb k j ≡ b → first_with j (slot k r ∷ ps) ≡ cond (eqb k j) (some (slot k r)) (first_with j ps)
    go true e = rw e (first-here j (slot k r) ps (eqb-true k j e))
    go false e = rw e (first-past j (slot k r) ps (eqb-false k j e))

-- a pair more
pub enter-first : (j k r : ℕ) (ps : List Slot) → has_key k ps ≡ false → first_with j (enter k r ps)
    ≡ cond (eqb k j) (some (slot k r)) (first_with j ps)
unfolding enter has_key
enter-first j k r [] h = front j k r []
enter-first j k r (s ∷ ps) h = go (ltb k s.key) (eqb s.key j) refl refl (enter-first j k r ps)
  where
    u : (eqb s.key k ≡ false) × (has_key k ps ≡ false)
    u = (or-false-iff (eqb s.key k) (has_key k ps)).0 h

    go : (b c : Bool) → ltb k s.key ≡ b → eqb s.key j ≡ c
        → (has_key k ps ≡ false → first_with j (enter k r ps) ≡ cond (eqb k j) (some (slot k r)) (first_with j ps))
        → first_with j (enter k r (s ∷ ps)) ≡ cond (eqb k j) (some (slot k r)) (first_with j (s ∷ ps))
    go true c q e ih = rw q (front j k r (s ∷ ps))
    go false true q e ih =
        let o : s.key ≡ j = eqb-true s.key j e in
        let d : eqb k j ≡ false = ne_eqb k j (λ z. eqb-false s.key k u.0 (o ∙ sym z)) in
        rw (q, d) (first-here j s (enter k r ps) o ∙ sym (first-here j s ps o))
    go false false q e ih =
        let o = eqb-false s.key j e in
        rw q (first-past j s (enter k r ps) o ∙ ih u.1
        ∙ ap (λ (x : Option Slot). cond (eqb k j) (some (slot k r)) x) (sym (first-past j s ps o)))

-- a pair less
pub leave-first : (j k : ℕ) (ps : List Slot) → first_with j (leave k ps) ≡ cond (eqb k j) none (first_with j ps)
unfolding leave
leave-first j k [] = rw (first-nil j [] tt) (same (eqb k j))
  where
    same : (b : Bool) → ◌≡◌ {A = Option Slot} none (cond b none none)
    same true = refl
    same false = refl
leave-first j k (s ∷ ps) = go (eqb s.key k) (eqb k j) (eqb s.key j) refl refl refl (leave-first j k ps)
  where
    go : (a b c : Bool) → eqb s.key k ≡ a → eqb k j ≡ b → eqb s.key j ≡ c → first_with j (leave k ps)
        ≡ cond (eqb k j) none (first_with j ps)
        → first_with j (leave k (s ∷ ps)) ≡ cond (eqb k j) none (first_with j (s ∷ ps))
    go true true c p q e ih = rw (p, q) (ih ∙ rw q refl)
    go true false c p q e ih =
        let o = eqb-true s.key k p in
        rw (p, q) (ih ∙ rw q (sym (first-past j s ps (λ z. eqb-false k j q (sym o ∙ z)))))
    go false true c p q e ih =
        let z : s.key ≡ j → ⊥ = λ y. eqb-false s.key k p (y ∙ sym (eqb-true k j q)) in
        rw (p, q) (first-past j s (leave k ps) z ∙ ih ∙ rw q refl)
    go false false true p q e ih =
        let o = eqb-true s.key j e in
        rw (p, q) (first-here j s (leave k ps) o ∙ sym (first-here j s ps o))
    go false false false p q e ih =
        let o = eqb-false s.key j e in
        rw (p, q) (first-past j s (leave k ps) o ∙ ih ∙ rw q (sym (first-past j s ps o)))

-- ---- another class

abbrev pub with_class_of : (c : ℕ) → Slot → Slot
with_class_of c s = slot s.key (with_class s.pointer c)

-- the pair of k gets class c
abbrev classed : (k c : ℕ) → Slot → Slot
classed k c s = cond (eqb s.key k) (with_class_of c s) s

classed-key : (k c : ℕ) (s : Slot) → (classed k c s).key ≡ s.key
classed-key k c s = go (eqb s.key k)
  where
    go : (b : Bool) → (cond b (with_class_of c s) s).key ≡ s.key
    go true = refl
    go false = refl

classed-recording : (k c : ℕ) (s : Slot) → recording (classed k c s) ≡ recording s
classed-recording k c s = go (eqb s.key k)
  where
    go : (b : Bool) → recording (cond b (with_class_of c s) s) ≡ recording s
    go true = class-keeps s.pointer c
    go false = refl

-- That code then has the class asked for,
pub reclass-first : (j k c : ℕ) (ps : List Slot) → first_with j (reclass k c ps)
    ≡ cond (eqb k j) (Option.map (with_class_of c) (first_with j ps)) (first_with j ps)
unfolding reclass
reclass-first j k c [] = rw (first-nil j [] tt) (same (eqb k j))
  where
    same : (b : Bool) → ◌≡◌ {A = Option Slot} none (cond b none none)
    same true = refl
    same false = refl
reclass-first j k c (s ∷ ps) = go (eqb s.key j) refl (reclass-first j k c ps)
  where
    here : (b : Bool) → eqb s.key k ≡ b → ◌≡◌ {A = Option Slot} (some (classed k c s)) (cond b (some (with_class_of c s)) (some s))
    here true e = rw e
    here false e = rw e

    go : (d : Bool) → eqb s.key j ≡ d → first_with j (reclass k c ps)
        ≡ cond (eqb k j) (Option.map (with_class_of c) (first_with j ps)) (first_with j ps)
        → first_with j (reclass k c (s ∷ ps))
        ≡ cond (eqb k j) (Option.map (with_class_of c) (first_with j (s ∷ ps))) (first_with j (s ∷ ps))
    go true e ih =
        let o = eqb-true s.key j e in
        let q : eqb s.key k ≡ eqb k j = ap (λ (n : ℕ). eqb n k) o ∙ eqb-sym j k in
        first-here j (classed k c s) (reclass k c ps) (classed-key k c s ∙ o) ∙ here (eqb s.key k) refl ∙ rw (q, first-here j s ps o) refl
    go false e ih =
        let o = eqb-false s.key j e in
        first-past j (classed k c s) (reclass k c ps) (λ z. o (sym (classed-key k c s) ∙ z)) ∙ ih ∙ rw (first-past j s ps o) refl

-- and nothing else in the map differs: the same keys in the same order, each with its recording.
pub reclass-keys : (k c : ℕ) (ps : List Slot) → map (λ (s : Slot). s.key) (reclass k c ps) ≡ map (λ (s : Slot). s.key) ps
unfolding reclass
reclass-keys k c [] = refl
reclass-keys k c (s ∷ ps) = rw (classed-key k c s, reclass-keys k c ps)

-- a class change keeps the recording numbers of the pairs
pub reclass-recordings : (k c : ℕ) (ps : List Slot) → map recording (reclass k c ps) ≡ map recording ps
unfolding reclass
reclass-recordings k c [] = refl
reclass-recordings k c (s ∷ ps) = rw (classed-recording k c s, reclass-recordings k c ps)
