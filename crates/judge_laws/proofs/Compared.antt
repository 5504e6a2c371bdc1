-- Maps compared pair by pair.
use Rattle.std.proofs.Common.{◌≡◌, ℕ, true, ◌↔◌, List, [], ◌∷◌, refl, ap, ◌∙◌, arith}
use mathlib.Core.Bool.{false≢true}
use mathlib.Core.Option.{Option, none, some}
use Rattle.model.specs.Slots.{Slot, slot}
use Rattle.model.specs.Reached.{Maps}
use Rattle.list_laws.proofs.Tools.{and-iff, eqb-iff}
use Rattle.model.specs.Judge.{same_slots, same_second, same_maps}

-- slots with the same key and pointer are the same
pub slot-same : (p q : Slot) → p.key ≡ q.key → p.pointer ≡ q.pointer → p ≡ q
slot-same p q a b = ap (λ (k : ℕ). slot k p.pointer) a ∙ ap (slot q.key) b

-- the test of equality passes exactly for equal lists of slots
pub slots-same : (ps qs : List Slot) → (same_slots ps qs ≡ true) ↔ (ps ≡ qs)
unfolding same_slots
slots-same [] [] = (λ e. refl, λ e. refl)
slots-same [] (q ∷ qs) = (λ e. absurd (false≢true e), λ e. absurd (let z : ◌≡◌ {A = ℕ} 0 1 = cc in omega arith))
slots-same (p ∷ ps) [] = (λ e. absurd (false≢true e), λ e. absurd (let z : ◌≡◌ {A = ℕ} 0 1 = cc in omega arith))
slots-same (p ∷ ps) (q ∷ qs) = (
  λ e. let u = simp (and-iff, eqb-iff) at e in let a = slot-same p q u.0 u.1.0 in let b = (slots-same ps qs).0 u.1.1 in cc,
  λ e. let a : p ≡ q = cc in let b : ps ≡ qs =
      cc in simp (and-iff, eqb-iff) (ap (λ (s : Slot). s.key) a, (ap (λ (s : Slot). s.pointer) a, (slots-same ps qs).1 b)),
)

second-same : (a b : Option (List Slot)) → (same_second a b ≡ true) ↔ (a ≡ b)
second-same none none = (λ e. refl, λ e. refl)
second-same none (some qs) = (λ e. absurd (false≢true e), λ e. absurd (let z : ◌≡◌ {A = ℕ} 0 1 = cc in omega arith))
second-same (some ps) none = (λ e. absurd (false≢true e), λ e. absurd (let z : ◌≡◌ {A = ℕ} 0 1 = cc in omega arith))
second-same (some ps) (some qs) = (λ e. ap some ((slots-same ps qs).0 e), λ e. (slots-same ps qs).1 (let a : ps ≡ qs = cc in a))

-- the maps of a first list and a second one or its lack
abbrev pub maps_with : List Slot → Option (List Slot) → Maps
maps_with a b = record { one = a; two = b }

-- the test of equality passes exactly for equal maps
pub maps-same : (a b : Maps) → (same_maps a b ≡ true) ↔ (a ≡ b)
unfolding same_maps
maps-same a b = (
  λ e. let u = (and-iff (same_slots a.one b.one) (same_second a.two b.two)).0 e in
      ap (λ (x : List Slot). maps_with x a.two) ((slots-same a.one b.one).0 u.0) ∙ ap (maps_with b.one) ((second-same a.two b.two).0 u.1),
  λ e. (and-iff (same_slots a.one b.one) (same_second a.two b.two)).1
      ((slots-same a.one b.one).1 (ap (λ (m : Maps). m.one) e), (second-same a.two b.two).1 (ap (λ (m : Maps). m.two) e)),
)
