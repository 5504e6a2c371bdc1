-- The pairs of a list with one more, one less, or another class; and the next key up is one only.
use Rattle.std.proofs.Common.{◌≡◌, ℕ, ◌≤◌, Bool, true, false, cond, eqb, ltb, ◌≢◌, ◌⊎◌, ◌↔◌, List, [], ◌∷◌, sym, refl, ap, ◌∙◌, inl, inr}
use Rattle.std.proofs.Common.{⊎_elim, arith, eqb-true}
use mathlib.Core.List.Memᴰ
use mathlib.Core.List.{Memᴰ}
use borrow.Author.Tests.{eqb-false}
use Rattle.std.specs.Prelude.{Some, None}
use Rattle.model.specs.Search.{Next}
use Rattle.model.specs.Slots.{Slot, slot, with_class}
use Rattle.model.specs.Ledger.{enter, leave, reclass}
use Rattle.model.specs.Demand2.{IsNext}

pub mem-enter : (k x : ℕ) (s : Slot) (ps : List Slot) → Memᴰ s (enter k x ps) ↔ ((s ≡ slot k x) ⊎ Memᴰ s ps)
unfolding enter
mem-enter k x s [] = (λ m. ⊎_elim (λ e. inl e) (λ t. inr t) (Memᴰ.cases_cons m), λ u. ⊎_elim (λ e. Memᴰ.head e) (λ t. Memᴰ.tail t) u)
mem-enter k x s (p ∷ ps) = go (ltb k p.key) (mem-enter k x s ps)
  where
    go : (b : Bool) → Memᴰ s (enter k x ps) ↔ ((s ≡ slot k x) ⊎ Memᴰ s ps)
        → Memᴰ s (cond b (slot k x ∷ p ∷ ps) (p ∷ enter k x ps)) ↔ ((s ≡ slot k x) ⊎ Memᴰ s (p ∷ ps))
    go true ih = (λ m. Memᴰ.cases_cons m, λ u. ⊎_elim (λ e. Memᴰ.head e) (λ t. Memᴰ.tail t) u)
    go false ih = (
      λ m. ⊎_elim (λ e. inr (Memᴰ.head e)) (λ t. ⊎_elim (λ e. inl e) (λ q. inr (Memᴰ.tail q)) (ih.0 t)) (Memᴰ.cases_cons m),
      λ u. ⊎_elim (λ e. Memᴰ.tail (ih.1 (inl e))) (λ t. ⊎_elim (λ e. Memᴰ.head e) (λ q. Memᴰ.tail (ih.1 (inr q))) (Memᴰ.cases_cons t)) u,
    )

pub mem-leave : (k : ℕ) (s : Slot) (ps : List Slot) → Memᴰ s (leave k ps) ↔ (Memᴰ s ps × (s.key ≢ k))
unfolding leave
mem-leave k s [] = (λ m. absurd (Memᴰ.not-nil m), λ u. absurd (Memᴰ.not-nil u.0))
mem-leave k s (p ∷ ps) = go (eqb p.key k) refl (mem-leave k s ps)
  where
    key : s ≡ p → s.key ≡ p.key
    key e = ap (λ (x : Slot). x.key) e

    go : (b : Bool) → eqb p.key k ≡ b → Memᴰ s (leave k ps) ↔ (Memᴰ s ps × (s.key ≢ k))
        → Memᴰ s (cond b (leave k ps) (p ∷ leave k ps)) ↔ (Memᴰ s (p ∷ ps) × (s.key ≢ k))
    go true q ih = (
      λ m. (Memᴰ.tail (ih.0 m).0, (ih.0 m).1),
      λ u. ih.1 (⊎_elim (λ e. absurd (u.1 (key e ∙ eqb-true p.key k q))) (λ t. t) (Memᴰ.cases_cons u.0), u.1),
    )
    go false q ih = (
      λ m. ⊎_elim (λ e. (Memᴰ.head e, λ z. eqb-false p.key k q (sym (key e) ∙ z)))
          (λ t. (Memᴰ.tail (ih.0 t).0, (ih.0 t).1)) (Memᴰ.cases_cons m),
      λ u. ⊎_elim (λ e. Memᴰ.head e) (λ t. Memᴰ.tail (ih.1 (t, u.1))) (Memᴰ.cases_cons u.0),
    )

-- s is a pair of another key, or the pair of k with class c
abbrev pub Reclassed : (k c : ℕ) → List Slot → Slot → Type 0
Reclassed k c ps s = (Memᴰ s ps × (s.key ≢ k)) ⊎ ((u : Slot) × Memᴰ u ps × (u.key ≡ k) × (s ≡ slot k (with_class u.pointer c)))

reclassed-tail : (k c : ℕ) (p : Slot) (ps : List Slot) (s : Slot) → Reclassed k c ps s → Reclassed k c (p ∷ ps) s
reclassed-tail k c p ps s (inl u) = inl (Memᴰ.tail u.0, u.1)
reclassed-tail k c p ps s (inr u) = inr (u.0, Memᴰ.tail u.1, u.2, u.3)

pub mem-reclass : (k c : ℕ) (s : Slot) (ps : List Slot) → Memᴰ s (reclass k c ps) ↔ Reclassed k c ps s
unfolding reclass
mem-reclass k c s [] = (λ m. absurd (Memᴰ.not-nil m), λ u. ⊎_elim (λ a. absurd (Memᴰ.not-nil a.0)) (λ a. absurd (Memᴰ.not-nil a.1)) u)
mem-reclass k c s (p ∷ ps) = go (eqb p.key k) refl (mem-reclass k c s ps)
  where
    key : (x y : Slot) → x ≡ y → x.key ≡ y.key
    key x y e = ap (λ (z : Slot). z.key) e

    go : (b : Bool) → eqb p.key k ≡ b → Memᴰ s (reclass k c ps) ↔ Reclassed k c ps s
        → Memᴰ s (cond b (slot p.key (with_class p.pointer c)) p ∷ reclass k c ps) ↔ Reclassed k c (p ∷ ps) s
    go true q ih =
        let o : p.key ≡ k = eqb-true p.key k q in (
          λ m. ⊎_elim (λ e. inr (p, Memᴰ.head refl, o, e ∙ ap (λ (j : ℕ). slot j (with_class p.pointer c)) o))
              (λ t. reclassed-tail k c p ps s (ih.0 t)) (Memᴰ.cases_cons m),
          λ u. ⊎_elim
              (λ a. ⊎_elim (λ e. absurd (a.1 (key s p e ∙ o))) (λ t. Memᴰ.tail (ih.1 (inl (t, a.1)))) (Memᴰ.cases_cons a.0))
              (λ a. ⊎_elim (λ e. Memᴰ.head
              (a.3 ∙ ap (λ (x : Slot). slot k (with_class x.pointer c)) e ∙ ap (λ (j : ℕ). slot j (with_class p.pointer c)) (sym o)))
              (λ t. Memᴰ.tail (ih.1 (inr (a.0, t, a.2, a.3)))) (Memᴰ.cases_cons a.1)) u,
        )
    go false q ih =
        let o : p.key ≢ k = eqb-false p.key k q in (
          λ m. ⊎_elim (λ e. inl (Memᴰ.head e, λ z. o (sym (key s p e) ∙ z))) (λ t. reclassed-tail k c p ps s (ih.0 t)) (Memᴰ.cases_cons m),
          λ u. ⊎_elim
              (λ a. ⊎_elim (λ e. Memᴰ.head e) (λ t. Memᴰ.tail (ih.1 (inl (t, a.1)))) (Memᴰ.cases_cons a.0))
              (λ a. ⊎_elim (λ e. absurd (o (sym (key a.0 p e) ∙ a.2))) (λ t. Memᴰ.tail (ih.1 (inr (a.0, t, a.2, a.3))))
              (Memᴰ.cases_cons a.1)) u,
        )

pub next-once : (k : ℕ) (ps : List Slot) (x y : Next) → IsNext k ps x → IsNext k ps y → x ≡ y
next-once k ps (Some i) (Some j) a b =
    let p : j ≤ i = b.2 (slot i a.0.0) a.0.1 a.1 in
    let q : i ≤ j = a.2 (slot j b.0.0) b.0.1 b.1 in
    let e : i ≡ j = omega (arith, p, q) in
    ap Some e
next-once k ps (Some i) None a b = let p : i ≤ k = b (slot i a.0.0) a.0.1 in absurd (omega (arith, p, a.1))
next-once k ps None (Some j) a b = let p : j ≤ k = a (slot j b.0.0) b.0.1 in absurd (omega (arith, p, b.1))
next-once k ps None None a b = refl
