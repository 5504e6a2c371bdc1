-- Recordings that the cells do not hold: the slots of a leaf, then those of the leaves after it.
use Rattle.std.proofs.Common.{◌≡◌, ℕ, zero, suc, ◌+◌, ◌-◌, ◌<◌, ◌≤◌, Bool, true, false, ◌&&◌, eqb, ◌≢◌, List, [], ◌∷◌, ◌++◌, length, get_or}
use Rattle.std.proofs.Common.{take, drop, sym, refl, ap, ◌∙◌, inl, inr, arith, drop-cons, eq-eqb, ne_eqb}
use mathlib.Core.Bool.{and_assoc}
use Rattle.std.specs.List.{list_all}
use Rattle.model.specs.Table.{Words, root}
use Rattle.model.specs.Slots.{Slot, recording_of, view_from, view}
use Rattle.model.specs.Reached.{flat, kept}
use Rattle.model.specs.SoundTest.{all}
use Rattle.slots.specs.Gathered.{span}
use Rattle.model.specs.Cells.{home_of}
use Rattle.numbers.specs.Cells.{CELLS, TRIES, next_cell}
use Rattle.numbers.specs.Filed.{Closed}
use Rattle.view_laws.proofs.AnyRoot.{any-kept}
use Rattle.clear.specs.New.{off_from, off, off_pair}

all-join : (p : Slot → Bool) (xs ys : List Slot) → all p (xs ++ ys) ≡ (all p xs && all p ys)
unfolding all
all-join p [] ys = refl
all-join p (x ∷ xs) ys = ap (λ (b : Bool). p x && b) (all-join p xs ys) ∙ sym (and_assoc (p x) (all p xs) (all p ys))

-- ---- a number's path

module _ (cs : Words) (r : ℕ) where
  pub off-here : (i m : ℕ) → 0 < m → get_or cs i 0 ≡ r → false ≡ off_from CELLS cs r i m
  unfolding off_from
  off-here i zero h e = absurd (omega arith)
  off-here i (suc m) h e = rw (eq-eqb (get_or cs i 0) r e, off_from)

  pub off-free : (i m : ℕ) → 0 < m → (get_or cs i 0 ≡ r → ⊥) → get_or cs i 0 ≡ 0 → true ≡ off_from CELLS cs r i m
  unfolding off_from
  off-free i zero h z e = absurd (omega arith)
  off-free i (suc m) h z e = rw (ne_eqb (get_or cs i 0) r z, eq-eqb (get_or cs i 0) 0 e, off_from)

  pub off-more : (i m : ℕ) → 0 < m → (get_or cs i 0 ≡ r → ⊥) → (get_or cs i 0 ≡ 0 → ⊥) → (j : ℕ) → j ≡ next_cell CELLS i
      → off_from CELLS cs r j (m - 1) ≡ off_from CELLS cs r i m
  unfolding off_from
  off-more i zero h z y j e = absurd (omega arith)
  off-more i (suc m) h z y j e =
      let d : suc m - 1 ≡ m = omega arith in
      let q : off_from CELLS cs r i (suc m) ≡ off_from CELLS cs r (next_cell CELLS i) m =
      ap (λ (b : Bool). elim b as (λ b. Bool) [
        | true ↦ false
        | false ↦ elim (eqb (get_or cs i 0) 0) as (λ b. Bool)
            [ true ↦ true | false ↦ off_from CELLS cs r (next_cell CELLS i) m ]
      ]) (ne_eqb (get_or cs i 0) r z)
      ∙ ap (λ (b : Bool). elim b as (λ b. Bool) [ true ↦ true | false ↦ off_from CELLS cs r (next_cell CELLS i) m ])
      (ne_eqb (get_or cs i 0) 0 y) in
      ap (off_from CELLS cs r j) d ∙ ap (λ (k : ℕ). off_from CELLS cs r k m) e ∙ sym q

  pub off-end : (i m : ℕ) → m ≡ 0 → false ≡ off_from CELLS cs r i m
  unfolding off_from
  off-end i m e = rw e

pub off-start : (cs : Words) (r i : ℕ) → i ≡ home_of CELLS r → off_from CELLS cs r i TRIES ≡ off cs r
unfolding off home_of
off-start cs r i e = rw e

-- a number that the cells hold is met before a free one
pub held-met : (n : ℕ) (cs : Words) (r i m : ℕ) → r ≢ 0 → Closed n cs r i m → off_from n cs r i m ≡ false
unfolding off_from
held-met n cs r i zero z c = refl
held-met n cs r i (suc m) z (inl e) = rw (eq-eqb (get_or cs i 0) r e, off_from)
held-met n cs r i (suc m) z (inr c) = go (eqb (get_or cs i 0) r) (held-met n cs r (next_cell n i) m z c.1)
  where
    go : (b : Bool) → off_from n cs r (next_cell n i) m ≡ false
        → elim b as (λ b. Bool)
        [ true ↦ false | false ↦ elim (eqb (get_or cs i 0) 0) [ true ↦ true | false ↦ off_from n cs r (next_cell n i) m ] ] ≡ false
    go true h = refl
    go false h = rw (ne_eqb (get_or cs i 0) 0 c.0) h

-- ---- the slots of a leaf, from way i on

pub listed-ways : (cs ks ps : Words) (i m : ℕ) → i + m ≤ length ps → list_all (λ p. off cs (recording_of p)) (take m (drop i ps))
    ≡ all (off_pair cs) (span ks ps i m)
unfolding all span
listed-ways cs ks ps i zero h = refl
listed-ways cs ks ps i (suc m) h =
    rw (drop-cons ps i 0 (omega arith))
    (ap (λ b. off cs (recording_of (get_or ps i 0)) && b) (listed-ways cs ks ps (suc i) m (omega arith)))

-- ---- the leaves, one by one

pub leaves-all : (cs t : Words) (r : ℕ) (ns : List ℕ) → list_all (λ (n : ℕ). all (off_pair cs) (kept (view t) n)) ns
    ≡ all (off_pair cs) (flat (kept (view_from t r)) ns)
unfolding all flat
leaves-all cs t r [] = refl
leaves-all cs t r (n ∷ ns) =
    ap (λ (b : Bool). all (off_pair cs) (kept (view t) n) && b) (leaves-all cs t r ns)
    ∙ ap (λ (ss : List Slot). all (off_pair cs) ss && all (off_pair cs) (flat (kept (view_from t r)) ns)) (any-kept t (root t) r n)
    ∙ sym (all-join (off_pair cs) (kept (view_from t r) n) (flat (kept (view_from t r)) ns))
