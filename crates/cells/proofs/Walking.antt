-- A cell at a time, as the code goes along a path.
use Rattle.std.proofs.Common.{◌≡◌, ℕ, suc, ◌-◌, ◌<◌, ◌≤◌, true, false, eqb, leb, ◌≢◌, length, set, sym, refl, ap, ◌∙◌, arith, eq-eqb}
use Rattle.std.proofs.Common.{ne_eqb, le-leb}
use lib.Seq.{set_out}
use borrow.Author.Tests.{lt-leb}
use Rattle.model.specs.Table.{Words, at}
use Rattle.model.specs.Cells.{next_cell, home_of, seek, cell_for, holds, entered, ahead, closed_up, without}
use Rattle.list_laws.proofs.Tools.{or-right}
use Rattle.set_laws.proofs.Holding.{past-zero}

pub ahead-up : (m i j : ℕ) → i ≤ j → j - i ≡ ahead m i j
unfolding ahead
ahead-up m i j h = rw (le-leb i j h)

pub ahead-round : (m i j : ℕ) → i < m → j < i → m - (i - j) ≡ ahead m i j
unfolding ahead
ahead-round m i j h l = rw (lt-leb i j l) (omega arith)

-- ---- the walk for a number

pub seek-start : (cs : Words) (x m i : ℕ) → m ≡ length cs → i ≡ home_of m x → seek cs x i m ≡ cell_for cs x
unfolding cell_for
seek-start cs x m i l e = rw (e, l)

module _ (cs : Words) (x i f : ℕ) where
  one-more : 0 < f → seek cs x i f ≡ seek cs x i (suc (f - 1))
  one-more h = let z : f ≡ suc (f - 1) = omega arith in ap (seek cs x i) z

  pub seek-here : 0 < f → at cs i ≡ x → i ≡ seek cs x i f
  unfolding seek
  seek-here h e = sym (one-more h ∙ rw (eq-eqb (at cs i) x e, seek))

  pub seek-free : 0 < f → at cs i ≡ 0 → i ≡ seek cs x i f
  unfolding seek
  seek-free h e = sym (one-more h ∙ rw (eq-eqb (at cs i) 0 e, or-right (eqb (at cs i) x) true refl, seek))

  pub seek-on : (m : ℕ) → 0 < f → (at cs i ≡ x → ⊥) → (at cs i ≡ 0 → ⊥) → m ≡ length cs → (j : ℕ) → j ≡ next_cell m i
      → seek cs x j (f - 1) ≡ seek cs x i f
  unfolding seek
  seek-on m h d z l j q =
      ap (λ (k : ℕ). seek cs x k (f - 1)) (q ∙ ap (λ (n : ℕ). next_cell n i) l)
      ∙ sym (one-more h ∙ rw (ne_eqb (at cs i) x d, ne_eqb (at cs i) 0 z, seek))

  pub seek-out : (m : ℕ) → f ≡ 0 → m ≡ length cs → m ≡ seek cs x i f
  unfolding seek
  seek-out m h l = l ∙ sym (ap (seek cs x i) h)

-- ---- what is held, and entered

pub holds-past : (cs : Words) (x p : ℕ) → p ≡ cell_for cs x → length cs ≤ p → 0 < x → false ≡ holds cs x
unfolding holds
holds-past cs x p e l h = rw (sym e, past-zero cs p l) (sym (ne_eqb 0 x (λ z. omega arith)))

pub holds-at : (cs : Words) (x p : ℕ) → p ≡ cell_for cs x → eqb (at cs p) x ≡ holds cs x
unfolding holds
holds-at cs x p e = rw (sym e)

pub enter-past : (cs : Words) (x p : ℕ) → p ≡ cell_for cs x → length cs ≤ p → cs ≡ entered cs x
unfolding entered
enter-past cs x p e l = sym (ap (λ (i : ℕ). set cs i x) (sym e) ∙ set_out cs p x l)

pub enter-at : (cs : Words) (x p : ℕ) → p ≡ cell_for cs x → set cs p x ≡ entered cs x
unfolding entered
enter-at cs x p e = ap (λ (i : ℕ). set cs i x) e

-- ---- the gap

module _ (m : ℕ) (cs : Words) (i j : ℕ) (l : m ≡ length cs) where
  -- the number of cell j moves, or not; d and e are how far it is from the gap and from its home
  pub gap-moves : (h d e : ℕ) → at cs j ≢ 0 → h ≡ home_of m (at cs j) → d ≡ ahead m i j → e ≡ ahead m h j → d ≤ e → (f : ℕ)
      → closed_up cs i j (suc f) ≡ closed_up (set cs i (at cs j)) j (next_cell m j) f
  unfolding closed_up
  gap-moves h d e z a b c k f =
      let t : leb (ahead (length cs) i j) (ahead (length cs) (home_of (length cs) (at cs j)) j) ≡ true =
      rw (sym l, sym a, sym b, sym c) (le-leb d e k) in
      rw (ne_eqb (at cs j) 0 z, t, closed_up, l)

  pub gap-stays : (h d e : ℕ) → at cs j ≢ 0 → h ≡ home_of m (at cs j) → d ≡ ahead m i j → e ≡ ahead m h j → e < d → (f : ℕ)
      → closed_up cs i j (suc f) ≡ closed_up cs i (next_cell m j) f
  unfolding closed_up
  gap-stays h d e z a b c k f =
      let t : leb (ahead (length cs) i j) (ahead (length cs) (home_of (length cs) (at cs j)) j) ≡ false =
      rw (sym l, sym a, sym b, sym c) (lt-leb d e k) in
      rw (ne_eqb (at cs j) 0 z, t, closed_up, l)

pub gap-ends : (cs : Words) (i j f : ℕ) → 0 < f → at cs j ≡ 0 → set cs i 0 ≡ closed_up cs i j f
unfolding closed_up
gap-ends cs i j f h e = let z : f ≡ suc (f - 1) = omega arith in sym (ap (closed_up cs i j) z ∙ rw (eq-eqb (at cs j) 0 e, closed_up))

pub gap-out : (cs : Words) (i j f : ℕ) → f ≡ 0 → set cs i 0 ≡ closed_up cs i j f
unfolding closed_up
gap-out cs i j f e = sym (ap (closed_up cs i j) e)

pub gap-on : (cs cs' : Words) (i i' j j' m n f : ℕ) → 0 < f → ((f : ℕ) → closed_up cs i j (suc f) ≡ closed_up cs' i' (next_cell m j) f) → j'
    ≡ next_cell n j → n ≡ m → closed_up cs' i' j' (f - 1) ≡ closed_up cs i j f
gap-on cs cs' i i' j j' m n f h q e l =
    let z : f ≡ suc (f - 1) = omega arith in
    sym (ap (closed_up cs i j) z ∙ q (f - 1) ∙ ap (λ (k : ℕ). closed_up cs' i' (next_cell k j) (f - 1)) (sym l)
    ∙ ap (λ (k : ℕ). closed_up cs' i' k (f - 1)) (sym e))

-- ---- taken out

pub out-past : (cs : Words) (x p : ℕ) → p ≡ cell_for cs x → length cs ≤ p → 0 < x → cs ≡ without cs x
unfolding without
out-past cs x p e l h = rw (sym (holds-past cs x p e l h))

pub out-other : (cs : Words) (x p : ℕ) → p ≡ cell_for cs x → at cs p ≢ x → cs ≡ without cs x
unfolding without
out-other cs x p e z = rw (sym (holds-at cs x p e), ne_eqb (at cs p) x z)

pub out-at : (cs cs' : Words) (x p : ℕ) → p ≡ cell_for cs x → at cs p ≡ x → cs'
    ≡ closed_up cs p (next_cell (length cs) p) (length cs) → cs' ≡ without cs x
unfolding without
out-at cs cs' x p e h q = q ∙ rw (sym (holds-at cs x p e), eq-eqb (at cs p) x h, sym e)

pub gap-from : (cs : Words) (i j k f : ℕ) → j ≡ k → closed_up cs i j f ≡ closed_up cs i k f
gap-from cs i j k f e = ap (λ (n : ℕ). closed_up cs i n f) e
