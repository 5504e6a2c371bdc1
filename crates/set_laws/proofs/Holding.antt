-- Which numbers cells hold: after one is entered, and after one is taken out and the gap closed. A gap is a cell that counts for no number
-- and
-- is passed like one that is taken.
use Rattle.std.proofs.Common.{◌≡◌, ℕ, zero, suc, ◌<◌, ◌≤◌, Bool, true, false, ◌||◌, eqb, leb, ◌≢◌, ◌⊎◌, [], ◌∷◌, length, set, sym, refl, ap}
use Rattle.std.proofs.Common.{◌∙◌, inl, inr, ⊎_elim, mod-lt, arith, length-set, get_or-set_other, get_or-set_same, eq-eqb, ne_eqb, eqb-true}
use Rattle.std.proofs.Common.{leb-false, leb-true}
use mathlib.Core.Bool.{false≢true}
use Rattle.model.specs.Table.{Words, at}
use Rattle.model.specs.Cells.{next_cell, home_of, seek, cell_for, holds, entered, ahead}
use Rattle.list_laws.proofs.Tools.{same-or-not, refuted, or-right}
use Rattle.set_laws.specs.Sets.{SetOf}
use Rattle.set_laws.proofs.Round.{next-in, ahead-in, ahead-same, ahead-nearer}

-- a word past the end is 0
pub past-zero : (cs : Words) (i : ℕ) → length cs ≤ i → at cs i ≡ 0
past-zero [] i h = refl
past-zero (c ∷ cs) zero h = absurd (omega arith)
past-zero (c ∷ cs) (suc i) h = past-zero cs i (omega arith)

pub some-inside : (cs : Words) (i : ℕ) → at cs i ≢ 0 → i < length cs
some-inside cs i z = go (leb (length cs) i) refl
  where
    go : (b : Bool) → leb (length cs) i ≡ b → i < length cs
    go true e = absurd (z (past-zero cs i (leb-true (length cs) i e)))
    go false e = leb-false (length cs) i e

pub home-in : (m x : ℕ) → 0 < m → home_of m x < m
unfolding home_of
home-in m x h = mod-lt _ h

pub cell-for : (m : ℕ) (cs : Words) (x : ℕ) → length cs ≡ m → cell_for cs x ≡ seek cs x (home_of m x) m
unfolding cell_for
cell-for m cs x l = rw l

pub holds-here : (cs : Words) (x : ℕ) → holds cs x ≡ true → at cs (cell_for cs x) ≡ x
unfolding holds
holds-here cs x h = eqb-true (at cs (cell_for cs x)) x h

here-holds : (cs : Words) (x p : ℕ) → cell_for cs x ≡ p → at cs p ≡ x → holds cs x ≡ true
unfolding holds
here-holds cs x p e h = rw e (eq-eqb (at cs p) x h)

-- ---- a walk for x

module _ (m : ℕ) (cs : Words) (long : length cs ≡ m) (x : ℕ) where
  -- the walk passes cell c, or stops there
  abbrev Passed : ℕ → Type 0
  Passed c = (at cs c ≢ x) × (at cs c ≢ 0)

  abbrev Stop : ℕ → Type 0
  Stop c = (at cs c ≡ x) ⊎ (at cs c ≡ 0)

  abbrev Before : (i p : ℕ) → Type 0
  Before i p = (c : ℕ) → c < m → ahead m i c < ahead m i p → Passed c

  seek-stops : (i f : ℕ) → Stop i → seek cs x i (suc f) ≡ i
  unfolding seek
  seek-stops i f (inl e) = rw (eq-eqb (at cs i) x e, seek)
  seek-stops i f (inr e) = rw (eq-eqb (at cs i) 0 e, or-right (eqb (at cs i) x) true refl, seek)

  seek-goes : (i f : ℕ) → Passed i → seek cs x i (suc f) ≡ seek cs x (next_cell m i) f
  unfolding seek
  seek-goes i f p = rw (ne_eqb (at cs i) x p.0, ne_eqb (at cs i) 0 p.1, long, seek)

  stop-or-pass : (i : ℕ) → Stop i ⊎ Passed i
  stop-or-pass i = ⊎_elim (λ e. inl (inl e)) (λ z. ⊎_elim (λ e. inl (inr e)) (λ y. inr (z, y)) (same-or-not (at cs i) 0))
      (same-or-not (at cs i) x)

  -- it ends at the first cell where it stops
  pub seek-ends : (f i p : ℕ) → i < m → p < m → Stop p → Before i p → ahead m i p < f → seek cs x i f ≡ p
  seek-ends zero i p a b s g h = absurd (omega arith)
  seek-ends (suc f) i p a b s g h =
      ⊎_elim (λ e. seek-stops i f (rw e s) ∙ e) (λ z. go z (seek-ends f (next_cell m i) p (next-in m i a) b s)) (same-or-not i p)
    where
      go : i ≢ p → (Before (next_cell m i) p → ahead m (next_cell m i) p < f → seek cs x (next_cell m i) f ≡ p) → seek cs x i (suc f) ≡ p
      go z ih =
          let n = ahead-nearer m i p a b z in
          let here : Passed i = g i a (omega (arith, ahead-same m i a)) in
          let later : Before (next_cell m i) p =
          λ c l q. ⊎_elim (λ e. rw e here) (λ y. g c l (omega (arith, ahead-nearer m i c a l (λ e. y (sym e))))) (same-or-not c i) in
          seek-goes i f here ∙ ih later (omega arith)

  -- where it ends: at such a cell, or nowhere
  abbrev Ended : (f i p : ℕ) → Type 0
  Ended f i p = ((p ≡ m) × ((c : ℕ) → c < m → ahead m i c < f → Passed c)) ⊎ ((p < m) × Stop p × Before i p)

  pub seek-ended : (f i : ℕ) → i < m → Ended f i (seek cs x i f)
  unfolding seek
  seek-ended zero i a = inl (long, λ c l h. absurd (omega arith))
  seek-ended (suc f) i a =
      ⊎_elim stop (λ p. go p (seek cs x (next_cell m i) f) (seek-goes i f p) (seek-ended f (next_cell m i) (next-in m i a)))
      (stop-or-pass i)
    where
      stop : Stop i → Ended (suc f) i (seek cs x i (suc f))
      stop s = rw (seek-stops i f s) (inr (a, s, λ c l h. absurd (omega (arith, ahead-same m i a))))

      go : Passed i → (p : ℕ) → seek cs x i (suc f) ≡ p → Ended f (next_cell m i) p → Ended (suc f) i (seek cs x i (suc f))
      go here p e (inl t) =
          rw e (inl (
            t.0,
            λ c l h. ⊎_elim (λ q. rw q here)
                (λ y. t.1 c l (omega (arith, ahead-nearer m i c a l (λ q. y (sym q))))) (same-or-not c i),
          ))
      go here p e (inr t) =
          let off : i ≢ p = λ q. ⊎_elim (λ s. here.0 (ap (at cs) q ∙ s)) (λ s. here.1 (ap (at cs) q ∙ s)) t.1 in
          rw e (inr (
            t.0,
            t.1,
            λ c l h. ⊎_elim (λ q. rw q here)
                (λ y. t.2 c l (omega (arith, ahead-nearer m i c a l (λ q. y (sym q)), ahead-nearer m i p a t.0 off))) (same-or-not c i),
          ))

-- ---- cells with a gap at g

module _ (m : ℕ) (cs : Words) (g : ℕ) where
  -- x is in a cell, and no cell of its path before that one is free
  pub record Found (x : ℕ) : Type 0 where
    pub place : ℕ
    pub inside : place < m
    pub off : place ≢ g
    pub here : at cs place ≡ x
    pub path : (c : ℕ) → c < m → ahead m (home_of m x) c < ahead m (home_of m x) place → (c ≡ g) ⊎ (at cs c ≢ 0)

  pub record Gapped (mem : ℕ → Bool) : Type 0 where
    pub long : length cs ≡ m
    pub known : (i : ℕ) → i ≢ g → at cs i ≢ 0 → mem (at cs i) ≡ true
    pub found : (x : ℕ) → mem x ≡ true → Found x
    pub once : (i j : ℕ) → i ≢ g → j ≢ g → at cs i ≢ 0 → at cs i ≡ at cs j → i ≡ j

-- 0 is no number of a set
pub real : (mem : ℕ → Bool) → mem 0 ≡ false → (x : ℕ) → mem x ≡ true → x ≢ 0
real mem zeroless x e z = false≢true (sym zeroless ∙ ap mem (sym z) ∙ e)

-- no cell is the gap
module _ (m : ℕ) (cs : Words) (mem : ℕ → Bool) (some : 0 < m) (zeroless : mem 0 ≡ false) where
  pub set-gapped : length cs ≡ m → SetOf cs mem → Gapped m cs m mem
  set-gapped long s = record { long = long; known = λ i z. s.known i; found = λ x e. at-place x e; once = λ i j y z. s.once i j }
    where
      at-place : (x : ℕ) → mem x ≡ true → Found m cs m x
      at-place x e = go (seek-ended m cs long x m (home_of m x) (home-in m x some))
        where
          p : ℕ
          p = seek cs x (home_of m x) m

          here : at cs p ≡ x
          here = ap (at cs) (sym (cell-for m cs x long)) ∙ holds-here cs x (s.found x e)

          go : Ended m cs long x m (home_of m x) p → Found m cs m x
          go (inl t) = absurd (real mem zeroless x e (sym here ∙ past-zero cs p (omega (arith, t.0))))
          go (inr t) = record { place = p; inside = t.0; off = λ q. omega (arith, t.0); here = here; path = λ c l h. inr (t.2 c l h).1 }

  pub gapped-set : Gapped m cs m mem → SetOf cs mem
  gapped-set q = record {
    known = λ i z. q.known i (λ e. out i z e) z;
    found = finds;
    once = λ i j z e. q.once i j (out i z) (λ y. out j (λ n. z (e ∙ n)) y) z e;
  }
    where
      out : (i : ℕ) → at cs i ≢ 0 → i ≢ m
      out i z e = omega (arith, some-inside cs i z, q.long)

      finds : (x : ℕ) → mem x ≡ true → holds cs x ≡ true
      finds x e =
          let u = q.found x e in
          let h = home_of m x in
          let before : Before m cs q.long x h u.place = λ c l y. (
            λ n. no (ap (ahead m h)
                (q.once c u.place (λ z. omega (arith, z)) u.off (λ z. real mem zeroless x e (sym n ∙ z)) (n ∙ sym u.here))) y,
            ⊎_elim (λ z. absurd (omega (arith, z))) (λ z. z) (u.path c l y),
          ) in
          let k = seek-ends m cs q.long x m h u.place (home-in m x some) u.inside (inl u.here) before
          (ahead-in m h u.place (home-in m x some) u.inside) in
          here-holds cs x u.place (cell-for m cs x q.long ∙ k) u.here
        where
          no : {a b : ℕ} → a ≡ b → a < b → ⊥
          no e l = omega arith

  -- what is held is a member
  pub holds-member : length cs ≡ m → SetOf cs mem → (x : ℕ) → x ≢ 0 → holds cs x ≡ mem x
  holds-member long s x z = go (mem x) refl
    where
      go : (b : Bool) → mem x ≡ b → holds cs x ≡ mem x
      go true e = s.found x e ∙ sym e
      go false e = refuted (holds cs x)
          (λ h. let q = holds-here cs x h in false≢true (sym e ∙ ap mem (sym q) ∙ s.known (cell_for cs x) (λ y. z (sym q ∙ y)))) ∙ sym e

-- ---- a number entered

pub at-set : (cs : Words) (i x : ℕ) → i < length cs → at (set cs i x) i ≡ x
at-set cs i x h = get_or-set_same cs i x 0 h

pub at-else : (cs : Words) (i j x : ℕ) → j ≢ i → at (set cs i x) j ≡ at cs j
at-else cs i j x z = get_or-set_other cs i j x 0 z

module _ (m : ℕ) (cs : Words) (mem : ℕ → Bool) (some : 0 < m) (zeroless : mem 0 ≡ false) (long : length cs ≡ m) (s : SetOf cs mem) (x : ℕ)
    (real-x : x ≢ 0) (new : mem x ≡ false) (e : ℕ) (e-in : e < m) (free : at cs e ≡ 0) where
  abbrev p : ℕ
  p = cell_for cs x

  abbrev more : ℕ → Bool
  more y = eqb y x || mem y

  not-x : (i : ℕ) → at cs i ≢ x
  not-x i q = false≢true (sym new ∙ ap mem (sym q) ∙ s.known i (λ z. real-x (sym q ∙ z)))

  -- its cell is free, and the path to it is not
  record Place : Type 0 where
    inside : p < m
    was-free : at cs p ≡ 0
    path : (c : ℕ) → c < m → ahead m (home_of m x) c < ahead m (home_of m x) p → at cs c ≢ 0

  place : Place
  place = go (seek cs x (home_of m x) m) (cell-for m cs x long) (seek-ended m cs long x m (home_of m x) (home-in m x some))
    where
      go : (q : ℕ) → p ≡ q → Ended m cs long x m (home_of m x) q → Place
      go q y (inl t) = absurd ((t.1 e e-in (ahead-in m (home_of m x) e (home-in m x some) e-in)).1 free)
      go q y (inr t) = record {
        inside = rw y t.0;
        was-free = ap (at cs) y ∙ ⊎_elim (λ z. absurd (not-x q z)) (λ z. z) t.1;
        path = λ c l h. (t.2 c l (rw y at h)).1;
      }

  pub entered-set : SetOf (entered cs x) (λ (y : ℕ). eqb y x || mem y)
  unfolding entered
  entered-set = gapped-set m after more some (ap (λ (b : Bool). b || mem 0) (ne_eqb 0 x (λ z. real-x (sym z))) ∙ zeroless) (record {
    long = length-set cs p x ∙ long;
    known = known;
    found = found;
    once = once;
  })
    where
      after : Words
      after = set cs p x

      here : at after p ≡ x
      here = at-set cs p x (omega (arith, place.inside, long))

      else : (i : ℕ) → i ≢ p → at after i ≡ at cs i
      else i z = at-else cs p i x z

      -- a cell that was taken is as it was
      kept : (i : ℕ) → at cs i ≢ 0 → i ≢ p
      kept i z q = z (ap (at cs) q ∙ place.was-free)

      known : (i : ℕ) → i ≢ m → at after i ≢ 0 → more (at after i) ≡ true
      known i o z =
          ⊎_elim (λ q. ap (λ (b : Bool). b || mem (at after i)) (eq-eqb (at after i) x (ap (at after) q ∙ here)))
          (λ q. or-right (eqb (at after i) x) (mem (at after i)) (ap mem (else i q) ∙ s.known i (λ y. z (else i q ∙ y)))) (same-or-not i p)

      found : (y : ℕ) → more y ≡ true → Found m after m y
      found y q = go (eqb y x) refl
        where
          go : (b : Bool) → eqb y x ≡ b → Found m after m y
          go true z =
              let w = eqb-true y x z in
              rw w (record {
                place = p;
                inside = place.inside;
                off = λ o. omega (arith, place.inside, o);
                here = here;
                path = λ c l h. let u = place.path c l h in inr (λ o. u (sym (else c (kept c u)) ∙ o));
              })
          go false z =
              let u = (set-gapped m cs mem some zeroless long s).found y (ap (λ (b : Bool). b || mem y) (sym z) ∙ q) in
              let w : at cs u.place ≢ 0 = λ o. real mem zeroless y (ap (λ (b : Bool). b || mem y) (sym z) ∙ q) (sym u.here ∙ o) in
              record {
                place = u.place;
                inside = u.inside;
                off = u.off;
                here = else u.place (kept u.place w) ∙ u.here;
                path = λ c l h. ⊎_elim (λ o. inl o) (λ o. inr (λ n. o (sym (else c (kept c o)) ∙ n))) (u.path c l h);
              }

      once : (i j : ℕ) → i ≢ m → j ≢ m → at after i ≢ 0 → at after i ≡ at after j → i ≡ j
      once i j a b z q = go (same-or-not i p) (same-or-not j p)
        where
          go : (i ≡ p) ⊎ (i ≢ p) → (j ≡ p) ⊎ (j ≢ p) → i ≡ j
          go (inl u) (inl w) = u ∙ sym w
          go (inl u) (inr w) = absurd (not-x j (sym (else j w) ∙ sym q ∙ ap (at after) u ∙ here))
          go (inr u) (inl w) = absurd (not-x i (sym (else i u) ∙ q ∙ ap (at after) w ∙ here))
          go (inr u) (inr w) = s.once i j (λ y. z (else i u ∙ y)) (sym (else i u) ∙ q ∙ else j w)
