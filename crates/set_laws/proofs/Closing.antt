-- A number taken out of the cells: its cell becomes a gap, the gap moves on until a free cell comes, and is free then.
use Rattle.std.proofs.Common.{◌≡◌, ℕ, zero, suc, ◌+◌, ◌<◌, ◌≤◌, Bool, true, false, cond, not, ◌&&◌, eqb, leb, ◌≢◌, ◌⊎◌, length, set, sym}
use Rattle.std.proofs.Common.{refl, ap, ◌∙◌, inl, inr, ⊎_elim, arith, length-set, eq-eqb, ne_eqb, leb-false, leb-true}
use borrow.Author.Tests.{eqb-false}
use Rattle.model.specs.Table.{Words, at}
use Rattle.model.specs.Cells.{next_cell, home_of, cell_for, holds, ahead, closed_up, without}
use Rattle.list_laws.proofs.Tools.{same-or-not, compared, and-iff, not-iff}
use Rattle.set_laws.specs.Sets.{SetOf}
use Rattle.set_laws.proofs.Round.{next-in, ahead-in, ahead-same, ahead-zero, ahead-only, ahead-nearer, ahead-farther, ahead-through}
use Rattle.set_laws.proofs.Round.{ahead-add, ahead-next}
use Rattle.set_laws.proofs.Holding.{some-inside, home-in, holds-here, at-set, at-else, Found, Gapped, real, set-gapped, gapped-set}

-- ---- the gap opens

module _ (m : ℕ) (cs : Words) (mem : ℕ → Bool) (q : Gapped m cs m mem) (x p : ℕ) (real-x : x ≢ 0) (p-in : p < m) (here : at cs p ≡ x) where
  abbrev less : ℕ → Bool
  less y = not (eqb y x) && mem y

  less-other : (y : ℕ) → less y ≡ true → (y ≢ x) × (mem y ≡ true)
  less-other y e = let u = (and-iff (not (eqb y x)) (mem y)).0 e in (eqb-false y x ((not-iff (eqb y x)).0 u.0), u.1)

  other-less : (y : ℕ) → y ≢ x → mem y ≡ true → less y ≡ true
  other-less y z e = (and-iff (not (eqb y x)) (mem y)).1 ((not-iff (eqb y x)).1 (ne_eqb y x z), e)

  not-end : (i : ℕ) → at cs i ≢ 0 → i ≢ m
  not-end i z e = omega (arith, some-inside cs i z, q.long, e)

  pub gap-opens : Gapped m cs p (λ (y : ℕ). not (eqb y x) && mem y)
  gap-opens = record {
    long = q.long;
    known = λ i z y. other-less (at cs i) (λ e. z (q.once i p (not-end i y) (λ n. omega (arith, n)) y (e ∙ sym here)))
        (q.known i (not-end i y) y);
    found = λ y e. finds y (less-other y e);
    once = λ i j a b z e. q.once i j (not-end i z) (not-end j (λ n. z (e ∙ n))) z e;
  }
    where
      finds : (y : ℕ) → (y ≢ x) × (mem y ≡ true) → Found m cs p y
      finds y u =
          let f = q.found y u.1 in
          record {
            place = f.place;
            inside = f.inside;
            off = λ n. u.0 (sym f.here ∙ ap (at cs) n ∙ here);
            here = f.here;
            path = λ c l h. ⊎_elim (λ n. absurd (omega (arith, n))) (λ z. inr z) (f.path c l h);
          }

-- ---- the gap moves, or is closed

module _ (m : ℕ) (cs : Words) (mem : ℕ → Bool) (zeroless : mem 0 ≡ false) (i j : ℕ) (q : Gapped m cs i mem) (i-in : i < m)
    (j-in : j < m) (apart : j ≢ i) where
  -- the number of cell j, whose path leads over the gap, moves into it
  module _ (taken : at cs j ≢ 0) (over : ahead m i j ≤ ahead m (home_of m (at cs j)) j) where
    pub gap-moves : Gapped m (set cs i (at cs j)) j mem
    gap-moves = record { long = length-set cs i w ∙ q.long; known = known; found = found; once = once }
      where
        w : ℕ
        w = at cs j

        after : Words
        after = set cs i (at cs j)

        here : at after i ≡ at cs j
        here = at-set cs i (at cs j) (omega (arith, q.long))

        else : (c : ℕ) → c ≢ i → at after c ≡ at cs c
        else c z = at-else cs i c (at cs j) z

        known : (c : ℕ) → c ≢ j → at after c ≢ 0 → mem (at after c) ≡ true
        known c z y = ⊎_elim (λ e. ap mem (ap (at after) e ∙ here) ∙ q.known j apart taken)
            (λ e. ap mem (else c e) ∙ q.known c e (λ n. y (else c e ∙ n))) (same-or-not c i)

        -- a taken cell, or the old gap, is taken now
        passed : (c : ℕ) → (c ≡ i) ⊎ (at cs c ≢ 0) → at after c ≢ 0
        passed c (inl e) n = taken (sym here ∙ ap (at after) (sym e) ∙ n)
        passed c (inr z) n = ⊎_elim (λ e. taken (sym here ∙ ap (at after) (sym e) ∙ n)) (λ e. z (sym (else c e) ∙ n)) (same-or-not c i)

        found : (y : ℕ) → mem y ≡ true → Found m after j y
        found y e = go (same-or-not f.place j)
          where
            f : Found m cs i y
            f = q.found y e

            go : (f.place ≡ j) ⊎ (f.place ≢ j) → Found m after j y
            go (inl n) =
                let same : at cs j ≡ y = ap (at cs) (sym n) ∙ f.here in
                let h = home_of m y in
                let some : 0 < m = omega arith in
                let over' : ahead m i j ≤ ahead m h j = rw same at over in
                let sum = ahead-through m h i j (home-in m y some) i-in j-in (inl over') in
                record {
                  place = i;
                  inside = i-in;
                  off = λ o. apart (sym o);
                  here = here ∙ same;
                  path = λ c l k. inr (passed c (f.path c l (rw n (omega (arith, k, sum)))));
                }
            go (inr n) = record {
              place = f.place;
              inside = f.inside;
              off = n;
              here = else f.place f.off ∙ f.here;
              path = λ c l k. inr (passed c (f.path c l k));
            }

        once : (c d : ℕ) → c ≢ j → d ≢ j → at after c ≢ 0 → at after c ≡ at after d → c ≡ d
        once c d a b z e = go (same-or-not c i) (same-or-not d i)
          where
            go : (c ≡ i) ⊎ (c ≢ i) → (d ≡ i) ⊎ (d ≢ i) → c ≡ d
            go (inl u) (inl v) = u ∙ sym v
            go (inl u) (inr v) = absurd (b (sym (q.once j d apart v taken (sym here ∙ ap (at after) (sym u) ∙ e ∙ else d v))))
            go (inr u) (inl v) = absurd (a (sym (q.once j c apart u taken (sym here ∙ ap (at after) (sym v) ∙ sym e ∙ else c u))))
            go (inr u) (inr v) = q.once c d u v (λ n. z (else c u ∙ n)) (sym (else c u) ∙ e ∙ else d v)

  -- the cells between the gap and j are taken, by numbers whose paths do not lead over the gap
  abbrev pub Examined : Type 0
  Examined = (c : ℕ) → c < m → 0 < ahead m i c → ahead m i c < ahead m i j → (at cs c ≢ 0) × (ahead m (home_of m (at cs c)) c < ahead m i c)

  module _ (free : at cs j ≡ 0) (seen : Examined) where
    pub gap-closes : Gapped m (set cs i 0) m mem
    gap-closes = record { long = length-set cs i 0 ∙ q.long; known = known; found = found; once = once }
      where
        after : Words
        after = set cs i 0

        here : at after i ≡ 0
        here = at-set cs i 0 (omega (arith, q.long))

        else : (c : ℕ) → c ≢ i → at after c ≡ at cs c
        else c z = at-else cs i c 0 z

        not-gap : (c : ℕ) → at after c ≢ 0 → c ≢ i
        not-gap c z e = z (ap (at after) e ∙ here)

        known : (c : ℕ) → c ≢ m → at after c ≢ 0 → mem (at after c) ≡ true
        known c o z = let e = not-gap c z in ap mem (else c e) ∙ q.known c e (λ n. z (else c e ∙ n))

        -- no path leads over the gap
        clear-of : (y : ℕ) (e : mem y ≡ true) → ahead m (home_of m y) i < ahead m (home_of m y) (q.found y e).place → ⊥
        clear-of y e l = ⊎_elim before (⊎_elim at-it after-it) (compared (ahead m i k) (ahead m i j))
          where
            f : Found m cs i y
            f = q.found y e

            k : ℕ
            k = f.place

            h : ℕ
            h = home_of m y

            h-in : h < m
            h-in = home-in m y (omega arith)

            sum : ahead m h i + ahead m i k ≡ ahead m h k
            sum = ahead-through m h i k h-in i-in f.inside (inr (omega (arith, l)))

            some : 0 < ahead m i k
            some = positive (ahead m i k) (λ z. f.off (sym (ahead-zero m i k i-in f.inside z)))
              where
                positive : (n : ℕ) → n ≢ 0 → 0 < n
                positive zero z = absurd (z refl)
                positive (suc n) z = omega arith

            before : ahead m i k < ahead m i j → ⊥
            before n =
                let u = (seen k f.inside some n).1 in
                let w : ahead m h k < ahead m i k = rw f.here at u in
                omega (arith, w, sum)

            at-it : ahead m i k ≡ ahead m i j → ⊥
            at-it n = real mem zeroless y e (sym f.here ∙ ap (at cs) (ahead-only m i k j i-in f.inside j-in n) ∙ free)

            after-it : ahead m i j < ahead m i k → ⊥
            after-it n =
                let less = ahead-in m h k h-in f.inside in
                let add = ahead-add m h i j h-in i-in j-in (omega (arith, less, sum, n)) in
                ⊎_elim (λ o. apart o) (λ o. o free) (f.path j j-in (omega (arith, add, sum, n)))

        found : (y : ℕ) → mem y ≡ true → Found m after m y
        found y e =
            let f = q.found y e in
            record {
              place = f.place;
              inside = f.inside;
              off = λ o. omega (arith, f.inside, o);
              here = else f.place f.off ∙ f.here;
              path = λ c l k. inr (⊎_elim (λ o. absurd (clear-of y e (rw o at k)))
                  (λ z n. z (sym (else c (λ o. clear-of y e (rw o at k))) ∙ n)) (f.path c l k));
            }

        once : (c d : ℕ) → c ≢ m → d ≢ m → at after c ≢ 0 → at after c ≡ at after d → c ≡ d
        once c d a b z e =
            let u = not-gap c z in
            let v = not-gap d (λ n. z (e ∙ n)) in
            q.once c d u v (λ n. z (else c u ∙ n)) (sym (else c u) ∙ e ∙ else d v)

-- ---- all of it

-- the three ways of a step
closed-free : (cs : Words) (i j f : ℕ) → at cs j ≡ 0 → closed_up cs i j (suc f) ≡ set cs i 0
unfolding closed_up
closed-free cs i j f e = rw (eq-eqb (at cs j) 0 e, closed_up)

closed-moves : (m : ℕ) (cs : Words) (i j f : ℕ) → length cs ≡ m → at cs j ≢ 0 → leb (ahead m i j) (ahead m (home_of m (at cs j)) j) ≡ true
    → closed_up cs i j (suc f) ≡ closed_up (set cs i (at cs j)) j (next_cell m j) f
unfolding closed_up
closed-moves m cs i j f l z e = rw (ne_eqb (at cs j) 0 z, l, e, closed_up, l)

closed-passes : (m : ℕ) (cs : Words) (i j f : ℕ) → length cs ≡ m → at cs j ≢ 0 → leb (ahead m i j) (ahead m (home_of m (at cs j)) j) ≡ false
    → closed_up cs i j (suc f) ≡ closed_up cs i (next_cell m j) f
unfolding closed_up
closed-passes m cs i j f l z e = rw (ne_eqb (at cs j) 0 z, l, e, closed_up, l)

module _ (m : ℕ) (mem : ℕ → Bool) (zeroless : mem 0 ≡ false) (e : ℕ) (e-in : e < m) where
  -- in f steps from cell j on, where e is a free cell and the gap i comes before j, which comes no later than e
  abbrev Closes : ℕ → Type 0
  Closes f = (cs : Words) (i j : ℕ) → Gapped m cs i mem → i < m → j < m → at cs e ≡ 0 → e ≢ i → 1 ≤ ahead m i j
      → ahead m i j ≤ ahead m i e → ahead m j e < f
      → ((c : ℕ) → c < m → 0 < ahead m i c → ahead m i c < ahead m i j → (at cs c ≢ 0) × (ahead m (home_of m (at cs c)) c < ahead m i c))
      → Gapped m (closed_up cs i j f) m mem

  one-more : (f : ℕ) → Closes f → Closes (suc f)
  one-more f ih cs i j q i-in j-in free off one upto less seen = ⊎_elim ends goes (same-or-not (at cs j) 0)
    where
      apart : j ≢ i
      apart n = omega (arith, one, ap (ahead m i) n, ahead-same m i i-in)

      ends : at cs j ≡ 0 → Gapped m (closed_up cs i j (suc f)) m mem
      ends z = rw (closed-free cs i j f z) (gap-closes m cs mem zeroless i j q i-in j-in apart z seen)

      goes : at cs j ≢ 0 → Gapped m (closed_up cs i j (suc f)) m mem
      goes z = go (leb (ahead m i j) (ahead m (home_of m (at cs j)) j)) refl
        where
          other : j ≢ e
          other n = z (ap (at cs) n ∙ free)

          nearer : suc (ahead m (next_cell m j) e) ≡ ahead m j e
          nearer = ahead-nearer m j e j-in e-in other

          sum : ahead m i j + ahead m j e ≡ ahead m i e
          sum = ahead-through m i j e i-in j-in e-in (inr upto)

          n-in : next_cell m j < m
          n-in = next-in m j j-in

          below : (a b : ℕ) → a < suc b → a ≢ b → a < b
          below a b h n = omega arith

          go : (b : Bool) → leb (ahead m i j) (ahead m (home_of m (at cs j)) j) ≡ b → Gapped m (closed_up cs i j (suc f)) m mem
          go true t =
              let one' : ahead m j (next_cell m j) ≡ 1 = ahead-next m j e j-in e-in other in
              rw (closed-moves m cs i j f q.long z t) (ih (set cs i (at cs j)) j (next_cell m j)
              (gap-moves m cs mem zeroless i j q i-in j-in apart z (leb-true _ _ t)) j-in n-in
              (at-else cs i e (at cs j) off ∙ free) (λ n. other (sym n))
              (omega (arith, one')) (omega (arith, one', nearer)) (omega (arith, less, nearer))
              (λ c l a b. absurd (omega (arith, a, b, one'))))
          go false t =
              let round : next_cell m j ≢ i = λ n. omega (arith, nearer, sum, ap (λ (k : ℕ). ahead m k e) n) in
              let step = ahead-farther m i j i-in j-in round in
              let not-over = leb-false _ _ t in
              rw (closed-passes m cs i j f q.long z t)
              (ih cs i (next_cell m j) q i-in n-in free off (omega (arith, step)) (omega (arith, step, sum, nearer))
              (omega (arith, less, nearer))
              (λ c l a b. ⊎_elim (λ n. rw n (z, not-over))
              (λ n. seen c l a (below (ahead m i c) (ahead m i j) (omega (arith, b, step)) (λ k. n (ahead-only m i c j i-in l j-in k))))
              (same-or-not c j)))

  pub closing : (f : ℕ) → Closes f
  closing zero cs i j q i-in j-in free off one upto less seen = absurd (omega arith)
  closing (suc f) cs i j q i-in j-in free off one upto less seen = one-more f (closing f) cs i j q i-in j-in free off one upto less seen

-- Without x the cells hold all others.
module _ (m : ℕ) (cs : Words) (mem : ℕ → Bool) (zeroless : mem 0 ≡ false) (long : length cs ≡ m) (s : SetOf cs mem) (e : ℕ) (e-in : e < m)
    (free : at cs e ≡ 0) (x : ℕ) (member : mem x ≡ true) where
  some : 0 < m
  some = omega arith

  real-x : x ≢ 0
  real-x = real mem zeroless x member

  held : holds cs x ≡ true
  held = s.found x member

  here : at cs (cell_for cs x) ≡ x
  here = holds-here cs x held

  p-in : cell_for cs x < m
  p-in = omega (arith, some-inside cs (cell_for cs x) (λ z. real-x (sym here ∙ z)), long)

  off : e ≢ cell_for cs x
  off n = real-x (sym here ∙ ap (at cs) (sym n) ∙ free)

  zeroless' : (not (eqb 0 x) && mem 0) ≡ false
  zeroless' = ap (λ (b : Bool). not (eqb 0 x) && b) zeroless ∙ no (not (eqb 0 x))
    where
      no : (b : Bool) → (b && false) ≡ false
      no true = refl
      no false = refl

  -- cells that hold a set, one of them free, hold the set without its member x once x is taken out
  pub without-set : SetOf (without cs x) (λ (y : ℕ). not (eqb y x) && mem y)
  unfolding without
  without-set =
      let p = cell_for cs x in
      let n = next_cell m p in
      let one : ahead m p n ≡ 1 = ahead-next m p e p-in e-in (λ z. off (sym z)) in
      let nearer = ahead-nearer m p e p-in e-in (λ z. off (sym z)) in
      rw (held, long) (gapped-set m _ (λ (y : ℕ). not (eqb y x) && mem y) some zeroless'
      (closing m (λ (y : ℕ). not (eqb y x) && mem y) zeroless' e e-in m cs p n
      (gap-opens m cs mem (set-gapped m cs mem some zeroless long s) x p real-x p-in here)
      p-in (next-in m p p-in) free off (omega (arith, one)) (omega (arith, one, nearer))
      (omega (arith, nearer, ahead-in m n e (next-in m p p-in) e-in))
      (λ c l a b. absurd (omega (arith, a, b, one)))))

-- ---- the cells are as many as before

pub closed-length : (f : ℕ) (cs : Words) (i j : ℕ) → length (closed_up cs i j f) ≡ length cs
unfolding closed_up
closed-length zero cs i j = length-set cs i 0
closed-length (suc f) cs i j =
    go (same-or-not (at cs j) 0) (leb (ahead (length cs) i j) (ahead (length cs) (home_of (length cs) (at cs j)) j)) refl (closed-length f)
  where
    go : (at cs j ≡ 0) ⊎ (at cs j ≢ 0) → (b : Bool) → leb (ahead (length cs) i j) (ahead (length cs) (home_of (length cs) (at cs j)) j) ≡ b
        → ((cs : Words) (i j : ℕ) → length (closed_up cs i j f) ≡ length cs) → length (closed_up cs i j (suc f)) ≡ length cs
    go (inl z) b e ih = rw (closed-free cs i j f z) (length-set cs i 0)
    go (inr z) true e ih =
        rw (closed-moves (length cs) cs i j f refl z e) (ih (set cs i (at cs j)) j (next_cell (length cs) j) ∙ length-set cs i (at cs j))
    go (inr z) false e ih = rw (closed-passes (length cs) cs i j f refl z e) (ih cs i (next_cell (length cs) j))

-- taking out a number keeps the number of cells
pub without-length : (cs : Words) (x : ℕ) → length (without cs x) ≡ length cs
unfolding without
without-length cs x = go (holds cs x)
  where
    go : (b : Bool) → length (cond b (closed_up cs (cell_for cs x) (next_cell (length cs) (cell_for cs x)) (length cs)) cs) ≡ length cs
    go true = closed-length (length cs) cs (cell_for cs x) (next_cell (length cs) (cell_for cs x))
    go false = refl
