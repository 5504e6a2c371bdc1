-- Cells that go round: how far one comes after another.
use Rattle.std.proofs.Common.{◌≡◌, ℕ, suc, ◌+◌, ◌-◌, ◌<◌, ◌≤◌, Bool, true, false, cond, eqb, leb, ◌≢◌, ◌⊎◌, refl, ap, ◌∙◌, inl, inr, arith}
use Rattle.std.proofs.Common.{eqb-true, leb-false, leb-true}
use borrow.Author.Tests.{eqb-false}
use Rattle.model.specs.Cells.{next_cell, ahead}

-- j comes d after i
abbrev pub Around : (m i j d : ℕ) → Type 0
Around m i j d = ((i ≤ j) × (i + d ≡ j)) ⊎ ((j < i) × (i + d ≡ j + m))

pub around : (m i j : ℕ) → i < m → Around m i j (ahead m i j)
unfolding ahead
around m i j h = go (leb i j) refl
  where
    go : (b : Bool) → leb i j ≡ b → Around m i j (cond (leb i j) (j - i) (j + m - i))
    go true e = let q = leb-true i j e in rw e (inl (q, omega arith))
    go false e = let q = leb-false i j e in rw e (inr (q, omega arith))

-- the cell after i
abbrev pub Next : (m i n : ℕ) → Type 0
Next m i n = ((i + 1 ≡ m) × (n ≡ 0)) ⊎ ((i + 1 ≢ m) × (n ≡ i + 1))

pub next : (m i : ℕ) → Next m i (next_cell m i)
unfolding next_cell
next m i = go (eqb (i + 1) m) refl
  where
    go : (b : Bool) → eqb (i + 1) m ≡ b → Next m i (cond (eqb (i + 1) m) 0 (i + 1))
    go true e = rw e (inl (eqb-true (i + 1) m e, refl))
    go false e = rw e (inr (eqb-false (i + 1) m e, refl))

-- numbers says so too, for its own walk: of the two crates neither rests on the other
pub next-in : (m i : ℕ) → i < m → next_cell m i < m
next-in m i h = go (next_cell m i) (next m i)
  where
    go : (n : ℕ) → Next m i n → n < m
    go n (inl a) = let x = a.1 in omega arith
    go n (inr a) = let x = a.1 in let y = a.0 in omega arith

module _ (m : ℕ) where
  pub ahead-in : (i j : ℕ) → i < m → j < m → ahead m i j < m
  ahead-in i j h l = go (ahead m i j) (around m i j h)
    where
      go : (d : ℕ) → Around m i j d → d < m
      go d (inl a) = let x = a.1 in omega arith
      go d (inr a) = let x = a.1 in let y = a.0 in omega arith

  pub ahead-zero : (i j : ℕ) → i < m → j < m → ahead m i j ≡ 0 → i ≡ j
  ahead-zero i j h l e = go (ahead m i j) (around m i j h) e
    where
      go : (d : ℕ) → Around m i j d → d ≡ 0 → i ≡ j
      go d (inl a) z = let x = a.1 in omega arith
      go d (inr a) z = let x = a.1 in let y = a.0 in omega arith

  pub ahead-same : (i : ℕ) → i < m → ahead m i i ≡ 0
  ahead-same i h = go (ahead m i i) (around m i i h)
    where
      go : (d : ℕ) → Around m i i d → d ≡ 0
      go d (inl a) = let x = a.1 in omega arith
      go d (inr a) = let y = a.0 in absurd (omega arith)

  -- two cells as far after i are one
  pub ahead-only : (i j k : ℕ) → i < m → j < m → k < m → ahead m i j ≡ ahead m i k → j ≡ k
  ahead-only i j k h l q e = go (ahead m i j) (ahead m i k) (around m i j h) (around m i k h) e
    where
      go : (d c : ℕ) → Around m i j d → Around m i k c → d ≡ c → j ≡ k
      go d c (inl a) (inl b) z = let x = a.1 in let y = b.1 in omega arith
      go d c (inl a) (inr b) z = let x = a.1 in let y = b.1 in omega arith
      go d c (inr a) (inl b) z = let x = a.1 in let y = b.1 in omega arith
      go d c (inr a) (inr b) z = let x = a.1 in let y = b.1 in omega arith

  -- one step nearer to f
  pub ahead-nearer : (j f : ℕ) → j < m → f < m → j ≢ f → suc (ahead m (next_cell m j) f) ≡ ahead m j f
  ahead-nearer j f h l z = go (next_cell m j) (next m j) (ahead m j f) (around m j f h) (λ n i. around m n f i)
    where
      step : (n c d : ℕ) → Next m j n → Around m j f c → Around m n f d → suc d ≡ c
      step n c d (inl q) (inl a) (inl b) = let x = a.1 in let y = b.1 in let u = q.0 in let w = q.1 in let o =
          a.0 in let v = b.0 in omega arith
      step n c d (inl q) (inl a) (inr b) = let v = b.0 in let w = q.1 in absurd (omega arith)
      step n c d (inl q) (inr a) (inl b) = let x = a.1 in let y = b.1 in let u = q.0 in let w = q.1 in let o =
          a.0 in let v = b.0 in omega arith
      step n c d (inl q) (inr a) (inr b) = let v = b.0 in let w = q.1 in absurd (omega arith)
      step n c d (inr q) (inl a) (inl b) = let x = a.1 in let y = b.1 in let u = q.0 in let w = q.1 in let o =
          a.0 in let v = b.0 in omega arith
      step n c d (inr q) (inl a) (inr b) = let x = a.1 in let y = b.1 in let u = q.0 in let w = q.1 in let o = a.0 in let v =
          b.0 in absurd (z (omega arith))
      step n c d (inr q) (inr a) (inl b) = let x = a.1 in let y = b.1 in let u = q.0 in let w = q.1 in let o = a.0 in let v =
          b.0 in absurd (omega arith)
      step n c d (inr q) (inr a) (inr b) = let x = a.1 in let y = b.1 in let u = q.0 in let w = q.1 in let o =
          a.0 in let v = b.0 in omega arith

      go : (n : ℕ) → Next m j n → (c : ℕ) → Around m j f c → ((n : ℕ) → n < m → Around m n f (ahead m n f))
          → suc (ahead m (next_cell m j) f) ≡ c
      go n q c a b = step (next_cell m j) c (ahead m (next_cell m j) f) (next m j) a (b (next_cell m j) (next-in m j h))

  -- one step farther from i
  pub ahead-farther : (i j : ℕ) → i < m → j < m → next_cell m j ≢ i → ahead m i (next_cell m j) ≡ suc (ahead m i j)
  ahead-farther i j h l z =
      go (next_cell m j) (next m j) z (ahead m i j) (around m i j h) (ahead m i (next_cell m j)) (around m i (next_cell m j) h)
    where
      go : (n : ℕ) → Next m j n → n ≢ i → (c : ℕ) → Around m i j c → (d : ℕ) → Around m i n d → d ≡ suc c
      go n (inl q) o c (inl a) d (inl b) = let x = a.1 in let y = b.1 in let u = q.0 in let w = q.1 in let s = a.0 in let v =
          b.0 in absurd (o (omega arith))
      go n (inl q) o c (inl a) d (inr b) = let x = a.1 in let y = b.1 in let u = q.0 in let w = q.1 in let s =
          a.0 in let v = b.0 in omega arith
      go n (inl q) o c (inr a) d (inl b) = let x = a.1 in let y = b.1 in let u = q.0 in let w = q.1 in let s = a.0 in let v =
          b.0 in absurd (omega arith)
      go n (inl q) o c (inr a) d (inr b) = let x = a.1 in let y = b.1 in let u = q.0 in let w = q.1 in let s = a.0 in let v =
          b.0 in absurd (omega arith)
      go n (inr q) o c (inl a) d (inl b) = let x = a.1 in let y = b.1 in let u = q.0 in let w = q.1 in let s =
          a.0 in let v = b.0 in omega arith
      go n (inr q) o c (inl a) d (inr b) = let x = a.1 in let y = b.1 in let u = q.0 in let w = q.1 in let s = a.0 in let v =
          b.0 in absurd (omega arith)
      go n (inr q) o c (inr a) d (inl b) = let x = a.1 in let y = b.1 in let u = q.0 in let w = q.1 in let s = a.0 in let v =
          b.0 in absurd (o (omega arith))
      go n (inr q) o c (inr a) d (inr b) = let x = a.1 in let y = b.1 in let u = q.0 in let w = q.1 in let s =
          a.0 in let v = b.0 in omega arith

  -- on the way from h to j: i, if it is no farther before j than h is, or if it comes after h no later than j does
  pub ahead-through : (h i j : ℕ) → h < m → i < m → j < m → (ahead m i j ≤ ahead m h j) ⊎ (ahead m h i ≤ ahead m h j)
      → ahead m h i + ahead m i j ≡ ahead m h j
  ahead-through h i j a b c e = go (ahead m h i) (ahead m i j) (ahead m h j) (around m h i a) (around m i j b) (around m h j a) e
    where
      go : (x y z : ℕ) → Around m h i x → Around m i j y → Around m h j z → (y ≤ z) ⊎ (x ≤ z) → x + y ≡ z
      go x y z (inl p) (inl q) (inl r) s = let k = p.1 in let l = q.1 in let n = r.1 in omega arith
      go x y z (inl p) (inl q) (inr r) s = let k = p.1 in let l = q.1 in let n = r.0 in absurd (omega arith)
      go x y z (inl p) (inr q) (inl r) s = let k = p.1 in let l = q.1 in let n = r.1 in let o = p.0 in let u = q.0 in let w =
          r.0 in over x y z k l n s
        where
          over : (x y z : ℕ) → h + x ≡ i → i + y ≡ j + m → h + z ≡ j → (y ≤ z) ⊎ (x ≤ z) → x + y ≡ z
          over x y z k l n (inl s) = absurd (omega (arith, a, b, c, q.0, p.0, r.0))
          over x y z k l n (inr s) = absurd (omega (arith, a, b, c, q.0, p.0, r.0))
      go x y z (inl p) (inr q) (inr r) s = let k = p.1 in let l = q.1 in let n = r.1 in omega arith
      go x y z (inr p) (inl q) (inl r) s = over2 x y z p.1 q.1 r.1 s
        where
          over2 : (x y z : ℕ) → h + x ≡ i + m → i + y ≡ j → h + z ≡ j → (y ≤ z) ⊎ (x ≤ z) → x + y ≡ z
          over2 x y z k l n (inl s) = absurd (omega (arith, a, b, c, q.0, p.0, r.0))
          over2 x y z k l n (inr s) = absurd (omega (arith, a, b, c, q.0, p.0, r.0))
      go x y z (inr p) (inl q) (inr r) s = let k = p.1 in let l = q.1 in let n = r.1 in omega arith
      go x y z (inr p) (inr q) (inl r) s = let k = p.0 in let l = q.0 in let n = r.0 in absurd (omega arith)
      go x y z (inr p) (inr q) (inr r) s = over3 x y z p.1 q.1 r.1 s
        where
          over3 : (x y z : ℕ) → h + x ≡ i + m → i + y ≡ j + m → h + z ≡ j + m → (y ≤ z) ⊎ (x ≤ z) → x + y ≡ z
          over3 x y z k l n (inl s) = absurd (omega (arith, a, b, c, q.0, p.0, r.0))
          over3 x y z k l n (inr s) = absurd (omega (arith, a, b, c, q.0, p.0, r.0))

  pub ahead-add : (h i j : ℕ) → h < m → i < m → j < m → ahead m h i + ahead m i j < m → ahead m h j ≡ ahead m h i + ahead m i j
  ahead-add h i j a b c e = go (ahead m h i) (ahead m i j) (ahead m h j) (around m h i a) (around m i j b) (around m h j a) e
    where
      go : (x y z : ℕ) → Around m h i x → Around m i j y → Around m h j z → x + y < m → z ≡ x + y
      go x y z (inl p) (inl q) (inl r) s = let k = p.1 in let l = q.1 in let n = r.1 in omega arith
      go x y z (inl p) (inl q) (inr r) s = let k = p.1 in let l = q.1 in let n = r.1 in let o = r.0 in omega arith
      go x y z (inl p) (inr q) (inl r) s = let k = p.1 in let l = q.1 in let n = r.1 in let o = r.0 in omega arith
      go x y z (inl p) (inr q) (inr r) s = let k = p.1 in let l = q.1 in let n = r.1 in omega arith
      go x y z (inr p) (inl q) (inl r) s = let k = p.1 in let l = q.1 in let n = r.1 in let o = r.0 in omega arith
      go x y z (inr p) (inl q) (inr r) s = let k = p.1 in let l = q.1 in let n = r.1 in omega arith
      go x y z (inr p) (inr q) (inl r) s = let k = p.1 in let l = q.1 in let n = r.1 in omega arith
      go x y z (inr p) (inr q) (inr r) s = let k = p.1 in let l = q.1 in let n = r.1 in omega arith

  -- the next cell is another one, where there are two
  pub next-other : (i e : ℕ) → i < m → e < m → i ≢ e → next_cell m i ≢ i
  next-other i e h l z = go (next_cell m i) (next m i)
    where
      go : (n : ℕ) → Next m i n → n ≢ i
      go n (inl q) y = let u = q.0 in let w = q.1 in z (omega arith)
      go n (inr q) y = let w = q.1 in omega arith

  pub ahead-next : (i e : ℕ) → i < m → e < m → i ≢ e → ahead m i (next_cell m i) ≡ 1
  ahead-next i e h l z = ahead-farther i i h h (next-other i e h l z) ∙ ap suc (ahead-same i h)
