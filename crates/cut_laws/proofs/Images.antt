-- What a cut may leave on dock 0, for any orders of which no two lines ever hold unflushed stores: what some first part of them leaves.
use Rattle.std.proofs.Common.{◌≡◌, ℕ, zero, suc, ◌<◌, ◌≤◌, Bool, true, false, cond, ◌≢◌, ◌⊎◌, List, [], ◌∷◌, ◌++◌, length, get_or, take}
use Rattle.std.proofs.Common.{drop, sym, refl, ap, ◌∙◌, inl, inr, append-nil, arith, length-append, take-append-drop, take_all, take-suc}
use Rattle.std.proofs.Common.{take-take, ext_get_or}
use native.Mathlib.Decide.{ℕ_discrete, dec_le, dec_lt}
use lib.Seq.{take-nil, take-length, take-append-le, take-append_seam}
use Rattle.model.specs.Table.{Words, line}
use Rattle.model.specs.Orders.{Store, Order, store, flush, barrier, carry, flush_count}
use Rattle.model.specs.Cuts.{flushed, up_to_flush, since_flush, line_stores, later_stores, Holds, Image, CutImage}
use Rattle.model.specs.Judge.{AllFlushed}
use Rattle.cut_laws.specs.Unflushed.{OneLine}
use Rattle.cut_laws.proofs.Applying.{length-carry, carry-append, apply-nil}
use Rattle.cut_laws.proofs.LastFlush.{no-flush, up_to_flush-after, up_to_flush-before, later_stores-after, later_stores-before, flush-alone}
use Rattle.cut_laws.proofs.LastFlush.{same-end, other-end, line-current}

-- ---- each line by how many of its later stores it has: only these two read what may arrive

abbrev HoldsFirst : Words → List Order → Words → ℕ → ℕ → Type 0
HoldsFirst t os m l n = Holds t os m l (take n (later_stores l os))

first-parts : {t : Words} {os : List Order} {m : Words} → Image 0 t os m → (l : ℕ) → (n : ℕ) × HoldsFirst t os m l n
first-parts i l = let (part, (n, e), h) = i.lines l in (n, λ w q. rw (← e) (h w q))

by-first-parts : (t : Words) (os : List Order) (m : Words) → length m ≡ length t
    → ((l : ℕ) → (n : ℕ) × HoldsFirst t os m l n) → Image 0 t os m
by-first-parts t os m e f = record { long = e; lines = λ l. (take (f l).0 (later_stores l os), ((f l).0, refl), (f l).1) }

-- ---- all the later stores

-- where no flush follows, what a first part of the orders leaves is an image of all
pub first-part-image : (a b : List Order) (t : Words) → flush_count b ≡ 0 → Image 0 t (a ++ b) (carry a t)
first-part-image a b t e =
    by-first-parts t (a ++ b) (carry a t) (length-carry a t)
    (λ l. (
      length (later_stores l a),
      λ w q. rw (
        up_to_flush-before l b (no-flush l b e) a,
        later_stores-before l b (no-flush l b e) a,
        take-append_seam (later_stores l a) (later_stores l b),
      ) (rw q at (sym (line-current a t w))),
    ))

-- what the orders leave is an image
pub carry-image : (os : List Order) (t : Words) → Image 0 t os (carry os t)
unfolding flush_count
carry-image os t = rw append-nil at (first-part-image os [] t refl)

-- where each line has all its later stores, the image is what the orders leave
image-full : (os : List Order) (t m : Words) (i : Image 0 t os m)
    → ((l : ℕ) → take (first-parts i l).0 (later_stores l os) ≡ later_stores l os) → m ≡ carry os t
image-full os t m i a =
    ext_get_or 0 m (carry os t) (i.long ∙ sym (length-carry os t))
    (λ w h. rw (a (line w)) at ((first-parts i (line w)).1 w refl) ∙ line-current os t w)

-- Where no store is unflushed there is one image: what the orders leave.
pub flushed-image : (os : List Order) (t m : Words) → AllFlushed os → Image 0 t os m → m ≡ carry os t
flushed-image os t m a i = image-full os t m i (λ l. rw (a l) (take-nil (first-parts i l).0))

-- ---- one order more

carry-one-flush : (l k : ℕ) (t : Words) → carry (up_to_flush l (flush k ∷ [])) t ≡ t
unfolding up_to_flush carry
carry-one-flush l k t = elim (flushed l (flush k ∷ [])) as (λ b. carry (cond b (flush k ∷ []) []) t ≡ t) [ true ↦ refl | false ↦ refl ]

-- a flush leaves no new image
flush-fewer : (os : List Order) (k : ℕ) (t m : Words) → Image 0 t (os ++ (flush k ∷ [])) m → Image 0 t os m
flush-fewer os k t m i = by-first-parts t os m i.long (λ l. go l (flushed l (flush k ∷ [])) refl)
  where
    go : (l : ℕ) (b : Bool) → flushed l (flush k ∷ []) ≡ b → (n : ℕ) × HoldsFirst t os m l n
    go l true e = (
      length (later_stores l os),
      λ w h. rw (
        up_to_flush-after l (flush k ∷ []) e os,
        later_stores-after l (flush k ∷ []) e os,
        flush-alone l k,
        take-nil,
        apply-nil,
        carry-append,
        carry-one-flush,
      ) at ((first-parts i l).1 w h)
          ∙ rw take-length (rw h at (sym (line-current os t w))),
    )
    go l false e = (
      (first-parts i l).0,
      λ w h. rw (up_to_flush-before l (flush k ∷ []) e os, later_stores-before l (flush k ∷ []) e os, flush-alone l k, append-nil) at
          ((first-parts i l).1 w h),
    )

-- nor does a barrier
barrier-fewer : (os : List Order) (t m : Words) → Image 0 t (os ++ (barrier ∷ [])) m → Image 0 t os m
unfolding since_flush line_stores flushed
barrier-fewer os t m i =
    by-first-parts t os m i.long
    (λ l. (
      (first-parts i l).0,
      λ w h. rw (up_to_flush-before l (barrier ∷ []) refl os, later_stores-before l (barrier ∷ []) refl os, append-nil) at
          ((first-parts i l).1 w h),
    ))

-- a store to the one line that may hold unflushed ones leaves one image more
store-more : (os : List Order) (s : Store) (t m : Words) → ((l : ℕ) → l ≢ line s.word → later_stores l os ≡ [])
    → Image 0 t (os ++ (store s ∷ [])) m → Image 0 t os m ⊎ (m ≡ carry (os ++ (store s ∷ [])) t)
unfolding flushed
store-more os s t m a i = go (dec_le n (length (later_stores d os)))
  where
    d : ℕ
    d = line s.word

    n : ℕ
    n = (first-parts i d).0

    holds : n ≤ length (later_stores d os) → (l : ℕ) → Dec (l ≡ d) → (n : ℕ) × HoldsFirst t os m l n
    holds h l (yes q) =
        rw q (
          n,
          λ w e. rw (up_to_flush-before d (store s ∷ []) refl os, same-end os s, take-append-le n (later_stores d os) (s ∷ []) h) at
              ((first-parts i d).1 w e),
        )
    holds h l (no k) =
        ((first-parts i l).0, λ w e. rw (up_to_flush-before l (store s ∷ []) refl os, other-end os s l k) at ((first-parts i l).1 w e))

    full : length (later_stores d os) < n → (l : ℕ) → Dec (l ≡ d) → take (first-parts i l).0 (later_stores l (os ++ (store s ∷ [])))
        ≡ later_stores l (os ++ (store s ∷ []))
    full h l (yes q) = rw (q, same-end os s) (take_all n (later_stores d os ++ (s ∷ [])) (simp length-append (omega arith)))
    full h l (no k) = rw (other-end os s l k, a l k) (take-nil (first-parts i l).0)

    go : Dec (n ≤ length (later_stores d os)) → Image 0 t os m ⊎ (m ≡ carry (os ++ (store s ∷ [])) t)
    go (yes h) = inl (by-first-parts t os m i.long (λ l. holds h l (ℕ_discrete l d)))
    go (no k) = inr (image-full (os ++ (store s ∷ [])) t m i (λ l. full (omega arith) l (ℕ_discrete l d)))

snoc-not-nil : {A : Type 0} (p : List A) (x : A) → p ++ (x ∷ []) ≢ []
snoc-not-nil p x e = omega (arith, simp length-append at (ap length e))

-- ---- every number of orders

module _ (os : List Order) (t : Words) (c : ℕ) where
  pub cut-flush : (k : ℕ) (m : Words) → take (suc c) os ≡ take c os ++ (flush k ∷ []) → CutImage 0 (suc c) t os m → CutImage 0 c t os m
  cut-flush k m e i = flush-fewer (take c os) k t m (rw e at i)

  pub cut-barrier : (m : Words) → take (suc c) os ≡ take c os ++ (barrier ∷ []) → CutImage 0 (suc c) t os m → CutImage 0 c t os m
  cut-barrier m e i = barrier-fewer (take c os) t m (rw e at i)

  pub cut-store : (s : Store) (m : Words) → OneLine os → take (suc c) os ≡ take c os ++ (store s ∷ []) → CutImage 0 (suc c) t os m
      → CutImage 0 c t os m ⊎ (m ≡ carry (take (suc c) os) t)
  cut-store s m one e i = rw e (store-more (take c os) s t m clean (rw e at i))
    where
      clean : (l : ℕ) → l ≢ line s.word → later_stores l (take c os) ≡ []
      clean l k =
          elim (one (suc c) l (line s.word) k) [
            | inl a ↦ rw (e, other-end (take c os) s l k) at a
            | inr a ↦ absurd (snoc-not-nil (later_stores (line s.word) (take c os)) s (rw (e, same-end (take c os) s) at a))
          ]

-- a cut past the end is a cut at the end
pub cut-past : (os : List Order) (t : Words) (c : ℕ) (m : Words) → length os ≤ c → CutImage 0 (suc c) t os m → CutImage 0 c t os m
cut-past os t c m h i = rw (take_all (suc c) os (omega arith), ← (take_all c os h)) at i

module _ (os : List Order) (t : Words) (one : OneLine os) where
  abbrev Prefix : ℕ → Words → Type 0
  Prefix c m = (j : ℕ) × (j ≤ c) × (m ≡ carry (take j os) t)

  one-more : (c : ℕ) → ((m : Words) → CutImage 0 c t os m → Prefix c m) → (o : Order) → take (suc c) os ≡ take c os ++ (o ∷ [])
      → (m : Words) → CutImage 0 (suc c) t os m → Prefix (suc c) m
  one-more c ih (flush k) e m i = let (j, h, q) = ih m (cut-flush os t c k m e i) in (j, omega arith, q)
  one-more c ih barrier e m i = let (j, h, q) = ih m (cut-barrier os t c m e i) in (j, omega arith, q)
  one-more c ih (store s) e m i = go (cut-store os t c s m one e i)
    where
      go : CutImage 0 c t os m ⊎ (m ≡ carry (take (suc c) os) t) → Prefix (suc c) m
      go (inl a) = let (j, h, q) = ih m a in (j, omega arith, q)
      go (inr q) = (suc c, omega arith, q)

  -- A cut leaves what some first part of the orders leaves.
  pub cut-prefix : (c : ℕ) (m : Words) → CutImage 0 c t os m → (j : ℕ) × (j ≤ c) × (m ≡ carry (take j os) t)
  unfolding since_flush line_stores
  cut-prefix zero m i = (0, omega arith, flushed-image [] t m (λ l. refl) i)
  cut-prefix (suc c) m i = go (dec_lt c (length os)) (cut-prefix c)
    where
      go : Dec (c < length os) → ((m : Words) → CutImage 0 c t os m → Prefix c m) → Prefix (suc c) m
      go (yes h) ih = one-more c ih (get_or os c (flush 0)) (take-suc os c (flush 0) h) m i
      go (no k) ih = let (j, h, q) = ih m (cut-past os t c m (omega arith) i) in (j, omega arith, q)

-- ---- the other way

-- What the first j orders leave is an image of the cut after c, if no flush lies between.
pub prefix-cut : (os : List Order) (t : Words) (j c : ℕ) → j ≤ c → flush_count (drop j (take c os)) ≡ 0
    → CutImage 0 c t os (carry (take j os) t)
prefix-cut os t j c h e =
    rw (take-append-drop j (take c os), take-take j c os h) at (first-part-image (take j (take c os)) (drop j (take c os)) t e)
