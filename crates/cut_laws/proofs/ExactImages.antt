-- The images of a cut, on either dock, are exactly what the first orders leave, from the last flush up to the cut.
use Rattle.std.proofs.Common.{◌≡◌, ℕ, zero, suc, ◌<◌, ◌≤◌, ◌≢◌, ◌⊎◌, ◌↔◌, List, [], ◌∷◌, ◌++◌, length, get_or, take, drop, sym, refl, ap}
use Rattle.std.proofs.Common.{◌∙◌, inl, inr, arith, length-append, drop_of_length-le, length-take, take_all, take-suc}
use native.Mathlib.Decide.{ℕ_discrete, dec_lt}
use lib.Seq.{split_at, drop-append-le}
use Rattle.model.specs.Table.{Words, line}
use Rattle.model.specs.Orders.{Store, Order, store, flush, barrier, carry, orders_after, orders, barred, without_barriers, store_count}
use Rattle.model.specs.Orders.{flush_count}
use Rattle.model.specs.Cuts.{CutImage, since_flush, line_stores, later_stores}
use Rattle.model.specs.Judge.{AllFlushed}
use Rattle.cut_laws.proofs.Applying.{flush_count-append}
use Rattle.cut_laws.proofs.FlushRule.{after-same, after-other}
use Rattle.cut_laws.proofs.Barriers.{without-append}
use Rattle.cut_laws.proofs.Unflushed.{orders-flushed}
use Rattle.cut_laws.proofs.Images.{flushed-image, cut-barrier, cut-store, cut-past}
use Rattle.cut_laws.proofs.Docks.{later-without, barred-images, list-without, list-one-line}
use Rattle.cut_laws.proofs.Cuts.{prefix-is-image}

module _ (l : ℕ) (s : Store) (ss : List Store) (b : List Order) (k : ℕ) where
  abbrev ToFlush : ℕ → Type 0
  ToFlush d = (a : List Order) → orders_after d ss ≡ a ++ (flush k ∷ b) → a ++ (flush k ∷ []) ≡ orders_after d (take (store_count a) ss)

  to-flush-same : line s.word ≡ l → ToFlush l → (a : List Order) → store s ∷ orders_after l ss ≡ a ++ (flush k ∷ b) → a ++ (flush k ∷ [])
      ≡ orders_after l (take (store_count a) (s ∷ ss))
  unfolding store_count
  to-flush-same n ih [] e = absurd (let z : ◌≡◌ {A = ℕ} 0 1 = cc in omega arith)
  to-flush-same n ih (barrier ∷ a) e = absurd (let z : ◌≡◌ {A = ℕ} 0 1 = cc in omega arith)
  to-flush-same n ih (flush j ∷ a) e = absurd (let z : ◌≡◌ {A = ℕ} 0 1 = cc in omega arith)
  to-flush-same n ih (store x ∷ a) e =
      let p : x ≡ s = cc in
      let q : orders_after l ss ≡ a ++ (flush k ∷ b) = cc in
      rw (after-same l s (take (store_count a) ss) n, p, ih a q)

  to-flush-other : line s.word ≢ l → ToFlush (line s.word) → (a : List Order) → flush l ∷ store s ∷ orders_after (line s.word) ss ≡ a
      ++ (flush k ∷ b) → a ++ (flush k ∷ []) ≡ orders_after l (take (store_count a) (s ∷ ss))
  unfolding store_count orders_after
  to-flush-other n ih [] e = let z : k ≡ l = cc in rw z
  to-flush-other n ih (store x ∷ a) e = absurd (let z : ◌≡◌ {A = ℕ} 0 1 = cc in omega arith)
  to-flush-other n ih (barrier ∷ a) e = absurd (let z : ◌≡◌ {A = ℕ} 0 1 = cc in omega arith)
  to-flush-other n ih (flush j ∷ barrier ∷ a) e = absurd (let z : ◌≡◌ {A = ℕ} 0 1 = cc in omega arith)
  to-flush-other n ih (flush j ∷ []) e = absurd (let z : ◌≡◌ {A = ℕ} 0 1 = cc in omega arith)
  to-flush-other n ih (flush j ∷ flush i ∷ a) e = absurd (let z : ◌≡◌ {A = ℕ} 0 1 = cc in omega arith)
  to-flush-other n ih (flush j ∷ store x ∷ a) e =
      let p : x ≡ s = cc in
      let r : j ≡ l = cc in
      let q : orders_after (line s.word) ss ≡ a ++ (flush k ∷ b) = cc in
      rw (after-other l s (take (store_count a) ss) n, p, r, ih a q)

after-to-flush : (l : ℕ) (ss : List Store) (b : List Order) (k : ℕ) (a : List Order) → orders_after l ss ≡ a ++ (flush k ∷ b) → a
    ++ (flush k ∷ []) ≡ orders_after l (take (store_count a) ss)
unfolding orders_after store_count
after-to-flush l [] b k [] e = let z : l ≡ k = cc in rw z
after-to-flush l [] b k (o ∷ a) e = absurd (omega (arith, simp length-append at (ap length e)))
after-to-flush l (s ∷ ss) b k a e = go (ℕ_discrete (line s.word) l) (λ d. after-to-flush d ss b k)
  where
    go : Dec (line s.word ≡ l) → ((d : ℕ) → ToFlush l s ss b k d) → a ++ (flush k ∷ []) ≡ orders_after l (take (store_count a) (s ∷ ss))
    go (yes n) ih = to-flush-same l s ss b k n (ih l) a (sym (after-same l s ss n) ∙ e)
    go (no n) ih = to-flush-other l s ss b k n (ih (line s.word)) a (sym (after-other l s ss n) ∙ e)

-- The orders up to a flush are those of the stores before it.
pub orders-to-flush :
    (ss : List Store) (a b : List Order) (k : ℕ) → orders ss ≡ a ++ (flush k ∷ b) → a ++ (flush k ∷ []) ≡ orders (take (store_count a) ss)
unfolding orders store_count
orders-to-flush [] a b k e = absurd (omega (arith, simp length-append at (ap length e)))
orders-to-flush (s ∷ ss) [] b k e = absurd (let z : ◌≡◌ {A = ℕ} 0 1 = cc in omega arith)
orders-to-flush (s ∷ ss) (flush j ∷ a) b k e = absurd (let z : ◌≡◌ {A = ℕ} 0 1 = cc in omega arith)
orders-to-flush (s ∷ ss) (barrier ∷ a) b k e = absurd (let z : ◌≡◌ {A = ℕ} 0 1 = cc in omega arith)
orders-to-flush (s ∷ ss) (store x ∷ a) b k e =
    let p : x ≡ s = cc in
    let q : orders_after (line s.word) ss ≡ a ++ (flush k ∷ b) = cc in
    rw (p, after-to-flush (line s.word) ss b k a q)

-- ---- images

module _ (dock : ℕ) (ss : List Store) (t : Words) where
  abbrev list : List Order
  list = barred dock (orders ss)

  -- what the first j orders leave, where no flush lies between j and c
  abbrev pub SinceFlush : ℕ → Words → Type 0
  SinceFlush c m = (j : ℕ) × (j ≤ c) × (flush_count (drop j (take c (barred dock (orders ss)))) ≡ 0)
      × (m ≡ carry (take j (barred dock (orders ss))) t)

  at-cut : (c : ℕ) (m : Words) → m ≡ carry (take c list) t → SinceFlush c m
  unfolding flush_count
  at-cut c m e = (c, omega arith, rw (drop_of_length-le (take c list) {i = c} (simp length-take (omega arith))) refl, e)

  -- up to a flush all is flushed
  to-flush : (c k : ℕ) → c < length list → get_or list c (flush 0) ≡ flush k → AllFlushed (take (suc c) list)
  unfolding without_barriers
  to-flush c k h e l =
      let a = without_barriers (take c list) in
      let first : without_barriers (take (suc c) list) ≡ a ++ (flush k ∷ []) =
      rw (take-suc list c (flush 0) h, e) (without-append (take c list) (flush k ∷ [])) in
      let all : orders ss ≡ a ++ (flush k ∷ without_barriers (drop (suc c) list)) =
      sym (list-without dock ss) ∙ ap without_barriers (split_at list c (flush 0) h)
      ∙ rw e (without-append (take c list) (flush k ∷ drop (suc c) list)) in
      sym (later-without l (take (suc c) list))
      ∙ ap (later_stores l) (first ∙ orders-to-flush ss a (without_barriers (drop (suc c) list)) k all)
      ∙ orders-flushed (take (store_count a) ss) l

  -- an order that leaves no new image
  none-new : (c : ℕ) (o : Order) (m : Words) → flush_count (o ∷ []) ≡ 0 → take (suc c) list ≡ take c list ++ (o ∷ []) → c < length list
      → SinceFlush c m → SinceFlush (suc c) m
  none-new c o m z e h (j, b, f, q) = (
    j,
    omega arith,
    rw (e, drop-append-le j (take c list) (o ∷ []) (simp length-take (omega arith)), flush_count-append) (omega arith),
    q,
  )

  since-more : (c : ℕ) → c < length list → ((m : Words) → CutImage 0 c t list m → SinceFlush c m) → (o : Order) → get_or list c (flush 0)
      ≡ o → (m : Words) → CutImage 0 (suc c) t list m → SinceFlush (suc c) m
  unfolding flush_count
  since-more c h ih (flush k) e m i = at-cut (suc c) m (flushed-image (take (suc c) list) t m (to-flush c k h e) i)
  since-more c h ih barrier e m i = let n =
      rw e at (take-suc list c (flush 0) h) in none-new c barrier m refl n h (ih m (cut-barrier list t c m n i))
  since-more c h ih (store s) e m i = go (cut-store list t c s m (list-one-line dock ss) snoc i)
    where
      snoc : take (suc c) list ≡ take c list ++ (store s ∷ [])
      snoc = rw e at (take-suc list c (flush 0) h)

      go : CutImage 0 c t list m ⊎ (m ≡ carry (take (suc c) list) t) → SinceFlush (suc c) m
      go (inl a) = none-new c (store s) m refl snoc h (ih m a)
      go (inr q) = at-cut (suc c) m q

  image-since-flush : (c : ℕ) (m : Words) → CutImage 0 c t list m → SinceFlush c m
  unfolding since_flush line_stores
  image-since-flush zero m i = at-cut 0 m (flushed-image [] t m (λ l. refl) i)
  image-since-flush (suc c) m i = go (dec_lt c (length list)) (image-since-flush c)
    where
      go : Dec (c < length list) → ((m : Words) → CutImage 0 c t list m → SinceFlush c m) → SinceFlush (suc c) m
      go (yes h) ih = since-more c h ih (get_or list c (flush 0)) refl m i
      go (no k) ih = let (j, b, f, q) =
          ih m (cut-past list t c m (omega arith) i) in
          (j, omega arith, rw (take_all (suc c) list (omega arith)) (rw (take_all c list (omega arith)) at f), q)

-- An image of a cut after c orders is what the first j of them leave, no flush between j and c; and each of these is one.
pub cut-images : (dock : ℕ) (ss : List Store) (t : Words) (c : ℕ) (m : Words)
    → CutImage dock c t (barred dock (orders ss)) m ↔ SinceFlush dock ss t c m
cut-images dock ss t c m = (
  λ i. image-since-flush dock ss t c m ((barred-images dock c t (orders ss) m).0 i),
  λ u. let (j, h, f, e) = u in rw e (prefix-is-image dock ss t j c h f),
)
