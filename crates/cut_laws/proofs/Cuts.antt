-- Cuts of a write's list on either dock: each image is what a first part of its stores leaves, and every cut has one. Nothing is assumed of
-- the stores.
use Rattle.std.proofs.Common.{◌≡◌, ℕ, zero, suc, ◌≤◌, ◌↔◌, List, [], ◌∷◌, length, take, drop, sym, refl, ap, ◌∙◌, arith, take_all}
use lib.Seq.{take-nil}
use Rattle.model.specs.Table.{Words}
use Rattle.model.specs.Orders.{Store, Order, store, flush, barrier, apply, carry, orders, barred, store_count, flush_count}
use Rattle.model.specs.Cuts.{CutImage}
use Rattle.cut_laws.specs.Unflushed.{stores_in}
use Rattle.cut_laws.proofs.Applying.{carry-nil, carry-stores, stores_in-take, store_count-take-le}
use Rattle.cut_laws.proofs.Images.{carry-image, flushed-image, cut-prefix, prefix-cut}
use Rattle.cut_laws.proofs.Docks.{barred-images, list-one-line, list-flushed, list-stores, list-apply}

-- each first part of the stores is what some first orders leave
stores-take : (i : ℕ) (os : List Order) → (c : ℕ) × (stores_in (take c os) ≡ take i (stores_in os))
unfolding stores_in
stores-take i [] = (0, sym (take-nil i))
stores-take zero (store s ∷ os) = (0, refl)
stores-take (suc i) (store s ∷ os) = let (c, e) = stores-take i os in (suc c, ap (λ q. s ∷ q) e)
stores-take i (flush l ∷ os) = let (c, e) = stores-take i os in (suc c, e)
stores-take i (barrier ∷ os) = let (c, e) = stores-take i os in (suc c, e)

module _ (dock : ℕ) (ss : List Store) where
  abbrev list : List Order
  list = barred dock (orders ss)

  -- ---- an image is a first part

  -- An image of a cut after c orders is what the first j of them leave.
  pub image-is-prefix :
      (t : Words) (c : ℕ) (m : Words) → CutImage dock c t (barred dock (orders ss)) m → (j : ℕ) × (j ≤ c)
      × (m ≡ carry (take j (barred dock (orders ss))) t)
  image-is-prefix t c m i = cut-prefix list t (list-one-line dock ss) c m ((barred-images dock c t (orders ss) m).0 i)

  -- And so what the first stores leave, no more than are among the c orders.
  pub image-is-stores :
      (t : Words) (c : ℕ) (m : Words) → CutImage dock c t (barred dock (orders ss)) m → (i : ℕ)
      × (i ≤ store_count (take c (barred dock (orders ss)))) × (m ≡ apply (take i ss) t)
  image-is-stores t c m i =
      let (j, h, e) = image-is-prefix t c m i in (
        store_count (take j list),
        store_count-take-le j c list h,
        e
            ∙ rw (carry-stores (take j list) t, stores_in-take j list, list-stores dock ss),
      )

  -- A cut before the first order leaves the table; one after the last leaves all the stores.
  pub image-at-none : (t m : Words) → CutImage dock 0 t (barred dock (orders ss)) m → m ≡ t
  image-at-none t m i = let (j, h, e) = image-is-prefix t 0 m i in let z : j ≡ 0 = omega arith in rw z at e ∙ carry-nil t

  -- an image of a cut after all orders of the stores is the table with all stores applied
  pub image-at-all : (t : Words) (c : ℕ) (m : Words) → length (barred dock (orders ss)) ≤ c
      → CutImage dock c t (barred dock (orders ss)) m → m ≡ apply ss t
  image-at-all t c m h i =
      flushed-image list t m (list-flushed dock ss)
      (rw (take_all c list h) at ((barred-images dock c t (orders ss) m).0 i)) ∙ list-apply dock ss t

  -- ---- a first part is an image

  -- Every cut has an image: what all its c orders leave.
  pub cut-has-image : (t : Words) (c : ℕ) → CutImage dock c t (barred dock (orders ss)) (carry (take c (barred dock (orders ss))) t)
  cut-has-image t c = (barred-images dock c t (orders ss) _).1 (carry-image (take c list) t)

  -- What the first j orders leave is one if no flush lies between j and c.
  pub prefix-is-image :
      (t : Words) (j c : ℕ) → j ≤ c → flush_count (drop j (take c (barred dock (orders ss)))) ≡ 0
      → CutImage dock c t (barred dock (orders ss)) (carry (take j (barred dock (orders ss))) t)
  prefix-is-image t j c h e = (barred-images dock c t (orders ss) _).1 (prefix-cut list t j c h e)

  -- What holds of every image of every cut is what holds after each first part of the stores.
  pub cuts-judged : (P : Words → Type 0) (t : Words)
      → ((c : ℕ) (m : Words) → CutImage dock c t (barred dock (orders ss)) m → P m) ↔ ((i : ℕ) → P (apply (take i ss) t))
  cuts-judged P t = (
    λ f i. let (c, e) = stores-take i list in rw (carry-stores, e, list-stores dock ss) at (f c _ (cut-has-image t c)),
    λ f c m i. let (j, h, e) = image-is-stores t c m i in rw e (f j),
  )
