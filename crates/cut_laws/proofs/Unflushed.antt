-- Under the flush rule no two lines ever hold unflushed stores, and none is left unflushed at the end.
use Rattle.std.proofs.Common.{◌≡◌, ℕ, zero, suc, true, ◌≢◌, ◌⊎◌, List, [], ◌∷◌, take, sym, refl, ◌∙◌, inl, inr, eq-eqb}
use native.Mathlib.Decide.{ℕ_discrete}
use lib.Seq.{take-nil}
use Rattle.model.specs.Table.{line}
use Rattle.model.specs.Orders.{Store, Order, store, flush, orders_after, orders}
use Rattle.model.specs.Cuts.{flushed, since_flush, line_stores, later_stores}
use Rattle.model.specs.Judge.{OneUnflushed, AllFlushed}
use Rattle.cut_laws.specs.Unflushed.{OneLine}
use Rattle.cut_laws.proofs.FlushRule.{after-same, after-other}
use Rattle.cut_laws.proofs.LastFlush.{flush-front, flush-alone, flushed-front, other-front}

-- ---- at the end

after-flushes : (ss : List Store) (l : ℕ) → flushed l (orders_after l ss) ≡ true
unfolding orders_after flushed
after-flushes [] l = rw (eq-eqb l l refl)
after-flushes (s ∷ ss) l = go (ℕ_discrete (line s.word) l) (after-flushes ss l)
  where
    go : Dec (line s.word ≡ l) → flushed l (orders_after l ss) ≡ true → flushed l (orders_after l (s ∷ ss)) ≡ true
    go (yes e) ih = rw (after-same l s ss e) ih
    go (no k) ih = rw (after-other l s ss k, eq-eqb l l refl)

after-flushed : (ss : List Store) (d : ℕ) → AllFlushed (orders_after d ss)
unfolding orders_after since_flush line_stores
after-flushed [] d l = flush-alone l d
after-flushed (s ∷ ss) d l = go (ℕ_discrete (line s.word) d) (after-flushed ss)
  where
    go : Dec (line s.word ≡ d) → ((d : ℕ) → AllFlushed (orders_after d ss)) → later_stores l (orders_after d (s ∷ ss)) ≡ []
    go (yes e) ih = rw (after-same d s ss e) (flushed-front s (orders_after d ss) l (rw e (after-flushes ss d)) ∙ ih d l)
    go (no k) ih =
        rw (after-other d s ss k, flush-front l d)
        (flushed-front s (orders_after (line s.word) ss) l (after-flushes ss (line s.word)) ∙ ih (line s.word) l)

-- No store is left unflushed.
pub orders-flushed : (ss : List Store) → AllFlushed (orders ss)
unfolding orders since_flush line_stores
orders-flushed [] l = refl
orders-flushed (s ∷ ss) l =
    flushed-front s (orders_after (line s.word) ss) l (after-flushes ss (line s.word)) ∙ after-flushed ss (line s.word) l

-- ---- on the way

-- also after a store to d in front of os: os flushes d, or has later stores to d alone
abbrev Fits : ℕ → List Order → Type 0
Fits d os = ((flushed d os ≡ true) × OneUnflushed os) ⊎ ((l : ℕ) → d ≢ l → later_stores l os ≡ [])

fits-store : (s : Store) (os : List Order) (d : ℕ) → line s.word ≡ d → Fits d os → Fits d (store s ∷ os)
unfolding flushed
fits-store s os d e (inl (f, one)) =
    inl (f, λ k l n. rw (flushed-front s os k (rw e f), flushed-front s os l (rw e f)) (one k l n))
fits-store s os d e (inr only) = inr (λ l k. other-front s os l (λ q. k (sym e ∙ q)) ∙ only l k)

fits-one : (d : ℕ) (os : List Order) → Fits d os → OneUnflushed os
fits-one d os (inl a) k l n = a.1 k l n
fits-one d os (inr only) k l n = elim (ℕ_discrete d k) [ yes e ↦ inr (only l (λ q. n (sym e ∙ q))) | no j ↦ inl (only k j) ]

fits-start : (s : Store) (ss : List Store) → ((d c : ℕ) → Fits d (take c (orders_after d ss))) → (c : ℕ)
    → OneUnflushed (take c (store s ∷ orders_after (line s.word) ss))
unfolding since_flush line_stores
fits-start s ss ih zero = λ k l n. inl refl
fits-start s ss ih (suc c) =
    fits-one (line s.word) _ (fits-store s (take c (orders_after (line s.word) ss)) (line s.word) refl (ih (line s.word) c))

fits-flush : (d : ℕ) (os : List Order) → OneUnflushed os → OneUnflushed (flush d ∷ os)
fits-flush d os one k l n = rw (flush-front k d os, flush-front l d os) (one k l n)

fits-after : (ss : List Store) (d c : ℕ) → Fits d (take c (orders_after d ss))
unfolding orders_after since_flush line_stores flushed
fits-after [] d zero = inr (λ l k. refl)
fits-after [] d (suc c) = inr (λ l k. rw (take-nil {A = Order} c) (flush-alone l d))
fits-after (s ∷ ss) d zero = inr (λ l k. refl)
fits-after (s ∷ ss) d (suc c) = go (ℕ_discrete (line s.word) d) (fits-after ss)
  where
    go : Dec (line s.word ≡ d) → ((d c : ℕ) → Fits d (take c (orders_after d ss))) → Fits d (take (suc c) (orders_after d (s ∷ ss)))
    go (yes e) ih = rw (after-same d s ss e) (fits-store s (take c (orders_after d ss)) d e (ih d c))
    go (no k) ih = rw (after-other d s ss k)
        (inl (rw (eq-eqb d d refl) refl, fits-flush d (take c (store s ∷ orders_after (line s.word) ss)) (fits-start s ss ih c)))

-- No two lines ever hold unflushed stores.
pub orders-one-line : (ss : List Store) → OneLine (orders ss)
unfolding orders since_flush line_stores
orders-one-line [] c k l n = inl (rw (take-nil {A = Order} c))
orders-one-line (s ∷ ss) c k l n = fits-start s ss (fits-after ss) c k l n
