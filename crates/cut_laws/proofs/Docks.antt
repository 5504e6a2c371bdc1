-- The two docks: barriers make no difference to dock 0, and on orders with a barrier after each store dock 1 leaves the images that dock 0
-- does.
use Rattle.std.proofs.Common.{◌≡◌, ℕ, zero, suc, ◌+◌, Bool, true, false, cond, ◌||◌, eqb, ◌↔◌, List, [], ◌∷◌, ◌++◌, length, take, sym, refl}
use Rattle.std.proofs.Common.{ap, ◌∙◌, inl, inr, suc-add, zero-add}
use lib.Seq.{take-nil}
use Rattle.model.specs.Table.{Words, line}
use Rattle.model.specs.Orders.{Store, Order, store, flush, barrier, apply, carry, orders, with_barriers, barred, without_barriers}
use Rattle.model.specs.Cuts.{flushed, up_to_flush, since_flush, line_stores, later_stores, FirstPart, UpToBarrier, to_barrier, choice}
use Rattle.model.specs.Cuts.{AnyChoice, Image, CutImage}
use Rattle.model.specs.Judge.{AllFlushed}
use Rattle.cut_laws.specs.Unflushed.{stores_in, OneLine}
use Rattle.cut_laws.proofs.Barriers.{without-carry, without-take, without-barred, barred-stores, barred-carry}
use Rattle.cut_laws.proofs.FlushRule.{orders-without, orders-stores, orders-apply}
use Rattle.cut_laws.proofs.Unflushed.{orders-flushed, orders-one-line}
use Rattle.cut_laws.proofs.LastFlush.{up_to_flush-nil, since-all, line-stores-append}

-- ---- dock 0: barriers make no difference

flushed-without : (l : ℕ) (os : List Order) → flushed l (without_barriers os) ≡ flushed l os
unfolding flushed without_barriers
flushed-without l [] = refl
flushed-without l (store s ∷ os) = flushed-without l os
flushed-without l (flush k ∷ os) = ap (λ (b : Bool). eqb k l || b) (flushed-without l os)
flushed-without l (barrier ∷ os) = flushed-without l os

stores-without : (l : ℕ) (os : List Order) → line_stores l (without_barriers os) ≡ line_stores l os
unfolding line_stores without_barriers
stores-without l [] = refl
stores-without l (store s ∷ os) = rw (stores-without l os)
stores-without l (flush k ∷ os) = stores-without l os
stores-without l (barrier ∷ os) = stores-without l os

without-cond : (b : Bool) (os rest r q : List Order) → without_barriers os ≡ r → without_barriers rest ≡ q
    → without_barriers (cond b os rest) ≡ cond b r q
unfolding without_barriers
without-cond true os rest r q e f = e
without-cond false os rest r q e f = f

up_to-without : (l : ℕ) (os : List Order) → without_barriers (up_to_flush l os) ≡ up_to_flush l (without_barriers os)
unfolding up_to_flush without_barriers
up_to-without l [] = refl
up_to-without l (store s ∷ os) =
    rw (flushed-without l (store s ∷ os))
    (without-cond (flushed l (store s ∷ os)) (store s ∷ up_to_flush l os) [] _ [] (ap (λ q. store s ∷ q) (up_to-without l os)) refl)
up_to-without l (flush k ∷ os) =
    rw (flushed-without l (flush k ∷ os))
    (without-cond (flushed l (flush k ∷ os)) (flush k ∷ up_to_flush l os) [] _ [] (ap (λ q. flush k ∷ q) (up_to-without l os)) refl)
up_to-without l (barrier ∷ os) = go (flushed l (barrier ∷ os)) refl (up_to-without l os)
  where
    go : (b : Bool) → flushed l (barrier ∷ os) ≡ b → without_barriers (up_to_flush l os) ≡ up_to_flush l (without_barriers os)
        → without_barriers (cond b (barrier ∷ up_to_flush l os) []) ≡ up_to_flush l (without_barriers os)
    go true e ih = ih
    go false e ih = sym (up_to_flush-nil l (without_barriers os) (flushed-without l (barrier ∷ os) ∙ e))

since-without : (l : ℕ) (os : List Order) → without_barriers (since_flush l os) ≡ since_flush l (without_barriers os)
unfolding since_flush without_barriers
since-without l [] = refl
since-without l (store s ∷ os) =
    rw (flushed-without l (store s ∷ os))
    (without-cond (flushed l (store s ∷ os)) (since_flush l os) (store s ∷ os) _ _ (since-without l os) refl)
since-without l (flush k ∷ os) =
    rw (flushed-without l (flush k ∷ os))
    (without-cond (flushed l (flush k ∷ os)) (since_flush l os) (flush k ∷ os) _ _ (since-without l os) refl)
since-without l (barrier ∷ os) = go (flushed l (barrier ∷ os)) refl (since-without l os)
  where
    go : (b : Bool) → flushed l (barrier ∷ os) ≡ b → without_barriers (since_flush l os) ≡ since_flush l (without_barriers os)
        → without_barriers (cond b (since_flush l os) (barrier ∷ os)) ≡ since_flush l (without_barriers os)
    go true e ih = ih
    go false e ih = sym (since-all l (without_barriers os) (flushed-without l (barrier ∷ os) ∙ e))

pub later-without : (l : ℕ) (os : List Order) → later_stores l (without_barriers os) ≡ later_stores l os
later-without l os = ap (line_stores l) (sym (since-without l os)) ∙ stores-without l (since_flush l os)

carry-without : (l : ℕ) (os : List Order) (t : Words) → carry (up_to_flush l (without_barriers os)) t ≡ carry (up_to_flush l os) t
carry-without l os t = ap (λ (q : List Order). carry q t) (sym (up_to-without l os)) ∙ without-carry (up_to_flush l os) t

pub image-without : (t : Words) (os : List Order) (m : Words) → Image 0 t os m ↔ Image 0 t (without_barriers os) m
image-without t os m = (
  λ i. record {
    long = i.long;
    lines = λ l. let (part, (n, e), h) = i.lines l in (part, (n, rw (later-without l os) e), λ w q. rw (carry-without l os t) (h w q));
  },
  λ i. record {
    long = i.long;
    lines = λ l. let (part, (n, e), h) =
        i.lines l in (part, (n, rw (later-without l os) at e), λ w q. rw (carry-without l os t) at (h w q));
  },
)

-- ---- a barrier after each store: between two barriers there is one at most

pub data Spaced : List Order → Type 0 where
  none-left : Spaced []
  flushing : {k : ℕ} {os : List Order} → Spaced os → Spaced (flush k ∷ os)
  barring : {os : List Order} → Spaced os → Spaced (barrier ∷ os)
  last-store : {s : Store} → Spaced (store s ∷ [])
  storing : {s : Store} {os : List Order} → Spaced os → Spaced (store s ∷ barrier ∷ os)

pub spaced-take : (c : ℕ) (os : List Order) → Spaced (take c (with_barriers os))
unfolding with_barriers
spaced-take zero os = none-left
spaced-take (suc c) [] = none-left
spaced-take (suc zero) (store s ∷ os) = last-store
spaced-take (suc (suc c)) (store s ∷ os) = storing (spaced-take c os)
spaced-take (suc c) (flush k ∷ os) = flushing (spaced-take c os)
spaced-take (suc c) (barrier ∷ os) = barring (spaced-take c os)

spaced-tail : {o : Order} {os : List Order} → Spaced (o ∷ os) → Spaced os
spaced-tail (flushing a) = a
spaced-tail (barring a) = a
spaced-tail last-store = none-left
spaced-tail (storing a) = barring a

spaced-rest : (a b : List Order) → Spaced (a ++ b) → Spaced b
spaced-rest [] b h = h
spaced-rest (o ∷ a) b h = spaced-rest a b (spaced-tail h)

spaced-since : (l : ℕ) (os : List Order) → Spaced os → Spaced (since_flush l os)
unfolding since_flush
spaced-since l [] h = h
spaced-since l (o ∷ os) h = go (flushed l (o ∷ os)) (spaced-since l os (spaced-tail h))
  where
    go : (b : Bool) → Spaced (since_flush l os) → Spaced (cond b (since_flush l os) (o ∷ os))
    go true ih = ih
    go false ih = h

-- ---- a choice is a first part

choice-nil : (marks : List Bool) → choice marks [] ≡ []
unfolding choice
choice-nil [] = refl
choice-nil (b ∷ bs) = refl

-- of one store, where b
choice-one : (b : Bool) (s : Store) (marks : List Bool) → (n : ℕ)
    × ((r : List Store) → choice marks (cond b (s ∷ []) []) ≡ take n (cond b (s ∷ r) r))
unfolding choice
choice-one b s [] = (0, λ r. refl)
choice-one true s (true ∷ bs) = (1, λ r. ap (λ q. s ∷ q) (choice-nil bs))
choice-one true s (false ∷ bs) = (0, λ r. choice-nil bs)
choice-one false s (b ∷ bs) = (0, λ r. refl)

take-past : (a b : List Store) (n : ℕ) → take (length a + n) (a ++ b) ≡ a ++ take n b
take-past [] b n = rw zero-add
take-past (s ∷ a) b n = rw suc-add (ap (λ q. s ∷ q) (take-past a b n))

module _ (l : ℕ) where
  -- what is chosen up to the next barrier
  chosen-first : (marks : List Bool) {os : List Order} → Spaced os → (n : ℕ)
      × (choice marks (line_stores l (to_barrier os)) ≡ take n (line_stores l os))
  unfolding line_stores to_barrier
  chosen-first marks none-left = (0, choice-nil marks)
  chosen-first marks (flushing a) = chosen-first marks a
  chosen-first marks (barring a) = (0, choice-nil marks)
  chosen-first marks (last-store {s = s}) = let (n, q) = choice-one (eqb (line s.word) l) s marks in (n, q [])
  chosen-first marks (storing {s = s} {os = os} a) = let (n, q) = choice-one (eqb (line s.word) l) s marks in (n, q (line_stores l os))

  -- with all that comes before it
  pub choice-first : (os : List Order) (part : List Store) → Spaced os → AnyChoice l os part → FirstPart (line_stores l os) part
  choice-first os part a c =
      let u = chosen-first c.marks (spaced-rest c.before c.rest (rw c.parted at a)) in
      let all : line_stores l os ≡ line_stores l c.before ++ line_stores l c.rest =
      ap (line_stores l) c.parted ∙ line-stores-append l c.before c.rest in (
        length (line_stores l c.before) + u.0,
        c.holds ∙ ap (λ q. line_stores l c.before ++ q) u.1 ∙ sym (take-past (line_stores l c.before) (line_stores l c.rest) u.0)
            ∙ ap (take (length (line_stores l c.before) + u.0)) (sym all),
      )

  -- ---- and a first part is a choice

  -- an order in front that is not this line's, or with the store that it is
  flush-front : (k : ℕ) (os : List Order) (part : List Store) → AnyChoice l os part → AnyChoice l (flush k ∷ os) part
  unfolding line_stores to_barrier
  flush-front k os part c = go c.up-to
    where
      go : UpToBarrier c.before → AnyChoice l (flush k ∷ os) part
      go (inl (p, e)) = record {
        before = flush k ∷ c.before;
        rest = c.rest;
        marks = c.marks;
        parted = ap (λ q. flush k ∷ q) c.parted;
        up-to = inl (flush k ∷ p, ap (λ q. flush k ∷ q) e);
        holds = c.holds;
      }
      go (inr e) = record {
        before = [];
        rest = flush k ∷ c.rest;
        marks = c.marks;
        parted = ap (λ q. flush k ∷ q) (c.parted ∙ ap (λ q. q ++ c.rest) e);
        up-to = inr refl;
        holds = c.holds ∙ ap (λ q. line_stores l q ++ choice c.marks (line_stores l (to_barrier c.rest))) e;
      }

  barrier-ends : (a : List Order) → UpToBarrier a → (p : List Order) × (barrier ∷ a ≡ p ++ (barrier ∷ []))
  barrier-ends a (inl (p, e)) = (barrier ∷ p, ap (λ q. barrier ∷ q) e)
  barrier-ends a (inr e) = ([], ap (λ q. barrier ∷ q) e)

  barrier-front : (os : List Order) (part : List Store) → AnyChoice l os part → AnyChoice l (barrier ∷ os) part
  unfolding line_stores
  barrier-front os part c =
      record {
        before = barrier ∷ c.before;
        rest = c.rest;
        marks = c.marks;
        parted = ap (λ q. barrier ∷ q) c.parted;
        up-to = inl (barrier-ends c.before c.up-to);
        holds = c.holds;
      }

  store-front : (s : Store) (os : List Order) (part : List Store) → AnyChoice l os part
      → AnyChoice l (store s ∷ barrier ∷ os) (cond (eqb (line s.word) l) (s ∷ part) part)
  unfolding line_stores
  store-front s os part c =
      let (p, q) = barrier-ends c.before c.up-to in
      record {
        before = store s ∷ barrier ∷ c.before;
        rest = c.rest;
        marks = c.marks;
        parted = ap (λ q. store s ∷ barrier ∷ q) c.parted;
        up-to = inl (store s ∷ p, ap (λ q. store s ∷ q) q);
        holds = held (eqb (line s.word) l);
      }
    where
      held : (b : Bool) → cond b (s ∷ part) part ≡ cond b (s ∷ line_stores l c.before) (line_stores l c.before)
          ++ choice c.marks (line_stores l (to_barrier c.rest))
      held true = ap (λ q. s ∷ q) c.holds
      held false = c.holds

  -- nothing yet, of what is left
  nothing-yet : (os : List Order) → AnyChoice l os []
  unfolding line_stores choice
  nothing-yet os = record { before = []; rest = os; marks = []; parted = refl; up-to = inr refl; holds = refl }

  last-taken : (s : Store) (n : ℕ) → AnyChoice l (store s ∷ []) (take (suc n) (line_stores l (store s ∷ [])))
  unfolding line_stores to_barrier choice
  last-taken s n = record
      { before = []; rest = store s ∷ []; marks = true ∷ []; parted = refl; up-to = inr refl; holds = go (eqb (line s.word) l) }
    where
      go : (b : Bool) → take (suc n) (cond b (s ∷ []) []) ≡ choice (true ∷ []) (cond b (s ∷ []) [])
      go true = ap (λ q. s ∷ q) (take-nil {A = Store} n)
      go false = refl

  -- one more of the stores, and n of the others
  more : (b : Bool) (s : Store) (r : List Store) (n : ℕ) → (m : ℕ) × (cond b (s ∷ take m r) (take m r) ≡ take (suc n) (cond b (s ∷ r) r))
  more true s r n = (n, refl)
  more false s r n = (suc n, refl)

  pub first-choice : {os : List Order} → Spaced os → (n : ℕ) → AnyChoice l os (take n (line_stores l os))
  unfolding line_stores
  first-choice none-left n = rw (take-nil {A = Store} n) (nothing-yet [])
  first-choice (flushing {k = k} {os = os} a) n = flush-front k os (take n (line_stores l os)) (first-choice a n)
  first-choice (barring {os = os} a) n = barrier-front os (take n (line_stores l os)) (first-choice a n)
  first-choice (last-store {s = s}) zero = nothing-yet (store s ∷ [])
  first-choice (last-store {s = s}) (suc n) = last-taken s n
  first-choice (storing {s = s} {os = os} a) zero = nothing-yet (store s ∷ barrier ∷ os)
  first-choice (storing {s = s} {os = os} a) (suc n) =
      let u = more (eqb (line s.word) l) s (line_stores l os) n in
      rw u.1 at (store-front s os (take u.0 (line_stores l os)) (first-choice a u.0))

-- ---- images

-- On orders with a barrier after each store both docks leave the same images.
pub same-images : (n : ℕ) (t : Words) (os : List Order) (m : Words) → Spaced os → Image (suc n) t os m ↔ Image 0 t os m
same-images n t os m a = (
  λ i. record {
    long = i.long;
    lines = λ l. let (part, c, h) = i.lines l in (part, choice-first l (since_flush l os) part (spaced-since l os a) c, h);
  },
  λ i. record {
    long = i.long;
    lines = λ l. let (part, (j, e), h) = i.lines l in (part, rw e (first-choice l (spaced-since l os a) j), h);
  },
)

-- So do they of the list of either dock, cut anywhere: the images are those of the orders without barriers.
pub barred-images : (dock c : ℕ) (t : Words) (os : List Order) (m : Words)
    → CutImage dock c t (barred dock os) m ↔ CutImage 0 c t (barred dock os) m
barred-images zero c t os m = (λ i. i, λ i. i)
barred-images (suc n) c t os m = same-images n t (take c (with_barriers os)) m (spaced-take c os)

pub dock-images : (dock c : ℕ) (t : Words) (os : List Order) (m : Words)
    → CutImage dock c t (barred dock os) m ↔ CutImage 0 (length (without_barriers (take c (barred dock os)))) t (without_barriers os) m
dock-images dock c t os m =
    let e : without_barriers (take c (barred dock os)) ≡ take (length (without_barriers (take c (barred dock os)))) (without_barriers os) =
    without-take c (barred dock os) ∙ rw (without-barred dock os) in
    let u = barred-images dock c t os m in
    let v = image-without t (take c (barred dock os)) m in
    (λ i. rw e at (v.0 (u.0 i)), λ i. u.1 (v.1 (rw (← e) at i)))

-- ---- the list of a write on either dock, by its stores

module _ (dock : ℕ) (ss : List Store) where
  -- Without its barriers it is dock 0's.
  pub list-without : without_barriers (barred dock (orders ss)) ≡ orders ss
  list-without = without-barred dock (orders ss) ∙ orders-without ss

  -- no two lines ever hold unflushed stores
  pub list-one-line : OneLine (barred dock (orders ss))
  list-one-line c k l n =
      let e : without_barriers (take c (barred dock (orders ss)))
      ≡ take (length (without_barriers (take c (barred dock (orders ss))))) (orders ss) =
      without-take c (barred dock (orders ss)) ∙ rw list-without in
      rw (← (later-without k (take c (barred dock (orders ss)))), ← (later-without l (take c (barred dock (orders ss)))), e)
      (orders-one-line ss (length (without_barriers (take c (barred dock (orders ss))))) k l n)

  -- no store is left unflushed
  pub list-flushed : AllFlushed (barred dock (orders ss))
  list-flushed l = sym (later-without l (barred dock (orders ss))) ∙ ap (later_stores l) list-without ∙ orders-flushed ss l

  -- the stores in the order list of ss are ss
  pub list-stores : stores_in (barred dock (orders ss)) ≡ ss
  list-stores = barred-stores dock (orders ss) ∙ orders-stores ss

  -- carrying out the order list of ss leaves the table that applying ss leaves
  pub list-apply : (t : Words) → carry (barred dock (orders ss)) t ≡ apply ss t
  list-apply t = barred-carry dock (orders ss) t ∙ orders-apply ss t
