-- Which numbers the cells hold, after a number was entered: over any number of cells and any length of the paths.
use Rattle.std.proofs.Common.{◌≡◌, ℕ, zero, suc, ◌%◌, ◌<◌, Bool, true, false, ◌||◌, eqb, ◌≢◌, length, get_or, set, replicate, sym, refl, ap}
use Rattle.std.proofs.Common.{◌∙◌, inl, inr, ⊎_elim, mod-lt, arith, length-set, get_or-set_other, get_or-set_same, eq-eqb, eqb-true}
use mathlib.Core.Bool.{false≢true}
use lib.ListN.{length-replicate}
use borrow.Author.Tests.{eqb-false}
use Rattle.model.specs.Table.{Words}
use Rattle.list_laws.proofs.Tools.{same-or-not, refuted, or-right}
use Rattle.list_laws.proofs.Lists.{at-replicate}
use Rattle.std.specs.Prelude.{Ok, Err}
use Rattle.numbers.specs.declared.Stop.TheVariants.{Known, Full}
use Rattle.numbers.specs.Cells.{Entry, mixed, next_cell, tried, entered}
use Rattle.numbers.specs.Filed.{Closed, Filed}
use Rattle.numbers.proofs.Trying.{next-below}

-- ---- what m tries from cell i on tell

-- the number is in a cell that was free, and it was not met before
pub record Stored (n : ℕ) (cs after : Words) (r i m : ℕ) : Type 0 where
  pub some : r ≢ 0
  pub at : ℕ
  pub inside : at < n
  pub free : get_or cs at 0 ≡ 0
  pub stored : after ≡ set cs at r
  pub new : Closed n cs r i m → ⊥
  pub met : Closed n after r i m

-- no cell of the path is free
abbrev pub Crowded : (n : ℕ) → Words → (i m : ℕ) → Type 0
Crowded n cs i zero = Unit {0}
Crowded n cs i (suc m) = (get_or cs i 0 ≢ 0) × Crowded n cs (next_cell n i) m

-- what entering number r says of the cells before and after it, by its answer
abbrev pub Told : (n : ℕ) → Words → (r i m : ℕ) → Entry → Words → Type 0
Told n cs r i m (Ok x) after = Stored n cs after r i m
Told n cs r i m (Err Known) after = (after ≡ cs) × (r ≢ 0) × (k : ℕ) × (get_or cs k 0 ≡ r)
Told n cs r i m (Err Full) after = (after ≡ cs) × (r ≢ 0 → Crowded n cs i m)

module _ (n : ℕ) (cs : Words) (long : length cs ≡ n) (r : ℕ) (some : r ≢ 0) where
  told-more : (after : Words) (i m : ℕ) (e : Entry) → get_or cs i 0 ≢ r → get_or cs i 0 ≢ 0 → Told n cs r (next_cell n i) m e after
      → Told n cs r i (suc m) e after
  told-more after i m (Ok x) d z h =
      record {
        some = some;
        at = h.at;
        inside = h.inside;
        free = h.free;
        stored = h.stored;
        new = ⊎_elim d (λ c. h.new c.1);
        met = inr ((λ q. z (sym same ∙ q)), h.met);
      }
    where
      same : get_or after i 0 ≡ get_or cs i 0
      same = ap (λ (l : Words). get_or l i 0) h.stored ∙ get_or-set_other cs h.at i r 0 (λ e. z (ap (λ (k : ℕ). get_or cs k 0) e ∙ h.free))
  told-more after i m (Err Known) d z h = h
  told-more after i m (Err Full) d z h = (h.0, λ e. (z, h.1 e))

  pub told-tried : (i m : ℕ) → i < n → Told n cs r i m (tried n cs r i m).answer (tried n cs r i m).cells
  unfolding tried
  told-tried i zero l = (refl, λ e. tt)
  told-tried i (suc m) l = go (eqb (get_or cs i 0) r) refl (eqb (get_or cs i 0) 0) refl (told-tried (next_cell n i) m (next-below n i l))
    where
      go : (b : Bool) → eqb (get_or cs i 0) r ≡ b → (d : Bool) → eqb (get_or cs i 0) 0 ≡ d
          → Told n cs r (next_cell n i) m (tried n cs r (next_cell n i) m).answer (tried n cs r (next_cell n i) m).cells
          → Told n cs r i (suc m) (tried n cs r i (suc m)).answer (tried n cs r i (suc m)).cells
      go true e d q ih = rw (e, tried) (refl, some, i, eqb-true (get_or cs i 0) r e)
      go false e true q ih =
          rw (e, q, tried) (record {
            some = some;
            at = i;
            inside = l;
            free = eqb-true (get_or cs i 0) 0 q;
            stored = refl;
            new = ⊎_elim (eqb-false (get_or cs i 0) r e) (λ c. c.0 (eqb-true (get_or cs i 0) 0 q));
            met = inl (get_or-set_same cs i r 0 (omega arith));
          })
      go false e false q ih =
          rw (e, q, tried) (told-more (tried n cs r (next_cell n i) m).cells i m (tried n cs r (next_cell n i) m).answer
          (eqb-false (get_or cs i 0) r e) (eqb-false (get_or cs i 0) 0 q) ih)

-- what entering a number tells
pub told : (n m : ℕ) (cs : Words) (r : ℕ) → length cs ≡ n → 0 < n
    → Told n cs r (mixed r % n) m (entered m cs r).answer (entered m cs r).cells
unfolding entered
told n m cs r l s = go (eqb r 0) refl
  where
    go : (b : Bool) → eqb r 0 ≡ b → Told n cs r (mixed r % n) m (entered m cs r).answer (entered m cs r).cells
    go true e = rw (e, entered) (refl, λ d. absurd (d (eqb-true r 0 e)))
    go false e = rw (e, l, entered) (told-tried n cs l r (eqb-false r 0 e) (mixed r % n) m (mod-lt (mixed r) s))

-- ---- the numbers held

-- a number that is held already stays where it is
closed-still : (n : ℕ) (cs : Words) (x at r i m : ℕ) → x ≢ 0 → get_or cs at 0 ≡ 0 → Closed n cs x i m → Closed n (set cs at r) x i m
closed-still n cs x at r i zero d f c = tt
closed-still n cs x at r i (suc m) d f c =
    ⊎_elim (λ e. inl (same (λ z. d (sym e ∙ z)) ∙ e))
    (λ p. inr ((λ z. p.0 (sym (same p.0) ∙ z)), closed-still n cs x at r (next_cell n i) m d f p.1)) c
  where
    same : get_or cs i 0 ≢ 0 → get_or (set cs at r) i 0 ≡ get_or cs i 0
    same z = get_or-set_other cs at i r 0 (λ e. z (ap (λ (k : ℕ). get_or cs k 0) e ∙ f))

-- cells of zeros hold no number
pub filed-none : (m n : ℕ) → Filed m n (replicate n 0) (λ (r : ℕ). false)
filed-none m n = record
    { long = length-replicate n 0; known = λ k h. absurd (h (at-replicate n k)); closed = λ r d e. absurd (false≢true e) }

-- cells that hold the numbers of f hold those of g, if f and g agree
pub filed-same : (m n : ℕ) (cs : Words) (f g : ℕ → Bool) → ((x : ℕ) → f x ≡ g x) → Filed m n cs f → Filed m n cs g
filed-same m n cs f g e h =
    record { long = h.long; known = λ k d. sym (e (get_or cs k 0)) ∙ h.known k d; closed = λ r d q. h.closed r d (e r ∙ q) }

-- a number that meets no free cell is not looked for in vain
crowded-closed : (n : ℕ) (cs : Words) (r i m : ℕ) → Crowded n cs i m → Closed n cs r i m
crowded-closed n cs r i zero c = tt
crowded-closed n cs r i (suc m) c = inr (c.0, crowded-closed n cs r (next_cell n i) m c.1)

module _ (m n : ℕ) (cs : Words) (mem : ℕ → Bool) (h : Filed m n cs mem) (r : ℕ) where
  -- a number that is answered as known is among those held
  pub known-number : (after : Words) → Told n cs r (mixed r % n) m (Err Known) after → mem r ≡ true
  known-number after s = let e = s.3 in ap mem (sym e) ∙ h.known s.2 (λ z. s.1 (sym e ∙ z))

  -- one number more, which has its place or a path without a free cell
  held-more : (after : Words) → length after ≡ n
      → ((k : ℕ) → get_or after k 0 ≢ 0 → (eqb (get_or after k 0) r || mem (get_or after k 0)) ≡ true)
      → (r ≢ 0 → Closed n after r (mixed r % n) m)
      → ((x : ℕ) → x ≢ 0 → mem x ≡ true → Closed n after x (mixed x % n) m) → Filed m n after (λ (x : ℕ). eqb x r || mem x)
  held-more after long cell own old = record { long = long; known = cell; closed = path }
    where
      path : (x : ℕ) → x ≢ 0 → (eqb x r || mem x) ≡ true → Closed n after x (mixed x % n) m
      path x d e = go (eqb x r) refl
        where
          go : (b : Bool) → eqb x r ≡ b → Closed n after x (mixed x % n) m
          go true q = let z = eqb-true x r q in rw z (own (λ y. d (z ∙ y)))
          go false q = old x d (ap (λ (b : Bool). b || mem x) (sym q) ∙ e)

  -- a number that found its path full counts as held from then on
  pub filed-full : (after : Words) → Told n cs r (mixed r % n) m (Err Full) after → Filed m n after (λ (x : ℕ). eqb x r || mem x)
  filed-full after s =
      rw s.0 (held-more cs h.long (λ k d. or-right (eqb (get_or cs k 0) r) (mem (get_or cs k 0)) (h.known k d))
      (λ d. crowded-closed n cs r (mixed r % n) m (s.1 d)) h.closed)

  module _ (after : Words) (s : Stored n cs after r (mixed r % n) m) where
    -- a number that is stored was not held before
    pub new-number : mem r ≡ false
    new-number = refuted (mem r) (λ e. s.new (h.closed r s.some e))

    here-now : get_or after s.at 0 ≡ r
    here-now = ap (λ (l : Words). get_or l s.at 0) s.stored
        ∙ get_or-set_same cs s.at r 0 (let a = s.inside in let b = h.long in omega arith)

    elsewhere : (j : ℕ) → j ≢ s.at → get_or after j 0 ≡ get_or cs j 0
    elsewhere j d = ap (λ (l : Words). get_or l j 0) s.stored ∙ get_or-set_other cs s.at j r 0 d

    -- after number r is stored the cells hold it and those before
    pub filed-more : Filed m n after (λ (x : ℕ). eqb x r || mem x)
    filed-more =
        held-more after (ap length s.stored ∙ length-set cs s.at r ∙ h.long) cell (λ d. s.met)
        (λ x d e. rw s.stored (closed-still n cs x s.at r (mixed x % n) m d s.free (h.closed x d e)))
      where
        cell : (k : ℕ) → get_or after k 0 ≢ 0 → (eqb (get_or after k 0) r || mem (get_or after k 0)) ≡ true
        cell k d =
            ⊎_elim (λ e. ap (λ (b : Bool). b || mem (get_or after k 0))
            (eq-eqb (get_or after k 0) r (ap (λ (j : ℕ). get_or after j 0) e ∙ here-now)))
            (λ o. or-right (eqb (get_or after k 0) r) (mem (get_or after k 0))
            (ap mem (elsewhere k o) ∙ h.known k (λ z. d (elsewhere k o ∙ z))))
            (same-or-not k s.at)
