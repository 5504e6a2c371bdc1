-- The values that stores give one word, one after another. Where none that was lost comes back, the word never returns to a value that it
-- lost.
use Rattle.std.proofs.Common.{◌≡◌, ℕ, zero, suc, ◌+◌, ◌<◌, ◌≤◌, cond, eqb, ◌≢◌, ◌⊎◌, List, [], ◌∷◌, ◌++◌, length, take, drop, sym, refl, ap}
use Rattle.std.proofs.Common.{◌∙◌, inl, inr, append-nil, arith, length-set, get_or-set_other, get_or-set_same, eq-eqb, ne_eqb}
use lib.Seq.{take-nil}
use Rattle.model.specs.Table.{Words, at}
use Rattle.model.specs.Orders.{Store, apply}
use Rattle.list_laws.proofs.Lists.{cons-same}
use Rattle.list_laws.proofs.Tools.{Each, Each-map, same-or-not, compared}
use Rattle.word_laws.proofs.Stores.{do_store}
use Rattle.word_laws.proofs.Outside.{Into}

-- ---- the values stored to word w, in their order

unfoldable pub values_to : (w : ℕ) → List Store → List ℕ
values_to w [] = []
values_to w (s ∷ ss) = cond (eqb s.word w) (s.value ∷ values_to w ss) (values_to w ss)

pub values-here : (w : ℕ) (s : Store) (ss : List Store) → s.word ≡ w → values_to w (s ∷ ss) ≡ s.value ∷ values_to w ss
unfolding values_to
values-here w s ss e = rw (eq-eqb s.word w e, values_to)

pub values-past : (w : ℕ) (s : Store) (ss : List Store) → s.word ≢ w → values_to w (s ∷ ss) ≡ values_to w ss
unfolding values_to
values-past w s ss z = rw (ne_eqb s.word w z, values_to)

pub values-append : (w : ℕ) (ss us : List Store) → values_to w (ss ++ us) ≡ values_to w ss ++ values_to w us
unfolding values_to
values-append w [] us = refl
values-append w (s ∷ ss) us = go (same-or-not s.word w) (values-append w ss us)
  where
    go : (s.word ≡ w) ⊎ (s.word ≢ w) → values_to w (ss ++ us) ≡ values_to w ss ++ values_to w us → values_to w (s ∷ ss ++ us)
        ≡ values_to w (s ∷ ss) ++ values_to w us
    go (inl e) ih = rw (values-here w s (ss ++ us) e, values-here w s ss e) (ap (λ (l : List ℕ). s.value ∷ l) ih)
    go (inr z) ih = rw (values-past w s (ss ++ us) z, values-past w s ss z) ih

pub values-none : (w : ℕ) (ss : List Store) → Each (λ (s : Store). s.word ≢ w) ss → values_to w ss ≡ []
unfolding values_to
values-none w [] h = refl
values-none w (s ∷ ss) h = values-past w s ss h.0 ∙ values-none w ss h.1

-- ---- a word that has value x and then gets these

-- each value stays with the next store, or is lost for good
abbrev pub Steady : ℕ → List ℕ → Type 0
Steady x [] = Unit {0}
Steady x (v ∷ vs) = ((x ≡ v) ⊎ Each (λ (y : ℕ). x ≢ y) (v ∷ vs)) × Steady v vs

-- one store loses nothing that could come back; of two, the last is not the first value
pub steady-one : (x v : ℕ) → Steady x (v ∷ [])
steady-one x v = go (same-or-not x v)
  where
    go : (x ≡ v) ⊎ (x ≢ v) → Steady x (v ∷ [])
    go (inl e) = (inl e, tt)
    go (inr z) = (inr (z, tt), tt)

pub steady-two : (x u v : ℕ) → x ≢ v → Steady x (u ∷ v ∷ [])
steady-two x u v n = go (same-or-not x u)
  where
    go : (x ≡ u) ⊎ (x ≢ u) → Steady x (u ∷ v ∷ [])
    go (inl e) = (inl e, steady-one u v)
    go (inr z) = (inr (z, (n, tt)), steady-one u v)

pub steady-lost : (x v : ℕ) (vs : List ℕ) → Each (λ (y : ℕ). x ≢ y) (v ∷ vs) → Steady v vs → Steady x (v ∷ vs)
steady-lost x v vs a b = (inr a, b)

-- ---- the word over the first parts of the stores

stored : (w : ℕ) (s : Store) (t : Words) → w < length t → s.word ≡ w → at (do_store s t) w ≡ s.value
stored w s t l e = rw (← e) (get_or-set_same t s.word s.value 0 (rw e l))

unstored : (w : ℕ) (s : Store) (t : Words) → s.word ≢ w → at (do_store s t) w ≡ at t w
unstored w s t z = get_or-set_other t s.word w s.value 0 (λ e. z (sym e))

long : (w : ℕ) (s : Store) (t : Words) → w < length t → w < length (do_store s t)
long w s t l = rw (length-set t s.word s.value) l

-- what holds of the word and of each value stored to it holds at each moment
pub each-value : (P : ℕ → Type 0) (w : ℕ) (ss : List Store) (c : ℕ) (t : Words) → w < length t → P (at t w) → Each P (values_to w ss)
    → P (at (apply (take c ss) t) w)
unfolding apply values_to
each-value P w [] c t l p h = rw (take-nil {A = Store} c) p
each-value P w (s ∷ ss) zero t l p h = p
each-value P w (s ∷ ss) (suc c) t l p h = go (same-or-not s.word w) (each-value P w ss c (do_store s t) (long w s t l))
  where
    go : (s.word ≡ w) ⊎ (s.word ≢ w) → (P (at (do_store s t) w) → Each P (values_to w ss) → P (at (apply (take c ss) (do_store s t)) w))
        → P (at (apply (take c ss) (do_store s t)) w)
    go (inl e) ih = let u : Each P (s.value ∷ values_to w ss) = rw (values-here w s ss e) at h in ih (rw (stored w s t l e) u.0) u.1
    go (inr z) ih = ih (rw (unstored w s t z) p) (rw (values-past w s ss z) at h)

-- where no value is stored to it, the word is the same after them
pub value-same : (w : ℕ) (ss : List Store) (t : Words) → values_to w ss ≡ [] → at (apply ss t) w ≡ at t w
unfolding apply values_to
value-same w [] t e = refl
value-same w (s ∷ ss) t e = go (same-or-not s.word w) (value-same w ss (do_store s t))
  where
    go : (s.word ≡ w) ⊎ (s.word ≢ w) → (values_to w ss ≡ [] → at (apply ss (do_store s t)) w ≡ at (do_store s t) w)
        → at (apply ss (do_store s t)) w ≡ at t w
    go (inl q) ih = let n : length (s.value ∷ values_to w ss) ≡ 0 = ap length (sym (values-here w s ss q) ∙ e) in absurd (omega arith)
    go (inr z) ih = ih (sym (values-past w s ss z) ∙ e) ∙ unstored w s t z

-- where one value is stored to it, the word has that after them
pub value-one : (w v : ℕ) (ss : List Store) (t : Words) → w < length t → values_to w ss ≡ v ∷ [] → at (apply ss t) w ≡ v
unfolding apply values_to
value-one w v [] t l e = let n : length (v ∷ []) ≡ 0 = ap length (sym e) in absurd (omega arith)
value-one w v (s ∷ ss) t l e = go (same-or-not s.word w) (value-one w v ss (do_store s t) (long w s t l))
  where
    go : (s.word ≡ w) ⊎ (s.word ≢ w) → (values_to w ss ≡ v ∷ [] → at (apply ss (do_store s t)) w ≡ v) → at (apply ss (do_store s t)) w ≡ v
    go (inl q) ih = let u = cons-same s.value v (values_to w ss) [] (sym (values-here w s ss q) ∙ e) in value-same w ss (do_store s t) u.1
        ∙ stored w s t l q ∙ u.0
    go (inr z) ih = ih (sym (values-past w s ss z) ∙ e)

-- after one more store
steady-next : (w : ℕ) (s : Store) (ss : List Store) (t : Words) → w < length t → Steady (at t w) (values_to w (s ∷ ss))
    → Steady (at (do_store s t) w) (values_to w ss)
steady-next w s ss t l h = go (same-or-not s.word w)
  where
    go : (s.word ≡ w) ⊎ (s.word ≢ w) → Steady (at (do_store s t) w) (values_to w ss)
    go (inl e) = let u : Steady (at t w) (s.value ∷ values_to w ss) = rw (values-here w s ss e) at h in rw (stored w s t l e) u.1
    go (inr z) = rw (unstored w s t z) (rw (values-past w s ss z) at h)

-- after some of the stores
pub steady-drop : (a w : ℕ) (ss : List Store) (t : Words) → w < length t → Steady (at t w) (values_to w ss)
    → Steady (at (apply (take a ss) t) w) (values_to w (drop a ss))
unfolding apply values_to
steady-drop zero w ss t l h = h
steady-drop (suc a) w [] t l h = tt
steady-drop (suc a) w (s ∷ ss) t l h = steady-drop a w ss (do_store s t) (long w s t l) (steady-next w s ss t l h)

pub drop-none : (a w : ℕ) (ss : List Store) → values_to w ss ≡ [] → values_to w (drop a ss) ≡ []
unfolding values_to
drop-none zero w ss e = e
drop-none (suc a) w [] e = refl
drop-none (suc a) w (s ∷ ss) e = go (same-or-not s.word w) (drop-none a w ss)
  where
    go : (s.word ≡ w) ⊎ (s.word ≢ w) → (values_to w ss ≡ [] → values_to w (drop a ss) ≡ []) → values_to w (drop a ss) ≡ []
    go (inl q) ih = let n : length (s.value ∷ values_to w ss) ≡ 0 = ap length (sym (values-here w s ss q) ∙ e) in absurd (omega arith)
    go (inr z) ih = ih (sym (values-past w s ss z) ∙ e)

-- A word whose values are steady keeps the one it has at the start, if it has it at some moment later, until then.
pub steady-back : (w : ℕ) (ss : List Store) (b c : ℕ) (t : Words) → w < length t → Steady (at t w) (values_to w ss) → b ≤ c → at t w
    ≡ at (apply (take c ss) t) w → at (apply (take b ss) t) w ≡ at t w
unfolding apply
steady-back w [] b c t l h i e = rw (take-nil {A = Store} b)
steady-back w (s ∷ ss) zero c t l h i e = refl
steady-back w (s ∷ ss) (suc b) zero t l h i e = absurd (omega arith)
steady-back w (s ∷ ss) (suc b) (suc c) t l h i e =
    go (same-or-not s.word w) (steady-back w ss b c (do_store s t) (long w s t l) (steady-next w s ss t l h) (omega arith))
  where
    go : (s.word ≡ w) ⊎ (s.word ≢ w)
        → (at (do_store s t) w ≡ at (apply (take c ss) (do_store s t)) w → at (apply (take b ss) (do_store s t)) w ≡ at (do_store s t) w)
        → at (apply (take b ss) (do_store s t)) w ≡ at t w
    go (inr z) ih = let q = unstored w s t z in ih (q ∙ e) ∙ q
    go (inl y) ih = by f.0
      where
        f : Steady (at t w) (s.value ∷ values_to w ss)
        f = rw (values-here w s ss y) at h

        by : (at t w ≡ s.value) ⊎ Each (λ (x : ℕ). at t w ≢ x) (s.value ∷ values_to w ss) → at (apply (take b ss) (do_store s t)) w ≡ at t w
        by (inl q) = let r : at (do_store s t) w ≡ at t w = stored w s t l y ∙ sym q in ih (r ∙ e) ∙ r
        by (inr a) = absurd (each-value (λ (x : ℕ). at t w ≢ x) w ss c (do_store s t) (long w s t l) (rw (stored w s t l y) a.0) a.1 e)

-- ---- one list after another

pub steady-then : (w x : ℕ) (ss us : List Store) → values_to w us ≡ [] → Steady x (values_to w ss) → Steady x (values_to w (ss ++ us))
steady-then w x ss us e h = rw (values-append w ss us, e, append-nil (values_to w ss)) h

pub steady-after : (w : ℕ) (ss us : List Store) (t : Words) → values_to w ss ≡ [] → Steady (at (apply ss t) w) (values_to w us)
    → Steady (at t w) (values_to w (ss ++ us))
steady-after w ss us t e h = rw (values-append w ss us, e) (rw (value-same w ss t e) at h)

-- ---- stores to a stretch of words

pub inside-or-not : (a n w : ℕ) → ((a ≤ w) × (w < a + n)) ⊎ (a ≤ w → w < a + n → ⊥)
inside-or-not a n w = go (compared w a) (compared w (a + n))
  where
    go : (w < a) ⊎ ((w ≡ a) ⊎ (a < w)) → (w < a + n) ⊎ ((w ≡ a + n) ⊎ (a + n < w)) → ((a ≤ w) × (w < a + n)) ⊎ (a ≤ w → w < a + n → ⊥)
    go (inl l) r = inr (λ p q. omega arith)
    go (inr (inl l)) (inl r) = inl (omega arith, r)
    go (inr (inr l)) (inl r) = inl (omega arith, r)
    go (inr l) (inr (inl r)) = inr (λ p q. omega arith)
    go (inr l) (inr (inr r)) = inr (λ p q. omega arith)

pub into-none : (a n w : ℕ) (ss : List Store) → Each (Into a n) ss → (a ≤ w → w < a + n → ⊥) → values_to w ss ≡ []
into-none a n w ss h z = values-none w ss (Each-map (Into a n) (λ (s : Store). s.word ≢ w) ss (λ s i e. z (omega arith) (omega arith)) h)
