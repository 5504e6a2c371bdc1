-- The first of a row of numbers that does not pass a test, and the first after a number, going round: of nodes marked, or reached.
use Rattle.std.proofs.Common.{◌≡◌, ℕ, zero, suc, pred, ◌+◌, ◌-◌, ◌<◌, ◌≤◌, Bool, true, false, not, ltb, leb, ◌≢◌, List, [], ◌∷◌, ◌++◌}
use Rattle.std.proofs.Common.{length, sym, refl, ap, ◌∙◌, ⊎_elim, add-one, sub-one, arith, ltb-false, le-ltb, lt-ltb, leb-false, leb-true}
use Rattle.model.specs.Reached.{filter, head_or}
use Rattle.model.specs.Writes.{numbers}
use Rattle.list_laws.proofs.Tools.{same-or-not}
use Rattle.list_laws.proofs.Filters.{filter-yes, filter-no, filter-append}

-- the numbers n to last are n, then those from n + 1 to last
pub row-more : (n last : ℕ) → n ≤ last → numbers n (last + 1 - n) ≡ n ∷ numbers (suc n) (last + 1 - suc n)
unfolding numbers
row-more n last h = let e : last + 1 - n ≡ suc (last + 1 - suc n) = omega arith in rw e

module _ (p : ℕ → Bool) where
  -- those that do not pass
  abbrev pub others : List ℕ → List ℕ
  others ns = filter (λ (m : ℕ). not (p m)) ns

  others-yes : (n : ℕ) (ns : List ℕ) → p n ≡ false → others (n ∷ ns) ≡ n ∷ others ns
  others-yes n ns e = filter-yes _ n ns (ap not e)

  others-no : (n : ℕ) (ns : List ℕ) → p n ≡ true → others (n ∷ ns) ≡ others ns
  others-no n ns e = filter-no _ n ns (ap not e)

  -- ---- the first from n on, up to last

  abbrev pub first_from : (n last : ℕ) → ℕ
  first_from n last = head_or 0 (others (numbers n (last + 1 - n)))

  pub first-none : (n last : ℕ) → last < n → first_from n last ≡ 0
  unfolding numbers filter
  first-none n last h = let e : last + 1 - n ≡ 0 = omega arith in rw e

  pub first-here : (n last : ℕ) → n ≤ last → p n ≡ false → first_from n last ≡ n
  first-here n last h e = rw (row-more n last h, others-yes n (numbers (suc n) (last + 1 - suc n)) e)

  pub first-later : (n last : ℕ) → n ≤ last → p n ≡ true → first_from (n + 1) last ≡ first_from n last
  first-later n last h e = rw (add-one n, row-more n last h, others-no n (numbers (suc n) (last + 1 - suc n)) e)

  -- past a run of reached ones
  pub first-past : (r n last : ℕ) → ((m : ℕ) → n ≤ m → m < n + r → p m ≡ true) → first_from (n + r) last ≡ first_from n last
  first-past zero n last h = let e : n + 0 ≡ n = omega arith in rw e
  first-past (suc r) n last h =
      let e : n + suc r ≡ n + 1 + r = omega arith in
      rw e (first-past r (n + 1) last (λ m a b. h m (omega arith) (omega arith)) ∙ one (leb n last) refl)
    where
      one : (b : Bool) → leb n last ≡ b → first_from (n + 1) last ≡ first_from n last
      one true q = first-later n last (leb-true n last q) (h n (omega arith) (omega arith))
      one false q = let g = leb-false n last q in first-none (n + 1) last (omega arith) ∙ sym (first-none n last g)

  -- what the first is: it is not marked, and those before it are
  pub record First (n last f : ℕ) : Type 0 where
    pub no-less : n ≤ f
    pub within : f ≤ last
    pub free : p f ≡ false
    pub before : (m : ℕ) → n ≤ m → m < f → p m ≡ true

  -- a marked one more in front
  first-more : (n last f : ℕ) → p n ≡ true → First (n + 1) last f → First n last f
  first-more n last f e r =
      record {
        no-less = omega (arith, r.no-less);
        within = r.within;
        free = r.free;
        before = λ m a b. ⊎_elim (λ q. rw q e) (λ q. r.before m (omega (arith, q)) b) (same-or-not m n);
      }

  first-at : (c n last f : ℕ) → last + 1 - n ≡ c → f ≡ first_from n last → f ≢ 0 → First n last f
  first-at zero n last f w q z = absurd (z (q ∙ first-none n last (omega arith)))
  first-at (suc c) n last f w q z = go (p n) refl (λ y. first-at c (n + 1) last f (omega arith) y z)
    where
      go : (b : Bool) → p n ≡ b → (f ≡ first_from (n + 1) last → First (n + 1) last f) → First n last f
      go true e later = first-more n last f e (later (q ∙ sym (first-later n last (omega arith) e)))
      go false e later =
          let here : f ≡ n = q ∙ first-here n last (omega arith) e in
          record { no-less = omega arith; within = omega arith; free = rw here e; before = λ m a b. absurd (omega arith) }

  -- a first number that is not 0 is the first one from n to last that is not marked
  pub first-is : (n last f : ℕ) → f ≡ first_from n last → f ≢ 0 → First n last f
  first-is n last f q z = first-at (last + 1 - n) n last f refl q z

  -- where 0 says that there is none, all are marked
  pub none-is : (n last f : ℕ) → 1 ≤ n → f ≡ first_from n last → f ≡ 0 → (m : ℕ) → n ≤ m → m ≤ last → p m ≡ true
  none-is n last f l q z = none-at (last + 1 - n) n refl l (sym q ∙ z)
    where
      none-at : (c k : ℕ) → last + 1 - k ≡ c → 1 ≤ k → first_from k last ≡ 0 → (m : ℕ) → k ≤ m → m ≤ last → p m ≡ true
      none-at zero k w h y m a b = absurd (omega arith)
      none-at (suc c) k w h y m a b = here (p k) refl (none-at c (k + 1) (omega arith) (omega arith))
        where
          here : (b : Bool) → p k ≡ b → (first_from (k + 1) last ≡ 0 → (j : ℕ) → k + 1 ≤ j → j ≤ last → p j ≡ true) → p m ≡ true
          here true e later = ⊎_elim (λ r. rw r e)
              (λ r. later (first-later k last (omega arith) e ∙ y) m (omega (arith, r)) b) (same-or-not m k)
          here false e later = let none : k ≡ 0 = sym (first-here k last (omega arith) e) ∙ y in absurd (omega arith)

  -- ---- going round

  -- where 0 says that there is none
  empty-row : (n c : ℕ) → 1 ≤ n → head_or 0 (others (numbers n c)) ≡ 0 → others (numbers n c) ≡ []
  unfolding numbers
  empty-row n zero l h = unfold filter in refl
  empty-row n (suc c) l h = go (p n) refl (empty-row (suc n) c (omega arith))
    where
      go : (b : Bool) → p n ≡ b → (head_or 0 (others (numbers (suc n) c)) ≡ 0 → others (numbers (suc n) c) ≡ [])
          → others (n ∷ numbers (suc n) c) ≡ []
      go true e ih = others-no n _ e ∙ ih (sym (ap (head_or 0) (others-no n (numbers (suc n) c) e)) ∙ h)
      go false e ih = let z : n ≡ 0 = sym (ap (head_or 0) (others-yes n (numbers (suc n) c) e)) ∙ h in absurd (omega arith)

  head-append : (xs ys : List ℕ) → head_or 0 xs ≢ 0 → head_or 0 (xs ++ ys) ≡ head_or 0 xs
  head-append [] ys z = absurd (z refl)
  head-append (x ∷ xs) ys z = refl

  -- the first after a, going round from N to 1
  abbrev pub after_round : (N a : ℕ) → ℕ
  after_round N a = head_or 0 (others (numbers (suc a) (N - a) ++ numbers 1 (pred a)))

  -- its two rows, as the code has them
  rows : (N a : ℕ) → after_round N a ≡ head_or 0 (others (numbers (a + 1) (N + 1 - (a + 1))) ++ others (numbers 1 (a - 1 + 1 - 1)))
  rows N a =
      let e : N + 1 - (a + 1) ≡ N - a = omega arith in
      let f : a - 1 + 1 - 1 ≡ pred a = ap (λ (n : ℕ). n + 1 - 1) (sub-one a) ∙ omega arith in
      rw (e, f, add-one a) (ap (head_or 0) (filter-append (λ (m : ℕ). not (p m)) (numbers (suc a) (N - a)) (numbers 1 (pred a))))

  pub round-next : (N a n : ℕ) → n ≡ first_from (a + 1) N → n ≢ 0 → n ≡ after_round N a
  round-next N a n e z = e ∙ sym (rows N a ∙ head-append (others (numbers (a + 1) (N + 1 - (a + 1)))) _ (λ y. z (e ∙ y)))

  pub round-on : (N a n r : ℕ) → n ≡ first_from (a + 1) N → n ≡ 0 → r ≡ first_from 1 (a - 1) → r ≡ after_round N a
  round-on N a n r e z q =
      q ∙ sym (rows N a ∙ ap (λ (l : List ℕ). head_or 0 (l ++ others (numbers 1 (a - 1 + 1 - 1))))
      (empty-row (a + 1) (N + 1 - (a + 1)) (omega arith) (sym e ∙ z)))

  -- ---- how many

  -- where the first is f, the others come after it
  pub count-next : (c a last f : ℕ) → last + 1 - a ≡ c → f ≡ first_from a last → f ≢ 0 → length (others (numbers a (last + 1 - a)))
      ≡ suc (length (others (numbers (f + 1) (last + 1 - (f + 1)))))
  count-next zero a last f w e z = absurd (z (e ∙ first-none a last (omega arith)))
  count-next (suc c) a last f w e z = go (p a) refl (count-next c (suc a) last f (omega arith))
    where
      go : (b : Bool) → p a ≡ b
          → (f ≡ first_from (suc a) last → f ≢ 0 → length (others (numbers (suc a) (last + 1 - suc a)))
          ≡ suc (length (others (numbers (f + 1) (last + 1 - (f + 1))))))
          → length (others (numbers a (last + 1 - a))) ≡ suc (length (others (numbers (f + 1) (last + 1 - (f + 1)))))
      go true q ih = ap length (ap others (row-more a last (omega arith)) ∙ others-no a _ q)
          ∙ ih (e ∙ sym (ap (λ (k : ℕ). first_from k last) (sym (add-one a)) ∙ first-later a last (omega arith) q)) z
      go false q ih =
          let here : f ≡ a = e ∙ first-here a last (omega arith) q in
          ap length (ap others (row-more a last (omega arith)) ∙ others-yes a _ q)
          ∙ ap (λ (k : ℕ). suc (length (others (numbers k (last + 1 - k))))) (sym (add-one a) ∙ ap (λ (k : ℕ). k + 1) (sym here))

  -- where there is none, it is 0
  pub count-none : (a last : ℕ) → 1 ≤ a → 0 ≡ first_from a last → length (others (numbers a (last + 1 - a))) ≡ 0
  count-none a last l e = ap length (empty-row a (last + 1 - a) l (sym e))

  -- the first is no later than the last
  pub first-last : (c a last : ℕ) → last + 1 - a ≡ c → first_from a last ≤ last
  first-last zero a last w = omega (arith, first-none a last (omega arith))
  first-last (suc c) a last w = go (p a) refl (first-last c (suc a) last (omega arith))
    where
      go : (b : Bool) → p a ≡ b → first_from (suc a) last ≤ last → first_from a last ≤ last
      go true q ih = omega (arith, ih, ap (λ (k : ℕ). first_from k last) (sym (add-one a)) ∙ first-later a last (omega arith) q)
      go false q ih = omega (arith, first-here a last (omega arith) q)

  -- of so many nodes, those after one that are not marked
  abbrev pub rest_after : (N after : ℕ) → ℕ
  rest_after N after = length (others (numbers (after + 1) (N + 1 - (after + 1))))

  abbrev pub total : (N : ℕ) → ℕ
  total N = length (others (numbers 1 N))

  pub few-yes : (all N after f k want : ℕ) → all ≡ rest_after N after + k → f ≡ first_from (after + 1) N → f ≡ 0
      → k < want → true ≡ ltb all want
  few-yes all N after f k want e q z h = sym (lt-ltb all want (omega (arith, e, count-none (after + 1) N (omega arith) (sym z ∙ q))))

  pub few-no : (all N after k want : ℕ) → all ≡ rest_after N after + k → want ≤ k → false ≡ ltb all want
  few-no all N after k want e h = sym (le-ltb all want (omega (arith, e)))

  pub few-next : (all N after f k : ℕ) → all ≡ rest_after N after + k → f ≡ first_from (after + 1) N → f ≢ 0 → all
      ≡ rest_after N f + (k + 1)
  few-next all N after f k e q z = omega (arith, e, count-next (N + 1 - (after + 1)) (after + 1) N f refl q z)

  pub first-small : (N after f : ℕ) → N ≤ 65535 → f ≡ first_from (after + 1) N → f ≤ 65535
  first-small N after f h e = omega (arith, e, first-last (N + 1 - (after + 1)) (after + 1) N refl)

  -- those after a later one are no more
  row-less : (n last : ℕ) → length (others (numbers (n + 1) (last + 1 - (n + 1)))) ≤ length (others (numbers n (last + 1 - n)))
  row-less n last = go (leb n last) refl (p n) refl
    where
      go : (a : Bool) → leb n last ≡ a → (b : Bool) → p n ≡ b
          → length (others (numbers (n + 1) (last + 1 - (n + 1)))) ≤ length (others (numbers n (last + 1 - n)))
      go true q true e = rw (row-more n last (leb-true n last q), add-one n)
          (omega (arith, ap length (others-no n (numbers (suc n) (last + 1 - suc n)) e)))
      go true q false e = rw (row-more n last (leb-true n last q), add-one n)
          (omega (arith, ap length (others-yes n (numbers (suc n) (last + 1 - suc n)) e)))
      go false q b e =
          let g = leb-false n last q in
          let z : last + 1 - (n + 1) ≡ 0 = omega arith in
          rw z (unfold numbers filter in omega arith)

  rest-all : (N : ℕ) → rest_after N 0 ≡ total N
  rest-all N = let e : N + 1 - (0 + 1) ≡ N = omega arith in let f : 0 + 1 ≡ 1 = omega arith in rw (e, f)

  rest-less : (N a : ℕ) → rest_after N a ≤ total N
  rest-less N zero = omega (arith, rest-all N)
  rest-less N (suc a) = let e : suc a ≡ a + 1 = omega arith in rw e (omega (arith, rest-less N a, row-less (a + 1) N))

  -- of all nodes by those after one of them
  pub few-end : (N a want : ℕ) {b : Bool} → b ≡ ltb (rest_after N a) want → b ≡ false → false ≡ ltb (total N) want
  few-end N a want e h = sym (le-ltb (total N) want (omega (arith, rest-less N a, ltb-false (rest_after N a) want (sym e ∙ h))))
