-- Steps done one after another: what holds before each, and what at the end.
use Rattle.std.proofs.Common.{◌≡◌, ℕ, zero, suc, ◌<◌, List, [], ◌∷◌, ◌++◌, length, take, refl, arith}
use Rattle.list_laws.proofs.Tools.{Each}

-- the state after all steps
unfoldable pub do_all : {A S : Type 0} → (A → S → S) → List A → S → S
do_all f [] s = s
do_all f (q ∷ qs) s = do_all f qs (f q s)

-- P holds before each step, and Q at the end
abbrev pub Until : {A S : Type 0} → (A → S → S) → (P Q : S → Type 0) → List A → S → Type 0
Until f P Q [] s = Q s
Until f P Q (q ∷ qs) s = P s × Until f P Q qs (f q s)

-- P holds at the start and after each step
abbrev pub Along : {A S : Type 0} → (A → S → S) → (P : S → Type 0) → List A → S → Type 0
Along f P qs s = Until f P P qs s

-- P holds before the first step, Q before each later one, and R at the end; the first step makes the change
abbrev pub AtFirst : {A S : Type 0} → (A → S → S) → (P Q R : S → Type 0) → List A → S → Type 0
AtFirst f P Q R [] s = P s
AtFirst f P Q R (q ∷ qs) s = P s × Until f Q R qs (f q s)

module _ {A S : Type 0} (f : A → S → S) where
  -- doing joined steps is doing the first part, then the second
  pub all-append : (qs rs : List A) (s : S) → do_all f (qs ++ rs) s ≡ do_all f rs (do_all f qs s)
  unfolding do_all
  all-append [] rs s = refl
  all-append (q ∷ qs) rs s = all-append qs rs (f q s)

  -- if P holds before each step of qs, then before each of rs with R at the end, so it does for both together
  pub until-append : (P Q R : S → Type 0) (qs rs : List A) (s : S) → Until f P Q qs s → Until f P R rs (do_all f qs s)
      → Until f P R (qs ++ rs) s
  unfolding do_all
  until-append P Q R [] rs s a b = b
  until-append P Q R (q ∷ qs) rs s a b = (a.0, until-append P Q R qs rs (f q s) a.1 b)

  -- after all steps Q holds
  pub until-end : (P Q : S → Type 0) (qs : List A) (s : S) → Until f P Q qs s → Q (do_all f qs s)
  unfolding do_all
  until-end P Q [] s a = a
  until-end P Q (q ∷ qs) s a = until-end P Q qs (f q s) a.1

  -- after each first part but the whole
  pub until-before : (P Q : S → Type 0) (qs : List A) (s : S) → Until f P Q qs s → (j : ℕ) → j < length qs → P (do_all f (take j qs) s)
  unfolding do_all
  until-before P Q [] s a j h = absurd (omega arith)
  until-before P Q (q ∷ qs) s a zero h = a.0
  until-before P Q (q ∷ qs) s a (suc j) h = until-before P Q qs (f q s) a.1 j (omega arith)

  -- P holds at the start
  pub first-start : (P Q R : S → Type 0) (qs : List A) (s : S) → AtFirst f P Q R qs s → P s
  first-start P Q R [] s a = a
  first-start P Q R (q ∷ qs) s a = a.0

  -- after the first step and before the last, Q holds
  pub first-between : (P Q R : S → Type 0) (qs : List A) (s : S) → AtFirst f P Q R qs s → (j : ℕ) → 0 < j → j < length qs
      → Q (do_all f (take j qs) s)
  unfolding do_all
  first-between P Q R [] s a j g h = absurd (omega arith)
  first-between P Q R (q ∷ qs) s a zero g h = absurd (omega arith)
  first-between P Q R (q ∷ qs) s a (suc j) g h = until-before Q R qs (f q s) a.1 j (omega arith)

  -- after all steps, if there is one, R holds
  pub first-end : (P Q R : S → Type 0) (qs : List A) (s : S) → AtFirst f P Q R qs s → 0 < length qs → R (do_all f qs s)
  unfolding do_all
  first-end P Q R [] s a g = absurd (omega arith)
  first-end P Q R (q ∷ qs) s a g = until-end Q R qs (f q s) a.1

  -- what follows from P holds before each step, what follows from Q at the end
  pub until-map : (P P' Q Q' : S → Type 0) → ((s : S) → P s → P' s) → ((s : S) → Q s → Q' s) → (qs : List A) (s : S)
      → Until f P Q qs s → Until f P' Q' qs s
  until-map P P' Q Q' g h [] s a = h s a
  until-map P P' Q Q' g h (q ∷ qs) s a = (g s a.0, until-map P P' Q Q' g h qs (f q s) a.1)

  -- what follows from P, Q and R holds at the start, between the steps and at the end
  pub first-map : (P P' Q Q' R R' : S → Type 0) → ((s : S) → P s → P' s) → ((s : S) → Q s → Q' s) → ((s : S) → R s → R' s)
      → (qs : List A) (s : S) → AtFirst f P Q R qs s → AtFirst f P' Q' R' qs s
  first-map P P' Q Q' R R' a b c [] s h = a s h
  first-map P P' Q Q' R R' a b c (q ∷ qs) s h = (a s h.0, until-map Q Q' R R' b c qs (f q s) h.1)

  -- two such statements about the same steps hold together
  pub until-both : (P P' Q Q' : S → Type 0) (qs : List A) (s : S) → Until f P Q qs s → Until f P' Q' qs s
      → Until f (λ (s : S). P s × P' s) (λ (s : S). Q s × Q' s) qs s
  until-both P P' Q Q' [] s a b = (a, b)
  until-both P P' Q Q' (q ∷ qs) s a b = ((a.0, b.0), until-both P P' Q Q' qs (f q s) a.1 b.1)

  -- what holds all along the steps holds beside P, Q and R
  pub first-both : (P Q R Z : S → Type 0) (qs : List A) (s : S) → AtFirst f P Q R qs s → Along f Z qs s
      → AtFirst f (λ (s : S). P s × Z s) (λ (s : S). Q s × Z s) (λ (s : S). R s × Z s) qs s
  first-both P Q R Z [] s a b = (a, b)
  first-both P Q R Z (q ∷ qs) s a b = ((a.0, b.0), until-both Q Z R Z qs (f q s) a.1 b.1)

  -- what each step keeps
  pub along-each : (P : S → Type 0) (R : A → Type 0) → ((q : A) (s : S) → R q → P s → P (f q s)) → (qs : List A) (s : S)
      → Each R qs → P s → Along f P qs s
  along-each P R k [] s e p = p
  along-each P R k (q ∷ qs) s e p = (p, along-each P R k qs (f q s) e.1 (k q s e.0 p))
