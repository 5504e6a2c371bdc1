-- A script's number: where it lies by the script's length, that it goes by the request's order, and that number and script are each the
-- other's
-- inverse.
use Rattle.std.proofs.Common.{◌≡◌, ℕ, zero, suc, ◌+◌, ◌*◌, ◌/◌, ◌%◌, ◌<◌, ◌≤◌, Bool, true, false, cond, ◌&&◌, ◌||◌, eqb, ltb, ◌⊎◌, ◌↔◌, []}
use Rattle.std.proofs.Common.{◌∷◌, ◌++◌, length, sym, refl, ap, ◌∙◌, inl, inr, arith, length-append, ltb-true, le-ltb, lt-ltb, eq-eqb}
use Rattle.std.proofs.Common.{ne_eqb, eqb-true, le-leb, leb-true}
use mathlib.Core.Bool.{false≢true}
use Rattle.model.specs.Codes.{read_on}
use Rattle.list_laws.proofs.Tools.{Each, Each-append, all-each, Each-map, compared, and-iff}
use Rattle.model.specs.Scripts.{Script, is_script, action_before, first_differs, before, SCRIPTS, rank_on, rank, unrank, script_of}

-- ---- scripts

-- each action is one of the six
abbrev pub Six : Script → Type 0
Six s = Each (λ (a : ℕ). a ≤ 5) s

pub script-iff : (s : Script) → (is_script s ≡ true) ↔ ((length s ≤ 4) × Six s)
unfolding is_script
script-iff s = (to, from)
  where
    to : is_script s ≡ true → (length s ≤ 4) × Six s
    to e = let p = simp and-iff at e in (leb-true _ _ p.0, Each-map _ _ s (λ a h. leb-true a 5 h) ((all-each _ s).0 p.1))

    from : (length s ≤ 4) × Six s → is_script s ≡ true
    from p = simp and-iff (le-leb _ _ p.0, (all-each _ s).1 (Each-map _ _ s (λ a h. le-leb a 5 h) p.1))

-- ---- where the numbers of a length lie

-- n, then m times 6 times as many and one more: from 0 on 0, 1, 7, 43, 259, 1555, so many scripts are shorter than m
abbrev pub grown : (n m : ℕ) → ℕ
grown n zero = n
grown n (suc m) = grown (suc (6 * n)) m

pub rank-low : (n m : ℕ) (s : Script) → n ≤ m → grown n (length s) ≤ rank_on m s
unfolding rank_on
rank-low n m [] h = h
rank-low n m (a ∷ s) h = rank-low (suc (6 * n)) (6 * m + suc a) s (omega arith)

pub rank-high : (n m : ℕ) (s : Script) → Six s → m < n → rank_on m s < grown n (length s)
unfolding rank_on
rank-high n m [] c h = h
rank-high n m (a ∷ s) c h = rank-high (suc (6 * n)) (6 * m + suc a) s c.1 (omega (arith, c.0))

grown-more : (n m : ℕ) → n ≤ grown n m
grown-more n zero = omega arith
grown-more n (suc m) = omega (arith, grown-more (suc (6 * n)) m)

-- grown n m does not fall as m rises
pub grown-rises : (n l m : ℕ) → l ≤ m → grown n l ≤ grown n m
grown-rises n zero m h = grown-more n m
grown-rises n (suc l) zero h = absurd (omega arith)
grown-rises n (suc l) (suc m) h = grown-rises (suc (6 * n)) l m (omega arith)

-- grown n (m + 1) is 6 times grown n m, and one more
pub grown-suc : (n m : ℕ) → grown n (suc m) ≡ suc (6 * grown n m)
grown-suc n zero = refl
grown-suc n (suc m) = grown-suc (suc (6 * n)) m

pub rank-bound : (s : Script) → is_script s ≡ true → rank s < SCRIPTS
rank-bound s e = let p = (script-iff s).0 e in omega (arith, rank-high 1 0 s p.1 (omega arith), grown-rises 1 (length s) 4 p.0)

-- (6^length − 1) / 5 for the shorter ones, and the actions as digits in base 6
pub rank-digits : (g n : ℕ) (s : Script) → rank_on (g + n) s ≡ grown g (length s) + read_on 6 n s
unfolding rank_on read_on
rank-digits g n [] = refl
rank-digits g n (a ∷ s) = let e : 6 * (g + n) + suc a ≡ suc (6 * g) + (n * 6 + a) =
    omega arith in rw e (rank-digits (suc (6 * g)) (n * 6 + a) s)

-- ---- the order

-- a larger number before stays larger with as many actions after it
rank-ahead : (m n : ℕ) (s u : Script) → Six s → length s ≡ length u → m < n → rank_on m s < rank_on n u
unfolding rank_on
rank-ahead m n [] [] c l h = h
rank-ahead m n [] (b ∷ u) c l h = absurd (omega arith)
rank-ahead m n (a ∷ s) [] c l h = absurd (omega arith)
rank-ahead m n (a ∷ s) (b ∷ u) c l h = rank-ahead (6 * m + suc a) (6 * n + suc b) s u c.1 (omega arith) (omega (arith, c.0))

-- what holds of the six actions holds of each
pub of-six : (P : ℕ → Type 0) → P 0 → P 1 → P 2 → P 3 → P 4 → P 5 → (a : ℕ) → a ≤ 5 → P a
of-six P p q r s u v zero h = p
of-six P p q r s u v (suc zero) h = q
of-six P p q r s u v (suc (suc zero)) h = r
of-six P p q r s u v (suc (suc (suc zero))) h = s
of-six P p q r s u v (suc (suc (suc (suc zero)))) h = u
of-six P p q r s u v (suc (suc (suc (suc (suc zero))))) h = v
of-six P p q r s u v (suc (suc (suc (suc (suc (suc a)))))) h = absurd (omega arith)

-- insert before delete, then the smaller key: the actions' own order
pub action-order : (a b : ℕ) → a ≤ 5 → b ≤ 5 → action_before a b ≡ ltb a b
unfolding action_before
action-order a b h k =
    of-six (λ (a : ℕ). action_before a b ≡ ltb a b)
    (of-six (λ (b : ℕ). action_before 0 b ≡ ltb 0 b) refl refl refl refl refl refl b k)
    (of-six (λ (b : ℕ). action_before 1 b ≡ ltb 1 b) refl refl refl refl refl refl b k)
    (of-six (λ (b : ℕ). action_before 2 b ≡ ltb 2 b) refl refl refl refl refl refl b k)
    (of-six (λ (b : ℕ). action_before 3 b ≡ ltb 3 b) refl refl refl refl refl refl b k)
    (of-six (λ (b : ℕ). action_before 4 b ≡ ltb 4 b) refl refl refl refl refl refl b k)
    (of-six (λ (b : ℕ). action_before 5 b ≡ ltb 5 b) refl refl refl refl refl refl b k)
    a
    h

-- one action each: where they are the same, the rest decides
first-step : (n a b : ℕ) (s u : Script) → a ≤ 5 → b ≤ 5 → Six s → length s ≡ length u
    → (first_differs s u ≡ true → rank_on (6 * n + suc a) s < rank_on (6 * n + suc a) u)
    → (same : Bool) → eqb a b ≡ same → cond same (first_differs s u) (action_before a b) ≡ true
    → rank_on (6 * n + suc a) s < rank_on (6 * n + suc b) u
first-step n a b s u h k c l rest true q e = rw (← (eqb-true a b q)) (rest e)
first-step n a b s u h k c l rest false q e =
    rank-ahead (6 * n + suc a) (6 * n + suc b) s u c l (omega (arith, ltb-true a b (sym (action-order a b h k) ∙ e)))

-- by the first action that differs
first-less : (n : ℕ) (s u : Script) → Six s → Six u → length s ≡ length u → first_differs s u ≡ true → rank_on n s < rank_on n u
unfolding first_differs rank_on
first-less n [] u c d l e = absurd (false≢true e)
first-less n (a ∷ s) [] c d l e = absurd (false≢true e)
first-less n (a ∷ s) (b ∷ u) c d l e =
    first-step n a b s u c.0 d.0 c.1 (omega arith) (first-less (6 * n + suc a) s u c.1 d.1 (omega arith)) (eqb a b) refl e

-- a script that comes before another has the smaller number
pub before-less : (s u : Script) → is_script s ≡ true → is_script u ≡ true → before s u ≡ true → rank s < rank u
unfolding before
before-less s u c d e = let p = (script-iff s).0 c in let q = (script-iff u).0 d in go p.1 q.1 (ltb (length s) (length u)) refl e
  where
    go : Six s → Six u → (less : Bool) → ltb (length s) (length u) ≡ less → less || (eqb (length s) (length u) && first_differs s u)
        ≡ true → rank s < rank u
    go p q true l e = omega
        (arith, rank-high 1 0 s p (omega arith), grown-rises 0 (suc (length s)) (length u) (ltb-true _ _ l), rank-low 0 0 u (omega arith))
    go p q false l e = let f = (and-iff _ _).0 e in first-less 0 s u p q (eqb-true _ _ f.0) f.1

-- of two scripts of one length that are not the same one comes first
abbrev OneFirst : Script → Script → Type 0
OneFirst s u = (s ≡ u) ⊎ ((first_differs s u ≡ true) ⊎ (first_differs u s ≡ true))

one-first-step : (a b : ℕ) (s u : Script) → a ≤ 5 → b ≤ 5 → OneFirst s u → (a < b) ⊎ ((a ≡ b) ⊎ (b < a)) → OneFirst (a ∷ s) (b ∷ u)
unfolding first_differs
one-first-step a b s u c d r (inl h) = inr (inl (rw (ne_eqb a b (λ q. omega arith), action-order a b c d) (lt-ltb a b h)))
one-first-step a b s u c d r (inr (inr h)) = inr (inr (rw (ne_eqb b a (λ q. omega arith), action-order b a d c) (lt-ltb b a h)))
one-first-step a b s u c d (inl r) (inr (inl q)) = inl (cc)
one-first-step a b s u c d (inr (inl r)) (inr (inl q)) = inr (inl (rw (eq-eqb a b q) r))
one-first-step a b s u c d (inr (inr r)) (inr (inl q)) = inr (inr (rw (eq-eqb b a (sym q)) r))

one-first : (s u : Script) → Six s → Six u → length s ≡ length u → OneFirst s u
one-first [] [] c d l = inl refl
one-first [] (b ∷ u) c d l = absurd (omega arith)
one-first (a ∷ s) [] c d l = absurd (omega arith)
one-first (a ∷ s) (b ∷ u) c d l = one-first-step a b s u c.0 d.0 (one-first s u c.1 d.1 (omega arith)) (compared a b)

-- and of any two
same-length : (s u : Script) → length s ≡ length u → first_differs s u ≡ true → before s u ≡ true
unfolding before
same-length s u l e = rw (le-ltb (length s) (length u) (omega arith), eq-eqb (length s) (length u) l) e

pub before-total : (s u : Script) → is_script s ≡ true → is_script u ≡ true → (s ≡ u) ⊎ ((before s u ≡ true) ⊎ (before u s ≡ true))
unfolding before
before-total s u c d = go (compared (length s) (length u)) (one-first s u ((script-iff s).0 c).1 ((script-iff u).0 d).1)
  where
    same : length s ≡ length u → OneFirst s u → (s ≡ u) ⊎ ((before s u ≡ true) ⊎ (before u s ≡ true))
    same l (inl e) = inl e
    same l (inr (inl e)) = inr (inl (same-length s u l e))
    same l (inr (inr e)) = inr (inr (same-length u s (sym l) e))

    go : (length s < length u) ⊎ ((length s ≡ length u) ⊎ (length u < length s)) → (length s ≡ length u → OneFirst s u)
        → (s ≡ u) ⊎ ((before s u ≡ true) ⊎ (before u s ≡ true))
    go (inl h) r = inr (inl (rw (lt-ltb _ _ h)))
    go (inr (inr h)) r = inr (inr (rw (lt-ltb _ _ h)))
    go (inr (inl h)) r = same h (r h)

-- The order of the scripts is that of their numbers.
pub rank-order : (s u : Script) → is_script s ≡ true → is_script u ≡ true → (before s u ≡ true) ↔ (rank s < rank u)
rank-order s u c d = (before-less s u c d, go (before-total s u c d))
  where
    go : (s ≡ u) ⊎ ((before s u ≡ true) ⊎ (before u s ≡ true)) → rank s < rank u → before s u ≡ true
    go (inl e) h = absurd (omega (arith, ap rank e))
    go (inr (inl e)) h = e
    go (inr (inr e)) h = absurd (omega (arith, before-less u s d c e))

-- no two scripts have one number
pub rank-once : (s u : Script) → is_script s ≡ true → is_script u ≡ true → rank s ≡ rank u → s ≡ u
rank-once s u c d q = go (before-total s u c d)
  where
    go : (s ≡ u) ⊎ ((before s u ≡ true) ⊎ (before u s ≡ true)) → s ≡ u
    go (inl e) = e
    go (inr (inl e)) = absurd (omega (arith, before-less s u c d e))
    go (inr (inr e)) = absurd (omega (arith, before-less u s d c e))

-- ---- from number to script

pub rank-snoc : (n : ℕ) (s : Script) (a : ℕ) → rank_on n (s ++ (a ∷ [])) ≡ 6 * rank_on n s + suc a
unfolding rank_on
rank-snoc n [] a = refl
rank-snoc n (b ∷ s) a = rank-snoc (6 * n + suc b) s a

pub unrank-six : (m n : ℕ) → Six (unrank m n)
unfolding unrank
unrank-six zero n = tt
unrank-six (suc m) zero = tt
unrank-six (suc m) (suc n) = Each-append _ (unrank m (n / 6)) (n % 6 ∷ []) (unrank-six m (n / 6)) (omega arith, tt)

-- with m actions at most, a number's script has at most m
pub unrank-length : (m n : ℕ) → length (unrank m n) ≤ m
unfolding unrank
unrank-length zero n = omega arith
unrank-length (suc m) zero = omega arith
unrank-length (suc m) (suc n) = simp length-append (omega (arith, unrank-length m (n / 6)))

pub unrank-rank : (m n : ℕ) → n < grown 1 m → rank (unrank m n) ≡ n
unfolding unrank rank_on
unrank-rank zero n h = omega arith
unrank-rank (suc m) zero h = refl
unrank-rank (suc m) (suc n) h =
    rank-snoc 0 (unrank m (n / 6)) (n % 6) ∙ omega (arith, unrank-rank m (n / 6) (omega (arith, grown-suc 1 m)))

-- The script of a number is one.
pub script-is : (n : ℕ) → is_script (script_of n) ≡ true
script-is n = (script-iff (script_of n)).1 (unrank-length 4 n, unrank-six 4 n)

-- A number gives its script, and the script gives its number;
pub script-rank : (n : ℕ) → n < SCRIPTS → rank (script_of n) ≡ n
script-rank n h = unrank-rank 4 n h

-- and the other way.
pub rank-script : (s : Script) → is_script s ≡ true → script_of (rank s) ≡ s
rank-script s c = rank-once (script_of (rank s)) s (script-is (rank s)) c (script-rank (rank s) (rank-bound s c))

-- Each of the scripts once,
pub script-once : (i j : ℕ) → i < SCRIPTS → j < SCRIPTS → script_of i ≡ script_of j → i ≡ j
script-once i j h k e = sym (script-rank i h) ∙ ap rank e ∙ script-rank j k

-- and none missing.
pub script-there : (s : Script) → is_script s ≡ true → (n : ℕ) × (n < SCRIPTS) × (script_of n ≡ s)
script-there s c = (rank s, rank-bound s c, rank-script s c)

-- They come in the request's order.
pub script-order : (i j : ℕ) → i < SCRIPTS → j < SCRIPTS → (before (script_of i) (script_of j) ≡ true) ↔ (i < j)
script-order i j h k =
    let r = rank-order (script_of i) (script_of j) (script-is i) (script-is j) in
    (λ e. omega (arith, r.0 e, script-rank i h, script-rank j k), λ l. r.1 (omega (arith, script-rank i h, script-rank j k)))

-- ---- the length, by where the number lies

-- the number of a script lies among the numbers of the scripts of its length
pub script-within : (n : ℕ) → n < SCRIPTS → (grown 0 (length (script_of n)) ≤ n) × (n < grown 1 (length (script_of n)))
script-within n h =
    let s = script_of n in (
      omega (arith, script-rank n h, rank-low 0 0 s (omega arith)),
      omega (arith, script-rank n h, rank-high 1 0 s (unrank-six 4 n) (omega arith)),
    )

-- the numbers from that of the first script of l actions on, below that of the first longer one, have l actions
pub script-length : (l n : ℕ) → l ≤ 4 → grown 0 l ≤ n → n < grown 1 l → length (script_of n) ≡ l
script-length l n h low high =
    go (length (script_of n)) (script-within n (omega (arith, grown-rises 1 l 4 h))) (compared (length (script_of n)) l)
  where
    go : (m : ℕ) → (grown 0 m ≤ n) × (n < grown 1 m) → (m < l) ⊎ ((m ≡ l) ⊎ (l < m)) → m ≡ l
    go m w (inl k) = absurd (omega (arith, w.1, grown-rises 0 (suc m) l k))
    go m w (inr (inl e)) = e
    go m w (inr (inr k)) = absurd (omega (arith, w.0, grown-rises 0 (suc l) m k))

-- with just as many actions as it has
pub unrank-enough : (l n : ℕ) → l ≤ 4 → n < grown 1 l → unrank l n ≡ script_of n
unrank-enough l n h high =
    rank-once (unrank l n) (script_of n) ((script-iff (unrank l n)).1 (omega (arith, unrank-length l n), unrank-six l n)) (script-is n)
    (unrank-rank l n high ∙ sym (script-rank n (omega (arith, grown-rises 1 l 4 h))))
