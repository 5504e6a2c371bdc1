-- A script's words, gone through action by action, and filled in from the last action on.
use Rattle.std.proofs.Common.{◌≡◌, ℕ, zero, suc, ◌+◌, ◌-◌, ◌*◌, ◌/◌, ◌%◌, ◌<◌, ◌≤◌, Bool, true, false, leb, [], ◌∷◌, ◌++◌, length, get_or}
use Rattle.std.proofs.Common.{take, drop, set, replicate, sym, refl, ap, ◌∙◌, append_assoc, add-one, arith, length-drop, length-set}
use Rattle.std.proofs.Common.{drop_of_length-le, take_all, drop-cons, drop-drop, ne_eqb, le-leb}
use Rattle.std.proofs.lemmas.List.{length-take, drop-set, drop-replicate}
use borrow.Author.Tests.{lt-leb}
use Rattle.model.specs.Table.{Words, at, all_zero}
use Rattle.model.specs.SoundTest.{all}
use Rattle.model.specs.Scripts.{Script, rank_on, actions_in, unrank, script_of, script_words, form_script}
use Rattle.list_laws.proofs.Tools.{and-iff, leb-iff}
use Rattle.short_laws.proofs.Rank.{grown, grown-suc, grown-rises, unrank-length, script-within, unrank-enough}

-- ---- none is above a number

abbrev pub within : ℕ → Words → Bool
within most ws = all (λ (w : ℕ). leb w most) ws

zeros-within : (ws : Words) → within 0 ws ≡ all_zero ws
unfolding all all_zero
zeros-within [] = refl
zeros-within (zero ∷ ws) = zeros-within ws
zeros-within (suc w ∷ ws) = rw (lt-leb (suc w) 0 (omega arith), ne_eqb (suc w) 0 (λ e. omega arith))

-- the first of those that are left is not, and the rest are not
pub within-both : (most : ℕ) (ws : Words) (i : ℕ) → i < length ws → within most (drop i ws) ≡ true → (get_or ws i 0 ≤ most)
    × (within most (drop (i + 1) ws) ≡ true)
unfolding all
within-both most ws i h e = let n : i + 1 ≡ suc i = add-one i in rw n (simp (and-iff, leb-iff) at (rw (drop-cons ws i 0 h) at e))

-- ---- the parts of a script's words

-- the actions, and what is past them, as they are cut out
pub actions-cut : (ws : Words) (n : ℕ) → take (n + 1 - 1) (drop 1 ws) ≡ take n (drop 1 ws)
actions-cut ws n = let e : n + 1 - 1 ≡ n = omega arith in rw e

past-cut : (ws : Words) (n m : ℕ) → length ws ≤ n + 1 + m → take m (drop (n + 1) ws) ≡ drop n (drop 1 ws)
past-cut ws n m h = let e : n + 1 ≡ 1 + n =
    omega arith in take_all m (drop (n + 1) ws) (omega (arith, length-drop (n + 1) ws)) ∙ rw e (sym (drop-drop n 1 ws))

-- what they pass
module _ (ws : Words) (h : at ws 0 ≤ 4) (a : Bool) (e : a ≡ within 5 (actions_in ws)) where
  six : {t : Bool} → a ≡ t → within 5 (actions_in ws) ≡ t
  six q = sym e ∙ q

  pub form-past : a ≡ true → (m : ℕ) → length ws ≤ at ws 0 + 1 + m → (b : Bool) → b
      ≡ within 0 (take m (drop (at ws 0 + 1) ws)) → b ≡ form_script ws
  unfolding form_script
  form-past q m l b f =
      rw (le-leb (at ws 0) 4 h, six q) (f ∙ ap (within 0) (past-cut ws (at ws 0) m l) ∙ zeros-within (drop (at ws 0) (drop 1 ws)))

  pub form-other : a ≡ false → a ≡ form_script ws
  unfolding form_script
  form-other q = rw (le-leb (at ws 0) 4 h, six q) q

pub form-long : (ws : Words) → 4 < at ws 0 → false ≡ form_script ws
unfolding form_script
form-long ws h = rw (lt-leb (at ws 0) 4 h)

pub form-says : (ws : Words) → form_script ws ≡ true → (at ws 0 ≤ 4) × (length (actions_in ws) ≤ 4) × (within 5 (actions_in ws) ≡ true)
unfolding form_script
form-says ws e = let p = simp (and-iff, leb-iff) at e in (p.0, omega (arith, p.0, length-take (at ws 0) (drop 1 ws)), p.1.0)

-- ---- the number

pub rank-next : (s : Script) (i n : ℕ) → i < length s → rank_on n (drop i s) ≡ rank_on (6 * n + get_or s i 0 + 1) (drop (i + 1) s)
unfolding rank_on
rank-next s i n h = let e : 6 * n + get_or s i 0 + 1 ≡ 6 * n + suc (get_or s i 0) = omega arith in rw (drop-cons s i 0 h, e, add-one i)

pub rank-none : (s : Script) (i n : ℕ) → length s ≤ i → rank_on n (drop i s) ≡ n
unfolding rank_on
rank-none s i n h = rw (drop_of_length-le s {i = i} h)

-- it stays below the first number of the next length
pub rank-below : (i n a : ℕ) → n < grown 1 i → a ≤ 5 → 6 * n + a + 1 < grown 1 (i + 1)
rank-below i n a h k = let e : i + 1 ≡ suc i = add-one i in rw e (omega (arith, grown-suc 1 i))

pub rank-small : (i n : ℕ) → i ≤ 4 → n < grown 1 i → n < 1555
rank-small i n h k = omega (arith, grown-rises 1 i 4 h)

-- ---- filled in from the last action on

pub grown-some : (i : ℕ) → 0 < i → 0 < grown 0 i
grown-some zero h = absurd (omega arith)
grown-some (suc i) h = omega (arith, grown-suc 0 i)

-- one level down
pub grown-down : (i n : ℕ) → 0 < i → grown 0 i ≤ n → n < grown 1 i → (grown 0 (i - 1) ≤ (n - 1) / 6) × ((n - 1) / 6 < grown 1 (i - 1))
grown-down zero n h low high = absurd (omega arith)
grown-down (suc i) n h low high = let e : suc i - 1 ≡ i =
    omega arith in rw e (omega (arith, low, grown-suc 0 i), omega (arith, low, high, grown-suc 0 i, grown-suc 1 i))

abbrev pub filled : (i n : ℕ) → Words → Words
filled zero n ws = ws
filled (suc i) zero ws = ws
filled (suc i) (suc n) ws = filled i (n / 6) (set ws (suc i) (n % 6))

pub filled-none : (i n : ℕ) (ws : Words) → i ≤ 0 → filled i n ws ≡ ws
filled-none zero n ws h = refl
filled-none (suc i) n ws h = absurd (omega arith)

-- one turn
pub filled-next : (i n : ℕ) (ws : Words) → 0 < i → 0 < n → filled (i - 1) ((n - 1) / 6) (set ws i ((n - 1) % 6)) ≡ filled i n ws
filled-next zero n ws h k = absurd (omega arith)
filled-next (suc i) zero ws h k = absurd (omega arith)
filled-next (suc i) (suc n) ws h k =
    let e : suc i - 1 ≡ i = omega arith in
    let f : suc n - 1 ≡ n = omega arith in
    rw (e, f)

-- all of it
filled-all : (i n w : ℕ) (ws : Words) → i ≤ length ws → grown 0 i ≤ n → filled i n (w ∷ ws) ≡ w ∷ (unrank i n ++ drop i ws)
unfolding unrank
filled-all zero n w ws h l = refl
filled-all (suc i) zero w ws h l = absurd (omega (arith, l, grown-suc 0 i))
filled-all (suc i) (suc n) w ws h l =
    filled-all i (n / 6) w (set ws i (n % 6)) (simp length-set (omega arith)) (omega (arith, l, grown-suc 0 i))
    ∙ ap (λ (q : Words). w ∷ q) (rw (drop-set ws i (n % 6) (omega arith), add-one i, append_assoc))

-- the script's words
pub filled-words : (n : ℕ) → n < 1555 → filled (length (script_of n)) n (set (replicate 5 0) 0 (length (script_of n)))
    ≡ script_words (script_of n)
unfolding script_words
filled-words n h =
    let l = length (script_of n) in
    let few : l ≤ 4 = unrank-length 4 n in
    filled-all l n l (replicate 4 0) few (script-within n h).0
    ∙ ap (λ (q : Words). l ∷ q) (rw (unrank-enough l n few (script-within n h).1, drop-replicate {X = ℕ} l 4 0))
