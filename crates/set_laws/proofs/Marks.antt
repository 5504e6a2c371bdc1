-- Marks as bits: a mark more, a mark less, and no other changed.
use Rattle.std.proofs.Common.{◌≡◌, ℕ, zero, suc, ◌+◌, ◌-◌, ◌*◌, ◌/◌, ◌%◌, ◌^◌, ◌<◌, Bool, true, false, cond, ◌||◌, eqb, ◌≢◌, List, [], ◌∷◌}
use Rattle.std.proofs.Common.{length, get_or, set, replicate, bit_or, bit_xor, sym, refl, ap, ◌∙◌, ⊎_elim, one-mul, arith, length-set}
use Rattle.std.proofs.Common.{get_or-set_other, get_or-set_same, pow_pos, pow-add, eq-eqb, ne_eqb, eqb-true}
use native.Mathlib.Nat.{div-eq_of_lt}
use lib.Bits.{or_shr, or_mod, or_zero_r, xor_shr, xor_mod, xor_zero_r, shifted_even}
use lib.Pow.{pow-lt, shl-shr}
use Rattle.model.specs.Table.{Words, at}
use Rattle.model.specs.SoundTest.{elem}
use Rattle.model.specs.Marks.{has, put, cleared, put_each}
use Rattle.list_laws.proofs.Tools.{Each, Each-map, same-or-not, compared}
use Rattle.list_laws.proofs.Lists.{at-replicate}

-- ---- the bits of a word

or-bit : (a b k : ℕ) → bit_or a b / 2 ^ k % 2 ≡ bit_or (a / 2 ^ k % 2) (b / 2 ^ k % 2)
or-bit a b k = ap (λ (x : ℕ). x % 2) (or_shr a b k) ∙ or_mod (a / 2 ^ k) (b / 2 ^ k) 1

xor-bit : (a b k : ℕ) → bit_xor a b / 2 ^ k % 2 ≡ bit_xor (a / 2 ^ k % 2) (b / 2 ^ k % 2)
xor-bit a b k = ap (λ (x : ℕ). x % 2) (xor_shr a b k) ∙ xor_mod (a / 2 ^ k) (b / 2 ^ k) 1

or-one : (x : ℕ) → x < 2 → bit_or x 1 ≡ 1
or-one zero h = refl
or-one (suc zero) h = refl
or-one (suc (suc x)) h = absurd (omega arith)

power-same : (k : ℕ) → 2 ^ k / 2 ^ k % 2 ≡ 1
power-same k = let e : 1 * 2 ^ k ≡ 2 ^ k = one-mul (2 ^ k) in ap (λ (x : ℕ). x / 2 ^ k % 2) (sym e) ∙ ap (λ (x : ℕ). x % 2) (shl-shr 1 k)

power-above : (d k : ℕ) → 2 ^ (suc d + k) / 2 ^ k % 2 ≡ 0
power-above d k =
    ap (λ (x : ℕ). x / 2 ^ k % 2) (pow-add 2 (suc d) k)
    ∙ ap (λ (x : ℕ). x % 2) (shl-shr (2 ^ suc d) k ∙ sym (one-mul (2 ^ suc d))) ∙ shifted_even 1 d

power-other : (j k : ℕ) → j ≢ k → 2 ^ j / 2 ^ k % 2 ≡ 0
power-other j k d = ⊎_elim (λ h. ap (λ (x : ℕ). x % 2) (div-eq_of_lt (pow-lt h))) (⊎_elim (λ e. absurd (d e)) above) (compared j k)
  where
    above : k < j → 2 ^ j / 2 ^ k % 2 ≡ 0
    above h = let e : j ≡ suc (j - k - 1) + k = omega arith in ap (λ (x : ℕ). 2 ^ x / 2 ^ k % 2) e ∙ power-above (j - k - 1) k

-- ---- one bit of its word changed, by an operation that goes bit by bit and leaves a bit as it is beside 0

module _ (op : ℕ → ℕ → ℕ) (op-bit : (a b k : ℕ) → op a b / 2 ^ k % 2 ≡ op (a / 2 ^ k % 2) (b / 2 ^ k % 2))
    (op-zero : (a : ℕ) → op a 0 ≡ a) where
  abbrev changed : Words → (x : ℕ) → Words
  changed ws x = set ws (x / 64) (op (at ws (x / 64)) (2 ^ (x % 64)))

  changed-same : (ws : Words) (x : ℕ) → x < 64 * length ws → at (changed ws x) (x / 64) / 2 ^ (x % 64) % 2
      ≡ op (at ws (x / 64) / 2 ^ (x % 64) % 2) 1
  changed-same ws x h =
      let w = at ws (x / 64) in
      let k = x % 64 in
      ap (λ (y : ℕ). y / 2 ^ k % 2) (get_or-set_same ws (x / 64) (op w (2 ^ k)) 0 (omega arith)) ∙ op-bit w (2 ^ k) k
      ∙ ap (op (w / 2 ^ k % 2)) (power-same k)

  changed-other : (ws : Words) (x y : ℕ) → x < 64 * length ws → y ≢ x → has (changed ws x) y ≡ has ws y
  unfolding has
  changed-other ws x y h d = ⊎_elim here elsewhere (same-or-not (y / 64) (x / 64))
    where
      elsewhere : y / 64 ≢ x / 64 → has (changed ws x) y ≡ has ws y
      elsewhere e = ap (λ (z : ℕ). eqb (z / 2 ^ (y % 64) % 2) 1)
          (get_or-set_other ws (x / 64) (y / 64) (op (at ws (x / 64)) (2 ^ (x % 64))) 0 e)

      here : y / 64 ≡ x / 64 → has (changed ws x) y ≡ has ws y
      here e =
          let w = at ws (x / 64) in
          let j = x % 64 in
          let k = y % 64 in
          let same : at (changed ws x) (y / 64) ≡ op w (2 ^ j) =
          ap (at (changed ws x)) e ∙ get_or-set_same ws (x / 64) (op w (2 ^ j)) 0 (omega arith) in
          ap (λ (z : ℕ). eqb (z / 2 ^ k % 2) 1) same
          ∙ ap (λ (z : ℕ). eqb z 1)
          (op-bit w (2 ^ j) k ∙ ap (op (w / 2 ^ k % 2)) (power-other j k (λ q. d (omega arith))) ∙ op-zero (w / 2 ^ k % 2))
          ∙ ap (λ (i : ℕ). eqb (at ws i / 2 ^ k % 2) 1) (sym e)

-- ---- a mark more

-- a number that is put in, if the words have a bit for it, is marked
pub has-put-same : (ws : Words) (x : ℕ) → x < 64 * length ws → has (put ws x) x ≡ true
unfolding has put
has-put-same ws x h =
    ap (λ (y : ℕ). eqb y 1) (changed-same bit_or or-bit or_zero_r ws x h ∙ or-one (at ws (x / 64) / 2 ^ (x % 64) % 2) (omega arith))

-- putting in x changes no other number's mark
pub has-put-other : (ws : Words) (x y : ℕ) → x < 64 * length ws → y ≢ x → has (put ws x) y ≡ has ws y
unfolding put
has-put-other = changed-other bit_or or-bit or_zero_r

-- putting in a mark keeps the number of words
pub put-length : (ws : Words) (x : ℕ) → length (put ws x) ≡ length ws
unfolding put
put-length ws x = length-set ws (x / 64) (bit_or (get_or ws (x / 64) 0) (2 ^ (x % 64)))

-- in words that are 0 no number is marked
pub none-marked : (n x : ℕ) → has (replicate n 0) x ≡ false
unfolding has
none-marked n x = ap (λ (w : ℕ). eqb (w / 2 ^ (x % 64) % 2) 1) (at-replicate n (x / 64))
    ∙ ap (λ (q : ℕ). eqb (q % 2) 1) (div-eq_of_lt (pow_pos (x % 64)))

-- ---- a mark less

-- the word of x with its bit turned
abbrev turned : Words → (x : ℕ) → Words
turned = changed bit_xor xor-bit xor_zero_r

turned-same : (ws : Words) (x : ℕ) → x < 64 * length ws → has ws x ≡ true → has (turned ws x) x ≡ false
unfolding has
turned-same ws x h e =
    ap (λ (y : ℕ). eqb y 1)
    (changed-same bit_xor xor-bit xor_zero_r ws x h ∙ ap (λ (y : ℕ). bit_xor y 1) (eqb-true (at ws (x / 64) / 2 ^ (x % 64) % 2) 1 e))

-- clearing a mark keeps the number of words
pub cleared-length : (ms : Words) (x : ℕ) → length (cleared ms x) ≡ length ms
unfolding cleared
cleared-length ms x = go (has ms x)
  where
    go : (b : Bool) → length (cond b (turned ms x) ms) ≡ length ms
    go true = length-set ms (x / 64) (bit_xor (at ms (x / 64)) (2 ^ (x % 64)))
    go false = refl

-- a number whose mark is cleared, if the words have a bit for it, is not marked
pub has-cleared-same : (ms : Words) (x : ℕ) → x < 64 * length ms → has (cleared ms x) x ≡ false
unfolding cleared
has-cleared-same ms x h = go (has ms x) refl
  where
    go : (b : Bool) → has ms x ≡ b → has (cond (has ms x) (turned ms x) ms) x ≡ false
    go true e = rw e (turned-same ms x h e)
    go false e = ap (λ (b : Bool). has (cond b (turned ms x) ms) x) e ∙ e

-- clearing the mark of x changes no other number's mark
pub has-cleared-other : (ms : Words) (x y : ℕ) → x < 64 * length ms → y ≢ x → has (cleared ms x) y ≡ has ms y
unfolding cleared
has-cleared-other ms x y h d = go (has ms x) refl
  where
    go : (b : Bool) → has ms x ≡ b → has (cond (has ms x) (turned ms x) ms) y ≡ has ms y
    go true e = rw e (changed-other bit_xor xor-bit xor_zero_r ms x y h d)
    go false e = ap (λ (b : Bool). has (cond b (turned ms x) ms) y) e

-- ---- marks of a list more

-- putting in marks keeps the number of words
pub each-length : (ns : List ℕ) (ms : Words) → length (put_each ns ms) ≡ length ms
unfolding put_each
each-length [] ms = refl
each-length (n ∷ ns) ms = each-length ns (put ms n) ∙ put-length ms n

put-has : (ms : Words) (n x : ℕ) → n < 64 * length ms → has (put ms n) x ≡ (eqb x n || has ms x)
put-has ms n x h = ⊎_elim (λ e. ap (has (put ms n)) e ∙ has-put-same ms n h ∙ sym (ap (λ (b : Bool). b || has ms x) (eq-eqb x n e)))
    (λ z. has-put-other ms n x h z ∙ sym (ap (λ (b : Bool). b || has ms x) (ne_eqb x n z))) (same-or-not x n)

pub or-turn : (a b c : Bool) → (a || (b || c)) ≡ ((b || a) || c)
or-turn true true c = refl
or-turn true false c = refl
or-turn false true c = refl
or-turn false false c = refl

-- after the numbers ns are put in, marked are just they and those marked before
pub each-marked : (ns : List ℕ) (ms : Words) (x : ℕ) → Each (λ (n : ℕ). n < 64 * length ms) ns → has (put_each ns ms) x
    ≡ (elem x ns || has ms x)
unfolding put_each elem
each-marked [] ms x h = refl
each-marked (n ∷ ns) ms x h =
    each-marked ns (put ms n) x (Each-map _ _ ns (λ y l. rw (put-length ms n) l) h.1)
    ∙ ap (λ (b : Bool). elem x ns || b) (put-has ms n x h.0) ∙ or-turn (elem x ns) (eqb x n) (has ms x)
