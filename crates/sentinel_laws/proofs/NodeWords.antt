-- The words of each node in a slice of 3 words a node.
use Rattle.std.proofs.Common.{◌≡◌, ℕ, zero, suc, ◌+◌, ◌-◌, ◌*◌, ◌/◌, ◌%◌, ◌<◌, ◌≤◌, length, take, drop, sym, refl, ap, ◌∙◌, arith}
use Rattle.std.proofs.Common.{length-append, length-drop, length-take, take_at, ext_get_or}
use lib.Seq.{drop-append-add}
use Rattle.model.specs.Table.{Words, at}
use Rattle.model.specs.Reached.{flat}
use Rattle.model.specs.Writes.{numbers}
use Rattle.model.specs.Sentinels.{words_of}
use Rattle.table_laws.proofs.Words.{at-part}

-- ---- three words for each number from 1 to N

module _ (g : ℕ → Words) (N : ℕ) (three : (n : ℕ) → 1 ≤ n → n ≤ N → length (g n) ≡ 3) where
  part-length : (from count : ℕ) → 1 ≤ from → from + count ≤ suc N → length (flat g (numbers from count)) ≡ 3 * count
  unfolding flat numbers
  part-length from zero a b = refl
  part-length from (suc n) a b =
      length-append (g from) _ ∙ omega (arith, three from a (omega arith), part-length (suc from) n (omega arith) (omega arith))

  flat-part : (from count i : ℕ) → 1 ≤ from → from + count ≤ suc N → i < count
      → take 3 (drop (3 * i) (flat g (numbers from count))) ≡ g (from + i)
  unfolding flat numbers
  flat-part from zero i a b h = absurd (omega arith)
  flat-part from (suc n) zero a b h = let q : from ≡ from + 0 = omega arith in take_at (g from) _ 3 (three from a (omega arith)) ∙ ap g q
  flat-part from (suc n) (suc i) a b h =
      let q : suc from + i ≡ from + suc i = omega arith in
      let m : 3 * suc i ≡ length (g from) + 3 * i = omega (arith, three from a (omega arith)) in
      ap (take 3) (ap (λ (j : ℕ). drop j (flat g (numbers from (suc n)))) m
      ∙ drop-append-add (g from) (flat g (numbers (suc from) n)) (3 * i))
      ∙ flat-part (suc from) n i (omega arith) (omega arith) (omega arith) ∙ ap g q

  pub flat-length : length (flat g (numbers 1 N)) ≡ 3 * N
  flat-length = part-length 1 N (omega arith) (omega arith)

  -- those of node n
  pub flat-words : (n : ℕ) → 1 ≤ n → n ≤ N → words_of (flat g (numbers 1 N)) n ≡ g n
  flat-words n a b = let q : 1 + (n - 1) ≡ n = omega arith in flat-part 1 N (n - 1) (omega arith) (omega arith) (omega arith) ∙ ap g q

-- ---- slices

-- in a slice of 3 N words, each node from 1 to N has 3
pub three-words : (N : ℕ) (ws : Words) → length ws ≡ 3 * N → (n : ℕ) → 1 ≤ n → n ≤ N → length (words_of ws n) ≡ 3
three-words N ws l n a b = simp (length-take, length-drop, l) (omega arith)

-- word i of node n
pub word-at : (ws : Words) (n i : ℕ) → i < 3 → at (words_of ws n) i ≡ at ws (3 * (n - 1) + i)
word-at ws n i h = at-part ws (3 * (n - 1)) 3 i h

-- slices with the same words of each node are the same
pub slices-same : (N : ℕ) (ws vs : Words) → length ws ≡ 3 * N → length vs ≡ 3 * N
    → ((n : ℕ) → 1 ≤ n → n ≤ N → words_of ws n ≡ words_of vs n) → ws ≡ vs
slices-same N ws vs l m e = ext_get_or 0 ws vs (l ∙ sym m) (λ i h.
    let n = i / 3 + 1 in
    let q : 3 * (n - 1) + i % 3 ≡ i = omega arith in
    let r : i % 3 < 3 = omega arith in
    sym (ap (at ws) q) ∙ sym (word-at ws n (i % 3) r) ∙ ap (λ (x : Words). at x (i % 3)) (e n (omega arith) (omega arith))
    ∙ word-at vs n (i % 3) r ∙ ap (at vs) q)
