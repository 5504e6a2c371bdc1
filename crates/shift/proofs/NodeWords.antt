-- The 32 words of a node: filled from slot words one by one, and stored one by one.
use Rattle.std.proofs.Common.{◌≡◌, ℕ, zero, suc, ◌+◌, ◌-◌, ◌*◌, ◌<◌, ◌≤◌, [], ◌∷◌, ◌++◌, length, take, drop, replicate, refl, add-suc}
use Rattle.std.proofs.Common.{add-one, arith, length-drop, drop_of_length-le, length-take, take_all, drop-cons}
use Rattle.cut_laws.proofs.Applying.{take-append}
use Rattle.std.proofs.lemmas.List.{take-replicate, drop-replicate}
use Rattle.model.specs.Table.{Words, at}
use Rattle.model.specs.Slots.{slot_words}
use Rattle.model.specs.Orders.{put}
use Rattle.model.specs.Writes.{put_all, node_words}
use Rattle.slots.specs.Scan.{in_use_of}
use Rattle.slots.proofs.Places.{in-use-short, in-use-cons}

-- ---- stored one by one

module _ (w : ℕ) (ws : Words) (j : ℕ) where
  pub put-next : j < length ws → put_all (w + j) (drop j ws) ≡ put (w + j) (at ws j) ∷ put_all (w + (j + 1)) (drop (j + 1) ws)
  unfolding put_all
  put-next h = rw (drop-cons ws j 0 h, add-one j, add-suc)

  pub put-end : length ws ≤ j → put_all (w + j) (drop j ws) ≡ []
  unfolding put_all
  put-end h = rw (drop_of_length-le ws {i = j} h)

-- ---- copied

-- the slots in use from slot m on, as words
pair-words : (k m : ℕ) (ws : Words) → k ≡ length (in_use_of ws) - m → slot_words (drop m (in_use_of ws)) ≡ take (2 * k) (drop (2 * m) ws)
pair-words zero m ws e = rw (drop_of_length-le (in_use_of ws) {i = m} (omega arith))
pair-words (suc k) m ws e =
    let h : m < length (in_use_of ws) = omega arith in
    let a : 2 * suc k ≡ suc (suc (2 * k)) = omega arith in
    let b : 2 * (m + 1) ≡ suc (suc (2 * m)) = omega arith in
    let l : suc (2 * m) < length ws = omega (arith, in-use-short ws) in
    rw (
      in-use-cons ws m h,
      pair-words k (m + 1) ws (omega arith),
      a,
      b,
      drop-cons ws (2 * m) 0 (omega arith),
      drop-cons ws (suc (2 * m)) 0 l,
      add-one,
    )

-- words filled up with zeros
padded : (s : Words) → length s ≤ 24 → take 24 (s ++ replicate 24 0) ≡ s ++ replicate (24 - length s) 0
padded s h = rw (take-append 24 s (replicate 24 0), take_all 24 s h, take-replicate {X = ℕ} (24 - length s) 24 0 (omega arith))

-- the words of the slots in use from slot `from` on, as they are copied over zeros
module _ (left sibling level fence : ℕ) (ws : Words) (from count : ℕ) (c : count ≡ length (in_use_of ws)) (h : from ≤ count)
    (long : length ws ≡ 24) where
  abbrev copied : Words
  copied = take (2 * count - 2 * from) (drop (2 * from) ws)

  copied-padded : take 24 (slot_words (drop from (in_use_of ws)) ++ replicate 24 0) ≡ copied ++ replicate (24 - length copied) 0
  copied-padded =
      let k : 2 * (length (in_use_of ws) - from) ≡ 2 * count - 2 * from = omega arith in
      let l : length copied ≤ 24 = simp (length-take, length-drop) (omega (arith, long)) in
      rw (pair-words (length (in_use_of ws) - from) from ws refl, k) (padded copied l)

  pub copied-words : (us : Words) → us ≡ take (2 * count - 2 * from) (drop (2 * from) ws)
      → left ∷ sibling ∷ level ∷ fence ∷ 0 ∷ 0 ∷ 0 ∷ 0
      ∷ (us ++ drop (8 + length (take (2 * count - 2 * from) (drop (2 * from) ws)) - 8) (replicate 24 0))
      ≡ node_words left sibling level fence (drop from (in_use_of ws))
  unfolding node_words
  copied-words us e =
      let q : 8 + length copied - 8 ≡ length copied = omega arith in
      rw (e, copied-padded, q, drop-replicate {X = ℕ} (length copied) 24 0)
