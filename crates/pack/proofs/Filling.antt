-- Words and slots written one by one.
use Rattle.std.proofs.Common.{◌≡◌, ℕ, zero, suc, pred, ◌+◌, ◌-◌, ◌*◌, ◌/◌, ◌%◌, ◌<◌, ◌≤◌, min, ◌≢◌, List, [], ◌∷◌, ◌++◌, length, take, drop}
use Rattle.std.proofs.Common.{set, replicate, sym, refl, ap, ◌∙◌, ⊎_elim, append_assoc, arith, length-drop, length-take-le, take-take}
use Rattle.std.proofs.Common.{drop-drop, le-ltb, lt-ltb, eq-eqb, ne_eqb}
use lib.Seq.{sets, sets-eq}
use borrow.Rule.Slice.PartMut.{put_mid}
use Rattle.std.proofs.lemmas.List.{drop-take}
use Rattle.model.specs.Table.{MARK, Words, at}
use Rattle.model.specs.Slots.{Slot, slot, slots_of, slot_words}
use Rattle.list_laws.proofs.Slots.{length-pairs}
use Rattle.list_laws.proofs.Tools.{compared}
use Rattle.model.specs.Writes.{node_words}
use Rattle.pack_laws.specs.Needed.{nodes_above, nodes_needed}
use Rattle.pack_laws.proofs.Counts.{above-one}
use Rattle.pack.proofs.Leaves.{take-swap, slots-take, slots-drop}
use Rattle.pack.specs.Rows.{pairs_in, head_words, slotted, next_number, leaf_fence, children_from}

-- ---- words

-- a part of a slice written over
pub written-over : (xs vs ys : Words) (w k : ℕ) → ys ≡ vs → length vs ≡ k → w + k ≤ length xs → put_mid w k xs ys ≡ sets xs w vs
written-over xs vs ys w k e n h =
    rw e (ap (λ (l : Words). take w xs ++ (vs ++ l)) (drop-drop k w xs ∙ ap (λ (m : ℕ). drop (w + m) xs) (sym n)))
    ∙ sym (sets-eq vs xs w (omega arith) ∙ append_assoc (take w xs) vs _)

pub node-made : (left sibling level fence : ℕ) (ss : List Slot) → head_words left sibling level fence ++ slotted ss
    ≡ node_words left sibling level fence ss
unfolding node_words
node-made left sibling level fence ss = refl

-- div_ceil by 12, as the contracts count a row above
pub row-above : (n r : ℕ) → r ≡ n / 12 + min 1 (n % 12) → r ≡ (n + 11) / 12
row-above n r e = omega (arith, e)

-- ---- slots

pub fill-step : (l : Words) (i : ℕ) (s : Slot) (ss : List Slot) → sets l (2 * i) (slot_words (s ∷ ss))
    ≡ sets (set (set l (2 * i) s.key) (2 * i + 1) s.pointer) (2 * (i + 1)) (slot_words ss)
fill-step l i s ss =
    let e : 2 * i + 1 ≡ suc (2 * i) = omega arith in
    let f : 2 * (i + 1) ≡ suc (suc (2 * i)) = omega arith in
    rw (e, f)

zeros-drop : (n : ℕ) (xs : Words) → length xs ≤ n → (m : ℕ) → n ≤ m → take n (xs ++ replicate m 0) ≡ xs ++ drop (length xs) (replicate n 0)
zeros-drop zero [] h m k = refl
zeros-drop (suc n) [] h zero k = absurd (omega arith)
zeros-drop (suc n) [] h (suc m) k = ap (λ (l : Words). 0 ∷ l) (zeros-drop n [] (omega arith) m (omega arith))
zeros-drop zero (x ∷ xs) h m k = absurd (omega arith)
zeros-drop (suc n) (x ∷ xs) h m k = ap (λ (l : Words). x ∷ l) (zeros-drop n xs (omega arith) m (omega arith))

pub filled : (ss : List Slot) → length ss ≤ 12 → sets (replicate 24 0) 0 (slot_words ss) ≡ slotted ss
filled ss h =
    let l = length-pairs ss in
    let e : 0 + length (slot_words ss) ≡ length (slot_words ss) = omega arith in
    sets-eq (slot_words ss) (replicate 24 0) 0 (omega arith)
    ∙ ap (λ (n : ℕ). slot_words ss ++ drop n (replicate 24 0)) e
    ∙ sym (zeros-drop 24 (slot_words ss) (omega arith) 24 (omega arith))

-- ---- the slots of a leaf

even-words : (n : ℕ) (ws : Words) → length ws ≡ 2 * n → slot_words (slots_of ws) ≡ ws
unfolding slots_of
even-words zero [] h = refl
even-words zero (a ∷ ws) h = absurd (omega arith)
even-words (suc n) [] h = absurd (omega arith)
even-words (suc n) (a ∷ []) h = absurd (omega arith)
even-words (suc n) (a ∷ b ∷ ws) h = ap (λ (l : Words). a ∷ b ∷ l) (even-words n ws (omega arith))

taken : (n k : ℕ) (l : Words) → k ≡ min n 22 → take 22 (take n l) ≡ take k l
taken n k l q = ⊎_elim whole (⊎_elim (λ h. whole' h) less) (compared n 22)
  where
    less : 22 < n → take 22 (take n l) ≡ take k l
    less h = let e : k ≡ 22 = omega arith in rw e (take-take 22 n l (omega arith))

    whole : n < 22 → take 22 (take n l) ≡ take k l
    whole h = let e : k ≡ n = omega arith in rw e (take-swap 22 n l ∙ take-take n 22 l (omega arith))

    whole' : n ≡ 22 → take 22 (take n l) ≡ take k l
    whole' h = let e : k ≡ 22 = omega arith in rw (e, h) (take-take 22 22 l (omega arith))

module _ (ws : Words) (m j : ℕ) where
  -- they are words of the slice, one after the other
  pub leaf-copied : (k : ℕ) (vs : Words) → 2 * m ≤ length ws → 11 * j ≤ m → k ≡ min (2 * m - 22 * j) 22 → vs ≡ take k (drop (22 * j) ws)
      → vs ++ drop k (replicate 24 0) ≡ slotted (take 11 (drop (11 * j) (pairs_in ws m)))
  leaf-copied k vs l h q r =
      let n = 2 * m - 22 * j in
      let ss = take 11 (drop (11 * j) (pairs_in ws m)) in
      let d : 2 * (11 * j) ≡ 22 * j = omega arith in
      let s : 22 * j + n ≡ 2 * m = omega arith in
      let a : ss ≡ slots_of (take 22 (drop (2 * (11 * j)) (take (2 * m) ws))) =
      ap (take 11) (slots-drop (11 * j) (take (2 * m) ws)) ∙ slots-take 11 (drop (2 * (11 * j)) (take (2 * m) ws)) in
      let b : drop (22 * j) (take (2 * m) ws) ≡ take n (drop (22 * j) ws) =
      ap (λ (i : ℕ). drop (22 * j) (take i ws)) (sym s) ∙ drop-take (22 * j) n ws in
      let y : ss ≡ slots_of (take k (drop (22 * j) ws)) =
      a ∙ ap slots_of (ap (λ (i : ℕ). take 22 (drop i (take (2 * m) ws))) d ∙ ap (take 22) b ∙ taken n k (drop (22 * j) ws) q) in
      let c = length-take-le k (drop (22 * j) ws) (omega (arith, q, length-drop (22 * j) ws)) in
      let e : slot_words ss ≡ take k (drop (22 * j) ws) = ap slot_words y ∙ even-words (min (m - 11 * j) 11) _ (omega (arith, c, q)) in
      let t : k ≡ length (slot_words ss) = sym (ap length e ∙ c) in
      ap (λ (v : Words). v ++ drop k (replicate 24 0)) (r ∙ sym e)
      ∙ ap (λ (i : ℕ). slot_words ss ++ drop i (replicate 24 0)) t
      ∙ sym (zeros-drop 24 (slot_words ss) (omega (arith, t, q)) 24 (omega arith))

-- ---- the slots of an inner node

pub length-children : (ws : Words) (k c : ℕ) → length (children_from ws k c) ≡ c
unfolding children_from
length-children ws k zero = refl
length-children ws k (suc c) = ap suc (length-children ws (suc k) c)

module _ (ws : Words) (k c : ℕ) where
  abbrev pub child_rest : ℕ → List Slot
  child_rest i = children_from ws (k + i) (c - i)

  pub child-start : c ≤ 12 → sets (replicate 24 0) (2 * 0) (slot_words (child_rest 0)) ≡ slotted (children_from ws k c)
  child-start h =
      let e : k + 0 ≡ k = omega arith in
      let f : c - 0 ≡ c = omega arith in
      rw (e, f) (filled (children_from ws k c) (let l = length-children ws k c in omega arith))

  pub child-step : (l : Words) (i : ℕ) → i < c
      → sets l (2 * i) (slot_words (child_rest i))
      ≡ sets (set (set l (2 * i) (at ws (32 * (k + i) + 3))) (2 * i + 1) (k + i + 1)) (2 * (i + 1)) (slot_words (child_rest (i + 1)))
  unfolding children_from
  child-step l i h =
      let e : c - i ≡ suc (c - (i + 1)) = omega arith in
      let f : k + (i + 1) ≡ suc (k + i) = omega arith in
      let g : k + i + 1 ≡ suc (k + i) = omega arith in
      ap (λ (n : ℕ). sets l (2 * i) (slot_words (children_from ws (k + i) n))) e
      ∙ rw (f, g) (fill-step l i (slot (at ws (32 * (k + i) + 3)) (suc (k + i))) (children_from ws (suc (k + i)) (c - (i + 1))))

  pub child-full : (l : Words) (i : ℕ) → c ≤ i → sets l (2 * i) (slot_words (child_rest i)) ≡ l
  unfolding children_from
  child-full l i h = let e : c - i ≡ 0 = omega arith in rw e

-- ---- the next number, and a leaf's fence

pub next-some : (k e : ℕ) → k + 1 < e → k + 2 ≡ next_number k e
unfolding next_number
next-some k e h = let f : k + 2 ≡ suc (suc k) = omega arith in rw (lt-ltb (suc k) e (omega arith)) f

pub next-none : (k e : ℕ) → e ≤ k + 1 → 0 ≡ next_number k e
unfolding next_number
next-none k e h = rw (le-ltb (suc k) e (omega arith))

pub fence-first : (ws : Words) (j : ℕ) → j ≡ 0 → 0 ≡ leaf_fence ws j
unfolding leaf_fence
fence-first ws j e = rw (eq-eqb j 0 e)

pub fence-later : (ws : Words) (j : ℕ) → j ≢ 0 → at ws (22 * j) ≡ leaf_fence ws j
unfolding leaf_fence
fence-later ws j e = rw (ne_eqb j 0 e)

-- ---- how many nodes are needed

pub needed-start : (m r : ℕ) → r ≡ suc ((m - 1) / 11) → r + nodes_above 15 r ≡ nodes_needed m
unfolding nodes_needed
needed-start m r e = rw e

pub needed-step : (r left total : ℕ) → 1 < r → left ≢ 0 → total + nodes_above left r
    ≡ total + (r + 11) / 12 + nodes_above (left - 1) ((r + 11) / 12)
unfolding nodes_above
needed-step zero left total h z = absurd (omega arith)
needed-step (suc zero) left total h z = absurd (omega arith)
needed-step (suc (suc r)) zero total h z = absurd (z refl)
needed-step (suc (suc r)) (suc f) total h z = let e : suc f - 1 ≡ f = omega arith in rw e (omega arith)

pub needed-out : (r left total : ℕ) → left ≡ 0 → total + nodes_above left r ≡ total
unfolding nodes_above
needed-out r left total e = rw e (omega arith)

pub needed-one : (r left total : ℕ) → r ≤ 1 → total + nodes_above left r ≡ total
needed-one r left total h = let e = above-one left r h in omega arith

-- ---- a whole leaf

pub leaf-made : (t u ws slots words : Words) (z m e j w next fence : ℕ) → slots ≡ slotted (take 11 (drop (11 * j) (pairs_in ws m))) → fence
    ≡ leaf_fence ws j → next ≡ next_number (z + j) (z + e)
    → words ≡ head_words MARK next 0 fence ++ slots → t ≡ sets u w words
    → t ≡ sets u w (node_words MARK (next_number (z + j) (z + e)) 0 (leaf_fence ws j) (take 11 (drop (11 * j) (pairs_in ws m))))
leaf-made t u ws slots words z m e j w next fence a b c d f =
    let q : head_words MARK next 0 fence ++ slots
    ≡ node_words MARK (next_number (z + j) (z + e)) 0 (leaf_fence ws j) (take 11 (drop (11 * j) (pairs_in ws m))) = rw (a, b, c)
    (node-made MARK (next_number (z + j) (z + e)) 0 (leaf_fence ws j) (take 11 (drop (11 * j) (pairs_in ws m)))) in
    f ∙ ap (sets u w) (d ∙ q)

-- a whole inner node
pub inner-made : (t u ws slots words : Words) (k c l b e w next : ℕ) → slots ≡ slotted (children_from ws (k + 1) (c - 1)) → next
    ≡ next_number b e → words ≡ head_words (k + 1) next l (at ws (32 * k + 3)) ++ slots → t ≡ sets u w words
    → t ≡ sets u w (node_words (suc k) (next_number b e) l (at ws (32 * k + 3)) (children_from ws (suc k) (pred c)))
inner-made t u ws slots words k c l b e w next a n d f =
    let i : k + 1 ≡ suc k = omega arith in
    let j : c - 1 ≡ pred c = omega arith in
    let q : head_words (k + 1) next l (at ws (32 * k + 3)) ++ slots
    ≡ node_words (suc k) (next_number b e) l (at ws (32 * k + 3)) (children_from ws (suc k) (pred c)) = rw (a, n, i, j)
    (node-made (suc k) (next_number b e) l (at ws (32 * k + 3)) (children_from ws (suc k) (pred c))) in
    f ∙ ap (sets u w) (d ∙ q)
