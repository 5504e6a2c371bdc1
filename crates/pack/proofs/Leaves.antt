-- The leaves written in place, from the last down.
use Rattle.std.proofs.Common.{◌≡◌, ℕ, zero, suc, ◌+◌, ◌-◌, ◌*◌, ◌/◌, ◌<◌, ◌≤◌, Bool, cond, eqb, List, [], ◌∷◌, ◌++◌, map, length, get_or}
use Rattle.std.proofs.Common.{take, drop, sym, refl, ap, ◌∙◌, subst, append_assoc, mul-suc, arith, length-drop, drop_of_length-le}
use Rattle.std.proofs.Common.{length-take-le, get_or-take, take-take, drop-drop, drop_at, le-ltb, lt-ltb, ne_eqb}
use lib.Seq.{sets, sets-eq, length-sets, take-append-le}
use Rattle.std.proofs.lemmas.List.{drop-map, drop-take}
use Rattle.model.specs.Table.{MARK, Words}
use Rattle.model.specs.Slots.{Slot, slot, slots_of}
use Rattle.model.specs.Writes.{node_words}
use Rattle.model.specs.Packing.{groups, Made, lowest, leaf_with, leaf_from, bottom, next, row_words}
use Rattle.list_laws.proofs.Tools.{double-suc}
use Rattle.table_laws.proofs.SlotWords.{slots-cons}
use Rattle.word_laws.proofs.NewNodes.{length-node-words}
use Rattle.word_laws.proofs.SlotWords.{length-slots}
use Rattle.pack_laws.proofs.Counts.{bottom-length}
use Rattle.pack.specs.Rows.{pairs_in, next_number, leaf_fence, leaf_words}

-- ---- lists

-- group g of a list
pub groups-at : {A : Type 0} (k f g : ℕ) (xs : List A) → length xs ≤ f → suc k * g < length xs → drop g (groups (suc k) f xs)
    ≡ take (suc k) (drop (suc k * g) xs) ∷ drop (suc g) (groups (suc k) f xs)
unfolding groups
groups-at k zero g xs h l = absurd (omega arith)
groups-at k (suc f) g [] h l = absurd (omega arith)
groups-at k (suc f) zero (x ∷ xs) h l = let e : suc k * 0 ≡ 0 = omega arith in rw e
groups-at k (suc f) (suc g) (x ∷ xs) h l =
    let n = length-drop k xs in
    let e : suc k * suc g ≡ suc k + suc k * g = let q = mul-suc (suc k) g in omega arith in
    groups-at k f g (drop k xs) (omega arith) (omega (arith, e))
    ∙ ap (λ (ys : List _). take (suc k) ys ∷ drop (suc g) (groups (suc k) f (drop k xs)))
    (drop-drop (suc k * g) (suc k) (x ∷ xs) ∙ ap (λ (i : ℕ). drop i (x ∷ xs)) (sym e))

pub take-swap : {A : Type 0} (a b : ℕ) (l : List A) → take a (take b l) ≡ take b (take a l)
take-swap zero zero l = refl
take-swap zero (suc b) l = refl
take-swap (suc a) zero l = refl
take-swap (suc a) (suc b) [] = refl
take-swap {A = A} (suc a) (suc b) (x ∷ l) = ap (λ (m : List A). x ∷ m) (take-swap a b l)

-- the first n pairs of some words are the pairs of their first 2n words
pub slots-take : (n : ℕ) (ws : Words) → take n (slots_of ws) ≡ slots_of (take (2 * n) ws)
unfolding slots_of
slots-take zero ws = refl
slots-take (suc n) [] = rw (double-suc n)
slots-take (suc n) (k ∷ []) = rw (double-suc n)
slots-take (suc n) (k ∷ p ∷ ws) = rw (double-suc n) (ap (λ (l : List Slot). slot k p ∷ l) (slots-take n ws))

pub slots-drop : (n : ℕ) (ws : Words) → drop n (slots_of ws) ≡ slots_of (drop (2 * n) ws)
unfolding slots_of
slots-drop zero ws = refl
slots-drop (suc n) [] = rw (double-suc n)
slots-drop (suc n) (k ∷ []) = rw (double-suc n)
slots-drop (suc n) (k ∷ p ∷ ws) = rw (double-suc n) (slots-drop n ws)

-- the first m pairs of at least 2m words are m
pub pairs-length : (ws : Words) (m : ℕ) → 2 * m ≤ length ws → length (pairs_in ws m) ≡ m
pairs-length ws m h = length-slots m (take (2 * m) ws) (length-take-le (2 * m) ws h)

-- ---- leaf j

abbrev fence_in : List Slot → ℕ → ℕ
fence_in ps j = cond (eqb j 0) 0 (lowest (drop (11 * j) ps))

lowest-take : (ss : List Slot) → lowest (take 11 ss) ≡ lowest ss
lowest-take [] = refl
lowest-take (s ∷ ss) = refl

bottom-at : (ps : List Slot) (j : ℕ) → j < suc ((length ps - 1) / 11) → drop j (bottom ps)
    ≡ leaf_with (fence_in ps j) (take 11 (drop (11 * j) ps)) ∷ drop (suc j) (bottom ps)
unfolding bottom
bottom-at ps zero h = refl
bottom-at ps (suc i) h =
    let gs = groups 11 (length ps) (drop 11 ps) in
    let n = length-drop 11 ps in
    let e : 11 + 11 * i ≡ 11 * suc i = omega arith in
    let g : drop i gs ≡ take 11 (drop (11 * suc i) ps) ∷ drop (suc i) gs =
    groups-at 10 (length ps) i (drop 11 ps) (omega arith) (omega arith)
    ∙ ap (λ (l : List Slot). take 11 l ∷ drop (suc i) gs) (drop-drop (11 * i) 11 ps ∙ ap (λ (m : ℕ). drop m ps) e) in
    drop-map leaf_from i gs ∙ ap (map leaf_from) g
    ∙ ap (λ (k : ℕ). leaf_with k (take 11 (drop (11 * suc i) ps)) ∷ map leaf_from (drop (suc i) gs))
    (lowest-take (drop (11 * suc i) ps)
    ∙ sym (ap (λ (b : Bool). cond b 0 (lowest (drop (11 * suc i) ps))) (ne_eqb (suc i) 0 (λ z. omega arith))))
    ∙ ap (λ (l : List Made). leaf_with (fence_in ps (suc i)) (take 11 (drop (11 * suc i) ps)) ∷ l) (sym (drop-map leaf_from (suc i) gs))

pub next-is : (k e : ℕ) (xs : List Made) → e ≡ suc k + length xs → next (suc k) xs ≡ next_number k e
unfolding next_number
next-is k e [] h = rw (le-ltb (suc k) e (omega arith))
next-is k e (x ∷ xs) h = rw (lt-ltb (suc k) e (omega arith))

module _ (ws : Words) (z m : ℕ) (long : 2 * m ≤ length ws) where
  abbrev ps : List Slot
  ps = pairs_in ws m

  abbrev leaves : ℕ
  leaves = suc ((m - 1) / 11)

  fence-is : (j : ℕ) → j < leaves → leaf_fence ws j ≡ fence_in ps j
  unfolding leaf_fence
  fence-is zero h = refl
  fence-is (suc i) h =
      let p = 11 * suc i in
      let n = length-take-le (2 * m) ws long in
      let e : 22 * suc i ≡ 2 * p = omega arith in
      let s = slots-cons (take (2 * m) ws) p (omega arith) in
      let a = get_or-take (2 * m) ws (2 * p) 0 (omega arith) in
      rw (ne_eqb (suc i) 0 (λ z. omega arith), e, s, a)

  pub leaf-words : (j : ℕ) → j < leaves → row_words 0 (suc (z + j)) (drop j (bottom ps)) ≡ leaf_words ws z m leaves j
      ++ row_words 0 (suc (suc (z + j))) (drop (suc j) (bottom ps))
  unfolding row_words
  leaf-words j h =
      let n = pairs-length ws m long in
      let rest = drop (suc j) (bottom ps) in
      let b = bottom-length ps in
      let l = length-drop (suc j) (bottom ps) in
      let len : length (bottom ps) ≡ leaves = b ∙ ap (λ (k : ℕ). suc ((k - 1) / 11)) n in
      ap (row_words 0 (suc (z + j))) (bottom-at ps j (rw n h))
      ∙ ap (λ (k : ℕ). node_words MARK k 0 (fence_in ps j) (take 11 (drop (11 * j) ps)) ++ row_words 0 (suc (suc (z + j))) rest)
      (next-is (z + j) (z + leaves) rest (omega arith))
      ∙ ap (λ (k : ℕ). node_words MARK (next_number (z + j) (z + leaves)) 0 k (take 11 (drop (11 * j) ps))
      ++ row_words 0 (suc (suc (z + j))) rest) (sym (fence-is j h))

  pub leaves-end : drop leaves (bottom ps) ≡ []
  leaves-end = let n = pairs-length ws m long in let b =
      bottom-length ps in drop_of_length-le (bottom ps) {i = leaves} (omega (arith, b ∙ ap (λ (k : ℕ). suc ((k - 1) / 11)) n))

-- ---- in place

-- leaf j reads only the words below those of the pairs after it
slots-same : (t ws : Words) (m j : ℕ) → take (22 * suc j) t ≡ take (22 * suc j) ws → take 11 (drop (11 * j) (pairs_in t m))
    ≡ take 11 (drop (11 * j) (pairs_in ws m))
slots-same t ws m j h = part t ∙ ap (λ (l : Words). slots_of (drop (22 * j) (take (2 * m) l))) h ∙ sym (part ws)
  where
    part : (l : Words) → take 11 (drop (11 * j) (pairs_in l m)) ≡ slots_of (drop (22 * j) (take (2 * m) (take (22 * suc j) l)))
    part l =
        let e : 2 * (11 * j) ≡ 22 * j = omega arith in
        let f : 22 * j + 22 ≡ 22 * suc j = omega arith in
        ap (take 11) (slots-drop (11 * j) (take (2 * m) l) ∙ ap (λ (i : ℕ). slots_of (drop i (take (2 * m) l))) e)
        ∙ slots-take 11 (drop (22 * j) (take (2 * m) l))
        ∙ ap slots_of (sym (drop-take (22 * j) 22 (take (2 * m) l)) ∙ ap (λ (i : ℕ). drop (22 * j) (take i (take (2 * m) l))) f
        ∙ ap (drop (22 * j)) (take-swap (22 * suc j) (2 * m) l))

fence-same : (t ws : Words) (j : ℕ) → take (22 * suc j) t ≡ take (22 * suc j) ws → leaf_fence t j ≡ leaf_fence ws j
unfolding leaf_fence
fence-same t ws j h =
    let a = get_or-take (22 * suc j) t (22 * j) 0 (omega arith) in
    let b = get_or-take (22 * suc j) ws (22 * j) 0 (omega arith) in
    ap (λ (k : ℕ). cond (eqb j 0) 0 k) (sym a ∙ ap (λ (l : Words). get_or l (22 * j) 0) h ∙ b)

words-same : (t ws : Words) (z m e j : ℕ) → take (22 * suc j) t ≡ take (22 * suc j) ws → leaf_words t z m e j ≡ leaf_words ws z m e j
words-same t ws z m e j h =
    ap (λ (k : ℕ). node_words MARK (next_number (z + j) (z + e)) 0 k (take 11 (drop (11 * j) (pairs_in t m)))) (fence-same t ws j h)
    ∙ ap (node_words MARK (next_number (z + j) (z + e)) 0 (leaf_fence ws j)) (slots-same t ws m j h)

-- the leaves from j on are written, and the pairs before them stand as they did
pub record Written (ws : Words) (z m e : ℕ) (t : Words) (j : ℕ) : Type 0 where
  pub few : j ≤ e
  pub long : length t ≡ length ws
  pub before : take (22 * j) t ≡ take (22 * j) ws
  pub after : drop (32 * j) t ≡ row_words 0 (suc (z + j)) (drop j (bottom (pairs_in ws m))) ++ drop (32 * e) ws

module _ (ws : Words) (z m e : ℕ) (long : 2 * m ≤ length ws) (fits : 32 * e ≤ length ws) (count : e ≡ suc ((m - 1) / 11)) where
  pub written-start : Written ws z m e ws e
  unfolding row_words
  written-start = record {
    few = omega arith;
    long = refl;
    before = refl;
    after = sym (ap (λ (l : List Made). row_words 0 (suc (z + e)) l ++ drop (32 * e) ws)
        (ap (λ (k : ℕ). drop k (bottom (pairs_in ws m))) count ∙ leaves-end ws z m long));
  }

  pub written-step : (t u : Words) (i j : ℕ) → i ≡ suc j → Written ws z m e t i → u
      ≡ sets t (32 * j) (leaf_words t z m e j) → Written ws z m e u j
  written-step t u i j n w q =
      let h : Written ws z m e t (suc j) = subst (λ (k : ℕ). Written ws z m e t k) n w in
      let l = leaf_words ws z m e j in
      let size : length l ≡ 32 =
      length-node-words MARK (next_number (z + j) (z + e)) 0 (leaf_fence ws j) (take 11 (drop (11 * j) (pairs_in ws m))) in
      let f : 32 * j + 32 ≡ 32 * suc j = omega arith in
      let i : z + suc j ≡ suc (z + j) = omega arith in
      let few : suc j ≤ e = h.few in
      let tl : length t ≡ length ws = h.long in
      let same : u ≡ sets t (32 * j) l = q ∙ ap (sets t (32 * j)) (words-same t ws z m e j h.before) in
      let split : u ≡ take (32 * j) t ++ (l ++ drop (32 * suc j) t) =
      same ∙ sets-eq l t (32 * j) (omega arith) ∙ append_assoc (take (32 * j) t) l (drop (32 * j + length l) t)
      ∙ ap (λ (k : ℕ). take (32 * j) t ++ (l ++ drop k t)) (ap (λ (k : ℕ). 32 * j + k) size ∙ f) in
      let head : length (take (32 * j) t) ≡ 32 * j = length-take-le (32 * j) t (omega arith) in
      record {
        few = omega arith;
        long = ap length same ∙ length-sets t (32 * j) l ∙ tl;
        before = ap (take (22 * j)) split ∙ take-append-le (22 * j) (take (32 * j) t) _ (omega arith)
            ∙ take-take (22 * j) (32 * j) t (omega arith)
            ∙ sym (take-take (22 * j) (22 * suc j) t (omega arith)) ∙ ap (take (22 * j)) h.before
            ∙ take-take (22 * j) (22 * suc j) ws (omega arith);
        after = ap (drop (32 * j)) split ∙ drop_at (take (32 * j) t) _ (32 * j) head
            ∙ ap (λ (r : Words). l ++ r)
            (h.after ∙ ap (λ (k : ℕ). row_words 0 (suc k) (drop (suc j) (bottom (pairs_in ws m))) ++ drop (32 * e) ws) i)
            ∙ sym (append_assoc l (row_words 0 (suc (suc (z + j))) (drop (suc j) (bottom (pairs_in ws m)))) (drop (32 * e) ws))
            ∙ ap (λ (r : Words). r ++ drop (32 * e) ws)
            (ap (λ (k : ℕ). leaf_words ws z m k j ++ row_words 0 (suc (suc (z + j))) (drop (suc j) (bottom (pairs_in ws m)))) count
            ∙ sym (leaf-words ws z m long j (omega arith)));
      }

  pub written-end : (t : Words) (j : ℕ) → j ≡ 0 → Written ws z m e t j → t
      ≡ row_words 0 (suc z) (bottom (pairs_in ws m)) ++ drop (32 * e) ws
  written-end t j y w = let h : Written ws z m e t 0 = subst (λ (k : ℕ). Written ws z m e t k) y w in let q : z + 0 ≡ z =
      omega arith in h.after ∙ ap (λ (k : ℕ). row_words 0 (suc k) (bottom (pairs_in ws m)) ++ drop (32 * e) ws) q
