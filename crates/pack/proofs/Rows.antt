-- A row of inner nodes written above the row below it.
use Rattle.std.proofs.Common.{◌≡◌, ℕ, zero, suc, pred, ◌+◌, ◌-◌, ◌*◌, ◌/◌, ◌<◌, ◌≤◌, min, List, [], ◌∷◌, ◌++◌, map, length, get_or, take}
use Rattle.std.proofs.Common.{drop, set, sym, refl, ap, ◌∙◌, append_assoc, arith, length-drop, drop_of_length-le, length-take-le}
use Rattle.std.proofs.Common.{get_or-take, take-take}
use lib.ListN.{length-map}
use lib.Seq.{sets, sets-eq, length-sets, take-append-le}
use Rattle.std.proofs.lemmas.List.{drop-map}
use Rattle.model.specs.Table.{Words, at}
use Rattle.model.specs.Slots.{Slot, slot}
use Rattle.model.specs.Writes.{node_words}
use Rattle.model.specs.Packing.{groups, Made, inner_from, row_words}
use Rattle.word_laws.proofs.NewNodes.{length-node-words}
use Rattle.pack_laws.proofs.Groups.{groups-few}
use Rattle.pack_laws.proofs.Counts.{groups-many}
use Rattle.pack.specs.Rows.{next_number, children_from, inner_words, row_over}
use Rattle.pack.proofs.Filling.{length-children}
use Rattle.pack.proofs.Leaves.{groups-at, next-is}

pub sets-append : (xs ys t : Words) (w : ℕ) → sets t w (xs ++ ys) ≡ sets (sets t w xs) (w + length xs) ys
sets-append [] ys t w = let e : w + 0 ≡ w = omega arith in rw e
sets-append (x ∷ xs) ys t w = let e : w + suc (length xs) ≡ suc w + length xs = omega arith in rw e (sets-append xs ys (set t w x) (suc w))

-- ---- children

children-drop : (ws : Words) (i k c : ℕ) → drop i (children_from ws k c) ≡ children_from ws (k + i) (c - i)
unfolding children_from
children-drop ws zero k c = let e : k + 0 ≡ k = omega arith in let f : c - 0 ≡ c = omega arith in rw (e, f)
children-drop ws (suc i) k zero = let f : 0 - suc i ≡ 0 = omega arith in rw f
children-drop ws (suc i) k (suc c) = let e : k + suc i ≡ suc k + i = omega arith in let f : suc c - suc i ≡ c - i =
    omega arith in rw (e, f) (children-drop ws i (suc k) c)

children-take : (ws : Words) (n k c : ℕ) → take n (children_from ws k c) ≡ children_from ws k (min n c)
unfolding children_from
children-take ws zero k c = let e : min 0 c ≡ 0 = omega arith in rw e
children-take ws (suc n) k zero = let e : min (suc n) 0 ≡ 0 = omega arith in rw e
children-take ws (suc n) k (suc c) =
    let e : min (suc n) (suc c) ≡ suc (min n c) = omega arith in
    rw e (ap (λ (l : List Slot). slot (at ws (32 * k + 3)) (suc k) ∷ l) (children-take ws n (suc k) c))

-- children are read below the words that agree
pub children-same : (t ws : Words) (n k c : ℕ) → take n t ≡ take n ws → 32 * (k + c) ≤ n → children_from t k c ≡ children_from ws k c
unfolding children_from
children-same t ws n k zero h l = refl
children-same t ws n k (suc c) h l =
    let a = get_or-take n t (32 * k + 3) 0 (omega arith) in
    let b = get_or-take n ws (32 * k + 3) 0 (omega arith) in
    let e : at t (32 * k + 3) ≡ at ws (32 * k + 3) = sym a ∙ ap (λ (l : Words). get_or l (32 * k + 3) 0) h ∙ b in
    rw (e, children-same t ws n (suc k) c h (omega arith))

-- ---- node g of the row above

module _ (ws : Words) (k c : ℕ) where
  abbrev up : List Made
  up = row_over ws k c

  abbrev many : ℕ → ℕ
  many g = min 12 (c - 12 * g)

  pub row-length : length up ≡ (c + 11) / 12
  row-length =
      let xs = children_from ws k c in
      let n = length-children ws k c in
      let few = groups-few 11 c xs ((c + 11) / 12) (omega arith) in
      let lots = groups-many 11 c xs (omega arith) in
      length-map (groups 12 c xs) inner_from ∙ omega arith

  row-at : (g : ℕ) → 12 * g < c → drop g up ≡ inner_from (children_from ws (k + 12 * g) (many g)) ∷ drop (suc g) up
  row-at g h =
      let xs = children_from ws k c in
      let n = length-children ws k c in
      let e : take 12 (drop (12 * g) xs) ≡ children_from ws (k + 12 * g) (many g) =
      ap (take 12) (children-drop ws (12 * g) k c) ∙ children-take ws 12 (k + 12 * g) (c - 12 * g) in
      drop-map inner_from g (groups 12 c xs)
      ∙ ap (map inner_from)
      (groups-at 11 c g xs (omega arith) (omega arith) ∙ ap (λ (l : List Slot). l ∷ drop (suc g) (groups 12 c xs)) e)
      ∙ ap (λ (l : List Made). inner_from (children_from ws (k + 12 * g) (many g)) ∷ l) (sym (drop-map inner_from (suc g) (groups 12 c xs)))

  inner-row : (l b j n : ℕ) (rest : List Made) → 1 ≤ n
      → row_words l (suc b) (inner_from (children_from ws j n) ∷ rest) ≡ inner_words ws j n l b (suc b + length rest)
      ++ row_words l (suc (suc b)) rest
  unfolding row_words children_from
  inner-row l b j zero rest h = absurd (omega arith)
  inner-row l b j (suc n) rest h =
      ap (λ (m : ℕ). node_words (suc j) m l (at ws (32 * j + 3)) (children_from ws (suc j) n) ++ row_words l (suc (suc b)) rest)
      (next-is b (suc b + length rest) rest refl)

  row-words : (l b g : ℕ) → 12 * g < c → row_words l (suc b) (drop g up)
      ≡ inner_words ws (k + 12 * g) (many g) l b (b + ((c + 11) / 12 - g)) ++ row_words l (suc (suc b)) (drop (suc g) up)
  row-words l b g h =
      let n = length-drop (suc g) up in
      let m = row-length in
      let e : suc b + length (drop (suc g) up) ≡ b + ((c + 11) / 12 - g) = omega arith in
      ap (row_words l (suc b)) (row-at g h) ∙ inner-row l b (k + 12 * g) (many g) (drop (suc g) up) (omega arith)
      ∙ ap (λ (i : ℕ). inner_words ws (k + 12 * g) (many g) l b i ++ row_words l (suc (suc b)) (drop (suc g) up)) e

-- ---- the row, node by node

-- nodes before g are written, and the row below stands as it did
pub record Raised (ws : Words) (k c l : ℕ) (t : Words) (g : ℕ) : Type 0 where
  pub few : g ≤ (c + 11) / 12
  pub long : length t ≡ length ws
  pub below : take (32 * (k + c)) t ≡ take (32 * (k + c)) ws
  pub rest : sets t (32 * (k + c + g)) (row_words l (suc (k + c + g)) (drop g (row_over ws k c)))
      ≡ sets ws (32 * (k + c)) (row_words l (suc (k + c)) (row_over ws k c))

module _ (ws : Words) (k c l : ℕ) (fits : 32 * (k + c + (c + 11) / 12) ≤ length ws) where
  pub raised-step : (t u : Words) (g n : ℕ) → g < (c + 11) / 12 → n ≡ min 12 (c - 12 * g) → Raised ws k c l t g
      → u ≡ sets t (32 * (k + c + g)) (inner_words t (k + 12 * g) n l (k + c + g) (k + c + (c + 11) / 12)) → Raised ws k c l u (g + 1)
  raised-step t u g n h m r q =
      let b = k + c + g in
      let up = row_over ws k c in
      let e = k + c + (c + 11) / 12 in
      let a = k + 12 * g in
      let node = inner_words ws a n l b e in
      let later = row_words l (suc (suc b)) (drop (suc g) up) in
      let size : length node ≡ 32 =
      length-node-words (suc a) (next_number b e) l (at ws (32 * a + 3)) (children_from ws (suc a) (pred n)) in
      let fence : at t (32 * a + 3) ≡ at ws (32 * a + 3) =
      sym (get_or-take (32 * (k + c)) t (32 * a + 3) 0 (omega arith)) ∙ ap (λ (x : Words). get_or x (32 * a + 3) 0) r.below
      ∙ get_or-take (32 * (k + c)) ws (32 * a + 3) 0 (omega arith) in
      let kids : children_from t (suc a) (pred n) ≡ children_from ws (suc a) (pred n) =
      children-same t ws (32 * (k + c)) (suc a) (pred n) r.below (omega arith) in
      let same : u ≡ sets t (32 * b) node =
      q ∙ ap (sets t (32 * b))
      (ap (λ (x : ℕ). node_words (suc a) (next_number b e) l x (children_from t (suc a) (pred n))) fence
      ∙ ap (node_words (suc a) (next_number b e) l (at ws (32 * a + 3))) kids) in
      let last : b + ((c + 11) / 12 - g) ≡ e = omega arith in
      let words : row_words l (suc b) (drop g up) ≡ node ++ later =
      row-words ws k c l b g (omega arith) ∙ ap (λ (x : ℕ). inner_words ws a (min 12 (c - 12 * g)) l b x ++ later) last
      ∙ ap (λ (x : ℕ). inner_words ws a x l b e ++ later) (sym m) in
      let f : g + 1 ≡ suc g = omega arith in
      let i : k + c + (g + 1) ≡ suc b = omega arith in
      let w : 32 * b + length node ≡ 32 * suc b = omega arith in
      let next : sets u (32 * suc b) later ≡ sets t (32 * b) (row_words l (suc b) (drop g up)) =
      ap (λ (x : Words). sets x (32 * suc b) later) same ∙ ap (λ (x : ℕ). sets (sets t (32 * b) node) x later) (sym w)
      ∙ sym (sets-append node later t (32 * b)) ∙ ap (sets t (32 * b)) (sym words) in
      let long : length u ≡ length ws = ap length same ∙ length-sets t (32 * b) node ∙ r.long in
      let tl = r.long in
      let split : u ≡ take (32 * b) t ++ (node ++ drop (32 * b + length node) t) =
      same ∙ sets-eq node t (32 * b) (omega arith) ∙ append_assoc (take (32 * b) t) node (drop (32 * b + length node) t) in
      let head : length (take (32 * b) t) ≡ 32 * b = length-take-le (32 * b) t (omega arith) in
      record {
        few = omega arith;
        long = long;
        below = ap (take (32 * (k + c))) split
            ∙ take-append-le (32 * (k + c)) (take (32 * b) t) (node ++ drop (32 * b + length node) t) (omega arith)
            ∙ take-take (32 * (k + c)) (32 * b) t (omega arith) ∙ r.below;
        rest = rw (i, f) (next ∙ r.rest);
      }

  pub raised-end : (t : Words) (g : ℕ) → (c + 11) / 12 ≤ g → Raised ws k c l t g → t
      ≡ sets ws (32 * (k + c)) (row_words l (suc (k + c)) (row_over ws k c))
  unfolding row_words
  raised-end t g h r =
      let n = row-length ws k c in
      sym (ap (λ (x : List Made). sets t (32 * (k + c + g)) (row_words l (suc (k + c + g)) x))
      (drop_of_length-le (row_over ws k c) {i = g} (omega arith))) ∙ r.rest
