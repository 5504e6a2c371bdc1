-- A pair moved across the gap.
use Rattle.std.proofs.Common.{◌≡◌, ℕ, zero, suc, ◌+◌, ◌-◌, ◌*◌, ◌<◌, ◌≤◌, false, eqb, ◌≢◌, List, [], ◌∷◌, ◌++◌, length, take, drop, set}
use Rattle.std.proofs.Common.{sym, refl, ap, ◌∙◌, subst, inl, inr, ⊎_elim, append_assoc, append-nil, arith, length-append, length-drop}
use Rattle.std.proofs.Common.{length-set, length-take-le, drop-cons, get_or-set_other, get_or-set_same, take_at, drop-set-lt, take-add}
use Rattle.std.proofs.Common.{drop_at, eq-eqb, ne_eqb}
use lib.Seq.{sets, sets-eq, take-set-le, get_or_at, drop-length}
use Rattle.model.specs.Table.{Words, at}
use Rattle.model.specs.Slots.{Slot, slot, slots_of}
use Rattle.pack.specs.Rows.{pairs_in}
use Rattle.list_laws.proofs.Tools.{compared}
use Rattle.word_laws.proofs.SlotWords.{length-slots}
use Rattle.pack.proofs.Leaves.{pairs-length}
use Rattle.gap.specs.Around.{around, key_at, Under, Over, ends_with}

-- ---- slots of words

pub slots-append : (n : ℕ) (a b : Words) → length a ≡ 2 * n → slots_of (a ++ b) ≡ slots_of a ++ slots_of b
unfolding slots_of
slots-append zero [] b h = refl
slots-append zero (x ∷ a) b h = absurd (omega arith)
slots-append (suc n) [] b h = absurd (omega arith)
slots-append (suc n) (k ∷ []) b h = absurd (omega arith)
slots-append (suc n) (k ∷ p ∷ a) b h = ap (λ (l : List Slot). slot k p ∷ l) (slots-append n a b (omega arith))

slots-two : (k p : ℕ) (b : Words) → slots_of (k ∷ p ∷ b) ≡ slot k p ∷ slots_of b
unfolding slots_of
slots-two k p b = refl

-- two words at w, then the rest
two-at : (ws : Words) (w : ℕ) → w + 1 < length ws → drop w ws ≡ at ws w ∷ at ws (w + 1) ∷ drop (w + 2) ws
two-at ws w h =
    let e : w + 1 ≡ suc w = omega arith in
    let f : w + 2 ≡ suc (suc w) = omega arith in
    rw (e, f) (drop-cons ws w 0 (omega arith) ∙ ap (λ (l : Words). at ws w ∷ l) (drop-cons ws (suc w) 0 (omega arith)))

-- one pair more of the first words
pub first-more : (ws : Words) (i : ℕ) → 2 * i + 1 < length ws → slots_of (take (2 * (i + 1)) ws) ≡ slots_of (take (2 * i) ws)
    ++ (slot (at ws (2 * i)) (at ws (2 * i + 1)) ∷ [])
first-more ws i h =
    let e : 2 * (i + 1) ≡ 2 * i + 2 = omega arith in
    let two : take 2 (drop (2 * i) ws) ≡ at ws (2 * i) ∷ at ws (2 * i + 1) ∷ [] = ap (take 2) (two-at ws (2 * i) (omega arith)) in
    ap (λ (n : ℕ). slots_of (take n ws)) e ∙ ap slots_of (take-add (2 * i) 2 ws ∙ ap (λ (l : Words). take (2 * i) ws ++ l) two)
    ∙ slots-append i (take (2 * i) ws) (at ws (2 * i) ∷ at ws (2 * i + 1) ∷ []) (length-take-le (2 * i) ws (omega arith))
    ∙ ap (λ (l : List Slot). slots_of (take (2 * i) ws) ++ l) (unfold slots_of in refl)

-- one pair more of the last words, from word w on
pub last-more : (ws : Words) (w : ℕ) → w + 1 < length ws → slots_of (drop w ws) ≡ slot (at ws w) (at ws (w + 1))
    ∷ slots_of (drop (w + 2) ws)
last-more ws w h = ap slots_of (two-at ws w h) ∙ slots-two (at ws w) (at ws (w + 1)) (drop (w + 2) ws)

-- ---- two words stored

abbrev stored : Words → (w a b : ℕ) → Words
stored ws w a b = set (set ws w a) (w + 1) b

module _ (ws : Words) (w a b : ℕ) (inside : w + 1 < length ws) where
  pub stored-parts : stored ws w a b ≡ take w ws ++ (a ∷ b ∷ drop (w + 2) ws)
  stored-parts =
      let e : w + 1 ≡ suc w = omega arith in
      let same : stored ws w a b ≡ sets ws w (a ∷ b ∷ []) = rw e in
      same ∙ sets-eq (a ∷ b ∷ []) ws w (omega arith) ∙ append_assoc (take w ws) (a ∷ b ∷ []) (drop (w + 2) ws)

  stored-length : length (stored ws w a b) ≡ length ws
  stored-length = length-set (set ws w a) (w + 1) b ∙ length-set ws w a

  stored-before : (n : ℕ) → n ≤ w → take n (stored ws w a b) ≡ take n ws
  stored-before n h = take-set-le n (set ws w a) (w + 1) b (omega arith) ∙ take-set-le n ws w a h

  stored-after : (n : ℕ) → w + 2 ≤ n → drop n (stored ws w a b) ≡ drop n ws
  stored-after n h = drop-set-lt n (set ws w a) (w + 1) b (omega arith) ∙ drop-set-lt n ws w a (omega arith)

  stored-last : slots_of (drop w (stored ws w a b)) ≡ slot a b ∷ slots_of (drop (w + 2) ws)
  stored-last = ap slots_of (ap (drop w) stored-parts ∙ drop_at (take w ws) (a ∷ b ∷ drop (w + 2) ws) w (length-take-le w ws (omega arith)))
      ∙ slots-two a b (drop (w + 2) ws)

-- where the two words are pair i
stored-first : (ws : Words) (i a b : ℕ) → 2 * i + 1 < length ws → slots_of (take (2 * (i + 1)) (stored ws (2 * i) a b))
    ≡ slots_of (take (2 * i) ws) ++ (slot a b ∷ [])
stored-first ws i a b h =
    let t = stored ws (2 * i) a b in
    let n = stored-length ws (2 * i) a b h in
    let x : at t (2 * i) ≡ a =
    get_or-set_other (set ws (2 * i) a) (2 * i + 1) (2 * i) b 0 (λ z. omega arith) ∙ get_or-set_same ws (2 * i) a 0 (omega arith) in
    let l = length-set ws (2 * i) a in
    let y : at t (2 * i + 1) ≡ b = get_or-set_same (set ws (2 * i) a) (2 * i + 1) b 0 (omega arith) in
    first-more t i (omega arith)
    ∙ ap (λ (r : Words). slots_of r ++ (slot (at t (2 * i)) (at t (2 * i + 1)) ∷ []))
    (stored-before ws (2 * i) a b h (2 * i) (omega arith))
    ∙ ap (λ (z : ℕ). slots_of (take (2 * i) ws) ++ (slot z (at t (2 * i + 1)) ∷ [])) x
    ∙ ap (λ (z : ℕ). slots_of (take (2 * i) ws) ++ (slot a z ∷ [])) y

-- ---- a move

-- the pairs above the gap begin at this word
around-from : (ws : Words) (i m w : ℕ) → length ws - 2 * (m - i) ≡ w → around ws i m ≡ slots_of (take (2 * i) ws) ++ slots_of (drop w ws)
around-from ws i m w e = ap (λ (j : ℕ). slots_of (take (2 * i) ws) ++ slots_of (drop j ws)) e

module _ (ws : Words) (m : ℕ) (room : 2 * m ≤ length ws) where
  abbrev gap : ℕ
  gap = length ws - 2 * m

  pub move-down : (i : ℕ) → i < m → around (stored ws (gap + 2 * i) (at ws (2 * i)) (at ws (2 * i + 1))) i m ≡ around ws (i + 1) m
  move-down i h =
      let a = at ws (2 * i) in
      let b = at ws (2 * i + 1) in
      let w = gap + 2 * i in
      let t = stored ws w a b in
      let in-words : w + 1 < length ws = omega arith in
      let n = stored-length ws w a b in-words in
      let low = slots_of (take (2 * i) ws) in
      around-from t i m w (omega arith)
      ∙ ap (λ (l : Words). slots_of l ++ slots_of (drop w t)) (stored-before ws w a b in-words (2 * i) (omega arith))
      ∙ ap (λ (l : List Slot). low ++ l) (stored-last ws w a b in-words)
      ∙ sym (append_assoc low (slot a b ∷ []) (slots_of (drop (w + 2) ws)))
      ∙ ap (λ (l : List Slot). l ++ slots_of (drop (w + 2) ws)) (sym (first-more ws i (omega arith)))
      ∙ sym (around-from ws (i + 1) m (w + 2) (omega arith))

  pub move-up : (i : ℕ) → i < m → around (stored ws (2 * i) (at ws (gap + 2 * i)) (at ws (gap + 2 * i + 1))) (i + 1) m ≡ around ws i m
  move-up i h =
      let w = gap + 2 * i in
      let a = at ws w in
      let b = at ws (w + 1) in
      let t = stored ws (2 * i) a b in
      let in-words : 2 * i + 1 < length ws = omega arith in
      let n = stored-length ws (2 * i) a b in-words in
      let low = slots_of (take (2 * i) ws) in
      around-from t (i + 1) m (w + 2) (omega arith)
      ∙ ap (λ (l : Words). slots_of (take (2 * (i + 1)) t) ++ slots_of l) (stored-after ws (2 * i) a b in-words (w + 2) (omega arith))
      ∙ ap (λ (l : List Slot). l ++ slots_of (drop (w + 2) ws)) (stored-first ws i a b in-words)
      ∙ append_assoc low (slot a b ∷ []) (slots_of (drop (w + 2) ws))
      ∙ ap (λ (l : List Slot). low ++ l) (sym (last-more ws w (omega arith))) ∙ sym (around-from ws i m w (omega arith))

  -- the key of the last pair below the gap, and of the first above it
  pub key-below : (i : ℕ) → 0 < i → i ≤ m → key_at (around ws i m) (i - 1) ≡ at ws (2 * i - 2)
  key-below i z h =
      let j = i - 1 in
      let e : i ≡ j + 1 = omega arith in
      let f : 2 * i - 2 ≡ 2 * j = omega arith in
      let high = slots_of (drop (length ws - 2 * (m - i)) ws) in
      let low = slots_of (take (2 * j) ws) in
      let parts : around ws i m ≡ low ++ slot (at ws (2 * j)) (at ws (2 * j + 1)) ∷ high =
      ap (λ (x : ℕ). slots_of (take (2 * x) ws) ++ high) e ∙ ap (λ (l : List Slot). l ++ high) (first-more ws j (omega arith))
      ∙ append_assoc low (slot (at ws (2 * j)) (at ws (2 * j + 1)) ∷ []) high in
      ap (λ (l : List Slot). key_at l j) parts
      ∙ ap (λ (s : Slot). s.key)
      (get_or_at low (slot (at ws (2 * j)) (at ws (2 * j + 1))) high (slot 0 0) j (pairs-length ws j (omega arith)))
      ∙ ap (at ws) (sym f)

  pub key-above : (i : ℕ) → i < m → key_at (around ws i m) i ≡ at ws (gap + 2 * i)
  key-above i h =
      let w = gap + 2 * i in
      let low = slots_of (take (2 * i) ws) in
      let s = slot (at ws w) (at ws (w + 1)) in
      let high = slots_of (drop (w + 2) ws) in
      ap (λ (l : List Slot). key_at l i)
      (around-from ws i m w (omega arith) ∙ ap (λ (l : List Slot). low ++ l) (last-more ws w (omega arith)))
      ∙ ap (λ (x : Slot). x.key) (get_or_at low s high (slot 0 0) i (pairs-length ws i (omega arith)))

  -- the pairs around the gap are m
  pub around-length : (i : ℕ) → i ≤ m → length (around ws i m) ≡ m
  around-length i h =
      let w = length ws - 2 * (m - i) in
      let a = length-append (slots_of (take (2 * i) ws)) (slots_of (drop w ws)) in
      let b = pairs-length ws i (omega arith) in
      let c = length-drop w ws in
      let d = length-slots (m - i) (drop w ws) (omega arith) in
      omega arith

  pub around-closed : around ws m m ≡ pairs_in ws m
  unfolding slots_of
  around-closed = around-from ws m m (length ws) (omega arith) ∙ ap (λ (l : Words). pairs_in ws m ++ slots_of l) (drop-length ws)
      ∙ append-nil (pairs_in ws m)

-- ---- one pair more

-- writing k and p behind the i pairs below the gap puts that pair at place i
pub around-put : (ws : Words) (i m k p : ℕ) → i ≤ m → 2 * m + 2 ≤ length ws
    → around (take (2 * i) ws ++ (k ∷ p ∷ drop (2 * i + 2) ws)) (i + 1) (m + 1) ≡ take i (around ws i m) ++ slot k p
    ∷ drop i (around ws i m)
around-put ws i m k p h l =
    let in-words : 2 * i + 1 < length ws = omega arith in
    let t = stored ws (2 * i) k p in
    let n = stored-length ws (2 * i) k p in-words in
    let w = length ws - 2 * (m - i) in
    let low = slots_of (take (2 * i) ws) in
    let high = slots_of (drop w ws) in
    let few = pairs-length ws i (omega arith) in
    ap (λ (x : Words). around x (i + 1) (m + 1)) (sym (stored-parts ws (2 * i) k p in-words))
    ∙ around-from t (i + 1) (m + 1) w (omega arith)
    ∙ ap (λ (x : Words). slots_of (take (2 * (i + 1)) t) ++ slots_of x) (stored-after ws (2 * i) k p in-words w (omega arith))
    ∙ ap (λ (x : List Slot). x ++ high) (stored-first ws i k p in-words)
    ∙ append_assoc low (slot k p ∷ []) high ∙ ap (λ (x : List Slot). x ++ slot k p ∷ high) (sym (take_at low high i few))
    ∙ ap (λ (x : List Slot). take i (low ++ high) ++ slot k p ∷ x) (sym (drop_at low high i few))

-- ---- as the code takes the steps

-- the gap was moved from place i₀ to place i
pub record Moved (ws₀ : Words) (m i₀ gap : ℕ) (ws : Words) (i : ℕ) : Type 0 where
  pub below : i ≤ m
  pub room : 2 * m ≤ length ws₀
  pub few : m < 16777216
  pub wide : gap ≡ length ws₀ - 2 * m
  pub long : length ws ≡ length ws₀
  pub same : around ws i m ≡ around ws₀ i₀ m

module _ (ws₀ : Words) (m i₀ gap : ℕ) (ws : Words) (i : ℕ) (c : Moved ws₀ m i₀ gap ws i) where
  wide-now : length ws - 2 * m ≡ gap
  wide-now = let a = c.wide in let b = c.long in omega arith

  room-now : 2 * m ≤ length ws
  room-now = let a = c.room in let b = c.long in omega arith

  pub moved-down : (j : ℕ) → i ≡ j + 1 → Moved ws₀ m i₀ gap (stored ws (gap + 2 * j) (at ws (2 * j)) (at ws (2 * j + 1))) j
  moved-down j e =
      let f = c.below in
      record {
        below = omega arith;
        room = c.room;
        few = c.few;
        wide = c.wide;
        long = length-set (set ws (gap + 2 * j) (at ws (2 * j))) (gap + 2 * j + 1) (at ws (2 * j + 1))
            ∙ length-set ws (gap + 2 * j) (at ws (2 * j)) ∙ c.long;
        same = rw (← wide-now) (move-down ws m room-now j (omega arith)) ∙ ap (λ (x : ℕ). around ws x m) (sym e) ∙ c.same;
      }

  pub moved-up : i < m → Moved ws₀ m i₀ gap (stored ws (2 * i) (at ws (gap + 2 * i)) (at ws (gap + 2 * i + 1))) (i + 1)
  moved-up h =
      record {
        below = omega arith;
        room = c.room;
        few = c.few;
        wide = c.wide;
        long = length-set (set ws (2 * i) (at ws (gap + 2 * i))) (2 * i + 1) (at ws (gap + 2 * i + 1))
            ∙ length-set ws (2 * i) (at ws (gap + 2 * i)) ∙ c.long;
        same = rw (← wide-now) (move-up ws m room-now i h) ∙ c.same;
      }

  pub moved-under : (k j : ℕ) → i ≡ j + 1 → at ws (2 * j) ≤ k → Under (around ws₀ i₀ m) k i
  moved-under k j n h =
      let a : 2 * i - 2 ≡ 2 * j = omega arith in
      let e = key-below ws m room-now i (omega arith) c.below in inr (rw (← c.same) (rw (e, a) h))

  pub moved-over : (k : ℕ) → i < m → k < at ws (gap + 2 * i) → Over (around ws₀ i₀ m) k i
  moved-over k l h = let e = key-above ws m room-now i l in let g = wide-now in inr (rw (← c.same) (rw (e, g) h))

  -- a pair that goes down is the last below the gap then
  pub moved-next : (k : ℕ) → i < m → at ws (gap + 2 * i) ≤ k → Under (around ws₀ i₀ m) k (i + 1)
  moved-next k l h = let e = key-above ws m room-now i l in let g = wide-now in let j : i + 1 - 1 ≡ i =
      omega arith in inr (rw (j, ← c.same) (rw (e, g) h))

  pub moved-all : (k : ℕ) → m ≤ i → Over (around ws₀ i₀ m) k i
  moved-all k h = let f = c.below in inl (let n = around-length ws m room-now i f in let q = ap length c.same in omega arith)

-- down, then up
pub sought : (ws ws' ws'' : Words) (m i i' i'' k : ℕ) → around ws' i' m ≡ around ws i m → Under (around ws i m) k i' → around ws'' i'' m
    ≡ around ws' i' m → i'' ≤ m
    → (Under (around ws' i' m) k i' → Under (around ws' i' m) k i'') × Over (around ws' i' m) k i''
    → ((around ws'' i'' m ≡ around ws i m) × (i'' ≤ m)) × (Under (around ws i m) k i'' × Over (around ws i m) k i'')
sought ws ws' ws'' m i i' i'' k a u b l o =
    let v = subst (λ (ps : List Slot). (Under ps k i' → Under ps k i'') × Over ps k i'') a o in
    ((b ∙ a, l), (v.0 u, v.1))

-- the gap past the last key there is
pub closed : (ws ws' : Words) (m i r top : ℕ) → 2 * m ≤ length ws' → around ws' r m ≡ around ws i m → r ≤ m → Over (around ws i m) top r
    → ((j : ℕ) → at ws' j ≤ top) → pairs_in ws' m ≡ around ws i m
closed ws ws' m i r top room e l o few =
    ⊎_elim (λ q. all (let n = around-length ws' m room r l in let z = ap length e in omega arith))
    (λ h. ⊎_elim (λ z. absurd (past h z)) (⊎_elim all (λ z. absurd (omega arith))) (compared r m)) o
  where
    all : r ≡ m → pairs_in ws' m ≡ around ws i m
    all s = sym (around-closed ws' m room) ∙ ap (λ (x : ℕ). around ws' x m) (sym s) ∙ e

    past : top < key_at (around ws i m) r → r < m → ⊥
    past h z =
        let k = key-above ws' m room r z in
        let f = few (length ws' - 2 * m + 2 * r) in
        let q = ap (λ (ps : List Slot). key_at ps r) e in
        omega arith

-- of no pairs the last has no key
pub ends-none : (ws : Words) (i k : ℕ) → i ≡ 0 → false ≡ ends_with ws i k
unfolding ends_with
ends-none ws i k e = rw (eq-eqb i 0 e)

-- of i pairs, i not 0, the last has key k exactly if word 2i - 2 is k
pub ends-some : (ws : Words) (i k : ℕ) → i ≢ 0 → eqb (at ws (2 * i - 2)) k ≡ ends_with ws i k
unfolding ends_with
ends-some ws i k e = rw (ne_eqb i 0 e)
