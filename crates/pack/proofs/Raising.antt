-- The rows up to the root, and the packed nodes as a whole.
use Rattle.std.proofs.Common.{◌≡◌, ℕ, zero, suc, ◌+◌, ◌-◌, ◌*◌, ◌/◌, ◌<◌, ◌≤◌, List, [], ◌∷◌, ◌++◌, map, length, get_or, take, drop}
use Rattle.std.proofs.Common.{replicate, sym, refl, ap, ◌∙◌, subst, append_assoc, arith, length-append, length-drop, length-take-le}
use Rattle.std.proofs.Common.{drop-drop, take_at, get_or-append-add}
use lib.Seq.{sets, sets-eq, length-sets, take-append_seam, drop-append-add}
use Rattle.model.specs.Table.{Words, at}
use Rattle.model.specs.Slots.{Slot}
use Rattle.model.specs.Writes.{node_words}
use Rattle.model.specs.Packing.{Made, inner_from, groups, bottom, numbered, row_above, rows_above, packed, next, row_words, rows_words}
use Rattle.model.specs.Packing.{count_rows, packed_count, packed_words}
use Rattle.word_laws.proofs.NewNodes.{length-node-words}
use Rattle.pack_laws.specs.Needed.{nodes_above, nodes_needed}
use Rattle.pack_laws.proofs.Standing.{length-row}
use Rattle.pack_laws.proofs.Counts.{above-length, above-one, rows-count, bottom-length}
use Rattle.pack_laws.proofs.Fresh.{words-long}
use Rattle.pack.specs.Rows.{pairs_in, children_from, row_over, raised, pairs_after, packed_after}
use Rattle.pack.proofs.Parts.{rest-is, rest-long, back-is}
use Rattle.pack.proofs.Filling.{needed-step}
use Rattle.pack.proofs.Leaves.{pairs-length}

-- ---- the loop over the rows

raised-more : (f : ℕ) (t : Words) (k c l : ℕ) → 1 < c → raised (suc f) t k c l
    ≡ raised f (sets t (32 * (k + c)) (row_words l (suc (k + c)) (row_over t k c))) (k + c) ((c + 11) / 12) (suc l)
unfolding raised
raised-more f t k zero l h = absurd (omega arith)
raised-more f t k (suc zero) l h = absurd (omega arith)
raised-more f t k (suc (suc c)) l h = refl

raised-one : (f : ℕ) (t : Words) (k c l : ℕ) → c ≤ 1 → raised f t k c l ≡ t
unfolding raised
raised-one zero t k c l h = refl
raised-one (suc f) t k zero l h = refl
raised-one (suc f) t k (suc zero) l h = refl
raised-one (suc f) t k (suc (suc c)) l h = absurd (omega arith)

raised-out : (t : Words) (k c l : ℕ) → raised 0 t k c l ≡ t
unfolding raised
raised-out t k c l = refl

-- the row on the level below this one has so many nodes from node first on
pub record Rising (ws : Words) (z leaves : ℕ) (t : Words) (first row level : ℕ) : Type 0 where
  pub low : 1 ≤ level
  pub high : level ≤ 16
  pub long : length t ≡ length ws
  pub few : row < 65536
  pub bound : first ≤ z + (level - 1) * 65536
  pub low-nodes : z < 65536
  pub words : raised (16 - level) t first row level ≡ raised 15 ws z leaves 1
  pub count : first + row + nodes_above (16 - level) row ≡ z + (leaves + nodes_above 15 leaves)
  pub fits : 32 * (z + (leaves + nodes_above 15 leaves)) ≤ length ws

module _ (ws : Words) (z leaves : ℕ) (t : Words) (first row level : ℕ) (r : Rising ws z leaves t first row level) where
  pub rising-fits : level < 16 → 1 < row → 32 * (first + row + (row + 11) / 12) ≤ length t
  rising-fits h d =
      let e = needed-step row (16 - level) 0 d (λ y. omega arith) in
      omega (arith, e, r.count, r.fits, r.long)

  pub rising-step : (u : Words) (n : ℕ) → level < 16 → 1 < row → u
      ≡ sets t (32 * (first + row)) (row_words level (suc (first + row)) (row_over t first row)) → n ≡ (row + 11) / 12
      → Rising ws z leaves u (first + row) n (level + 1)
  rising-step u n h d q m =
      let e : 16 - level ≡ suc (16 - suc level) = omega arith in
      let g : level + 1 ≡ suc level = omega arith in
      let s = needed-step row (16 - level) (first + row) d (λ y. omega arith) in
      let i : 16 - level - 1 ≡ 16 - (level + 1) = omega arith in
      let w : raised (16 - (level + 1)) u (first + row) n (level + 1) ≡ raised (16 - level) t first row level =
      rw (q, m, g, e) (sym (raised-more (16 - suc level) t first row level d)) in
      record {
        low = omega arith;
        high = omega arith;
        long = ap length q ∙ length-sets t (32 * (first + row)) (row_words level (suc (first + row)) (row_over t first row)) ∙ r.long;
        few = let a = r.few in omega arith;
        bound = let a = r.few in let b = r.bound in let d = r.low in omega arith;
        low-nodes = r.low-nodes;
        words = w ∙ r.words;
        count = let a = r.count in let y : nodes_above (16 - level - 1) ((row + 11) / 12) ≡ nodes_above (16 - (level + 1)) n =
            rw (i, m) in omega (arith, a, s, y, m);
        fits = r.fits;
      }

  pub rising-one : row ≤ 1 → (t ≡ raised 15 ws z leaves 1) × (first + row ≡ z + (leaves + nodes_above 15 leaves))
  rising-one h = (
    sym (raised-one (16 - level) t first row level h) ∙ r.words,
    let a = above-one (16 - level) row h in let b = r.count in omega arith,
  )

  pub rising-top : 16 ≤ level → (t ≡ raised 15 ws z leaves 1) × (first + row ≡ z + (leaves + nodes_above 15 leaves))
  unfolding nodes_above
  rising-top h =
      let e : 16 - level ≡ 0 = omega arith in
      let a : raised (16 - level) t first row level ≡ t = rw e (raised-out t first row level) in
      let b : nodes_above (16 - level) row ≡ 0 = rw e in
      (sym a ∙ r.words, let d = r.count in omega arith)

-- ---- the rows stand as the packing wants them

fence-at : (t pre post : Words) (k l s d f : ℕ) (ss : List Slot) → t ≡ pre ++ (node_words l s d f ss ++ post) → length pre
    ≡ 32 * k → at t (32 * k + 3) ≡ f
unfolding node_words
fence-at t pre post k l s d f ss e h =
    rw (← h) (ap (λ (x : Words). get_or x (length pre + 3) 0) e ∙ get_or-append-add pre (node_words l s d f ss ++ post) 3 0)

children-numbered : (t pre post : Words) (l k : ℕ) (xs : List Made) → t ≡ pre ++ (row_words l (suc k) xs ++ post) → length pre ≡ 32 * k
    → children_from t k (length xs) ≡ numbered (suc k) xs
unfolding children_from numbered row_words
children-numbered t pre post l k [] e h = refl
children-numbered t pre post l k (x ∷ xs) e h =
    let ws = node_words x.left (next (suc k) xs) l x.fence x.slots in
    let rest = row_words l (suc (suc k)) xs in
    let a : t ≡ pre ++ (ws ++ (rest ++ post)) = e ∙ ap (λ (y : Words). pre ++ y) (append_assoc ws rest post) in
    let b : t ≡ (pre ++ ws) ++ (rest ++ post) = a ∙ sym (append_assoc pre ws (rest ++ post)) in
    let n : length (pre ++ ws) ≡ 32 * suc k =
    length-append pre ws ∙ (let q = length-node-words x.left (next (suc k) xs) l x.fence x.slots in omega arith) in
    rw (
      fence-at t pre (rest ++ post) k x.left (next (suc k) xs) l x.fence x.slots a h,
      children-numbered t (pre ++ ws) post l (suc k) xs b n,
    )

row-above : (t : Words) (k : ℕ) (xs : List Made) → children_from t k (length xs) ≡ numbered (suc k) xs
    → row_over t k (length xs) ≡ row_above (suc k) xs
unfolding row_above
row-above t k xs e = ap (λ (ss : List Slot). map inner_from (groups 12 (length xs) ss)) e

sets-seam : (p ws post : Words) → length ws ≤ length post → sets (p ++ post) (length p) ws ≡ p ++ (ws ++ drop (length ws) post)
sets-seam p ws post h =
    let n = length-append p post in
    sets-eq ws (p ++ post) (length p) (omega arith)
    ∙ append_assoc (take (length p) (p ++ post)) ws (drop (length p + length ws) (p ++ post))
    ∙ rw (take-append_seam p post, drop-append-add p post (length ws))

raised-rows : (f k l : ℕ) (xs : List Made) (t pre post : Words) → t ≡ pre ++ (row_words l (suc k) xs ++ post) → length pre ≡ 32 * k
    → 32 * count_rows (rows_above f (suc k) xs) ≤ length post
    → raised f t k (length xs) (suc l) ≡ pre
    ++ (row_words l (suc k) xs
    ++ (rows_words (suc l) (suc k + length xs) (rows_above f (suc k) xs) ++ drop (32 * count_rows (rows_above f (suc k) xs)) post))
unfolding raised rows_above count_rows rows_words
raised-rows zero k l xs t pre post e h r = e
raised-rows (suc f) k l [] t pre post e h r = e
raised-rows (suc f) k l (x ∷ []) t pre post e h r = e
raised-rows (suc f) k l (x ∷ y ∷ ys) t pre post e h r =
    let xs = x ∷ y ∷ ys in
    let c = length xs in
    let up = row_above (suc k) xs in
    let low = row_words l (suc k) xs in
    let new = row_words (suc l) (suc (k + c)) up in
    let above = rows_above f (suc k + c) up in
    let n = length-row l (suc k) xs in
    let m = length-row (suc l) (suc (k + c)) up in
    let s : suc k + c ≡ suc (k + c) = omega arith in
    let p = pre ++ low in
    let pl : length p ≡ 32 * (k + c) = length-append pre low ∙ omega arith in
    let split : t ≡ p ++ post = e ∙ sym (append_assoc pre low post) in
    let over : row_over t k c ≡ up = row-above t k xs (children-numbered t pre post l k xs e h) in
    let t' = sets t (32 * (k + c)) (row_words (suc l) (suc (k + c)) (row_over t k c)) in
    let stands : t' ≡ p ++ (new ++ drop (length new) post) =
    ap (λ (z : List Made). sets t (32 * (k + c)) (row_words (suc l) (suc (k + c)) z)) over ∙ ap (λ (i : ℕ). sets t i new) (sym pl)
    ∙ ap (λ (z : Words). sets z (length p) new) split ∙ sets-seam p new post (omega arith) in
    let len : (c + 11) / 12 ≡ length up = sym (above-length (suc k) xs) in
    let room = length-drop (length new) post in
    let later = count_rows (rows_above f (suc (k + c)) up) in
    let fits : 32 * (length up + later) ≤ length post =
    subst (λ (z : ℕ). 32 * (length up + count_rows (rows_above f z up)) ≤ length post) s r in
    let rows = rows_words (suc (suc l)) (suc (k + c) + length up) (rows_above f (suc (k + c)) up) in
    let idx : length new + 32 * later ≡ 32 * (length up + later) = omega arith in
    let ih = raised-rows f (k + c) (suc l) up t' p (drop (length new) post) stands pl (omega arith) in
    let tail : new ++ (rows ++ drop (32 * later) (drop (length new) post)) ≡ (new ++ rows) ++ drop (32 * (length up + later)) post =
    sym (append_assoc new rows _)
    ∙ ap (λ (z : Words). (new ++ rows) ++ z) (drop-drop (32 * later) (length new) post ∙ ap (λ (i : ℕ). drop i post) idx) in
    let back : (new ++ rows) ++ drop (32 * (length up + later)) post
    ≡ (row_words (suc l) (suc k + c) up ++ rows_words (suc (suc l)) (suc k + c + length up) above)
    ++ drop (32 * (length up + count_rows above)) post =
    ap (λ (z : ℕ). (row_words (suc l) z up ++ rows_words (suc (suc l)) (z + length up) (rows_above f z up))
    ++ drop (32 * (length up + count_rows (rows_above f z up))) post) (sym s) in
    ap (λ (z : ℕ). raised f t' (k + c) z (suc (suc l))) len ∙ ih ∙ append_assoc pre low _
    ∙ ap (λ (z : Words). pre ++ (low ++ z)) (tail ∙ back)

pub raised-long : (f : ℕ) (t : Words) (k c l : ℕ) → length (raised f t k c l) ≡ length t
unfolding raised
raised-long zero t k c l = refl
raised-long (suc f) t k zero l = refl
raised-long (suc f) t k (suc zero) l = refl
raised-long (suc f) t k (suc (suc c)) l =
    raised-long f _ (k + suc (suc c)) _ (suc l)
    ∙ length-sets t (32 * (k + suc (suc c))) (row_words l (suc (k + suc (suc c))) (row_over t k (suc (suc c))))

-- ---- the whole

-- what so many nodes have room for
pub room-facts : (z pairs count : ℕ) → z + nodes_needed pairs ≤ count → (2 * pairs ≤ 32 * (count - z))
    × (z + (suc ((pairs - 1) / 11) + nodes_above 15 (suc ((pairs - 1) / 11))) ≤ count)
unfolding nodes_needed
room-facts z pairs count h = (omega arith, h)

-- pairs after z nodes, packed into the nodes that follow
module _ (ws : Words) (z pairs count : ℕ) (long : length ws ≡ 32 * count) (enough : z + nodes_needed pairs ≤ count) where
  -- the slice from the first leaf on, as it is lent
  abbrev part : Words
  part = take (length ws - 32 * z) (drop (32 * z) ws)

  abbrev leaves : ℕ
  leaves = suc ((pairs - 1) / 11)

  abbrev ps : List Slot
  ps = pairs_after z ws pairs

  pub part-long : length part ≡ 32 * (count - z)
  part-long = rest-long ws (32 * z) ∙ omega arith

  pairs-are : pairs_in part pairs ≡ ps
  pairs-are = ap (λ (l : Words). pairs_in l pairs) (rest-is ws (32 * z))

  bottom-is : length (bottom ps) ≡ leaves
  bottom-is =
      let r = room-facts z pairs count enough in
      let n : length ps ≡ pairs = sym (ap length pairs-are) ∙ pairs-length part pairs (let l = part-long in omega (arith, r.0)) in
      bottom-length ps ∙ ap (λ (i : ℕ). suc ((i - 1) / 11)) n

  -- what the leaves ask of it
  pub leaves-fit : (e : ℕ) → e ≡ leaves → count ≤ 65535 → (2 * pairs ≤ length part) × (32 * e ≤ length part)
      × (e ≡ leaves) × (z + e < 16777216)
  leaves-fit e n few = let r = room-facts z pairs count enough in let l =
      part-long in (omega (arith, r.0), omega (arith, n, r.1), n, omega (arith, n, r.1))

  -- put back, the leaves stand after the first z nodes
  pub leaves-back : (w : Words) (e : ℕ) → e ≡ leaves → w ≡ row_words 0 (suc z) (bottom (pairs_in part pairs)) ++ drop (32 * e) part
      → take (32 * z) ws ++ (w ++ drop (length ws - 32 * z) (drop (32 * z) ws)) ≡ take (32 * z) ws
      ++ (row_words 0 (suc z) (bottom ps) ++ drop (32 * leaves) (drop (32 * z) ws))
  leaves-back w e f p =
      back-is ws (32 * z) w
      ∙ ap (λ (x : Words). take (32 * z) ws ++ x)
      (p ∙ ap (λ (qs : List Slot). row_words 0 (suc z) (bottom qs) ++ drop (32 * e) part) pairs-are)
      ∙ ap (λ (x : Words). take (32 * z) ws ++ (row_words 0 (suc z) (bottom ps) ++ x))
      (ap (λ (i : ℕ). drop (32 * i) part) f ∙ ap (drop (32 * leaves)) (rest-is ws (32 * z)))

  module _ (a : Words) (p : a ≡ take (32 * z) ws ++ (row_words 0 (suc z) (bottom ps) ++ drop (32 * leaves) (drop (32 * z) ws))) where
    abbrev post : Words
    post = drop (32 * leaves) (drop (32 * z) ws)

    pre-long : length (take (32 * z) ws) ≡ 32 * z
    pre-long = let r = room-facts z pairs count enough in length-take-le (32 * z) ws (omega (arith, r.1, long))

    post-long : length post ≡ 32 * (count - (z + leaves))
    post-long = let c = length-drop (32 * z) ws in let d = length-drop (32 * leaves) (drop (32 * z) ws) in let r =
        room-facts z pairs count enough in omega (arith, c, d, long, r.1)

    pub leaves-long : length a ≡ length ws
    leaves-long =
        let r = room-facts z pairs count enough in
        let n = length-append (row_words 0 (suc z) (bottom ps)) post in
        let m = length-row 0 (suc z) (bottom ps) in
        ap length p ∙ length-append (take (32 * z) ws) (row_words 0 (suc z) (bottom ps) ++ post)
        ∙ omega (arith, n, pre-long, post-long, m, bottom-is, long, r.1)

    above-is : count_rows (rows_above 15 (suc z) (bottom ps)) ≡ nodes_above 15 leaves
    above-is = rows-count 15 (suc z) (bottom ps) ∙ ap (nodes_above 15) bottom-is

    count-is : packed_count ps ≡ leaves + nodes_above 15 leaves
    unfolding packed_count packed count_rows
    count-is = let b = bottom-is in let d = rows-count 15 1 (bottom ps) ∙ ap (nodes_above 15) bottom-is in omega arith

    words-are : packed_words (suc z) ps ≡ row_words 0 (suc z) (bottom ps)
        ++ rows_words 1 (suc z + length (bottom ps)) (rows_above 15 (suc z) (bottom ps))
    unfolding packed_words packed rows_words
    words-are = refl

    -- the rows fit over them
    pub rows-fit : (e : ℕ) → e ≡ leaves → count ≤ 65535 → (32 * (z + (e + nodes_above 15 e)) ≤ length a) × (z + e < 65536)
    rows-fit e n few =
        let r = room-facts z pairs count enough in
        let g : z + (e + nodes_above 15 e) ≤ count = rw n r.1 in
        (omega (arith, g, leaves-long, long), omega (arith, g))

    pub packed-all : (b d : Words) (e root : ℕ) → e ≡ leaves → b ≡ raised 15 a z e 1 → root ≡ z + (e + nodes_above 15 e) → d
        ≡ take (32 * root) b ++ replicate (length b - 32 * root) 0
        → (d ≡ packed_after z count ws ps) × (root ≡ z + packed_count ps)
    packed-all b d e root n q r s =
        let pre = take (32 * z) ws in
        let body = packed_words (suc z) ps in
        let over = count_rows (rows_above 15 (suc z) (bottom ps)) in
        let f = room-facts z pairs count enough in
        let cut = drop (32 * over) post in
        let rows = raised-rows 15 z 0 (bottom ps) a pre post p pre-long (omega (arith, above-is, post-long, f.1)) in
        let whole : b ≡ (pre ++ body) ++ cut = q ∙ ap (λ (i : ℕ). raised 15 a z i 1) (n ∙ sym bottom-is) ∙ rows
        ∙ ap (λ (x : Words). pre ++ x)
        (sym (append_assoc (row_words 0 (suc z) (bottom ps))
        (rows_words 1 (suc z + length (bottom ps)) (rows_above 15 (suc z) (bottom ps))) cut)
        ∙ ap (λ (x : Words). x ++ cut) (sym words-are))
        ∙ sym (append_assoc pre body cut) in
        let top : root ≡ z + packed_count ps = r ∙ ap (λ (i : ℕ). z + (i + nodes_above 15 i)) n ∙ ap (λ (i : ℕ). z + i) (sym count-is) in
        let size : length (pre ++ body) ≡ 32 * root = length-append pre body ∙ omega (arith, pre-long, words-long (suc z) ps, top) in
        let len : length b ≡ 32 * count = ap length q ∙ raised-long 15 a z e 1 ∙ leaves-long ∙ long in
        let left : length b - 32 * root ≡ 32 * (count - (z + packed_count ps)) = omega (arith, len, top) in (
          s ∙ ap (λ (x : Words). x ++ replicate (length b - 32 * root) 0)
              (ap (take (32 * root)) whole ∙ take_at (pre ++ body) cut (32 * root) size)
              ∙ ap (λ (i : ℕ). (pre ++ body) ++ replicate i 0) left
              ∙ append_assoc pre body (replicate (32 * (count - (z + packed_count ps))) 0),
          top,
        )
