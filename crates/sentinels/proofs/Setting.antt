-- Words of a slice set node by node.
use Rattle.std.proofs.Common.{◌≡◌, ℕ, suc, ◌+◌, ◌-◌, ◌*◌, ◌<◌, ◌≤◌, Bool, true, false, cond, ◌&&◌, ◌||◌, eqb, ltb, ◌≢◌, ◌⊎◌, ◌++◌, length}
use Rattle.std.proofs.Common.{take, drop, sym, refl, ap, ◌∙◌, inl, inr, add-one, arith, length-append, length-drop, length-take-le}
use Rattle.std.proofs.Common.{get_or-drop, get_or-take, drop-drop, get_or-append-add, ext_get_or, ltb-true, le-ltb, lt-ltb, eq-eqb, ne_eqb}
use lib.ListN.{get_or-append}
use borrow.Rule.Slice.PartMut.{put_mid}
use Rattle.model.specs.Table.{Words, at, nodes}
use Rattle.model.specs.Sentinels.{sentinels_of, sentinels, words_of, set_anew, node_of}
use Rattle.list_laws.proofs.Tools.{same-or-not, compared, or-right}
use Rattle.sentinel_laws.proofs.NodeWords.{three-words, word-at, slices-same}
use Rattle.sentinel_laws.proofs.TrueWords.{sentinels-three, length-sentinels, sentinels-at, length-anew, anew-at}
use Rattle.sentinels.specs.Anew.{put_words, named}

-- ---- the words of one node put in

-- by a copy to their place
pub copied : (ws x ys : Words) (n : ℕ) → ys ≡ x → 1 ≤ n → (let a = 3 * (n - 1) in put_mid a (a + 3 - a) ws ys) ≡ put_words ws n x
unfolding put_words
copied ws x ys n e h =
    let a = 3 * (n - 1) in
    let q : a + (a + 3 - a) ≡ 3 * n = omega arith in
    rw e (ap (λ (l : Words). take a ws ++ (x ++ l)) (drop-drop (a + 3 - a) a ws ∙ ap (λ (m : ℕ). drop m ws) q))

module _ (N : ℕ) (ws x : Words) (n : ℕ) (long : length ws ≡ 3 * N) (some : 1 ≤ n) (few : n ≤ N) (three : length x ≡ 3) where
  abbrev a : ℕ
  a = 3 * (n - 1)

  first-long : length (take (3 * (n - 1)) ws) ≡ 3 * (n - 1)
  first-long = length-take-le a ws (omega arith)

  pub put-length : length (put_words ws n x) ≡ 3 * N
  unfolding put_words
  put-length = simp (length-append, length-drop) (omega (arith, first-long))

  low-word : (i : ℕ) → i < 3 * (n - 1) → at (put_words ws n x) i ≡ at ws i
  unfolding put_words
  low-word i h = get_or-append (take a ws) (x ++ drop (3 * n) ws) 0 i (omega (arith, first-long)) ∙ get_or-take a ws i 0 h

  later : (i : ℕ) → at (put_words ws n x) (3 * (n - 1) + i) ≡ at (x ++ drop (3 * n) ws) i
  unfolding put_words
  later i = let q : a + i ≡ length (take a ws) + i =
      omega (arith, first-long) in ap (at (put_words ws n x)) q ∙ get_or-append-add (take a ws) (x ++ drop (3 * n) ws) i 0

  own-word : (i : ℕ) → i < 3 → at (put_words ws n x) (3 * (n - 1) + i) ≡ at x i
  own-word i h = later i ∙ get_or-append x (drop (3 * n) ws) 0 i (omega (arith, three))

  high-word : (i : ℕ) → 3 * n ≤ i → at (put_words ws n x) i ≡ at ws i
  high-word i h =
      let p : i ≡ a + (length x + (i - 3 * n)) = omega (arith, three) in
      let q : 3 * n + (i - 3 * n) ≡ i = omega arith in
      ap (at (put_words ws n x)) p ∙ later (length x + (i - 3 * n)) ∙ get_or-append-add x (drop (3 * n) ws) (i - 3 * n) 0
      ∙ get_or-drop (3 * n) ws (i - 3 * n) 0 ∙ ap (at ws) q

  -- three words by each of them
  same-three : (m : ℕ) (y : Words) → 1 ≤ m → m ≤ N → length y ≡ 3 → ((i : ℕ) → i < 3 → at (put_words ws n x) (3 * (m - 1) + i) ≡ at y i)
      → words_of (put_words ws n x) m ≡ y
  same-three m y b c l e =
      let t = three-words N (put_words ws n x) put-length m b c in
      ext_get_or 0 (words_of (put_words ws n x) m) y (t ∙ sym l)
      (λ i h. let g : i < 3 = omega (arith, t) in word-at (put_words ws n x) m i g ∙ e i g)

  pub put-own : words_of (put_words ws n x) n ≡ x
  put-own = same-three n x some few three own-word

  pub put-other : (m : ℕ) → 1 ≤ m → m ≤ N → m ≢ n → words_of (put_words ws n x) m ≡ words_of ws m
  put-other m b c z = same-three m (words_of ws m) b c (three-words N ws long m b c) (λ i h. go i h (compared m n) ∙ sym (word-at ws m i h))
    where
      go : (i : ℕ) → i < 3 → (m < n) ⊎ ((m ≡ n) ⊎ (n < m)) → at (put_words ws n x) (3 * (m - 1) + i) ≡ at ws (3 * (m - 1) + i)
      go i h (inl l) = low-word (3 * (m - 1) + i) (omega arith)
      go i h (inr (inl e)) = absurd (z e)
      go i h (inr (inr l)) = high-word (3 * (m - 1) + i) (omega arith)

-- ---- a slice with the words of some nodes set

module _ (t ws : Words) (long : length ws ≡ 3 * nodes t) where
  -- these nodes, and those
  pub anew-same : (p q : ℕ → Bool) → ((n : ℕ) → 1 ≤ n → n ≤ nodes t → p n ≡ q n) → set_anew p t ws ≡ set_anew q t ws
  anew-same p q e = slices-same (nodes t) _ _ (length-anew p t ws long) (length-anew q t ws long) (λ n a b.
      anew-at p t ws long n a b ∙ ap (λ (c : Bool). cond c (sentinels_of t n) (words_of ws n)) (e n a b) ∙ sym (anew-at q t ws long n a b))

  pub anew-none : (p : ℕ → Bool) → ((n : ℕ) → 1 ≤ n → n ≤ nodes t → p n ≡ false) → set_anew p t ws ≡ ws
  anew-none p e = slices-same (nodes t) _ _ (length-anew p t ws long) long (λ n a b. anew-at p t ws long n a b ∙ rw (e n a b))

  pub anew-all : (p : ℕ → Bool) → ((n : ℕ) → 1 ≤ n → n ≤ nodes t → p n ≡ true) → set_anew p t ws ≡ sentinels t
  anew-all p e = slices-same (nodes t) _ _ (length-anew p t ws long) (length-sentinels t)
      (λ n a b. anew-at p t ws long n a b ∙ rw (e n a b) (sym (sentinels-at t n a b)))

  -- one node more
  pub anew-more : (p q : ℕ → Bool) (vs : Words) (n : ℕ) → vs ≡ set_anew p t ws → 1 ≤ n → n ≤ nodes t → q n ≡ true
      → ((m : ℕ) → 1 ≤ m → m ≤ nodes t → m ≢ n → q m ≡ p m)
      → put_words vs n (sentinels_of t n) ≡ set_anew q t ws
  anew-more p q vs n e a b y f =
      let l : length vs ≡ 3 * nodes t = ap length e ∙ length-anew p t ws long in
      let x = sentinels_of t n in
      let own = put-own (nodes t) vs x n l a b (sentinels-three t n) in
      let other = put-other (nodes t) vs x n l a b (sentinels-three t n) in
      slices-same (nodes t) _ _ (put-length (nodes t) vs x n l a b (sentinels-three t n)) (length-anew q t ws long)
      (λ m c d. go m c d own (other m c d) (same-or-not m n))
    where
      go : (m : ℕ) → 1 ≤ m → m ≤ nodes t → words_of (put_words vs n (sentinels_of t n)) n ≡ sentinels_of t n
          → (m ≢ n → words_of (put_words vs n (sentinels_of t n)) m ≡ words_of vs m) → (m ≡ n) ⊎ (m ≢ n)
          → words_of (put_words vs n (sentinels_of t n)) m ≡ words_of (set_anew q t ws) m
      go m c d own other (inl z) = rw z (own ∙ sym (anew-at q t ws long n a b ∙ rw y))
      go m c d own other (inr z) =
          other z ∙ ap (λ (u : Words). words_of u m) e ∙ anew-at p t ws long m c d
          ∙ ap (λ (c : Bool). cond c (sentinels_of t m) (words_of ws m)) (sym (f m c d z)) ∙ sym (anew-at q t ws long m c d)

-- ---- node by node

module _ (t ws : Words) (long : length ws ≡ 3 * nodes t) where
  pub fill-start : ws ≡ set_anew (λ (m : ℕ). ltb m 1) t ws
  fill-start = sym (anew-none t ws long _ (λ n a b. le-ltb n 1 a))

  pub fill-more : (vs us : Words) (n : ℕ) → vs ≡ set_anew (λ (m : ℕ). ltb m n) t ws → 1 ≤ n → n ≤ nodes t → us
      ≡ put_words vs n (sentinels_of t n) → us ≡ set_anew (λ (m : ℕ). ltb m (n + 1)) t ws
  fill-more vs us n e a b q =
      q ∙ anew-more t ws long (λ (m : ℕ). ltb m n) (λ (m : ℕ). ltb m (n + 1)) vs n e a b (lt-ltb n (n + 1) (omega arith))
      (λ m c d z. same m z (compared m n))
    where
      same : (m : ℕ) → m ≢ n → (m < n) ⊎ ((m ≡ n) ⊎ (n < m)) → ltb m (n + 1) ≡ ltb m n
      same m z (inl l) = lt-ltb m (n + 1) (omega arith) ∙ sym (lt-ltb m n l)
      same m z (inr (inl e)) = absurd (z e)
      same m z (inr (inr l)) = le-ltb m (n + 1) (omega arith) ∙ sym (le-ltb m n (omega arith))

  pub fill-done : (vs : Words) (n : ℕ) → vs ≡ set_anew (λ (m : ℕ). ltb m n) t ws → nodes t < n → vs ≡ sentinels t
  fill-done vs n e h = e ∙ anew-all t ws long _ (λ m a b. lt-ltb m n (omega arith))

-- ---- the node that an order stores to

pub in-table : (w len : ℕ) → w < len → node_of w ≡ cond (ltb w len) (node_of w) 0
in-table w len h = rw (lt-ltb w len h)

pub past-table : (w len : ℕ) → len ≤ w → 0 ≡ cond (ltb w len) (node_of w) 0
past-table w len h = rw (le-ltb w len h)

-- ---- the words of the nodes that the first orders of a list store to

-- what renew_once leaves of the slice
module _ (n last : ℕ) (vs us : Words) where
  once-skips : n ≡ 0 → vs ≡ cond (eqb n 0 || eqb n last) vs us
  once-skips z = rw (eq-eqb n 0 z)

  once-had : n ≢ 0 → n ≡ last → vs ≡ cond (eqb n 0 || eqb n last) vs us
  once-had z e = rw (ne_eqb n 0 z, eq-eqb n last e)

  once-sets : n ≢ 0 → n ≢ last → us ≡ cond (eqb n 0 || eqb n last) vs us
  once-sets z e = rw (ne_eqb n 0 z, ne_eqb n last e)

module _ (t ws list : Words) (long : length ws ≡ 3 * nodes t) where
  abbrev len : ℕ
  len = length t

  pub stored-none : ws ≡ set_anew (named (length t) list 0) t ws
  unfolding named
  stored-none = sym (anew-none t ws long _ (λ n a b. refl))

  -- one order more, whose first word is w
  module _ (i n last : ℕ) (size : length t ≡ 8 + 32 * nodes t)
      (e : n ≡ cond (ltb (at list (2 * i)) (length t)) (node_of (at list (2 * i))) 0)
      (had : last ≢ 0 → named (length t) list i last ≡ true) where
    abbrev w : ℕ
    w = at list (2 * i)

    -- at node m
    named-off : (m : ℕ) → 1 ≤ m → m ≢ n → named (length t) list (suc i) m ≡ named (length t) list i m
    unfolding named
    named-off m a z = go (ltb w len) refl
      where
        go : (b : Bool) → ltb w len ≡ b → (b && eqb m (node_of w)) || named len list i m ≡ named len list i m
        go true c = let q : n ≡ node_of w = e ∙ rw c in rw (ne_eqb m (node_of w) (λ y. z (y ∙ sym q)))
        go false c = refl

    named-at : n ≢ 0 → named (length t) list (suc i) n ≡ true
    unfolding named
    named-at z = go (ltb w len) refl
      where
        go : (b : Bool) → ltb w len ≡ b → (b && eqb n (node_of w)) || named len list i n ≡ true
        go true c = let q : n ≡ node_of w = e ∙ rw c in rw (eq-eqb n (node_of w) q)
        go false c = absurd (z (e ∙ rw c))

    named-stays : (m : ℕ) → named (length t) list i m ≡ true → named (length t) list (suc i) m ≡ true
    unfolding named
    named-stays m h = or-right (ltb w len && eqb m (node_of w)) (named len list i m) h

    pub stored-few : n ≤ nodes t
    stored-few = go (ltb w len) refl
      where
        go : (b : Bool) → ltb w len ≡ b → n ≤ nodes t
        go true c = let q : n ≡ node_of w = e ∙ rw c in omega (arith, q, ltb-true w len c, size)
        go false c = let q : n ≡ 0 = e ∙ rw c in omega (arith, q)

    pub stored-last : (r : ℕ) → r ≡ cond (eqb n 0) last n → r ≢ 0 → named (length t) list (i + 1) r ≡ true
    stored-last r q z = rw (add-one i) (go (same-or-not n 0))
      where
        go : (n ≡ 0) ⊎ (n ≢ 0) → named (length t) list (suc i) r ≡ true
        go (inl y) = let p : r ≡ last = q ∙ rw (eq-eqb n 0 y) in rw p (named-stays last (had (λ u. z (p ∙ u))))
        go (inr y) = let p : r ≡ n = q ∙ rw (ne_eqb n 0 y) in rw p (named-at y)

    pub stored-more : (vs us : Words) → vs ≡ set_anew (named (length t) list i) t ws → us
        ≡ cond (eqb n 0 || eqb n last) vs (put_words vs n (sentinels_of t n)) → us ≡ set_anew (named (length t) list (i + 1)) t ws
    stored-more vs us h q = rw (add-one i) (go (same-or-not n 0) (same-or-not n last))
      where
        go : (n ≡ 0) ⊎ (n ≢ 0) → (n ≡ last) ⊎ (n ≢ last) → us ≡ set_anew (named (length t) list (suc i)) t ws
        go (inl y) d = q ∙ sym (once-skips n last vs _ y) ∙ h
            ∙ sym (anew-same t ws long _ _ (λ m a b. named-off m a (λ u. omega (arith, u, y))))
        go (inr y) (inl d) = q ∙ sym (once-had n last vs _ y d) ∙ h ∙ sym (anew-same t ws long _ _ (λ m a b. same m a (same-or-not m n)))
          where
            same : (m : ℕ) → 1 ≤ m → (m ≡ n) ⊎ (m ≢ n) → named (length t) list (suc i) m ≡ named (length t) list i m
            same m a (inl u) = rw u (named-at y ∙ sym (rw d (had (λ v. y (d ∙ v)))))
            same m a (inr u) = named-off m a u
        go (inr y) (inr d) =
            q ∙ sym (once-sets n last vs _ y d)
            ∙ anew-more t ws long (named (length t) list i) (named (length t) list (suc i)) vs n h (omega (arith, y)) stored-few
            (named-at y) (λ m a b z. named-off m a z)
