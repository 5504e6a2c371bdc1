-- True words stay true: an accepted write sets the words of the nodes it stored to, and of every other node the words are what they were.
use Rattle.std.proofs.Common.{◌≡◌, ℕ, zero, suc, ◌*◌, ◌≤◌, Bool, true, false, cond, ◌&&◌, eqb, ◌≢◌, List, [], ◌∷◌, map, length, replicate}
use Rattle.std.proofs.Common.{sym, refl, ap, ◌∙◌}
use Rattle.model.specs.declared.Node.{Node}
use Rattle.model.specs.Table.{Words, nodes, node}
use Rattle.model.specs.Reached.{reached_all}
use Rattle.model.specs.SoundTest.{elem, sound}
use Rattle.model.specs.Orders.{Store, apply}
use Rattle.model.specs.Writes.{Call, stores_of}
use Rattle.model.specs.Refusals.{refusal, unless_refused, table_after}
use Rattle.model.specs.Sentinels.{shown_on, first_key, leaves_all, sentinels_of, sentinels, words_of, stores_to_node, set_anew}
use Rattle.model.specs.Sentinels.{refusal_with, table_with, sentinels_with}
use Rattle.two_laws.proofs.AcceptedTwo.{accepted-iff}
use Rattle.two_laws.proofs.MapsTwo.{sound-after, nodes-after}
use Rattle.sentinel_laws.proofs.Slices.{with-accepted}
use Rattle.sentinel_laws.proofs.Unstored.{node-unstored, lines-unstored}
use Rattle.sentinel_laws.proofs.Leaves.{leaves-level}
use Rattle.sentinel_laws.proofs.Reaching.{reached-same}
use Rattle.sentinel_laws.proofs.NodeWords.{flat-length, flat-words, three-words, slices-same}

-- ---- three words a node

-- a node has 3 sentinel words
pub sentinels-three : (t : Words) (n : ℕ) → length (sentinels_of t n) ≡ 3
unfolding sentinels_of
sentinels-three t n = go (elem n (leaves_all t))
  where
    go : (b : Bool) → length (cond b (map (λ (j : ℕ). first_key (shown_on t n j)) (0 ∷ 1 ∷ 2 ∷ [])) (replicate 3 0)) ≡ 3
    go true = refl
    go false = refl

-- the sentinel words of a table are 3 for each of its nodes
pub length-sentinels : (t : Words) → length (sentinels t) ≡ 3 * nodes t
unfolding sentinels
length-sentinels t = flat-length (sentinels_of t) (nodes t) (λ n a b. sentinels-three t n)

-- among the sentinel words of a table, those of node n stand in place n
pub sentinels-at : (t : Words) (n : ℕ) → 1 ≤ n → n ≤ nodes t → words_of (sentinels t) n ≡ sentinels_of t n
unfolding sentinels
sentinels-at t n a b = flat-words (sentinels_of t) (nodes t) (λ n a b. sentinels-three t n) n a b

-- ---- a slice with some words set anew

module _ (p : ℕ → Bool) (t ws : Words) (l : length ws ≡ 3 * nodes t) where
  abbrev words_now : ℕ → Words
  words_now n = cond (p n) (sentinels_of t n) (words_of ws n)

  now-three : (n : ℕ) → 1 ≤ n → n ≤ nodes t → length (words_now n) ≡ 3
  now-three n a b = go (p n)
    where
      go : (c : Bool) → length (cond c (sentinels_of t n) (words_of ws n)) ≡ 3
      go true = sentinels-three t n
      go false = three-words (nodes t) ws l n a b

  -- setting words anew leaves 3 for each node
  pub length-anew : length (set_anew p t ws) ≡ 3 * nodes t
  unfolding set_anew
  length-anew = flat-length words_now (nodes t) now-three

  -- after words are set anew, node n has its true words if it was one of those set, else the old ones
  pub anew-at : (n : ℕ) → 1 ≤ n → n ≤ nodes t → words_of (set_anew p t ws) n ≡ cond (p n) (sentinels_of t n) (words_of ws n)
  unfolding set_anew
  anew-at n a b = flat-words words_now (nodes t) now-three n a b

  -- The words of these nodes are set, and no others.
  pub anew-set : (n : ℕ) → 1 ≤ n → n ≤ nodes t → p n ≡ true → words_of (set_anew p t ws) n ≡ sentinels_of t n
  anew-set n a b e = anew-at n a b ∙ rw e

  pub anew-others : (n : ℕ) → 1 ≤ n → n ≤ nodes t → p n ≡ false → words_of (set_anew p t ws) n ≡ words_of ws n
  anew-others n a b e = anew-at n a b ∙ rw e

-- ---- an accepted call

module _ (x : Call) (words dock : ℕ) (t : Words) (ok : refusal x words dock t ≡ 0) where
  abbrev ss : List Store
  ss = stores_of x t

  abbrev t' : Words
  t' = apply (stores_of x t) t

  before : sound t ≡ true
  before = ((accepted-iff x words dock t).0 ok).sound

  -- of a node that it does not store to
  module _ (n : ℕ) (some : 1 ≤ n) (e : stores_to_node (stores_of x t) n ≡ false) where
    leaf-same : elem n (leaves_all t') ≡ elem n (leaves_all t)
    leaf-same =
        leaves-level t' n (sound-after x words dock t ok)
        ∙ ap (λ (b : Bool). b && eqb (node t' n).level 0) (reached-same x words dock t ok n e)
        ∙ ap (λ (l : ℕ). elem n (reached_all t) && eqb l 0) (ap (λ (y : Node). y.level) (node-unstored ss t n some e))
        ∙ sym (leaves-level t n before)

    pub words-same : sentinels_of (apply (stores_of x t) t) n ≡ sentinels_of t n
    unfolding sentinels_of
    words-same = rw (leaf-same, lines-unstored ss t n some e 0, lines-unstored ss t n some e 1, lines-unstored ss t n some e 2)

  -- True words stay true.
  pub stay-true : set_anew (stores_to_node (stores_of x t)) (apply (stores_of x t) t) (sentinels t) ≡ sentinels (apply (stores_of x t) t)
  stay-true =
      let l : length (sentinels t) ≡ 3 * nodes t' = length-sentinels t ∙ ap (λ (n : ℕ). 3 * n) (sym (nodes-after x words dock t ok)) in
      slices-same (nodes t') _ _ (length-anew (stores_to_node ss) t' (sentinels t) l) (length-sentinels t')
      (λ n a b. anew-at (stores_to_node ss) t' (sentinels t) l n a b ∙ go n a b (stores_to_node ss n) refl
      ∙ sym (sentinels-at t' n a b))
    where
      go : (n : ℕ) → 1 ≤ n → n ≤ nodes t' → (c : Bool) → stores_to_node ss n ≡ c
          → cond (stores_to_node ss n) (sentinels_of t' n) (words_of (sentinels t) n) ≡ sentinels_of t' n
      go n a b true e = rw e
      go n a b false e = rw e (sentinels-at t n a (rw (nodes-after x words dock t ok) at b) ∙ sym (words-same n a e))

-- ---- the calls that take the slice

-- After an accepted one the words are true if they were.
pub kept-true : (x : Call) (ws : Words) (words dock : ℕ) (t : Words) → refusal_with x (length ws) words dock t ≡ 0 → ws ≡ sentinels t
    → sentinels_with x ws words dock t ≡ sentinels (table_with x (length ws) words dock t)
unfolding sentinels_with table_with table_after
kept-true x ws words dock t ok e =
    let a = with-accepted x (length ws) words dock t ok in
    rw (ok, a.0, a.1) (ap (set_anew (stores_to_node (stores_of x t)) (apply (stores_of x t) t)) e ∙ stay-true x words dock t a.1)

-- After a refused one they are what they were.
pub kept-refused : (x : Call) (ws : Words) (words dock : ℕ) (t : Words) → refusal_with x (length ws) words dock t ≢ 0
    → sentinels_with x ws words dock t ≡ ws
unfolding sentinels_with
kept-refused x ws words dock t = go (refusal_with x (length ws) words dock t)
  where
    go : (r : ℕ) → r ≢ 0 → unless_refused r (set_anew (stores_to_node (stores_of x t)) (apply (stores_of x t) t) ws) ws ≡ ws
    go zero z = absurd (z refl)
    go (suc r) z = refl
