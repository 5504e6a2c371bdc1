-- A node that no store goes to has the words that it had.
use Rattle.std.proofs.Common.{◌≡◌, ℕ, ◌+◌, ◌<◌, ◌≤◌, false, cond, ◌≢◌, ◌↔◌, List, [], ◌∷◌, ◌++◌, map, set, sym, refl, ap, ◌∙◌, arith}
use Rattle.std.proofs.Common.{get_or-set_other}
use mathlib.Core.List.{map-append}
use Rattle.model.specs.declared.Node.{Node}
use Rattle.model.specs.Table.{Words, at, node_start, has_node, node, node_from, blank}
use Rattle.model.specs.Slots.{used}
use Rattle.model.specs.Orders.{Store, apply}
use Rattle.model.specs.Sentinels.{node_of, stores_to_node, shown_on}
use Rattle.list_laws.proofs.Members.{elem-cons, elem-append}
use Rattle.cut_laws.proofs.Applying.{length-apply}
use Rattle.word_laws.proofs.Frames.{has-node-same}
use Rattle.word_laws.proofs.Outside.{part-same}

abbrev stored : Store → ℕ
stored s = node_of s.word

-- ---- stores that do not go to node n

pub stored-cons : (s : Store) (ss : List Store) (n : ℕ)
    → (stores_to_node (s ∷ ss) n ≡ false) ↔ ((n ≢ node_of s.word) × (stores_to_node ss n ≡ false))
unfolding stores_to_node
stored-cons s ss n = elem-cons n (stored s) (map stored ss)

pub stored-append : (ss us : List Store) (n : ℕ)
    → (stores_to_node (ss ++ us) n ≡ false) ↔ ((stores_to_node ss n ≡ false) × (stores_to_node us n ≡ false))
unfolding stores_to_node
stored-append ss us n = rw (map-append stored ss us) (elem-append n (map stored ss) (map stored us))

-- the words of a node
pub node-of : (n w : ℕ) → 1 ≤ n → node_start n ≤ w → w < node_start n + 32 → node_of w ≡ n
unfolding node_start
node-of n w h a b = omega arith

at-unstored : (ss : List Store) (t : Words) (n w : ℕ) → stores_to_node ss n ≡ false → node_of w ≡ n → at (apply ss t) w ≡ at t w
unfolding apply
at-unstored [] t n w h e = refl
at-unstored (s ∷ ss) t n w h e =
    let u = (stored-cons s ss n).0 h in
    at-unstored ss (set t s.word s.value) n w u.1 e ∙ get_or-set_other t s.word w s.value 0 (λ q. u.0 (sym e ∙ ap node_of q))

-- ---- the node

module _ (ss : List Store) (t : Words) (n : ℕ) (some : 1 ≤ n) (h : stores_to_node ss n ≡ false) where
  abbrev t' : Words
  t' = apply ss t

  word-same : (w : ℕ) → node_start n ≤ w → w < node_start n + 32 → at t' w ≡ at t w
  word-same w a b = at-unstored ss t n w h (node-of n w some a b)

  words-same : node_from t' (node_start n) ≡ node_from t (node_start n)
  unfolding node_from
  words-same = λ i. record {
    left = word-same (node_start n) (omega arith) (omega arith) i;
    sibling = word-same (node_start n + 1) (omega arith) (omega arith) i;
    level = word-same (node_start n + 2) (omega arith) (omega arith) i;
    fence = word-same (node_start n + 3) (omega arith) (omega arith) i;
    slots = part-same t t' (length-apply ss t) (node_start n + 8) 24 (λ w a b. word-same w (omega arith) (omega arith)) i;
  }

  pub node-unstored : node (apply ss t) n ≡ node t n
  unfolding node
  node-unstored = rw (has-node-same t t' n (length-apply ss t)) (ap (λ (x : Node). cond (has_node t n) x blank) words-same)

  -- the slots that its lines show
  pub lines-unstored : (j : ℕ) → shown_on (apply ss t) n j ≡ shown_on t n j
  unfolding shown_on used
  lines-unstored j = rw node-unstored
