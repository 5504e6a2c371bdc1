-- The frame laws: what of a table's header and nodes reads the same after stores to a stretch of words, and after stores to one node.
use Rattle.std.proofs.Common.{◌≡◌, ℕ, zero, suc, ◌+◌, ◌<◌, ◌≤◌, Bool, true, false, cond, ◌≢◌, length, set, sym, refl, ◌∙◌, add-zero, arith}
use Rattle.std.proofs.Common.{length-set, get_or-set_same}
use Rattle.model.specs.declared.Node.{Node}
use Rattle.model.specs.Table.{Words, at, nodes, has_node, node_start, node, node_from, blank, spare}
use Rattle.model.specs.Slots.{clear_in, used, node_view}
use Rattle.view_laws.proofs.NodeViews.{AllBut}
use Rattle.table_laws.proofs.Header.{HeadFacts}
use Rattle.table_laws.proofs.Nodes.{has-node-iff, node-in}
use Rattle.word_laws.proofs.Outside.{Outside, same-part}

-- tables of the same length have the same nodes
pub has-node-same : (t t' : Words) (i : ℕ) → length t' ≡ length t → has_node t' i ≡ has_node t i
unfolding has_node
has-node-same t t' i e = rw e

-- a word of a node: what the record's field g reads
abbrev Reads : (Node → ℕ) → ℕ → Type 0
Reads g j = (t : Words) (w : ℕ) → g (node_from t w) ≡ at t (w + j)

reads-left : Reads (λ (m : Node). m.left) 0
unfolding node_from
reads-left t w = rw add-zero

reads-sibling : Reads (λ (m : Node). m.sibling) 1
unfolding node_from
reads-sibling t w = refl

reads-level : Reads (λ (m : Node). m.level) 2
unfolding node_from
reads-level t w = refl

reads-fence : Reads (λ (m : Node). m.fence) 3
unfolding node_from
reads-fence t w = refl

-- ---- the header

-- t' is as long as t and has its header, word by word
pub record SameHeader (t t' : Words) : Type 0 where
  pub long : length t' ≡ length t
  pub words : (w : ℕ) → w < 8 → at t' w ≡ at t w

-- a table has its own header
pub header-refl : (t : Words) → SameHeader t t
header-refl t = record { long = refl; words = λ w h. refl }

-- having the same header goes on from table to table
pub header-trans : (t u x : Words) → SameHeader t u → SameHeader u x → SameHeader t x
header-trans t u x f g = record { long = g.long ∙ f.long; words = λ w h. g.words w h ∙ f.words w h }

module _ {t t' : Words} (h : SameHeader t t') where
  -- tables with the same header have the same N
  pub same-nodes : nodes t' ≡ nodes t
  same-nodes = h.words 2 (omega arith)

-- what holds of a header's length, first word and zero words holds of every table with the same header
pub same-head : {t t' : Words} → SameHeader t t' → HeadFacts t → HeadFacts t'
same-head h f = record {
  size = rw (h.long, same-nodes h) f.size;
  first = h.words 0 (omega arith) ∙ f.first;
  zeros = λ w p q. h.words w q ∙ f.zeros w p q;
}

-- ---- words that are not in the stretch

module _ (a k : ℕ) (t t' : Words) (o : Outside a k t t') where
  pub header-same : 8 ≤ a → SameHeader t t'
  header-same h = record { long = o.long; words = λ w l. o.same w (omega arith) }

  -- something that is read of a node, where it is read as before of the node's words
  read-same : {A : Type 0} (g : Node → A) (n : ℕ) → g (node_from t' (node_start n)) ≡ g (node_from t (node_start n))
      → g (node t' n) ≡ g (node t n)
  unfolding node
  read-same g n e = rw (has-node-same t t' n o.long) (go (has_node t n))
    where
      go : (b : Bool) → g (cond b (node_from t' (node_start n)) blank) ≡ g (cond b (node_from t (node_start n)) blank)
      go true = e
      go false = refl

  word-same : (g : Node → ℕ) (j : ℕ) → Reads g j → (n : ℕ) → (a ≤ node_start n + j → node_start n + j < a + k → ⊥)
      → g (node t' n) ≡ g (node t n)
  word-same g j r n z = read-same g n (r t' (node_start n) ∙ o.same (node_start n + j) z ∙ sym (r t (node_start n)))

  -- a node whose left is not among the changed words keeps its left
  pub left-same : (n : ℕ) → (a ≤ node_start n + 0 → node_start n + 0 < a + k → ⊥) → (node t' n).left ≡ (node t n).left
  left-same = word-same (λ (m : Node). m.left) 0 reads-left

  -- a node whose sibling is not among the changed words keeps its sibling
  pub sibling-same : (n : ℕ) → (a ≤ node_start n + 1 → node_start n + 1 < a + k → ⊥) → (node t' n).sibling ≡ (node t n).sibling
  sibling-same = word-same (λ (m : Node). m.sibling) 1 reads-sibling

  -- a node whose level is not among the changed words keeps its level
  pub level-same : (n : ℕ) → (a ≤ node_start n + 2 → node_start n + 2 < a + k → ⊥) → (node t' n).level ≡ (node t n).level
  level-same = word-same (λ (m : Node). m.level) 2 reads-level

  -- a node whose fence is not among the changed words keeps its fence
  pub fence-same : (n : ℕ) → (a ≤ node_start n + 3 → node_start n + 3 < a + k → ⊥) → (node t' n).fence ≡ (node t n).fence
  fence-same = word-same (λ (m : Node). m.fence) 3 reads-fence

  -- a node of whose words 4 to 7 none is among the changed words keeps them
  pub spare-same : (n : ℕ) → ((w : ℕ) → node_start n + 4 ≤ w → w < node_start n + 4 + 4 → a ≤ w → w < a + k → ⊥) → spare t' n ≡ spare t n
  unfolding spare
  spare-same n z = rw (has-node-same t t' n o.long, same-part a k t t' o (node_start n + 4) 4 z)

  -- a node of whose slot words none is among the changed words keeps its slots
  pub slots-same : (n : ℕ) → ((w : ℕ) → node_start n + 8 ≤ w → w < node_start n + 8 + 24 → a ≤ w → w < a + k → ⊥)
      → (node t' n).slots ≡ (node t n).slots
  unfolding node_from
  slots-same n z = read-same (λ (m : Node). m.slots) n (same-part a k t t' o (node_start n + 8) 24 z)

  pub node-same : (n : ℕ) → ((w : ℕ) → node_start n ≤ w → w < node_start n + 32 → a ≤ w → w < a + k → ⊥) → node t' n ≡ node t n
  node-same n z = λ i. record {
    left = left-same n (z (node_start n + 0) (omega arith) (omega arith)) i;
    sibling = sibling-same n (z (node_start n + 1) (omega arith) (omega arith)) i;
    level = level-same n (z (node_start n + 2) (omega arith) (omega arith)) i;
    fence = fence-same n (z (node_start n + 3) (omega arith) (omega arith)) i;
    slots = slots-same n (λ w p q. z w (omega arith) (omega arith)) i;
  }

-- what is read of a node, by its words
pub view-same : (t t' : Words) (n : ℕ) → node t' n ≡ node t n → spare t' n ≡ spare t n → node_view t' n ≡ node_view t n
unfolding used clear_in
view-same t t' n e f = rw (e, f)

-- ---- stores to the words of node x

-- t' has t's words but for some of node x
abbrev pub Elsewhere : ℕ → Words → Words → Type 0
Elsewhere x t t' = Outside (node_start x) 32 t t'

-- a change inside one node keeps the header
pub else-header : (t t' : Words) (x : ℕ) → Elsewhere x t t' → SameHeader t t'
unfolding node_start
else-header t t' x o = header-same (node_start x) 32 t t' o (omega arith)

-- every other node is as before
module _ (t t' : Words) (x : ℕ) (o : Elsewhere x t t') (h : 1 ≤ x) where
  node-else : (n : ℕ) → n ≢ x → node t' n ≡ node t n
  unfolding node node_start has_node
  node-else zero z = refl
  node-else (suc n) z = node-same (node_start x) 32 t t' o (suc n) (λ w p q r s. z (omega arith))

  spare-else : (n : ℕ) → n ≢ x → spare t' n ≡ spare t n
  unfolding spare node_start has_node
  spare-else zero z = refl
  spare-else (suc n) z = spare-same (node_start x) 32 t t' o (suc n) (λ w p q r s. z (omega arith))

  -- a change inside node x changes what is read of node x alone
  pub view-else : AllBut (node_view t) (node_view t') x
  view-else = record { else = λ n z. view-same t t' n (node-else n z) (spare-else n z); here = refl }

-- ---- a store to a header word of node x

word-stored : (g : Node → ℕ) (j : ℕ) → Reads g j → j < 32 → (t : Words) (x y : ℕ) → has_node t x ≡ true
    → g (node (set t (node_start x + j) y) x) ≡ y
unfolding node_start
word-stored g j r l t x y h =
    let u = (has-node-iff t x).0 h in
    rw (node-in (set t (node_start x + j) y) x (has-node-same t (set t (node_start x + j) y) x (length-set t (node_start x + j) y) ∙ h), r)
    (get_or-set_same t (node_start x + j) y 0 (omega arith))

-- after y is stored in the word of a node's left, its left is y
pub left-stored : (t : Words) (x y : ℕ) → has_node t x ≡ true → (node (set t (node_start x + 0) y) x).left ≡ y
left-stored = word-stored (λ (m : Node). m.left) 0 reads-left (omega arith)

pub sibling-stored : (t : Words) (x y : ℕ) → has_node t x ≡ true → (node (set t (node_start x + 1) y) x).sibling ≡ y
sibling-stored = word-stored (λ (m : Node). m.sibling) 1 reads-sibling (omega arith)
