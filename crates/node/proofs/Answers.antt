-- The definitions' values, from the facts that the functions' tests establish.
use Rattle.std.proofs.Common.{◌≡◌, ℕ, ◌+◌, ◌-◌, ◌*◌, ◌/◌, ◌<◌, ◌≤◌, Bool, true, false, leb, length, take, drop, replicate, sym, refl, ◌∙◌}
use Rattle.std.proofs.Common.{arith, le-ltb, lt-ltb, le-leb, leb-true}
use mathlib.Core.Bool.{and-false}
use Rattle.model.specs.Table.{Words, at, node_start, nodes_for, length_ok, nodes, has_node, node, node_from, blank}
use Rattle.list_laws.proofs.Tools.{refuted, same-test}
use Rattle.table_laws.proofs.Header.{LengthFacts, length-iff, HeaderFacts}
use Rattle.table_laws.proofs.Nodes.{has-node-iff, node-in, node-out}
use Rattle.node.specs.Word.{nodes_in, start_of, word_of}

pub length-refused : (len : ℕ) → (LengthFacts len (nodes_for len) → ⊥) → length_ok len ≡ false
length-refused len h = refuted _ (λ e. h ((length-iff len _).0 (e, refl)))

pub nodes-in-none : (len : ℕ) → length_ok len ≡ false → nodes_in len ≡ 0
unfolding nodes_in
nodes-in-none len h = rw h

pub nodes-in-some : (len n : ℕ) → LengthFacts len n → nodes_in len ≡ n
unfolding nodes_in
nodes-in-some len n f = let e = (length-iff len n).1 f in rw e.0 (sym e.1)

-- if a table can have this length, the number that is read from it is its number of nodes
pub nodes-in-sized : (len m n : ℕ) → n ≡ nodes_in len → LengthFacts len m → LengthFacts len n
nodes-in-sized len m n e f = rw (e, nodes-in-some len m f) f

pub nodes-in-refused : (len : ℕ) → nodes_in len ≡ 0 → length_ok len ≡ false
nodes-in-refused len h = refuted _ (λ e. let f = (length-iff len _).0 (e, refl) in omega (arith, f, nodes-in-some len _ f))

pub nodes-in-found : (len n : ℕ) → n ≡ nodes_in len → (n ≡ 0 → ⊥) → LengthFacts len n
nodes-in-found len n e h = go (length_ok len) refl
  where
    go : (b : Bool) → length_ok len ≡ b → LengthFacts len n
    go true q = let f = (length-iff len _).0 (q, refl) in rw (e, nodes-in-some len _ f) f
    go false q = absurd (h (e ∙ nodes-in-none len q))

-- the N of the header is that of the length
pub header-nodes : (t : Words) (n : ℕ) → n ≡ nodes_in (length t) → HeaderFacts t → n ≡ nodes t
header-nodes t n e f = e ∙ nodes-in-some (length t) (nodes t) f.size

pub has-none : (t : Words) (i : ℕ) → (1 ≤ i → 8 + 32 * i ≤ length t → ⊥) → has_node t i ≡ false
has-none t i h = refuted _ (λ e. let u = (has-node-iff t i).0 e in h u.0 u.1)

pub has-divided : (t : Words) (i : ℕ) → (i ≡ 0 → ⊥) → 8 ≤ length t → leb i ((length t - 8) / 32) ≡ has_node t i
has-divided t i p l =
    same-test _ _ (
      λ e. (has-node-iff t i).1 (omega (arith, leb-true i ((length t - 8) / 32) e)),
      λ e. le-leb i ((length t - 8) / 32) (omega (arith, (has-node-iff t i).0 e)),
    )

pub start-none : (t : Words) (i : ℕ) → has_node t i ≡ false → start_of t i ≡ 0
unfolding start_of
start-none t i h = rw h

-- a node of the table begins at its first word
pub start-some : (t : Words) (i : ℕ) → has_node t i ≡ true → start_of t i ≡ node_start i
unfolding start_of
start-some t i h = rw h

-- what a node's first word, once found, tells
pub record Found (t : Words) (i w : ℕ) : Type 0 where
  pub here : has_node t i ≡ true
  pub begins : w ≡ node_start i
  pub fits : w + 32 ≤ length t

pub start-found : (t : Words) (i w : ℕ) → w ≡ start_of t i → (w ≡ 0 → ⊥) → Found t i w
unfolding node_start
start-found t i w e h = go (has_node t i) refl
  where
    go : (b : Bool) → has_node t i ≡ b → Found t i w
    go true q = let begins : w ≡ node_start i =
        e ∙ start-some t i q in record { here = q; begins = begins; fits = omega (arith, (has-node-iff t i).0 q) }
    go false q = absurd (h (e ∙ start-none t i q))

pub start-missing : (t : Words) (i w : ℕ) → w ≡ start_of t i → w ≡ 0 → has_node t i ≡ false
unfolding node_start
start-missing t i w e h = refuted _ (λ q. omega (arith, start-some t i q))

pub word-none : (t : Words) (i j : ℕ) → has_node t i ≡ false → word_of t i j ≡ 0
unfolding word_of
word-none t i j h = rw h

pub word-past : (t : Words) (i j : ℕ) → 32 ≤ j → word_of t i j ≡ 0
unfolding word_of
word-past t i j h = rw (le-ltb j 32 h, and-false)

pub word-found : (t : Words) (i w j : ℕ) → Found t i w → j < 32 → word_of t i j ≡ at t (w + j)
unfolding word_of
word-found t i w j f h = rw (f.here, lt-ltb j 32 h, ← f.begins)

pub node-none : (t : Words) (i : ℕ) → has_node t i ≡ false → node t i
    ≡ record { left = 0; sibling = 0; level = 0; fence = 0; slots = replicate 24 0 }
unfolding blank
node-none t i h = node-out t i h

pub node-some : (t : Words) (i w : ℕ) (slots : Words) → Found t i w → slots ≡ take 24 (drop (w + 8) t) → node t i
    ≡ record { left = at t w; sibling = at t (w + 1); level = at t (w + 2); fence = at t (w + 3); slots = slots }
unfolding node_from
node-some t i w slots f e = node-in t i f.here ∙ rw (← f.begins, e)
