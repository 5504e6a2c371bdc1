-- Document 01, "Orders": insertion, deletion, a changed class and repair, each as its list of stores on a table.
use Rattle.std.specs.Prelude.{◌≡◌, Bool, true, false, not, ◌&&◌, List, [], ◌∷◌, ◌++◌, map, ℕ, zero, suc, pred, ◌-◌, eqb, ltb, length, get_or, take, drop}
use Rattle.std.specs.Prelude.{replicate}
use Rattle.std.proofs.Math.Option.{Option, none, some}
use Rattle.model.specs.Table.{MARK, Words, at, nodes, root_word, node_start, in_range}
use Rattle.model.specs.Slots.{Slot, slot, slot_words, pointer_of, with_class, View, node_view, view_from, view_of, view, height, used, full}
use Rattle.model.specs.Search.{path}
use Rattle.model.specs.Reached.{filter, head_or, reached_all}
use Rattle.model.specs.SoundTest.{all, elem, Leftover, nothing, hidden_in, missing_in, both_in, leftover_all}
use Rattle.model.specs.Orders.{Store, put, apply}
use Rattle.model.specs.Shifts.{in_node, pointer_word, last_pointer, shift_in, shift_out, close, place_of, hidden_place}

-- ---- shifts in a node of a table

-- shift (k, x) in at its place among the shown slots of node n
unfoldable pub shift_in_at : Words → (n k x : ℕ) → List Store
shift_in_at t n k x = let v = view t in map (in_node n) (shift_in (v.node n).left (v.node n).shown (place_of k (v.node n).shown) k x)

-- shift the slot of key k out of node n
unfoldable pub shift_out_at : Words → (n k : ℕ) → List Store
shift_out_at t n k = let v = view t in map (in_node n) (shift_out (v.node n).left (v.node n).shown (place_of k (v.node n).shown))

-- close the hidden slot of node n
unfoldable pub close_at : Words → (n : ℕ) → List Store
close_at t n = map (in_node n) (close (used t n) (hidden_place (node_view t n).left (used t n)))

-- ---- fresh nodes

-- from, from + 1, .., count of them
unfoldable pub numbers : (from count : ℕ) → List ℕ
numbers from zero = []
numbers from (suc n) = from ∷ numbers (suc from) n

-- the nodes of these that are reached from neither root
unfoldable pub unreached : Words → List ℕ → List ℕ
unreached t ns = filter (λ (m : ℕ). not (elem m (reached_all t))) ns

-- the unreachable nodes
unfoldable pub unreachable : Words → List ℕ
unreachable t = unreached t (numbers 1 (nodes t))

-- the first unreachable node after a, going round from N to 1; 0 if there is none
unfoldable pub fresh : Words → (a : ℕ) → ℕ
fresh t a = head_or 0 (unreached t (numbers (suc a) (nodes t - a) ++ numbers 1 (pred a)))

-- ---- split and new root

-- the stores of words from word w on, in rising order
unfoldable pub put_all : ℕ → Words → List Store
put_all w [] = []
put_all w (x ∷ xs) = put w x ∷ put_all (suc w) xs

-- the 32 words of a node; the rest is 0
unfoldable pub node_words : (left sibling level fence : ℕ) → List Slot → Words
node_words left sibling level fence ss =
    (left ∷ sibling ∷ level ∷ fence ∷ replicate 4 0) ++ take 24 (slot_words ss ++ replicate 24 0)

-- slot 5 of node a
abbrev pub middle : Words → (a : ℕ) → Slot
middle t a = get_or (node_view t a).shown 5 (slot 0 0)

-- B takes A's old sibling, A's level, and key 5 as fence. A leaf's B takes slots 5 to 10 and left MARK; an inner B takes pointer 5 as
-- left and slots 6 to 10.
unfoldable pub split_words : Words → (a : ℕ) → Words
split_words t a =
    let v = view t in
    elim (eqb (v.node a).level 0) [
      | true ↦ node_words MARK (v.node a).sibling (v.node a).level (middle t a).key (drop 5 (v.node a).shown)
      | false ↦ node_words (middle t a).pointer (v.node a).sibling (v.node a).level (middle t a).key (drop 6 (v.node a).shown)
    ]

-- Split full A into B: all 32 words of B in rising order; A's sibling := B; A's pointer 5 := 0; shift B in at the parent p.
unfoldable pub split : Words → (a b p : ℕ) → List Store
split t a b p =
    put_all (node_start b) (split_words t a) ++ (put (suc (node_start a)) b ∷ put (pointer_word a 5) 0 ∷ shift_in_at t p (middle t a).key b)

-- New root: all 32 words of node r with left the old root, one level up, the rest 0; then the header word w of that root, 1 or 3.
abbrev pub new_root_at : (w : ℕ) → Words → (r : ℕ) → List Store
new_root_at w t r = put_all (node_start r) (node_words (at t w) 0 (suc (height (view_from t (at t w)))) 0 []) ++ (put w r ∷ [])

unfoldable pub new_root : (n : ℕ) → Words → List Store
new_root n t = new_root_at (root_word n) t (fresh t (at t (root_word n)))

-- ---- repair

-- storing 0 in the pointer of A's first slot from B's fence up
unfoldable pub cut_off : Words → (a : ℕ) → List Store
cut_off t a = let v = view t in put (pointer_word a (place_of (v.node (v.node a).sibling).fence (v.node a).shown)) 0 ∷ []

-- shift B, the sibling of A, in at the parent p
unfoldable pub attach : Words → (p a : ℕ) → List Store
attach t p a = let v = view t in shift_in_at t p (v.node (v.node a).sibling).fence (v.node a).sibling

-- Repair: close, then cut A, then shift B in at the parent; a step for which the leftover has no matter is left out.
unfoldable pub repair_of : Words → Option Leftover → List Store
repair_of t none = []
repair_of t (some nothing) = []
repair_of t (some (hidden_in x)) = close_at t x
repair_of t (some (missing_in p a false)) = attach t p a
repair_of t (some (missing_in p a true)) = cut_off t a ++ attach t p a
repair_of t (some (both_in p a)) = close_at t p ++ attach (apply (close_at t p) t) p a

-- of the one leftover, in whichever tree it is
unfoldable pub repair_stores : Words → List Store
repair_stores t = repair_of t (leftover_all t)

-- the table as repair would leave it
unfoldable pub repaired : Words → Words
repaired t = apply (repair_stores t) t

-- ---- insertion, deletion and a changed class, in collection n

-- the node on level l that the search for k stands on
unfoldable pub standing_in : View → (l k : ℕ) → ℕ
standing_in v l k = get_or (path v k) (height v - l) 0

abbrev pub standing : (n : ℕ) → Words → (l k : ℕ) → ℕ
standing n t l k = standing_in (view_of n t) l k

module _ (v : View) where
  -- the unbroken run of full nodes from the leaf upward: the longest end of the path all of whose nodes are full
  unfoldable pub run_in : List ℕ → ℕ
  run_in [] = 0
  run_in (n ∷ ns) = elim (all (λ (m : ℕ). full (v.node m).shown) (n ∷ ns)) [ true ↦ length (n ∷ ns) | false ↦ run_in ns ]

abbrev pub run : (n : ℕ) → Words → (k : ℕ) → ℕ
run n t k = run_in (view_of n t) (path (view_of n t) k)

-- the run includes the root
unfoldable pub root_in_run : (n : ℕ) → Words → (k : ℕ) → Bool
root_in_run n t k = eqb (run n t k) (suc (height (view_of n t)))

-- the run's lowest m nodes split, from the highest down; the parent is looked up after the split above it
unfoldable pub splits : (n m : ℕ) → Words → (k : ℕ) → List Store
splits n zero t k = []
splits n (suc l) t k =
    let a = standing n t l k in
    let ss = split t a (fresh t a) (standing n t (suc l) k) in
    ss ++ splits n l (apply ss t) k

unfoldable pub root_stores : (n : ℕ) → Words → (k : ℕ) → List Store
root_stores n t k = elim (root_in_run n t k) [ true ↦ new_root n t | false ↦ [] ]

-- Insertion after repair: a new root if the run includes the root; the splits; shift in at the leaf, k with the pointer x.
unfoldable pub insert_settled : (n : ℕ) → Words → (k x : ℕ) → List Store
insert_settled n t k x =
    let s₁ = root_stores n t k in
    let t₁ = apply s₁ t in
    let s₂ = splits n (run n t k) t₁ k in
    let t₂ = apply s₂ t₁ in
    s₁ ++ (s₂ ++ shift_in_at t₂ (standing n t₂ 0 k) k x)

unfoldable pub insert_stores : (n : ℕ) → Words → (k x : ℕ) → List Store
insert_stores n t k x = repair_stores t ++ insert_settled n (repaired t) k x

-- the child of p before its child x
unfoldable pub child_before : View → (p x : ℕ) → ℕ
child_before v p x = let ss = (v.node p).shown in last_pointer (v.node p).left (take (place_of (v.node x).fence ss) ss)

-- The deletion of a slot empties its leaf x, which is not the leftmost child of its parent p; a root leaf has no parent.
unfoldable pub frees_leaf : (n : ℕ) → Words → (p x : ℕ) → Bool
frees_leaf n t p x =
    eqb (length (node_view t x).shown) 1 && (ltb 0 (height (view_of n t)) && not (eqb (node_view t p).left x))

-- Shift the slot of leaf x out at the parent p, then store its sibling into its left neighbour's sibling word.
unfoldable pub free_stores : Words → (p x : ℕ) → List Store
free_stores t p x =
    let v = view t in
    shift_out_at t p (v.node x).fence ++ (put (suc (node_start (child_before v p x))) (v.node x).sibling ∷ [])

-- Deletion after repair: shift out; where that empties a leaf which is not its parent's leftmost child, the leaf is freed. Leaf and
-- parent are looked up before the first store.
unfoldable pub delete_settled : (n : ℕ) → Words → (k : ℕ) → List Store
delete_settled n t k =
    let x = standing n t 0 k in
    let p = standing n t 1 k in
    let s₁ = shift_out_at t x k in
    s₁ ++ elim (frees_leaf n t p x) as (λ b. List Store) [ true ↦ free_stores (apply s₁ t) p x | false ↦ [] ]

unfoldable pub delete_stores : (n : ℕ) → Words → (k : ℕ) → List Store
delete_stores n t k = repair_stores t ++ delete_settled n (repaired t) k

-- A changed class is one store, after repair: the pointer of k's slot in leaf x, with class c.
unfoldable pub set_class_at : Words → (x k c : ℕ) → List Store
set_class_at t x k c =
    let ss = (node_view t x).shown in
    let p = place_of k ss in
    put (pointer_word x p) (with_class (get_or ss p (slot 0 0)).pointer c) ∷ []

unfoldable pub class_stores : (n : ℕ) → Words → (k c : ℕ) → List Store
class_stores n t k c = repair_stores t ++ set_class_at (repaired t) (standing n (repaired t) 0 k) k c

-- ---- the writing calls; a repair names no collection

pub data Call : Type 0 where
  insertion : (n k r c : ℕ) → Call
  deletion : (n k : ℕ) → Call
  class_change : (n k c : ℕ) → Call
  repair : Call

-- the stores of an accepted call, in document 01's order
unfoldable pub stores_of : Call → Words → List Store
stores_of (insertion n k r c) t = insert_stores n t k (pointer_of r c)
stores_of (deletion n k) t = delete_stores n t k
stores_of (class_change n k c) t = class_stores n t k c
stores_of repair t = repair_stores t

-- ---- a leaf that a deletion freed

-- node x of t' is reached from neither root, and t' has one unreachable node more than t
pub record FreeAfter (t : Words) (x : ℕ) (t' : Words) : Type 0 where
  pub range : in_range (nodes t') x ≡ true
  pub unreached : elem x (reached_all t') ≡ false
  pub one-more : length (unreachable t') ≡ suc (length (unreachable t))
