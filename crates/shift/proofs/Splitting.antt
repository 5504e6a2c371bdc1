-- Split and new root, step by step on a desk.
use Rattle.std.proofs.Common.{◌≡◌, ℕ, ◌+◌, ◌≤◌, Bool, true, false, eqb, List, [], ◌∷◌, ◌++◌, length, drop, set, replicate, refl, ap, ◌∙◌}
use Rattle.std.proofs.Common.{add-one, arith, eq-eqb, ne_eqb}
use Rattle.model.specs.declared.Node.{Node}
use Rattle.model.specs.Table.{MARK, Words, at, root_word, node_start, has_node, node}
use Rattle.model.specs.Slots.{Slot, slot, node_view, view_from, height}
use Rattle.model.specs.Orders.{Store, put}
use Rattle.model.specs.Shifts.{pointer_to}
use Rattle.model.specs.Writes.{fresh, put_all, node_words, middle, split_words, split, new_root_at, new_root}
use Rattle.node.specs.Word.{start_of, word_of}
use Rattle.node.proofs.WordLaws.{word-level}
use Rattle.orders.specs.declared.Writer.{Writer}
use Rattle.orders.specs.Desk.{of, stored_all, Room}
use Rattle.orders.proofs.Rest.{Rest, rest-start, rest-same}
use Rattle.slots.specs.Scan.{in_use_of}
use Rattle.shift.specs.declared.Opened.{Opened}
use Rattle.shift.specs.Stores.{Opens, held, in_from, slot_in, middle_of, upper_words}
use Rattle.slots.proofs.Places.{in-use-at}
use Rattle.shift.proofs.AtNode.{starts, shown-is, shift-in-as}

-- ---- the words of B

module _ (n : Node) (h : 6 ≤ length (in_use_of n.slots)) where
  pub middle-at : middle_of n ≡ slot (at n.slots 10) (at n.slots 11)
  middle-at = in-use-at n.slots 5 (omega arith)

  pub upper-leaf : n.level ≡ 0 → node_words MARK n.sibling n.level (at n.slots 10) (drop 5 (in_use_of n.slots)) ≡ upper_words n
  unfolding upper_words
  upper-leaf e = rw (eq-eqb n.level 0 e, middle-at)

  pub upper-inner : (n.level ≡ 0 → ⊥)
      → node_words (at n.slots 11) n.sibling n.level (at n.slots 10) (drop 6 (in_use_of n.slots)) ≡ upper_words n
  unfolding upper_words
  upper-inner e = rw (ne_eqb n.level 0 e, middle-at)

-- ---- split: the words of B, A's sibling, A's pointer 5, the shift in at the parent

-- what the code has read: A, the parent, and where B begins
pub record Parts (t : Words) (a b p u : ℕ) (x y : Opened) : Type 0 where
  pub lower : Opens t a x
  pub lower-plain : (node_view t a).hidden ≡ 0
  pub enough : 6 ≤ length (node_view t a).shown
  pub upper : u ≡ node_start b
  pub above : Opens t p y
  pub above-plain : (node_view t p).hidden ≡ 0

pub parts : {t : Words} {a b p u : ℕ} {x y : Opened} → Opens t a x → (node_view t a).hidden ≡ 0 → 6 ≤ length (node_view t a).shown
    → has_node t b ≡ true → u ≡ start_of t b
    → Opens t p y → (node_view t p).hidden ≡ 0 → Parts t a b p u x y
parts l z m h e o k = record { lower = l; lower-plain = z; enough = m; upper = starts _ _ _ h e; above = o; above-plain = k }

module _ {t : Words} {a b p u : ℕ} {x y : Opened} (c : Parts t a b p u x y) where
  all : (node_view t a).shown ≡ held x
  all = shown-is c.lower c.lower-plain

  pub six : 6 ≤ length (held x)
  six = rw all at c.enough

  words-as : split_words t a ≡ upper_words x.node
  unfolding split_words upper_words
  words-as = rw c.lower.node_is (go (eqb (node t a).level 0) refl)
    where
      all-read : (node_view t a).shown ≡ in_use_of (node t a).slots
      all-read = all ∙ ap (λ (n : Node). in_use_of n.slots) c.lower.node_is

      go : (b : Bool) → eqb (node t a).level 0 ≡ b → split_words t a ≡ upper_words (node t a)
      go true e = rw (e, split_words) (rw all-read)
      go false e = rw (e, split_words) (rw all-read)

  key-as : (middle t a).key ≡ at x.node.slots 10
  key-as = rw all (ap (λ (s : Slot). s.key) (middle-at x.node six))

  abbrev after : List Store
  after = put (x.start + 1) b ∷ in_from x.start (pointer_to 5 0) ∷ slot_in y (at x.node.slots 10) b

  split-steps : {ws : Words} → ws ≡ upper_words x.node → split t a b p ≡ put_all u ws ++ after
  unfolding split
  split-steps q = rw (words-as, ← q, key-as, shift-in-as c.above c.above-plain, c.lower.start_is, c.upper, add-one)

  pub split-rest : {ws : Words} → ws ≡ upper_words x.node → {f : Writer} → Room (split t a b p) (of f)
      → Rest (put_all u ws ++ after) f f (stored_all (split t a b p) (of f))
  split-rest e r = rest-same (split-steps e) (rest-start r)

-- ---- new root

-- document 01's new root of collection n
pub new-root-fresh : (n : ℕ) (t : Words) → new_root n t ≡ new_root_at (root_word n) t (fresh t (at t (root_word n)))
unfolding new_root
new-root-fresh n t = refl

-- o is the root that stands in header word x
module _ (t : Words) (x o n w l : ℕ) (eo : o ≡ at t x) (h : has_node t n ≡ true) (e : w ≡ start_of t n) (el : l ≡ word_of t o 2) where
  pub level-is : l ≡ height (view_from t (at t x))
  level-is = el ∙ word-level t o ∙ ap (λ (m : ℕ). (node_view t m).level) eo

  abbrev words : Words
  words = set (set (replicate 32 0) 0 o) 2 (l + 1)

  root-steps : new_root_at x t n ≡ put_all w words ++ (put x n ∷ [])
  unfolding node_words
  root-steps = rw (eo, ← level-is, ← (starts t n w h e), add-one)

  pub root-rest : {f : Writer} → Room (new_root_at x t n) (of f)
      → Rest (put_all w words ++ (put x n ∷ [])) f f (stored_all (new_root_at x t n) (of f))
  root-rest r = rest-same root-steps (rest-start r)
