-- What the functions over one node answer, from what they read.
use Rattle.std.proofs.Common.{◌≡◌, ℕ, ◌+◌, ◌<◌, Bool, true, false, ◌&&◌, ◌||◌, eqb, ltb, length, get_or, take, drop, replicate, sym, ap}
use Rattle.std.proofs.Common.{◌∙◌, ap₂, arith, length-drop, length-take, take-take, drop-drop, lt-ltb, eq-eqb, ne_eqb}
use mathlib.Core.Bool.{and_assoc}
use lib.Pointwise.{pointwise}
use Rattle.std.proofs.lemmas.List.{drop-take, get_or-take, get_or-drop}
use Rattle.model.specs.Table.{Words, at, nodes, in_range, header_ok, node_start, has_node, node, spare, all_zero}
use Rattle.model.specs.Slots.{view, clear_in}
use Rattle.model.specs.Reached.{first_child, next_child}
use Rattle.model.specs.SoundTest.{sibling_ok}
use Rattle.table_laws.proofs.Nodes.{has-node-range, spare-in}
use Rattle.node.specs.Word.{word_of, words_at}
use Rattle.node.proofs.Roots.{zeros-as-one}
use Rattle.node.proofs.WordLaws.{word-left, word-sibling, word-level, word-fence, word-slot}
use Rattle.walk_laws.specs.Walk.{stands}
use Rattle.sound.specs.Nodes.{standing}

-- ---- the words that must be 0

word-at : (t : Words) (n j : ℕ) → has_node t n ≡ true → j < 32 → word_of t n j ≡ at t (node_start n + j)
unfolding word_of
word-at t n j h l = rw (h, lt-ltb j 32 l)

module _ (t : Words) (n : ℕ) (h : has_node t n ≡ true) (ws : Words) (w : ws ≡ words_at t n) where
  spare-words : take 4 (drop 4 ws) ≡ spare t n
  spare-words =
      let s = node_start n in
      ap (λ (xs : Words). take 4 (drop 4 xs)) w ∙ ap (take 4) (drop-take 4 28 (drop s t)) ∙ take-take 4 28 (drop 4 (drop s t)) (omega arith)
      ∙ ap (take 4) (drop-drop 4 s t) ∙ sym (spare-in t n h)

  last-word : get_or ws 31 0 ≡ word_of t n 31
  last-word =
      let s = node_start n in
      ap (λ (xs : Words). get_or xs 31 0) w ∙ get_or-take 32 (drop s t) 31 0 (omega arith) ∙ get_or-drop s t 31 0
      ∙ sym (word-at t n 31 h (omega arith))

  module _ (l : length ws ≡ 32) (b : Bool) (e : b ≡ pointwise eqb (take 4 (drop 4 ws)) (replicate 4 0)) where
    clear-words : clear_in t n ≡ (b && eqb (get_or ws 31 0) 0)
    unfolding clear_in
    clear-words =
        ap₂ ◌&&◌ (sym (e ∙ zeros-as-one (take 4 (drop 4 ws)) 4 (simp (length-take, length-drop) (omega arith)) ∙ ap all_zero spare-words))
        (ap (λ (k : ℕ). eqb k 0) (sym (last-word ∙ word-slot t n 23 (omega arith))))

    pub clear-then : b ≡ true → eqb (get_or ws 31 0) 0 ≡ clear_in t n
    clear-then y = sym (clear-words ∙ ap (λ (a : Bool). a && eqb (get_or ws 31 0) 0) y)

    pub clear-else : b ≡ false → b ≡ clear_in t n
    clear-else z = z ∙ sym (clear-words ∙ ap (λ (a : Bool). a && eqb (get_or ws 31 0) 0) z)

-- ---- the sibling, s, of node n

module _ (t : Words) (n s : ℕ) (h : header_ok t ≡ true) (e : s ≡ word_of t n 1) where
  abbrev pub in-place : Bool
  in-place = (has_node t s && eqb (word_of t s 2) (word_of t n 2)) && ltb (word_of t n 3) (word_of t s 3)

  sibling-joined : (eqb s 0 || in-place) ≡ sibling_ok (view t) n
  unfolding sibling_ok
  sibling-joined =
      let is : (node t n).sibling ≡ s = sym (e ∙ word-sibling t n) in
      rw (is, has-node-range t s h, word-level t s, word-level t n, word-fence t s, word-fence t n)
      (ap (λ (b : Bool). eqb s 0 || b) (and_assoc (in_range (nodes t) s) _ _))

  pub sibling-none : s ≡ 0 → eqb s 0 ≡ sibling_ok (view t) n
  sibling-none z = let f = eq-eqb s 0 z in f ∙ ap (λ (b : Bool). b || in-place) (sym f) ∙ sibling-joined

  pub sibling-some : (s ≡ 0 → ⊥) → in-place ≡ sibling_ok (view t) n
  sibling-some z = ap (λ (b : Bool). b || in-place) (sym (ne_eqb s 0 z)) ∙ sibling-joined

-- ---- the node after the last child

pub next-none : (t : Words) (n s : ℕ) → s ≡ word_of t n 1 → s ≡ 0 → 0 ≡ next_child (view t) n
unfolding first_child
next-none t n s e z = rw (eq-eqb (node t n).sibling 0 (sym (e ∙ word-sibling t n) ∙ z), first_child)

pub next-some : (t : Words) (n s w : ℕ) → s ≡ word_of t n 1 → (s ≡ 0 → ⊥) → w ≡ word_of t s 0 → w ≡ next_child (view t) n
unfolding first_child
next-some t n s w e z q =
    let is : s ≡ (node t n).sibling = e ∙ word-sibling t n in
    rw (← is) (rw (ne_eqb s 0 z, first_child) (q ∙ word-left t s))

-- ---- where a node stands

pub stands-joined : (t : Words) (n l k r : ℕ) → header_ok t ≡ true
    → (((has_node t n && eqb (word_of t n 2) l) && eqb (word_of t n 3) k) && eqb (word_of t n 1) r) ≡ stands (view t) (standing n l k r)
unfolding stands
stands-joined t n l k r h =
    rw (has-node-range t n h, word-level t n, word-fence t n, word-sibling t n)
    (and_assoc (in_range (nodes t) n && eqb (node t n).level l) _ _ ∙ and_assoc (in_range (nodes t) n) _ _)
