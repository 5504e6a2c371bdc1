-- The codes of the leaves, passed one by one along the siblings.
use Rattle.std.proofs.Common.{◌≡◌, ℕ, zero, suc, ◌+◌, ◌*◌, ◌≤◌, Bool, true, false, eqb, List, [], ◌∷◌, length, sym, refl, ap, ◌∙◌, add-one}
use Rattle.std.proofs.Common.{arith, length-append}
use Rattle.std.specs.List.{sum_by}
use Rattle.std.proofs.lemmas.List.Sums.{sum_by-cons}
use Rattle.model.specs.Table.{Words, at, node}
use Rattle.model.specs.Slots.{Slot, node_view, view_from, view, used}
use Rattle.model.specs.Search.{within, below}
use Rattle.model.specs.Reached.{flat, kept, reached, mapping}
use Rattle.model.specs.SoundTest.{sound_view}
use Rattle.list_laws.proofs.Filters.{filter-short}
use Rattle.slot_laws.proofs.Hiding.{shown-and-hidden}
use Rattle.tour_laws.proofs.Ends.{node-slots}
use Rattle.slots.specs.Scan.{in_use_of}
use Rattle.slots.proofs.Places.{in-use-short}
use Rattle.node.specs.Word.{word_of}
use Rattle.node.proofs.WordLaws.{word-level}
use Rattle.walk_laws.specs.Chain.{along, first_leaf, chain}
use Rattle.walk_laws.proofs.WalkLaw.{sound-in-order}
use Rattle.walk_laws.proofs.ChainLaw.{chain-leaves}
use Rattle.model.specs.Statistics.{tree_words}

module _ (t : Words) where
  pub kept-few : (n : ℕ) → length (kept (view t) n) ≤ 12
  unfolding kept used in_use_of
  kept-few n =
      let a = filter-short (λ (s : Slot). within (view t) n s.key) (node_view t n).shown in
      let b = shown-and-hidden (node t n).left (used t n) in
      omega (arith, a, b, in-use-short (node t n).slots, node-slots t n)

  -- in these leaves
  abbrev codes_in : List ℕ → ℕ
  codes_in ns = length (flat (kept (view t)) ns)

  -- the sum of what each has
  pub codes-sum : (ns : List ℕ) → sum_by (λ (n : ℕ). length (kept (view t) n)) ns ≡ codes_in ns
  unfolding flat
  codes-sum [] = refl
  codes-sum (n ∷ ns) =
      sum_by-cons (λ (n : ℕ). length (kept (view t) n)) n ns ∙ ap (λ (k : ℕ). length (kept (view t) n) + k) (codes-sum ns)
      ∙ sym (length-append (kept (view t) n) (flat (kept (view t)) ns))

  codes-few : (ns : List ℕ) → codes_in ns ≤ 12 * length ns
  unfolding flat
  codes-few [] = omega arith
  codes-few (n ∷ ns) = omega (arith, codes-few ns, kept-few n, length-append (kept (view t) n) (flat (kept (view t)) ns))

  along-few : (c n : ℕ) → length (along (view t) c n) ≤ c
  unfolding along
  along-few zero n = omega arith
  along-few (suc c) n = go (eqb n 0) (along-few c (node_view t n).sibling)
    where
      go : (b : Bool) → length (along (view t) c (node_view t n).sibling) ≤ c
          → length (elim b as (λ b. List ℕ) [ true ↦ [] | false ↦ n ∷ along (view t) c (node_view t n).sibling ]) ≤ suc c
      go true h = omega arith
      go false h = omega (arith, h)

  -- of n and the leaves along the siblings, at most c
  abbrev pub codes_along : ℕ → ℕ → ℕ
  codes_along c n = codes_in (along (view t) c n)

  pub codes-bound : (c n : ℕ) → codes_along c n ≤ 12 * c
  codes-bound c n = omega (arith, codes-few (along (view t) c n), along-few c n)

-- ---- of a sound tree

module _ (t : Words) (r : ℕ) (s : sound_view (view_from t r) ≡ true) where
  any-codes : (ns : List ℕ) → flat (kept (view t)) ns ≡ flat (kept (view_from t r)) ns
  unfolding kept below
  any-codes ns = refl

  any-along : (c n : ℕ) → along (view t) c n ≡ along (view_from t r) c n
  unfolding along
  any-along zero n = refl
  any-along (suc c) n = refl

  pub codes-all : (first most codes : ℕ) → first ≡ first_leaf (view_from t r) → most ≡ at t 2 → codes ≡ codes_along t most first
      → codes ≡ length (mapping (view_from t r))
  unfolding mapping chain
  codes-all first most codes f m e =
      let v = view_from t r in
      e ∙ ap (λ (c : ℕ). codes_along t c first) m ∙ ap (codes_along t (at t 2)) f
      ∙ ap length (any-codes (along (view t) (at t 2) (first_leaf v)))
      ∙ ap (λ (ns : List ℕ). length (flat (kept v) ns)) (any-along (at t 2) (first_leaf v) ∙ chain-leaves v (sound-in-order v s))

  module _ (top : ℕ) (q : top ≡ word_of t r 2) where
    pub top-few : top ≤ 15
    top-few = omega (arith, q ∙ word-level t r, (sound-in-order (view_from t r) s).top.level)

    pub tree-words : (n k : ℕ) → n ≡ length (reached (view_from t r)) → k ≡ length (mapping (view_from t r)) → n ∷ k ∷ (top + 1) ∷ []
        ≡ tree_words (view_from t r)
    unfolding tree_words
    tree-words n k a b =
        let v = view_from t r in
        ap (λ (x : ℕ). x ∷ k ∷ (top + 1) ∷ []) a ∙ ap (λ (x : ℕ). length (reached v) ∷ x ∷ (top + 1) ∷ []) b
        ∙ ap (λ (x : ℕ). length (reached v) ∷ length (mapping v) ∷ x ∷ []) (add-one top ∙ ap suc (q ∙ word-level t r))
