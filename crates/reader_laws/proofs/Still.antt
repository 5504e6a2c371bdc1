-- A search by looks that all see one table is the search.
use Rattle.std.proofs.Common.{◌≡◌, ℕ, zero, suc, Bool, true, false, eqb, leb, List, refl, ap, ◌∙◌}
use Rattle.model.specs.declared.Answer.TheVariants.{Absent}
use Rattle.std.specs.Prelude.{None}
use Rattle.model.specs.Table.{Words, header_ok, no_collection}
use Rattle.model.specs.Slots.{Slot, NodeView, View, view_of, height}
use Rattle.model.specs.Search.{below, within, moved, route, down, on_level, passes, locate, first_with, first_above, kept, absent_or}
use Rattle.model.specs.Search.{next_from, answer_of, answer_in, search_view, search}
use Rattle.model.specs.Looks.{seen_on, seen_pass, seen_within, stood, stood_on, seen_kept, next_looks, answer_looks, search_looks}

module _ (v : View) (k : ℕ) where
  -- what look i sees of node n
  abbrev look : (i n : ℕ) → NodeView
  look i n = v.node n

  still-pass : (l n : ℕ) → seen_pass v.nodes l n (v.node n) (v.node (v.node n).sibling) ≡ passes v l n
  unfolding seen_pass seen_on passes on_level
  still-pass l n = refl

  still-within : (n j : ℕ) → seen_within (v.node n) (v.node (v.node n).sibling) j ≡ within v n j
  unfolding seen_within below
  still-within n j = refl

  still-stood : (n : ℕ) → stood (v.node n) (v.node (v.node n).sibling) k ≡ v.node (moved v n k)
  unfolding stood moved
  still-stood n = go (within v n k) refl
    where
      go : (b : Bool) → within v n k ≡ b → stood (v.node n) (v.node (v.node n).sibling) k ≡ v.node (moved v n k)
      go true e = rw (still-within n k, e, stood, moved)
      go false e = rw (still-within n k, e, stood, moved)

  still-on : (n : ℕ) → stood_on n (v.node n) (v.node (v.node n).sibling) k ≡ moved v n k
  unfolding stood_on moved
  still-on n = go (within v n k) refl
    where
      go : (b : Bool) → within v n k ≡ b → stood_on n (v.node n) (v.node (v.node n).sibling) k ≡ moved v n k
      go true e = rw (still-within n k, e, stood_on, moved)
      go false e = rw (still-within n k, e, stood_on, moved)

  still-kept : (n : ℕ) → seen_kept (v.node n) (v.node (v.node n).sibling) ≡ kept v n
  unfolding seen_kept kept seen_within below
  still-kept n = refl

  still-next : (c i n : ℕ) → next_looks look v.nodes k c i n ≡ next_from v c n k
  unfolding next_looks next_from
  still-next zero i n = refl
  still-next (suc c) i n = go (passes v 0 n) (eqb (v.node n).sibling 0) refl refl (still-next c (suc i) (v.node n).sibling)
    where
      go : (a b : Bool) → passes v 0 n ≡ a → eqb (v.node n).sibling 0 ≡ b → next_looks look v.nodes k c (suc i) (v.node n).sibling
          ≡ next_from v c (v.node n).sibling k
          → next_looks look v.nodes k (suc c) i n ≡ next_from v (suc c) n k
      go true true e f h =
          rw (still-pass 0 n, e, f, next_looks, next_from)
          (ap (λ (ss : List Slot). absent_or (first_above k ss) (Absent None)) (still-kept n))
      go true false e f h =
          rw (still-pass 0 n, e, f, next_looks, next_from)
          (ap (λ (ss : List Slot). absent_or (first_above k ss) (next_looks look v.nodes k c (suc i) (v.node n).sibling)) (still-kept n)
          ∙ ap (absent_or (first_above k (kept v n))) h)
      go false b e f h = rw (still-pass 0 n, e, next_looks, next_from)

  still-answer : (l i n : ℕ) → answer_looks look v.nodes k i l n ≡ answer_in v k (locate v l n k)
  unfolding answer_looks locate
  still-answer zero i n = go (passes v 0 n) refl
    where
      go : (b : Bool) → passes v 0 n ≡ b → answer_looks look v.nodes k i 0 n ≡ answer_in v k (locate v 0 n k)
      go true e =
          let N = v.nodes in
          let slot = first_with k (v.node (moved v n k)).shown in
          rw (still-pass 0 n, e, answer_looks, locate)
          (ap (λ (x : NodeView). answer_of (first_with k x.shown)
          (next_looks look N k N (suc (suc i)) (stood_on n (v.node n) (v.node (v.node n).sibling) k))) (still-stood n)
          ∙ ap (λ (m : ℕ). answer_of slot (next_looks look N k N (suc (suc i)) m)) (still-on n)
          ∙ ap (answer_of slot) (still-next N (suc (suc i)) (moved v n k)))
      go false e = rw (still-pass 0 n, e, answer_looks, locate)
  still-answer (suc l) i n = go (passes v (suc l) n) refl (still-answer l (suc (suc i)))
    where
      go : (b : Bool) → passes v (suc l) n ≡ b → ((m : ℕ) → answer_looks look v.nodes k (suc (suc i)) l m ≡ answer_in v k (locate v l m k))
          → answer_looks look v.nodes k i (suc l) n ≡ answer_in v k (locate v (suc l) n k)
      go true e h = rw (still-pass (suc l) n, e, answer_looks, locate)
          (ap (λ (x : NodeView). answer_looks look v.nodes k (suc (suc i)) l (route k x.left x.shown)) (still-stood n)
          ∙ h (down v (moved v n k) k))
      go false e h = rw (still-pass (suc l) n, e, answer_looks, locate)

pub looks-still : (n : ℕ) (t : Words) (k : ℕ) → search_looks n (λ (i : ℕ). t) k ≡ search n t k
unfolding search_looks search search_view
looks-still n t k = go (header_ok t) (no_collection n t) (leb (height (view_of n t)) 15) refl refl refl
  where
    go : (a b c : Bool) → header_ok t ≡ a → no_collection n t ≡ b → leb (height (view_of n t)) 15 ≡ c
        → search_looks n (λ (i : ℕ). t) k ≡ search n t k
    go true true c e f g = rw (e, f, search_looks, search)
    go true false true e f g =
        rw (e, f, g, search_looks, search, search_view) (still-answer (view_of n t) k (height (view_of n t)) 1 (view_of n t).root)
    go true false false e f g = rw (e, f, g, search_looks, search, search_view)
    go false b c e f g = rw (e, search_looks, search)
