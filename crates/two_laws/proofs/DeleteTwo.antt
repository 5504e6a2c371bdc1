-- Deletion in the tree of a collection, beside the other: the pair shifted out, and a leaf that it empties freed.
use Rattle.std.proofs.Common.{◌≡◌, ℕ, suc, ◌<◌, Bool, true, false, ◌≢◌, ◌⊎◌, List, [], ◌++◌, length, take, refl, ap, ◌∙◌, inl, inr}
use Rattle.std.proofs.Common.{append-nil, arith, ltb-true, eqb-true}
use mathlib.Core.List.{Memᴰ}
use mathlib.Core.Option.{some}
use borrow.Author.Tests.{eqb-false}
use Rattle.model.specs.Table.{Words, at, nodes, root_word}
use Rattle.model.specs.Slots.{node_view, view, view_of}
use Rattle.model.specs.Reached.{reached, reached_all, mapping}
use Rattle.model.specs.SoundTest.{elem, nothing, missing_in, both_in, leftover}
use Rattle.model.specs.Orders.{Store, apply}
use Rattle.model.specs.Writes.{shift_out_at, child_before, free_stores, unreachable, standing, frees_leaf, delete_settled}
use Rattle.model.specs.Refusals.{has_key}
use Rattle.model.specs.Ledger.{leave}
use Rattle.list_laws.proofs.Tools.{and-iff, not-iff, same-or-not, Each, Each-append, Each-map}
use Rattle.list_laws.proofs.Members.{each-mem, each-take}
use Rattle.list_laws.proofs.Distinct.{UpTo}
use Rattle.tree_laws.proofs.Rows.{range-iff}
use Rattle.tree_laws.proofs.Levels.{reached-numbers}
use Rattle.cut_laws.proofs.Applying.{apply-append}
use Rattle.step_laws.proofs.Views.{shown-few}
use Rattle.step_laws.proofs.Standing.{standing-stands}
use Rattle.step_laws.proofs.LeafShift.{leaf-out-reached}
use Rattle.step_laws.proofs.Freeing.{Freeable, free-phase, free-unreached, free-fewer, free-others, neighbour-reached, free-cut, free-quiet}
use Rattle.step_laws.proofs.Freeing.{free-skip}
use Rattle.step_laws.proofs.Deletion.{Frees, freeable}
use Rattle.step_laws.proofs.LevelCourses.{Quiet, Skip, Way, quiet-still, quiet-append, still-skip}
use Rattle.two_laws.proofs.Frame.{Away}
use Rattle.two_laws.proofs.Places.{shift-out-away, put-away}
use Rattle.step_laws.proofs.TreeAt.{tree_at, Fine}
use Rattle.two_laws.proofs.TwoLaw.{taken, Tree, Low, Course, tree-fine, head-same, stays, taken-same, phase-course, course-then}
use Rattle.two_laws.proofs.TwoLaw.{course-within, own-usable, own-other}
use Rattle.two_laws.proofs.LevelsTwo.{OthersQuiet, AllQuiet, Ways, others-quiet, quiet-ways, others-append}
use Rattle.two_laws.proofs.Leaf.{leaf-out, out-away, leaf-out-all}
use Rattle.step_laws.proofs.Fresh.{Free}
use Rattle.two_laws.proofs.Arrange.{Arr, arr-low, course-arr, others-all, unreachable-count, same-all}

-- ---- an empty leaf freed

-- leaf x lacks its slot in p, an ordinary leftover of the tree of word w, and all nodes of both trees are reached as in t
pub record Lacks (w : ℕ) (t : Words) (p x : ℕ) (t' : Words) : Type 0 where
  pub leftover : (leftover (tree_at w t') ≡ some (both_in p (child_before (view t) p x)))
      ⊎ (leftover (tree_at w t') ≡ some (missing_in p (child_before (view t) p x) false))
  pub reached : reached_all t' ≡ reached_all t

module _ (w : ℕ) (ws : List ℕ) (t : Words) (low : Low w ws) (f : Tree w ws t nothing) (p x : ℕ) (h : Freeable w (taken ws t) t p x) where
  abbrev ns : List ℕ
  ns = taken ws t

  pub p-reached : Memᴰ p (reached (tree_at w t))
  p-reached = h.parent

  pub before-reached : Memᴰ (child_before (view t) p x) (reached (tree_at w t))
  unfolding child_before
  before-reached = neighbour-reached w ns t p x h

  free-away : Each (Away ns) (free_stores t p x)
  unfolding free_stores
  free-away =
      let few = shown-few t p (own-usable w ws t nothing f p p-reached).clear in
      Each-append (Away ns) (shift_out_at t p (node_view t x).fence) _
      (shift-out-away ns p (own-other w ws t nothing f p p-reached) t (node_view t x).fence few h.there)
      (put-away ns (child_before (view t) p x) (own-other w ws t nothing f _ before-reached) _ _ (omega arith) (omega arith), tt)

  pub free-course : Course 27 w ws t (free_stores t p x) (mapping (tree_at w t))
  free-course = phase-course 27 w ws t nothing (free_stores t p x) (mapping (tree_at w t)) low f (free-phase w ns t p x h) free-away

  -- x is passed over, every level but the leaves' is quiet
  pub free-own-quiet : (l : ℕ) → l ≢ 0 → Quiet (tree_at w) l t (free_stores t p x)
  free-own-quiet = free-quiet w ns t p x h

  pub free-own-skip : Skip (tree_at w) 0 t (free_stores t p x)
  free-own-skip = free-skip w ns t p x h

  pub free-beside : OthersQuiet ws t (free_stores t p x)
  free-beside = others-quiet w ws t nothing low f (free_stores t p x) free-away

  -- ---- what it leaves

  -- The leaf is reached no more, and no other node is lost.
  pub free-two-unreached : elem x (reached (tree_at w (apply (free_stores t p x) t))) ≡ false
  free-two-unreached = free-unreached w ns t p x h

  pub free-two-fewer : length (reached (tree_at w t)) ≡ suc (length (reached (tree_at w (apply (free_stores t p x) t))))
  free-two-fewer = free-fewer w ns t p x h

  pub free-two-others : (n : ℕ) → n ≢ x → elem n (reached (tree_at w (apply (free_stores t p x) t))) ≡ elem n (reached (tree_at w t))
  free-two-others = free-others w ns t p x h

  pub free-two-taken : taken ws (apply (free_stores t p x) t) ≡ taken ws t
  free-two-taken = taken-same w ws t nothing low f (free_stores t p x) free-away

  pub free-two-head : (y : ℕ) → y < 8 → at (apply (free_stores t p x) t) y ≡ at t y
  free-two-head y l = head-same w ws t nothing low f (free_stores t p x) free-away y l

  -- After the parent's first store and before the last one x lacks its slot.
  pub free-two-cut : (j : ℕ) → 0 < j → j < length (free_stores t p x) → Arr w ws t → Lacks w t p x (apply (take j (free_stores t p x)) t)
  unfolding child_before
  free-two-cut j g i arr =
      let ss = take j (free_stores t p x) in
      let tⱼ = apply ss t in
      let away = each-take (Away ns) j (free_stores t p x) free-away in
      let c = free-cut w ns t p x h j g i in
      record {
        leftover = c.leftover;
        reached = same-all w ws t tⱼ arr (head-same w ws t nothing low f ss away 3 (omega arith)) c.reached
            (Each-map _ (λ (y : ℕ). reached (tree_at y tⱼ) ≡ reached (tree_at y t)) ws (λ y k. k.reached)
            (stays w ws t nothing low f ss away));
      }

-- ---- the stores after the repair: the shift out, and those that free the leaf

module _ (n : ℕ) (t : Words) (k : ℕ) where
  abbrev freeing-by : Bool → List Store
  freeing-by b = elim b as (λ b. List Store)
      [ true ↦ free_stores (apply (shift_out_at t (standing n t 0 k) k) t) (standing n t 1 k) (standing n t 0 k) | false ↦ [] ]

  stores-by : (b : Bool) → frees_leaf n t (standing n t 1 k) (standing n t 0 k) ≡ b → delete_settled n t k
      ≡ shift_out_at t (standing n t 0 k) k ++ freeing-by b
  unfolding delete_settled
  stores-by b e = ap (λ (c : Bool). shift_out_at t (standing n t 0 k) k ++ freeing-by c) e

  -- the stores of a deletion begin with those that shift k out of its leaf
  pub stores-begin : (us : List Store) × (delete_settled n t k ≡ shift_out_at t (standing n t 0 k) k ++ us)
  stores-begin = (freeing-by (frees_leaf n t (standing n t 1 k) (standing n t 0 k)), stores-by _ refl)

  -- a deletion that frees the leaf shifts k out, then frees it
  pub stores-freeing : frees_leaf n t (standing n t 1 k) (standing n t 0 k) ≡ true
      → delete_settled n t k ≡ shift_out_at t (standing n t 0 k) k
      ++ free_stores (apply (shift_out_at t (standing n t 0 k) k) t) (standing n t 1 k) (standing n t 0 k)
  stores-freeing e = stores-by true e

  -- a deletion that frees no leaf only shifts k out
  pub stores-plain : frees_leaf n t (standing n t 1 k) (standing n t 0 k) ≡ false → delete_settled n t k
      ≡ shift_out_at t (standing n t 0 k) k
  stores-plain e = stores-by false e ∙ append-nil (shift_out_at t (standing n t 0 k) k)

-- ---- deletion on a settled table

-- node x is reached from neither root in t', which has one unreachable node more than t
pub record Freed (w : ℕ) (ws : List ℕ) (t : Words) (x : ℕ) (t' : Words) : Type 0 where
  pub free : Free w (taken ws t') t' x
  pub one-more : length (unreachable t') ≡ suc (length (unreachable t))

module _ (n : ℕ) (ws : List ℕ) (t : Words) (arr : Arr (root_word n) ws t) (tree : Tree (root_word n) ws t nothing) (k : ℕ)
    (has : has_key k (mapping (view_of n t)) ≡ true) where
  abbrev w : ℕ
  w = root_word n

  lowly : Low w ws
  lowly = arr-low w ws t arr

  s : Fine w (taken ws t) t nothing
  s = tree-fine w ws t lowly nothing tree

  abbrev leaf : ℕ
  leaf = standing n t 0 k

  abbrev parent : ℕ
  parent = standing n t 1 k

  abbrev ss : List Store
  ss = shift_out_at t leaf k

  abbrev t₁ : Words
  t₁ = apply ss t

  out : Course 25 w ws t ss (leave k (mapping (view_of n t)))
  out = leaf-out w ws t lowly tree k has

  ss-away : Each (Away (taken ws t)) ss
  ss-away = out-away w ws t lowly tree k has

  reached₁ : reached (tree_at w t₁) ≡ reached (tree_at w t)
  reached₁ = leaf-out-reached w (taken ws t) t s k has

  -- all nodes are reached as before
  pub out-reached : reached_all (apply (shift_out_at t (standing n t 0 k) k) t) ≡ reached_all t
  out-reached =
      same-all w ws t t₁ arr (head-same w ws t nothing lowly tree ss ss-away 3 (omega arith)) reached₁
      (Each-map _ (λ (y : ℕ). reached (tree_at y t₁) ≡ reached (tree_at y t)) ws (λ y k. k.reached)
      (stays w ws t nothing lowly tree ss ss-away))

  -- the leaf is emptied, and not leftmost
  module _ (e : frees_leaf n t (standing n t 1 k) (standing n t 0 k) ≡ true) where
    frees : Frees w t (standing n t 1 k) (standing n t 0 k)
    unfolding frees_leaf
    frees = let u = simp and-iff at e in record
        { one = eqb-true _ 1 u.0; high = ltb-true 0 _ u.1.0; not-left = eqb-false _ leaf ((not-iff _).0 u.1.1) }

    -- after k is shifted out of a leaf that is to be freed, the leaf can be freed
    pub can-free : Freeable (root_word n) (taken ws (apply (shift_out_at t (standing n t 0 k) k) t))
        (apply (shift_out_at t (standing n t 0 k) k) t) (standing n t 1 k) (standing n t 0 k)
    can-free = rw (taken-same w ws t nothing lowly tree ss ss-away) (freeable w (taken ws t) t s k has frees)

    freeing : Course 27 w ws t₁ (free_stores t₁ parent leaf) (mapping (tree_at w t₁))
    freeing = free-course w ws t₁ lowly out.whole parent leaf can-free

    freeing-course : Course 52 w ws t (delete_settled n t k) (leave k (mapping (view_of n t)))
    freeing-course = rw (stores-freeing n t k e)
        (course-then 25 27 w ws t ss (free_stores t₁ parent leaf) (leave k (mapping (view_of n t))) out (rw out.maps at freeing))

  -- Deletion where 9 does not apply: the pair of k leaves the map, and nothing else changes.
  pub delete-course : Course 52 (root_word n) ws t (delete_settled n t k) (leave k (mapping (view_of n t)))
  delete-course = go (frees_leaf n t parent leaf) refl
    where
      go : (b : Bool) → frees_leaf n t parent leaf ≡ b → Course 52 w ws t (delete_settled n t k) (leave k (mapping (view_of n t)))
      go true e = freeing-course e
      go false e = rw (stores-plain n t k e) (course-within 25 52 w ws t ss (leave k (mapping (view_of n t))) (omega arith) out)

  -- every level is quiet, or it is the leaves', of which one is passed over
  pub delete-ways : Ways (root_word n) ws t (delete_settled n t k)
  delete-ways = go (frees_leaf n t parent leaf) refl
    where
      all : AllQuiet w ws t ss
      all = leaf-out-all w ws t lowly tree k has

      own : (e : frees_leaf n t parent leaf ≡ true) (l : ℕ) → Way (tree_at w) l t (ss ++ free_stores t₁ parent leaf)
      own e l = at-level (same-or-not l 0)
        where
          at-level : (l ≡ 0) ⊎ (l ≢ 0) → Way (tree_at w) l t (ss ++ free_stores t₁ parent leaf)
          at-level (inl z) = inr
              (still-skip (tree_at w) l t ss (free_stores t₁ parent leaf) (quiet-still (tree_at w) l t ss (all.0 l))
              (rw z (free-own-skip w ws t₁ lowly out.whole parent leaf (can-free e))))
          at-level (inr z) = inl
              (inl (quiet-append (tree_at w) l t ss (free_stores t₁ parent leaf) (all.0 l)
              (free-own-quiet w ws t₁ lowly out.whole parent leaf (can-free e) l z)))

      go : (b : Bool) → frees_leaf n t parent leaf ≡ b → Ways w ws t (delete_settled n t k)
      go true e = rw (stores-freeing n t k e)
          (own e, others-append ws t ss (free_stores t₁ parent leaf) all.1 (free-beside w ws t₁ lowly out.whole parent leaf (can-free e)))
      go false e = rw (stores-plain n t k e) (quiet-ways w ws t ss all)

  -- ---- the nodes reached

  leaf-reached : Memᴰ leaf (reached (tree_at w t))
  leaf-reached = (standing-stands w (taken ws t) t s k 0 (omega arith)).reached

  -- A leaf that it empties and that is not leftmost is free then, and there is one unreachable node more.
  pub settled-frees : frees_leaf n t (standing n t 1 k) (standing n t 0 k) ≡ true
      → Freed (root_word n) ws t (standing n t 0 k) (apply (delete_settled n t k) t)
  settled-frees e =
      let t₂ = apply (free_stores t₁ parent leaf) t₁ in
      let here : apply (delete_settled n t k) t ≡ t₂ =
      ap (λ (us : List Store). apply us t) (stores-freeing n t k e) ∙ apply-append ss (free_stores t₁ parent leaf) t in
      let f₁ = out.whole in
      let h = can-free e in
      let taken₂ : taken ws t₂ ≡ taken ws t =
      free-two-taken w ws t₁ lowly f₁ parent leaf h ∙ taken-same w ws t nothing lowly tree ss ss-away in
      let nodes₂ : nodes t₂ ≡ nodes t =
      free-two-head w ws t₁ lowly f₁ parent leaf h 2 (omega arith) ∙ head-same w ws t nothing lowly tree ss ss-away 2 (omega arith) in
      let f₂ = (freeing e).whole in
      let arr₂ = course-arr 27 w ws t₁ _ _ (freeing e) (course-arr 25 w ws t ss _ out arr) in
      let up = each-mem (UpTo (nodes t)) (reached-numbers (tree_at w t) tree.left.orderly) leaf-reached in
      rw here (record {
        free = record {
          range = (range-iff (nodes t₂) leaf).1 (rw nodes₂ up);
          unreached = free-two-unreached w ws t₁ lowly f₁ parent leaf h;
          off = rw taken₂ (each-mem (λ (n : ℕ). elem n (taken ws t) ≡ false) tree.apart leaf-reached);
        };
        one-more = omega (
          arith,
          unreachable-count w ws t arr tree,
          unreachable-count w ws t₂ arr₂ f₂,
          nodes₂,
          ap length taken₂,
          free-two-fewer w ws t₁ lowly f₁ parent leaf h,
          ap length reached₁,
        );
      })

  -- No other node is lost.
  pub settled-others :
      frees_leaf n t (standing n t 1 k) (standing n t 0 k) ≡ true → (x : ℕ) → x ≢ standing n t 0 k
      → elem x (reached_all (apply (delete_settled n t k) t)) ≡ elem x (reached_all t)
  settled-others e x z =
      let t₂ = apply (free_stores t₁ parent leaf) t₁ in
      let arr₁ = course-arr 25 w ws t ss _ out arr in
      let h = can-free e in
      ap (λ (us : List Store). elem x (reached_all (apply us t))) (stores-freeing n t k e)
      ∙ ap (λ (u : Words). elem x (reached_all u)) (apply-append ss (free_stores t₁ parent leaf) t)
      ∙ others-all w ws t₁ t₂ x arr₁ (course-arr 27 w ws t₁ _ _ (freeing e) arr₁)
      (free-two-others w ws t₁ lowly out.whole parent leaf h x z) (free-two-taken w ws t₁ lowly out.whole parent leaf h)
      ∙ ap (elem x) out-reached

  -- Otherwise the same nodes are reached.
  pub settled-stays : frees_leaf n t (standing n t 1 k) (standing n t 0 k) ≡ false
      → reached_all (apply (delete_settled n t k) t) ≡ reached_all t
  settled-stays e = ap (λ (us : List Store). reached_all (apply us t)) (stores-plain n t k e) ∙ out-reached
