-- An insertion by marks on a settled table: the stores of the plain one, and true marks after them.
use Rattle.std.proofs.Common.{◌≡◌, ℕ, suc, ◌<◌, ◌≤◌, Bool, true, false, ◌&&◌, List, [], ◌++◌, length, sym, refl, ap, ◌∙◌, append_assoc}
use Rattle.std.proofs.Common.{arith, eq-eqb, eqb-true}
use mathlib.Core.List.{Memᴰ}
use Rattle.model.specs.Table.{Words, at, nodes, root_word, in_range}
use Rattle.model.specs.Slots.{node_view, height, view_of}
use Rattle.model.specs.Reached.{reached, reached_all}
use Rattle.model.specs.SoundTest.{elem, nothing}
use Rattle.model.specs.Orders.{Store, apply}
use Rattle.model.specs.Writes.{shift_in_at, unreachable, fresh, standing, run, root_in_run, new_root_at, new_root, splits, root_stores}
use Rattle.model.specs.Writes.{insert_settled}
use Rattle.model.specs.Refusals.{too_high, too_few}
use Rattle.model.specs.Marks.{put}
use Rattle.model.specs.Summary.{free_after, roomy, going, start_way, run_of, way_made, quick_insert}
use Rattle.list_laws.proofs.Tools.{and-iff, leb-iff}
use Rattle.list_laws.proofs.Members.{each-mem}
use Rattle.list_laws.proofs.Distinct.{UpTo}
use Rattle.cut_laws.proofs.Applying.{apply-append, length-apply}
use Rattle.tree_laws.proofs.Rows.{range-iff}
use Rattle.tree_laws.proofs.Levels.{Orderly, reached-numbers}
use Rattle.step_laws.proofs.TreeAt.{Fine}
use Rattle.step_laws.proofs.Fresh.{Free}
use Rattle.step_laws.proofs.NewRoot.{root-height, root-standing, root-top}
use Rattle.two_laws.specs.Parts.{Ready}
use Rattle.two_laws.proofs.TwoLaw.{taken, Tree, Low, tree-fine}
use Rattle.two_laws.proofs.RootTwo.{root-two-nodes}
use Rattle.two_laws.proofs.Arrange.{Arr, root-in, arr-low, arr-word, arr-others, settled-tree, free-fresh}
use Rattle.two_laws.proofs.LeafStores.{in-reached, leaf-for}
use Rattle.two_laws.proofs.InsertTwo.{stands-reached, some-free, not-top as below-top, root-first, root-arr, first-root-others}
use Rattle.two_laws.proofs.InsertTwo.{splits-course, splits-room, two-run-short}
use Rattle.summary_laws.proofs.Marks.{reached-own, MarksTrue, free-fresh as marks-fresh, marks-more, marks-same}
use Rattle.summary_laws.proofs.Splitting.{ways_down, run-down, same-down, WayOf, splits-way}

module _ (n : ℕ) (ws : List ℕ) (t : Words) (k : ℕ) (a : Arr (root_word n) ws t) (f : Tree (root_word n) ws t nothing)
    (not-high : too_high n t k ≡ false) (enough : too_few n t k ≡ false) (ms : Words) (c : MarksTrue ms t) where
  abbrev w : ℕ
  w = root_word n

  low : Low (root_word n) ws
  low = arr-low (root_word n) ws t a

  abbrev ns : List ℕ
  ns = taken ws t

  s : Fine (root_word n) (taken ws t) t nothing
  s = tree-fine (root_word n) ws t low nothing f

  o : Orderly (view_of n t)
  o = f.left.orderly

  abbrev m : ℕ
  m = run n t k

  abbrev t₁ : Words
  t₁ = apply (root_stores n t k) t

  arr₁ : Arr (root_word n) ws (apply (root_stores n t k) t)
  arr₁ = root-arr n ws t k a f not-high enough

  ready : Ready (run n t k) n (apply (root_stores n t k) t) k
  ready = (root-first n ws t k a f not-high enough).1

  short : run n t k ≤ suc (height (view_of n t))
  short = two-run-short n ws t low f k

  -- ---- with a new root

  module _ (e : root_in_run n t k ≡ true) where
    whole : run n t k ≡ suc (height (view_of n t))
    unfolding root_in_run
    whole = eqb-true (run n t k) (suc (height (view_of n t))) e

    some : 0 < length (unreachable t)
    some = some-free n ws t k a f not-high enough e

    not-top : height (view_of n t) < 15
    not-top = below-top n ws t k a f not-high enough e

    abbrev r : ℕ
    r = fresh t (at t (root_word n))

    free : Free (root_word n) (taken ws t) t (fresh t (at t (root_word n)))
    free = free-fresh (root_word n) ws t (at t (root_word n)) a f (root-in (view_of n t) o) some

    same-fresh : free_after (nodes t) ms (at t (root_word n)) ≡ fresh t (at t (root_word n))
    same-fresh = marks-fresh ms t c (at t (root_word n)) o.top.range

    abbrev t' : Words
    t' = apply (new_root_at (root_word n) t (fresh t (at t (root_word n)))) t

    stores-are : root_stores n t k ≡ new_root_at (root_word n) t (fresh t (at t (root_word n)))
    unfolding root_stores new_root
    stores-are = rw (e, root_stores)

    size : nodes t' ≡ nodes t
    size = root-two-nodes (root_word n) ws t low (arr-word (root_word n) ws t a) (arr-others (root_word n) ws t a) f not-top r free

    ready' : Ready (run n t k) n t' k
    ready' = rw stores-are at ready

    arr' : Arr (root_word n) ws t'
    arr' = rw stores-are at arr₁

    height' : height (view_of n t') ≡ run n t k
    height' = root-height (root_word n) ns t s not-top (arr-word (root_word n) ws t a) r free ∙ sym whole

    under' : standing n t' (run n t k) k ≡ fresh t (at t (root_word n))
    under' = ap (λ (d : ℕ). standing n t' d k) whole ∙ root-top (root_word n) ns t s not-top (arr-word (root_word n) ws t a) r free k

    new' : Memᴰ (fresh t (at t (root_word n))) (reached (view_of n t'))
    new' = rw under' at (stands-reached n ws t' (arr-low (root_word n) ws t' arr') (settled-tree (root_word n) ws t' arr' ready'.settled) k
        (run n t k) (omega (arith, height')))

    reached' : elem (fresh t (at t (root_word n))) (reached_all t') ≡ true
    reached' = reached-own (root_word n) ws t' r arr' new'

    marks' : MarksTrue (put ms (fresh t (at t (root_word n)))) t'
    marks' = marks-more ms t c t' size r free.range
        (λ x z. ap (λ (ss : List Store). elem x (reached_all (apply ss t))) (sym (new-is))
        ∙ first-root-others n ws t k a f not-high enough e x z) reached'
      where
        new-is : new_root n t ≡ new_root_at (root_word n) t (fresh t (at t (root_word n)))
        new-is = unfold new_root in refl

    start-is : start_way n ms t k
        ≡ going (new_root_at (root_word n) t (fresh t (at t (root_word n)))) t' (put ms (fresh t (at t (root_word n))))
        (standing n t' (run n t k) k)
    unfolding start_way
    start-is =
        let made : (root_in_run n t k && in_range (nodes t) (free_after (nodes t) ms (at t w))) ≡ true =
        (and-iff _ _).1 (e, ap (in_range (nodes t)) same-fresh ∙ free.range) in
        rw made (ap (λ (b : ℕ). going (new_root_at w t b) (apply (new_root_at w t b) t) (put ms b) b) same-fresh
        ∙ ap (λ (u : ℕ). going (new_root_at w t r) t' (put ms r) u) (sym under'))

    ways-are : run_of n t k ≡ ways_down n t' (run n t k) k
    ways-are = run-down n t k short
        ∙ sym (same-down n t t' (run n t k) k
        (λ d h. root-standing (root_word n) ns t s not-top (arr-word (root_word n) ws t a) r free k d (omega (arith, whole))))

    made-root : WayOf (run n t k) n (apply (root_stores n t k) t) k (root_stores n t k) (way_made n ms t k)
    unfolding way_made
    made-root = rw (stores-are, start-is, ways-are)
        (splits-way (run n t k) n ws t' k (put ms r) (new_root_at w t r) (nodes t) size arr' ready' marks')

  -- ---- without

  module _ (e : root_in_run n t k ≡ false) where
    made-none : WayOf (run n t k) n (apply (root_stores n t k) t) k (root_stores n t k) (way_made n ms t k)
    unfolding way_made start_way root_stores apply
    made-none = rw (e, root_stores, run-down n t k short)
        (splits-way (run n t k) n ws t k ms [] (nodes t) refl a (rw (e, root_stores) at ready) c)

  pub way-made : WayOf (run n t k) n (apply (root_stores n t k) t) k (root_stores n t k) (way_made n ms t k)
  way-made = go (root_in_run n t k) refl
    where
      go : (b : Bool) → root_in_run n t k ≡ b → WayOf (run n t k) n (apply (root_stores n t k) t) k (root_stores n t k) (way_made n ms t k)
      go true e = made-root e
      go false e = made-none e

  -- ---- the pair shifted in

  -- the leaf for the key has room
  leaf-roomy : roomy (nodes t) (way_made n ms t k).table (way_made n ms t k).under ≡ true
  unfolding roomy
  leaf-roomy =
      let g = way-made in
      let t₂ = apply (splits n m t₁ k) t₁ in
      let f₂ = (splits-course m n ws t₁ k arr₁ ready).whole in
      let i = stands-reached n ws t₂ low f₂ k 0 (omega arith) in
      let half : nodes t₂ ≡ nodes t =
      omega (arith, f.head.size.long, f₂.head.size.long, length-apply (splits n m t₁ k) t₁, length-apply (root_stores n t k) t) in
      rw (g.table, g.under) ((and-iff _ _).1 (
        ap (λ (N : ℕ). in_range N (standing n t₂ 0 k)) (sym half)
            ∙ (range-iff (nodes t₂) (standing n t₂ 0 k)).1 (each-mem (UpTo (nodes t₂)) (reached-numbers (view_of n t₂) f₂.left.orderly) i),
        (and-iff _ _).1 (
          eq-eqb _ _ (each-mem (λ (m : ℕ). (node_view t₂ m).hidden ≡ 0) f₂.left.left.0 i),
          (leb-iff _ _).1 (splits-room m n ws t₁ k arr₁ ready),
        ),
      ))

  -- The stores are those of the plain insertion.
  pub insert-stores : (x : ℕ) → quick_insert n ms t k x ≡ insert_settled n t k x
  unfolding quick_insert insert_settled
  insert-stores x =
      let g = way-made in
      rw (leaf-roomy, g.stores, g.table, g.under)
      (append_assoc (root_stores n t k) (splits n m t₁ k)
      (shift_in_at (apply (splits n m t₁ k) t₁) (standing n (apply (splits n m t₁ k) t₁) 0 k) k x))

  -- The marks are true of the table that it leaves.
  pub insert-marks : (x : ℕ) → nodes (apply (insert_settled n t k x) t) ≡ nodes t
      → MarksTrue (way_made n ms t k).marks (apply (insert_settled n t k x) t)
  unfolding insert_settled
  insert-marks x size =
      let t₂ = apply (splits n m t₁ k) t₁ in
      let us = shift_in_at t₂ (standing n t₂ 0 k) k x in
      let done : apply (root_stores n t k ++ (splits n m t₁ k ++ us)) t ≡ apply us t₂ =
      apply-append (root_stores n t k) (splits n m t₁ k ++ us) t ∙ apply-append (splits n m t₁ k) us t₁ in
      let leaf = leaf-for n t₂ k (splits-course m n ws t₁ k arr₁ ready).whole.left.orderly in
      let same = in-reached t₂ (standing n t₂ 0 k) leaf.some leaf.level k x (splits-room m n ws t₁ k arr₁ ready) in
      let half : nodes t₂ ≡ nodes t =
      omega (
        arith,
        f.head.size.long,
        (splits-course m n ws t₁ k arr₁ ready).whole.head.size.long,
        length-apply (splits n m t₁ k) t₁,
        length-apply (root_stores n t k) t,
      ) in
      rw done (marks-same (way_made n ms t k).marks t₂ way-made.marks (apply us t₂) (ap nodes (sym done) ∙ size ∙ sym half)
      (λ y. ap (elem y) same))
