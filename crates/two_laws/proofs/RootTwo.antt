-- A new root for the tree of header word w, beside the trees of ws: in any node that none of them reaches, then header word w.
use Rattle.std.proofs.Common.{◌≡◌, ℕ, suc, ◌<◌, ◌≤◌, ◌≢◌, ◌⊎◌, ◌↔◌, List, [], ◌∷◌, length, take, set, sym, refl, ap, ◌∙◌, inl, inr, arith}
use Rattle.std.proofs.Common.{get_or-set_other, get_or-set_same}
use mathlib.Core.List.{Memᴰ}
use Rattle.model.specs.Table.{Words, at, nodes, node_start}
use Rattle.model.specs.Slots.{View, height}
use Rattle.model.specs.Reached.{mapping}
use Rattle.model.specs.SoundTest.{nothing}
use Rattle.model.specs.Orders.{Store, put, apply}
use Rattle.model.specs.Writes.{put_all, node_words, new_root_at}
use Rattle.list_laws.proofs.Tools.{Each}
use Rattle.list_laws.proofs.Members.{each-mem, mem-each, each-take}
use Rattle.tree_laws.proofs.Rows.{range-iff}
use Rattle.word_laws.proofs.HeadStores.{head-view}
use Rattle.word_laws.proofs.NewNodes.{length-node-words}
use Rattle.cut_laws.proofs.Applying.{apply-append, always-append, length-apply}
use Rattle.step_laws.proofs.NewRoot.{root-phase, root-turns}
use Rattle.step_laws.proofs.Fresh.{Free}
use Rattle.step_laws.proofs.Rowwise.{Same, Straight, same-refl, none-straight}
use Rattle.step_laws.proofs.LevelCourses.{QuietAt, Quiet, Turn, each-part, still-nil}
use Rattle.step_laws.proofs.LinkCourses.{whole-quiet}
use Rattle.two_laws.proofs.Frame.{Away}
use Rattle.two_laws.proofs.Places.{all-away}
use Rattle.step_laws.proofs.TreeAt.{tree_at, Fine}
use Rattle.two_laws.proofs.TwoLaw.{taken, Tree, Low, Course, tree-fine, Stay, stays, stay-taken, beside-course, head-same}
use Rattle.two_laws.proofs.LevelsTwo.{OthersQuiet, others-quiet, others-append}
use Rattle.change_laws.proofs.Parts.{Keeps}

same-seen : (l : ℕ) (v v' : View) → v' ≡ v → Same l v v'
same-seen l v v' e = rw e (same-refl l v)

straight-seen : (l : ℕ) (v v' : View) → v' ≡ v → Straight l v → Straight l v'
straight-seen l v v' e s = rw e s

keeps-is : (v w u : View) → w ≡ u → Keeps v u nothing → Keeps v w nothing
keeps-is v w u e k = rw e k

module _ (w : ℕ) (ws : List ℕ) (t : Words) (low : Low w ws) (word : (w ≡ 1) ⊎ (w ≡ 3)) (others : Each (λ (x : ℕ). x ≢ w) ws)
    (f : Tree w ws t nothing) (high : height (tree_at w t) < 15) (b : ℕ) (g : Free w (taken ws t) t b) where
  abbrev ns : List ℕ
  ns = taken ws t

  s : Fine w ns t nothing
  s = tree-fine w ws t low nothing f

  abbrev words : Words
  words = node_words (at t w) 0 (suc (height (tree_at w t))) 0 []

  size-words : length words ≡ 32
  size-words = length-node-words (at t w) 0 (suc (height (tree_at w t))) 0 []

  abbrev ss : List Store
  ss = put_all (node_start b) words

  away : Each (Away ns) ss
  away = all-away ns b (record { some = ((range-iff (nodes t) b).0 g.range).0; off = g.off }) (node_start b) words (omega arith)
      (omega (arith, size-words))

  -- ---- the header word

  abbrev t₁ : Words
  t₁ = apply ss t

  abbrev t₂ : Words
  t₂ = set t₁ w b

  stay₁ : Stay ws t t₁
  stay₁ = stays w ws t nothing low f ss away

  not-two : w ≢ 2
  not-two = go word
    where
      go : (w ≡ 1) ⊎ (w ≡ 3) → w ≢ 2
      go (inl e) q = omega arith
      go (inr e) q = omega arith

  size : 8 ≤ length t₁
  size = rw (length-apply ss t) (omega (arith, f.head.size.long))

  stored : at t₂ w ≡ b
  stored = get_or-set_same t₁ w b 0 (omega (arith, low.0, size))

  other-same : (x : ℕ) → Memᴰ x ws → tree_at x t₂ ≡ tree_at x t₁
  other-same x m = rw (get_or-set_other t₁ w x b 0 (each-mem (λ (x : ℕ). x ≢ w) others m))
      (head-view t₁ w b (at t₁ x) low.0 (get_or-set_other t₁ w 2 b 0 (λ q. not-two (sym q))))

  stay₂ : Stay ws t t₂
  stay₂ = mem-each (λ (x : ℕ). Keeps (tree_at x t) (tree_at x t₂) nothing) ws
      (λ x m. keeps-is (tree_at x t) (tree_at x t₂) (tree_at x t₁) (other-same x m)
      (each-mem (λ (x : ℕ). Keeps (tree_at x t) (tree_at x t₁) nothing) stay₁ m))

  -- word 3 is 0 or not, as before
  three : (at t₂ 3 ≡ 0) ↔ (at t₁ 3 ≡ 0)
  three = go word
    where
      go : (w ≡ 1) ⊎ (w ≡ 3) → (at t₂ 3 ≡ 0) ↔ (at t₁ 3 ≡ 0)
      go (inl q) = let e = get_or-set_other t₁ w 3 b 0 (λ z. omega arith) in ((λ z. sym e ∙ z), (λ z. e ∙ z))
      go (inr q) =
          let x : at t₂ 3 ≡ b = ap (at t₂) (sym q) ∙ stored in
          let y = ((range-iff (nodes t) b).0 g.range).0 in
          let h = ((range-iff (nodes t) (at t w)).0 f.left.orderly.top.range).0 in
          let i : at t₁ 3 ≡ at t w = head-same w ws t nothing low f ss away 3 (omega arith) ∙ ap (at t) (sym q) in
          ((λ z. absurd (omega (arith, x, y, z))), (λ z. absurd (omega (arith, h, i, z))))

  stay : (j : ℕ) → Stay ws t (apply (take j (new_root_at w t b)) t)
  unfolding apply
  stay = always-append (Stay ws t) ss (put w b ∷ []) t (λ j. stays w ws t nothing low f (take j ss) (each-take (Away ns) j ss away))
      (each-part (Stay ws t) (put w b ∷ []) t₁ (stay₁, stay₂))

  lack : (j : ℕ) → (at (apply (take j (new_root_at w t b)) t) 3 ≡ 0) ↔ (at t 3 ≡ 0)
  unfolding apply
  lack =
      let same : (j : ℕ) → at (apply (take j ss) t) 3 ≡ at t 3 =
      λ j. head-same w ws t nothing low f (take j ss) (each-take (Away ns) j ss away) 3 (omega arith) in
      let P : Words → Type 0 = λ (u : Words). (at u 3 ≡ 0) ↔ (at t 3 ≡ 0) in
      let e = head-same w ws t nothing low f ss away 3 (omega arith) in
      always-append P ss (put w b ∷ []) t (λ j. ((λ z. sym (same j) ∙ z), (λ z. same j ∙ z)))
      (each-part P (put w b ∷ []) t₁ (((λ z. sym e ∙ z), (λ z. e ∙ z)), ((λ z. sym e ∙ three.0 z), (λ z. three.1 (e ∙ z)))))

  -- New root: every first part of its stores leaves the tree sound with the same map, and the others as they are.
  pub root-course : Course 38 w ws t (new_root_at w t b) (mapping (tree_at w t))
  root-course = beside-course 38 w ws t (new_root_at w t b) (mapping (tree_at w t)) low (root-phase w ns t s high word b g) stay lack

  -- ---- its own level turns

  done : apply (new_root_at w t b) t ≡ t₂
  unfolding apply
  done = apply-append ss (put w b ∷ []) t

  pub root-own-turn : Turn (tree_at w) (suc (height (tree_at w t))) t (new_root_at w t b)
  root-own-turn = record {
    before = ss;
    it = put w b;
    after = [];
    shape = refl;
    quiet = whole-quiet w ns t b s g words size-words (suc (height (tree_at w t)));
    crosses = rw done at (root-turns w ns t s high word b g);
    still = still-nil (tree_at w) (suc (height (tree_at w t))) t₂;
  }

  -- while one collection gets a new root, each level of the others is quiet
  pub root-beside : OthersQuiet ws t (new_root_at w t b)
  root-beside = others-append ws t ss (put w b ∷ []) (others-quiet w ws t nothing low f ss away)
      (mem-each (λ (x : ℕ). (l : ℕ) → Quiet (tree_at x) l t₁ (put w b ∷ [])) ws stay)
    where
      whole₁ : (x : ℕ) → Memᴰ x ws → (l : ℕ) → Straight l (tree_at x t₁)
      whole₁ x m l = none-straight (tree_at x t₁) (each-mem (λ (x : ℕ). Keeps (tree_at x t) (tree_at x t₁) nothing) stay₁ m).left.left.2 l

      stay : (x : ℕ) → Memᴰ x ws → (l : ℕ) → Quiet (tree_at x) l t₁ (put w b ∷ [])
      stay x m l = each-part (QuietAt (tree_at x) l t₁) (put w b ∷ []) t₁ (
        record { same = same-refl l (tree_at x t₁); straight = whole₁ x m l },
        record {
          same = same-seen l (tree_at x t₁) (tree_at x t₂) (other-same x m);
          straight = straight-seen l (tree_at x t₁) (tree_at x t₂) (other-same x m) (whole₁ x m l);
        },
      )

  -- ---- what it leaves

  pub root-two-taken : taken ws (apply (new_root_at w t b) t) ≡ taken ws t
  root-two-taken = rw done (stay-taken ws t t₂ stay₂)

  -- a new root does not change N
  pub root-two-nodes : nodes (apply (new_root_at w t b) t) ≡ nodes t
  root-two-nodes = rw done (get_or-set_other t₁ w 2 b 0 (λ q. not-two (sym q)) ∙ head-same w ws t nothing low f ss away 2 (omega arith))
