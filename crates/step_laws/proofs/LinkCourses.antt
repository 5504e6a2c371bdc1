-- Stores to a free node, and the store that links it: what each level keeps.
use Rattle.std.proofs.Common.{◌≡◌, ℕ, ◌<◌, Bool, true, false, ◌||◌, eqb, ltb, ◌≢◌, ◌⊎◌, List, [], ◌∷◌, length, sym, refl, ap, ◌∙◌, inl, inr}
use Rattle.std.proofs.Common.{⊎_elim, arith, ltb-false, ne_eqb, eqb-true}
use mathlib.Core.List.{Memᴰ}
use borrow.Author.Tests.{eqb-false}
use Rattle.model.specs.Table.{Words, node_start}
use Rattle.model.specs.Slots.{Slot, View, height}
use Rattle.model.specs.Search.{below, within}
use Rattle.model.specs.Reached.{reached}
use Rattle.model.specs.SoundTest.{elem, nothing}
use Rattle.model.specs.Writes.{put_all}
use Rattle.view_laws.proofs.NodeViews.{sibling_of, level_of, AllBut, level-eq, fence-eq, sibling-eq}
use Rattle.list_laws.proofs.Tools.{or-right, at-or-off, Each}
use Rattle.list_laws.proofs.Members.{elem-none, each-mem, mem-each}
use Rattle.list_laws.proofs.Distinct.{once}
use Rattle.list_laws.proofs.Steps.{until-map}
use Rattle.word_laws.proofs.Stores.{do_store}
use Rattle.word_laws.proofs.Frames.{Elsewhere}
use Rattle.word_laws.proofs.NodeStores.{put-all-along}
use Rattle.tree_laws.proofs.Rows.{not-zero}
use Rattle.tree_laws.proofs.Levels.{Orderly, reached-row}
use Rattle.tree_laws.proofs.Cover.{moves}
use Rattle.tree_laws.proofs.SearchLaw.{Stands}
use Rattle.change_laws.proofs.Updates.{update-at, update-off, with_sibling, with_root}
use Rattle.change_laws.proofs.Parts.{HasLeft}
use Rattle.change_laws.proofs.Splice.{splice, splice-nil, splice-at, splice-off, mem-splice, splice-in}
use Rattle.change_laws.proofs.Parents.{Parent}
use Rattle.change_laws.proofs.Unreached.{unreached-keeps}
use Rattle.change_laws.proofs.Link.{Splits, Linked, link}
use Rattle.step_laws.proofs.Fresh.{Free, free-other}
use Rattle.step_laws.proofs.WholeNode.{free-stays}
use Rattle.step_laws.proofs.Standing.{stands}
use Rattle.step_laws.proofs.Rowwise.{OnRow, Same, Straight, Comes, same-views, none-straight, stands-comes}
use Rattle.step_laws.proofs.LevelCourses.{QuietAt, Quiet, Crosses, each-part}
use Rattle.step_laws.proofs.TreeAt.{tree_at, Fine}

-- ---- what changes only in a node that is not reached: a free one, or one of another tree

-- a change in a node that is not reached, in a settled tree, leaves each level as it is, with no slot lacking
pub unreached-quiet : (v v' : View) (b : ℕ) → v'.nodes ≡ v.nodes → v'.root ≡ v.root → AllBut v.node v'.node b → HasLeft v nothing → b ≢ 0
    → elem b (reached v) ≡ false
    → (l : ℕ) → Same l v v' × Straight l v'
unreached-quiet v v' b N r a h z e l =
    let k = unreached-keeps v v' b N r a nothing h z e in (
      same-views v v' k.reached
          (λ n m. let q = a.else n (λ y. (elem-none b (reached v)).0 e (rw y at m)) in (level-eq q, fence-eq q, sibling-eq q)) l,
      none-straight v' k.left.left.2 l,
    )

-- ---- a new root

module _ (v : View) (r : ℕ) (e : reached (with_root v r) ≡ r ∷ reached v) where
  -- below it nothing changes
  pub root-same : (l : ℕ) → l ≢ (v.node r).level → Same l v (with_root v r)
  root-same l z = record {
    there = λ n q. (rw e (mathlib.Core.List.Memᴰ.tail q.0), q.1);
    back = λ n q. (⊎_elim (λ y. absurd (z (sym q.1 ∙ ap (level_of v) y))) (λ m. m) (mathlib.Core.List.Memᴰ.cases_cons (rw e at q.0)), q.1);
    fence = λ n q. refl;
    sibling = λ n q. refl;
  }

  -- and on its own level there was no node
  pub root-crosses : Orderly v → (l : ℕ) → height v < l → Crosses l v (with_root v r)
  root-crosses o l h = record {
    row = λ n q. (rw e (mathlib.Core.List.Memᴰ.tail q.0), q.1);
    fence = λ n q. refl;
    leads = λ k n c. absurd (omega (arith, c.covers.at.level, (reached-row v n o c.reached).level));
  }

-- ---- A's sibling := B

pub splice-cases : (a b x : ℕ) (ns : List ℕ) → Memᴰ x (splice a b ns) → (x ≡ b) ⊎ Memᴰ x ns
splice-cases a b x [] m = absurd (mathlib.Core.List.Memᴰ.not-nil (rw (splice-nil a b) at m))
splice-cases a b x (n ∷ ns) m = go (eqb n a) refl (splice-cases a b x ns)
  where
    later : (x ≡ b) ⊎ Memᴰ x ns → (x ≡ b) ⊎ Memᴰ x (n ∷ ns)
    later (inl e) = inl e
    later (inr y) = inr (mathlib.Core.List.Memᴰ.tail y)

    go : (c : Bool) → eqb n a ≡ c → (Memᴰ x (splice a b ns) → (x ≡ b) ⊎ Memᴰ x ns) → (x ≡ b) ⊎ Memᴰ x (n ∷ ns)
    go true c ih =
        let e = eqb-true n a c in
        let q : splice a b (n ∷ ns) ≡ a ∷ b ∷ splice a b ns = ap (λ (y : ℕ). splice a b (y ∷ ns)) e ∙ splice-at a b ns in
        ⊎_elim (λ y. inr (mathlib.Core.List.Memᴰ.head (y ∙ sym e)))
        (λ y. ⊎_elim (λ z. inl z) (λ z. later (ih z)) (mathlib.Core.List.Memᴰ.cases_cons y))
        (mathlib.Core.List.Memᴰ.cases_cons (rw q at m))
    go false c ih =
        ⊎_elim (λ y. inr (mathlib.Core.List.Memᴰ.head y)) (λ y. later (ih y))
        (mathlib.Core.List.Memᴰ.cases_cons (rw (splice-off a b n ns (eqb-false n a c)) at m))

pub splice-each : (P : ℕ → Type 0) (a b : ℕ) (ns : List ℕ) → P b → Each P ns → Each P (splice a b ns)
splice-each P a b ns h e = mem-each P (splice a b ns) (λ x m. ⊎_elim (λ q. rw q h) (λ y. each-mem P e y) (splice-cases a b x ns m))

module _ (v : View) (A B : ℕ) (low : List Slot) (s : Slot) (high : List Slot) (q : ℕ) (h : HasLeft v nothing) (p : Splits v A B low s high)
    (y : Parent v A q) where
  abbrev w : View
  w = with_sibling v A B

  k : Linked v w A B q
  k = link v A B low s high q h p y

  o : Orderly w
  o = k.left.orderly

  keep : (l n : ℕ) → OnRow v l n → OnRow w l n
  keep l n r = (rw k.reached (mem-splice A B n (reached v) r.0), r.1)

  -- the other levels
  pub link-same : (l : ℕ) → l ≢ (v.node A).level → Same l v (with_sibling v A B)
  link-same l z = record {
    there = keep l;
    back = λ n r. (
      ⊎_elim (λ e. absurd (z (sym r.1 ∙ ap (level_of v) e ∙ level-eq p.b-node))) (λ m. m)
          (splice-cases A B n (reached v) (rw k.reached at r.0)),
      r.1,
    );
    fence = λ n r. refl;
    sibling = λ n r. update-off (sibling_of v) A B n (λ e. z (sym r.1 ∙ ap (level_of v) e));
  }

  -- A's level
  other : B ≢ A
  other e = (elem-none B (reached v)).0 p.b-fresh (rw e p.a-reached)

  leads : (c n : ℕ) → Stands v c (v.node A).level n → Comes w c (v.node A).level n
  unfolding below
  leads c n d = at-or-off (λ (n : ℕ). Stands v c (v.node A).level n → Comes w c (v.node A).level n) A split plain n d
    where
      plain : (n : ℕ) → n ≢ A → Stands v c (v.node A).level n → Comes w c (v.node A).level n
      plain n z d =
          let r = keep (v.node A).level n (d.reached, d.covers.at.level) in
          stands-comes w o c (v.node A).level n
          (stands w c (v.node A).level n o r.0 r.1 d.covers.fence
          (ap (λ (x : ℕ). eqb x 0 || ltb c (v.node x).fence) (update-off (sibling_of v) A B n z) ∙ d.covers.inside))

      split : Stands v c (v.node A).level A → Comes w c (v.node A).level A
      split d = go (ltb c (v.node B).fence) refl
        where
          r : OnRow w (v.node A).level A
          r = keep (v.node A).level A (d.reached, refl)

          go : (b : Bool) → ltb c (v.node B).fence ≡ b → Comes w c (v.node A).level A
          go true e =
              stands-comes w o c (v.node A).level A
              (stands w c (v.node A).level A o r.0 refl d.covers.fence
              (ap (λ (x : ℕ). eqb x 0 || ltb c (v.node x).fence) (update-at (sibling_of v) A B) ∙ or-right (eqb B 0) _ e))
          go false e =
              let out : within w A c ≡ false =
              ap (λ (x : ℕ). eqb x 0 || ltb c (v.node x).fence) (update-at (sibling_of v) A B)
              ∙ ap (λ (b : Bool). b || ltb c (v.node B).fence) (ne_eqb B 0 (not-zero v B p.b-range)) ∙ e in
              let m : Memᴰ B (reached w) = rw k.reached (splice-in A B (reached v) (once A (reached v) h.orderly.once p.a-reached)) in
              let x : Stands w c (v.node A).level B = stands w c (v.node A).level B o m (level-eq p.b-node) (ltb-false c (v.node B).fence e)
              (ap (λ (x : ℕ). eqb x 0 || ltb c (v.node x).fence)
              (update-off (sibling_of v) A B B other ∙ sibling-eq p.b-node) ∙ d.covers.inside) in
              record { row = r; stands = rw (moves w c A out ∙ update-at (sibling_of v) A B) x }

  pub link-crosses : Crosses (v.node A).level v (with_sibling v A B)
  link-crosses = record { row = keep (v.node A).level; fence = λ n r. refl; leads = leads }

module _ (w : ℕ) (ns : List ℕ) where
  -- ---- the words of a free node

  module _ (t : Words) (b : ℕ) (s : Fine w ns t nothing) (f : Free w ns t b) where
    free-quiet : (l : ℕ) (t' : Words) → Elsewhere b t t' → QuietAt (tree_at w) l t t'
    free-quiet l t' o =
        let u = free-stays w ns t b s f t' o in
        record {
          same = same-views (tree_at w t) (tree_at w t') u.reached
              (λ n m. let q = u.node.else n (free-other w ns t b s f n m) in (level-eq q, fence-eq q, sibling-eq q)) l;
          straight = none-straight (tree_at w t') u.fine.left.left.2 l;
        }

    -- while the 32 words of a free node are stored, each level is quiet
    pub whole-quiet : (ws : Words) → length ws ≡ 32 → (l : ℕ) → Quiet (tree_at w) l t (put_all (node_start b) ws)
    whole-quiet ws e l = each-part (QuietAt (tree_at w) l t) (put_all (node_start b) ws) t
        (until-map do_store (Elsewhere b t) (QuietAt (tree_at w) l t) (Elsewhere b t) (QuietAt (tree_at w) l t) (free-quiet l)
        (free-quiet l) (put_all (node_start b) ws) t (put-all-along t b ws (omega arith)))
