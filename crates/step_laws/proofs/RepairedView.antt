-- The table as repair would leave it, read off the table itself: the same nodes and paths, and what each node then shows.
use Rattle.std.proofs.Common.{◌≡◌, ℕ, ◌+◌, Bool, true, false, cond, eqb, ◌≢◌, List, ◌∷◌, length, take, drop, sym, refl, ap, ◌∙◌, arith}
use Rattle.std.proofs.Common.{length-append, take-append-drop, eq-eqb, ne_eqb}
use mathlib.Core.List.{Memᴰ}
use mathlib.Core.Option.{Option, none, some}
use Rattle.model.specs.Table.{Words}
use Rattle.model.specs.Slots.{Slot, slot, node_view, View, height}
use Rattle.model.specs.Search.{path}
use Rattle.model.specs.Reached.{kept, reached}
use Rattle.model.specs.SoundTest.{Leftover, nothing, hidden_in, missing_in, both_in, leftover}
use Rattle.model.specs.Orders.{apply}
use Rattle.model.specs.Shifts.{place_of}
use Rattle.model.specs.Writes.{close_at, cut_off, attach, repair_of}
use Rattle.view_laws.proofs.NodeViews.{fence_of, bare, stays-all, fence-eq, shown-eq, sibling-eq}
use Rattle.list_laws.proofs.Tools.{at-or-off}
use Rattle.list_laws.proofs.Members.{each-mem}
use Rattle.word_laws.proofs.Frames.{SameHeader, header-refl, header-trans}
use Rattle.word_laws.proofs.ShiftViews.{Changed}
use Rattle.tree_laws.proofs.Levels.{Orderly}
use Rattle.tree_laws.proofs.Leftovers.{NoneTrailing, HiddenOnly}
use Rattle.cut_laws.proofs.Applying.{apply-append, apply-nil}
use Rattle.change_laws.proofs.Updates.{with_hidden}
use Rattle.change_laws.proofs.Parts.{has-left-iff, Keeps}
use Rattle.change_laws.proofs.Hiding.{unhide, unhide-missing}
use Rattle.change_laws.proofs.Cut.{cut-keeps}
use Rattle.change_laws.proofs.Pairs.{slot_in}
use Rattle.change_laws.proofs.Attach.{attach-settles}
use Rattle.step_laws.proofs.SamePaths.{height-same, path-same}
use Rattle.step_laws.proofs.Repair.{close-changed, close-seen, close-stage, attach-changed, attach-seen, cut-changed, cut-seen, cut-fine}
use Rattle.step_laws.proofs.Repair.{cut-attach, repair-of, repaired-settled}
use Rattle.step_laws.proofs.TreeAt.{tree_at, Sound, Fine, repaired_at, same-word}

-- ---- what node n shows when repair is done

abbrev with_missing : View → (p a n : ℕ) → List Slot
with_missing v p a n = cond (eqb n p) (slot_in (v.node (v.node a).sibling).fence (v.node a).sibling (kept v n)) (kept v n)

abbrev pub slots_later : View → Option Leftover → (n : ℕ) → List Slot
slots_later v none n = kept v n
slots_later v (some nothing) n = kept v n
slots_later v (some (hidden_in x)) n = kept v n
slots_later v (some (missing_in p a trailing)) n = with_missing v p a n
slots_later v (some (both_in p a)) n = with_missing v p a n

-- the slots that repair puts into node n: 1 in the parent that lacks one
abbrev pub lacking_in : Option Leftover → (n : ℕ) → ℕ
lacking_in none n = 0
lacking_in (some nothing) n = 0
lacking_in (some (hidden_in x)) n = 0
lacking_in (some (missing_in p a trailing)) n = cond (eqb n p) 1 0
lacking_in (some (both_in p a)) n = cond (eqb n p) 1 0

length-with : (k x : ℕ) (ss : List Slot) → length (slot_in k x ss) ≡ length ss + 1
length-with k x ss =
    let p = place_of k ss in
    omega (
      arith,
      length-append (take p ss) (slot k x ∷ drop p ss),
      length-append (take p ss) (drop p ss),
      ap length (take-append-drop p ss),
    )

length-missing : (v : View) (p a n : ℕ) → length (with_missing v p a n) ≡ length (kept v n) + cond (eqb n p) 1 0
length-missing v p a n = by-test (eqb n p)
  where
    by-test : (b : Bool) → length (cond b (slot_in (v.node (v.node a).sibling).fence (v.node a).sibling (kept v n)) (kept v n))
        ≡ length (kept v n) + cond b 1 0
    by-test true = length-with (v.node (v.node a).sibling).fence (v.node a).sibling (kept v n)
    by-test false = omega arith

pub length-later : (v : View) (y : Option Leftover) (n : ℕ) → length (slots_later v y n) ≡ length (kept v n) + lacking_in y n
length-later v none n = omega arith
length-later v (some nothing) n = omega arith
length-later v (some (hidden_in x)) n = omega arith
length-later v (some (missing_in p a trailing)) n = length-missing v p a n
length-later v (some (both_in p a)) n = length-missing v p a n

module _ (w : ℕ) where
  -- ---- tables of the same tree

  -- all but shown and hidden slots is the same, and the same nodes are reached
  pub record SameTree (t t' : Words) : Type 0 where
    pub header : SameHeader t t'
    pub bare : (n : ℕ) → bare (node_view t' n) ≡ bare (node_view t n)
    pub reached : reached (tree_at w t') ≡ reached (tree_at w t)

  same-refl : (t : Words) → SameTree t t
  same-refl t = record { header = header-refl t; bare = λ n. refl; reached = refl }

  same-trans : (a b c : Words) → SameTree a b → SameTree b c → SameTree a c
  same-trans a b c f g =
      record { header = header-trans a b c f.header g.header; bare = λ n. g.bare n ∙ f.bare n; reached = g.reached ∙ f.reached }

  changed-tree : (t : Words) (x : ℕ) (ss : List Slot) (h : ℕ) (t' : Words) → Changed t x ss h t' → reached (tree_at w t')
      ≡ reached (tree_at w t) → SameTree t t'
  changed-tree t x ss h t' c r =
      record { header = c.header; bare = stays-all bare (node_view t) (node_view t') x _ c.node refl; reached = r }

  -- every reached node of t shows ss n in t'
  abbrev ShowsLater : Words → Words → (ℕ → List Slot) → Type 0
  ShowsLater t t' ss = (n : ℕ) → Memᴰ n (reached (tree_at w t)) → (node_view t' n).shown ≡ ss n

  abbrev Mends : Words → Leftover → Words → Type 0
  Mends t y t' = SameTree t t' × ShowsLater t t' (slots_later (tree_at w t) (some y))

  pub record RepairedView (t : Words) : Type 0 where
    pub same : SameTree t (repaired_at w t)
    -- what a reached node shows, and how many slots that are
    pub shown : (n : ℕ) → Memᴰ n (reached (tree_at w t)) → (node_view (repaired_at w t) n).shown
        ≡ slots_later (tree_at w t) (leftover (tree_at w t)) n
    pub count : (n : ℕ) → Memᴰ n (reached (tree_at w t)) → length (node_view (repaired_at w t) n).shown
        ≡ length (kept (tree_at w t) n) + lacking_in (leftover (tree_at w t)) n
    -- every search stands on the same nodes
    pub height : height (tree_at w (repaired_at w t)) ≡ height (tree_at w t)
    pub path : (k : ℕ) → path (tree_at w (repaired_at w t)) k ≡ path (tree_at w t) k

  -- ---- by the leftover

  keeps-all : (t : Words) → NoneTrailing (tree_at w t) → ShowsLater t t (kept (tree_at w t))
  keeps-all t h n m = sym (each-mem (λ (n : ℕ). kept (tree_at w t) n ≡ (node_view t n).shown) h m)

module _ (w : ℕ) (ns : List ℕ) where
  -- close
  module _ (t : Words) (x : ℕ) (y y' : Leftover) (f : Fine w ns t y) (o : HiddenOnly (tree_at w t) x)
      (k : Keeps (tree_at w t) (with_hidden (tree_at w t) x 0) y') where
    close-tree : SameTree w t (apply (close_at t x) t)
    close-tree = changed-tree w t x _ 0 _ (close-changed w ns t x y f o.member o.here)
        (ap reached (close-seen w ns t x y f o.member o.here) ∙ k.reached)

    close-shows : NoneTrailing (tree_at w t) → ShowsLater w t (apply (close_at t x) t) (kept (tree_at w t))
    close-shows e n h =
        let c = close-changed w ns t x y f o.member o.here in
        at-or-off (λ (n : ℕ). (node_view (apply (close_at t x) t) n).shown ≡ (node_view t n).shown) x (shown-eq c.node.here)
        (λ m z. shown-eq (c.node.else m z)) n ∙ keeps-all w t e n h

  -- cut
  module _ (t : Words) (p a : ℕ) (f : Fine w ns t (missing_in p a true)) where
    cut-tree : SameTree w t (apply (cut_off t a) t)
    cut-tree = changed-tree w t a _ 0 _ (cut-changed w ns t p a f)
        (ap reached (cut-seen w ns t p a f) ∙ (cut-keeps (tree_at w t) p a f.left).reached)

    cut-shows : ShowsLater w t (apply (cut_off t a) t) (kept (tree_at w t))
    cut-shows = at-or-off (λ (n : ℕ). Memᴰ n (reached (tree_at w t)) → (node_view (apply (cut_off t a) t) n).shown ≡ kept (tree_at w t) n) a
        (λ h. shown-eq (cut-changed w ns t p a f).node.here)
        (λ n z h. shown-eq ((cut-changed w ns t p a f).node.else n z)
        ∙ sym (each-mem (λ (n : ℕ). n ≢ a → kept (tree_at w t) n ≡ (node_view t n).shown) f.left.left.1.others h z))

  -- attach, on a table t₁ that has the tree of t and shows its kept slots
  module _ (t t₁ : Words) (p a : ℕ) (f : Fine w ns t₁ (missing_in p a false)) (s : SameTree w t t₁)
      (k : ShowsLater w t t₁ (kept (tree_at w t))) where
    abbrev t₂ : Words
    t₂ = apply (attach t₁ p a) t₁

    c : Changed t₁ p (slot_in (node_view t₁ (node_view t₁ a).sibling).fence (node_view t₁ a).sibling (node_view t₁ p).shown) 0 t₂
    c = attach-changed w ns t₁ p a f

    attach-tree : SameTree w t t₂
    attach-tree = same-trans w t t₁ t₂ s
        (changed-tree w t₁ p _ 0 t₂ c (ap reached (attach-seen w ns t₁ p a f) ∙ (attach-settles (tree_at w t₁) p a f.left).reached))

    same-sibling : (node_view t₁ a).sibling ≡ (node_view t a).sibling
    same-sibling = sibling-eq (s.bare a)

    same-fence : (node_view t₁ (node_view t₁ a).sibling).fence ≡ (node_view t (node_view t a).sibling).fence
    same-fence = ap (fence_of (tree_at w t₁)) same-sibling ∙ fence-eq (s.bare (node_view t a).sibling)

    at-parent : Memᴰ p (reached (tree_at w t)) → (node_view t₂ p).shown ≡ with_missing (tree_at w t) p a p
    at-parent h =
        shown-eq c.node.here
        ∙ ap (λ (j : ℕ). slot_in j (node_view t₁ a).sibling (node_view t₁ p).shown) same-fence
        ∙ ap (λ (b : ℕ). slot_in (node_view t (node_view t a).sibling).fence b (node_view t₁ p).shown) same-sibling
        ∙ ap (slot_in (node_view t (node_view t a).sibling).fence (node_view t a).sibling) (k p h)
        ∙ rw (eq-eqb p p refl)

    attach-shows : ShowsLater w t t₂ (with_missing (tree_at w t) p a)
    attach-shows = at-or-off (λ (n : ℕ). Memᴰ n (reached (tree_at w t)) → (node_view t₂ n).shown ≡ with_missing (tree_at w t) p a n) p
        at-parent (λ n z h. shown-eq (c.node.else n z) ∙ k n h ∙ rw (ne_eqb n p z))

  mends : (t : Words) (y : Leftover) → Fine w ns t y → Mends w t y (apply (repair_of t (some y)) t)
  unfolding repair_of
  mends t nothing f = rw (apply-nil t) (same-refl w t, keeps-all w t f.left.left.1)
  mends t (hidden_in x) f =
      let k = unhide (tree_at w t) x f.left in
      let o = f.left.left.0 in
      (close-tree t x (hidden_in x) nothing f o k, close-shows t x (hidden_in x) nothing f o k f.left.left.1)
  mends t (missing_in p a false) f =
      let k = keeps-all w t f.left.left.1 in
      (attach-tree t t p a f (same-refl w t) k, attach-shows t t p a f (same-refl w t) k)
  mends t (missing_in p a true) f =
      let t₁ = apply (cut_off t a) t in
      let g = cut-fine w ns t p a f in
      rw (apply-append (cut_off t a) (attach t p a) t, ← cut-attach w ns t p a f)
      (attach-tree t t₁ p a g (cut-tree t p a f) (cut-shows t p a f), attach-shows t t₁ p a g (cut-tree t p a f) (cut-shows t p a f))
  mends t (both_in p a) f =
      let t₁ = apply (close_at t p) t in
      let g = (close-stage w ns t p a f).1 in
      let u = unhide-missing (tree_at w t) p a f.left in
      let o = f.left.left.0 in
      let s = close-tree t p (both_in p a) (missing_in p a false) f o u in
      let k = close-shows t p (both_in p a) (missing_in p a false) f o u f.left.left.1 in
      rw (apply-append (close_at t p) (attach t₁ p a) t) (attach-tree t t₁ p a g s k, attach-shows t t₁ p a g s k)

  -- ---- the table after repair

  module _ (t : Words) (s : Sound w ns t) where
    mended : SameTree w t (repaired_at w t) × ShowsLater w t (repaired_at w t) (slots_later (tree_at w t) (leftover (tree_at w t)))
    unfolding repaired_at
    mended =
        let u = s in
        rw (repair-of w ns t u.0 u.1, ((has-left-iff (tree_at w t) u.0).1 u.1.left).1) (mends t u.0 u.1)

    same : SameTree w t (repaired_at w t)
    same = mended.0

    orderly-later : Orderly (tree_at w (repaired_at w t))
    orderly-later = (repaired-settled w ns t s).left.orderly

    orderly-now : Orderly (tree_at w t)
    orderly-now = s.1.left.orderly

    -- repair of a sound tree keeps its nodes but for slots; each then shows those kept and the one it lacked
    pub repaired-view : RepairedView w t
    repaired-view =
        let v = tree_at w t in
        let u = tree_at w (repaired_at w t) in
        let r : u.root ≡ v.root = same-word w s.1.low same.header in
        record {
          same = same;
          height = height-same v u orderly-now orderly-later r same.bare same.reached;
          path = path-same v u orderly-now orderly-later r same.bare same.reached;
          shown = mended.1;
          count = λ n m. ap length (mended.1 n m) ∙ length-later v (leftover v) n;
        }
