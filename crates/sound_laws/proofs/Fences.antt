-- Rising fences: nodes that slots name, the place between two neighbours of a row, and the siblings in a row.
use Rattle.std.proofs.Common.{◌≡◌, ℕ, suc, ◌<◌, ◌≤◌, true, ◌≢◌, ◌⊎◌, List, [], ◌∷◌, sym, ap, ◌∙◌, subst, inl, inr, arith}
use mathlib.Core.List.Memᴰ
use mathlib.Core.List.{Memᴰ}
use Rattle.model.specs.Slots.{Slot, View}
use Rattle.model.specs.Reached.{head_or, pointers}
use Rattle.model.specs.SoundTest.{rising}
use Rattle.view_laws.proofs.NodeViews.{fence_of}
use Rattle.list_laws.proofs.Tools.{Each}
use Rattle.list_laws.proofs.Members.{each-mem}
use Rattle.tree_laws.proofs.Rows.{At, Row, not-zero}
use Rattle.tree_laws.proofs.Levels.{Ascending, ascending}
use Rattle.tree_laws.proofs.Rising.{rising-cons, rising-from}
use Rattle.sound_laws.proofs.Neighbours.{Follows, follows-cases, follows-none, follows-in, in-follows, linked-follows}

module _ (v : View) where
  -- nodes named by slots whose keys are their fences
  pub slots-ascend : (low : ℕ) (ss : List Slot) → rising low ss ≡ true → Each (λ (s : Slot). (v.node s.pointer).fence ≡ s.key) ss
      → Ascending v (pointers ss)
  slots-ascend low [] r f = tt
  slots-ascend low (s ∷ ss) r f = let u =
      (rising-cons low s ss).0 r in (higher ss (rising-from (suc s.key) ss u.1) f.1, slots-ascend (suc s.key) ss u.1 f.1)
    where
      higher : (us : List Slot) → Each (λ (u : Slot). s.key < u.key) us → Each (λ (u : Slot). (v.node u.pointer).fence ≡ u.key) us
          → Each (λ (m : ℕ). (v.node s.pointer).fence < (v.node m).fence) (pointers us)
      higher [] a g = tt
      higher (u ∷ us) a g = (let p = f.0 in let q = g.0 in let r = a.0 in omega arith, higher us a.1 g.1)

  -- a and the next one, c, in a row of rising fences: no fence of the row lies between
  pub data Place (ns : List ℕ) (e a c : ℕ) : Type 0 where
    inner : Memᴰ c ns → (v.node a).fence < (v.node c).fence
        → ((m : ℕ) → Memᴰ m ns → ((v.node m).fence ≤ (v.node a).fence) ⊎ ((v.node c).fence ≤ (v.node m).fence)) → Place ns e a c
    final : c ≡ e → ((m : ℕ) → Memᴰ m ns → (v.node m).fence ≤ (v.node a).fence) → Place ns e a c

  place-first : {e a c n : ℕ} (ns : List ℕ) → Ascending v (n ∷ ns) → a ≡ n → c ≡ head_or e ns → Place (n ∷ ns) e a c
  place-first {e} {a} {c} {n} [] h p q = final q (λ m k. go m (Memᴰ.cases_cons k))
    where
      go : (m : ℕ) → (m ≡ n) ⊎ Memᴰ m [] → (v.node m).fence ≤ (v.node a).fence
      go m (inl w) = let r = ap (fence_of v) (w ∙ sym p) in omega arith
      go m (inr k) = absurd (Memᴰ.not-nil k)
  place-first {e} {a} {c} {n} (b ∷ ns) h p q =
      inner (Memᴰ.tail (Memᴰ.head q)) (let r = ap (fence_of v) p in let s = ap (fence_of v) q in let t = h.0.0 in omega arith)
      (λ m k. go m (Memᴰ.cases_cons k))
    where
      far : (m : ℕ) → (m ≡ b) ⊎ Memᴰ m ns → (v.node c).fence ≤ (v.node m).fence
      far m (inl w) = let r = ap (fence_of v) (w ∙ sym q) in omega arith
      far m (inr k) = let r = ap (fence_of v) q in let t = each-mem (λ (x : ℕ). (v.node b).fence < (v.node x).fence) h.1.0 k in omega arith

      go : (m : ℕ) → (m ≡ n) ⊎ Memᴰ m (b ∷ ns) → ((v.node m).fence ≤ (v.node a).fence) ⊎ ((v.node c).fence ≤ (v.node m).fence)
      go m (inl w) = inl (let r = ap (fence_of v) (w ∙ sym p) in omega arith)
      go m (inr k) = inr (far m (Memᴰ.cases_cons k))

  place-later : {e a c n : ℕ} {ns : List ℕ} → (v.node n).fence < (v.node a).fence → Place ns e a c → Place (n ∷ ns) e a c
  place-later {e} {a} {c} {n} {ns} f (inner k g h) = inner (Memᴰ.tail k) g (λ m i. go m (Memᴰ.cases_cons i))
    where
      go : (m : ℕ) → (m ≡ n) ⊎ Memᴰ m ns → ((v.node m).fence ≤ (v.node a).fence) ⊎ ((v.node c).fence ≤ (v.node m).fence)
      go m (inl w) = inl (let r = ap (fence_of v) w in omega arith)
      go m (inr i) = h m i
  place-later {e} {a} {c} {n} {ns} f (final q h) = final q (λ m i. go m (Memᴰ.cases_cons i))
    where
      go : (m : ℕ) → (m ≡ n) ⊎ Memᴰ m ns → (v.node m).fence ≤ (v.node a).fence
      go m (inl w) = let r = ap (fence_of v) w in omega arith
      go m (inr i) = h m i

  pub place : {e a c : ℕ} (ns : List ℕ) → Ascending v ns → Follows e a c ns → Place ns e a c
  place [] h f = absurd (follows-none f)
  place {e} {a} {c} (n ∷ ns) h f = go (follows-cases f) (place ns h.1)
    where
      go : ((a ≡ n) × (c ≡ head_or e ns)) ⊎ Follows e a c ns → (Follows e a c ns → Place ns e a c) → Place (n ∷ ns) e a c
      go (inl w) ih = place-first ns h w.0 w.1
      go (inr k) ih = place-later (each-mem (λ (x : ℕ). (v.node n).fence < (v.node x).fence) h.0 (follows-in k)) (ih k)

  -- ---- siblings in a row

  -- a node of a row, with its sibling: it is the next one, 0 for the last
  row-place : (d : ℕ) (ns : List ℕ) → Row v d ns → {n : ℕ} → Memᴰ n ns → Place ns 0 n (v.node n).sibling
  row-place d ns r {n} m =
      let u = in-follows 0 m in
      subst (Place ns 0 n) (sym (linked-follows v ns r.chain u.1)) (place ns (ascending v d ns r) u.1)

  pub row-next : (d : ℕ) (ns : List ℕ) → Row v d ns → {m n : ℕ} → Memᴰ m ns → Memᴰ n ns → (v.node n).fence < (v.node m).fence
      → ((v.node n).sibling ≢ 0) × ((v.node (v.node n).sibling).fence ≤ (v.node m).fence)
  row-next d ns r {m} {n} i k f = go (row-place d ns r k)
    where
      either : ((v.node m).fence ≤ (v.node n).fence) ⊎ ((v.node (v.node n).sibling).fence ≤ (v.node m).fence)
          → (v.node (v.node n).sibling).fence ≤ (v.node m).fence
      either (inl x) = absurd (omega arith)
      either (inr x) = x

      go : Place ns 0 n (v.node n).sibling → ((v.node n).sibling ≢ 0) × ((v.node (v.node n).sibling).fence ≤ (v.node m).fence)
      go (inner s g h) = (not-zero v (v.node n).sibling (each-mem (At v d) r.at s).range, either (h m i))
      go (final e h) = absurd (let x = h m i in omega arith)
