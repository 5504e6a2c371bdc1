-- Routing in a row of rising fences: a key between two neighbours goes to the first.
use Rattle.std.proofs.Common.{◌≡◌, ℕ, ◌<◌, ◌≤◌, ◌≢◌, ◌⊎◌, List, [], ◌∷◌, sym, ap, ◌∙◌, inl, inr, arith, le-leb}
use mathlib.Core.List.Memᴰ
use mathlib.Core.List.{Memᴰ}
use Rattle.model.specs.Slots.{Slot, View}
use Rattle.model.specs.Search.{route}
use Rattle.model.specs.Reached.{pointers}
use Rattle.view_laws.proofs.NodeViews.{fence_of}
use Rattle.list_laws.proofs.Tools.{Each}
use Rattle.list_laws.proofs.Members.{each-mem}
use Rattle.tree_laws.proofs.Levels.{Ascending}
use Rattle.tree_laws.proofs.Cover.{route-none}
use Rattle.sound_laws.proofs.Neighbours.{Follows, follows-in, follows-cases, follows-none}

-- a key from a's fence up and below the next one's goes to a
pub route-follows : (v : View) (k : ℕ) {e a c : ℕ} (p : ℕ) (ss : List Slot) → Ascending v (p ∷ pointers ss)
    → Each (λ (s : Slot). (v.node s.pointer).fence ≡ s.key) ss → Each (λ (s : Slot). s.pointer ≢ 0) ss
    → Follows e a c (p ∷ pointers ss) → (v.node a).fence ≤ k → (c ≢ 0 → k < (v.node c).fence) → route k p ss ≡ a
unfolding route
route-follows v k {e} {a} {c} p [] h f z o low high = go (follows-cases o)
  where
    go : ((a ≡ p) × (c ≡ e)) ⊎ Follows e a c [] → p ≡ a
    go (inl u) = sym u.0
    go (inr i) = absurd (follows-none i)
route-follows v k {e} {a} {c} p (s ∷ ss) h f z o low high = go (follows-cases o) (route-follows v k s.pointer ss h.1 f.1 z.1)
  where
    higher : (us : List Slot) → k < (v.node s.pointer).fence → Each (λ (m : ℕ). (v.node s.pointer).fence < (v.node m).fence) (pointers us)
        → Each (λ (u : Slot). (v.node u.pointer).fence ≡ u.key) us → Each (λ (u : Slot). k < u.key) us
    higher [] b t g = tt
    higher (u ∷ us) b t g = (let x = t.0 in let y = g.0 in omega arith, higher us b t.1 g.1)

    lower : (a ≡ s.pointer) ⊎ Memᴰ a (pointers ss) → s.key ≤ k
    lower (inl q) = let x = ap (fence_of v) q in let y = f.0 in omega arith
    lower (inr m) = let x = each-mem (λ (n : ℕ). (v.node s.pointer).fence < (v.node n).fence) h.1.0 m in let y = f.0 in omega arith

    go : ((a ≡ p) × (c ≡ s.pointer)) ⊎ Follows e a c (s.pointer ∷ pointers ss)
        → (Follows e a c (s.pointer ∷ pointers ss) → (v.node a).fence ≤ k → (c ≢ 0 → k < (v.node c).fence) → route k s.pointer ss ≡ a)
        → route k p (s ∷ ss) ≡ a
    go (inl u) ih =
        let b : k < (v.node s.pointer).fence = let x = ap (fence_of v) u.1 in let y = high (λ q. z.0 (sym u.1 ∙ q)) in omega arith in
        route-none v k p (s ∷ ss) (let y = f.0 in omega arith, higher ss b h.1.0 f.1) ∙ sym u.0
    go (inr i) ih = rw (le-leb s.key k (lower (Memᴰ.cases_cons (follows-in i))), route) (ih i low high)
