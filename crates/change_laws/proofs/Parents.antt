-- Each reached node but the root has one parent; and so on a search path.
use Rattle.std.proofs.Common.{◌≡◌, ℕ, suc, ◌-◌, ◌<◌, Bool, true, false, eqb, ◌≢◌, get_or, sym, refl, ⊎_elim, eqb-true}
use mathlib.Core.List.Memᴰ
use mathlib.Core.List.{Memᴰ}
use borrow.Author.Tests.{eqb-false}
use Rattle.model.specs.Slots.{View, height}
use Rattle.model.specs.Search.{path}
use Rattle.model.specs.Reached.{flat, children, reached}
use Rattle.model.specs.SoundTest.{elem}
use Rattle.list_laws.proofs.Tools.{Each}
use Rattle.list_laws.proofs.Members.{elem-none, each-mem, mem-flat}
use Rattle.list_laws.proofs.Distinct.{Once, once, flat-one}
use Rattle.tree_laws.proofs.Levels.{Orderly}
use Rattle.tree_laws.proofs.SearchLaw.{path-stands, path-step}
use Rattle.tree_laws.proofs.Parents.{children-once}
pub use Rattle.tree_laws.proofs.Parents.{sibling-reached, reached-children, child-reached, distinct-children, child-level}

-- p is the one node among whose children A stands, and it stands there once
pub record Parent (v : View) (A p : ℕ) : Type 0 where
  pub p-reached : Memᴰ p (reached v)
  pub p-level : (v.node p).level ≡ suc (v.node A).level
  pub once : Once A (children v p)
  pub only : Each (λ (n : ℕ). n ≢ p → elem A (children v n) ≡ false) (reached v)

module _ (v : View) (A : ℕ) (o : Orderly v) where
  from-children : Memᴰ A (flat (children v) (reached v)) → (p : ℕ) × Parent v A p
  from-children m =
      let u = flat-one (children v) (reached v) A (children-once v o) m in (
        u.it,
        record {
          p-reached = u.member;
          p-level = child-level v u.it A o u.member u.inside;
          once = once A (children v u.it) u.parted u.inside;
          only = u.only;
        },
      )

  -- a reached node but the root has one parent
  pub one-parent : Memᴰ A (reached v) → v.root ≢ A → (p : ℕ) × Parent v A p
  one-parent m z = from-children (⊎_elim (λ e. absurd (z (sym e))) (λ t. t) (Memᴰ.cases_cons (rw (reached-children v o) at m)))

  -- and that is the one among whose children it stands
  pub parent-is : (p : ℕ) → Memᴰ p (reached v) → Memᴰ A (children v p) → Parent v A p
  parent-is p m h =
      let u = from-children ((mem-flat (children v) A (reached v)).1 (p, m, h)) in
      rw (same u.0 u.1) at u.1
    where
      same : (q : ℕ) → Parent v A q → q ≡ p
      same q w = go (eqb q p) refl
        where
          go : (b : Bool) → eqb q p ≡ b → q ≡ p
          go true e = eqb-true q p e
          go false e = absurd ((elem-none A (children v p)).0
              (each-mem (λ (n : ℕ). n ≢ q → elem A (children v n) ≡ false) w.only m (λ y. eqb-false q p e (sym y))) h)

-- the nodes that a search stands on, on one level and on the next
pub path-parent : (v : View) (k d : ℕ) → Orderly v → d < height v
    → Parent v (get_or (path v k) (height v - d) 0) (get_or (path v k) (height v - suc d) 0)
path-parent v k d o h =
    parent-is v _ o (get_or (path v k) (height v - suc d) 0) (path-stands v k (suc d) o h).reached (path-step v k d o h).child
