-- The leftovers: what each says of the nodes that it does not excuse, and the node that lacks its slot.
use Rattle.std.proofs.Common.{◌≡◌, ℕ, ◌<◌, true, false, ◌≢◌, ◌⊎◌, sym, refl, ap, ◌∙◌, inr, ⊎_elim, arith}
use mathlib.Core.List.{Memᴰ}
use Rattle.model.specs.Slots.{View}
use Rattle.model.specs.Reached.{kept, named, next_child, children, reached}
use Rattle.model.specs.Sound.{Lacks, Trails, Hides, LacksSlot, IsLeft}
use Rattle.model.specs.SoundTest.{Leftover, nothing, hidden_in, missing_in, both_in}
use Rattle.view_laws.proofs.NodeViews.{sibling_of}
use Rattle.list_laws.proofs.Tools.{same-or-not}
use Rattle.list_laws.proofs.Members.{each-mem}
use Rattle.tree_laws.proofs.Sums.{only-other}
use Rattle.tree_laws.proofs.Gaps.{Gap}
use Rattle.tree_laws.proofs.Leftovers.{names-linked, NoneHidden, NoneTrailing, NoneMissing, HiddenOnly, TrailingOnly, MissingOnly, Left}
use Rattle.sound_laws.proofs.Neighbours.{Lost, linked-lost, gap-only}

-- ---- a listed node that is not excused

module _ (v : View) {n : ℕ} (m : Memᴰ n (reached v)) where
  shows-all : NoneHidden v → (v.node n).hidden ≡ 0
  shows-all h = each-mem (λ (k : ℕ). (v.node k).hidden ≡ 0) h m

  shows-else : {q : ℕ} → HiddenOnly v q → n ≢ q → (v.node n).hidden ≡ 0
  shows-else {q} h = only-other q (reached v) ((v.node q).hidden ≡ 1) (λ (k : ℕ). (v.node k).hidden ≡ 0) h n m

  pub none-hidden : (x : Leftover) → Left v x → (Hides x n → ⊥) → (v.node n).hidden ≡ 0
  none-hidden nothing l z = shows-all l.0
  none-hidden (hidden_in q) l z = shows-else l.0 z
  none-hidden (missing_in p a false) l z = shows-all l.0
  none-hidden (missing_in p a true) l z = shows-all l.0
  none-hidden (both_in p a) l z = shows-else l.0 z

  pub keeps-all : NoneTrailing v → kept v n ≡ (v.node n).shown
  keeps-all h = each-mem (λ (k : ℕ). kept v k ≡ (v.node k).shown) h m

  pub keeps-else : {a : ℕ} → TrailingOnly v a → n ≢ a → kept v n ≡ (v.node n).shown
  keeps-else {a} h = only-other a (reached v) (kept v a ≢ (v.node a).shown) (λ (k : ℕ). kept v k ≡ (v.node k).shown) h n m

  pub keys-below : (x : Leftover) → Left v x → (Trails x n → ⊥) → kept v n ≡ (v.node n).shown
  keys-below nothing l z = keeps-all l.1
  keys-below (hidden_in q) l z = keeps-all l.1
  keys-below (missing_in p a false) l z = keeps-all l.1
  keys-below (missing_in p a true) l z = keeps-else l.1 z
  keys-below (both_in p a) l z = keeps-all l.1

  module _ {a c : ℕ} (i : 0 < (v.node n).level) (o : Lost v (named v n) (next_child v n) a c) where
    inner : (v.node n).level ≢ 0
    inner z = omega arith

    lost-none : ((v.node n).level ≢ 0 → children v n ≡ named v n) → ⊥
    lost-none h = linked-lost v (named v n) ((names-linked v n inner).0 (h inner)) o

    lost-only : {p b : ℕ} → MissingOnly v p b → a ≡ b
    lost-only {p} {b} g = ⊎_elim
        (λ e. gap-only v (named v p) g.here.1 (rw e at o))
        (λ z. absurd (lost-none
        (only-other p (reached v) (((v.node p).level ≢ 0) × Gap v b (named v p) (next_child v p))
        (λ (k : ℕ). (v.node k).level ≢ 0 → children v k ≡ named v k) g n m z))) (same-or-not n p)

    lost-never : NoneMissing v → ⊥
    lost-never h = lost-none (each-mem (λ (k : ℕ). (v.node k).level ≢ 0 → children v k ≡ named v k) h m)

    -- a sibling that the row of n lacks is the one that lacks its slot
    pub lost-lacks : (x : Leftover) → Left v x → Lacks v x (v.node a).sibling
    lost-lacks nothing l = absurd (lost-never l.2)
    lost-lacks (hidden_in q) l = absurd (lost-never l.2)
    lost-lacks (missing_in p b false) l = ap (sibling_of v) (lost-only l.2)
    lost-lacks (missing_in p b true) l = ap (sibling_of v) (lost-only l.2)
    lost-lacks (both_in p b) l = ap (sibling_of v) (lost-only l.2)

-- ---- the node that lacks its slot

pub lacks-or : (v : View) (x : Leftover) (n : ℕ) → Lacks v x n ⊎ (Lacks v x n → ⊥)
lacks-or v nothing n = inr (λ h. h)
lacks-or v (hidden_in q) n = inr (λ h. h)
lacks-or v (missing_in p a t) n = same-or-not n (v.node a).sibling
lacks-or v (both_in p a) n = same-or-not n (v.node a).sibling

-- p lacks the slot of a's sibling
abbrev pub MissingAt : Leftover → ℕ → ℕ → Type 0
MissingAt nothing p a = ⊥
MissingAt (hidden_in q) p a = ⊥
MissingAt (missing_in q b t) p a = (p ≡ q) × (a ≡ b)
MissingAt (both_in q b) p a = (p ≡ q) × (a ≡ b)

missing-same : (x : Leftover) (p q : ℕ) {a b : ℕ} → MissingAt x p a → MissingAt x q b → a ≡ b
missing-same nothing p q g h = absurd g
missing-same (hidden_in r) p q g h = absurd g
missing-same (missing_in r c t) p q g h = g.1 ∙ sym h.1
missing-same (both_in r c) p q g h = g.1 ∙ sym h.1

-- b lacks its slot in p, after a, in the leftover x
pub record Shortage (v : View) (x : Leftover) (b : ℕ) : Type 0 where
  pub p : ℕ
  pub a : ℕ
  pub slot : LacksSlot v p a
  pub is : b ≡ (v.node a).sibling
  pub at : MissingAt x p a

pub shortage : (v : View) (x : Leftover) {b : ℕ} → IsLeft v x → Lacks v x b → Shortage v x b
shortage v nothing i l = absurd l
shortage v (hidden_in q) i l = absurd l
shortage v (missing_in p a true) i l = record { p = p; a = a; slot = i.0; is = l; at = (refl, refl) }
shortage v (missing_in p a false) i l = record { p = p; a = a; slot = i; is = l; at = (refl, refl) }
shortage v (both_in p a) i l = record { p = p; a = a; slot = i.0; is = l; at = (refl, refl) }

pub shortage-same : (v : View) (x : Leftover) {b c : ℕ} → Shortage v x b → Shortage v x c → b ≡ c
shortage-same v x g h = g.is ∙ ap (sibling_of v) (missing-same x g.p h.p g.at h.at) ∙ sym h.is
