-- One slot gathered: kept where no reason holds against it, else dropped.
use Rattle.std.proofs.Common.{◌≡◌, ℕ, suc, Bool, true, false, ◌≢◌, ◌↔◌, List, [], ◌∷◌, ◌++◌, refl, ap, arith, eq-eqb, ne_eqb}
use Rattle.model.specs.Table.{Words}
use Rattle.model.specs.Slots.{Slot, recording, pointer_ok, node_view}
use Rattle.model.specs.Refusals.{test, first_number, has_key, has_recording}
use Rattle.model.specs.Ledger.{enter}
use Rattle.model.specs.Salvage.{Placed, followed, Gathered, out_of_range, reason_for, gather_slot, collected}
use Rattle.list_laws.proofs.Tools.{not-false-iff}

-- ---- the reasons

pub range-iff : (p : ℕ) → (out_of_range p ≡ false) ↔ (pointer_ok p ≡ true)
unfolding out_of_range
range-iff p = not-false-iff (pointer_ok p)

-- no reason against a slot
pub record NoReason (ps : List Slot) (s : Slot) : Type 0 where
  pub range : out_of_range s.pointer ≡ false
  pub key : has_key s.key ps ≡ false
  pub own : has_recording (recording s) ps ≡ false

-- the reason is 0 exactly if pointer, key and recording give none
pub no-reason : (ps : List Slot) (s : Slot) → (reason_for ps s ≡ 0) ↔ NoReason ps s
unfolding reason_for
no-reason ps s = (
  λ e. go (out_of_range s.pointer) (has_key s.key ps) (has_recording (recording s) ps) refl refl refl e,
  λ u. rw (u.range, u.key, u.own),
)
  where
    go : (x y z : Bool) → out_of_range s.pointer ≡ x → has_key s.key ps ≡ y → has_recording (recording s) ps ≡ z
        → first_number (test x 1 ∷ test y 2 ∷ test z 3 ∷ []) ≡ 0 → NoReason ps s
    go true y z a b c h = absurd (omega arith)
    go false true z a b c h = absurd (omega arith)
    go false false true a b c h = absurd (omega arith)
    go false false false a b c h = record { range = a; key = b; own = c }

-- ---- a slot

module _ (n : ℕ) (g : Gathered) (x : Placed) where
  -- a slot against which there is no reason is entered into the pairs kept
  pub slot-kept : reason_for g.kept x.slot ≡ 0 → gather_slot n g x
      ≡ record { kept = enter x.slot.key x.slot.pointer g.kept; dropped = g.dropped }
  unfolding gather_slot
  slot-kept e = rw e

  -- a slot against which there is a reason is added to those dropped, with its node, place and reason
  pub slot-dropped : (r : ℕ) → reason_for g.kept x.slot ≡ suc r → gather_slot n g x
      ≡ record { kept = g.kept; dropped = g.dropped ++ (record { node = n; place = x.place; reason = suc r } ∷ []) }
  unfolding gather_slot
  slot-dropped r e = rw e

-- ---- what a node adds

-- of a leaf the slots followed are collected
pub collected-leaf : (t : Words) (n : ℕ) → (node_view t n).level ≡ 0 → collected t n ≡ followed t n
unfolding collected
collected-leaf t n e =
    ap (λ (b : Bool). elim b as (λ b. List Placed) [ true ↦ followed t n | false ↦ [] ]) (eq-eqb (node_view t n).level 0 e)

-- of a node above the leaves nothing is collected
pub collected-inner : (t : Words) (n : ℕ) → (node_view t n).level ≢ 0 → collected t n ≡ []
unfolding collected
collected-inner t n z =
    ap (λ (b : Bool). elim b as (λ b. List Placed) [ true ↦ followed t n | false ↦ [] ]) (ne_eqb (node_view t n).level 0 z)
