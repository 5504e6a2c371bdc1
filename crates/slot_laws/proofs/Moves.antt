-- Slots that move one up or one down, store by store: a hidden slot goes through them.
use Rattle.std.proofs.Common.{◌≡◌, ℕ, suc, ◌+◌, List, [], ◌∷◌, ◌++◌, length, sym, refl, ap, ◌∙◌, subst, append_assoc, append-nil, arith}
use Rattle.std.proofs.Common.{length-append}
use Rattle.model.specs.Slots.{Slot, slot}
use Rattle.model.specs.Shifts.{SlotStore, key_to, pointer_to, last_pointer, move_up, move_down}
use Rattle.list_laws.proofs.Tools.{Each}
use Rattle.list_laws.proofs.Steps.{do_all, Until, Along, all-append, until-append, until-end}
use Rattle.slot_laws.proofs.Hiding.{Used, last-append}
use Rattle.slot_laws.proofs.SlotStores.{set_key, set_pointer, do_slot_store, do_slot_stores, set-key-at, set-pointer-at}

abbrev pub first : Slot → List Slot → Slot
first g [] = g
first g (s ∷ ss) = s

snoc-length : (a : List Slot) (s : Slot) (n : ℕ) → length a ≡ n → length (a ++ s ∷ []) ≡ suc n
snoc-length a s n e = rw length-append (omega arith)

snoc-append : (a : List Slot) (s : Slot) (r : List Slot) → a ++ s ∷ r ≡ (a ++ s ∷ []) ++ r
snoc-append a s r = sym (append_assoc a (s ∷ []) r)

-- slot n of a ++ g ∷ r becomes s: its pointer first, or its key first
module _ (a : List Slot) (g s : Slot) (r : List Slot) (n : ℕ) (l : length a ≡ n) where
  pointer-then-key : set_key (set_pointer (a ++ g ∷ r) n s.pointer) n s.key ≡ a ++ s ∷ r
  pointer-then-key = ap (λ (x : List Slot). set_key x n s.key) (set-pointer-at a g r n s.pointer l) ∙ set-key-at a _ r n s.key l

  key-then-pointer : set_pointer (set_key (a ++ g ∷ r) n s.key) n s.pointer ≡ a ++ s ∷ r
  key-then-pointer = ap (λ (x : List Slot). set_pointer x n s.pointer) (set-key-at a g r n s.key l) ∙ set-pointer-at a _ r n s.pointer l

-- moving b one up leaves a free place in front of it
pub moved-up : (n : ℕ) (a b : List Slot) (g : Slot) (r : List Slot) → length a ≡ n → do_slot_stores (move_up n b) (a ++ (b ++ g ∷ r))
    ≡ a ++ first g b ∷ (b ++ r)
unfolding move_up do_all
moved-up n a [] g r l = refl
moved-up n a (s ∷ b) g r l =
    let a' : List Slot = a ++ s ∷ [] in
    let l' : length a' ≡ suc n = snoc-length a s n l in
    let two : List SlotStore = pointer_to (suc n) s.pointer ∷ key_to (suc n) s.key ∷ [] in
    all-append do_slot_store (move_up (suc n) b) two (a ++ s ∷ (b ++ g ∷ r))
    ∙ ap (λ (x : List Slot). do_slot_stores two (do_slot_stores (move_up (suc n) b) x)) (snoc-append a s (b ++ g ∷ r))
    ∙ ap (λ (x : List Slot). do_slot_stores two x) (moved-up (suc n) a' b g r l')
    ∙ pointer-then-key a' (first g b) s (b ++ r) (suc n) l'
    ∙ sym (snoc-append a s (s ∷ (b ++ r)))

last-snoc : (p : ℕ) (a : List Slot) (s : Slot) → last_pointer p (a ++ s ∷ []) ≡ s.pointer
unfolding last_pointer
last-snoc p a s = last-append p a (s ∷ [])

-- P holds of xs with a hidden slot put in anywhere, and r behind
module _ (p : ℕ) (xs r : List Slot) (P : List Slot → Type 0)
    (gap : (a b : List Slot) (c : ℕ) → a ++ b ≡ xs → (last_pointer p a ≡ 0 → ⊥) → P (a ++ slot c (last_pointer p a) ∷ (b ++ r))) where
  gap-after : (a b : List Slot) (s : Slot) (c : ℕ) → (a ++ s ∷ []) ++ b ≡ xs → Used s → P ((a ++ s ∷ []) ++ slot c s.pointer ∷ (b ++ r))
  gap-after a b s c e u = rw (last-snoc p a s) at (gap (a ++ s ∷ []) b c e (rw (last-snoc p a s) u))

  pub move-up-along : (n : ℕ) (a b : List Slot) (g : Slot) → length a ≡ n → a ++ b ≡ xs → Each Used b → P (xs ++ g ∷ r)
      → Along do_slot_store P (move_up n b) (a ++ (b ++ g ∷ r))
  unfolding move_up do_all
  move-up-along n a [] g l e u h = subst (λ (x : List Slot). P (x ++ g ∷ r)) (sym e ∙ append-nil a) h
  move-up-along n a (s ∷ b) g l e u h =
      let a' : List Slot = a ++ s ∷ [] in
      let l' : length a' ≡ suc n = snoc-length a s n l in
      let e' : a' ++ b ≡ xs = sym (snoc-append a s b) ∙ e in
      let start : a ++ s ∷ (b ++ g ∷ r) ≡ a' ++ (b ++ g ∷ r) = snoc-append a s (b ++ g ∷ r) in
      let ups : List SlotStore = move_up (suc n) b in
      let along : Along do_slot_store P ups (a ++ s ∷ (b ++ g ∷ r)) = rw start (move-up-along (suc n) a' b g l' e' u.1 h) in
      let q1 : do_slot_stores ups (a ++ s ∷ (b ++ g ∷ r)) ≡ a' ++ first g b ∷ (b ++ r) = rw start (moved-up (suc n) a' b g r l') in
      let s2 : P (set_pointer (do_slot_stores ups (a ++ s ∷ (b ++ g ∷ r))) (suc n) s.pointer) =
      rw (q1, set-pointer-at a' (first g b) (b ++ r) (suc n) s.pointer l') (gap-after a b s _ e' u.0) in
      let s3 : P (set_key (set_pointer (do_slot_stores ups (a ++ s ∷ (b ++ g ∷ r))) (suc n) s.pointer) (suc n) s.key) =
      rw (q1, pointer-then-key a' (first g b) s (b ++ r) (suc n) l') (gap-after a b s s.key e' u.0) in
      until-append do_slot_store P P P ups (pointer_to (suc n) s.pointer ∷ key_to (suc n) s.key ∷ []) _ along
      (until-end do_slot_store P P ups _ along, (s2, s3))

  -- the last store ends the slots in use there
  pub move-down-until :
      (Q : List Slot → Type 0) → ((c : ℕ) → Q (xs ++ slot c 0 ∷ r)) → (n m : ℕ) (a b : List Slot) (c : ℕ) → length a ≡ n → n + length b ≡ m
      → a ++ b ≡ xs → Each Used b → (last_pointer p a ≡ 0 → ⊥)
      → Until do_slot_store P Q (move_down n b ++ (pointer_to m 0 ∷ [])) (a ++ slot c (last_pointer p a) ∷ (b ++ r))
  unfolding move_down
  move-down-until Q end n m a [] c l k e u z =
      let q : set_pointer (a ++ slot c (last_pointer p a) ∷ r) m 0 ≡ a ++ slot c 0 ∷ r = set-pointer-at a _ r m 0 (omega arith) in
      (gap a [] c e z, rw q (subst (λ (x : List Slot). Q (x ++ slot c 0 ∷ r)) (sym e ∙ append-nil a) (end c)))
  move-down-until Q end n m a (s ∷ b) c l k e u z =
      let a' : List Slot = a ++ s ∷ [] in
      let e' : a' ++ b ≡ xs = sym (snoc-append a s b) ∙ e in
      let q1 : set_key (a ++ slot c (last_pointer p a) ∷ (s ∷ b ++ r)) n s.key ≡ a ++ slot s.key (last_pointer p a) ∷ (s ∷ b ++ r) =
      set-key-at a _ (s ∷ b ++ r) n s.key l in
      let q2 : set_pointer (set_key (a ++ slot c (last_pointer p a) ∷ (s ∷ b ++ r)) n s.key) n s.pointer ≡ a'
      ++ slot s.key (last_pointer p a') ∷ (b ++ r) =
      key-then-pointer a (slot c (last_pointer p a)) s (s ∷ b ++ r) n l ∙ snoc-append a s (s ∷ (b ++ r))
      ∙ ap (λ (x : ℕ). a' ++ slot s.key x ∷ (b ++ r)) (sym (last-snoc p a s)) in (
        gap a (s ∷ b) c e z,
        (
          rw q1 (gap a (s ∷ b) s.key e z),
          rw q2 (move-down-until Q end (suc n) m a' b s.key (snoc-length a s n l) (omega arith) e' u.1 (rw (last-snoc p a s) u.0)),
        ),
      )
