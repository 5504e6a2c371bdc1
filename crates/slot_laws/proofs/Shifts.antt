-- What each store of a shift in, a shift out, a close and a cut leaves shown and hidden, for a node of any number of slots.
use Rattle.std.proofs.Common.{◌≡◌, ℕ, suc, pred, ◌+◌, ◌<◌, ◌≤◌, List, [], ◌∷◌, ◌++◌, length, get_or, take, drop, sym, refl, ap, ◌∙◌, subst}
use Rattle.std.proofs.Common.{append_assoc, arith, length-append, take-append-drop, length-take-le, drop_at}
use lib.Seq.{split_at}
use Rattle.model.specs.Slots.{Slot, slot, in_use, shown, hidden_slots}
use Rattle.model.specs.Shifts.{key_to, pointer_to, last_pointer, move_up, move_down, shift_in, shift_out, close, hidden_place}
use Rattle.list_laws.proofs.Tools.{Each}
use Rattle.list_laws.proofs.Steps.{do_all, Until, AtFirst, until-append, until-end}
use Rattle.slot_laws.proofs.Hiding.{Stops, parts, AllShown, all-used, all-split, all-insert, all-shown, not-hidden, last-used, Shows}
use Rattle.slot_laws.proofs.Hiding.{MayHide, shows-all, shows-gap, OneHidden, one-hidden}
use Rattle.slot_laws.proofs.SlotStores.{set_key, set_pointer, do_slot_store, do_slot_stores, set-key-at, set-pointer-at, set-pointer-front}
use Rattle.slot_laws.proofs.Moves.{first, moved-up, move-up-along, move-down-until}

-- a slot more at place p, and a slot less
abbrev pub put_in : (p k x : ℕ) → List Slot → List Slot
put_in p k x ss = take p ss ++ slot k x ∷ drop p ss

-- the slots without the one at place p
abbrev pub take_out : (p : ℕ) → List Slot → List Slot
take_out p ss = take p ss ++ drop (suc p) ss

-- with a pointer that no slot has they are all shown
pub put-in-shown : (left : ℕ) (ss : List Slot) (p k x : ℕ) → AllShown left ss → (x ≡ 0 → ⊥) → (x ≡ left → ⊥)
    → Each (λ (s : Slot). x ≡ s.pointer → ⊥) ss → AllShown left (put_in p k x ss)
put-in-shown left ss p k x a z q e =
    all-insert left k x (take p ss) (drop p ss) (rw (take-append-drop p ss) a) z q (rw (take-append-drop p ss) e)

-- a node that shows ss and hides nothing: ss, and what is behind the slots in use
pub record Shape (left : ℕ) (ss all : List Slot) : Type 0 where
  pub behind : List Slot
  pub shape : all ≡ ss ++ behind
  pub shown-all : AllShown left ss
  pub stops : Stops behind

-- a node that shows ss and hides none has ss in front, all shown, and no slot in use after them
pub shape-of : (left : ℕ) (ss all : List Slot) → Shows left ss 0 all → Shape left ss all
shape-of left ss all s =
    let u = parts all in
    let a = not-hidden left (in_use all) u.used s.hides in
    let e : in_use all ≡ ss = sym (all-shown left (in_use all) a) ∙ s.shows in
    record { behind = u.behind; shape = rw (← e) u.shape; shown-all = rw e at a; stops = u.stops }

-- and with two places behind them
pub record Room (left : ℕ) (ss all : List Slot) : Type 0 where
  pub end : ℕ
  pub next : Slot
  pub more : List Slot
  pub shape : all ≡ ss ++ slot end 0 ∷ next ∷ more
  pub shown-all : AllShown left ss

pub room-of : (left : ℕ) (ss all : List Slot) → Shows left ss 0 all → suc (length ss) < length all → Room left ss all
room-of left ss all s h = let u = shape-of left ss all s in go u.behind u.shape u.stops u.shown-all
  where
    go : (r : List Slot) → all ≡ ss ++ r → Stops r → AllShown left ss → Room left ss all
    go [] e q a = absurd (omega (arith, simp length-append at (ap length e)))
    go (g ∷ []) e q a = absurd (omega (arith, simp length-append at (ap length e)))
    go (g ∷ x ∷ r) e q a =
        record { end = g.key; next = x; more = r; shape = e ∙ ap (λ (p : ℕ). ss ++ slot g.key p ∷ x ∷ r) q; shown-all = a }

-- ---- shift in

-- between a and b, in a node with two places behind them
module _ (left : ℕ) (a b : List Slot) (end : ℕ) (next : Slot) (more : List Slot) (n k x : ℕ)
    (l : length a ≡ n) (z : left ≡ 0 → ⊥) (old : AllShown left (a ++ b)) (new : AllShown left (a ++ slot k x ∷ b)) where
  abbrev rest : List Slot
  rest = slot next.key 0 ∷ more

  abbrev P : List Slot → Type 0
  P = MayHide left (a ++ b)

  abbrev ready : List Slot
  ready = a ++ (b ++ slot end 0 ∷ rest)

  ended : set_pointer ((a ++ b) ++ slot end 0 ∷ next ∷ more) (suc (length (a ++ b))) 0 ≡ ready
  ended =
      let f = (a ++ b) ++ slot end 0 ∷ [] in
      ap (λ (y : List Slot). set_pointer y (suc (length (a ++ b))) 0) (sym (append_assoc (a ++ b) (slot end 0 ∷ []) (next ∷ more)))
      ∙ set-pointer-at f next more _ 0 (rw (length-append (a ++ b) (slot end 0 ∷ [])) (omega arith))
      ∙ append_assoc (a ++ b) (slot end 0 ∷ []) rest ∙ append_assoc a b _

  gap : (a' b' : List Slot) (c : ℕ) → a' ++ b' ≡ a ++ b → (last_pointer left a' ≡ 0 → ⊥)
      → P (a' ++ slot c (last_pointer left a') ∷ (b' ++ rest))
  gap a' b' c e q = (1, omega arith, shows-gap left (a ++ b) rest old refl a' b' c e q)

  shift-in-between : Until do_slot_store P (Shows left (a ++ slot k x ∷ b) 0)
      (pointer_to (suc (length (a ++ b))) 0 ∷ (move_up n b ++ (pointer_to n (last_pointer left a) ∷ key_to n k ∷ pointer_to n x ∷ [])))
      ((a ++ b) ++ slot end 0 ∷ next ∷ more)
  unfolding do_all
  shift-in-between =
      let u = all-split left a b old in
      let q = last-used left a z (all-used left a u.0) in
      let start : P ((a ++ b) ++ slot end 0 ∷ next ∷ more) = (0, omega arith, shows-all left (a ++ b) _ old refl) in
      let along = move-up-along left (a ++ b) rest P gap n a b (slot end 0) l refl (all-used (last_pointer left a) b u.1)
      (0, omega arith, shows-all left (a ++ b) _ old refl) in
      let q1 : do_slot_stores (move_up n b) ready ≡ a ++ first (slot end 0) b ∷ (b ++ rest) = moved-up n a b (slot end 0) rest l in
      let q2 : set_pointer (do_slot_stores (move_up n b) ready) n (last_pointer left a) ≡ a
      ++ slot (first (slot end 0) b).key (last_pointer left a) ∷ (b ++ rest) = rw q1 (set-pointer-at a _ (b ++ rest) n _ l) in
      let q3 : set_key (set_pointer (do_slot_stores (move_up n b) ready) n (last_pointer left a)) n k ≡ a ++ slot k (last_pointer left a)
      ∷ (b ++ rest) = rw q2 (set-key-at a _ (b ++ rest) n k l) in
      let q4 : set_pointer (set_key (set_pointer (do_slot_stores (move_up n b) ready) n (last_pointer left a)) n k) n x
      ≡ (a ++ slot k x ∷ b) ++ rest =
      rw q3 (set-pointer-at a _ (b ++ rest) n x l ∙ sym (append_assoc a (slot k x ∷ b) rest)) in (
        start,
        rw ended (until-append do_slot_store P P (Shows left (a ++ slot k x ∷ b) 0) (move_up n b) _ ready along (
          until-end do_slot_store P P (move_up n b) ready along,
          (rw q2 (gap a b _ refl q), (rw q3 (gap a b k refl q), rw q4 (shows-all left (a ++ slot k x ∷ b) rest new refl))),
        )),
      )

-- After each first part of a shift in but the whole the node shows what it showed and hides one slot at most; after the whole it shows
-- the new slot too, at its place, and hides none.
pub shift-in-slots :
    (left : ℕ) (ss all : List Slot) (p k x : ℕ) → (left ≡ 0 → ⊥) → Shows left ss 0 all → suc (length ss) < length all → p ≤ length ss
    → AllShown left (put_in p k x ss) → Until do_slot_store (MayHide left ss) (Shows left (put_in p k x ss) 0) (shift_in left ss p k x) all
unfolding shift_in
shift-in-slots left ss all p k x z s room h new =
    let u = room-of left ss all s room in
    let a = take p ss in
    let b = drop p ss in
    let e : a ++ b ≡ ss = take-append-drop p ss in
    rw u.shape (subst (λ (y : List Slot). Until do_slot_store (MayHide left y) (Shows left (a ++ slot k x ∷ b) 0)
    (pointer_to (suc (length y)) 0 ∷ (move_up p b ++ (pointer_to p (last_pointer left a) ∷ key_to p k ∷ pointer_to p x ∷ [])))
    (y ++ slot u.end 0 ∷ u.next ∷ u.more))
    e (shift-in-between left a b u.end u.next u.more p k x (length-take-le p ss h) z (rw e u.shown-all) new))

-- ---- close

-- the hidden slot between a and b, in a node with r behind them
close-between : (left : ℕ) (a b r : List Slot) (c n m : ℕ) → length a ≡ n → n + length b ≡ m → (last_pointer left a ≡ 0 → ⊥)
    → AllShown left (a ++ b) → Stops r
    → Until do_slot_store (Shows left (a ++ b) 1) (Shows left (a ++ b) 0) (move_down n b ++ (pointer_to m 0 ∷ []))
    (a ++ slot c (last_pointer left a) ∷ (b ++ r))
close-between left a b r c n m l k z h e =
    let xs = a ++ b in
    move-down-until left xs r (Shows left xs 1) (shows-gap left xs r h e) (Shows left xs 0) (λ c. shows-all left xs _ h refl) n m a b c l k
    refl (all-used (last_pointer left a) b (all-split left a b h).1) z

close-at : (a b : List Slot) (g : Slot) (n : ℕ) → length a ≡ n → close (a ++ g ∷ b) n ≡ move_down n b ++ (pointer_to (n + length b) 0 ∷ [])
unfolding close
close-at a b g n l =
    let d : drop (suc n) (a ++ g ∷ b) ≡ b =
    ap (λ (y : List Slot). drop (suc n) y) (sym (append_assoc a (g ∷ []) b))
    ∙ drop_at (a ++ g ∷ []) b (suc n) (rw (length-append a (g ∷ [])) (omega arith)) in
    let m : pred (length (a ++ g ∷ b)) ≡ n + length b = rw (length-append a (g ∷ b)) (omega arith) in
    rw (d, m)

close-used : (left : ℕ) (us r : List Slot) → OneHidden left us → Stops r
    → Until do_slot_store (Shows left (shown left us) 1) (Shows left (shown left us) 0) (close us (hidden_place left us)) (us ++ r)
close-used left us r g e =
    let a = g.before in
    let b = g.after in
    let h = slot g.key (last_pointer left a) in
    let P : ℕ → List Slot → Type 0 = Shows left (a ++ b) in
    let one : Until do_slot_store (P 1) (P 0) (close (a ++ h ∷ b) (length a)) ((a ++ h ∷ b) ++ r) =
    rw (close-at a b h (length a) refl, append_assoc a (h ∷ b) r) (close-between left a b r g.key (length a) _ refl refl g.used g.all e) in
    rw (g.shows, g.place) (subst (λ (w : List Slot). Until do_slot_store (P 1) (P 0) (close w (length a)) (w ++ r)) (sym g.shape) one)

-- While the hidden slot of a node is closed it shows what it showed; the slot is hidden until the last store, and then none is.
pub close-slots : (left : ℕ) (all : List Slot) → length (hidden_slots left (in_use all)) ≡ 1
    → Until do_slot_store (Shows left (shown left (in_use all)) 1) (Shows left (shown left (in_use all)) 0)
    (close (in_use all) (hidden_place left (in_use all))) all
close-slots left all h =
    let u = parts all in
    let us = in_use all in
    let P : ℕ → List Slot → Type 0 = Shows left (shown left us) in
    subst (λ (w : List Slot). Until do_slot_store (P 1) (P 0) (close us (hidden_place left us)) w) (sym u.shape)
    (close-used left us u.behind (one-hidden left us u.used h) u.stops)

-- ---- shift out

shift-out-between : (left : ℕ) (a b r : List Slot) (g : Slot) (n : ℕ) → length a ≡ n → (left ≡ 0 → ⊥) → AllShown left (a ++ g ∷ b)
    → AllShown left (a ++ b) → Stops r
    → AtFirst do_slot_store (Shows left (a ++ g ∷ b) 0) (Shows left (a ++ b) 1) (Shows left (a ++ b) 0)
    (pointer_to n (last_pointer left a) ∷ close (a ++ g ∷ b) n) ((a ++ g ∷ b) ++ r)
shift-out-between left a b r g n l z old new e =
    let q : set_pointer ((a ++ g ∷ b) ++ r) n (last_pointer left a) ≡ a ++ slot g.key (last_pointer left a) ∷ (b ++ r) =
    rw (append_assoc a (g ∷ b) r) (set-pointer-at a g (b ++ r) n _ l) in
    let u = last-used left a z (all-used left a (all-split left a b new).0) in
    (shows-all left (a ++ g ∷ b) r old e, rw (q, close-at a b g n l) (close-between left a b r g.key n _ l refl u new e))

-- Before the first store of a shift out the node shows slot p, and after it no more; that one slot is hidden until the last store.
pub shift-out-slots :
    (left : ℕ) (ss all : List Slot) (p : ℕ) → (left ≡ 0 → ⊥) → Shows left ss 0 all → p < length ss → AllShown left (take_out p ss)
    → AtFirst do_slot_store (Shows left ss 0) (Shows left (take_out p ss) 1) (Shows left (take_out p ss) 0) (shift_out left ss p) all
unfolding shift_out
shift-out-slots left ss all p z s h new =
    let u = shape-of left ss all s in
    let a = take p ss in
    let b = drop (suc p) ss in
    let g = get_or ss p (slot 0 0) in
    let e : ss ≡ a ++ g ∷ b = split_at ss p (slot 0 0) h in
    rw u.shape (subst (λ (y : List Slot). AtFirst do_slot_store (Shows left y 0) (Shows left (a ++ b) 1) (Shows left (a ++ b) 0)
    (pointer_to p (last_pointer left a) ∷ close y p) (y ++ u.behind))
    (sym e) (shift-out-between left a b u.behind g p (length-take-le p ss (omega arith)) z
    (subst (AllShown left) e u.shown-all) new u.stops))

-- ---- cut

-- Storing 0 in the pointer of slot p leaves the slots before it.
pub cut-slots : (left : ℕ) (ss all : List Slot) (p : ℕ) → Shows left ss 0 all → p < length ss
    → Shows left (take p ss) 0 (set_pointer all p 0)
cut-slots left ss all p s h =
    let u = shape-of left ss all s in
    let a = take p ss in
    let g = get_or ss p (slot 0 0) in
    let r = drop (suc p) ss ++ u.behind in
    let e : ss ≡ a ++ g ∷ drop (suc p) ss = split_at ss p (slot 0 0) h in
    let f : all ≡ a ++ g ∷ r = u.shape ∙ ap (λ (y : List Slot). y ++ u.behind) e ∙ append_assoc a _ u.behind in
    let q : set_pointer all p 0 ≡ a ++ slot g.key 0 ∷ r =
    ap (λ (y : List Slot). set_pointer y p 0) f ∙ set-pointer-at a g r p 0 (length-take-le p ss (omega arith)) in
    rw q (shows-all left a _ (all-split left a _ (subst (AllShown left) e u.shown-all)).0 refl)

-- ---- another pointer

-- Storing y in the pointer of slot p, where the slots with it are all shown, shows them.
pub other-slots : (left : ℕ) (ss all : List Slot) (p y : ℕ) → Shows left ss 0 all → p < length ss → AllShown left (set_pointer ss p y)
    → Shows left (set_pointer ss p y) 0 (set_pointer all p y)
other-slots left ss all p y s h new =
    let u = shape-of left ss all s in
    rw (u.shape, set-pointer-front ss u.behind p y h) (shows-all left (set_pointer ss p y) u.behind new u.stops)
