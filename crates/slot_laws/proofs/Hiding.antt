-- Slots in use, shown and hidden, over lists of any length: a slot whose pointer repeats the one before it changes nothing that is shown.
use Rattle.std.proofs.Common.{◌≡◌, ℕ, zero, suc, ◌+◌, ◌≤◌, Bool, true, false, eqb, List, [], ◌∷◌, ◌++◌, length, get_or, sym, refl, ap}
use Rattle.std.proofs.Common.{subst, append-nil, arith, length-append, eq-eqb, ne_eqb, eqb-true}
use borrow.Author.Tests.{eqb-false, not-true}
use Rattle.model.specs.Slots.{Slot, slot, in_use, shown, hidden_slots}
use Rattle.model.specs.Shifts.{last_pointer, hidden_place}
use Rattle.model.specs.Reached.{pointers}
use Rattle.model.specs.SoundTest.{elem, distinct}
use Rattle.list_laws.proofs.Tools.{Each, and-iff, or-false-iff}
use Rattle.list_laws.proofs.Slots.{each-shown, in-use-some}

-- ---- joined lists

-- joined slots show what the first part shows, then what the second shows after the first part's last pointer
pub shown-append : (p : ℕ) (xs ys : List Slot) → shown p (xs ++ ys) ≡ shown p xs ++ shown (last_pointer p xs) ys
unfolding shown last_pointer
shown-append p [] ys = refl
shown-append p (s ∷ xs) ys = go (eqb s.pointer p) refl (shown-append s.pointer xs ys)
  where
    go : (b : Bool) → eqb s.pointer p ≡ b → shown s.pointer (xs ++ ys) ≡ shown s.pointer xs ++ shown (last_pointer s.pointer xs) ys
        → shown p (s ∷ xs ++ ys) ≡ shown p (s ∷ xs) ++ shown (last_pointer p (s ∷ xs)) ys
    go true e ih = rw (e, shown) ih
    go false e ih = rw (e, shown) (ap (λ (l : List Slot). s ∷ l) ih)

pub hidden-append : (p : ℕ) (xs ys : List Slot) → hidden_slots p (xs ++ ys) ≡ hidden_slots p xs ++ hidden_slots (last_pointer p xs) ys
unfolding hidden_slots last_pointer
hidden-append p [] ys = refl
hidden-append p (s ∷ xs) ys = go (eqb s.pointer p) refl (hidden-append s.pointer xs ys)
  where
    go : (b : Bool) → eqb s.pointer p ≡ b
        → hidden_slots s.pointer (xs ++ ys) ≡ hidden_slots s.pointer xs ++ hidden_slots (last_pointer s.pointer xs) ys
        → hidden_slots p (s ∷ xs ++ ys) ≡ hidden_slots p (s ∷ xs) ++ hidden_slots (last_pointer p (s ∷ xs)) ys
    go true e ih = rw (e, hidden_slots) (ap (λ (l : List Slot). s ∷ l) ih)
    go false e ih = rw (e, hidden_slots) ih

-- the last pointer of joined slots is that of the second part, taken after the first part's last pointer
pub last-append : (p : ℕ) (xs ys : List Slot) → last_pointer p (xs ++ ys) ≡ last_pointer (last_pointer p xs) ys
unfolding last_pointer
last-append p [] ys = refl
last-append p (s ∷ xs) ys = last-append s.pointer xs ys

-- ---- the law of hiding: a slot whose pointer repeats the one before it, wherever it stands

shown-repeat : (q c : ℕ) (ys : List Slot) → shown q (slot c q ∷ ys) ≡ shown q ys
unfolding shown
shown-repeat q c ys = rw (eq-eqb q q refl, shown)

hidden-repeat : (q c : ℕ) (ys : List Slot) → hidden_slots q (slot c q ∷ ys) ≡ slot c q ∷ hidden_slots q ys
unfolding hidden_slots
hidden-repeat q c ys = rw (eq-eqb q q refl, hidden_slots)

module _ (p c : ℕ) (xs ys : List Slot) where
  pub hide-shown : shown p (xs ++ slot c (last_pointer p xs) ∷ ys) ≡ shown p (xs ++ ys)
  hide-shown = rw (shown-append p xs (slot c (last_pointer p xs) ∷ ys), shown-append p xs ys, shown-repeat)

  pub hide-hidden : length (hidden_slots p (xs ++ slot c (last_pointer p xs) ∷ ys)) ≡ suc (length (hidden_slots p (xs ++ ys)))
  hide-hidden = rw (hidden-append p xs (slot c (last_pointer p xs) ∷ ys), hidden-append p xs ys, hidden-repeat)
      (simp length-append (omega arith))

-- ---- slots in use

-- a slot in use: its pointer is not 0
abbrev pub Used : Slot → Type 0
Used s = s.pointer ≡ 0 → ⊥

-- the slots in use end here
abbrev pub Stops : List Slot → Type 0
Stops [] = Unit {0}
Stops (s ∷ ss) = s.pointer ≡ 0

pub in-use-append : (xs ys : List Slot) → Each Used xs → in_use (xs ++ ys) ≡ xs ++ in_use ys
unfolding in_use
in-use-append [] ys u = refl
in-use-append (s ∷ xs) ys u = rw (ne_eqb s.pointer 0 u.0, in_use) (ap (λ (l : List Slot). s ∷ l) (in-use-append xs ys u.1))

in-use-stops : (r : List Slot) → Stops r → in_use r ≡ []
unfolding in_use
in-use-stops [] e = refl
in-use-stops (s ∷ r) e = rw (eq-eqb s.pointer 0 e, in_use)

pub in-use : (us r : List Slot) → Each Used us → Stops r → in_use (us ++ r) ≡ us
in-use us r u e = rw (in-use-append us r u, in-use-stops r e) (append-nil us)

-- the slots of a node are those in use and what is behind them
pub record Parts (all : List Slot) : Type 0 where
  pub behind : List Slot
  pub shape : all ≡ in_use all ++ behind
  pub used : Each Used (in_use all)
  pub stops : Stops behind

-- slots are those in use, then either none or one with pointer 0 and any others
pub parts : (all : List Slot) → Parts all
unfolding in_use
parts [] = record { behind = []; shape = refl; used = tt; stops = tt }
parts (s ∷ ss) = go (eqb s.pointer 0) refl (parts ss)
  where
    go : (b : Bool) → eqb s.pointer 0 ≡ b → Parts ss → Parts (s ∷ ss)
    go true e ih = let n : in_use (s ∷ ss) ≡ [] =
        rw (e, in_use) in record { behind = s ∷ ss; shape = rw n; used = in-use-some (s ∷ ss); stops = eqb-true s.pointer 0 e }
    go false e ih = let n : in_use (s ∷ ss) ≡ s ∷ in_use ss =
        rw (e, in_use) in record
        { behind = ih.behind; shape = rw n (ap (λ (l : List Slot). s ∷ l) ih.shape); used = in-use-some (s ∷ ss); stops = ih.stops }

-- they end before a pointer that is 0
pub in-use-before : (all : List Slot) (m : ℕ) → (get_or all m (slot 0 0)).pointer ≡ 0 → length (in_use all) ≤ m
unfolding in_use
in-use-before [] m h = omega arith
in-use-before (s ∷ ss) zero h = rw (eq-eqb s.pointer 0 h, in_use) (omega arith)
in-use-before (s ∷ ss) (suc m) h = go (eqb s.pointer 0) refl (in-use-before ss m h)
  where
    go : (b : Bool) → eqb s.pointer 0 ≡ b → length (in_use ss) ≤ m → length (in_use (s ∷ ss)) ≤ suc m
    go true e ih = rw (e, in_use) (omega arith)
    go false e ih = rw (e, in_use) (omega arith)

-- each slot is shown or hidden
pub shown-and-hidden : (p : ℕ) (ss : List Slot) → length (shown p ss) + length (hidden_slots p ss) ≡ length ss
unfolding shown hidden_slots
shown-and-hidden p [] = refl
shown-and-hidden p (s ∷ ss) = go (eqb s.pointer p) refl (shown-and-hidden s.pointer ss)
  where
    go : (b : Bool) → eqb s.pointer p ≡ b → length (shown s.pointer ss) + length (hidden_slots s.pointer ss) ≡ length ss
        → length (shown p (s ∷ ss)) + length (hidden_slots p (s ∷ ss)) ≡ length (s ∷ ss)
    go true e ih = rw (e, shown, hidden_slots) (omega arith)
    go false e ih = rw (e, shown, hidden_slots) (omega arith)

-- ---- slots all of which are shown after the pointer p: in use, and none repeats the pointer before it

-- all slots are in use and shown: no pointer is 0, and none equals the one before it
abbrev pub AllShown : ℕ → List Slot → Type 0
AllShown p [] = Unit {0}
AllShown p (s ∷ ss) = Used s × (s.pointer ≡ p → ⊥) × AllShown s.pointer ss

-- slots that are all shown are all in use
pub all-used : (p : ℕ) (ss : List Slot) → AllShown p ss → Each Used ss
all-used p [] h = tt
all-used p (s ∷ ss) h = (h.0, all-used s.pointer ss h.2)

-- if joined slots are all shown, so is each part, the second after the last pointer of the first
pub all-split : (p : ℕ) (xs ys : List Slot) → AllShown p (xs ++ ys) → AllShown p xs × AllShown (last_pointer p xs) ys
unfolding last_pointer
all-split p [] ys h = (tt, h)
all-split p (s ∷ xs) ys h = let u = all-split s.pointer xs ys h.2 in ((h.0, h.1, u.0), u.1)

pub all-shown : (p : ℕ) (ss : List Slot) → AllShown p ss → shown p ss ≡ ss
unfolding shown
all-shown p [] h = refl
all-shown p (s ∷ ss) h = rw (ne_eqb s.pointer p h.1, shown) (ap (λ (l : List Slot). s ∷ l) (all-shown s.pointer ss h.2))

pub none-hidden : (p : ℕ) (ss : List Slot) → AllShown p ss → hidden_slots p ss ≡ []
unfolding hidden_slots
none-hidden p [] h = refl
none-hidden p (s ∷ ss) h = rw (ne_eqb s.pointer p h.1, hidden_slots) (none-hidden s.pointer ss h.2)

-- slots in use none of which is hidden are all shown
pub not-hidden : (p : ℕ) (ss : List Slot) → Each Used ss → length (hidden_slots p ss) ≡ 0 → AllShown p ss
unfolding hidden_slots
not-hidden p [] u h = tt
not-hidden p (s ∷ ss) u h = go (eqb s.pointer p) refl (not-hidden s.pointer ss u.1)
  where
    go : (b : Bool) → eqb s.pointer p ≡ b → (length (hidden_slots s.pointer ss) ≡ 0 → AllShown s.pointer ss) → AllShown p (s ∷ ss)
    go true e ih = let z : suc (length (hidden_slots s.pointer ss)) ≡ 0 = rw (e, hidden_slots) at h in absurd (omega arith)
    go false e ih = (u.0, eqb-false s.pointer p e, ih (rw (e, hidden_slots) at h))

pub last-used : (p : ℕ) (ss : List Slot) → (p ≡ 0 → ⊥) → Each Used ss → last_pointer p ss ≡ 0 → ⊥
unfolding last_pointer
last-used p [] z u = z
last-used p (s ∷ ss) z u = last-used s.pointer ss u.0 u.1

-- a slot more, with a pointer that no slot beside it has
pub all-insert : (p k x : ℕ) (xs ys : List Slot) → AllShown p (xs ++ ys) → (x ≡ 0 → ⊥) → (x ≡ p → ⊥)
    → Each (λ (s : Slot). x ≡ s.pointer → ⊥) (xs ++ ys) → AllShown p (xs ++ slot k x ∷ ys)
all-insert p k x [] [] h z q e = (z, q, tt)
all-insert p k x [] (s ∷ ys) h z q e = (z, q, (h.0, (λ y. e.0 (sym y)), h.2))
all-insert p k x (s ∷ xs) ys h z q e = (h.0, h.1, all-insert s.pointer k x xs ys h.2 z e.0 e.1)

-- pointers that differ from p and from each other
pub distinct-shown : (p : ℕ) (ss : List Slot) → Each Used ss → distinct (p ∷ pointers ss) ≡ true → AllShown p ss
unfolding distinct elem
distinct-shown p [] u d = tt
distinct-shown p (s ∷ ss) u d =
    let e = (and-iff _ _).0 d in
    let n = (or-false-iff (eqb p s.pointer) _).0 (not-true _ e.0) in
    (u.0, (λ q. eqb-false p s.pointer n.0 (sym q)), distinct-shown s.pointer ss u.1 e.1)

-- of slots in use, those shown are in use
pub shown-used : (p : ℕ) (ss : List Slot) → Each Used ss → Each Used (shown p ss)
shown-used = each-shown Used

-- ---- what the slots of a node show and hide, after the pointer p

pub record Shows (p : ℕ) (ss : List Slot) (h : ℕ) (all : List Slot) : Type 0 where
  pub shows : shown p (in_use all) ≡ ss
  pub hides : length (hidden_slots p (in_use all)) ≡ h

-- it shows ss and hides one slot at most
abbrev pub MayHide : ℕ → List Slot → List Slot → Type 0
MayHide p ss all = (h : ℕ) × (h ≤ 1) × Shows p ss h all

-- slots that are all shown, with no slot in use after them, show just themselves and hide none
pub shows-all : (p : ℕ) (ss r : List Slot) → AllShown p ss → Stops r → Shows p ss 0 (ss ++ r)
shows-all p ss r h e =
    let u : in_use (ss ++ r) ≡ ss = in-use ss r (all-used p ss h) e in
    record { shows = rw u (all-shown p ss h); hides = rw (u, none-hidden p ss h) }

module _ (p c : ℕ) (xs ys r : List Slot) (h : AllShown p (xs ++ ys)) (z : last_pointer p xs ≡ 0 → ⊥) (e : Stops r) where
  gap-used : in_use (xs ++ slot c (last_pointer p xs) ∷ (ys ++ r)) ≡ xs ++ slot c (last_pointer p xs) ∷ ys
  unfolding in_use
  gap-used =
      let u = all-split p xs ys h in
      rw (in-use-append xs (slot c (last_pointer p xs) ∷ (ys ++ r)) (all-used p xs u.0), ne_eqb (last_pointer p xs) 0 z, in_use)
      (rw (in-use ys r (all-used (last_pointer p xs) ys u.1) e))

  shows-between : Shows p (xs ++ ys) 1 (xs ++ slot c (last_pointer p xs) ∷ (ys ++ r))
  shows-between = record {
    shows = rw (gap-used, hide-shown p c xs ys) (all-shown p (xs ++ ys) h);
    hides = rw (gap-used, hide-hidden p c xs ys, none-hidden p (xs ++ ys) h);
  }

-- with one slot more, between xs and ys, whose pointer repeats the one before
pub shows-gap : (p : ℕ) (ss r : List Slot) → AllShown p ss → Stops r → (xs ys : List Slot) (c : ℕ) → xs ++ ys ≡ ss
    → (last_pointer p xs ≡ 0 → ⊥) → Shows p ss 1 (xs ++ slot c (last_pointer p xs) ∷ (ys ++ r))
shows-gap p ss r h e xs ys c q z =
    subst (λ (w : List Slot). Shows p w 1 (xs ++ slot c (last_pointer p xs) ∷ (ys ++ r))) q (shows-between p c xs ys r (rw q h) z e)

-- ---- the one hidden slot

-- slots in use of which one is hidden, at its place
pub record OneHidden (p : ℕ) (us : List Slot) : Type 0 where
  pub key : ℕ
  pub before : List Slot
  pub after : List Slot
  pub shape : us ≡ before ++ slot key (last_pointer p before) ∷ after
  pub place : hidden_place p us ≡ length before
  pub used : last_pointer p before ≡ 0 → ⊥
  pub shows : shown p us ≡ before ++ after
  pub all : AllShown p (before ++ after)

module _ (p : ℕ) (s : Slot) (us : List Slot) (u : Each Used (s ∷ us)) where
  hidden-here : s.pointer ≡ p → AllShown s.pointer us → OneHidden p (s ∷ us)
  unfolding shown hidden_place last_pointer
  hidden-here q a =
      let e = eq-eqb s.pointer p q in
      record {
        key = s.key;
        before = [];
        after = us;
        shape = ap (λ (x : ℕ). slot s.key x ∷ us) q;
        place = rw (e, hidden_place);
        used = rw q at u.0;
        shows = rw (e, shown) (all-shown s.pointer us a);
        all = rw q at a;
      }

  hidden-later : (s.pointer ≡ p → ⊥) → OneHidden s.pointer us → OneHidden p (s ∷ us)
  unfolding shown hidden_place last_pointer
  hidden-later q g =
      let e = ne_eqb s.pointer p q in
      record {
        key = g.key;
        before = s ∷ g.before;
        after = g.after;
        shape = ap (λ (l : List Slot). s ∷ l) g.shape;
        place = rw (e, hidden_place) (ap suc g.place);
        used = g.used;
        shows = rw (e, shown) (ap (λ (l : List Slot). s ∷ l) g.shows);
        all = (u.0, q, g.all);
      }

pub one-hidden : (p : ℕ) (us : List Slot) → Each Used us → length (hidden_slots p us) ≡ 1 → OneHidden p us
unfolding hidden_slots
one-hidden p [] u h = absurd (omega arith)
one-hidden p (s ∷ us) u h = go (eqb s.pointer p) refl (one-hidden s.pointer us u.1)
  where
    go : (b : Bool) → eqb s.pointer p ≡ b → (length (hidden_slots s.pointer us) ≡ 1 → OneHidden s.pointer us) → OneHidden p (s ∷ us)
    go true e ih =
        let n : suc (length (hidden_slots s.pointer us)) ≡ 1 = rw (e, hidden_slots) at h in
        hidden-here p s us u (eqb-true s.pointer p e) (not-hidden s.pointer us u.1 (omega arith))
    go false e ih = hidden-later p s us u (eqb-false s.pointer p e) (ih (rw (e, hidden_slots) at h))
