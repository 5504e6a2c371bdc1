-- The recordings of the maps as cells hold them: one more, one less, and how many there are.
use Rattle.std.proofs.Common.{◌≡◌, ℕ, ◌<◌, Bool, true, false, cond, not, ◌&&◌, ◌||◌, eqb, ltb, ◌⊎◌, List, [], ◌∷◌, ◌++◌, map, sym, refl, ap}
use Rattle.std.proofs.Common.{◌∙◌, inl, inr, eq-eqb, eqb-true}
use mathlib.Core.Bool.{or_assoc, or-false, or_comm, and-false}
use mathlib.Core.Option
use mathlib.Core.Option.{Option, some}
use Rattle.model.specs.Slots.{Slot, slot, RECORDINGS, recording_of, class_of, recording}
use Rattle.model.specs.Reached.{Maps}
use Rattle.model.specs.SoundTest.{elem}
use Rattle.model.specs.Refusals.{has_key, has_recording}
use Rattle.model.specs.Ledger.{enter, leave, reclass, on_map, pairs_of}
use Rattle.model.specs.Summary.{cell_of, cells_of, recordings_of}
use Rattle.list_laws.proofs.Tools.{or-swap, same-test, and-iff, or-false-iff}
use Rattle.list_laws.proofs.Members.{elem-join}
use Rattle.list_laws.proofs.Recordings.{recording-of, class-of, recording-below}
use Rattle.list_laws.proofs.OrdinaryMap.{reclass-recordings}

-- ---- one map

-- the cells of two recordings are one, if these and their collections are
cell-same : (m n r q : ℕ) → r < RECORDINGS → q < RECORDINGS → eqb (cell_of m r) (cell_of n q) ≡ (eqb m n && eqb q r)
cell-same m n r q a b = same-test _ _ (
  λ e. let h = eqb-true (cell_of m r) (cell_of n q) e in
      (and-iff (eqb m n) (eqb q r)).1 (
        eq-eqb m n (sym (class-of r m a) ∙ ap class_of h ∙ class-of q n b),
        eq-eqb q r (sym (recording-of q n b) ∙ ap recording_of (sym h) ∙ recording-of r m a),
      ),
  λ e. let u = (and-iff (eqb m n) (eqb q r)).0 e in eq-eqb (cell_of m r) (cell_of n q)
      (ap (λ (x : ℕ). cell_of x r) (eqb-true m n u.0) ∙ ap (cell_of n) (sym (eqb-true q r u.1))),
)

pub cells-elem : (m n r : ℕ) (ps : List Slot) → r < RECORDINGS → elem (cell_of m r) (cells_of n ps) ≡ (eqb m n && has_recording r ps)
unfolding elem has_recording
cells-elem m n r [] h = sym (and-false (eqb m n))
cells-elem m n r (s ∷ ps) h =
    ap (λ (b : Bool). b || elem (cell_of m r) (cells_of n ps)) (cell-same m n r (recording s) h (recording-below s.pointer))
    ∙ ap (λ (b : Bool). (eqb m n && eqb (recording s) r) || b) (cells-elem m n r ps h)
    ∙ both (eqb m n) (eqb (recording s) r) (has_recording r ps)
  where
    both : (a b c : Bool) → ((a && b) || (a && c)) ≡ (a && (b || c))
    both true b c = refl
    both false b c = refl

-- a pair more
pub enter-cells : (y n k x : ℕ) (ps : List Slot) → elem y (cells_of n (enter k x ps))
    ≡ (eqb y (cell_of n (recording_of x)) || elem y (cells_of n ps))
unfolding elem enter
enter-cells y n k x [] = refl
enter-cells y n k x (s ∷ ps) = go (ltb k s.key) (enter-cells y n k x ps)
  where
    go : (b : Bool) → elem y (cells_of n (enter k x ps)) ≡ (eqb y (cell_of n (recording_of x)) || elem y (cells_of n ps))
        → elem y (cells_of n (cond b (slot k x ∷ s ∷ ps) (s ∷ enter k x ps)))
        ≡ (eqb y (cell_of n (recording_of x)) || (eqb y (cell_of n (recording s)) || elem y (cells_of n ps)))
    go true ih = refl
    go false ih = ap (λ (b : Bool). eqb y (cell_of n (recording s)) || b) ih
        ∙ or-swap (eqb y (cell_of n (recording s))) (eqb y (cell_of n (recording_of x))) (elem y (cells_of n ps))

-- where k is not, nothing leaves
leave-none : (k : ℕ) (ps : List Slot) → has_key k ps ≡ false → leave k ps ≡ ps
unfolding leave has_key
leave-none k [] h = refl
leave-none k (s ∷ ps) h = let u =
    (or-false-iff (eqb s.key k) (has_key k ps)).0 h in rw u.0 (ap (λ (l : List Slot). s ∷ l) (leave-none k ps u.1))

-- the pair of k less: k stands once, with recording r, and no other pair has r
pub record KeyOnce (k r : ℕ) (ps : List Slot) : Type 0 where
  pub before : List Slot
  pub it : Slot
  pub after : List Slot
  pub shape : ps ≡ before ++ it ∷ after
  pub key : it.key ≡ k
  pub has : recording it ≡ r
  pub no-key : (has_key k before ≡ false) × (has_key k after ≡ false)
  pub no-other : (has_recording r before ≡ false) × (has_recording r after ≡ false)

leave-append : (k : ℕ) (a : List Slot) (s : Slot) (b : List Slot) → has_key k a ≡ false → s.key ≡ k → leave k (a ++ s ∷ b) ≡ a ++ leave k b
unfolding leave has_key
leave-append k [] s b h e = rw (eq-eqb s.key k e)
leave-append k (x ∷ a) s b h e = let u =
    (or-false-iff (eqb x.key k) (has_key k a)).0 h in rw u.0 (ap (λ (l : List Slot). x ∷ l) (leave-append k a s b u.1 e))

cells-append : (n : ℕ) (a b : List Slot) → cells_of n (a ++ b) ≡ cells_of n a ++ cells_of n b
cells-append n [] b = refl
cells-append n (s ∷ a) b = ap (λ (l : List ℕ). cell_of n (recording s) ∷ l) (cells-append n a b)

pub leave-cells : (y n k r : ℕ) (ps : List Slot) → r < RECORDINGS → KeyOnce k r ps → elem y (cells_of n (leave k ps))
    ≡ (not (eqb y (cell_of n r)) && elem y (cells_of n ps))
unfolding elem
leave-cells y n k r ps l o =
    let a = o.before in
    let b = o.after in
    let A = elem y (cells_of n a) in
    let B = elem y (cells_of n b) in
    let left : elem y (cells_of n (leave k ps)) ≡ (A || B) =
    ap (λ (q : List Slot). elem y (cells_of n (leave k q))) o.shape
    ∙ ap (λ (q : List Slot). elem y (cells_of n q))
    (leave-append k a o.it b o.no-key.0 o.key ∙ ap (λ (q : List Slot). a ++ q) (leave-none k b o.no-key.1))
    ∙ ap (elem y) (cells-append n a b) ∙ elem-join y (cells_of n a) (cells_of n b) in
    let all : elem y (cells_of n ps) ≡ (A || (eqb y (cell_of n r) || B)) =
    ap (λ (q : List Slot). elem y (cells_of n q)) o.shape ∙ ap (elem y) (cells-append n a (o.it ∷ b))
    ∙ elem-join y (cells_of n a) (cells_of n (o.it ∷ b)) ∙ ap (λ (q : ℕ). A || (eqb y (cell_of n q) || B)) o.has in
    left ∙ sym (ap (λ (c : Bool). not (eqb y (cell_of n r)) && c) all ∙ go (eqb y (cell_of n r)) refl)
  where
    off : (qs : List Slot) → has_recording r qs ≡ false → eqb y (cell_of n r) ≡ true → elem y (cells_of n qs) ≡ false
    off qs h e = ap (λ (z : ℕ). elem z (cells_of n qs)) (eqb-true y (cell_of n r) e) ∙ cells-elem n n r qs l
        ∙ ap (λ (c : Bool). eqb n n && c) h ∙ and-false (eqb n n)

    go : (c : Bool) → eqb y (cell_of n r) ≡ c
        → (not (eqb y (cell_of n r)) && (elem y (cells_of n o.before) || (eqb y (cell_of n r) || elem y (cells_of n o.after))))
        ≡ (elem y (cells_of n o.before) || elem y (cells_of n o.after))
    go true e = rw e (sym (ap (λ (b : Bool). b || elem y (cells_of n o.after)) (off o.before o.no-other.0 e) ∙ off o.after o.no-other.1 e))
    go false e = rw e

-- another class leaves the recordings
map-twice : (n : ℕ) (ps : List Slot) → cells_of n ps ≡ map (cell_of n) (map recording ps)
map-twice n [] = refl
map-twice n (s ∷ ps) = ap (λ (l : List ℕ). cell_of n (recording s) ∷ l) (map-twice n ps)

pub reclass-cells : (n k c : ℕ) (ps : List Slot) → cells_of n (reclass k c ps) ≡ cells_of n ps
reclass-cells n k c ps = map-twice n (reclass k c ps) ∙ ap (map (cell_of n)) (reclass-recordings k c ps) ∙ sym (map-twice n ps)

-- ---- both maps

-- the map of a collection that there is
abbrev pub Has : (n : ℕ) → List Slot → Maps → Type 0
Has n ps m = ((n ≡ 1) × (m.one ≡ ps)) ⊎ ((n ≡ 2) × (m.two ≡ some ps))

pub recordings-elem :
    (n r : ℕ) (ps : List Slot) (m : Maps) → r < RECORDINGS → Has n ps m → elem (cell_of n r) (recordings_of m) ≡ has_recording r ps
unfolding recordings_of
recordings-elem n r ps m l (inl h) =
    elem-join _ (cells_of 1 m.one) (cells_of 2 (pairs_of m.two))
    ∙ ap (λ (q : ℕ). elem (cell_of q r) (cells_of 1 m.one) || elem (cell_of q r) (cells_of 2 (pairs_of m.two))) h.0
    ∙ ap (λ (b : Bool). b || elem (cell_of 1 r) (cells_of 2 (pairs_of m.two))) (cells-elem 1 1 r m.one l ∙ ap (has_recording r) h.1)
    ∙ ap (λ (b : Bool). has_recording r ps || b) (cells-elem 1 2 r (pairs_of m.two) l) ∙ or-false (has_recording r ps)
recordings-elem n r ps m l (inr h) =
    elem-join _ (cells_of 1 m.one) (cells_of 2 (pairs_of m.two))
    ∙ ap (λ (q : ℕ). elem (cell_of q r) (cells_of 1 m.one) || elem (cell_of q r) (cells_of 2 (pairs_of m.two))) h.0
    ∙ ap (λ (b : Bool). b || elem (cell_of 2 r) (cells_of 2 (pairs_of m.two))) (cells-elem 2 1 r m.one l)
    ∙ ap (λ (q : Option (List Slot)). elem (cell_of 2 r) (cells_of 2 (pairs_of q))) h.1 ∙ cells-elem 2 2 r ps l

-- a change of one map is a change of its cells
module _ (n : ℕ) (ps : List Slot) (m : Maps) (h : Has n ps m) (f : List Slot → List Slot) (y : ℕ) where
  -- the cells of the other map
  other : Bool
  other = cond (eqb n 1) (elem y (cells_of 2 (pairs_of m.two))) (elem y (cells_of 1 m.one))

  split-cells : (elem y (recordings_of m) ≡ (elem y (cells_of n ps) || other))
      × (elem y (recordings_of (on_map n f m)) ≡ (elem y (cells_of n (f ps)) || other))
  unfolding recordings_of on_map other
  split-cells = go h
    where
      go : Has n ps m → (elem y (recordings_of m) ≡ (elem y (cells_of n ps) || other))
          × (elem y (recordings_of (on_map n f m)) ≡ (elem y (cells_of n (f ps)) || other))
      go (inl q) = (
        elem-join y (cells_of 1 m.one) (cells_of 2 (pairs_of m.two)) ∙ rw (q.0, q.1),
        elem-join y (cells_of 1 (cond (eqb n 1) (f m.one) m.one))
            (cells_of 2 (pairs_of (cond (eqb n 1) m.two (Option.map f m.two)))) ∙ rw (q.0, q.1),
      )
      go (inr q) = (
        elem-join y (cells_of 1 m.one) (cells_of 2 (pairs_of m.two))
            ∙ or_comm (elem y (cells_of 1 m.one)) (elem y (cells_of 2 (pairs_of m.two))) ∙ rw (q.0, q.1),
        elem-join y (cells_of 1 (cond (eqb n 1) (f m.one) m.one)) (cells_of 2 (pairs_of (cond (eqb n 1) m.two (Option.map f m.two))))
            ∙ or_comm (elem y (cells_of 1 (cond (eqb n 1) (f m.one) m.one)))
            (elem y (cells_of 2 (pairs_of (cond (eqb n 1) m.two (Option.map f m.two))))) ∙ rw (q.0, q.1),
      )

  -- the other map has no cell of this collection
  other-off : (r : ℕ) → r < RECORDINGS → y ≡ cell_of n r → other ≡ false
  unfolding other
  other-off r l e = go h
    where
      go : Has n ps m → cond (eqb n 1) (elem y (cells_of 2 (pairs_of m.two))) (elem y (cells_of 1 m.one)) ≡ false
      go (inl q) = rw (e, q.0) (cells-elem 1 2 r (pairs_of m.two) l)
      go (inr q) = rw (e, q.0) (cells-elem 2 1 r m.one l)

pub recordings-more :
    (n k x : ℕ) (ps : List Slot) (m : Maps) → Has n ps m → (y : ℕ) → elem y (recordings_of (on_map n (enter k x) m))
    ≡ (eqb y (cell_of n (recording_of x)) || elem y (recordings_of m))
recordings-more n k x ps m h y =
    let u = split-cells n ps m h (enter k x) y in
    let o = other n ps m h (enter k x) y in
    u.1 ∙ ap (λ (b : Bool). b || o) (enter-cells y n k x ps) ∙ or_assoc (eqb y (cell_of n (recording_of x))) (elem y (cells_of n ps)) o
    ∙ ap (λ (b : Bool). eqb y (cell_of n (recording_of x)) || b) (sym u.0)

pub recordings-less :
    (n k r : ℕ) (ps : List Slot) (m : Maps) → Has n ps m → r < RECORDINGS → KeyOnce k r ps → (y : ℕ)
    → elem y (recordings_of (on_map n (leave k) m)) ≡ (not (eqb y (cell_of n r)) && elem y (recordings_of m))
recordings-less n k r ps m h l o y =
    let u = split-cells n ps m h (leave k) y in
    let q = other n ps m h (leave k) y in
    u.1 ∙ ap (λ (b : Bool). b || q) (leave-cells y n k r ps l o) ∙ go (eqb y (cell_of n r)) refl
    ∙ ap (λ (b : Bool). not (eqb y (cell_of n r)) && b) (sym u.0)
  where
    go : (b : Bool) → eqb y (cell_of n r) ≡ b
        → ((not (eqb y (cell_of n r)) && elem y (cells_of n ps)) || other n ps m h (leave k) y)
        ≡ (not (eqb y (cell_of n r)) && (elem y (cells_of n ps) || other n ps m h (leave k) y))
    go true e = rw e (other-off n ps m h (leave k) y r l (eqb-true y (cell_of n r) e))
    go false e = rw e

pub recordings-class : (n k c : ℕ) (ps : List Slot) (m : Maps) → Has n ps m → (y : ℕ) → elem y (recordings_of (on_map n (reclass k c) m))
    ≡ elem y (recordings_of m)
recordings-class n k c ps m h y =
    let u = split-cells n ps m h (reclass k c) y in
    u.1 ∙ ap (λ (l : List ℕ). elem y l || other n ps m h (reclass k c) y) (reclass-cells n k c ps) ∙ sym u.0
