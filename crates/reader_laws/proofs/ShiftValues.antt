-- The values that a shift in and a shift out give the words of a table: one at most to each word, but for the pointer of the slot itself,
-- which
-- gets the pointer before it first. Where nothing is hidden and a new pointer is new, all of them are steady.
use Rattle.std.proofs.Common.{◌≡◌, ℕ, zero, suc, pred, ◌+◌, ◌-◌, ◌*◌, ◌<◌, ◌≤◌, ◌≢◌, ◌⊎◌, List, [], ◌∷◌, ◌++◌, map, length, get_or, take}
use Rattle.std.proofs.Common.{drop, sym, refl, ap, ◌∙◌, subst, inl, inr, arith, length-drop, get_or-append-add, take-add}
use mathlib.Core.List.{map-append}
use lib.ListN.{get_or-append}
use lib.Seq.{split_at}
use Rattle.model.specs.Table.{Words, at, node_start, node}
use Rattle.model.specs.Slots.{Slot, slot, slots_of, used, node_view}
use Rattle.model.specs.Orders.{Store, put}
use Rattle.model.specs.Shifts.{SlotStore, key_to, pointer_to, key_word, pointer_word, in_node, last_pointer, move_up, move_down, shift_in}
use Rattle.model.specs.Shifts.{shift_out, close, place_of}
use Rattle.model.specs.Writes.{shift_in_at, shift_out_at}
use Rattle.list_laws.proofs.Tools.{Each, Each-append, Each-map, same-or-not, compared}
use Rattle.list_laws.proofs.Members.{each-at}
use Rattle.list_laws.proofs.Slots.{place-length}
use Rattle.table_laws.proofs.Words.{at-part}
use Rattle.slot_laws.proofs.Hiding.{AllShown, Stops, last-append, all-split}
use Rattle.slot_laws.proofs.Shifts.{Shape, shape-of}
use Rattle.slot_laws.proofs.SlotStores.{pointer_at}
use Rattle.word_laws.proofs.SlotWords.{at-pointer}
use Rattle.word_laws.proofs.SlotRuns.{node-slots}
use Rattle.two_laws.proofs.PartsTwo.{Plain}
use Rattle.reader_laws.proofs.Values.{values_to, values-here, values-past, values-append, values-none, Steady, steady-one, steady-two}

-- the words that stores to slots of node n go to lie from a on, or before a
abbrev From : (a : ℕ) → List Store → Type 0
From a ss = Each (λ (s : Store). a ≤ s.word) ss

abbrev Before : (a : ℕ) → List Store → Type 0
Before a ss = Each (λ (s : Store). s.word < a) ss

from-none : (a w : ℕ) (ss : List Store) → w < a → From a ss → values_to w ss ≡ []
from-none a w ss l h = values-none w ss (Each-map (λ (s : Store). a ≤ s.word) (λ (s : Store). s.word ≢ w) ss (λ s g e. omega arith) h)

before-none : (a w : ℕ) (ss : List Store) → a ≤ w → Before a ss → values_to w ss ≡ []
before-none a w ss l h = values-none w ss (Each-map (λ (s : Store). s.word < a) (λ (s : Store). s.word ≢ w) ss (λ s g e. omega arith) h)

-- none or one
abbrev pub Few : List ℕ → Type 0
Few vs = (vs ≡ []) ⊎ ((v : ℕ) × (vs ≡ v ∷ []))

pub few-steady : (x : ℕ) (vs : List ℕ) → Few vs → Steady x vs
few-steady x vs (inl e) = rw e tt
few-steady x vs (inr (v, e)) = rw e (steady-one x v)

from-wider : (a b : ℕ) (ss : List Store) → a ≤ b → From b ss → From a ss
from-wider a b ss l h = Each-map (λ (s : Store). b ≤ s.word) (λ (s : Store). a ≤ s.word) ss (λ s g. omega arith) h

before-wider : (a b : ℕ) (ss : List Store) → a ≤ b → Before a ss → Before b ss
before-wider a b ss l h = Each-map (λ (s : Store). s.word < a) (λ (s : Store). s.word < b) ss (λ s g. omega arith) h

pub one-put : (w v u : ℕ) → u ≡ w → values_to w (put u v ∷ []) ≡ v ∷ []
unfolding values_to
one-put w v u e = values-here w (put u v) [] e

pub none-put : (w v u : ℕ) → u ≢ w → values_to w (put u v ∷ []) ≡ []
unfolding values_to
none-put w v u z = values-past w (put u v) [] z

-- of two stores one goes to w, or none
module _ (w u a v b : ℕ) (rest : List Store) where
  pair-first : u ≡ w → v ≢ w → values_to w (put u a ∷ put v b ∷ rest) ≡ a ∷ values_to w rest
  pair-first e z = values-here w (put u a) (put v b ∷ rest) e ∙ ap (λ (vs : List ℕ). a ∷ vs) (values-past w (put v b) rest z)

  pair-second : u ≢ w → v ≡ w → values_to w (put u a ∷ put v b ∷ rest) ≡ b ∷ values_to w rest
  pair-second z e = values-past w (put u a) (put v b ∷ rest) z ∙ values-here w (put v b) rest e

  pair-none : u ≢ w → v ≢ w → values_to w (put u a ∷ put v b ∷ rest) ≡ values_to w rest
  pair-none y z = values-past w (put u a) (put v b ∷ rest) y ∙ values-past w (put v b) rest z

-- one store is steady at every word
pub put-steady : (w v u x : ℕ) → Steady x (values_to w (put u v ∷ []))
put-steady w v u x = go (same-or-not u w)
  where
    go : (u ≡ w) ⊎ (u ≢ w) → Steady x (values_to w (put u v ∷ []))
    go (inl e) = rw (one-put w v u e) (steady-one x v)
    go (inr z) = rw (none-put w v u z) tt

-- the last pointer of a first part, in two parts
last-part : (left p m : ℕ) (ss : List Slot) → last_pointer (last_pointer left (take p ss)) (take m (drop p ss))
    ≡ last_pointer left (take (p + m) ss)
last-part left p m ss = sym (ap (last_pointer left) (take-add p m ss) ∙ last-append left (take p ss) (take m (drop p ss)))

module _ (n : ℕ) where
  abbrev stores : List SlotStore → List Store
  stores qs = map (in_node n) qs

  -- ---- slots that move up

  up-from : (i : ℕ) (ss : List Slot) → From (key_word n (suc i)) (stores (move_up i ss))
  unfolding move_up
  up-from i [] = tt
  up-from i (s ∷ ss) =
      rw (map-append (in_node n) (move_up (suc i) ss) (pointer_to (suc i) s.pointer ∷ key_to (suc i) s.key ∷ []))
      (Each-append _ (stores (move_up (suc i) ss)) _
      (from-wider (key_word n (suc i)) (key_word n (suc (suc i))) (stores (move_up (suc i) ss)) (omega arith) (up-from (suc i) ss))
      (omega arith, (omega arith, tt)))

  up-before : (i : ℕ) (ss : List Slot) → Before (key_word n (suc (i + length ss))) (stores (move_up i ss))
  unfolding move_up
  up-before i [] = tt
  up-before i (s ∷ ss) =
      rw (map-append (in_node n) (move_up (suc i) ss) (pointer_to (suc i) s.pointer ∷ key_to (suc i) s.key ∷ []))
      (Each-append _ (stores (move_up (suc i) ss)) _
      (before-wider (key_word n (suc (suc i + length ss))) (key_word n (suc (i + suc (length ss)))) (stores (move_up (suc i) ss))
      (omega arith) (up-before (suc i) ss)) (omega arith, (omega arith, tt)))

  -- none, or one: to a pointer, the pointer before its place, where x comes before the first
  abbrev UpValue : (i : ℕ) → List Slot → (x w : ℕ) → List ℕ → Type 0
  UpValue i ss x w vs =
      (vs ≡ []) ⊎ ((v : ℕ) × (vs ≡ v ∷ []) × ((d : ℕ) → w ≡ pointer_word n (i + suc d) → v ≡ last_pointer x (take (suc d) ss)))

  up-value : (i : ℕ) (ss : List Slot) (x w : ℕ) → UpValue i ss x w (values_to w (stores (move_up i ss)))
  unfolding move_up values_to last_pointer
  up-value i [] x w = inl refl
  up-value i (s ∷ ss) x w =
      go (up-value (suc i) ss s.pointer w) (same-or-not (pointer_word n (suc i)) w) (same-or-not (key_word n (suc i)) w)
    where
      two : List Store
      two = put (pointer_word n (suc i)) s.pointer ∷ put (key_word n (suc i)) s.key ∷ []

      joined : values_to w (stores (move_up i (s ∷ ss))) ≡ values_to w (stores (move_up (suc i) ss)) ++ values_to w two
      joined = ap (values_to w) (map-append (in_node n) (move_up (suc i) ss) (pointer_to (suc i) s.pointer ∷ key_to (suc i) s.key ∷ []))
          ∙ values-append w (stores (move_up (suc i) ss)) two

      none : w < key_word n (suc (suc i)) → values_to w (stores (move_up i (s ∷ ss))) ≡ values_to w two
      none l = joined ∙ ap (λ (l : List ℕ). l ++ values_to w two)
          (from-none (key_word n (suc (suc i))) w (stores (move_up (suc i) ss)) l (up-from (suc i) ss))

      first : pointer_word n (suc i) ≡ w → (d : ℕ) → w ≡ pointer_word n (i + suc d) → s.pointer ≡ last_pointer x (take (suc d) (s ∷ ss))
      first e zero q = refl
      first e (suc d) q = absurd (omega arith)

      further : pointer_word n (suc i) ≢ w → (v : ℕ)
          → ((d : ℕ) → w ≡ pointer_word n (suc i + suc d) → v ≡ last_pointer s.pointer (take (suc d) ss))
          → (d : ℕ) → w ≡ pointer_word n (i + suc d) → v ≡ last_pointer x (take (suc d) (s ∷ ss))
      further z v f zero q = absurd (z (omega arith))
      further z v f (suc d) q = f d (omega arith)

      go : UpValue (suc i) ss s.pointer w (values_to w (stores (move_up (suc i) ss))) → (pointer_word n (suc i) ≡ w)
          ⊎ (pointer_word n (suc i) ≢ w) → (key_word n (suc i) ≡ w) ⊎ (key_word n (suc i) ≢ w)
          → UpValue i (s ∷ ss) x w (values_to w (stores (move_up i (s ∷ ss))))
      go ih (inl e) k = inr (
        s.pointer,
        none (omega arith)
            ∙ pair-first w (pointer_word n (suc i)) s.pointer (key_word n (suc i)) s.key [] e (λ q. omega arith),
        first e,
      )
      go ih (inr z) (inl e) =
          inr (
            s.key,
            none (omega arith) ∙ pair-second w (pointer_word n (suc i)) s.pointer (key_word n (suc i)) s.key [] z e,
            λ d q. absurd (omega arith),
          )
      go (inl e) (inr z) (inr y) =
          inl (joined ∙ ap (λ (l : List ℕ). l ++ values_to w two) e
          ∙ pair-none w (pointer_word n (suc i)) s.pointer (key_word n (suc i)) s.key [] z y)
      go (inr (v, e, f)) (inr z) (inr y) =
          let off = pair-none w (pointer_word n (suc i)) s.pointer (key_word n (suc i)) s.key [] z y in
          inr (v, joined ∙ ap (λ (l : List ℕ). l ++ values_to w two) e ∙ ap (λ (l : List ℕ). v ∷ l) off, further z v f)

  -- ---- slots that move down

  down-from : (i : ℕ) (ss : List Slot) → From (key_word n i) (stores (move_down i ss))
  unfolding move_down
  down-from i [] = tt
  down-from i (s ∷ ss) = (
    omega arith,
    (
      omega arith,
      from-wider (key_word n i) (key_word n (suc i)) (stores (move_down (suc i) ss)) (omega arith) (down-from (suc i) ss),
    ),
  )

  down-before : (i : ℕ) (ss : List Slot) → Before (key_word n (i + length ss)) (stores (move_down i ss))
  unfolding move_down
  down-before i [] = tt
  down-before i (s ∷ ss) = (
    omega arith,
    (
      omega arith,
      before-wider (key_word n (suc i + length ss)) (key_word n (i + suc (length ss))) (stores (move_down (suc i) ss)) (omega arith)
          (down-before (suc i) ss),
    ),
  )

  down-few : (i : ℕ) (ss : List Slot) (w : ℕ) → Few (values_to w (stores (move_down i ss)))
  unfolding move_down values_to
  down-few i [] w = inl refl
  down-few i (s ∷ ss) w = go (down-few (suc i) ss w) (same-or-not (key_word n i) w) (same-or-not (pointer_word n i) w)
    where
      rest : List Store
      rest = stores (move_down (suc i) ss)

      later : w < key_word n (suc i) → values_to w rest ≡ []
      later l = from-none (key_word n (suc i)) w rest l (down-from (suc i) ss)

      go : Few (values_to w rest) → (key_word n i ≡ w) ⊎ (key_word n i ≢ w) → (pointer_word n i ≡ w) ⊎ (pointer_word n i ≢ w)
          → Few (values_to w (stores (move_down i (s ∷ ss))))
      go ih (inl e) k = inr (
        s.key,
        pair-first w (key_word n i) s.key (pointer_word n i) s.pointer rest e (λ q. omega arith)
            ∙ ap (λ (l : List ℕ). s.key ∷ l) (later (omega arith)),
      )
      go ih (inr z) (inl e) =
          inr (
            s.pointer,
            pair-second w (key_word n i) s.key (pointer_word n i) s.pointer rest z e
                ∙ ap (λ (l : List ℕ). s.pointer ∷ l) (later (omega arith)),
          )
      go (inl e) (inr z) (inr y) = inl (pair-none w (key_word n i) s.key (pointer_word n i) s.pointer rest z y ∙ e)
      go (inr (v, e)) (inr z) (inr y) = inr (v, pair-none w (key_word n i) s.key (pointer_word n i) s.pointer rest z y ∙ e)

  down-nil : (i w : ℕ) → values_to w (stores (move_down i [])) ≡ []
  unfolding move_down values_to
  down-nil i w = refl

  down-first : (i : ℕ) (s : Slot) (ss : List Slot) → values_to (pointer_word n i) (stores (move_down i (s ∷ ss))) ≡ s.pointer ∷ []
  unfolding move_down
  down-first i s ss =
      let w = pointer_word n i in
      let rest = stores (move_down (suc i) ss) in
      pair-second w (key_word n i) s.key w s.pointer rest (λ q. omega arith) refl
      ∙ ap (λ (l : List ℕ). s.pointer ∷ l) (from-none (key_word n (suc i)) w rest (omega arith) (down-from (suc i) ss))

  -- ---- shift in

  module _ (left : ℕ) (ss : List Slot) (p k x : ℕ) (within : p ≤ length ss) where
    abbrev pub before : ℕ → ℕ
    before j = last_pointer left (take j ss)

    abbrev up : List Store
    up = stores (move_up p (drop p ss))

    abbrev last : List Store
    last = put (pointer_word n p) (before p) ∷ put (key_word n p) k ∷ put (pointer_word n p) x ∷ []

    in-joined : (w : ℕ) → values_to w (stores (shift_in left ss p k x)) ≡ values_to w (put (pointer_word n (suc (length ss))) 0 ∷ [])
        ++ (values_to w up ++ values_to w last)
    unfolding shift_in
    in-joined w =
        ap (λ (l : List Store). values_to w (put (pointer_word n (suc (length ss))) 0 ∷ l))
        (map-append (in_node n) (move_up p (drop p ss)) (pointer_to p (before p) ∷ key_to p k ∷ pointer_to p x ∷ []))
        ∙ values-append w (put (pointer_word n (suc (length ss))) 0 ∷ []) (up ++ last)
        ∙ ap (λ (l : List ℕ). values_to w (put (pointer_word n (suc (length ss))) 0 ∷ []) ++ l) (values-append w up last)

    abbrev behind : List Store
    behind = put (pointer_word n (suc (length ss))) 0 ∷ []

    up-low : (w : ℕ) → w < key_word n (suc p) → values_to w up ≡ []
    up-low w l = from-none (key_word n (suc p)) w up l (up-from p (drop p ss))

    up-high : (w : ℕ) → key_word n (suc (length ss)) ≤ w → values_to w up ≡ []
    up-high w l = before-none (key_word n (suc (p + length (drop p ss)))) w up (omega (arith, length-drop p ss)) (up-before p (drop p ss))

    last-off : (w : ℕ) → pointer_word n p ≢ w → key_word n p ≢ w → values_to w last ≡ []
    last-off w z y = pair-none w (pointer_word n p) (before p) (key_word n p) k (put (pointer_word n p) x ∷ []) z y
        ∙ none-put w x (pointer_word n p) z

    -- the pointer of the slot itself: the pointer before it, then the new one
    pub in-here : values_to (pointer_word n p) (stores (shift_in left ss p k x)) ≡ last_pointer left (take p ss) ∷ x ∷ []
    in-here =
        let w = pointer_word n p in
        let e : values_to w last ≡ before p ∷ x ∷ [] =
        pair-first w w (before p) (key_word n p) k (put w x ∷ []) refl (λ q. omega arith)
        ∙ ap (λ (l : List ℕ). before p ∷ l) (one-put w x w refl) in
        in-joined w ∙ rw (none-put w 0 (pointer_word n (suc (length ss))) (λ q. omega arith), up-low w (omega arith), e)

    -- each other word: none, or one; to a pointer, 0 or the pointer before its place
    abbrev pub InValue : (w : ℕ) → List ℕ → Type 0
    InValue w vs = (vs ≡ []) ⊎ ((v : ℕ) × (vs ≡ v ∷ []) × ((j : ℕ) → w ≡ pointer_word n j → (v ≡ 0) ⊎ (v ≡ last_pointer left (take j ss))))

    pub in-other : (w : ℕ) → pointer_word n p ≢ w → InValue w (values_to w (stores (shift_in left ss p k x)))
    in-other w z = go (same-or-not (pointer_word n (suc (length ss))) w) (same-or-not (key_word n p) w)
        (up-value p (drop p ss) (before p) w)
      where
        place : (v : ℕ) → ((d : ℕ) → w ≡ pointer_word n (p + suc d) → v ≡ last_pointer (before p) (take (suc d) (drop p ss)))
            → values_to w up ≡ v ∷ [] → (j : ℕ) → w ≡ pointer_word n j → (v ≡ 0) ⊎ (v ≡ before j)
        place v f e j q = by (compared p j)
          where
            low : j ≤ p → (v ≡ 0) ⊎ (v ≡ before j)
            low l = let c : length (v ∷ []) ≡ 0 = ap length (sym e ∙ up-low w (omega arith)) in absurd (omega arith)

            by : (p < j) ⊎ ((p ≡ j) ⊎ (j < p)) → (v ≡ 0) ⊎ (v ≡ before j)
            by (inl l) =
                let d = j - suc p in
                let g : p + suc d ≡ j = omega arith in
                inr (f d (q ∙ ap (pointer_word n) (sym g)) ∙ last-part left p (suc d) ss ∙ ap before g)
            by (inr (inl l)) = low (omega arith)
            by (inr (inr l)) = low (omega arith)

        go : (pointer_word n (suc (length ss)) ≡ w) ⊎ (pointer_word n (suc (length ss)) ≢ w) → (key_word n p ≡ w) ⊎ (key_word n p ≢ w)
            → UpValue p (drop p ss) (before p) w (values_to w up)
            → InValue w (values_to w (stores (shift_in left ss p k x)))
        go (inl e) k u = inr (
          0,
          in-joined w ∙ rw
              (one-put w 0 (pointer_word n (suc (length ss))) e, up-high w (omega arith), last-off w z (λ q. omega arith)),
          λ j q. inl refl,
        )
        go (inr y) (inl e) u =
            let own : values_to w last ≡ k ∷ [] =
            pair-second w (pointer_word n p) (before p) (key_word n p) k (put (pointer_word n p) x ∷ []) z e
            ∙ ap (λ (l : List ℕ). k ∷ l) (none-put w x (pointer_word n p) z) in
            inr (
              k,
              in-joined w ∙ rw (none-put w 0 (pointer_word n (suc (length ss))) y, up-low w (omega arith), own),
              λ j q. absurd (omega arith),
            )
        go (inr y) (inr c) (inl e) = inl (in-joined w ∙ rw (none-put w 0 (pointer_word n (suc (length ss))) y, e, last-off w z c))
        go (inr y) (inr c) (inr (v, e, f)) =
            inr (v, in-joined w ∙ rw (none-put w 0 (pointer_word n (suc (length ss))) y, e, last-off w z c), place v f e)

    -- words that had other values: they are steady, where the slot's pointer was not x
    pub in-steady : (f : ℕ → ℕ) → f (pointer_word n p) ≢ x → (w : ℕ) → Steady (f w) (values_to w (stores (shift_in left ss p k x)))
    in-steady f z w = go (same-or-not (pointer_word n p) w)
      where
        one : InValue w (values_to w (stores (shift_in left ss p k x))) → Few (values_to w (stores (shift_in left ss p k x)))
        one (inl e) = inl e
        one (inr (v, e, g)) = inr (v, e)

        go : (pointer_word n p ≡ w) ⊎ (pointer_word n p ≢ w) → Steady (f w) (values_to w (stores (shift_in left ss p k x)))
        go (inl e) = subst (λ (u : ℕ). Steady (f u) (values_to u (stores (shift_in left ss p k x)))) e
            (rw in-here (steady-two (f (pointer_word n p)) (before p) x z))
        go (inr y) = few-steady (f w) (values_to w (stores (shift_in left ss p k x))) (one (in-other w y))

  -- ---- shift out

  module _ (left : ℕ) (ss : List Slot) (p : ℕ) (within : p < length ss) where
    abbrev down : List Store
    down = stores (move_down p (drop (suc p) ss))

    out-joined : (w : ℕ) → values_to w (stores (shift_out left ss p))
        ≡ values_to w (put (pointer_word n p) (last_pointer left (take p ss)) ∷ [])
        ++ (values_to w down ++ values_to w (put (pointer_word n (pred (length ss))) 0 ∷ []))
    unfolding shift_out close
    out-joined w =
        let s = put (pointer_word n p) (last_pointer left (take p ss)) in
        let z = put (pointer_word n (pred (length ss))) 0 in
        ap (λ (l : List Store). values_to w (s ∷ l))
        (map-append (in_node n) (move_down p (drop (suc p) ss)) (pointer_to (pred (length ss)) 0 ∷ []))
        ∙ values-append w (s ∷ []) (down ++ (z ∷ [])) ∙ ap (λ (l : List ℕ). values_to w (s ∷ []) ++ l) (values-append w down (z ∷ []))

    -- each other word than the slot's pointer: none, or one
    pub out-other : (w : ℕ) → pointer_word n p ≢ w → Few (values_to w (stores (shift_out left ss p)))
    out-other w z = go (same-or-not (pointer_word n (pred (length ss))) w) (down-few p (drop (suc p) ss) w)
      where
        first : values_to w (put (pointer_word n p) (last_pointer left (take p ss)) ∷ []) ≡ []
        first = none-put w _ (pointer_word n p) z

        go : (pointer_word n (pred (length ss)) ≡ w) ⊎ (pointer_word n (pred (length ss)) ≢ w) → Few (values_to w down)
            → Few (values_to w (stores (shift_out left ss p)))
        go (inl e) u =
            let d = before-none (key_word n (p + length (drop (suc p) ss))) w down (omega (arith, length-drop (suc p) ss))
            (down-before p (drop (suc p) ss)) in
            inr (0, out-joined w ∙ rw (first, d, one-put w 0 (pointer_word n (pred (length ss))) e))
        go (inr y) (inl e) = inl (out-joined w ∙ rw (first, e, none-put w 0 (pointer_word n (pred (length ss))) y))
        go (inr y) (inr (v, e)) = inr (v, out-joined w ∙ rw (first, e, none-put w 0 (pointer_word n (pred (length ss))) y))

    -- the slot's pointer: two, of which the last is not what it was, where all slots are shown
    pub out-here : AllShown left ss → (u : ℕ) × (v : ℕ)
        × (values_to (pointer_word n p) (stores (shift_out left ss p)) ≡ u ∷ v ∷ []) × (pointer_at ss p ≢ v)
    out-here all = go (drop (suc p) ss) refl (all-split left (take p ss) _ (rw (split_at ss p (slot 0 0) within) at all)).1
      where
        w : ℕ
        w = pointer_word n p

        down-none : drop (suc p) ss ≡ [] → values_to w down ≡ []
        down-none e = ap (λ (l : List Slot). values_to w (stores (move_down p l))) e ∙ down-nil p w

        down-one : (s : Slot) (b : List Slot) → drop (suc p) ss ≡ s ∷ b → values_to w down ≡ s.pointer ∷ []
        down-one s b e = ap (λ (l : List Slot). values_to w (stores (move_down p l))) e ∙ down-first p s b

        go : (b : List Slot) → drop (suc p) ss ≡ b → AllShown (last_pointer left (take p ss)) (get_or ss p (slot 0 0) ∷ b) → (u : ℕ)
            × (v : ℕ) × (values_to w (stores (shift_out left ss p)) ≡ u ∷ v ∷ []) × (pointer_at ss p ≢ v)
        go [] e a =
            let l : length ss ≡ suc p = omega (arith, length-drop (suc p) ss, ap length e) in (
              last_pointer left (take p ss),
              0,
              out-joined w
                  ∙ rw (
                    one-put w (last_pointer left (take p ss)) w refl,
                    down-none e,
                    one-put w 0 (pointer_word n (pred (length ss))) (omega arith),
                  ),
              a.0,
            )
        go (s ∷ b) e a =
            let z : pointer_word n (pred (length ss)) ≢ w = λ q. omega (arith, length-drop (suc p) ss, ap length e) in (
              last_pointer left (take p ss),
              s.pointer,
              out-joined w
                  ∙ rw (
                    one-put w (last_pointer left (take p ss)) w refl,
                    down-one s b e,
                    none-put w 0 (pointer_word n (pred (length ss))) z,
                  ),
              λ q. a.2.1 (sym q),
            )

    -- where the slot's pointer was that of the slot
    pub out-steady : (f : ℕ → ℕ) → AllShown left ss → f (pointer_word n p) ≡ pointer_at ss p → (w : ℕ)
        → Steady (f w) (values_to w (stores (shift_out left ss p)))
    out-steady f all q w = go (same-or-not (pointer_word n p) w)
      where
        two : (u : ℕ) × (v : ℕ) × (values_to (pointer_word n p) (stores (shift_out left ss p)) ≡ u ∷ v ∷ []) × (pointer_at ss p ≢ v)
            → Steady (f (pointer_word n p)) (values_to (pointer_word n p) (stores (shift_out left ss p)))
        two (u, v, e, z) = rw e (steady-two (f (pointer_word n p)) u v (λ y. z (sym q ∙ y)))

        go : (pointer_word n p ≡ w) ⊎ (pointer_word n p ≢ w) → Steady (f w) (values_to w (stores (shift_out left ss p)))
        go (inl e) = subst (λ (u : ℕ). Steady (f u) (values_to u (stores (shift_out left ss p)))) e (two (out-here all))
        go (inr y) = few-steady (f w) (values_to w (stores (shift_out left ss p))) (out-other w y)

-- ---- in a node of a table that hides nothing

module _ (t : Words) (m : ℕ) (h : Plain t m) where
  abbrev shape : Shape (node_view t m).left (node_view t m).shown (slots_of (node t m).slots)
  unfolding used
  shape = shape-of (node_view t m).left (node_view t m).shown (slots_of (node t m).slots) (record { shows = refl; hides = h.plain })

  pub node-shown : AllShown (node_view t m).left (node_view t m).shown
  node-shown = shape.shown-all

  word : (j : ℕ) → j < 12 → at t (pointer_word m j) ≡ pointer_at ((node_view t m).shown ++ shape.behind) j
  word j l =
      let e : pointer_word m j ≡ node_start m + 8 + suc (2 * j) = omega arith in
      ap (at t) e ∙ sym (at-part t (node_start m + 8) 24 (suc (2 * j)) (omega arith))
      ∙ ap (λ (ws : Words). at ws (suc (2 * j))) (sym (node-slots t m h.there))
      ∙ at-pointer j (node t m).slots ∙ ap (λ (ss : List Slot). pointer_at ss j) shape.shape

  -- a pointer word holds its slot's pointer, and 0 behind the last slot
  pub shown-word : (j : ℕ) → j < length (node_view t m).shown → length (node_view t m).shown ≤ 11 → at t (pointer_word m j)
      ≡ pointer_at (node_view t m).shown j
  shown-word j l few = word j (omega arith) ∙ ap (λ (s : Slot). s.pointer) (get_or-append (node_view t m).shown shape.behind (slot 0 0) j l)

  pub end-word : length (node_view t m).shown ≤ 11 → at t (pointer_word m (length (node_view t m).shown)) ≡ 0
  end-word few =
      let ss = (node_view t m).shown in
      let e : length ss + 0 ≡ length ss = omega arith in
      word (length ss) (omega arith) ∙ ap (λ (i : ℕ). pointer_at (ss ++ shape.behind) i) (sym e)
      ∙ ap (λ (s : Slot). s.pointer) (get_or-append-add ss shape.behind 0 (slot 0 0)) ∙ go shape.behind shape.stops
    where
      go : (r : List Slot) → Stops r → pointer_at r 0 ≡ 0
      go [] e = refl
      go (s ∷ r) e = e

  -- no word holds a new pointer where it is shifted in
  new-word : (p x : ℕ) → p ≤ length (node_view t m).shown → length (node_view t m).shown ≤ 11 → x ≢ 0
      → Each (λ (s : Slot). s.pointer ≢ x) (node_view t m).shown → at t (pointer_word m p) ≢ x
  new-word p x l few z new e = go (compared p (length (node_view t m).shown))
    where
      go : (p < length (node_view t m).shown) ⊎ ((p ≡ length (node_view t m).shown) ⊎ (length (node_view t m).shown < p)) → ⊥
      go (inl i) = each-at (λ (s : Slot). s.pointer ≢ x) (node_view t m).shown (slot 0 0) p i new (sym (shown-word p i few) ∙ e)
      go (inr (inl i)) = z (sym e ∙ ap (λ (j : ℕ). at t (pointer_word m j)) i ∙ end-word few)
      go (inr (inr i)) = omega arith

  -- Shift in of a new pointer: every word is steady.
  pub shift-in-steady :
      (k x : ℕ) → length (node_view t m).shown ≤ 10 → x ≢ 0 → Each (λ (s : Slot). s.pointer ≢ x) (node_view t m).shown → (w : ℕ)
      → Steady (at t w) (values_to w (shift_in_at t m k x))
  unfolding shift_in_at
  shift-in-steady k x few z new w =
      let ss = (node_view t m).shown in
      let p = place_of k ss in
      in-steady m (node_view t m).left ss p k x (place-length k ss) (at t) (new-word p x (place-length k ss) (omega arith) z new) w

  -- Shift out: every word is steady.
  pub shift-out-steady :
      (k : ℕ) → length (node_view t m).shown ≤ 11 → place_of k (node_view t m).shown < length (node_view t m).shown → (w : ℕ)
      → Steady (at t w) (values_to w (shift_out_at t m k))
  unfolding shift_out_at
  shift-out-steady k few l w =
      let ss = (node_view t m).shown in
      out-steady m (node_view t m).left ss (place_of k ss) l (at t) node-shown (shown-word (place_of k ss) l few) w
