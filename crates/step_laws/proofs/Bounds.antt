-- Stores to the slots of one node: how many orders they have, and that they lie in the table.
use Rattle.std.proofs.Common.{◌≡◌, ℕ, suc, pred, ◌+◌, ◌<◌, ◌≤◌, true, List, [], ◌∷◌, ◌++◌, map, length, take, drop, refl, ap, append_assoc}
use Rattle.std.proofs.Common.{arith, length-drop}
use lib.ListN.{length-map}
use Rattle.model.specs.Table.{Words, line, node_start, has_node}
use Rattle.model.specs.Slots.{Slot, used, node_view}
use Rattle.model.specs.Orders.{Store, orders}
use Rattle.model.specs.Shifts.{SlotStore, key_to, pointer_to, key_word, in_node, last_pointer, move_up, move_down, shift_in, shift_out}
use Rattle.model.specs.Shifts.{close, place_of, hidden_place}
use Rattle.model.specs.Writes.{shift_in_at, shift_out_at, close_at}
use Rattle.list_laws.proofs.Tools.{Each, Each-map}
use Rattle.list_laws.proofs.Members.{mem-each}
use Rattle.list_laws.proofs.Slots.{place-length}
use Rattle.table_laws.proofs.Nodes.{has-node-iff}
use Rattle.slot_laws.proofs.SlotStores.{place}
use Rattle.slot_laws.proofs.Places.{Below, hidden-place-lt, shift-in-count, close-count, shift-in-places, shift-out-places, close-places}
use Rattle.word_laws.proofs.SlotRuns.{slot-into}
use Rattle.cut_laws.specs.Growing.{changes_from, line_changes}
use Rattle.cut_laws.proofs.FlushRule.{orders-length, orders-flush_count, Rising, Falling, rising-changes, falling-changes}
use Rattle.cut_laws.specs.Inside.{StoresInside}

-- ---- lines

-- the line of slot i of node x
abbrev slot_line : ℕ → ℕ → ℕ
slot_line x i = line (key_word x i)

store-line : (x : ℕ) (q : SlotStore) → line (in_node x q).word ≡ slot_line x (place q)
unfolding node_start
store-line x (key_to i y) = refl
store-line x (pointer_to i y) = omega arith

line-mono : (x i j : ℕ) → i ≤ j → slot_line x i ≤ slot_line x j
line-mono x i j h = omega arith

-- twelve slots lie on three lines
line-span : (x i : ℕ) → i < 12 → slot_line x i ≤ slot_line x 0 + 2
unfolding node_start
line-span x i h = omega arith

-- ---- places that never rise, or never fall, from one store to the next; l before the first

abbrev Fall : ℕ → List SlotStore → Type 0
Fall l [] = Unit {0}
Fall l (q ∷ qs) = (place q ≤ l) × Fall (place q) qs

abbrev Rise : ℕ → List SlotStore → Type 0
Rise l [] = Unit {0}
Rise l (q ∷ qs) = (l ≤ place q) × Rise (place q) qs

fall-lines : (x l : ℕ) (qs : List SlotStore) → Fall l qs → Falling (slot_line x l) (map (in_node x) qs)
fall-lines x l [] f = tt
fall-lines x l (q ∷ qs) f = rw (store-line x q) (line-mono x (place q) l f.0, fall-lines x (place q) qs f.1)

rise-lines : (x l : ℕ) (qs : List SlotStore) → Rise l qs → Rising (slot_line x l) (map (in_node x) qs)
rise-lines x l [] f = tt
rise-lines x l (q ∷ qs) f = rw (store-line x q) (line-mono x l (place q) f.0, rise-lines x (place q) qs f.1)

each-line : (x : ℕ) (P : ℕ → Type 0) (qs : List SlotStore) → Each (λ (q : SlotStore). P (slot_line x (place q))) qs
    → Each (λ (s : Store). P (line s.word)) (map (in_node x) qs)
each-line x P [] h = tt
each-line x P (q ∷ qs) h = (rw (store-line x q) h.0, each-line x P qs h.1)

-- a run of stores to the slots of one node that goes one way changes line twice at most: three flushes
flushes : (x : ℕ) (q : SlotStore) (qs : List SlotStore) → changes_from (slot_line x (place q)) (map (in_node x) qs) ≤ 2
    → length (orders (map (in_node x) (q ∷ qs))) ≤ suc (length qs) + 3
unfolding line_changes
flushes x q qs h =
    let ss = map (in_node x) (q ∷ qs) in
    let c : line_changes ss ≡ changes_from (slot_line x (place q)) (map (in_node x) qs) =
    ap (λ (l : ℕ). changes_from l (map (in_node x) qs)) (store-line x q) in
    omega (arith, orders-length ss, orders-flush_count (in_node x q) (map (in_node x) qs), length-map qs (in_node x), h)

falling-few : (x l : ℕ) (qs : List SlotStore) → l < 12 → Fall l qs → length (orders (map (in_node x) qs)) ≤ length qs + 3
falling-few x l [] h f = unfold orders in omega arith
falling-few x l (q ∷ qs) h f =
    let c = falling-changes (slot_line x (place q)) (slot_line x 0) (map (in_node x) qs) (line-mono x 0 (place q) (omega arith))
    (fall-lines x (place q) qs f.1)
    (each-line x (λ (w : ℕ). slot_line x 0 ≤ w) qs
    (mem-each (λ (r : SlotStore). slot_line x 0 ≤ slot_line x (place r)) qs (λ r m. line-mono x 0 (place r) (omega arith)))) in
    flushes x q qs (omega (arith, c, line-span x (place q) (omega (arith, f.0))))

rising-few : (x : ℕ) (q : SlotStore) (qs : List SlotStore) → Each (Below 12) (q ∷ qs) → Rise (place q) qs
    → length (orders (map (in_node x) (q ∷ qs))) ≤ suc (length qs) + 3
rising-few x q qs b f =
    let c = rising-changes (slot_line x (place q)) (slot_line x 0 + 2) (map (in_node x) qs) (line-span x (place q) b.0)
    (rise-lines x (place q) qs f)
    (each-line x (λ (w : ℕ). w ≤ slot_line x 0 + 2) qs
    (Each-map (Below 12) (λ (r : SlotStore). slot_line x (place r) ≤ slot_line x 0 + 2) qs (λ r h. line-span x (place r) h) b.1)) in
    flushes x q qs (omega (arith, c, line-mono x 0 (place q) (omega arith)))

-- ---- the places of a shift in fall, those of a close and of a shift out rise

fall-from : (l m : ℕ) (qs : List SlotStore) → l ≤ m → Fall l qs → Fall m qs
fall-from l m [] h f = tt
fall-from l m (q ∷ qs) h f = (omega (arith, f.0), f.1)

up-falls : (l i : ℕ) (ss : List Slot) (rest : List SlotStore) → i + length ss ≤ l → Fall i rest → Fall l (move_up i ss ++ rest)
unfolding move_up
up-falls l i [] rest h f = fall-from i l rest (omega arith) f
up-falls l i (s ∷ ss) rest h f =
    rw (append_assoc (move_up (suc i) ss) (pointer_to (suc i) s.pointer ∷ key_to (suc i) s.key ∷ []) rest)
    (up-falls l (suc i) ss (pointer_to (suc i) s.pointer ∷ key_to (suc i) s.key ∷ rest) (omega arith)
    (omega arith, (omega arith, fall-from i (suc i) rest (omega arith) f)))

down-rises : (l i : ℕ) (ss : List Slot) (rest : List SlotStore) → l ≤ i → ((j : ℕ) → j ≤ i + length ss → Rise j rest)
    → Rise l (move_down i ss ++ rest)
unfolding move_down
down-rises l i [] rest h f = f l (omega arith)
down-rises l i (s ∷ ss) rest h f = (h, (omega arith, down-rises i (suc i) ss rest (omega arith) (λ j g. f j (omega arith))))

-- ---- a shift in, a close and a shift out

shift-in-falls : (left : ℕ) (ss : List Slot) (p k y : ℕ) → p ≤ length ss → Fall (suc (length ss)) (shift_in left ss p k y)
unfolding shift_in
shift-in-falls left ss p k y h = (
  omega arith,
  up-falls (suc (length ss)) p (drop p ss) _ (omega (arith, length-drop p ss))
      (omega arith, (omega arith, (omega arith, tt))),
)

close-rises : (ss : List Slot) (p : ℕ) → p < length ss → Rise p (close ss p)
unfolding close
close-rises ss p h =
    down-rises p p (drop (suc p) ss) _ (omega arith)
    (λ j g. (let l : j ≤ pred (length ss) = omega (arith, length-drop (suc p) ss) in l, tt))

rising-from : (x p : ℕ) (qs : List SlotStore) → Each (Below 12) qs → Rise p qs → length (orders (map (in_node x) qs)) ≤ length qs + 3
rising-from x p [] b r = unfold orders in omega arith
rising-from x p (q ∷ qs) b r = rising-few x q qs b r.1

-- stores to the twelve slots of a node of the table lie in the table
pub slot-inside : (t : Words) (x : ℕ) (q : SlotStore) → has_node t x ≡ true → Below 12 q → (in_node x q).word < length t
unfolding node_start
slot-inside t x q n h = omega (arith, slot-into x q h, (has-node-iff t x).0 n)

slots-inside : (t : Words) (x : ℕ) (qs : List SlotStore) → has_node t x ≡ true → Each (Below 12) qs
    → StoresInside (length t) (map (in_node x) qs)
slots-inside t x [] n b = tt
slots-inside t x (q ∷ qs) n b = (slot-inside t x q n b.0, slots-inside t x qs n b.1)

-- ---- in node x of a table

module _ (t : Words) (x : ℕ) where
  abbrev left : ℕ
  left = (node_view t x).left

  abbrev ss : List Slot
  ss = (node_view t x).shown

  module _ (k y : ℕ) (room : length (node_view t x).shown ≤ 10) where
    -- shifting a slot in, if there is room, takes at most 27 orders
    pub shift-in-few : length (orders (shift_in_at t x k y)) ≤ 27
    unfolding shift_in_at
    shift-in-few =
        let qs = shift_in left ss (place_of k ss) k y in
        omega (
          arith,
          falling-few x (suc (length ss)) qs (omega arith) (shift-in-falls left ss (place_of k ss) k y (place-length k ss)),
          shift-in-count left ss (place_of k ss) k y,
        )

    -- shifting a slot into a node of the table stores inside the table
    pub shift-in-inside : has_node t x ≡ true → StoresInside (length t) (shift_in_at t x k y)
    unfolding shift_in_at
    shift-in-inside n = slots-inside t x (shift_in left ss (place_of k ss) k y) n
        (shift-in-places left ss (place_of k ss) k y 12 (place-length k ss) (omega arith))

  module _ (k : ℕ) (few : length (node_view t x).shown ≤ 11) (there : place_of k (node_view t x).shown < length (node_view t x).shown) where
    -- shifting out a slot that is there takes at most 25 orders
    pub shift-out-few : length (orders (shift_out_at t x k)) ≤ 25
    unfolding shift_out_at shift_out
    shift-out-few =
        let p = place_of k ss in
        omega (
          arith,
          rising-few x (pointer_to p (last_pointer left (take p ss))) (close ss p)
              (omega arith, close-places ss p 12 there (omega arith)) (close-rises ss p there),
          close-count ss p there,
        )

    -- shifting a slot out of a node of the table stores inside the table
    pub shift-out-inside : has_node t x ≡ true → StoresInside (length t) (shift_out_at t x k)
    unfolding shift_out_at
    shift-out-inside n =
        slots-inside t x (shift_out left ss (place_of k ss)) n (shift-out-places left ss (place_of k ss) 12 there (omega arith))

  module _ (few : length (used t x) ≤ 11) (one : (node_view t x).hidden ≡ 1) where
    abbrev p : ℕ
    p = hidden_place left (used t x)

    p-in : p < length (used t x)
    p-in = hidden-place-lt left (used t x) one

    pub close-few : length (orders (close_at t x)) ≤ 24
    unfolding close_at
    close-few = omega (
      arith,
      rising-from x p (close (used t x) p) (close-places (used t x) p 12 p-in (omega arith)) (close-rises (used t x) p p-in),
      close-count (used t x) p p-in,
    )

    pub close-inside : has_node t x ≡ true → StoresInside (length t) (close_at t x)
    unfolding close_at
    close-inside n = slots-inside t x (close (used t x) p) n (close-places (used t x) p 12 p-in (omega arith))
