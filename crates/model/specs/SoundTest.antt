-- Proved twin of Sound.antt, which needs no belief: `sound-same`, `settled-same` and `leftover-same` in crates/two_laws/proofs/SameTwo.antt.
-- Document 01, "Sound tables", as a test that computes on any words; Sound.antt has it sentence by sentence. To be read here: `Leftover`,
-- which Sound.antt names, and the tests that other files take over: `elem`, `distinct`, `rising`, `recordings_ok`.
use Rattle.std.specs.Prelude.{Bool, true, false, cond, not, ◌&&◌, ◌||◌, List, [], ◌∷◌, map, ℕ, zero, suc, leb, ltb, eqb, length}
use Rattle.std.proofs.Math.Option.{Option, none, some}
use Rattle.model.specs.declared.Few.{Few}
use Rattle.model.specs.declared.Few.TheVariants.{Zero, One, Many}
use Rattle.model.specs.declared.MissingSlot.{MissingSlot}
use Rattle.model.specs.declared.Unfinished.{Unfinished}
unfoldable pub use Rattle.model.specs.Lists.{all}
use Rattle.model.specs.Table.{MARK, Words, in_range, header_ok}
use Rattle.model.specs.Slots.{Slot, recording, pointer_ok, View, height}
use Rattle.model.specs.Search.{within}
use Rattle.model.specs.Reached.{head_or, kept, named, next_child, children, reached, mapping, trees, reached_all}

unfoldable pub elem : ℕ → List ℕ → Bool
elem x [] = false
elem x (y ∷ ys) = eqb x y || elem x ys

unfoldable pub distinct : List ℕ → Bool
distinct [] = true
distinct (x ∷ xs) = not (elem x xs) && distinct xs

-- ---- one node

-- a sibling other than 0 is in 1 to N, on the same level, with a higher fence
unfoldable pub sibling_ok : View → ℕ → Bool
sibling_ok v n =
    let s = (v.node n).sibling in
    eqb s 0 || (in_range v.nodes s && (eqb (v.node s).level (v.node n).level && ltb (v.node n).fence (v.node s).fence))

-- keys rise strictly, and the first is at least low
unfoldable pub rising : ℕ → List Slot → Bool
rising low [] = true
rising low (s ∷ ss) = leb low s.key && rising (suc s.key) ss

-- the slots that pass p come before those that do not
unfoldable pub come_first : (Slot → Bool) → List Slot → Bool
come_first p [] = true
come_first p (s ∷ ss) = elim (p s) [ true ↦ come_first p ss | false ↦ all (λ (x : Slot). not (p x)) ss ]

-- the kept slots rise from low, and those from the sibling's fence up come last
unfoldable pub keys_ok : View → ℕ → ℕ → Bool
keys_ok v n low = rising low (kept v n) && come_first (λ (s : Slot). within v n s.key) (v.node n).shown

-- each node's sibling is the next one of the row, that of the last is e
module _ (v : View) where
  unfoldable pub linked : List ℕ → ℕ → Bool
  linked [] e = true
  linked (n ∷ ns) e = eqb (v.node n).sibling (head_or e ns) && linked ns e

-- c is one level below l and has the fence k
unfoldable pub child_ok : View → ℕ → ℕ → ℕ → Bool
child_ok v l k c = eqb (suc (v.node c).level) l && eqb (v.node c).fence k

unfoldable pub slot_ok : View → ℕ → Slot → Bool
slot_ok v l s = child_ok v l s.key s.pointer

unfoldable pub leaf_ok : View → ℕ → Bool
leaf_ok v n = eqb (v.node n).left MARK && keys_ok v n (v.node n).fence

unfoldable pub inner_ok : View → ℕ → Bool
inner_ok v n =
    keys_ok v n (suc (v.node n).fence) && (child_ok v (v.node n).level (v.node n).fence (v.node n).left
    && (all (slot_ok v (v.node n).level) (kept v n) && (all (in_range v.nodes) (children v n) && linked v (children v n) (next_child v n))))

unfoldable pub node_ok : View → ℕ → Bool
node_ok v n = (v.node n).clear && (sibling_ok v n && elim (eqb (v.node n).level 0) [ true ↦ leaf_ok v n | false ↦ inner_ok v n ])

-- ---- the whole tree

unfoldable pub root_ok : View → Bool
root_ok v = in_range v.nodes v.root && (leb (height v) 15 && (eqb (v.node v.root).fence 0 && eqb (v.node v.root).sibling 0))

-- a pair of the map has a recording number and a class that there are
abbrev pub pair_ok : Slot → Bool
pair_ok s = pointer_ok s.pointer

-- so has each, and no recording number is there twice
unfoldable pub recordings_ok : List Slot → Bool
recordings_ok ps = all pair_ok ps && distinct (map recording ps)

-- everything but what may be unfinished: no node is reached twice, and the map's recording numbers and classes are right
unfoldable pub orderly : View → Bool
orderly v = root_ok v && (all (node_ok v) (reached v) && (distinct (reached v) && recordings_ok (mapping v)))

-- ---- what is unfinished

abbrev pub finished : Unfinished
finished = record { hidden = Zero; trailing = Zero; missing = Zero }

abbrev pub add_few : {A : Type 0} → Few A → Few A → Few A
add_few Zero y = y
add_few (One x) Zero = One x
add_few (One x) (One y) = Many
add_few (One x) Many = Many
add_few Many y = Many

abbrev pub together : Unfinished → Unfinished → Unfinished
together x y =
    record { hidden = add_few x.hidden y.hidden; trailing = add_few x.trailing y.trailing; missing = add_few x.missing y.missing }

-- a sum over a list
abbrev pub total {ℓ} : {A : Type ℓ} {M : Type 0} → M → (M → M → M) → (A → M) → List A → M
total z op g [] = z
total z op g (x ∷ xs) = op (g x) (total z op g xs)

-- node n, so many times
abbrev pub times : ℕ → ℕ → Few ℕ
times n zero = Zero
times n (suc zero) = One n
times n (suc (suc k)) = Many

unfoldable pub trailing_in : View → ℕ → Few ℕ
trailing_in v n = elim (eqb (length (kept v n)) (length (v.node n).shown)) [ true ↦ Zero | false ↦ One n ]

-- in node n itself
unfoldable pub own : View → ℕ → Unfinished
own v n = record { hidden = times n (v.node n).hidden; trailing = trailing_in v n; missing = Zero }

abbrev pub under : (p a : ℕ) → MissingSlot
under p a = record { parent = p; node = a }

abbrev pub missing_at : ℕ → ℕ → Unfinished
missing_at p a = record { hidden = Zero; trailing = Zero; missing = One (under p a) }

-- in the row that p names, which e follows: a node whose sibling the row lacks
module _ (v : View) (p : ℕ) where
  unfoldable pub row_unfinished : List ℕ → ℕ → Unfinished
  row_unfinished [] e = finished
  row_unfinished (n ∷ ns) e =
      elim (eqb (v.node n).sibling (head_or e ns)) [ true ↦ row_unfinished ns e | false ↦ together (missing_at p n) (row_unfinished ns e) ]

unfoldable pub unfinished_at : View → ℕ → Unfinished
unfinished_at v n =
    together (own v n) (elim (eqb (v.node n).level 0) [ true ↦ finished | false ↦ row_unfinished v n (named v n) (next_child v n) ])

unfoldable pub unfinished : View → Unfinished
unfinished v = total finished together (unfinished_at v) (reached v)

-- ---- settled, and sound with its leftovers

-- What a sound table may have left: nothing; (a) a hidden slot in x; (b) A's sibling lacks its slot in the parent p, and A still shows
-- slots from that sibling's fence up, or not; (c) A's sibling lacks its slot in p, and p has a hidden slot.
pub data Leftover : Type 0 where
  nothing : Leftover
  hidden_in : ℕ → Leftover
  missing_in : (p a : ℕ) → Bool → Leftover
  both_in : (p a : ℕ) → Leftover

-- the leftover that what is unfinished amounts to, if it is one of these
abbrev pub leftover_from : Few ℕ → Few ℕ → Few MissingSlot → Option Leftover
leftover_from Zero Zero Zero = some nothing
leftover_from Zero Zero (One m) = some (missing_in m.parent m.node false)
leftover_from Zero Zero Many = none
leftover_from Zero (One x) Zero = none
leftover_from Zero (One x) (One m) = cond (eqb x m.node) (some (missing_in m.parent m.node true)) none
leftover_from Zero (One x) Many = none
leftover_from Zero Many m = none
leftover_from (One q) Zero Zero = some (hidden_in q)
leftover_from (One q) Zero (One m) = cond (eqb q m.parent) (some (both_in m.parent m.node)) none
leftover_from (One q) Zero Many = none
leftover_from (One q) (One x) m = none
leftover_from (One q) Many m = none
leftover_from Many y m = none

unfoldable pub leftover_of : Unfinished → Option Leftover
leftover_of u = leftover_from u.hidden u.trailing u.missing

unfoldable pub leftover : View → Option Leftover
leftover v = leftover_of (unfinished v)

-- node p shows at most 10 slots
unfoldable pub room : View → ℕ → Bool
room v p = leb (length (v.node p).shown) 10

-- the parent that lacks a slot has room for it
abbrev pub has_room : View → Leftover → Bool
has_room v nothing = true
has_room v (hidden_in x) = true
has_room v (missing_in p a trailing) = room v p
has_room v (both_in p a) = room v p

abbrev pub is_nothing : Option Leftover → Bool
is_nothing none = false
is_nothing (some nothing) = true
is_nothing (some (hidden_in x)) = false
is_nothing (some (missing_in p a trailing)) = false
is_nothing (some (both_in p a)) = false

abbrev pub is_allowed : View → Option Leftover → Bool
is_allowed v none = false
is_allowed v (some x) = has_room v x

unfoldable pub settled_view : View → Bool
settled_view v = orderly v && is_nothing (leftover v)

unfoldable pub sound_view : View → Bool
sound_view v = orderly v && is_allowed v (leftover v)

-- ---- of a table of one or two collections

-- the leftover of the whole table: of the first tree that is not finished
unfoldable pub leftover_in : List View → Option Leftover
leftover_in [] = some nothing
leftover_in (v ∷ vs) = cond (is_nothing (leftover v)) (leftover_in vs) (leftover v)

abbrev pub leftover_all : Words → Option Leftover
leftover_all t = leftover_in (trees t)

-- all but at most one are settled
unfoldable pub one_left : List View → Bool
one_left [] = true
one_left (v ∷ vs) = cond (settled_view v) (one_left vs) (all settled_view vs)

-- Each tree is sound, no node is reached from both roots, and at most one leftover exists in the whole table.
unfoldable pub sound : Words → Bool
sound t = header_ok t && (all sound_view (trees t) && (distinct (reached_all t) && one_left (trees t)))

unfoldable pub settled : Words → Bool
settled t = header_ok t && (all settled_view (trees t) && distinct (reached_all t))
