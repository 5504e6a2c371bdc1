-- Document 01, "Drawings that do not hold": beside each right list or definition the drawn one, and a table on which that goes wrong; and
-- for
-- request 7 dock 1 without barriers.
use Rattle.std.proofs.Common.{◌≡◌, ℕ, suc, ◌+◌, ◌*◌, Bool, true, false, cond, eqb, List, [], ◌∷◌, ◌++◌, map, length, take, drop, set}
use Rattle.std.proofs.Common.{replicate, sym, refl, ap, ◌∙◌, inl, inr}
use mathlib.Core.Bool.{false≢true}
use Rattle.model.specs.declared.Answer.TheVariants.{Found, Absent}
use Rattle.std.specs.Prelude.{Some, None}
use Rattle.model.specs.Table.{MARK, Words, nodes, root, empty, node_start, line}
use Rattle.model.specs.Slots.{Slot, slot, View, view, used, node_view}
use Rattle.model.specs.Search.{search_view, search}
use Rattle.model.specs.Reached.{mapping, map_of, Maps, maps_of}
use Rattle.model.specs.SoundTest.{settled, sound}
use Rattle.model.specs.Orders.{Store, put, Order, store, flush, barrier, without_barriers, apply}
use Rattle.model.specs.Cuts.{CutImage}
use Rattle.model.specs.Shifts.{SlotStore, key_to, pointer_to, in_node, pointer_word, move_up}
use Rattle.model.specs.Writes.{numbers, Call, insertion, deletion, stores_of}
use Rattle.model.specs.Refusals.{has_key, refusal, orders_of, table_after}
use Rattle.model.specs.Ledger.{change}
use Rattle.model.proofs.Everything.{everything}
use Rattle.view_laws.proofs.NodeViews.{showing}
use Rattle.cut_laws.proofs.Cuts.{image-is-stores}
use Rattle.two_laws.proofs.AcceptedTwo.{accepted-iff}
use Rattle.model.specs.Judge.{OldOrNew}
use Rattle.two_laws.proofs.MapsTwo.{accepted-steps}
use Rattle.two_laws.proofs.DocksTwo.{call-without}
use Rattle.crash_laws.proofs.Images.{values, with_line, image_by, image_of, image_of-image, image_with, image_with-image}

-- ---- the tables

-- a table after calls, the first one first
unfoldable pub after_calls : List Call → Words → Words
after_calls [] t = t
after_calls (x ∷ xs) t = after_calls xs (table_after x 2560 0 t)

-- insertions of 10, 20, .., with the recordings 101, 102, ..; and deletions of such keys
unfoldable pub insert_tens : List ℕ → List Call
insert_tens ns = map (λ (i : ℕ). insertion 1 (10 * i) (100 + i) 0) ns

unfoldable pub delete_tens : List ℕ → List Call
delete_tens ns = map (λ (i : ℕ). deletion 1 (10 * i)) ns

-- a leaf with (20, 102) (30, 103); slot 2 is free, and its key word still has 40, which was deleted
unfoldable pub two_slots : Words
two_slots = after_calls (insert_tens (2 ∷ 3 ∷ 4 ∷ []) ++ delete_tens (4 ∷ [])) (empty 1)

abbrev pub two_pairs : List Slot
two_pairs = slot 20 102 ∷ slot 30 103 ∷ []

-- a full root leaf, keys 10 to 110, in a table of 3 nodes
unfoldable pub full_leaf : Words
full_leaf = after_calls (insert_tens (numbers 1 11)) (empty 3)

abbrev pub next_key : Call
next_key = insertion 1 120 112 0

-- a map that lacks a key of the old and of the new one is neither
neither-map : (k : ℕ) (x : Call) (t u : Words) → has_key k (maps_of u).one ≡ false → has_key k (maps_of t).one ≡ true
    → has_key k (change x (maps_of t)).one ≡ true
    → OldOrNew x t u → ⊥
neither-map k x t u a b c (inl e) = false≢true (sym a ∙ ap (λ (m : Maps). has_key k m.one) e ∙ b)
neither-map k x t u a b c (inr e) = false≢true (sym a ∙ ap (λ (m : Maps). has_key k m.one) e ∙ c)

-- ---- the key copied before the pointer on the way right

-- as move_up, but for the order of the two stores of a slot
unfoldable pub key_first : ℕ → List Slot → List SlotStore
key_first i [] = []
key_first i (s ∷ ss) = key_first (suc i) ss ++ (key_to (suc i) s.key ∷ pointer_to (suc i) s.pointer ∷ [])

-- inserting 10 with 101 into the two slots, moved up by one rule or the other
unfoldable pub shift_by : (ℕ → List Slot → List SlotStore) → List Store
shift_by up = map (in_node 1) (pointer_to 3 0 ∷ (up 0 two_pairs ++ (pointer_to 0 MARK ∷ key_to 0 10 ∷ pointer_to 0 101 ∷ [])))

-- the map after each first part of the stores, from none to all
unfoldable pub maps_of_parts : List Store → Words → List (List Slot)
maps_of_parts ss t = map (λ (j : ℕ). map_of 1 (apply (take j ss) t)) (numbers 0 (suc (length ss)))

abbrev pub key_first_cut : Words
key_first_cut = apply (take 4 (shift_by key_first)) two_slots

pub record KeyFirst : Type 0 where
  -- pointer first: the call's own list; the old map until the last store, then the new one
  pub right-list : shift_by move_up ≡ stores_of (insertion 1 10 101 0) two_slots
  pub right-maps : maps_of_parts (shift_by move_up) two_slots ≡ replicate 8 two_pairs ++ ((slot 10 101 ∷ two_pairs) ∷ [])
  -- key first: a shown slot pairs 20 with the recording of 30, and 30 is lost
  pub wrong-pair : map_of 1 key_first_cut ≡ slot 20 102 ∷ slot 20 103 ∷ []
  pub lost : search 1 key_first_cut 30 ≡ Absent None
  pub neither : OldOrNew (insertion 1 10 101 0) two_slots key_first_cut → ⊥
  pub unsound : sound key_first_cut ≡ false

pub key-first : KeyFirst
unfolding everything after_calls insert_tens delete_tens two_slots key_first shift_by maps_of_parts
key-first = record {
  right-list = refl;
  right-maps = refl;
  wrong-pair = refl;
  lost = refl;
  neither = neither-map 30 (insertion 1 10 101 0) two_slots key_first_cut refl refl refl;
  unsound = refl;
}

-- ---- a sibling judged by its first key

-- the first key of these slots; d where there is none
abbrev pub first_key : ℕ → List Slot → ℕ
first_key d [] = d
first_key d (s ∷ ss) = s.key

-- what a search reads, with first keys for fences
unfoldable pub by_first_key : (d : ℕ) → View → View
by_first_key d v =
    record {
      nodes = v.nodes;
      root = v.root;
      node = λ (i : ℕ). (let n = v.node i in record {
        left = n.left;
        sibling = n.sibling;
        level = n.level;
        fence = first_key d n.shown;
        shown = n.shown;
        hidden = n.hidden;
        clear = n.clear;
      });
    }

-- leaf A with keys 10 to 50, and its sibling B, with fence 60, emptied by deletions, the last of them cut before it frees B
unfoldable pub emptied : Words
emptied = let t = after_calls (next_key ∷ delete_tens (numbers 6 6)) full_leaf in apply (take 2 (stores_of (deletion 1 120) t)) t

-- B, with fence 60 and no slots, lacks its slot in the parent, and A still shows its old slots 60 to 110
unfoldable pub trailing : Words
trailing = set (apply (take 66 (stores_of next_key full_leaf)) full_leaf) (pointer_word 3 0) 0

pub record FirstKey : Type 0 where
  -- no key read as 0: the search for 50 leaves A for the empty B
  pub emptied-settled : settled emptied ≡ true
  pub finds-fifty : search 1 emptied 50 ≡ Found 105 0
  pub misses-fifty : search_view (by_first_key 0 (view emptied)) 50 ≡ Absent None
  -- no key read as the largest: the search for 60 stays in A and finds what the map does not have
  pub trailing-sound : sound trailing ≡ true
  pub sixty-absent : search 1 trailing 60 ≡ Absent None
  pub finds-sixty : search_view (by_first_key MARK (view trailing)) 60 ≡ Found 106 0

pub first-key : FirstKey
unfolding everything after_calls insert_tens delete_tens full_leaf by_first_key emptied trailing
first-key = record {
  emptied-settled = refl;
  finds-fifty = refl;
  misses-fifty = refl;
  trailing-sound = refl;
  sixty-absent = refl;
  finds-sixty = refl;
}

-- ---- hiding by equal keys

-- a slot is hidden if its key equals the key before it
unfoldable pub shown_after : (k : ℕ) → List Slot → List Slot
shown_after k [] = []
shown_after k (s ∷ ss) = cond (eqb s.key k) (shown_after s.key ss) (s ∷ shown_after s.key ss)

unfoldable pub shown_by_keys : List Slot → List Slot
shown_by_keys [] = []
shown_by_keys (s ∷ ss) = s ∷ shown_after s.key ss

unfoldable pub hiding_by_keys : Words → View
hiding_by_keys t = record
    { nodes = nodes t; root = root t; node = λ (i : ℕ). showing (node_view t i) (shown_by_keys (used t i)) (node_view t i).hidden }

-- a shift in that was cut after its second store: slot 2 has the pointer of slot 1, and the key of the deleted pair
abbrev pub shift_cut : Words
shift_cut = apply (take 2 (stores_of (insertion 1 10 101 0) two_slots)) two_slots

pub record EqualKeys : Type 0 where
  pub right-map : map_of 1 shift_cut ≡ two_pairs
  pub right-answer : search 1 shift_cut 40 ≡ Absent None
  -- the deleted code 40 leads to its neighbour's recording
  pub wrong-map : mapping (hiding_by_keys shift_cut) ≡ two_pairs ++ (slot 40 103 ∷ [])
  pub wrong-answer : search_view (hiding_by_keys shift_cut) 40 ≡ Found 103 0

pub equal-keys : EqualKeys
unfolding everything after_calls insert_tens delete_tens two_slots shown_after shown_by_keys hiding_by_keys
equal-keys = record { right-map = refl; right-answer = refl; wrong-map = refl; wrong-answer = refl }

-- ---- B linked before its last line is flushed

-- the flush of line l comes after the store that follows it
unfoldable pub flush_later : (l : ℕ) → List Order → List Order
flush_later l [] = []
flush_later l (o ∷ []) = o ∷ []
flush_later l (store s ∷ o ∷ os) = store s ∷ flush_later l (o ∷ os)
flush_later l (barrier ∷ o ∷ os) = barrier ∷ flush_later l (o ∷ os)
flush_later l (flush k ∷ o ∷ os) = cond (eqb k l) (o ∷ flush k ∷ os) (flush k ∷ flush_later l (o ∷ os))

-- the full leaf, where node 3, which is not reached, holds something in its last word
unfoldable pub junk : Words
junk = set full_leaf (node_start 3 + 31) 9

abbrev pub last_line : ℕ
last_line = 12

-- of that line nothing arrives, of every other all
abbrev pub but_last : ℕ → ℕ
but_last l = cond (eqb l last_line) 0 100

unfoldable pub early_link : List Order
early_link = flush_later last_line (orders_of next_key 0 junk)

abbrev pub right_image : Words
right_image = image_of but_last junk (take 75 (orders_of next_key 0 junk))

abbrev pub wrong_image : Words
wrong_image = image_of but_last junk (take 74 early_link)

pub record EarlyLink : Type 0 where
  pub junk-settled : settled junk ≡ true
  pub last-line : line (node_start 3 + 31) ≡ last_line
  -- the flush, then the link
  pub right-orders : take 2 (drop 73 (orders_of next_key 0 junk)) ≡ flush last_line ∷ store (put (node_start 1 + 1) 3) ∷ []
  pub right-image : CutImage 0 75 junk (orders_of next_key 0 junk) right_image
  pub right-sound : sound right_image ≡ true
  -- the link, then the flush: the cut leaves a reached node with what was there before, and every later write is refused
  pub wrong-orders : take 2 (drop 73 early_link) ≡ store (put (node_start 1 + 1) 3) ∷ flush last_line ∷ []
  pub wrong-image : CutImage 0 74 junk early_link wrong_image
  pub unsound : sound wrong_image ≡ false
  pub refused : refusal next_key 2560 0 wrong_image ≡ 4

pub early-link : EarlyLink
unfolding everything after_calls insert_tens full_leaf values with_line image_by flush_later junk early_link
early-link = record {
  junk-settled = refl;
  last-line = refl;
  right-orders = refl;
  right-image = image_of-image but_last junk (take 75 (orders_of next_key 0 junk));
  right-sound = refl;
  wrong-orders = refl;
  wrong-image = image_of-image but_last junk (take 74 early_link);
  unsound = refl;
  refused = refl;
}

-- ---- lines flushed at the end only

unfoldable pub flushed_at_end : List Store → List Order
flushed_at_end ss = map store ss ++ map (λ (s : Store). flush (line s.word)) ss

-- of the line with A's sibling all arrives, of every other nothing
abbrev pub only_link : ℕ → ℕ
only_link l = cond (eqb l 1) 100 0

abbrev pub ordered_image : Words
ordered_image = image_of only_link full_leaf (take 75 (orders_of next_key 0 full_leaf))

abbrev pub unordered_image : Words
unordered_image = image_of only_link full_leaf (take 66 (flushed_at_end (stores_of next_key full_leaf)))

pub record FlushedAtEnd : Type 0 where
  -- each line before the next: the link arrives after B, and all eleven pairs stay
  pub right-image : CutImage 0 75 full_leaf (orders_of next_key 0 full_leaf) ordered_image
  pub right-map : map_of 1 ordered_image ≡ map (λ (i : ℕ). slot (10 * i) (100 + i)) (numbers 1 11)
  pub right-sound : sound ordered_image ≡ true
  -- the link arrives before B, whose fence is still 0: every pair is lost
  pub wrong-image : CutImage 0 66 full_leaf (flushed_at_end (stores_of next_key full_leaf)) unordered_image
  pub lost : map_of 1 unordered_image ≡ []
  pub lost-ten : search 1 unordered_image 10 ≡ Absent None
  pub neither : OldOrNew next_key full_leaf unordered_image → ⊥

pub flushed-at-end : FlushedAtEnd
unfolding everything after_calls insert_tens full_leaf values with_line image_by flushed_at_end
flushed-at-end = record {
  right-image = image_of-image only_link full_leaf (take 75 (orders_of next_key 0 full_leaf));
  right-map = refl;
  right-sound = refl;
  wrong-image = image_of-image only_link full_leaf (take 66 (flushed_at_end (stores_of next_key full_leaf)));
  lost = refl;
  lost-ten = refl;
  neither = neither-map 10 next_key full_leaf unordered_image refl refl refl;
}

-- ---- dock 1 without barriers

abbrev pub lowest : Call
lowest = insertion 1 10 101 0

-- of the eight stores, all to one line, the sixth arrives alone, which hides slot 0 before its pair was moved up
abbrev pub sixth_alone : ℕ → List Bool
sixth_alone l = false ∷ false ∷ false ∷ false ∷ false ∷ true ∷ []

abbrev pub unbarred_image : Words
unbarred_image = image_with sixth_alone two_slots (take 8 (orders_of lowest 0 two_slots))

pub record NoBarriers : Type 0 where
  pub accepted : refusal lowest 5120 1 two_slots ≡ 0
  -- a barrier after each store: whatever arrives, the map is the old one or the new one
  pub right-list : without_barriers (orders_of lowest 1 two_slots) ≡ orders_of lowest 0 two_slots
  pub right-images : (c : ℕ) (m : Words) → CutImage 1 c two_slots (orders_of lowest 1 two_slots) m → OldOrNew lowest two_slots m
  -- the same list without them: 20 is lost
  pub wrong-image : CutImage 1 8 two_slots (orders_of lowest 0 two_slots) unbarred_image
  pub lost : search 1 unbarred_image 20 ≡ Absent (Some 30)
  pub neither : OldOrNew lowest two_slots unbarred_image → ⊥

-- the images of an accepted call's list
old-or-new : (x : Call) (words dock : ℕ) (t : Words) → refusal x words dock t ≡ 0 → (c : ℕ) (m : Words)
    → CutImage dock c t (orders_of x dock t) m → OldOrNew x t m
old-or-new x words dock t ok c m i =
    let p = image-is-stores dock (stores_of x t) t c m i in
    rw p.2 ((accepted-steps x words dock t ((accepted-iff x words dock t).0 ok).sound ok).part-map p.0)

lowest-accepted : refusal lowest 5120 1 two_slots ≡ 0
unfolding everything after_calls insert_tens delete_tens two_slots
lowest-accepted = refl

pub no-barriers : NoBarriers
unfolding everything after_calls insert_tens delete_tens two_slots values with_line image_by
no-barriers = record {
  accepted = lowest-accepted;
  right-list = call-without lowest 1 two_slots;
  right-images = old-or-new lowest 5120 1 two_slots lowest-accepted;
  wrong-image = image_with-image sixth_alone two_slots (take 8 (orders_of lowest 0 two_slots));
  lost = refl;
  neither = neither-map 20 lowest two_slots unbarred_image refl refl refl;
}
