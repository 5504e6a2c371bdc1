-- What it is to try a write on a table: each first part of its stores, each cut of its orders, its number; and a few trials.
use Rattle.std.proofs.Common.{◌≡◌, ℕ, suc, pred, ◌*◌, Bool, true, false, ◌&&◌, ◌||◌, eqb, List, [], ◌∷◌, ◌++◌, map, length, take, drop, set}
use Rattle.std.proofs.Common.{replicate, refl, subst, inl, inr}
use mathlib.Core.Option.{none}
use Rattle.model.specs.Results.{done_with}
use Rattle.model.specs.Scripts.{same_answer}
use Rattle.model.specs.Table.{MARK, Words, at, line, header_ok, empty}
use Rattle.model.specs.Slots.{Slot, slot, View, view}
use Rattle.model.specs.Search.{search_view, lookup}
use Rattle.model.specs.Reached.{mapping, map_of, reached, flat}
use Rattle.model.specs.SoundTest.{all, leftover, sound_view, settled_view, settled}
use Rattle.model.specs.Orders.{Store, put, apply, Order, store, flush, barrier, carry, orders, BAR, carry_number, carried_out}
use Rattle.model.specs.Cuts.{up_to_flush, later_stores, MayArrive}
use Rattle.model.specs.Shifts.{pointer_word}
use Rattle.model.specs.Writes.{node_words, Call, insertion, deletion, class_change, repair, stores_of, repair_of, numbers}
use Rattle.model.specs.Refusals.{refusal, written, list_after}
use Rattle.model.specs.Ledger.{change}
use Rattle.model.specs.Statistics.{check_number, report}
use Rattle.model.proofs.Everything.{everything}
use Rattle.model.proofs.Worked.{ten_slots}
use Rattle.model.proofs.Quick.{quick, quick-is-view}
use Rattle.model.proofs.Tables.{table_of, leaf_of, ways, stale, one_level, two_levels}

-- ---- answers, maps, words, keys

abbrev pub same_map : List Slot → List Slot → Bool
same_map [] [] = true
same_map [] (y ∷ ys) = false
same_map (x ∷ xs) [] = false
same_map (x ∷ xs) (y ∷ ys) = eqb x.key y.key && (eqb x.pointer y.pointer && same_map xs ys)

abbrev pub same_words : Words → Words → Bool
same_words [] [] = true
same_words [] (y ∷ ys) = false
same_words (x ∷ xs) [] = false
same_words (x ∷ xs) (y ∷ ys) = eqb x y && same_words xs ys

-- a key and its neighbours
abbrev pub near : ℕ → List ℕ
near k = pred k ∷ k ∷ suc k ∷ []

abbrev pub near_call : Call → List ℕ
near_call (insertion n k r c) = near k
near_call (class_change n k c) = near k
near_call (deletion n k) = near k
near_call repair = []

-- what a call of collection 1 makes of its map, where there is no other
abbrev pub changed : Call → List Slot → List Slot
changed x ps = (change x (record { one = ps; two = none })).one

-- all keys of the map and all fences, with their neighbours
abbrev pub all_keys : View → List ℕ
all_keys v = flat near (map (λ (s : Slot). s.key) (mapping v) ++ map (λ (n : ℕ). (v.node n).fence) (reached v))

-- searches answer as the map
abbrev pub answers_as : List ℕ → List Slot → View → Bool
answers_as ks ps v = all (λ (k : ℕ). same_answer (search_view v k) (lookup k ps)) ks

-- p holds after each of the stores
abbrev pub after : (Words → Bool) → List Store → Words → Bool
after p [] t = true
after p (s ∷ ss) t = let u = set t s.word s.value in p u && after p ss u

-- p holds of t and after each of the stores but the last, and q after the last
abbrev pub until : (p q : Words → Bool) → List Store → Words → Bool
until p q [] t = q t
until p q (s ∷ ss) t = let u = set t s.word s.value in p t && until p q ss u

-- ---- a call well done, where look gives the view of a table

module _ (look : Words → View) where
  abbrev pub sound_with : List Slot → Words → Bool
  sound_with ps t = let v = look t in header_ok t && (sound_view v && same_map (mapping v) ps)

  abbrev pub settled_with : List Slot → Words → Bool
  settled_with ps t = let v = look t in header_ok t && (settled_view v && same_map (mapping v) ps)

  -- every first part of a repair leaves a sound table with this map, all of it a settled one
  abbrev pub mends : List Slot → Words → Bool
  mends ps t = until (sound_with ps) (settled_with ps) (repair_of t (leftover (look t))) t

  -- t has one of the two maps, and searches answer as it; it is settled, or a repair is well done
  abbrev pub has_either : List ℕ → (old new : List Slot) → Words → Bool
  has_either ks old new t =
      let v = look t in
      let ps = mapping v in
      (same_map ps old || same_map ps new) && (answers_as ks ps v && elim (settled_view v) [ true ↦ header_ok t | false ↦ mends ps t ])

  -- The call is accepted; every first part of its stores leaves a sound table with the old map or the new one, all of them a settled
  -- one with the new map.
  abbrev pub well_done : List ℕ → Words → Call → Bool
  well_done ks t x =
      let old = mapping (look t) in
      let new = changed x old in
      let keys = near_call x ++ ks in
      eqb (refusal x 2560 0 t) 0 && until (has_either keys old new)
      (λ (u : Words). settled_with new u && answers_as keys new (look u)) (stores_of x t) t

  -- the last of it alone
  abbrev pub ends_well : Words → Call → Bool
  ends_well t x = eqb (refusal x 2560 0 t) 0 && settled_with (changed x (mapping (look t))) (apply (stores_of x t) t)

-- ---- a call cut

-- the lines of a table
abbrev pub lines_of : Words → List ℕ
lines_of t = numbers 0 (line (length t))

-- what each line held at its last flush among these orders
abbrev pub lasting : Words → List Order → Words
lasting t os = flat (λ (l : ℕ). take 8 (drop (8 * l) (carry (up_to_flush l os) t))) (lines_of t)

-- p holds of the images in which one line has some first part of its later stores, and the other lines none of theirs; and the image
-- in which all have all of theirs is the table after these orders
abbrev pub in_images : (Words → Bool) → Words → List Order → Bool
in_images p t os =
    let m = lasting t os in
    let ls = lines_of t in
    p m && (all (λ (l : ℕ). after p (later_stores l os) m) ls && same_words (apply (flat (λ (l : ℕ). later_stores l os) ls) m) (carry os t))

-- after any number of the call's orders such an image is sound, with the old map or the new one
abbrev pub cut_well : (Words → View) → Words → Call → Bool
cut_well look t x =
    let old = mapping (look t) in
    let new = changed x old in
    let os = orders (stores_of x t) in
    all (λ (c : ℕ). in_images (λ (m : Words). sound_with look old m || sound_with look new m) t (take c os)) (numbers 0 (suc (length os)))

-- ---- trials

pub data Trial : Type 0 where
  -- each of the calls is well done on the table; searches for these keys too
  done : Words → List ℕ → List Call → Trial
  -- each ends well
  ended : Words → List Call → Trial
  -- each may be cut
  cut : Words → List Call → Trial
  -- with an order list of so many words, each is answered with this number
  number : Words → (words n : ℕ) → List Call → Trial
  -- after the call these nodes are reached
  reaches : Words → Call → List ℕ → Trial

-- each case of the trial comes out as it says
abbrev pub passes : (Words → View) → Trial → Bool
passes look (done t ks xs) = all (well_done look ks t) xs
passes look (ended t xs) = all (ends_well look t) xs
passes look (cut t xs) = all (cut_well look t) xs
passes look (number t words n xs) = all (λ (x : Call). eqb (refusal x words 0 t) n) xs
passes look (reaches t x ns) = same_words (reached (look (apply (stores_of x t) t))) ns

-- the view with each node's words read once serves for the trials
pub quickly : (ts : List Trial) → all (passes quick) ts ≡ true → all (passes view) ts ≡ true
quickly ts e = subst (λ (look : Words → View). all (passes look) ts ≡ true) quick-is-view e

-- A few trials, so that each must-fail edit of this crate breaks one of them or a worked line: every cut of a shift over two lines;
-- every store of a split into a fresh node full of stale words; the splits of a full leaf and its full parent, beside emptied leaves;
-- every store of deletions that empty a first, a middle and a last leaf, and which nodes are reached then. The other trials are in the
-- crate `trials`.
abbrev pub few_trials : List Trial
few_trials =
    cut (one_level 4 []) (insertion 1 5 7 0 ∷ [])
    ∷ done (two_levels (11 ∷ []) [] (stale 1)) (10 ∷ 60 ∷ 110 ∷ []) (insertion 1 115 7 0 ∷ [])
    ∷ ended (two_levels (0 ∷ 0 ∷ 0 ∷ 0 ∷ 0 ∷ 11 ∷ 0 ∷ 0 ∷ 0 ∷ 0 ∷ 0 ∷ 0 ∷ []) (ways 2 11) (stale 3)) (insertion 1 1000 7 0 ∷ [])
    ∷ done (two_levels (1 ∷ 1 ∷ 1 ∷ []) (ways 2 2) []) (200 ∷ 400 ∷ []) (deletion 1 10 ∷ deletion 1 210 ∷ deletion 1 410 ∷ [])
    ∷ reaches (two_levels (1 ∷ 1 ∷ 1 ∷ []) (ways 2 2) []) (deletion 1 10) (4 ∷ 1 ∷ 2 ∷ 3 ∷ [])
    ∷ reaches (two_levels (1 ∷ 1 ∷ 1 ∷ []) (ways 2 2) []) (deletion 1 210) (4 ∷ 1 ∷ 3 ∷ [])
    ∷ reaches (two_levels (1 ∷ 1 ∷ 1 ∷ []) (ways 2 2) []) (deletion 1 410) (4 ∷ 1 ∷ 2 ∷ [])
    ∷ []

pub few-trials : all (passes view) few_trials ≡ true
unfolding everything ten_slots quick
few-trials = quickly few_trials refl

-- ---- two collections

-- the root of collection 1 is leaf 3, that of collection 2 the full leaf 2; nodes 1 and 4 are free
abbrev pub beside_full : Words
beside_full = set (table_of 3 (stale 1 ++ (node_words MARK 0 0 0 (ten_slots 11 1) ∷ leaf_of 1 0 2 ∷ stale 1))) 3 2

abbrev pub grown : Words
grown = apply (stores_of (insertion 2 115 7 0) beside_full) beside_full

-- The second collection's new root stands in word 3, in a node that neither root reaches, and the first stays. A repair mends the second
-- tree.
pub record Beside : Type 0 where
  pub roots : (settled grown ≡ true) × (map (at grown) (1 ∷ 3 ∷ []) ≡ 3 ∷ 4 ∷ [])
  pub maps : (map_of 1 grown ≡ map_of 1 beside_full) × (length (map_of 2 grown) ≡ 12)
  pub mended : settled (apply (stores_of repair (set beside_full (pointer_word 2 4) 104)) (set beside_full (pointer_word 2 4) 104)) ≡ true

pub few-beside : Beside
unfolding everything ten_slots
few-beside = record { roots = (refl, refl); maps = (refl, refl); mended = refl }

-- ---- the report of a check

-- leaf 3 has no slot in the root, node 1, and leaf 2 still shows two slots that are its own
abbrev pub trailing_leaf : Words
trailing_leaf =
    table_of 1 (node_words 2 0 1 0 [] ∷ node_words MARK 3 0 0 (slot 10 1 ∷ slot 20 2 ∷ slot 50 5 ∷ slot 60 6 ∷ [])
    ∷ node_words MARK 0 0 50 (slot 50 5 ∷ slot 60 6 ∷ []) ∷ stale 1)

pub record Reported : Type 0 where
  -- slot 4 of node 2 is hidden, in the second collection; nodes 1 and 4 are free; 2 codes in the first, 10 in the second
  pub hidden : report (set beside_full (pointer_word 2 4) 104) ≡ (1 ∷ 2 ∷ 2 ∷ 4 ∷ 0 ∷ 0 ∷ 0 ∷ 0 ∷ [])
      ++ (4 ∷ 2 ∷ 1 ∷ 2 ∷ 1 ∷ 1 ∷ 10 ∷ 1 ∷ [])
  -- leaf 3 lacks its slot, 2 slots of leaf 2 trail; 4 codes in 3 nodes on 2 levels
  pub missing : report trailing_leaf ≡ (2 ∷ 1 ∷ 0 ∷ 0 ∷ 3 ∷ 2 ∷ 1 ∷ 2 ∷ []) ++ (4 ∷ 1 ∷ 3 ∷ 4 ∷ 2 ∷ 0 ∷ 0 ∷ 0 ∷ [])
  -- 2 before 4
  pub numbers : (check_number trailing_leaf ≡ 0) × (check_number (set (set trailing_leaf 10 5) 0 2) ≡ 2)
      × (check_number (set trailing_leaf 10 5) ≡ 4)

pub few-reported : Reported
unfolding everything ten_slots
few-reported = record { hidden = refl; missing = refl; numbers = (refl, refl, refl) }

-- ---- docks

abbrev pub first_pair : Call
first_pair = insertion 1 5 7 0

-- word MARK − 1 and 1: a store that no table has room for
abbrev pub no_barrier : Words
no_barrier = BAR ∷ 1 ∷ []

-- stores to words 0 and 1, then a barrier, then one to word 2
abbrev pub loose : List Order
loose = store (put 0 7) ∷ store (put 1 8) ∷ barrier ∷ store (put 2 9) ∷ []

pub record Docked : Type 0 where
  -- each store, then its barrier; the flush; other words stay
  pub listed : list_after first_pair (replicate 5120 3) 1 (empty 1)
      ≡ (19 ∷ 0 ∷ BAR ∷ 0 ∷ 17 ∷ MARK ∷ BAR ∷ 0 ∷ 16 ∷ 5 ∷ BAR ∷ 0 ∷ 17 ∷ 7 ∷ BAR ∷ 0 ∷ MARK ∷ 2 ∷ []) ++ replicate 5102 3
  pub counted : (written first_pair 5120 1 (empty 1) ≡ done_with 4 1 4) × (written first_pair 2560 0 (empty 1) ≡ done_with 4 1 0)
  -- 4, then 18, then 5, by the dock
  pub unsound-first : refusal first_pair 0 2 (set (empty 1) 10 1) ≡ 4
  pub no-dock : refusal first_pair 0 2 (empty 1) ≡ 18
  pub short : (refusal first_pair 5119 1 (empty 1) ≡ 5) × (refusal first_pair 2559 0 (empty 1) ≡ 5)
  -- a barrier lies in every table, and carry-out passes over it; with another second word it is a store outside
  pub passed-over : (carry_number 1 (BAR ∷ 0 ∷ []) (empty 1) ≡ 0) × (carried_out 1 (BAR ∷ 0 ∷ []) (empty 1) ≡ empty 1)
  pub outside : (carry_number 1 no_barrier (empty 1) ≡ 13) × (carry_number 0 no_barrier (empty 1) ≡ 0)
  -- between two barriers any choice may arrive, after a barrier nothing without all before it
  pub second-alone : MayArrive 1 0 loose (put 1 8 ∷ [])
  pub all-and-third : MayArrive 1 0 loose (put 0 7 ∷ put 1 8 ∷ put 2 9 ∷ [])

pub few-docked : Docked
unfolding everything
few-docked = record {
  listed = refl;
  counted = (refl, refl);
  unsound-first = refl;
  no-dock = refl;
  short = (refl, refl);
  passed-over = (refl, refl);
  outside = (refl, refl);
  second-alone = record { before = []; rest = loose; marks = false ∷ true ∷ []; parted = refl; up-to = inr refl; holds = refl };
  all-and-third = record {
    before = take 3 loose;
    rest = drop 3 loose;
    marks = true ∷ [];
    parted = refl;
    up-to = inl (take 2 loose, refl);
    holds = refl;
  };
}

-- ---- later stores

-- stores to lines 1 and 2, and a flush of line 1 after the first
abbrev pub flushed_once : List Order
flushed_once = store (put 8 1) ∷ flush 1 ∷ store (put 9 2) ∷ store (put 16 3) ∷ barrier ∷ store (put 8 4) ∷ []

pub record Later : Type 0 where
  -- of a line the stores to it after its last flush; with none, all stores to it
  pub after-flush : later_stores 1 flushed_once ≡ put 9 2 ∷ put 8 4 ∷ []
  pub unflushed : (later_stores 2 flushed_once ≡ put 16 3 ∷ []) × (later_stores 0 flushed_once ≡ [])
  pub up-to : up_to_flush 1 flushed_once ≡ store (put 8 1) ∷ flush 1 ∷ []

pub few-later : Later
unfolding everything
few-later = record { after-flush = refl; unflushed = (refl, refl); up-to = refl }
