-- Shift in, shift out, close and cut seen by the view of the table, store by store: of every other node nothing changes.
use Rattle.std.proofs.Common.{◌≡◌, ℕ, ◌<◌, ◌≤◌, true, ◌&&◌, eqb, List, length, take, set, sym, refl, ◌∙◌, arith, length-drop, length-take}
use Rattle.model.specs.Table.{Words, has_node, node_start, node, spare, all_zero}
use Rattle.model.specs.Slots.{Slot, slots_of, clear_in, used, node_view}
use Rattle.model.specs.Shifts.{SlotStore, pointer_to, pointer_word, shift_in, shift_out, close, place_of, hidden_place}
use Rattle.model.specs.Writes.{shift_in_at, shift_out_at, close_at}
use Rattle.list_laws.proofs.Tools.{decode, Each}
use Rattle.view_laws.proofs.NodeViews.{ButAt, showing}
use Rattle.list_laws.proofs.Slots.{place-length}
use Rattle.list_laws.proofs.Steps.{Until, Along, AtFirst, until-both, first-both}
use Rattle.table_laws.proofs.Nodes.{has-node-iff}
use Rattle.slot_laws.proofs.Hiding.{Used, parts, shown-used, AllShown, Shows, MayHide, in-use-before, shown-and-hidden}
use Rattle.slot_laws.proofs.SlotStores.{set_pointer, do_slot_store, pointer_at, KeepsZero, keeps-zero}
use Rattle.slot_laws.proofs.Shifts.{put_in, take_out, shape-of, shift-in-slots, shift-out-slots, close-slots, cut-slots, other-slots}
use Rattle.slot_laws.proofs.Places.{hidden-place-lt, shift-in-places, shift-out-places, close-places, shift-in-zero, shift-out-zero}
use Rattle.slot_laws.proofs.Places.{close-zero, zero-along}
use Rattle.word_laws.proofs.Stores.{do_store}
use Rattle.word_laws.proofs.Frames.{SameHeader, else-header}
use Rattle.word_laws.proofs.SlotWords.{at-pointer, length-slots}
use Rattle.word_laws.proofs.SlotRuns.{Only, only-start, only-put, node-slots, run, run-first}
use Rattle.word_laws.proofs.Views.{holding, only-elsewhere, only-view}

-- t' is t but that node x shows ss and hides h slots
pub record Changed (t : Words) (x : ℕ) (ss : List Slot) (h : ℕ) (t' : Words) : Type 0 where
  pub header : SameHeader t t'
  pub node : ButAt (node_view t) (node_view t') x (showing (node_view t x) ss h)

-- what node x shows with (k, y) at its place, and without the slot at the place of k
abbrev pub with_slot : Words → (x k y : ℕ) → List Slot
with_slot t x k y = put_in (place_of k (node_view t x).shown) k y (node_view t x).shown

-- what node x shows, without the slot at the place of k
abbrev pub without_slot : Words → (x k : ℕ) → List Slot
without_slot t x k = take_out (place_of k (node_view t x).shown) (node_view t x).shown

-- the shown slots of a node are in use, and where none is hidden they are all that is in use
pub view-used : (t : Words) (n : ℕ) → Each Used (node_view t n).shown
unfolding used
view-used t n = shown-used (node_view t n).left (used t n) (parts (slots_of (node t n).slots)).used

-- if a node hides no slot, its shown slots are in use and no pointer equals the one before it
pub view-shown : (t : Words) (n : ℕ) → (node_view t n).hidden ≡ 0 → AllShown (node_view t n).left (node_view t n).shown
unfolding used
view-shown t n h = (shape-of (node_view t n).left (node_view t n).shown (slots_of (node t n).slots)
    (record { shows = refl; hides = h })).shown-all

-- a clear node has at most 11 slots in use
pub used-few : (t : Words) (n : ℕ) → (node_view t n).clear ≡ true → length (used t n) ≤ 11
unfolding clear_in used
used-few t n c = in-use-before (slots_of (node t n).slots) 11 (sym (at-pointer 11 (node t n).slots) ∙ (simp decode at c).1)

-- a clear node shows at most 11 slots
pub shown-few : (t : Words) (n : ℕ) → (node_view t n).clear ≡ true → length (node_view t n).shown ≤ 11
shown-few t n c = omega (arith, used-few t n c, shown-and-hidden (node_view t n).left (used t n))

-- ---- a clear node x of t, and its slots

abbrev slots_in : Words → ℕ → List Slot
slots_in t x = slots_of (node t x).slots

-- the slots all show ss and hide h, and slot 11's pointer is 0
abbrev Fits : Words → ℕ → List Slot → ℕ → List Slot → Type 0
Fits t x ss h all = Shows (node_view t x).left ss h all × (pointer_at all 11 ≡ 0)

module _ (t : Words) (x : ℕ) (i : has_node t x ≡ true) (c : (node_view t x).clear ≡ true) where
  slots-long : length (slots_in t x) ≡ 12
  unfolding node_start
  slots-long = let u =
      (has-node-iff t x).0 i in length-slots 12 (node t x).slots (rw (node-slots t x i) (simp (length-take, length-drop) (omega arith)))

  last-zero : pointer_at (slots_in t x) 11 ≡ 0
  unfolding clear_in
  last-zero = sym (at-pointer 11 (node t x).slots) ∙ (simp decode at c).1

  start : (h : ℕ) → (node_view t x).hidden ≡ h → Shows (node_view t x).left (node_view t x).shown h (slots_in t x)
  unfolding used
  start h e = record { shows = refl; hides = e }

  still-clear : (all : List Slot) → pointer_at all 11 ≡ 0 → (all_zero (spare t x) && eqb (pointer_at all 11) 0) ≡ clear_in t x
  unfolding clear_in
  still-clear all z = simp decode ((simp decode at c).0, z) ∙ sym c

  held : (ss : List Slot) (h : ℕ) (all : List Slot) → Fits t x ss h all → holding t x all ≡ showing (node_view t x) ss h
  held ss h all f =
      let n = node t x in
      λ i. record {
        left = n.left;
        sibling = n.sibling;
        level = n.level;
        fence = n.fence;
        shown = f.0.shows i;
        hidden = f.0.hides i;
        clear = still-clear all f.1 i;
      }

  changed : (ss : List Slot) (h : ℕ) (t' : Words) (all : List Slot) → Only t t' x all → Fits t x ss h all → Changed t x ss h t'
  changed ss h t' all o f =
      let u = only-view t t' x all i o in
      record {
        header = else-header t t' x (only-elsewhere t t' x all i o);
        node = record { else = u.else; here = u.here ∙ held ss h all f };
      }

  -- a run of stores to the slots of x that leaves slot 11's pointer 0
  abbrev Zero : List Slot → Type 0
  Zero all = pointer_at all 11 ≡ 0

  zeros : (qs : List SlotStore) → Each (KeepsZero 11) qs → Along do_slot_store Zero qs (slots_in t x)
  zeros qs k = zero-along 11 qs (slots_in t x) k last-zero

  -- Each store of a close leaves the view of every other node, and what node x shows; the slot is hidden until the last store.
  pub close-view : (node_view t x).hidden ≡ 1
      → Until do_store (Changed t x (node_view t x).shown 1) (Changed t x (node_view t x).shown 0) (close_at t x) t
  unfolding close_at used
  close-view h =
      let ss = (node_view t x).shown in
      let l = (node_view t x).left in
      let us = used t x in
      let qs = close us (hidden_place l us) in
      let p = hidden-place-lt l us h in
      run t x (Fits t x ss 1) (Fits t x ss 0) (Changed t x ss 1) (Changed t x ss 0) i (changed ss 1) (changed ss 0) qs t (slots_in t x)
      (close-places us (hidden_place l us) 12 p (omega (arith, used-few t x c))) (only-start t x)
      (until-both do_slot_store (Shows l ss 1) Zero (Shows l ss 0) Zero qs (slots_in t x) (close-slots l (slots_in t x) h)
      (zeros qs (close-zero us (hidden_place l us) 11 p (used-few t x c))))

  -- Storing 0 in the pointer of slot p, where nothing is hidden, leaves node x with the slots before it.
  pub cut-view : (p : ℕ) → (node_view t x).hidden ≡ 0 → p < length (node_view t x).shown
      → Changed t x (take p (node_view t x).shown) 0 (set t (pointer_word x p) 0)
  cut-view p h l =
      let ss = (node_view t x).shown in
      let few : p < 12 = omega (arith, shown-few t x c) in
      changed (take p ss) 0 (set t (pointer_word x p) 0) (set_pointer (slots_in t x) p 0)
      (only-put t t x (slots_in t x) (pointer_to p 0) i few (only-start t x)) (
        cut-slots (node_view t x).left ss (slots_in t x) p (start 0 h) l,
        keeps-zero 11 (pointer_to p 0) (slots_in t x) (λ e. refl) last-zero,
      )

  -- Storing y in the pointer of slot p, where nothing is hidden and nothing is with it, leaves node x with that pointer there.
  pub pointer-view : (p y : ℕ) → (node_view t x).hidden ≡ 0 → p < length (node_view t x).shown
      → AllShown (node_view t x).left (set_pointer (node_view t x).shown p y)
      → Changed t x (set_pointer (node_view t x).shown p y) 0 (set t (pointer_word x p) y)
  pointer-view p y h l a =
      let ss = (node_view t x).shown in
      let few : p < 11 = omega (arith, shown-few t x c) in
      changed (set_pointer ss p y) 0 (set t (pointer_word x p) y) (set_pointer (slots_in t x) p y)
      (only-put t t x (slots_in t x) (pointer_to p y) i (omega arith) (only-start t x)) (
        other-slots (node_view t x).left ss (slots_in t x) p y (start 0 h) l a,
        keeps-zero 11 (pointer_to p y) (slots_in t x) (λ e. absurd (omega arith)) last-zero,
      )

  module _ (z : (node_view t x).left ≡ 0 → ⊥) (h : (node_view t x).hidden ≡ 0) (k : ℕ) where
    -- Each store of a shift in but the last leaves the view of every other node, and what node x shows, with one slot hidden at most; the
    -- last shows the new slot at its place.
    pub shift-in-view : (y : ℕ) → length (node_view t x).shown ≤ 10 → AllShown (node_view t x).left (with_slot t x k y)
        → Until do_store (λ (t' : Words). (h : ℕ) × (h ≤ 1) × Changed t x (node_view t x).shown h t')
        (Changed t x (with_slot t x k y) 0) (shift_in_at t x k y) t
    unfolding shift_in_at
    shift-in-view y m a =
        let l = (node_view t x).left in
        let ss = (node_view t x).shown in
        let p = place_of k ss in
        let new = with_slot t x k y in
        let qs = shift_in l ss p k y in
        let o = place-length k ss in
        run t x (λ (all : List Slot). MayHide l ss all × Zero all) (Fits t x new 0)
        (λ (t' : Words). (h : ℕ) × (h ≤ 1) × Changed t x ss h t') (Changed t x new 0) i
        (λ t' all u f. (f.0.0, f.0.1, changed ss f.0.0 t' all u (f.0.2, f.1))) (changed new 0) qs t (slots_in t x)
        (shift-in-places l ss p k y 12 o (omega arith)) (only-start t x)
        (until-both do_slot_store (MayHide l ss) Zero (Shows l new 0) Zero qs (slots_in t x)
        (shift-in-slots l ss (slots_in t x) p k y z (start 0 h) (rw slots-long (omega arith)) o a)
        (zeros qs (shift-in-zero l ss p k y 11 o (omega arith))))

    -- The first store of a shift out hides the slot in node x, and it stays hidden until the last; no store changes the view of another
    -- node.
    pub shift-out-view :
        place_of k (node_view t x).shown < length (node_view t x).shown → AllShown (node_view t x).left (without_slot t x k)
        → AtFirst do_store (Changed t x (node_view t x).shown 0) (Changed t x (without_slot t x k) 1)
        (Changed t x (without_slot t x k) 0) (shift_out_at t x k) t
    unfolding shift_out_at
    shift-out-view o a =
        let l = (node_view t x).left in
        let ss = (node_view t x).shown in
        let p = place_of k ss in
        let new = without_slot t x k in
        let qs = shift_out l ss p in
        run-first t x (Fits t x ss 0) (Fits t x new 1) (Fits t x new 0) (Changed t x ss 0) (Changed t x new 1) (Changed t x new 0) i
        (changed ss 0) (changed new 1) (changed new 0) qs t (slots_in t x)
        (shift-out-places l ss p 12 o (omega (arith, shown-few t x c))) (only-start t x)
        (first-both do_slot_store (Shows l ss 0) (Shows l new 1) (Shows l new 0) Zero qs (slots_in t x)
        (shift-out-slots l ss (slots_in t x) p z (start 0 h) o a)
        (zeros qs (shift-out-zero l ss p 11 o (shown-few t x c))))

-- a shift in is the same list of stores wherever the node's left and shown slots are the same
pub shift-in-same : (t t' : Words) (x k y : ℕ) → (node_view t' x).left ≡ (node_view t x).left → (node_view t' x).shown
    ≡ (node_view t x).shown → shift_in_at t' x k y ≡ shift_in_at t x k y
unfolding shift_in_at
shift-in-same t t' x k y l s = rw (s, l)
