-- The shifts of a node of the table, as those of the record read from it.
use Rattle.std.proofs.Common.{◌≡◌, ℕ, ◌+◌, ◌*◌, ◌<◌, Bool, true, false, eqb, List, [], ◌∷◌, map, length, refl, ap, ◌∙◌, arith}
use Rattle.model.specs.declared.Node.{Node}
use Rattle.model.specs.Table.{Words, at, node_start, has_node, node}
use Rattle.model.specs.Slots.{Slot, with_class, shown, hidden_slots, used, node_view, view}
use Rattle.model.specs.Shifts.{SlotStore, key_to, pointer_to, in_node, place_of, hidden_place}
use Rattle.model.specs.Writes.{shift_in_at, shift_out_at, set_class_at, close_at, cut_off, attach, child_before}
use Rattle.node.specs.Word.{start_of, word_of}
use Rattle.node.proofs.Answers.{start-some}
use Rattle.node.proofs.WordLaws.{word-sibling, word-fence}
use Rattle.slots.specs.Scan.{in_use_of}
use Rattle.slots.proofs.Places.{in-use-short, in-use-at}
use Rattle.shift.specs.declared.Opened.{Opened}
use Rattle.shift.specs.declared.Place.{Place}
use Rattle.shift.specs.Stores.{Opens, held, PlaceOf, in_from, slot_in, slot_out, gap_closed}

in-node-from : (n : ℕ) (ss : List SlotStore) → map (in_node n) ss ≡ map (in_from (node_start n)) ss
in-node-from n [] = refl
in-node-from n (key_to i x ∷ ss) = rw (in-node-from n ss)
in-node-from n (pointer_to i x ∷ ss) = rw (in-node-from n ss)

-- where nothing is hidden all slots in use are shown
pub shown-all : (p : ℕ) (ss : List Slot) → length (hidden_slots p ss) ≡ 0 → shown p ss ≡ ss
unfolding shown hidden_slots
shown-all p [] h = refl
shown-all p (s ∷ ss) h = go (eqb s.pointer p) refl h (shown-all s.pointer ss)
  where
    go : (b : Bool) → eqb s.pointer p ≡ b → length (hidden_slots p (s ∷ ss)) ≡ 0
        → (length (hidden_slots s.pointer ss) ≡ 0 → shown s.pointer ss ≡ ss) → shown p (s ∷ ss) ≡ s ∷ ss
    go true e g ih = absurd (omega (arith, rw (e, hidden_slots) at g))
    go false e g ih = rw (e, shown) (ap (λ (us : List Slot). s ∷ us) (ih (rw (e, hidden_slots) at g)))

-- in a node without hidden slots, those shown are the slots in use that are read
pub shown-read : (t : Words) (n : ℕ) (x : Node) → x ≡ node t n → (node_view t n).hidden ≡ 0 → (node_view t n).shown ≡ in_use_of x.slots
unfolding in_use_of used
shown-read t n x q z = rw q (shown-all _ _ z)

-- where a node begins, as the code finds it
pub starts : (t : Words) (n w : ℕ) → has_node t n ≡ true → w ≡ start_of t n → w ≡ node_start n
starts t n w h e = e ∙ start-some t n h

module _ {t : Words} {n : ℕ} {o : Opened} (q : Opens t n o) where
  pub close-as : (p : ℕ) → p ≡ hidden_place o.node.left (held o) → close_at t n ≡ gap_closed o p
  unfolding close_at gap_closed used in_use_of
  close-as p g = rw (g, q.node_is, q.start_is, in-node-from)

  module _ (z : (node_view t n).hidden ≡ 0) where
    pub shown-is : (node_view t n).shown ≡ held o
    shown-is = shown-read t n o.node q.node_is z

    pub shift-in-as : (k v : ℕ) → shift_in_at t n k v ≡ slot_in o k v
    unfolding shift_in_at slot_in
    shift-in-as k v = rw (shown-is, q.node_is, q.start_is, in-node-from)

    pub shift-out-as : (k : ℕ) → shift_out_at t n k ≡ slot_out o k
    unfolding shift_out_at slot_out
    shift-out-as k = rw (shown-is, q.node_is, q.start_is, in-node-from)

    pub cut-as : (f p : ℕ) → f ≡ word_of t o.node.sibling 3 → p ≡ place_of f (held o) → cut_off t n ≡ in_from o.start (pointer_to p 0) ∷ []
    unfolding cut_off
    cut-as f p ef ep = rw (shown-is, ep, ef, word-fence, q.node_is, q.start_is)

    module _ (k p : ℕ) (ep : p ≡ place_of k (held o)) (l : place_of k (node_view t n).shown < length (node_view t n).shown) where
      place-used : p < length (held o)
      place-used = rw (ep, ← shown-is) l

      pub place-inside : length o.node.slots ≡ 24 → p < 12
      place-inside s = omega (arith, place-used, in-use-short o.node.slots, s)

      pub class-as : (c y : ℕ) → y ≡ with_class (at o.node.slots (2 * p + 1)) c → set_class_at t n k c
          ≡ in_from o.start (pointer_to p y) ∷ []
      unfolding set_class_at
      class-as c y ey = rw (shown-is, ← ep, in-use-at o.node.slots p place-used, ey, q.start_is)

    -- the child of n before its child x
    pub before-as : (x f : ℕ) (p : Place) → f ≡ word_of t x 3 → PlaceOf o f p → p.before ≡ child_before (view t) n x
    unfolding child_before
    before-as x f p ef g = rw (shown-is, g.before_is, g.at_is, ef, word-fence, q.node_is)

-- B by the words that the code reads: its number and its fence
pub attach-as : (t : Words) (p a b f : ℕ) → b ≡ word_of t a 1 → f ≡ word_of t b 3 → attach t p a ≡ shift_in_at t p f b
unfolding attach
attach-as t p a b f eb ef = rw (ef, word-fence, eb, word-sibling)
