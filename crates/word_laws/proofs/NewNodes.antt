-- A node made from its header words and slots: it shows these slots, hides none and is clear.
use Rattle.std.proofs.Common.{◌≡◌, ℕ, zero, suc, ◌+◌, ◌-◌, ◌*◌, ◌≤◌, true, List, [], ◌∷◌, ◌++◌, length, take, replicate, refl, ap, ◌∙◌}
use Rattle.std.proofs.Common.{arith, length-append, length-take, take-take, get_or-append-add}
use lib.ListN.{length-replicate}
use lib.Seq.{take-append-add}
use Rattle.model.specs.Table.{Words, at, has_node, node_start, node, node_from, spare, all_zero}
use Rattle.model.specs.Slots.{Slot, slot, slots_of, slot_words, clear_in, used, node_view}
use Rattle.model.specs.Orders.{apply}
use Rattle.model.specs.Writes.{put_all, node_words}
use Rattle.list_laws.proofs.Tools.{decode, double-suc}
use Rattle.view_laws.proofs.NodeViews.{new_node}
use Rattle.slot_laws.proofs.Hiding.{Stops, AllShown, Shows, shows-all}
use Rattle.slot_laws.proofs.SlotStores.{pointer_at}
use Rattle.word_laws.proofs.SlotWords.{at-pointer}
use Rattle.word_laws.proofs.NodeStores.{node-stored, spare-stored}

abbrev zeros : ℕ → List Slot
zeros m = replicate m (slot 0 0)

slots-of-words : (n m : ℕ) (ss : List Slot) → slots_of (take (2 * n) (slot_words ss ++ replicate (2 * m) 0)) ≡ take n (ss ++ zeros m)
unfolding slots_of
slots-of-words zero m ss = refl
slots-of-words (suc n) zero [] = rw (double-suc n)
slots-of-words (suc n) (suc m) [] = rw (double-suc n, double-suc m) (ap (λ (l : List Slot). slot 0 0 ∷ l) (slots-of-words n m []))
slots-of-words (suc n) m (s ∷ ss) = rw (double-suc n) (ap (λ (l : List Slot). s ∷ l) (slots-of-words n m ss))

zeros-stop : (j m : ℕ) → Stops (take j (zeros m))
zeros-stop zero m = tt
zeros-stop (suc j) zero = tt
zeros-stop (suc j) (suc m) = refl

zeros-pointer : (j m i : ℕ) → pointer_at (take j (zeros m)) i ≡ 0
zeros-pointer zero m i = refl
zeros-pointer (suc j) zero i = refl
zeros-pointer (suc j) (suc m) zero = refl
zeros-pointer (suc j) (suc m) (suc i) = zeros-pointer j m i

-- ss and unused slots, 12 together
abbrev filled : List Slot → List Slot
filled ss = ss ++ take (12 - length ss) (zeros 12)

filled-take : (ss : List Slot) → length ss ≤ 12 → take 12 (ss ++ zeros 12) ≡ filled ss
filled-take ss h =
    let e : 12 ≡ length ss + (12 - length ss) = omega arith in
    ap (λ (n : ℕ). take n (ss ++ zeros 12)) e ∙ take-append-add ss (zeros 12) (12 - length ss)

filled-last : (ss : List Slot) → length ss ≤ 11 → pointer_at (filled ss) 11 ≡ 0
filled-last ss h =
    let e : 11 ≡ length ss + (11 - length ss) = omega arith in
    ap (λ (n : ℕ). pointer_at (filled ss) n) e
    ∙ ap (λ (s : Slot). s.pointer) (get_or-append-add ss (take (12 - length ss) (zeros 12)) (11 - length ss) (slot 0 0))
    ∙ zeros-pointer (12 - length ss) 12 (11 - length ss)

-- ---- its words

module _ (left sibling level fence : ℕ) (ss : List Slot) where
  abbrev words : Words
  words = node_words left sibling level fence ss

  -- the words of a node are 32
  pub length-node-words : length (node_words left sibling level fence ss) ≡ 32
  unfolding node_words
  length-node-words = simp (length-append, length-take, length-replicate) (omega arith)

  words-slots : length ss ≤ 12 → slots_of (node_from words 0).slots ≡ filled ss
  unfolding node_words node_from
  words-slots h = rw (take-take 24 24 (slot_words ss ++ replicate 24 0) (omega arith)) (slots-of-words 12 12 ss ∙ filled-take ss h)

-- ---- the node

module _ (t : Words) (b left sibling level fence : ℕ) (ss : List Slot) (h : has_node t b ≡ true) (a : AllShown left ss)
    (l : length ss ≤ 11) where
  abbrev after : Words
  after = apply (put_all (node_start b) (node_words left sibling level fence ss)) t

  made : node after b ≡ node_from (words left sibling level fence ss) 0
  made = node-stored t b (words left sibling level fence ss) h (length-node-words left sibling level fence ss)

  made-left : (node after b).left ≡ left
  unfolding node_words node_from
  made-left = rw made

  made-slots : slots_of (node after b).slots ≡ filled ss
  made-slots = rw made (words-slots left sibling level fence ss (omega arith))

  shows : Shows left ss 0 (slots_of (node after b).slots)
  shows = rw made-slots (shows-all left ss _ a (zeros-stop (12 - length ss) 12))

  made-spare : all_zero (spare after b) ≡ true
  unfolding node_words all_zero
  made-spare = rw (spare-stored t b (words left sibling level fence ss) h (length-node-words left sibling level fence ss))

  made-last : at (node after b).slots 23 ≡ 0
  made-last = at-pointer 11 (node after b).slots ∙ rw made-slots (filled-last ss l)

  made-shown : (node_view after b).shown ≡ ss
  unfolding used
  made-shown = rw made-left shows.shows

  made-hidden : (node_view after b).hidden ≡ 0
  unfolding used
  made-hidden = rw made-left shows.hides

  made-clear : (node_view after b).clear ≡ true
  unfolding clear_in
  made-clear = simp decode (made-spare, made-last)

  -- node b, after its 32 words are stored, reads as the new node with these header words and slots
  pub new-node : node_view (apply (put_all (node_start b) (node_words left sibling level fence ss)) t) b
      ≡ new_node left sibling level fence ss
  unfolding node_words node_from
  new-node = λ i. record {
    left = (made i).left;
    sibling = (made i).sibling;
    level = (made i).level;
    fence = (made i).fence;
    shown = made-shown i;
    hidden = made-hidden i;
    clear = made-clear i;
  }
