-- One leaf, a slot in use more: ranges, hits and entries; and the leaf that is read.
use Rattle.std.proofs.Common.{◌≡◌, ℕ, zero, suc, ◌+◌, ◌-◌, ◌≤◌, Bool, true, false, ◌&&◌, eqb, List, [], ◌∷◌, map, length, get_or, take}
use Rattle.std.proofs.Common.{drop, sym, refl, ap, ◌∙◌, arith, drop-cons}
use mathlib.Core.List.{tail}
use Rattle.model.specs.declared.Node.{Node}
use Rattle.model.specs.Table.{Words, node}
use Rattle.model.specs.Slots.{Slot, slot, shown, used, recording_of, recording, pointer_ok, view}
use Rattle.model.specs.Search.{below}
use Rattle.model.specs.Reached.{filter, kept}
use Rattle.model.specs.SoundTest.{all, pair_ok}
use Rattle.node.specs.Word.{word_of}
use Rattle.node.proofs.WordLaws.{word-level, word-fence}
use Rattle.std.specs.Option.{option_eq}
use Rattle.std.specs.Prelude.{Option, None, Some, Ok, Err}
use Rattle.numbers.specs.declared.Stop.{Stop}
use Rattle.numbers.specs.Cells.{Entry, Outcome, outcome, followed, entered_if, entered_all}
use Rattle.numbers.proofs.Once.{stop-last, goes-on, ends}
use Rattle.slots.specs.declared.ways.Ways.{Ways}
use Rattle.slots.specs.Scan.{shown_from, keeps, kept_of, is_way}
use Rattle.slots.specs.Gathered.{span, slots_in}
use Rattle.slots.proofs.Kept.{all-kept, kept-taken, kept-passed}
use Rattle.bits.specs.Bits.{has}
use Rattle.recordings.specs.Marked.{is_one, is_leaf, own, kept_in}
use Rattle.recordings.specs.declared.Leaf.{Leaf}
use Rattle.recordings.specs.declared.Marks.{Marks}
use Rattle.recordings.specs.Rounds.{Hits, hit_if, hit_all}

-- ---- the leaf that is read

-- a leaf of these
abbrev leaf_of : Node → (bound : ℕ) → Leaf
leaf_of x b = record { node = x; bound = b }

module _ (t : Words) (m : Marks) (n : ℕ) where
  pub leaf-unmarked : (b : Bool) → b ≡ has m.bits n → b ≡ false → b ≡ is_leaf (view t) m n
  leaf-unmarked b e z = z ∙ sym (ap (λ (x : Bool). x && eqb (node t n).level 0) (sym e ∙ z))

  pub leaf-marked : (b : Bool) → b ≡ has m.bits n → b ≡ true → (l : ℕ) → l ≡ word_of t n 2 → eqb l 0 ≡ is_leaf (view t) m n
  leaf-marked b e y l q = ap (λ (x : ℕ). eqb x 0) (q ∙ word-level t n) ∙ sym (ap (λ (x : Bool). x && eqb (node t n).level 0) (sym e ∙ y))

  pub none-own : (b : Bool) → b ≡ is_leaf (view t) m n → b ≡ false → [] ≡ own (view t) m n
  unfolding own
  none-own b e z = sym (rw (sym e ∙ z))

  pub leaf-read : (x : Node) (b : ℕ) → x ≡ node t n → is_leaf (view t) m n ≡ true → b ≡ word_of t x.sibling 3 → is_one m.uncut n ≡ true
      → kept_in (leaf_of x b) ≡ own (view t) m n
  unfolding own used kept below keeps
  leaf-read x b e h q u =
      ap (λ (y : ℕ). kept_in (leaf_of x y)) q ∙ ap (λ (y : Node). kept_in (leaf_of y (word_of t y.sibling 3))) e
      ∙ ap (λ (y : ℕ). kept_in (leaf_of (node t n) y)) (word-fence t (node t n).sibling) ∙ sym (rw (h, u))

  pub leaf-whole : (x : Node) (b : ℕ) → x ≡ node t n → is_leaf (view t) m n ≡ true → is_one m.uncut n ≡ false
      → kept_of 0 b (shown_from x.left x.slots 0) ≡ own (view t) m n
  unfolding own used
  leaf-whole x b e h u = all-kept b (shown_from x.left x.slots 0) ∙ ap (λ (y : Node). shown_from y.left y.slots 0) e ∙ sym (rw (h, u))

-- whether it is the one, as options are compared
pub same-one : (o : Option ℕ) (n : ℕ) → option_eq eqb o (Some n) ≡ is_one o n
same-one None n = refl
same-one (Some x) n = refl

-- ---- the ways, of which the first is none of the slots

numbers-taken : (ks ps : Words) (i m : ℕ) → i + m ≤ length ps → map recording_of (take m (drop i ps)) ≡ map recording (span ks ps i m)
unfolding span
numbers-taken ks ps i zero h = refl
numbers-taken ks ps i (suc m) h =
    rw (drop-cons ps i 0 (omega arith))
    (ap (λ (ns : List ℕ). recording_of (get_or ps i 0) ∷ ns) (numbers-taken ks ps (suc i) m (omega arith)))

module _ (x : Leaf) (w : Ways) (is : slots_in w ≡ slot x.node.fence x.node.left ∷ kept_in x) where
  -- `some-way` of leaves/HitLaws is of the ways that a table lists for a node; a leaf by value has no table
  pub ways-some : 1 ≤ w.count
  unfolding span
  ways-some = go w.count is
    where
      go : (c : ℕ) → span w.keys w.pointers 0 c ≡ slot x.node.fence x.node.left ∷ kept_in x → 1 ≤ c
      go zero q = cc
      go (suc c) q = omega arith

  ways-rest : span w.keys w.pointers 1 (w.count - 1) ≡ kept_in x
  unfolding span
  ways-rest = go w.count is
    where
      go : (c : ℕ) → span w.keys w.pointers 0 c ≡ slot x.node.fence x.node.left ∷ kept_in x → span w.keys w.pointers 1 (c - 1) ≡ kept_in x
      go zero q = ap tail q
      go (suc c) q = let z : suc c - 1 ≡ c = omega arith in ap (span w.keys w.pointers 1) z ∙ ap tail q

  pub ways-kept : w.count ≤ length w.pointers → map recording_of (take (w.count - 1) (drop 1 w.pointers)) ≡ map recording (kept_in x)
  ways-kept h = let some = ways-some in numbers-taken w.keys w.pointers 1 (w.count - 1) (omega arith) ∙ ap (map recording) ways-rest

-- ---- slot by slot

module _ (s b before : ℕ) where
  pub ok-none : true ≡ all pair_ok (kept_of s b (shown before []))
  unfolding all shown filter
  ok-none = refl

  pub hit-none : (q : ℕ → Bool) (place : ℕ → ℕ) (h : Hits) → h ≡ hit_all q place (map recording (kept_of s b (shown before []))) h
  unfolding hit_all shown filter
  hit-none q place h = refl

  pub enter-none : (q : ℕ → Bool) (cs : Words) → outcome (Ok tt) cs ≡ entered_all q (map recording (kept_of s b (shown before []))) cs
  unfolding entered_all shown filter
  enter-none q cs = refl

module _ (s b before k p : ℕ) (ss : List Slot) (w : Bool) (e : w ≡ is_way s b before k p) where
  abbrev all-slots : List Slot
  all-slots = kept_of s b (shown before (slot k p ∷ ss))

  abbrev rest : List Slot
  rest = kept_of s b (shown p ss)

  pub slot-passed : {A : Type 0} (F : List Slot → A) → w ≡ false → F all-slots ≡ F rest
  slot-passed F n = ap F (kept-passed s b before k p ss e n)

  module _ (y : w ≡ true) where
    ok-more : (r : Bool) → r ≡ pointer_ok p → all pair_ok all-slots ≡ (r && all pair_ok rest)
    unfolding all
    ok-more r q = ap (all pair_ok) (kept-taken s b before k p ss e y) ∙ ap (λ (a : Bool). a && all pair_ok rest) (sym q)

    module _ (r : Bool) (q : r ≡ pointer_ok p) where
      pub ok-wrong : r ≡ false → all pair_ok all-slots ≡ false
      ok-wrong n = ok-more r q ∙ ap (λ (a : Bool). a && all pair_ok rest) n

      pub ok-next : r ≡ true → all pair_ok all-slots ≡ all pair_ok rest
      ok-next n = ok-more r q ∙ ap (λ (a : Bool). a && all pair_ok rest) n

    pub hit-more : (q : ℕ → Bool) (place : ℕ → ℕ) (h after : Hits) (n : ℕ) → n ≡ recording_of p → after ≡ hit_if q place n h
        → hit_all q place (map recording all-slots) h ≡ hit_all q place (map recording rest) after
    unfolding hit_all
    hit-more q place h after n i f =
        ap (λ (xs : List Slot). hit_all q place (map recording xs) h) (kept-taken s b before k p ss e y)
        ∙ ap (hit_all q place (map recording rest)) (sym (f ∙ ap (λ (m : ℕ). hit_if q place m h) i))

    module _ (q : ℕ → Bool) (cs : Words) (a : Entry) (after : Words) (n : ℕ) (i : n ≡ recording_of p)
        (f : outcome a after ≡ entered_if q cs n) where
      enter-more : entered_all q (map recording all-slots) cs ≡ followed (outcome a after) (entered_all q (map recording rest))
      unfolding entered_all
      enter-more =
          ap (λ (xs : List Slot). entered_all q (map recording xs) cs) (kept-taken s b before k p ss e y)
          ∙ ap (λ (x : Outcome). followed x (entered_all q (map recording rest))) (sym (f ∙ ap (entered_if q cs) i))

      pub enter-goes : a ≡ Ok tt → entered_all q (map recording all-slots) cs ≡ entered_all q (map recording rest) after
      enter-goes g = sym (goes-on (entered_all q (map recording rest)) _ (outcome a after) a after enter-more refl g)

      pub enter-ends : (s : Stop) → a ≡ Err s → entered_all q (map recording all-slots) cs ≡ outcome (Err s) after
      enter-ends s z = sym (ends (entered_all q (map recording rest)) _ (outcome a after) a after enter-more refl (Err s) (stop-last s) z)
