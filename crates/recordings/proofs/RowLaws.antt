-- The nodes passed by their numbers: what is left, from a node on, and what functions of it come to with a node more.
use Rattle.std.proofs.Common.{◌≡◌, ℕ, zero, suc, ◌+◌, ◌-◌, ◌<◌, ◌≤◌, Bool, true, false, not, ◌&&◌, ◌||◌, List, [], ◌∷◌, ◌++◌, map, sym}
use Rattle.std.proofs.Common.{refl, ap, ◌∙◌, ap₂, append-nil, add-one, arith}
use mathlib.Core.Bool.{and_assoc}
use mathlib.Core.List.{map-append}
use Rattle.std.specs.List.{list_all, list_any, range_with_len}
use Rattle.model.specs.Table.{Words, nodes, header_ok}
use Rattle.model.specs.Slots.{Slot, recording, View}
use Rattle.model.specs.Reached.{flat}
use Rattle.model.specs.SoundTest.{all, elem, distinct, pair_ok, recordings_ok}
use Rattle.model.specs.Writes.{numbers}
use Rattle.list_laws.proofs.Tools.{flat-append}
use Rattle.list_laws.proofs.Members.{elem-join}
use Rattle.list_laws.proofs.Counts.{numbers-append}
use Rattle.table_laws.proofs.Header.{header-iff}
use Rattle.bits.specs.Bits.{has}
use Rattle.std.specs.Prelude.{Ok, Err}
use Rattle.numbers.specs.declared.Stop.{Stop}
use Rattle.numbers.specs.Cells.{Entry, outcome, followed, entered_all}
use Rattle.numbers.proofs.Once.{all-append, stop-last, goes-on, ends}
use Rattle.recordings.specs.declared.Marks.{Marks}
use Rattle.recordings.specs.Marked.{LastMarked, own, own_from, own_numbers, marked_pairs}
use Rattle.recordings.specs.Rounds.{Hits, hit_if, hit_all}
use Rattle.recordings.specs.Once.{once_before}

-- ---- rows of numbers

row-none : (v : View) (marks : Marks) (n last : ℕ) → last < n → own_from v marks n (last + 1 - n) ≡ []
unfolding numbers flat
row-none v marks n last h = let e : last + 1 - n ≡ 0 = omega arith in rw e

row-next : (v : View) (marks : Marks) (n last : ℕ) → n ≤ last → own_from v marks n (last + 1 - n) ≡ own v marks n
    ++ own_from v marks (n + 1) (last + 1 - (n + 1))
unfolding numbers flat
row-next v marks n last h = let e : last + 1 - n ≡ suc (last + 1 - (n + 1)) = omega arith in rw (e, add-one n)

-- nodes that are not marked have nothing
row-unmarked : (v : View) (marks : Marks) (n count : ℕ) → ((i : ℕ) → n ≤ i → i < n + count → has marks.bits i ≡ false)
    → own_from v marks n count ≡ []
unfolding numbers flat own
row-unmarked v marks n zero h = refl
row-unmarked v marks n (suc c) h =
    let here : has marks.bits n ≡ false = h n (omega arith) (omega arith) in
    rw here (row-unmarked v marks (suc n) c (λ i a b. h i (omega arith) (omega arith)))

row-last : (v : View) (marks : Marks) (last : ℕ) → LastMarked v.nodes marks.bits last
    → own_from v marks 1 (last + 1 - 1) ≡ marked_pairs v marks
unfolding marked_pairs
row-last v marks last q =
    let few = q.0 in
    let e : last + 1 - 1 ≡ last = omega arith in
    let whole : v.nodes ≡ last + (v.nodes - last) = omega arith in
    let rest : own_from v marks (1 + last) (v.nodes - last) ≡ [] =
    row-unmarked v marks (1 + last) (v.nodes - last) (λ i a b. q.1 i (omega arith) (omega arith)) in
    ap (λ (c : ℕ). own_from v marks 1 c) e
    ∙ sym
    (ap (λ (c : ℕ). own_from v marks 1 c) whole ∙ ap (flat (own v marks)) (numbers-append 1 last (v.nodes - last))
    ∙ flat-append (own v marks) (numbers 1 last) (numbers (1 + last) (v.nodes - last))
    ∙ ap (λ (ss : List Slot). own_from v marks 1 last ++ ss) rest ∙ append-nil (own_from v marks 1 last))

-- A loop over the nodes keeps that F, what the present state and the nodes left come to, is x.
module _ {A : Type 0} (F : List Slot → A) (v : View) (marks : Marks) where
  pub row-marked : (last : ℕ) → LastMarked v.nodes marks.bits last → F (own_from v marks 1 (last + 1 - 1)) ≡ F (marked_pairs v marks)
  row-marked last q = ap F (row-last v marks last q)

  module _ (n last : ℕ) {x : A} (keeps : F (own_from v marks n (last + 1 - n)) ≡ x) where
    pub row-end : last < n → F [] ≡ x
    row-end h = sym (ap F (row-none v marks n last h)) ∙ keeps

    pub row-more : n ≤ last → {y : A} → F (own v marks n ++ own_from v marks (n + 1) (last + 1 - (n + 1))) ≡ y → y ≡ x
    row-more h q = sym (ap F (row-next v marks n last h) ∙ q) ∙ keeps

    pub row-skip : n ≤ last → [] ≡ own v marks n → F (own_from v marks (n + 1) (last + 1 - (n + 1))) ≡ x
    row-skip h e = row-more h (ap (λ (ss : List Slot). F (ss ++ own_from v marks (n + 1) (last + 1 - (n + 1)))) (sym e))

-- a node's number is small
pub few-nodes : (t : Words) (last n : ℕ) → header_ok t ≡ true → last ≡ nodes t → n ≤ last → n ≤ 65535
few-nodes t last n h e l = omega (arith, ((header-iff t).0 h).size.few)

pub few-marked : (t marks : Words) (last n : ℕ) → header_ok t ≡ true → LastMarked (nodes t) marks last → n ≤ last → n ≤ 65535
few-marked t marks last n h q l = let few = q.0 in omega (arith, ((header-iff t).0 h).size.few)

-- ---- no node left

pub hit-none : (q : ℕ → Bool) (place : ℕ → ℕ) (h : Hits) → h ≡ hit_all q place (map recording []) h
unfolding hit_all
hit-none q place h = refl

pub enter-none : (q : ℕ → Bool) (cs : Words) → outcome (Ok tt) cs ≡ entered_all q (map recording []) cs
unfolding entered_all
enter-none q cs = refl

-- ---- a node more: what its slots and those after them come to

all-join : (xs ys : List Slot) → all pair_ok (xs ++ ys) ≡ (all pair_ok xs && all pair_ok ys)
unfolding all
all-join [] ys = refl
all-join (x ∷ xs) ys = ap (λ (b : Bool). pair_ok x && b) (all-join xs ys) ∙ sym (and_assoc (pair_ok x) (all pair_ok xs) (all pair_ok ys))

distinct-append : (xs ys : List ℕ) → distinct (xs ++ ys) ≡ (once_before xs ys && distinct ys)
unfolding distinct once_before
distinct-append [] ys = refl
distinct-append (x ∷ xs) ys =
    ap (λ (b : Bool). not (elem x (xs ++ ys)) && b) (distinct-append xs ys)
    ∙ sym (and_assoc (not (elem x (xs ++ ys))) (once_before xs ys) (distinct ys))

hit-append : (q : ℕ → Bool) (place : ℕ → ℕ) (xs ys : List ℕ) (h : Hits) → hit_all q place (xs ++ ys) h
    ≡ hit_all q place ys (hit_all q place xs h)
unfolding hit_all
hit-append q place [] ys h = refl
hit-append q place (x ∷ xs) ys h = hit-append q place xs ys (hit_if q place x h)

-- ---- node by node, as a range has their numbers

module _ (v : View) (marks : Marks) where
  pub pairs-rows : (m n : ℕ) → list_all (λ i. all pair_ok (own v marks i)) (range_with_len n m) ≡ all pair_ok (own_from v marks n m)
  unfolding numbers flat all
  pairs-rows zero n = refl
  pairs-rows (suc m) n =
      ap (λ (b : Bool). all pair_ok (own v marks n) && b)
      (pairs-rows m (n + 1) ∙ ap (λ (i : ℕ). all pair_ok (own_from v marks i m)) (add-one n))
      ∙ sym (all-join (own v marks n) (own_from v marks (suc n) m))

  pub found-rows : (r m n : ℕ) → list_any (λ i. elem r (map recording (own v marks i))) (range_with_len n m)
      ≡ elem r (own_numbers v marks n m)
  unfolding numbers flat elem
  found-rows r zero n = refl
  found-rows r (suc m) n =
      ap (λ (b : Bool). elem r (map recording (own v marks n)) || b)
      (found-rows r m (n + 1) ∙ ap (λ (i : ℕ). elem r (own_numbers v marks i m)) (add-one n))
      ∙ sym (ap (elem r) (map-append recording (own v marks n) (own_from v marks (suc n) m))
      ∙ elem-join r (map recording (own v marks n)) (own_numbers v marks (suc n) m))

  -- each node's numbers against those of the nodes after it, up to the last
  pub once-rows : (last m n : ℕ) → n + m ≡ last + 1
      → list_all (λ i. once_before (map recording (own v marks i)) (own_numbers v marks (i + 1) (last + 1 - (i + 1)))) (range_with_len n m)
      ≡ distinct (own_numbers v marks n m)
  unfolding numbers flat distinct
  once-rows last zero n e = refl
  once-rows last (suc m) n e =
      let left : last + 1 - (n + 1) ≡ m = omega arith in
      let own-here : List ℕ = map recording (own v marks n) in
      ap₂ (λ (l : ℕ) (b : Bool). once_before own-here (own_numbers v marks (n + 1) l) && b) left (once-rows last m (n + 1) (omega arith))
      ∙ ap (λ (i : ℕ). once_before own-here (own_numbers v marks i m) && distinct (own_numbers v marks i m)) (add-one n)
      ∙ sym (ap distinct (map-append recording (own v marks n) (own_from v marks (suc n) m))
      ∙ distinct-append own-here (own_numbers v marks (suc n) m))

module _ (xs ys : List Slot) where
  pub hit-next : (q : ℕ → Bool) (place : ℕ → ℕ) (h after : Hits) → after ≡ hit_all q place (map recording xs) h
      → hit_all q place (map recording (xs ++ ys)) h ≡ hit_all q place (map recording ys) after
  hit-next q place h after e =
      ap (λ (zs : List ℕ). hit_all q place zs h) (map-append recording xs ys) ∙ hit-append q place (map recording xs) (map recording ys) h
      ∙ ap (hit_all q place (map recording ys)) (sym e)

  module _ (q : ℕ → Bool) (cs : Words) (a : Entry) (after : Words) (e : outcome a after ≡ entered_all q (map recording xs) cs) where
    enter-join : entered_all q (map recording (xs ++ ys)) cs
        ≡ followed (entered_all q (map recording xs) cs) (entered_all q (map recording ys))
    enter-join = ap (λ (zs : List ℕ). entered_all q zs cs) (map-append recording xs ys)
        ∙ all-append q (map recording xs) (map recording ys) cs

    pub enter-next : a ≡ Ok tt → entered_all q (map recording (xs ++ ys)) cs ≡ entered_all q (map recording ys) after
    enter-next g = sym (goes-on (entered_all q (map recording ys)) _ (entered_all q (map recording xs) cs) a after enter-join e g)

    pub enter-last : (s : Stop) → a ≡ Err s → entered_all q (map recording (xs ++ ys)) cs ≡ outcome (Err s) after
    enter-last s z = sym
        (ends (entered_all q (map recording ys)) _ (entered_all q (map recording xs) cs) a after enter-join e (Err s) (stop-last s) z)

-- ---- both tests

module _ (ss : List Slot) (b : Bool) (e : b ≡ all pair_ok ss) where
  pub right-no : b ≡ false → false ≡ recordings_ok ss
  unfolding recordings_ok
  right-no n = ap (λ (c : Bool). c && distinct (map recording ss)) (sym n ∙ e)

  pub right-yes : b ≡ true → (c : Bool) → c ≡ distinct (map recording ss) → c ≡ recordings_ok ss
  unfolding recordings_ok
  right-yes y c q = q ∙ ap (λ (a : Bool). a && distinct (map recording ss)) (sym y ∙ e)
