-- A quick deletion from its refusals or its first store to its end.
use Rattle.std.proofs.Common.{◌≡◌, ℕ, zero, suc, ◌+◌, ◌*◌, ◌≤◌, Bool, true, false, cond, not, ◌&&◌, ◌≢◌, List, ◌∷◌, ◌++◌, length, sym, refl}
use Rattle.std.proofs.Common.{ap, ◌∙◌, arith}
use mathlib.Core.Option as math
use mathlib.Core.Option.{none, some}
use Rattle.std.specs.Prelude.{Option, Some, None, Result, Ok, Err, is_some, ok_or}
use Rattle.model.specs.declared.Refusal.{Refusal}
use Rattle.model.specs.declared.Refusal.TheVariants.{KeyAbsent}
use Rattle.model.specs.Results.{passed}
use Rattle.model.specs.Numbers.{refusal_number}
use Rattle.model.specs.Table.{Words, nodes, in_range}
use Rattle.model.specs.Slots.{Slot, NodeView, node_view, view_of, height, recording_of}
use Rattle.model.specs.Search.{first_with}
use Rattle.model.specs.Orders.{apply}
use Rattle.model.specs.Writes.{shift_out_at, child_before, standing, delete_settled, deletion}
use Rattle.model.specs.Refusals.{Test, test, words_for, first_number}
use Rattle.model.specs.Marks.{cleared}
use Rattle.model.specs.Cells.{without}
use Rattle.model.specs.Summary.{marks_in, cells_in, cell_of, way_ok, leaf_for, key_there, frees, neighbour_ok, own_tests, quick_number}
use Rattle.model.specs.Summary.{quick_stores, quick_words, quick_list_number}
use Rattle.model.proofs.Numbers.{passed-zero, failed-some}
use Rattle.list_laws.proofs.Tools.{and-iff}
use Rattle.table_laws.proofs.Header.{header-iff}
use Rattle.table_laws.proofs.Collections.{by-number}
use Rattle.cut_laws.proofs.Applying.{length-apply}
use Rattle.tree_laws.proofs.Rows.{range-iff}
use Rattle.slots.specs.Held.{held_by}
use Rattle.orders.specs.declared.Pen.{Pen}
use Rattle.orders.specs.Desk.{desk, first_pen}
use Rattle.summary_laws.proofs.Testing.{has-place}
use Rattle.summary_laws.proofs.AnyWords.{in-table}
use Rattle.summary_laws.proofs.AnyWays.{Met, way-met}
use Rattle.summary_laws.proofs.ShiftedOut.{out-other, out-before}
use Rattle.quick.specs.Lists.{lent_tests, lent_number}
use Rattle.quick.proofs.Beginning.{held-key}
use Rattle.quick.proofs.Ending.{Promised, begin_tests, begin-refused, begin-passed, lent-refused, lent-passed, list-long, refusal-some}
use Rattle.quick.proofs.Ending.{refused-for, refused-as, Begun}
use Rattle.quick_delete.specs.declared.Found.{Found}
use Rattle.quick_delete.specs.Finds.{found_number, found_for, taken_out, Freeable, Takes}
use Rattle.quick_delete.proofs.Finding.{frees-high, Through, through}

-- ---- the stores, of a key that is there, on a way that passed its tests

module _ (n k : ℕ) (ws t : Words) (u : Through n ws t k) (has : key_there n t k ≡ true) (ok : neighbour_ok n t k ≡ true) where
  abbrev leaf : ℕ
  leaf = leaf_for n t k

  abbrev parent : ℕ
  parent = standing n t 1 k

  met : (l : ℕ) → l ≤ height (view_of n t) → Met n t k l
  met l h = way-met n (marks_in (nodes t) ws) t k u.way l h

  size : length t ≡ 8 + 32 * nodes t
  size = ((header-iff t).0 u.header).size.long

  leaf-few : leaf_for n t k ≤ nodes t
  leaf-few = ((range-iff (nodes t) leaf).0 (met 0 (omega arith)).range).1

  freeable : frees n t k ≡ true → Freeable (apply (shift_out_at t (leaf_for n t k) k) t) (standing n t 1 k) (leaf_for n t k)
  unfolding neighbour_ok child_before
  freeable e =
      let x = met 0 (omega arith) in
      let p = met 1 (frees-high n t k e) in
      let ss = shift_out_at t leaf k in
      let some = ((range-iff (nodes t) leaf).0 x.range).0 in
      let place = has-place k (node_view t leaf).shown has in
      let apart : parent ≢ leaf = λ q. omega (arith, x.level, p.level, ap (λ (m : ℕ). (node_view t m).level) q) in
      let both : (key_there n t k && frees n t k) ≡ true = (and-iff _ _).1 (has, e) in
      let tests = (and-iff _ _).0 (rw both at ok) in
      let there = in-table (nodes t) (apply ss t) (length-apply ss t ∙ size) in
      record {
        parent = there parent p.range;
        plain = ap (λ (v : NodeView). v.hidden) (out-other t leaf k some x.few place parent apart) ∙ p.plain;
        neighbour = there _ (ap (in_range (nodes t)) (out-before t leaf k some x.few place parent apart) ∙ tests.1);
      }

  takes : Takes t (found_for n t k) k
  unfolding found_for
  takes = let x = met 0 (omega arith) in record { leaf = in-table (nodes t) t size leaf x.range; plain = x.plain; free = freeable }

-- ---- accepted: what was found, and the pointer of k in its leaf

-- the summary that it leaves
abbrev pub forgotten : (n : ℕ) (ws t : Words) (f : Found) (p : ℕ) → Words
forgotten n ws t f p =
    cond f.frees (cleared (marks_in (nodes t) ws) f.leaf) (marks_in (nodes t) ws)
    ++ without (cells_in (nodes t) ws) (cell_of n (recording_of p))

pub record Ready (n k dock : ℕ) (t lent ws : Words) (f : Found) (p : ℕ) : Type 0 where
  pub accepted : quick_number (deletion n k) (length lent) dock ws t ≡ 0
  pub long : words_for dock ≤ length lent
  pub through : Through n ws t k
  pub takes : Takes t f k
  pub leaf : f.leaf ≤ nodes t
  pub stores : quick_stores (deletion n k) ws t ≡ taken_out t f k
  pub words : forgotten n ws t f p ≡ quick_words (deletion n k) ws t

module _ {n k dock : ℕ} {t lent ws : Words} {f : Found} {p : ℕ} (r : Ready n k dock t lent ws f p) where
  pub nodes-fit : (1 ≤ nodes t) × (nodes t ≤ 65535)
  nodes-fit = let s = ((header-iff t).0 r.through.header).size in (s.some, s.few)

  pub collection-fits : (1 ≤ n) × (n ≤ 2)
  collection-fits = by-number t (λ (m : ℕ). (1 ≤ m) × (m ≤ 2)) (omega arith, omega arith)
      (λ z. (omega arith, omega arith)) n r.through.collection

  pub begun : {q : Pen} → q ≡ first_pen dock → Begun (deletion n k) dock ws (desk t lent q)
  begun e = record { accepted = r.accepted; long = r.long; first = e }

-- ---- the call

module _ (n k dock : ℕ) (t lent ws : Words) where
  abbrev own : List Test
  own = own_tests (deletion n k) (marks_in (nodes t) ws) (cells_in (nodes t) ws) t

  -- 4 is that of the way, or of the neighbour
  abbrev rest : List Test
  rest = test (not (neighbour_ok n t k)) 4 ∷ (lent_tests (length lent) dock ++ own)

  parts : quick_number (deletion n k) (length lent) dock ws t ≡ first_number (begin_tests n ws t k ++ rest)
  unfolding quick_number
  parts = go (way_ok (marks_in (nodes t) ws) (view_of n t) k) refl
    where
      go : (b : Bool) → way_ok (marks_in (nodes t) ws) (view_of n t) k ≡ b
          → quick_number (deletion n k) (length lent) dock ws t ≡ first_number (begin_tests n ws t k ++ rest)
      go true e = rw (e, quick_number)
      go false e = rw (e, quick_number)

  after : quick_list_number n ws t k ≡ 0 → quick_number (deletion n k) (length lent) dock ws t
      ≡ cond (not (neighbour_ok n t k)) 4 (first_number (lent_tests (length lent) dock ++ own))
  after e = parts ∙ begin-passed n ws t k rest e

  found-refuses : found_number n ws t k ≢ 0 → quick_number (deletion n k) (length lent) dock ws t ≡ found_number n ws t k
  unfolding found_number
  found-refuses z = go (quick_list_number n ws t k) (neighbour_ok n t k) refl refl
    where
      go : (q : ℕ) (b : Bool) → quick_list_number n ws t k ≡ q → neighbour_ok n t k ≡ b
          → quick_number (deletion n k) (length lent) dock ws t ≡ found_number n ws t k
      go zero true e f = absurd (z (rw (e, f, found_number)))
      go zero false e f = after e ∙ rw (e, f, found_number)
      go (suc q) b e f = parts ∙ begin-refused n ws t k rest (λ y. omega (arith, e, y)) ∙ e ∙ sym (rw (e, found_number))

  pub find-refuses : {e : Refusal} → refusal_number e ≡ found_number n ws t k → Promised (deletion n k) t lent ws dock (Err e) t lent ws
  find-refuses {e} q = refused-for (deletion n k) t lent ws dock e (found-refuses (λ z. refusal-some e (q ∙ z)) ∙ sym q)

  -- what was found passed its tests
  module _ (z : 0 ≡ found_number n ws t k) where
    both : (quick_list_number n ws t k ≡ 0) × (neighbour_ok n t k ≡ true)
    unfolding found_number
    both = go (quick_list_number n ws t k) (neighbour_ok n t k) refl refl
      where
        go : (q : ℕ) (b : Bool) → quick_list_number n ws t k ≡ q → neighbour_ok n t k ≡ b → (quick_list_number n ws t k ≡ 0)
            × (neighbour_ok n t k ≡ true)
        go zero true e f = (e, f)
        go zero false e f = let u : ◌≡◌ {A = ℕ} 0 4 = rw (e, f, found_number) at z in absurd (omega arith)
        go (suc q) b e f = let u : 0 ≡ suc q = rw (e, found_number) at z in absurd (omega arith)

    pub passed-through : Through n ws t k
    passed-through = through n ws t k both.0

    later : quick_number (deletion n k) (length lent) dock ws t ≡ first_number (lent_tests (length lent) dock ++ own)
    later = after both.0 ∙ rw both.1

    pub lent-refuses : {e : Refusal} → passed (lent_number (length lent) dock) ≡ Err e
        → Promised (deletion n k) t lent ws dock (Err e) t lent ws
    lent-refuses f =
        refused-as (deletion n k) t lent ws dock (lent_number (length lent) dock) f
        (later ∙ lent-refused (length lent) dock own (failed-some (lent_number (length lent) dock) f))

    -- and so did the list: by what was found
    module _ (l : passed (lent_number (length lent) dock) ≡ Ok tt) {f : Found} (ef : f ≡ found_for n t k) where
      number : quick_number (deletion n k) (length lent) dock ws t ≡ cond (not (is_some f.pointer)) 9 0
      unfolding found_for
      number =
          later ∙ lent-passed (length lent) dock own (passed-zero _ l)
          ∙ ap (λ (b : Bool). cond (not b) 9 0)
          (sym (ap (λ (g : Found). is_some g.pointer) ef ∙ held-key k (node_view t (leaf_for n t k)).shown))

      pub key-refuses : {e : Refusal} → ◌≡◌ {A = Result ℕ Refusal} (Err e) (ok_or f.pointer KeyAbsent)
          → Promised (deletion n k) t lent ws dock (Err e) t lent ws
      key-refuses {e} q = go f.pointer refl q
        where
          go : (o : Option ℕ) → f.pointer ≡ o → ◌≡◌ {A = Result ℕ Refusal} (Err e) (ok_or o KeyAbsent)
              → Promised (deletion n k) t lent ws dock (Err e) t lent ws
          go None y q = let same : KeyAbsent ≡ e = cc in rw (← same) (refused-for (deletion n k) t lent ws dock KeyAbsent (number ∙ rw y))
          go (Some p) y q = cc

      -- accepted
      module _ {p : ℕ} (ep : f.pointer ≡ Some p) where
        there : key_there n t k ≡ true
        unfolding found_for
        there = sym (held-key k (node_view t (leaf_for n t k)).shown) ∙ ap (λ (g : Found). is_some g.pointer) (sym ef) ∙ ap is_some ep

        stores-as : quick_stores (deletion n k) ws t ≡ taken_out t f k
        unfolding quick_stores delete_settled taken_out found_for
        stores-as = rw ef (go (frees n t k) refl)
          where
            go : (b : Bool) → frees n t k ≡ b → quick_stores (deletion n k) ws t ≡ taken_out t (found_for n t k) k
            go true e = rw (e, quick_stores, delete_settled, taken_out)
            go false e = rw (e, quick_stores, delete_settled, taken_out)

        words-as : forgotten n ws t f p ≡ quick_words (deletion n k) ws t
        unfolding quick_words found_for
        words-as = rw ef (go (first_with k (node_view t (leaf_for n t k)).shown) refl)
          where
            it : held_by (first_with k (node_view t (leaf_for n t k)).shown) ≡ Some p
            it = ap (λ (g : Found). g.pointer) (sym ef) ∙ ep

            go : (o : math.Option Slot) → first_with k (node_view t (leaf_for n t k)).shown ≡ o
                → cond (frees n t k) (cleared (marks_in (nodes t) ws) (leaf_for n t k)) (marks_in (nodes t) ws)
                ++ without (cells_in (nodes t) ws) (cell_of n (recording_of p)) ≡ quick_words (deletion n k) ws t
            go none q = let z : ◌≡◌ {A = Option ℕ} None (Some p) = sym (ap held_by q) ∙ it in cc
            go (some s) q = let z : ◌≡◌ {A = Option ℕ} (Some s.pointer) (Some p) = sym (ap held_by q) ∙ it in let y :
                s.pointer ≡ p = cc in rw (q, y)

        pub ready : Ready n k dock t lent ws f p
        unfolding found_for
        ready = record {
          accepted = number ∙ rw ep;
          long = list-long (length lent) dock (passed-zero _ l);
          through = passed-through;
          takes = rw ef (takes n k ws t passed-through there both.1);
          leaf = rw ef (leaf-few n k ws t passed-through there both.1);
          stores = stores-as;
          words = words-as;
        }
