-- A quick class change from its refusals or its store to its end.
use Rattle.std.proofs.Common.{◌≡◌, ℕ, ◌-◌, ◌<◌, ◌≤◌, Bool, true, false, cond, not, List, ◌++◌, length, get_or, sym, refl, ap, ◌∙◌, arith}
use Rattle.std.specs.Prelude.{Ok, Err}
use Rattle.model.specs.declared.Refusal.{Refusal}
use Rattle.model.specs.declared.Refusal.TheVariants.{BadClass, KeyAbsent}
use Rattle.model.specs.Results.{passed}
use Rattle.model.specs.Numbers.{refusal_number}
use Rattle.model.specs.Table.{Words, nodes, has_node}
use Rattle.model.specs.Slots.{class_ok, node_view}
use Rattle.model.specs.Shifts.{place_of}
use Rattle.model.specs.Writes.{set_class_at, class_change}
use Rattle.model.specs.Refusals.{Test, words_for, first_number, has_key}
use Rattle.model.specs.Summary.{marks_in, cells_in, leaf_for, key_there, own_tests, quick_number, quick_stores, quick_words}
use Rattle.model.specs.Summary.{quick_list_number}
use Rattle.model.proofs.Numbers.{passed-zero, failed-some}
use Rattle.list_laws.proofs.Recordings.{class-iff}
use Rattle.table_laws.proofs.Header.{header-iff}
use Rattle.orders.specs.declared.Pen.{Pen}
use Rattle.orders.specs.Desk.{desk, first_pen}
use Rattle.summary_laws.proofs.Testing.{has-place}
use Rattle.summary_laws.proofs.AnyWords.{in-table}
use Rattle.summary_laws.proofs.AnyWays.{Met, way-met}
use Rattle.way.specs.declared.Way.{Way}
use Rattle.way.specs.Ways.{Along}
use Rattle.way.proofs.Walking.{along-ok, along-on}
use Rattle.quick.specs.Lists.{lent_tests, lent_number}
use Rattle.quick.proofs.Ending.{Promised, begin_tests, begin-refused, begin-passed, lent-refused, lent-passed, list-long, refusal-some}
use Rattle.quick.proofs.Ending.{refused-for, refused-as, Begun}

-- accepted: the leaf x has k
pub record Ready (n k c dock : ℕ) (t lent ws : Words) (x : ℕ) : Type 0 where
  pub accepted : quick_number (class_change n k c) (length lent) dock ws t ≡ 0
  pub long : words_for dock ≤ length lent
  pub class-low : c ≤ 2
  pub there : has_node t x ≡ true
  pub plain : (node_view t x).hidden ≡ 0
  pub place : place_of k (node_view t x).shown < length (node_view t x).shown
  pub stores : quick_stores (class_change n k c) ws t ≡ set_class_at t x k c

pub begun : {n k c dock : ℕ} {t lent ws : Words} {x : ℕ} → Ready n k c dock t lent ws x → {p : Pen} → p ≡ first_pen dock
    → Begun (class_change n k c) dock ws (desk t lent p)
begun r e = record { accepted = r.accepted; long = r.long; first = e }

pub words-as : (n k c : ℕ) (ws t : Words) → ws ≡ quick_words (class_change n k c) ws t
unfolding quick_words
words-as n k c ws t = refl

module _ (n k c dock : ℕ) (t lent ws : Words) where
  abbrev own : List Test
  own = own_tests (class_change n k c) (marks_in (nodes t) ws) (cells_in (nodes t) ws) t

  parts : quick_number (class_change n k c) (length lent) dock ws t
      ≡ first_number (begin_tests n ws t k ++ (lent_tests (length lent) dock ++ own))
  unfolding quick_number
  parts = refl

  pub begin-refuses : {e : Refusal} → refusal_number e ≡ quick_list_number n ws t k
      → Promised (class_change n k c) t lent ws dock (Err e) t lent ws
  begin-refuses {e} q =
      refused-for (class_change n k c) t lent ws dock e
      (parts ∙ begin-refused n ws t k (lent_tests (length lent) dock ++ own) (λ z. refusal-some e (q ∙ z)) ∙ sym q)

  module _ (b : 0 ≡ quick_list_number n ws t k) where
    later : quick_number (class_change n k c) (length lent) dock ws t ≡ first_number (lent_tests (length lent) dock ++ own)
    later = parts ∙ begin-passed n ws t k (lent_tests (length lent) dock ++ own) (sym b)

    pub lent-refuses : {e : Refusal} → passed (lent_number (length lent) dock) ≡ Err e
        → Promised (class_change n k c) t lent ws dock (Err e) t lent ws
    lent-refuses f =
        refused-as (class_change n k c) t lent ws dock (lent_number (length lent) dock) f
        (later ∙ lent-refused (length lent) dock own (failed-some (lent_number (length lent) dock) f))

    module _ (l : passed (lent_number (length lent) dock) ≡ Ok tt) where
      number : quick_number (class_change n k c) (length lent) dock ws t ≡ cond (not (class_ok c)) 14 (cond (not (key_there n t k)) 9 0)
      number = later ∙ lent-passed (length lent) dock own (passed-zero _ l)

      pub class-refuses : false ≡ class_ok c → Promised (class_change n k c) t lent ws dock (Err BadClass) t lent ws
      class-refuses e = refused-for (class_change n k c) t lent ws dock BadClass (number ∙ rw (← e))

      -- by the leaf x that the way has
      module _ (e : true ≡ class_ok c) {w : Way} (a : Along n (marks_in (nodes t) ws) t k w) {x : ℕ}
          (ex : x ≡ get_or w.nodes (w.height - 0) 0) where
        leaf : x ≡ leaf_for n t k
        leaf = along-on a 0 x ex

        there : {h : Bool} → h ≡ has_key k (node_view t x).shown → key_there n t k ≡ h
        there q = sym (q ∙ ap (λ (y : ℕ). has_key k (node_view t y).shown) leaf)

        pub key-refuses : false ≡ has_key k (node_view t x).shown → Promised (class_change n k c) t lent ws dock (Err KeyAbsent) t lent ws
        key-refuses q = refused-for (class_change n k c) t lent ws dock KeyAbsent (number ∙ rw (← e, there q))

        pub ready : true ≡ has_key k (node_view t x).shown → Ready n k c dock t lent ws x
        unfolding quick_stores
        ready q =
            let m : Met n t k 0 = way-met n (marks_in (nodes t) ws) t k (along-ok a) 0 (omega arith) in
            record {
              accepted = number ∙ rw (← e, there q);
              long = list-long (length lent) dock (passed-zero _ l);
              class-low = (class-iff c).0 (sym e);
              there = rw leaf (in-table (nodes t) t ((header-iff t).0 a.header).size.long (leaf_for n t k) m.range);
              plain = rw leaf m.plain;
              place = has-place k (node_view t x).shown (sym q);
              stores = ap (λ (y : ℕ). set_class_at t y k c) (sym leaf);
            }
