-- A quick repair: its tests in the order of the code, and what it answers without a store.
use Rattle.std.proofs.Common.{◌≡◌, ℕ, true, ◌≢◌, length, ◌∙◌, eq-eqb, ne_eqb}
use Rattle.std.specs.Prelude.{Ok, Err}
use Rattle.model.specs.declared.Refusal.{Refusal}
use Rattle.model.specs.declared.Refusal.TheVariants.{OtherSummary}
use Rattle.model.specs.Results.{passed, done_with}
use Rattle.model.specs.Table.{Words, nodes, header_ok, header_number}
use Rattle.model.specs.Orders.{orders, store_count, flush_count, barrier_count}
use Rattle.model.specs.Writes.{repair}
use Rattle.model.specs.Summary.{summary_words, quick_number, quick_stores, quick_written}
use Rattle.model.proofs.Numbers.{passed-zero, failed-some}
use Rattle.table_laws.proofs.Header.{header-number-iff, header-number-refused}
use Rattle.cut_laws.proofs.Barriers.{barred-nil}
use Rattle.quick.specs.Lists.{lent_number}
use Rattle.quick.proofs.Ending.{Promised, refused-for, refused-as}

module _ (dock : ℕ) (t lent ws : Words) where
  two : header_number t ≢ 0 → quick_number repair (length lent) dock ws t ≡ header_number t
  unfolding quick_number header_number
  two z = rw (header-number-refused t z)

  pub no-table : {e : Refusal} → passed (header_number t) ≡ Err e → Promised repair t lent ws dock (Err e) t lent ws
  no-table f = refused-as repair t lent ws dock (header_number t) f (two (failed-some (header_number t) f))

  module _ (h : passed (header_number t) ≡ Ok tt) where
    pub header : header_ok t ≡ true
    header = (header-number-iff t).0 (passed-zero _ h)

    pub other-length : length ws ≢ summary_words (nodes t) → Promised repair t lent ws dock (Err OtherSummary) t lent ws
    unfolding quick_number
    other-length z = refused-for repair t lent ws dock OtherSummary (rw (header, ne_eqb (length ws) (summary_words (nodes t)) z))

    module _ (long : length ws ≡ summary_words (nodes t)) where
      number : quick_number repair (length lent) dock ws t ≡ lent_number (length lent) dock
      unfolding quick_number lent_number
      number = rw (header, eq-eqb (length ws) (summary_words (nodes t)) long)

      pub lent-refuses : {e : Refusal} → passed (lent_number (length lent) dock) ≡ Err e → Promised repair t lent ws dock (Err e) t lent ws
      lent-refuses f = refused-as repair t lent ws dock (lent_number (length lent) dock) f number

      -- by three counts of 0
      pub no-stores : passed (lent_number (length lent) dock) ≡ Ok tt → {s f b : ℕ} → s ≡ 0 → f ≡ 0 → b ≡ 0 → done_with s f b
          ≡ quick_written repair (length lent) dock ws t
      unfolding quick_written quick_stores orders store_count flush_count barrier_count
      no-stores l es ef eb = rw (number ∙ passed-zero _ l, quick_written, barred-nil dock, es, ef, eb)
