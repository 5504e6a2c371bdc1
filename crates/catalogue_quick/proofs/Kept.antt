-- Lent words that a quick call leaves: a class change its summary, a repair all of them.
use Rattle.std.proofs.Common.{◌≡◌, ℕ, zero, suc, length, refl}
use Rattle.model.specs.Table.{Words}
use Rattle.model.specs.Orders.{apply, orders, encode, list_with}
use Rattle.model.specs.Refusals.{unless_refused}
use Rattle.model.specs.Writes.{class_change, repair}
use Rattle.model.specs.Summary.{quick_number, quick_stores, quick_words, quick_table, quick_list, quick_summary}
use Rattle.cut_laws.proofs.Barriers.{barred-nil}

same : (n : ℕ) (xs : Words) → xs ≡ unless_refused n xs xs
same zero xs = refl
same (suc n) xs = refl

module _ (words dock : ℕ) (ws t : Words) where
  pub class-summary : (n k c : ℕ) → ws ≡ quick_summary (class_change n k c) words dock ws t
  unfolding quick_summary quick_words
  class-summary n k c = same (quick_number (class_change n k c) words dock ws t) ws

  pub repair-summary : ws ≡ quick_summary repair words dock ws t
  unfolding quick_summary quick_words
  repair-summary = same (quick_number repair words dock ws t) ws

  pub repair-table : t ≡ quick_table repair words dock ws t
  unfolding quick_table quick_stores apply
  repair-table = same (quick_number repair words dock ws t) t

pub repair-list : (lent : Words) (dock : ℕ) (ws t : Words) → lent ≡ quick_list repair lent dock ws t
unfolding quick_list quick_stores orders list_with encode
repair-list lent dock ws t = rw (barred-nil dock) (same (quick_number repair (length lent) dock ws t) lent)
