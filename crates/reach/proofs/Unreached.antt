-- The first unreachable node of a row of numbers, and the first after a node, going round: the rows of marks, of nodes that are reached.
use Rattle.std.proofs.Common.{◌≡◌, ℕ, ◌+◌, ◌-◌, ◌<◌, ◌≤◌, Bool, true, false, ◌≢◌}
use Rattle.model.specs.Table.{Words, nodes}
use Rattle.model.specs.Reached.{head_or, reached_all}
use Rattle.model.specs.SoundTest.{elem}
use Rattle.model.specs.Writes.{numbers, unreached, fresh}
use Rattle.marks.proofs.Rows as rows

module _ (t : Words) where
  abbrev taken : ℕ → Bool
  taken n = elem n (reached_all t)

  abbrev pub first_from : (n last : ℕ) → ℕ
  first_from n last = head_or 0 (unreached t (numbers n (last + 1 - n)))

  pub first-none : (n last : ℕ) → last < n → first_from n last ≡ 0
  unfolding unreached
  first-none = rows.first-none taken

  pub first-here : (n last : ℕ) → n ≤ last → taken n ≡ false → first_from n last ≡ n
  unfolding unreached
  first-here = rows.first-here taken

  pub first-later : (n last : ℕ) → n ≤ last → taken n ≡ true → first_from (n + 1) last ≡ first_from n last
  unfolding unreached
  first-later = rows.first-later taken

  pub first-past : (r n last : ℕ) → ((m : ℕ) → n ≤ m → m < n + r → taken m ≡ true) → first_from (n + r) last ≡ first_from n last
  unfolding unreached
  first-past = rows.first-past taken

  pub fresh-after : (a n : ℕ) → n ≡ first_from (a + 1) (nodes t) → n ≢ 0 → n ≡ fresh t a
  unfolding fresh unreached
  fresh-after = rows.round-next taken (nodes t)

  pub fresh-round : (a n r : ℕ) → n ≡ first_from (a + 1) (nodes t) → n ≡ 0 → r ≡ first_from 1 (a - 1) → r ≡ fresh t a
  unfolding fresh unreached
  fresh-round = rows.round-on taken (nodes t)
