-- A summary that is true of a table: what opening gives, and what quick calls meet and keep.
use Rattle.std.specs.Prelude.{◌≡◌, true, ℕ, length}
use Rattle.model.specs.Table.{Words, nodes, in_range}
use Rattle.model.specs.Reached.{reached_all}
use Rattle.model.specs.SoundTest.{elem, settled}
use Rattle.model.specs.Marks.{has}
use Rattle.model.specs.Summary.{summary_words, marks_in, cells_in, recordings_in}
use Rattle.set_laws.specs.Sets.{SetOf}

-- The table is settled, its reached nodes are marked and no others, and the cells hold its recordings and no others.
pub record Current (ws t : Words) : Type 0 where
  pub long : length ws ≡ summary_words (nodes t)
  pub settled : settled t ≡ true
  pub marks : (n : ℕ) → in_range (nodes t) n ≡ true → has (marks_in (nodes t) ws) n ≡ elem n (reached_all t)
  pub cells : SetOf (cells_in (nodes t) ws) (λ (x : ℕ). elem x (recordings_in t))
