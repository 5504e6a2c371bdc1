-- What the tour's functions take and give.
use Rattle.std.specs.Prelude.{Option, None, Some, ◌≡◌, Bool, true, not, ◌&&◌, List, [], ◌∷◌, ◌++◌, ℕ, ◌≤◌, ◌<◌, eqb, take}
use Rattle.model.specs.Table.{Words, in_range, nodes, header_ok}
use Rattle.model.specs.Slots.{node_view}
use Rattle.model.specs.SoundTest.{all, elem, distinct}
use Rattle.model.specs.Salvage.{Meeting, meet}
use Rattle.bits.specs.Bits.{has}
use Rattle.tour_laws.specs.Walk.{ways_from}
use Rattle.tour.specs.declared.Met.{Met}
use Rattle.tour.specs.declared.Sight.{Sight}

-- what a look at a way has met
abbrev pub met_by : Option Met → List Meeting
met_by None = []
met_by (Some x) = meet x.node x.level ∷ []

-- A look goes on to a later way; the ways from w are what it has met, then those from there.
abbrev pub Looked : Words → ℕ → ℕ → Sight → Type 0
Looked t n w r = (ways_from t n w ≡ met_by r.met ++ ways_from t n r.way) × (w < r.way) × (r.way ≤ 14)

-- node i may be entered, going by the marks
unfoldable pub unmarked : Words → Words → ℕ → ℕ → Bool
unmarked t ms i l = in_range (nodes t) i && (eqb (node_view t i).level l && not (has ms i))

-- a node is marked exactly if it is one of these
abbrev pub Marked : Words → Words → List ℕ → Type 0
Marked t ms es = (n : ℕ) → in_range (nodes t) n ≡ true → has ms n ≡ elem n es

-- a table with a good header; so many nodes entered before, and these are marked
pub record Ready (t ms os : Words) (before : ℕ) : Type 0 where
  pub header : header_ok t ≡ true
  pub few : before ≤ nodes t
  pub apart : distinct (take before os) ≡ true
  pub range : all (in_range (nodes t)) (take before os) ≡ true
  pub marked : Marked t ms (take before os)
