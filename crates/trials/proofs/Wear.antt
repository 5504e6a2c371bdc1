-- Sentences of request 12, wear figures, each computed where it decides.
use Rattle.std.proofs.Common.{◌≡◌, [], ◌∷◌, replicate, refl}
use Rattle.model.specs.Results.{refused_with, worn_with}
use Rattle.model.specs.Table.{MARK, Words, empty}
use Rattle.model.specs.Orders.{BAR}
use Rattle.model.specs.Wear.{worn, lines_after, pairs_after}
use Rattle.model.proofs.Everything.{everything}

-- document 01's printed insertion and deletion, on a table with N = 1: six stores to line 2, to words 16, 17 and 19
abbrev pub printed : Words
printed = 19 ∷ 0 ∷ 17 ∷ MARK ∷ 16 ∷ 172627201912345 ∷ 17 ∷ 7 ∷ MARK ∷ 2 ∷ 17 ∷ MARK ∷ 17 ∷ 0 ∷ MARK ∷ 2 ∷ []

-- the first and the last word, each on a line with as many stores
abbrev pub ends : Words
ends = 39 ∷ 1 ∷ 0 ∷ 1 ∷ 39 ∷ 1 ∷ 1 ∷ 1 ∷ []

pub record WearFigures : Type 0 where
  -- Total, largest, first line, pairs; the lines and the pairs, and lent words past them.
  pub answered : worn printed 5 4 (empty 1) ≡ worn_with 6 6 2 2
  pub lines : lines_after printed (replicate 6 77) (replicate 5 88) (empty 1) ≡ 0 ∷ 0 ∷ 6 ∷ 0 ∷ 0 ∷ 77 ∷ []
  pub pairs : pairs_after printed (replicate 6 77) (replicate 5 88) (empty 1) ≡ 16 ∷ 2 ∷ 19 ∷ 1 ∷ 88 ∷ []
  -- Of lines with as many stores the first.
  pub first-of-equals : worn ends 5 4 (empty 1) ≡ worn_with 4 2 0 2
  -- Touching words are joined across lines, in whatever order they are stored to; a single last word is no order.
  pub across : (worn (8 ∷ 1 ∷ 7 ∷ 1 ∷ 40 ∷ []) 5 2 (empty 1) ≡ worn_with 2 1 0 1)
      × (pairs_after (8 ∷ 1 ∷ 7 ∷ 1 ∷ []) (replicate 5 0) (0 ∷ 0 ∷ []) (empty 1) ≡ 7 ∷ 2 ∷ [])
  -- A list without stores.
  pub no-store : (worn [] 5 0 (empty 1) ≡ worn_with 0 0 0 0) × (worn (MARK ∷ 4 ∷ []) 5 0 (empty 1) ≡ worn_with 0 0 0 0)
  -- A barrier counts for nothing and is inside every table; with another second word its first is a store's word, outside every table.
  pub barriers : (worn (9 ∷ 1 ∷ BAR ∷ 0 ∷ 9 ∷ 2 ∷ BAR ∷ 0 ∷ MARK ∷ 1 ∷ []) 5 2 (empty 1) ≡ worn_with 2 2 1 1)
      × (worn (BAR ∷ 1 ∷ []) 5 2 (empty 1) ≡ refused_with 13)
  -- 2, then 13 over the whole list, then 24 for the lines, also without a store, or for the pairs.
  pub two : worn (40 ∷ 1 ∷ []) 0 0 (7 ∷ empty 1) ≡ refused_with 2
  pub thirteen : (worn (0 ∷ 1 ∷ 40 ∷ 1 ∷ []) 0 0 (empty 1) ≡ refused_with 13)
      × (worn (0 ∷ 1 ∷ MARK ∷ 5 ∷ []) 0 0 (empty 1) ≡ refused_with 13)
  pub few-lines : worn [] 4 9 (empty 1) ≡ refused_with 24
  pub few-pairs : (worn printed 5 3 (empty 1) ≡ refused_with 24)
      × (lines_after printed (replicate 5 77) (replicate 3 88) (empty 1) ≡ replicate 5 77)

pub wear-computed : WearFigures
unfolding everything
wear-computed =
    record {
      answered = refl;
      lines = refl;
      pairs = refl;
      first-of-equals = refl;
      across = (refl, refl);
      no-store = (refl, refl);
      barriers = (refl, refl);
      two = refl;
      thirteen = (refl, refl);
      few-lines = refl;
      few-pairs = (refl, refl);
    }
