-- What the plain search answers goes by the looks of the search by looks alone.
use Rattle.std.proofs.Common.{◌≡◌, ℕ, ◌<◌, length, sym, ◌∙◌}
use mathlib.Core.List.{Memᴰ}
use Rattle.model.specs.Table.{Words, at}
use Rattle.model.specs.Slots.{node_view}
use Rattle.model.specs.Search.{search}
use Rattle.model.specs.Looks.{seen, search_seen}
use Rattle.reader_laws.proofs.Still.{looks-still}
use Rattle.reader_laws.proofs.Decide.{looks-decide}

-- So what the plain search answers goes by the header and by the nodes of these looks: a table that agrees with t on them gives the same
-- answer.
pub search-decides : (n k : ℕ) (t u : Words) → length u ≡ length t → ((w : ℕ) → w < 8 → at u w ≡ at t w)
    → ((i m : ℕ) → Memᴰ (seen i m) (search_seen n (λ (j : ℕ). t) k) → node_view u m ≡ node_view t m) → search n u k ≡ search n t k
search-decides n k t u long header same =
    sym (looks-still n u k) ∙ looks-decide n k (λ (j : ℕ). t) (λ (j : ℕ). u) long header same ∙ looks-still n t k
