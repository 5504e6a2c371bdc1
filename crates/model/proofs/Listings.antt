-- Listings of three pairs, computed: both ends of the range, whole pairs, more, other words.
use Rattle.std.proofs.Common.{◌≡◌, true, false, [], ◌∷◌, replicate, refl}
use Rattle.model.specs.Results.{page_with}
use Rattle.model.specs.Table.{Words}
use Rattle.model.specs.Slots.{pointer_of}
use Rattle.model.specs.Listing.{list, list_out}
use Rattle.model.proofs.Everything.{everything}
use Rattle.model.proofs.Batched.{four_taken}

-- keys 10, 20 and 30 with recordings 101 to 103, classes 0 to 2
abbrev three : Words
three = four_taken.table

pub record ListTrial : Type 0 where
  pub both-ends : list_out 1 three 10 30 (replicate 7 9) ≡ 10 ∷ 101 ∷ 20 ∷ pointer_of 102 1 ∷ 30 ∷ pointer_of 103 2 ∷ 9 ∷ []
  pub all-three : list 1 three 10 30 (replicate 7 9) ≡ page_with 3 false
  pub two-fit : list_out 1 three 10 30 (replicate 5 9) ≡ 10 ∷ 101 ∷ 20 ∷ pointer_of 102 1 ∷ 9 ∷ []
  pub more-left : list 1 three 10 30 (replicate 5 9) ≡ page_with 2 true
  pub between : list_out 1 three 11 29 (replicate 3 9) ≡ 20 ∷ pointer_of 102 1 ∷ 9 ∷ []
  pub none-there : list 1 three 30 10 (replicate 7 9) ≡ page_with 0 false

pub list-tried : ListTrial
unfolding everything
list-tried = record { both-ends = refl; all-three = refl; two-fit = refl; more-left = refl; between = refl; none-there = refl }
