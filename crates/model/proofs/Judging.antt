-- The judge's numbers in their order, computed: each comes if its condition holds, though later ones hold too.
use Rattle.std.proofs.Common.{◌≡◌, [], ◌∷◌, set, refl}
use Rattle.model.specs.Table.{MARK, Words, empty}
use Rattle.model.specs.Writes.{Call, insertion, deletion}
use Rattle.model.specs.Judge.{judge_number}
use Rattle.model.proofs.Everything.{everything}

-- a node word that has to be 0; a hidden slot
abbrev unsound_one : Words
unsound_one = set (empty 1) 12 1

abbrev hidden_one : Words
hidden_one = set (set (set (set (empty 1) 16 20) 17 5) 18 25) 19 5

-- a store and a flush outside the table; a flush inside
abbrev outside : Words
outside = 40 ∷ 0 ∷ MARK ∷ 9 ∷ []

abbrev inside : Words
inside = MARK ∷ 2 ∷ []

-- a change that is refused, since the code is absent, and one that is not
abbrev absent : Call
absent = deletion 1 9

abbrev wanted : Call
wanted = insertion 1 9 1 0

pub record JudgeTrial : Type 0 where
  pub two : judge_number (deletion 3 9) (set (empty 1) 0 2) outside 39 ≡ 2
  pub seventeen : judge_number (deletion 3 9) unsound_one outside 39 ≡ 17
  pub four : judge_number absent unsound_one outside 39 ≡ 4
  pub twenty : judge_number absent hidden_one outside 39 ≡ 20
  pub thirteen : judge_number absent (empty 1) outside 39 ≡ 13
  pub fifteen : judge_number absent (empty 1) inside 39 ≡ 15
  pub twenty-one : judge_number absent (empty 1) inside 40 ≡ 21
  pub judges : judge_number wanted (empty 1) inside 40 ≡ 0

pub judge-tried : JudgeTrial
unfolding everything
judge-tried = record
    { two = refl; seventeen = refl; four = refl; twenty = refl; thirteen = refl; fifteen = refl; twenty-one = refl; judges = refl }
