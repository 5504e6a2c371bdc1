-- Quick calls, computed: the numbers in their order, each though later ones hold too; what a split and a freed leaf do to the summary; a
-- page of
-- a listing.
use Rattle.std.proofs.Common.{◌≡◌, true, false, [], ◌∷◌, take, set, replicate, refl}
use Rattle.model.specs.Results.{refused_with, page_with}
use Rattle.model.specs.Table.{MARK, Words, empty}
use Rattle.model.specs.Slots.{pointer_of}
use Rattle.model.specs.Writes.{Call, insertion, deletion, repair, stores_of}
use Rattle.model.specs.Cells.{holds}
use Rattle.model.specs.Summary.{cells_in, opened, open_number, quick_number, quick_stores, quick_summary, quick_listed, quick_list_out}
use Rattle.model.proofs.Everything.{everything}
use Rattle.model.proofs.Worked.{ten_slots}
use Rattle.model.proofs.Tables.{stale, one_level, two_levels, ways}

-- a full root leaf and two free nodes; a leaf with 11 keys and one with 1 under root 3
abbrev full : Words
full = one_level 11 (stale 2)

abbrev pair : Words
pair = two_levels (11 ∷ 1 ∷ []) (ways 2 1) []

-- a hidden slot; a node word that has to be 0
abbrev hidden_one : Words
hidden_one = set (set (set (set (empty 1) 16 20) 17 5) 18 25) 19 5

abbrev unsound_one : Words
unsound_one = set (empty 1) 12 1

-- a split of the root leaf under a new root; the deletion of the one key of leaf 2
abbrev splitting : Call
splitting = insertion 1 115 99 0

abbrev freeing : Call
freeing = deletion 1 210

-- the summary after a call
abbrev later : Call → Words → Words
later x t = quick_summary x 2560 0 (opened t) t

pub record QuickTrial : Type 0 where
  -- opening: 2, 26, 4, 20
  pub open-two : open_number 9 (set unsound_one 0 2) ≡ 2
  pub open-twenty-six : open_number 9 unsound_one ≡ 26
  pub open-four : open_number 17 unsound_one ≡ 4
  pub open-twenty : open_number 17 hidden_one ≡ 20
  pub opens : open_number 17 (empty 1) ≡ 0
  -- a call: 2, 17, 26, 4, 18, 5, then as the plain one
  pub two : quick_number (deletion 3 9) 0 2 [] (set full 0 2) ≡ 2
  pub seventeen : quick_number (deletion 3 9) 0 2 [] full ≡ 17
  pub twenty-six : quick_number (deletion 1 9) 0 2 [] full ≡ 26
  pub four : quick_number (deletion 1 9) 0 2 (replicate 49 0) full ≡ 4
  pub eighteen : quick_number (deletion 1 9) 0 2 (opened full) full ≡ 18
  pub five : quick_number (deletion 1 9) 0 0 (opened full) full ≡ 5
  pub six : quick_number (insertion 1 10 0 3) 2560 0 (opened full) full ≡ 6
  pub fourteen : quick_number (insertion 1 10 1 3) 2560 0 (opened full) full ≡ 14
  pub seven : quick_number (insertion 1 10 101 0) 2560 0 (opened full) full ≡ 7
  pub eight : quick_number (insertion 1 115 101 0) 2560 0 (opened full) full ≡ 8
  pub nine : quick_number (deletion 1 9) 2560 0 (opened full) full ≡ 9
  pub ten : quick_number splitting 2560 0 (opened (one_level 11 [])) (one_level 11 []) ≡ 10
  pub repairs : quick_number repair 2560 0 (opened full) full ≡ 0
  -- A split marks the new root and the new leaf, a freed leaf loses its mark; the stores are the plain call's.
  pub marked : (take 1 (opened full) ≡ 2 ∷ []) × (take 1 (later splitting full) ≡ 14 ∷ [])
  pub cleared : (take 1 (opened pair) ≡ 14 ∷ []) × (take 1 (later freeing pair) ≡ 10 ∷ [])
  pub stores : (quick_stores splitting (opened full) full ≡ stores_of splitting full)
      × (quick_stores freeing (opened pair) pair ≡ stores_of freeing pair)
  -- the recording comes into the cells, and goes
  pub enters : (holds (cells_in 3 (opened full)) (pointer_of 99 1) ≡ false)
      × (holds (cells_in 3 (later splitting full)) (pointer_of 99 1) ≡ true)
  pub leaves : (holds (cells_in 3 (opened pair)) (pointer_of 121 1) ≡ true)
      × (holds (cells_in 3 (later freeing pair)) (pointer_of 121 1) ≡ false)
  -- a page of two pairs from key 100 on, and that more are left
  pub page : (quick_listed 1 (opened pair) pair 100 MARK (replicate 4 0) ≡ page_with 2 true)
      × (quick_list_out 1 (opened pair) pair 100 MARK (replicate 4 0) ≡ 100 ∷ 110 ∷ 110 ∷ 111 ∷ [])
  pub last-page : (quick_listed 1 (opened pair) pair 111 MARK (replicate 4 0) ≡ page_with 1 false)
      × (quick_listed 1 (replicate 49 0) pair 111 MARK [] ≡ refused_with 4)

pub quick-tried : QuickTrial
unfolding everything ten_slots
quick-tried =
    record {
      open-two = refl;
      open-twenty-six = refl;
      open-four = refl;
      open-twenty = refl;
      opens = refl;
      two = refl;
      seventeen = refl;
      twenty-six = refl;
      four = refl;
      eighteen = refl;
      five = refl;
      six = refl;
      fourteen = refl;
      seven = refl;
      eight = refl;
      nine = refl;
      ten = refl;
      repairs = refl;
      marked = (refl, refl);
      cleared = (refl, refl);
      stores = (refl, refl);
      enters = (refl, refl);
      leaves = (refl, refl);
      page = (refl, refl);
      last-page = (refl, refl);
    }
