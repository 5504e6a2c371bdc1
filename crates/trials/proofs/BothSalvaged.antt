-- Salvages of tables of two collections, sound and damaged.
use Rattle.std.proofs.Common.{◌≡◌, ℕ, true, false, List, [], ◌∷◌, ◌++◌, map, set, replicate, refl}
use mathlib.Core.Option.{some}
use Rattle.std.specs.Prelude.{Ok}
use Rattle.model.specs.Table.{MARK, Words, empty_of}
use Rattle.model.specs.Slots.{Slot, slot}
use Rattle.model.specs.Reached.{map_of, Maps, maps_of}
use Rattle.model.specs.SoundTest.{settled, sound}
use Rattle.model.specs.Writes.{node_words}
use Rattle.model.specs.Packing.{packed_table}
use Rattle.model.specs.Salvage.{entered, kept_maps, dropped_all, salvage_number, salvage, salvage_out, salvage_report}
use Rattle.model.proofs.Everything.{everything}
use Rattle.model.proofs.Tables.{table_of}
use Rattle.trials.proofs.Salvages.{alone, pairs, good, dropped, crowded}

abbrev both : (ps qs : List Slot) → Maps
both ps qs = record { one = ps; two = some qs }

-- the same table with this root of collection 2
abbrev second : ℕ → Words → Words
second r t = set t 3 r

-- collection 1 in nodes 1 to 3, the root 3 with these slots; collection 2 in node 4
abbrev beside : List Slot → Words
beside ss = second 4
    (table_of 3 (node_words MARK 2 0 0 (slot 10 100 ∷ slot 20 200 ∷ []) ∷ node_words MARK 0 0 50 (slot 50 300 ∷ []) ∷ node_words 1 0 1 0 ss
    ∷ node_words MARK 0 0 0 (slot 10 300 ∷ slot 50 100 ∷ []) ∷ []))

pub record Salvages : Type 0 where
  -- Collection 1 first, also in numbering the new nodes: 12 pairs are nodes 1 to 3, 2 pairs node 4; nodes past them are 0.
  pub numbered : packed_table 5 (both (pairs 12 1) (pairs 2 1))
      ≡ second 4 (table_of 3
      (node_words MARK 2 0 0 (pairs 11 1) ∷ node_words MARK 0 0 120 (pairs 1 12) ∷ node_words 1 0 1 0 (slot 120 2 ∷ [])
      ∷ node_words MARK 0 0 0 (pairs 2 1) ∷ replicate 32 0 ∷ []))
  pub on : packed_table 6 (both (pairs 1 1) (pairs 12 1))
      ≡ second 4 (table_of 1
      (node_words MARK 0 0 0 (pairs 1 1) ∷ node_words MARK 3 0 0 (pairs 11 1) ∷ node_words MARK 0 0 120 (pairs 1 12)
      ∷ node_words 2 0 1 0 (slot 120 3 ∷ []) ∷ replicate 32 0 ∷ replicate 32 0 ∷ []))
  -- A collection without pairs becomes one empty leaf.
  pub empty-both : packed_table 3 (both [] []) ≡ empty_of 2 3
  pub empty-first : packed_table 2 (both [] (pairs 1 1))
      ≡ second 2 (table_of 1 (node_words MARK 0 0 0 [] ∷ node_words MARK 0 0 0 (pairs 1 1) ∷ []))
  pub packed-settled :
      (settled (packed_table 40 (both (pairs 150 1) (pairs 133 7))) ≡ true)
      × (maps_of (packed_table 40 (both (pairs 150 1) (pairs 133 7))) ≡ both (pairs 150 1) (pairs 133 7))
  -- A sound table, also with a leftover in one of the trees, drops nothing and gives the same maps.
  pub settled-kept : (settled (beside (slot 50 2 ∷ [])) ≡ true) × (kept_maps (beside (slot 50 2 ∷ [])) ≡ maps_of (beside (slot 50 2 ∷ [])))
      × (dropped_all (beside (slot 50 2 ∷ [])) ≡ [])
  pub sound-kept : (sound (beside []) ≡ true) × (settled (beside []) ≡ false) × (kept_maps (beside []) ≡ maps_of (beside []))
      × (dropped_all (beside []) ≡ [])
  -- Both roots the same: all is collection 1's.
  pub same-root : (map (λ (n : ℕ). entered n (second 3 good)) (1 ∷ 2 ∷ []) ≡ (3 ∷ 1 ∷ 2 ∷ []) ∷ [] ∷ [])
      × (kept_maps (second 3 good) ≡ both (map_of 1 good) [])
  -- A root in the other tree: the same; without collection 2 there is none in the result.
  pub other-root : kept_maps (second 2 good) ≡ both (map_of 1 good) []
  pub lacking-stays : kept_maps good ≡ alone (map_of 1 good)
  -- Collection 1's last leaf has collection 2's root as its sibling: it goes to collection 1. The free node 4 as root is collection 2's.
  pub first-takes : map
      (λ (n : ℕ). entered n (second 2 (table_of 1 (node_words MARK 2 0 0 [] ∷ node_words MARK 3 0 9 [] ∷ node_words MARK 0 0 20 [] ∷ []))))
      (1 ∷ 2 ∷ []) ≡ (1 ∷ 2 ∷ 3 ∷ []) ∷ [] ∷ []
  pub second-takes : map (λ (n : ℕ). entered n (second 4 good)) (1 ∷ 2 ∷ []) ≡ (3 ∷ 1 ∷ 2 ∷ []) ∷ (4 ∷ []) ∷ []
  -- The second root, too, is entered whatever its level.
  pub any-level : map (λ (n : ℕ). entered n
      (second 2 (table_of 1 (node_words MARK 0 0 0 [] ∷ node_words 3 0 8 0 [] ∷ node_words 1 0 7 0 [] ∷ [])))) (1 ∷ 2 ∷ [])
      ≡ (1 ∷ []) ∷ (2 ∷ 3 ∷ []) ∷ []

-- two leaves, each a tree: the same code and the same recordings in both; node 1 has a code twice, node 2 a recording
abbrev twins : Words
twins = second 2 (table_of 1
    (node_words MARK 0 0 0 (slot 10 100 ∷ slot 10 200 ∷ slot 30 300 ∷ [])
    ∷ node_words MARK 0 0 0 (slot 10 300 ∷ slot 20 100 ∷ slot 30 300 ∷ []) ∷ []))

pub record Calls : Type 0 where
  -- Duplicates are judged per collection.
  pub per-collection : kept_maps twins ≡ both (slot 10 100 ∷ slot 30 300 ∷ []) (slot 10 300 ∷ slot 20 100 ∷ [])
  pub drops : dropped_all twins ≡ dropped 1 1 2 ∷ dropped 2 2 3 ∷ []
  pub answers : salvage twins 72 72 ≡ Ok 2
  pub gives : salvage_out twins (replicate 72 9) 72
      ≡ packed_table 2 (both (slot 10 100 ∷ slot 30 300 ∷ []) (slot 10 300 ∷ slot 20 100 ∷ []))
  pub reports : salvage_report twins 72 (replicate 72 9) ≡ (1 ∷ 1 ∷ 2 ∷ 2 ∷ 2 ∷ 3 ∷ []) ++ replicate 66 9
  -- 10 by the nodes that both need together: 12 pairs need three, an empty collection one.
  pub together : map (λ (r : ℕ). salvage_number
      (second r (table_of 1 (node_words MARK 0 0 0 (pairs 12 1) ∷ replicate 32 0 ∷ replicate 32 0 ∷ []))) 104 108)
      (0 ∷ 2 ∷ []) ≡ 0 ∷ 10 ∷ []
  -- A bad second root gives 2.
  pub bad-root : map (λ (r : ℕ). salvage_number (second r good) 136 144) (4 ∷ 5 ∷ []) ≡ 0 ∷ 2 ∷ []
  pub no-second : salvage_number (second 1 crowded) 40 36 ≡ 2

pub salvages : Salvages
unfolding everything
salvages = record {
  numbered = refl;
  on = refl;
  empty-both = refl;
  empty-first = refl;
  packed-settled = (refl, refl);
  settled-kept = (refl, refl, refl);
  sound-kept = (refl, refl, refl, refl);
  same-root = (refl, refl);
  other-root = refl;
  lacking-stays = refl;
  first-takes = refl;
  second-takes = refl;
  any-level = refl;
}

pub calls : Calls
unfolding everything
calls = record {
  per-collection = refl;
  drops = refl;
  answers = refl;
  gives = refl;
  reports = refl;
  together = refl;
  bad-root = refl;
  no-second = refl;
}
