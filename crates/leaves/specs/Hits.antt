-- The recording numbers of the map, leaf by leaf, and where one of them is.
use Rattle.std.specs.Prelude.{true, false, List, [], ◌∷◌, map, ℕ, zero, suc, eqb, get_or, Option, Some, None}
use Rattle.model.specs.Slots.{recording_of, recording, View}
use Rattle.model.specs.Reached.{flat, kept}
use Rattle.walk_laws.specs.Chain.{along, chain}
use Rattle.slots.specs.declared.ways.Ways.{Ways}
use Rattle.slots.specs.Gathered.{ways_from}
use Rattle.leaves.specs.declared.Hit.{Hit}

-- the recording numbers in the leaves ns
unfoldable pub recordings : View → List ℕ → List ℕ
recordings v ns = map recording (flat (kept v) ns)

-- the recording numbers of the pointers i, i + 1 .. of an array, m of them
unfoldable pub numbers_from : List ℕ → ℕ → ℕ → List ℕ
numbers_from ps i zero = []
numbers_from ps i (suc m) = recording_of (get_or ps i 0) ∷ numbers_from ps (suc i) m

-- of the ways from i on
abbrev pub recordings_from : Ways → ℕ → List ℕ
recordings_from w i = map recording (ways_from w i)

-- the first r among numbers of leaf n, of which the first has place i; else what comes after them
unfoldable pub hit_among : ℕ → ℕ → ℕ → List ℕ → Option Hit → Option Hit
hit_among r n i [] later = later
hit_among r n i (x ∷ xs) later = elim (eqb x r) [ true ↦ Some (record { node = n; slot = i }) | false ↦ hit_among r n (suc i) xs later ]

-- the first number r in the leaves ns, leaf by leaf, each one's slots of the map in turn
module _ (v : View) (r : ℕ) where
  unfoldable pub first_hit : List ℕ → Option Hit
  first_hit [] = None
  first_hit (n ∷ ns) = hit_among r n 0 (map recording (kept v n)) (first_hit ns)

-- in the leaves from n along the siblings, at most c
abbrev pub hit_along : View → ℕ → ℕ → ℕ → Option Hit
hit_along v c n r = first_hit v r (along v c n)

abbrev pub hit_in : View → ℕ → Option Hit
hit_in v r = first_hit v r (chain v)
