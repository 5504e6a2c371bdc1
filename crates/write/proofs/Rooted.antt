-- The tree of a collection, by the root that was read from the header.
use Rattle.std.proofs.Common.{◌≡◌, ℕ, Bool, true, false}
use Rattle.model.specs.Table.{Words, at, root_word, no_collection}
use Rattle.model.specs.Slots.{view_from}
use Rattle.model.specs.Reached.{mapping, map_of}
use Rattle.model.specs.SoundTest.{sound_view, sound}
use Rattle.model.specs.Writes.{standing_in, standing}
use Rattle.model.specs.Refusals.{has_key}
use Rattle.two_laws.proofs.CollectionTwo.{collection-sound}

module _ (n : ℕ) (t : Words) (r : ℕ) (e : r ≡ at t (root_word n)) where
  -- in a sound table the tree from the root that was read is sound
  pub root-sound : sound t ≡ true → no_collection n t ≡ false → sound_view (view_from t r) ≡ true
  root-sound s h = rw e (collection-sound n t s h)

  -- the search from the root that was read stands on the nodes that the search in the collection does
  pub root-stands : (x l k : ℕ) → x ≡ standing_in (view_from t r) l k → x ≡ standing n t l k
  root-stands x l k q = rw e at q

  -- the map from the root that was read has key k exactly if that of the collection has
  pub root-key : (b : Bool) (k : ℕ) → b ≡ has_key k (mapping (view_from t r)) → b ≡ has_key k (map_of n t)
  root-key b k q = rw e at q
