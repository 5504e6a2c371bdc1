-- Search and listing of a collection by its map: they never depend on the other collection.
use Rattle.std.proofs.Common.{◌≡◌, ℕ, true, false, ◌≢◌, ◌⊎◌, List, length, sym, ap, ◌∙◌, inl, inr}
use Rattle.model.specs.Table.{Words, header_ok, root_word, no_collection}
use Rattle.model.specs.Slots.{Slot, view_of}
use Rattle.model.specs.Search.{lookup, search}
use Rattle.model.specs.Listing.{in_range_of, listed, listed_words, list_number, list, list_out}
use Rattle.model.specs.SoundTest.{sound_view, nothing, sound}
use Rattle.model.specs.Reached.{map_of}
use Rattle.list_laws.proofs.Tools.{Each-map, same-or-not}
use Rattle.tree_laws.proofs.SearchLaw.{search-view}
use Rattle.tree_laws.proofs.Leftovers.{settled-sound-view}
use Rattle.change_laws.proofs.Parts.{HasLeft, settled-left, sound-left}
use Rattle.step_laws.proofs.TreeAt.{tree_at}
use Rattle.two_laws.proofs.Arrange.{SoundAs, sound-parts, head-iff, sound-tree}
use Rattle.two_laws.proofs.CallsTwo.{Is, arr-other}
use Rattle.two_laws.proofs.AcceptedTwo.{there}

-- a sound table has a right header
pub sound-head : (t : Words) → sound t ≡ true → header_ok t ≡ true
sound-head t s = (head-iff t).1 ((sound-parts t).0 s).0

-- each tree of a sound table is sound
pub sound-view : (w : ℕ) (t : Words) → sound t ≡ true → Is w t → sound_view (tree_at w t) ≡ true
sound-view w t s i = let u = sound-tree t s in go u (same-or-not w u.word)
  where
    go : (u : SoundAs t) → (w ≡ u.word) ⊎ (w ≢ u.word) → sound_view (tree_at w t) ≡ true
    go u (inl e) = rw e ((sound-left (tree_at u.word t)).1 (u.leftover, u.tree.left, u.tree.room))
    go u (inr z) =
        arr-other u.word u.others t w (λ (x : ℕ). sound_view (tree_at x t) ≡ true) u.arranged i z
        (Each-map (λ (x : ℕ). HasLeft (tree_at x t) nothing) (λ (x : ℕ). sound_view (tree_at x t) ≡ true) u.others
        (λ x l. settled-sound-view (tree_at x t) ((settled-left (tree_at x t)).1 l)) u.tree.others)

module _ (n : ℕ) (t : Words) (s : sound t ≡ true) (h : no_collection n t ≡ false) where
  -- A search of collection n answers as a lookup in its map.
  pub search-law : (k : ℕ) → search n t k ≡ lookup k (map_of n t)
  unfolding search
  search-law k = rw (sound-head t s, h, search) (search-view (view_of n t) k (sound-view (root_word n) t s (there n t h).1))

  accepts : list_number n t ≡ 0
  unfolding list_number
  accepts = rw (sound-head t s, h, s)

  -- A listing of collection n gives the pairs of its map.
  pub list-law : (low high : ℕ) (out : Words) → list n t low high out ≡ listed (in_range_of low high (map_of n t)) (length out)
  unfolding list
  list-law low high out = rw accepts

  pub list-out-law : (low high : ℕ) (out : Words) → list_out n t low high out ≡ listed_words (in_range_of low high (map_of n t)) out
  unfolding list_out
  list-out-law low high out = rw accepts

-- Search and listing never depend on the other collection: on two sound tables with the same map of collection n they are the same.
module _ (n : ℕ) (t t' : Words) (s : sound t ≡ true) (s' : sound t' ≡ true) (h : no_collection n t ≡ false)
    (h' : no_collection n t' ≡ false) (e : map_of n t ≡ map_of n t') where
  pub search-own : (k : ℕ) → search n t k ≡ search n t' k
  search-own k = search-law n t s h k ∙ ap (lookup k) e ∙ sym (search-law n t' s' h' k)

  pub list-own : (low high : ℕ) (out : Words) → list n t low high out ≡ list n t' low high out
  list-own low high out =
      list-law n t s h low high out ∙ ap (λ (m : List Slot). listed (in_range_of low high m) (length out)) e
      ∙ sym (list-law n t' s' h' low high out)

  pub list-out-own : (low high : ℕ) (out : Words) → list_out n t low high out ≡ list_out n t' low high out
  list-out-own low high out =
      list-out-law n t s h low high out ∙ ap (λ (m : List Slot). listed_words (in_range_of low high m) out) e
      ∙ sym (list-out-law n t' s' h' low high out)
