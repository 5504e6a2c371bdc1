-- Search and listing never depend on the other collection's changes: at every first part of the stores of every accepted call.
use Rattle.std.proofs.Common.{◌≡◌, ℕ, Bool, true, false, cond, ◌≢◌, ◌⊎◌, List, length, take, sym, refl, ap, ◌∙◌, inl, inr, ⊎_elim, ne_eqb}
use mathlib.Core.Option.{Option, none, some}
use Rattle.model.specs.Results.{Listed, refused_with}
use Rattle.model.specs.Table.{Words, no_collection}
use Rattle.model.specs.Slots.{Slot}
use Rattle.model.specs.Listing.{in_range_of, listed, listed_words, list_number, list, list_out}
use Rattle.model.specs.Orders.{apply}
use Rattle.model.specs.SoundTest.{sound}
use Rattle.model.specs.Search.{search}
use Rattle.model.specs.Reached.{Maps, maps_of}
use Rattle.model.specs.Writes.{Call, insertion, deletion, class_change, repair, stores_of}
use Rattle.model.specs.Refusals.{seventeen_in, refusal}
use Rattle.model.specs.Ledger.{on_map, change, list_in, answer_from}
use Rattle.two_laws.proofs.AcceptedTwo.{there, accepted-iff}
use Rattle.two_laws.proofs.MapsTwo.{Steps, accepted-steps}
use Rattle.two_laws.proofs.SearchTwo.{sound-head}
use Rattle.two_laws.proofs.LedgerTwo.{list-there, list-lacking, searched}

-- ---- a listing by the maps

abbrev pub listed_from : (low high words : ℕ) → Option (List Slot) → Listed
listed_from low high words none = refused_with 17
listed_from low high words (some ps) = listed (in_range_of low high ps) words

abbrev pub written_from : (low high : ℕ) → Words → Option (List Slot) → Words
written_from low high out none = out
written_from low high out (some ps) = listed_words (in_range_of low high ps) out

number-by : (n : ℕ) (t : Words) → sound t ≡ true → list_number n t ≡ cond (no_collection n t) 17 0
unfolding list_number
number-by n t s = rw (sound-head t s, s)

module _ (n : ℕ) (t : Words) (s : sound t ≡ true) (low high : ℕ) (out : Words) where
  -- A listing of any collection of a sound table is by its maps.
  pub listed-by : (list n t low high out ≡ listed_from low high (length out) (list_in n (maps_of t)))
      × (list_out n t low high out ≡ written_from low high out (list_in n (maps_of t)))
  unfolding list list_out
  listed-by = go (no_collection n t) refl
    where
      go : (b : Bool) → no_collection n t ≡ b → (list n t low high out ≡ listed_from low high (length out) (list_in n (maps_of t)))
          × (list_out n t low high out ≡ written_from low high out (list_in n (maps_of t)))
      go true h =
          let e = number-by n t s ∙ ap (λ (b : Bool). cond b 17 0) h in
          rw (e, list-lacking n t h) (refl, refl)
      go false h =
          let e = number-by n t s ∙ ap (λ (b : Bool). cond b 17 0) h in
          rw (e, list-there n t h) (refl, refl)

-- ---- a change belongs to one collection

-- call x names another collection than n, or none
abbrev pub Others : (n : ℕ) → Call → Type 0
Others n (insertion m k r c) = m ≢ n
Others n (deletion m k) = m ≢ n
Others n (class_change m k c) = m ≢ n
Others n repair = Unit {0}

other-list : (n m : ℕ) (f : List Slot → List Slot) (x : Maps) → (m ≡ 1) ⊎ (m ≡ 2) → m ≢ n → list_in n (on_map m f x) ≡ list_in n x
unfolding on_map
other-list n m f x (inl e) z = rw (e, ne_eqb n 1 (λ q. z (e ∙ sym q)))
other-list n m f x (inr e) z = rw (e, ne_eqb n 2 (λ q. z (e ∙ sym q)))

others-list : (n : ℕ) (x : Call) (t : Words) (m : Maps) → seventeen_in x t ≡ false → Others n x → list_in n (change x m) ≡ list_in n m
others-list n (insertion j k r c) t m h z = other-list n j _ m (there j t h).0 z
others-list n (deletion j k) t m h z = other-list n j _ m (there j t h).0 z
others-list n (class_change j k c) t m h z = other-list n j _ m (there j t h).0 z
others-list n repair t m h z = refl

module _ (x : Call) (words dock : ℕ) (t : Words) (s : sound t ≡ true) (ok : refusal x words dock t ≡ 0) (n : ℕ)
    (z : Others n x) (j : ℕ) where
  abbrev t' : Words
  t' = apply (take j (stores_of x t)) t

  steps : Steps x t
  steps = accepted-steps x words dock t s ok

  same : list_in n (maps_of t') ≡ list_in n (maps_of t)
  same = ⊎_elim (λ e. ap (list_in n) e)
      (λ e. ap (list_in n) e ∙ others-list n x t (maps_of t) ((accepted-iff x words dock t).0 ok).collection z) (steps.part-map j)

  -- After any number of the stores of another collection's call, a search and a listing of collection n are as before it.
  pub search-stays : (k : ℕ) → search n (apply (take j (stores_of x t)) t) k ≡ search n t k
  search-stays k = searched n t' k (steps.part-sound j) ∙ ap (answer_from k) same ∙ sym (searched n t k s)

  pub list-stays : (low high : ℕ) (out : Words) → (list n (apply (take j (stores_of x t)) t) low high out ≡ list n t low high out)
      × (list_out n (apply (take j (stores_of x t)) t) low high out ≡ list_out n t low high out)
  list-stays low high out =
      let a = listed-by n t' (steps.part-sound j) low high out in
      let b = listed-by n t s low high out in
      (a.0 ∙ ap (listed_from low high (length out)) same ∙ sym b.0, a.1 ∙ ap (written_from low high out) same ∙ sym b.1)
