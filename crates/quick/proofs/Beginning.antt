-- The tests of a quick call up to the way, one by one, as the code makes them.
use Rattle.std.proofs.Common.{◌≡◌, ℕ, ◌+◌, ◌*◌, ◌/◌, ◌<◌, ◌≤◌, Bool, true, false, cond, not, eqb, ◌≢◌, List, [], ◌∷◌, length, take, sym}
use Rattle.std.proofs.Common.{refl, ap, ◌∙◌, add-one, arith, length-take, le-ltb, lt-ltb, eq-eqb, ne_eqb}
use Rattle.std.specs.Prelude.{Ok, Err, Option, Some, None, ok_or, is_some}
use Rattle.model.specs.declared.Refusal.{Refusal}
use Rattle.model.specs.declared.Refusal.TheVariants.{NoTable, NoCollection, NotSound}
use Rattle.model.specs.Results.{answer_number}
use Rattle.model.specs.Numbers.{refusal_number}
use Rattle.model.specs.Table.{Words, nodes, header_ok, no_collection}
use Rattle.model.specs.Slots.{Slot, view_from, view_of}
use Rattle.model.specs.Search.{first_with}
use Rattle.model.specs.Refusals.{has_key, words_for}
use Rattle.model.specs.Summary.{mark_words, cell_words, summary_words, marks_in, way_ok, quick_list_number}
use Rattle.model.proofs.Numbers.{Numbered, none-numbered, one-more, handed-number}
use Rattle.table_laws.proofs.Header.{header-iff}
use Rattle.node.specs.Word.{number_in, found_root}
use Rattle.node.proofs.Roots.{found-err, found-there}
use Rattle.slots.specs.Held.{held_by}
use Rattle.way.specs.declared.Way.{Way}
use Rattle.way.specs.Ways.{Walked, Along}
use Rattle.quick.specs.Lists.{lent_number}

-- ---- the words of a summary

pub mark-words-is : (N : ℕ) → N / 64 + 1 ≡ mark_words N
unfolding mark_words
mark-words-is N = add-one (N / 64)

pub summary-words-is : (N m : ℕ) → m ≡ mark_words N → m + 16 * N ≡ summary_words N
unfolding cell_words
summary-words-is N m e = ap (λ (w : ℕ). w + 16 * N) e

pub marks-few : (N m : ℕ) → m ≡ mark_words N → N ≤ 65535 → m ≤ 1024
unfolding mark_words
marks-few N m e h = omega (arith, e, h)

-- a mark for each of so many nodes
pub marks-reach : (N : ℕ) (ws : Words) → length ws ≡ summary_words N → N < 64 * length (take (mark_words N) ws)
unfolding mark_words cell_words
marks-reach N ws e = omega (arith, length-take (mark_words N) ws, e)

-- ---- 2, 17, 26 and 4

module _ (n : ℕ) (ws t : Words) (k : ℕ) where
  -- 2 and 17
  number-numbered : Numbered (number_in n t)
  unfolding number_in
  number-numbered = go (header_ok t) (no_collection n t)
    where
      go : (a b : Bool) → Numbered (cond a (cond b 17 0) 2)
      go true true = one-more true NoCollection 0 none-numbered
      go true false = none-numbered
      go false b = one-more true NoTable 0 none-numbered

  root-number : number_in n t ≢ 0 → number_in n t ≡ quick_list_number n ws t k
  unfolding quick_list_number number_in
  root-number z = go (header_ok t) (no_collection n t) refl refl
    where
      go : (a b : Bool) → header_ok t ≡ a → no_collection n t ≡ b → number_in n t ≡ quick_list_number n ws t k
      go false b f g = rw f
      go true true f g = rw (f, g)
      go true false f g = absurd (z (rw (f, g, number_in)))

  pub no-root : {r : Refusal} → found_root n t ≡ Err r → refusal_number r ≡ quick_list_number n ws t k
  no-root e = let u = found-err {T = Way} n t e in handed-number (number_in n t) u.0 u.1 number-numbered ∙ root-number u.0

  module _ {root : ℕ} (found : found_root n t ≡ Ok root) where
    pub few : nodes t ≤ 65535
    few = ((header-iff t).0 (found-there n t found).0).size.few

    pub other-length : length ws ≢ summary_words (nodes t) → 26 ≡ quick_list_number n ws t k
    unfolding quick_list_number
    other-length z = let u = found-there n t found in rw (u.0, u.1, ne_eqb (length ws) (summary_words (nodes t)) z, quick_list_number)

    module _ (long : length ws ≡ summary_words (nodes t)) (ms : Words) (em : ms ≡ marks_in (nodes t) ws) where
      rest : quick_list_number n ws t k ≡ cond (not (way_ok ms (view_of n t) k)) 4 0
      unfolding quick_list_number
      rest = let u = found-there n t found in rw (em, u.0, u.1, eq-eqb (length ws) (summary_words (nodes t)) long, quick_list_number)

      -- by the answer of the way
      module _ {o : Option Way} (w : Walked ms (view_from t root) k o) where
        walked : Walked ms (view_of n t) k o
        walked = let e = (found-there n t found).2 in rw e at w

        pub found-number : answer_number (ok_or o NotSound) ≡ quick_list_number n ws t k
        found-number = go o walked.tests ∙ sym rest
          where
            go : (o : Option Way) → is_some o ≡ way_ok ms (view_of n t) k → answer_number (ok_or o NotSound)
                ≡ cond (not (way_ok ms (view_of n t) k)) 4 0
            go None e = rw (← e)
            go (Some y) e = rw (← e)

        pub found-way : {y : Way} → ok_or o NotSound ≡ Ok y → Along n (marks_in (nodes t) ws) t k y
        found-way {y} e =
            let u = found-there n t found in
            let s = some-of o e in
            record { header = u.0; collection = u.1; walked = rw (← em, ← s) walked }
          where
            some-of : (o : Option Way) → ok_or o NotSound ≡ Ok y → o ≡ Some y
            some-of None h = cc
            some-of (Some z) h = cc

-- ---- 18 and 5

module _ (words dock : ℕ) where
  pub no-dock : 1 < dock → 18 ≡ lent_number words dock
  unfolding lent_number
  no-dock h = rw (lt-ltb 1 dock h)

  module _ (ok : dock ≤ 1) (least : ℕ) (l : least ≡ words_for dock) where
    pub short-list : words < least → 5 ≡ lent_number words dock
    unfolding lent_number
    short-list h = rw (le-ltb 1 dock ok, lt-ltb words (words_for dock) (rw l at h))

    pub list-serves : least ≤ words → 0 ≡ lent_number words dock
    unfolding lent_number
    list-serves h = rw (le-ltb 1 dock ok, le-ltb words (words_for dock) (rw l at h))

-- ---- the key in a leaf

-- some pointer is found for k exactly if some slot has key k
pub held-key : (k : ℕ) (ss : List Slot) → is_some (held_by (first_with k ss)) ≡ has_key k ss
unfolding first_with has_key
held-key k [] = refl
held-key k (s ∷ ss) = go (eqb s.key k) refl (held-key k ss)
  where
    go : (b : Bool) → eqb s.key k ≡ b → is_some (held_by (first_with k ss)) ≡ has_key k ss
        → is_some (held_by (first_with k (s ∷ ss))) ≡ has_key k (s ∷ ss)
    go true e ih = rw (e, first_with, has_key)
    go false e ih = rw (e, first_with, has_key) ih
