-- Insertion into a settled table: from each moment on, every word of the header or of a node that is reached then is steady.
use Rattle.std.proofs.Common.{◌≡◌, ℕ, zero, suc, ◌+◌, ◌-◌, ◌<◌, true, false, ◌⊎◌, ◌↔◌, List, [], ◌∷◌, ◌++◌, length, take, drop, sym, ap}
use Rattle.std.proofs.Common.{◌∙◌, inl, inr, arith, take-append-drop}
use lib.Seq.{take-append-le, drop-append-le, drop-append-add}
use Rattle.model.specs.Table.{Words, at, node_start, no_collection}
use Rattle.model.specs.Reached.{reached_all}
use Rattle.model.specs.SoundTest.{elem}
use Rattle.model.specs.Orders.{Store, put, apply}
use Rattle.model.specs.Shifts.{pointer_word}
use Rattle.model.specs.Writes.{shift_in_at, fresh, put_all, middle, split_words, split, standing}
use Rattle.model.specs.Returns.{OfNode}
use Rattle.table_laws.proofs.Collections.{by-number}
use Rattle.two_laws.proofs.SameTwo.{first-there, second-there}
use Rattle.cut_laws.proofs.Applying.{apply-append}
use Rattle.step_laws.proofs.WholeNode.{put-all-length}
use Rattle.two_laws.specs.Parts.{split_for}
use Rattle.two_laws.proofs.SplitTwo.{length-split}
use Rattle.two_laws.proofs.InsertTwo.{first-course}
use Rattle.two_laws.proofs.PartsTwo.{beside}
use Rattle.reader_laws.proofs.Values.{values_to, values-append, value-same, steady-drop, drop-none}
use Rattle.reader_laws.proofs.SplitValues.{Going, rest, rest-zero, rest-suc, later-none, going-next}
use Rattle.reader_laws.proofs.SplitLevels.{split-sight}
use Rattle.reader_laws.proofs.RestSteady.{Known, here-steady, rest-steady}
use Rattle.reader_laws.proofs.Sights.{Sight, SteadyFrom, AllSteady, whole-steady, steady-append}

-- the collections of a table are those of another whose word 3 is 0 exactly if its own is
pub same-there : (t t' : Words) → ((at t' 3 ≡ 0) ↔ (at t 3 ≡ 0)) → (c : ℕ) → no_collection c t' ≡ false → no_collection c t ≡ false
same-there t t' e c h = by-number t' (λ (c : ℕ). no_collection c t ≡ false) (first-there t) (λ z. second-there t (λ y. z (e.1 y))) c h

module _ (n k y : ℕ) where
  module _ (l : ℕ) (t : Words) (g : Going n k y (suc l) t) where
    abbrev ss : List Store
    ss = split_for n t l k

    abbrev more : List Store
    more = rest n k y l (apply (split_for n t l k) t)

    abbrev b : ℕ
    b = fresh t (standing n t l k)

    -- a word that is known before the split is steady from each moment on
    known-steady : (a w : ℕ) → w < length t → Known t w → SteadyFrom t (ss ++ more) a w
    known-steady a w h i = steady-drop a w (ss ++ more) t h (rw (rest-suc n k y l t) at (rest-steady n k y (suc l) t g w i))

    -- a word of B, once its words are stored
    fresh-steady : (a w : ℕ) → a < length ss → 32 < a → OfNode b w → elem b (reached_all (apply ss t)) ≡ true
        → SteadyFrom t (ss ++ more) a w
    unfolding split
    fresh-steady a w h i o r = rw (same, values) (rest-steady n k y l (apply ss t) (going-next n k y l t g) w (inr (b, r, o)))
      where
        xs : List Store
        xs = put_all (node_start b) (split_words t (standing n t l k))

        us : List Store
        us = put (suc (node_start (standing n t l k))) b ∷ put (pointer_word (standing n t l k) 5) 0
            ∷ shift_in_at t (standing n t (suc l) k) (middle t (standing n t l k)).key b

        long : length xs ≡ 32
        long = put-all-length (node_start b) (split_words t (standing n t l k)) ∙ length-split t (standing n t l k)

        place : length xs + (a - 32) ≡ a
        place = omega (arith, long)

        none : values_to w (drop a ss) ≡ []
        none = ap (λ (d : ℕ). values_to w (drop d (xs ++ us))) (sym place) ∙ ap (values_to w) (drop-append-add xs us (a - 32))
            ∙ drop-none (a - 32) w us (later-none n k y l t g w o)

        values : values_to w (drop a (ss ++ more)) ≡ values_to w more
        values = ap (values_to w) (drop-append-le a ss more (omega arith)) ∙ values-append w (drop a ss) more
            ∙ ap (λ (vs : List ℕ). vs ++ values_to w more) none

        same : at (apply (take a (ss ++ more)) t) w ≡ at (apply ss t) w
        same =
            ap (λ (x : List Store). at (apply x t) w) (take-append-le a ss more (omega arith))
            ∙ sym (ap (λ (x : List Store). at (apply x t) w) (sym (take-append-drop a ss))
            ∙ ap (λ (x : Words). at x w) (apply-append (take a ss) (drop a ss) t) ∙ value-same w (drop a ss) (apply (take a ss) t) none)

    split-from : (a w : ℕ) → a < length ss → w < length t → Sight (apply (take a ss) t) w → SteadyFrom t (ss ++ more) a w
    split-from a w h i (inl j) = known-steady a w i (inl j)
    split-from a w h i (inr (c, m, q, r, o)) =
        let other = beside n t g.ready.collection g.ready.settled in
        go (split-sight n k y l t g a c m (omega arith)
        (same-there t (apply (take a ss) t) ((first-course l n other.0 t k other.1 g.ready).lack a) c q) r)
      where
        go : (elem m (reached_all t) ≡ true)
            ⊎ ((m ≡ fresh t (standing n t l k)) × (32 < a) × (elem m (reached_all (apply (split_for n t l k) t)) ≡ true))
            → SteadyFrom t (ss ++ more) a w
        go (inl e) = known-steady a w i (inr (m, e, o))
        go (inr (e, x, z)) = fresh-steady a w h x (rw e at o) (rw e at z)

  pub rest-all : (l : ℕ) (t : Words) → Going n k y l t → AllSteady t (rest n k y l t)
  rest-all zero t g = rw (rest-zero n k y t) (whole-steady t (shift_in_at t (standing n t 0 k) k y) (here-steady n k y 0 t g))
  rest-all (suc l) t g =
      rw (rest-suc n k y l t)
      (steady-append t (split_for n t l k) (rest n k y l (apply (split_for n t l k) t)) (split-from l t g)
      (rest-all l (apply (split_for n t l k) t) (going-next n k y l t g)))
