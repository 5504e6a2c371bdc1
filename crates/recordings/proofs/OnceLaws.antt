-- The numbers of a leaf, each compared with those after it.
use Rattle.std.proofs.Common.{◌≡◌, ℕ, suc, ◌+◌, ◌-◌, Bool, true, false, not, ◌&&◌, ◌||◌, eqb, List, [], ◌∷◌, map, length, take, drop, sym}
use Rattle.std.proofs.Common.{refl, ap, ◌∙◌, ap₂, arith, length-drop}
use mathlib.Core.List.{tail}
use Rattle.std.specs.List.{list_any, list_all, enumerate_from}
use Rattle.std.proofs.lemmas.List.{drop_more, take_rest}
use Rattle.model.specs.Table.{Words}
use Rattle.model.specs.Slots.{recording_of}
use Rattle.model.specs.SoundTest.{elem}
use Rattle.list_laws.proofs.Tools.{eqb-sym}
use Rattle.list_laws.proofs.Members.{elem-join}
use Rattle.std.specs.Prelude.{Option, None}
use Rattle.slots.specs.declared.Ways.{Ways}
use Rattle.recordings.specs.Marked.{rest_of}
use Rattle.recordings.specs.Once.{once_before}

-- no ways, no numbers
pub none-there : (o : Option Ways) (xs : List ℕ) → map recording_of (rest_of o) ≡ xs → o ≡ None → [] ≡ xs
none-there o xs e z = sym (ap (λ (w : Option Ways). map recording_of (rest_of w)) z) ∙ e

-- one of these pointers has the number
pub any-elem : (r : ℕ) (ps : Words) → list_any (λ p. eqb (recording_of p) r) ps ≡ elem r (map recording_of ps)
unfolding elem
any-elem r [] = refl
any-elem r (p ∷ ps) = rw (eqb-sym (recording_of p) r, any-elem r ps)

-- each pointer, with its place among ps: its number against those after it and against ys
module _ (ps ys : Words) where
  abbrev pub apart : ℕ × ℕ → Bool
  apart x = not (elem (recording_of x.1) (map recording_of (take (length ps - (x.0 + 1)) (drop (x.0 + 1) ps)))) && not
      (elem (recording_of x.1) ys)

  once-here : (a b c : Bool) → (not a && not b && c) ≡ (not (a || b) && c)
  once-here true b c = refl
  once-here false b c = refl

  pub once-places : (qs : Words) (i : ℕ) → drop i ps ≡ qs → list_all apart (enumerate_from i qs) ≡ once_before (map recording_of qs) ys
  unfolding once_before
  once-places [] i e = refl
  once-places (q ∷ qs) i e =
      let long : length ps - i ≡ suc (length qs) = sym (length-drop i ps) ∙ ap length e in
      let later : drop (i + 1) ps ≡ qs = ap tail (sym (drop_more ps i 0 (omega arith)) ∙ e) in
      ap₂ (λ (ns : Words) (b : Bool). not (elem (recording_of q) (map recording_of ns)) && not (elem (recording_of q) ys) && b)
      (take_rest ps (i + 1) ∙ later) (once-places qs (i + 1) later)
      ∙ once-here (elem (recording_of q) (map recording_of qs)) (elem (recording_of q) ys) (once_before (map recording_of qs) ys)
      ∙ sym (ap (λ (a : Bool). not a && once_before (map recording_of qs) ys) (elem-join (recording_of q) (map recording_of qs) ys))
