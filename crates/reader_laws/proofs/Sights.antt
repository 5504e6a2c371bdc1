-- A list of stores in which, from each moment on, every word of the header or of a node that is reached then is steady. Such lists join.
use Rattle.std.proofs.Common.{◌≡◌, ℕ, ◌+◌, ◌-◌, ◌<◌, ◌≤◌, Bool, true, false, ltb, ◌⊎◌, List, ◌++◌, length, take, drop, sym, refl, ap, ◌∙◌}
use Rattle.std.proofs.Common.{subst, arith, drop-drop, take-add, ltb-false, ltb-true}
use mathlib.Core.List.{Memᴰ}
use lib.Seq.{take-append-le, take-append-add, drop-append-add}
use Rattle.model.specs.Table.{Words, at, no_collection}
use Rattle.model.specs.Slots.{view_of}
use Rattle.model.specs.Reached.{reached}
use Rattle.model.specs.Orders.{Store, apply}
use Rattle.model.specs.Returns.{OfNode}
use Rattle.cut_laws.proofs.Applying.{apply-append, length-apply}
use Rattle.reader_laws.proofs.Values.{values_to, Steady, steady-drop, steady-back}

-- word w of t is of the header, or of a node that is reached from the root of a collection
abbrev pub Sight : Words → (w : ℕ) → Type 0
Sight t w = (w < 8) ⊎ ((c : ℕ) × (m : ℕ) × (no_collection c t ≡ false) × Memᴰ m (reached (view_of c t)) × OfNode m w)

-- from moment a on
abbrev pub SteadyFrom : Words → List Store → (a w : ℕ) → Type 0
SteadyFrom t ss a w = Steady (at (apply (take a ss) t) w) (values_to w (drop a ss))

unfoldable pub AllSteady : Words → List Store → Type 0
AllSteady t ss = (a w : ℕ) → w < length t → Sight (apply (take a ss) t) w → SteadyFrom t ss a w

-- every word is steady from the start on
pub whole-steady : (t : Words) (ss : List Store) → ((w : ℕ) → Steady (at t w) (values_to w ss)) → AllSteady t ss
unfolding AllSteady
whole-steady t ss h a w l i = steady-drop a w ss t l (h w)

-- moments of a list that goes on, in its first part and behind it
module _ (t : Words) (ss us : List Store) where
  part-early : (a : ℕ) → a ≤ length ss → apply (take a (ss ++ us)) t ≡ apply (take a ss) t
  part-early a h = ap (λ (x : List Store). apply x t) (take-append-le a ss us h)

  part-late : (a : ℕ) → apply (take (length ss + a) (ss ++ us)) t ≡ apply (take a us) (apply ss t)
  part-late a = ap (λ (x : List Store). apply x t) (take-append-add ss us a) ∙ apply-append ss (take a us) t

  pub steady-append : ((a w : ℕ) → a < length ss → w < length t → Sight (apply (take a ss) t) w → SteadyFrom t (ss ++ us) a w)
      → AllSteady (apply ss t) us → AllSteady t (ss ++ us)
  unfolding AllSteady
  steady-append f g a w l i = go (ltb a (length ss)) refl
    where
      go : (b : Bool) → ltb a (length ss) ≡ b → SteadyFrom t (ss ++ us) a w
      go true e = let h = ltb-true a (length ss) e in f a w h l (subst (λ (x : Words). Sight x w) (part-early a (omega arith)) i)
      go false e = subst (λ (d : ℕ). SteadyFrom t (ss ++ us) d w) same late
        where
          d : ℕ
          d = a - length ss

          same : length ss + d ≡ a
          same = let h = ltb-false a (length ss) e in omega arith

          there : Sight (apply (take d us) (apply ss t)) w
          there = subst (λ (x : Words). Sight x w) (part-late d) (subst (λ (x : ℕ). Sight (apply (take x (ss ++ us)) t) w) (sym same) i)

          late : SteadyFrom t (ss ++ us) (length ss + d) w
          late = rw (part-late d, drop-append-add ss us d) (g d w (rw (length-apply ss t) l) there)

-- ---- what it says of the moments

-- from moment z to moment d
from-moment : (t : Words) (ss : List Store) (z d : ℕ) → z ≤ d → apply (take d ss) t ≡ apply (take (d - z) (drop z ss)) (apply (take z ss) t)
from-moment t ss z d g =
    let q : z + (d - z) ≡ d = omega arith in
    ap (λ (x : ℕ). apply (take x ss) t) (sym q) ∙ ap (λ (x : List Store). apply x t) (take-add z (d - z) ss)
    ∙ apply-append (take z ss) (take (d - z) (drop z ss)) t

-- a word that is in sight at moment z is steady from each later one on
later-steady : (t : Words) (ss : List Store) → AllSteady t ss → (z a w : ℕ) → z ≤ a → w < length t
    → Sight (apply (take z ss) t) w → SteadyFrom t ss a w
unfolding AllSteady
later-steady t ss h z a w g l s =
    let q : z + (a - z) ≡ a = omega arith in
    rw (from-moment t ss z a g, ap (λ (x : ℕ). drop x ss) (sym q) ∙ sym (drop-drop (a - z) z ss))
    (steady-drop (a - z) w (drop z ss) (apply (take z ss) t) (rw (length-apply (take z ss) t) l) (h z w l s))

pub never-back : (t : Words) (ss : List Store) → AllSteady t ss → (z a b c w : ℕ) → z ≤ a → a ≤ b → b ≤ c → w < length t
    → Sight (apply (take z ss) t) w
    → at (apply (take a ss) t) w ≡ at (apply (take c ss) t) w → at (apply (take b ss) t) w ≡ at (apply (take a ss) t) w
never-back t ss h z a b c w g i j l s e =
    ap (λ (x : Words). at x w) (from-moment t ss a b i)
    ∙ steady-back w (drop a ss) (b - a) (c - a) (apply (take a ss) t) (rw (length-apply (take a ss) t) l) (later-steady t ss h z a w g l s)
    (omega arith) (e ∙ ap (λ (x : Words). at x w) (from-moment t ss a c (omega arith)))
