-- What a survey of node n's slots says of the node.
use Rattle.std.proofs.Common.{◌≡◌, ℕ, suc, Bool, true, false, cond, not, ◌&&◌, ◌||◌, eqb, List, length, sym, refl, ap, ◌∙◌, ap₂, zero-add}
use Rattle.std.proofs.Common.{eq-eqb, eqb-true}
use mathlib.Core.Bool.{and-true, and-false}
use mir.Val.{bool_byte}
use Rattle.std.specs.Prelude.{None, Some}
use Rattle.model.specs.declared.Node.{Node}
use Rattle.model.specs.declared.Few.{Few}
use Rattle.model.specs.declared.Few.TheVariants.{Zero, One}
use Rattle.model.specs.Table.{MARK, Words, node}
use Rattle.model.specs.Slots.{Slot, used, node_view, view, clear_in}
use Rattle.model.specs.Search.{below}
use Rattle.model.specs.Reached.{filter, kept}
use Rattle.model.specs.SoundTest.{all, sibling_ok, keys_ok, leaf_ok, times, trailing_in, own}
use Rattle.list_laws.proofs.Tools.{same-test, all-each}
use Rattle.tree_laws.proofs.Members.{filter-all, filter-whole}
use Rattle.node.specs.Word.{word_of}
use Rattle.walk_laws.specs.Walk.{alone_ok}
use Rattle.slots.specs.declared.Survey.{Survey}
use Rattle.slots.specs.Scan.{used_from, keeps, is_kept}
use Rattle.slots.specs.declared.Low.{Low}
use Rattle.slots.specs.declared.Low.TheVariants.{AtLeast, Above}
use Rattle.slots.specs.Surveyed.{first_low, surveyed, begun}
use Rattle.slots.proofs.Surveys.{lowest, Surveyed, survey-means}
use Rattle.leaves.proofs.WaysLaws.{bound_of, bound-is}
use Rattle.sound.specs.Nodes.{left_ok, look_of}

-- ---- the number kept is the number shown exactly if all are kept

all-kept : (q : Slot → Bool) (l : List Slot) → eqb (length (filter q l)) (length l) ≡ all q l
all-kept q l =
    same-test _ _ (
      λ e. (all-each q l).1 (filter-whole q l (eqb-true _ _ e)),
      λ e. eq-eqb _ _ (ap length (filter-all q l ((all-each q l).0 e))),
    )

turned : (b c : Bool) → not b ≡ c → b ≡ not c
turned true c e = ap not e
turned false c e = ap not e

-- a test made first is one made last
last-in : (a b d e : Bool) → (a && (b && (d && e))) ≡ (b && (d && (e && a)))
last-in true b d e = ap (λ (x : Bool). b && (d && x)) (sym (and-true e))
last-in false b d e = sym (ap (λ (x : Bool). b && (d && x)) (and-false e) ∙ ap (λ (x : Bool). b && x) (and-false d) ∙ and-false b)

-- node n, so often as a flag says
pub times-bit : (n : ℕ) (b : Bool) → times n (bool_byte b) ≡ cond b (One n) Zero
times-bit n true = refl
times-bit n false = refl

-- ---- node n of a table

module _ (t : Words) (n : ℕ) where
  abbrev kept_here : Slot → Bool
  kept_here = is_kept (node t n).sibling (bound_of t n)

  abbrev start : Survey
  start = begun (node t n)

  -- the survey of its slots
  abbrev seen : Survey
  seen = surveyed (node t n).sibling (bound_of t n) (used t n) start

  means : Surveyed (node t n).sibling (bound_of t n) start seen (node_view t n).hidden (node_view t n).shown
  means = survey-means (node t n).sibling (bound_of t n) (used t n) start

  seen-hidden : seen.hidden ≡ (node_view t n).hidden
  seen-hidden = means.hidden-is ∙ zero-add (node_view t n).hidden

  seen-trailing : cond seen.trailing (One n) Zero ≡ trailing_in (view t) n
  unfolding trailing_in kept below keeps
  seen-trailing =
      ap (λ (b : Bool). cond b (One n) Zero) means.trailing-is
      ∙ turn (all kept_here (node_view t n).shown) _ (sym (all-kept kept_here (node_view t n).shown))
    where
      turn : (a b : Bool) → a ≡ b → cond (not a) (One n) Zero ≡ (elim b as (λ (c : Bool). Few ℕ) [ true ↦ Zero | false ↦ One n ])
      turn a true e = rw e
      turn a false e = rw e

  seen-fair : seen.fair ≡ keys_ok (view t) n (lowest (first_low (node t n).level (node t n).fence))
  unfolding keys_ok kept below keeps
  seen-fair = means.fair-is

  seen-alone : (seen.fair && (clear_in t n && (sibling_ok (view t) n && left_ok (node t n).level (node t n).left))) ≡ alone_ok (view t) n
  unfolding alone_ok leaf_ok
  seen-alone =
      last-in seen.fair (clear_in t n) (sibling_ok (view t) n) (left_ok (node t n).level (node t n).left)
      ∙ ap (λ (b : Bool). clear_in t n && (sibling_ok (view t) n && (left_ok (node t n).level (node t n).left && b))) seen-fair
      ∙ ap (λ (b : Bool). clear_in t n && (sibling_ok (view t) n && b)) (turn (eqb (node t n).level 0))
    where
      low : Bool → Low
      low b = cond b (AtLeast (node t n).fence) (Above (node t n).fence)

      turn : (b : Bool)
          → ((not b || eqb (node t n).left MARK) && keys_ok (view t) n (lowest (low b)))
          ≡ (elim b as (λ (c : Bool). Bool) [ true ↦ leaf_ok (view t) n | false ↦ keys_ok (view t) n (suc (node t n).fence) ])
      turn true = refl
      turn false = refl

  -- what is unfinished in it, from the survey's counts
  seen-own : (h tr : Few ℕ) → h ≡ times n seen.hidden → tr ≡ cond seen.trailing (One n) Zero
      → record { hidden = h; trailing = tr; missing = Zero } ≡ own (view t) n
  unfolding own
  seen-own h tr p q = λ i. record { hidden = (p ∙ ap (times n) seen-hidden) i; trailing = (q ∙ seen-trailing) i; missing = Zero }

  -- ---- the node's record x as it was read, and its sibling's fence e

  abbrev survey_of : Node → ℕ → Survey
  survey_of x e = surveyed x.sibling e (used_from x.slots 0) (begun x)

  module _ (x : Node) (e : ℕ) (is : x ≡ node t n) (fence : e ≡ word_of t x.sibling 3) (s : Survey) (q : s ≡ survey_of x e) where
    seen-is : s ≡ seen
    unfolding used
    seen-is = q ∙ ap (survey_of x) (bound-is t n x e is fence) ∙ ap (λ (y : Node). survey_of y (bound_of t n)) is

    alone-is : (s.fair && (clear_in t n && (sibling_ok (view t) n && left_ok x.level x.left))) ≡ alone_ok (view t) n
    alone-is =
        ap (λ (y : Survey). y.fair && (clear_in t n && (sibling_ok (view t) n && left_ok x.level x.left))) seen-is
        ∙ ap (λ (y : Node). seen.fair && (clear_in t n && (sibling_ok (view t) n && left_ok y.level y.left))) is ∙ seen-alone

    abbrev Alone : Bool → Type 0
    Alone a = a ≡ (clear_in t n && (sibling_ok (view t) n && left_ok x.level x.left))

    wrong : alone_ok (view t) n ≡ false → None ≡ look_of (view t) n
    unfolding look_of
    wrong b = rw b

    -- the node is in order as the tests say, which are made one after the other
    made : (f : Bool) → not s.fair ≡ f → (a : Bool) → Alone a → alone_ok (view t) n ≡ (not f && a)
    made f e a z = sym alone-is ∙ ap₂ ◌&&◌ (turned s.fair f e) (sym z)

    pub look-unfair : not s.fair ≡ true → None ≡ look_of (view t) n
    look-unfair f = wrong (made true f _ refl)

    pub look-wrong : not s.fair ≡ false → (a : Bool) → Alone a → a ≡ false → None ≡ look_of (view t) n
    look-wrong f a z y = wrong (made false f a z ∙ y)

    pub look-is : not s.fair ≡ false → (a : Bool) (h tr : Few ℕ) → Alone a → a ≡ true → h ≡ times n s.hidden → tr
        ≡ cond s.trailing (One n) Zero
        → Some (record { hidden = h; trailing = tr; missing = Zero }) ≡ look_of (view t) n
    unfolding look_of
    look-is f a h tr z y p r =
        let b : alone_ok (view t) n ≡ true = made false f a z ∙ y in
        let o = seen-own h tr (p ∙ ap (λ (y : Survey). times n y.hidden) seen-is)
        (r ∙ ap (λ (y : Survey). cond y.trailing (One n) Zero) seen-is) in
        rw b (ap Some o)
