-- `isrc::is_code` meets its contract.
use Rattle.std.proofs.Common.{◌≡◌, ℕ, Bool, true, false, ◌&&◌, eqb, List, length, take, drop, refl, ap, ◌∙◌, eq-eqb, ne_eqb}
use Rattle.model.specs.Codes.{is_code}
use Rattle.model.specs.Lists.{all}
use Rattle.isrc.specs.Kinds.{test}
use Rattle.isrc.specs.declared.Kind.TheVariants.{Letter, LetterOrDigit, Digit}
use Rattle.list_laws.proofs.Tools.{and-then, and-else}
use Rattle.isrc.proofs.Codes.{rest}
use Rattle.isrc.proofs.is_code.Goals.{Joined-all_of, then-text-eq12, else-text-eq12, then-all_of, else-all_of}
use Rattle.isrc.proofs.is_code.Goals as goal

grouped : (a b d g : Bool) → (((a && b) && d) && g) ≡ (a && b && d && g)
grouped true true d g = refl
grouped true false d g = refl
grouped false b d g = refl

-- the tests of all parts
parts : (text : List ℕ) (v w x : Bool)
    → v ≡ (eqb (length text) 12 && all (test Letter) (take 2 text)) → w ≡ (v && all (test LetterOrDigit) (take 3 (drop 2 text)))
    → x ≡ (w && all (test Digit) (drop 5 text)) → x ≡ is_code text
unfolding is_code test
parts text v w x e f g =
    rw (g, f, e) (grouped (eqb (length text) 12) (all (test Letter) (take 2 text)) (all (test LetterOrDigit) (take 3 (drop 2 text)))
    (all (test Digit) (drop 5 text)))

-- the answer, where the tests but the last came together
whole : (c : Joined-all_of) (x : Bool) → x ≡ (c.if-all_of.value && all (test Digit) (drop 5 c.args.text.now)) → x ≡ is_code c.args.text.now
whole c x e =
    parts c.args.text.now _ _ x
    (elim c.if-text-eq12.branch [
      | then-text-eq12 v ↦ and-then _ _ _ _ refl (eq-eqb _ _ v.if-text-eq12.true) (v.value-is ∙ v.all_of.ensures)
      | else-text-eq12 v ↦ v.value-is ∙ and-else _ _ _ refl (ne_eqb _ _ v.if-text-eq12.false)
    ])
    (elim c.if-all_of.branch [
      | then-all_of w ↦ and-then _ _ _ _ refl w.if-all_of.true (w.value-is ∙ w.all_of-then-all_of.ensures)
      | else-all_of w ↦ w.value-is ∙ and-else _ _ _ refl w.if-all_of.false
    ])
    e

pub returns-then-all_of-2 : goal.returns-then-all_of-2
returns-then-all_of-2 c =
    whole (goal.at.returns-then-all_of-2 c).Joined-all_of _
    (and-then _ _ _ _ refl c.if-all_of-2.true (c.all_of-then-all_of-2.ensures ∙ ap (all (test Digit)) (rest 5 c.args.text.now)))

pub returns-else-all_of-2 : goal.returns-else-all_of-2
returns-else-all_of-2 c = whole (goal.at.returns-else-all_of-2 c).Joined-all_of _ (and-else _ _ _ refl c.if-all_of-2.false)
