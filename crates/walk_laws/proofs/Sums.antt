-- Sums over a commutative monoid do not mind the order: depth first and row by row give the same.
use Rattle.std.proofs.Common.{◌≡◌, ℕ, zero, suc, ◌+◌, Bool, true, ◌&&◌, List, [], ◌∷◌, ◌++◌, sym, refl, ap, ◌∙◌, arith}
use mathlib.Core.Bool.{and_assoc, and_comm}
use Rattle.model.specs.declared.Unfinished.{Unfinished}
use Rattle.model.specs.Slots.{View}
use Rattle.model.specs.Reached.{flat, children, reached_from}
use Rattle.model.specs.SoundTest.{all, finished, together, total}
use Rattle.list_laws.proofs.Tools.{flat-flat, flat-single}
use Rattle.tree_laws.proofs.Sums.{together-assoc, together-comm}

pub record Monoid (M : Type 0) : Type 0 where
  pub unit : M
  pub op : M → M → M
  pub unit-left : (x : M) → op unit x ≡ x
  pub assoc : (x y z : M) → op (op x y) z ≡ op x (op y z)
  pub comm : (x y : M) → op x y ≡ op y x

-- the sum over a list in a commutative monoid
abbrev pub sum {ℓ} : {A : Type ℓ} {M : Type 0} → Monoid M → (A → M) → List A → M
sum m g xs = total m.unit m.op g xs

-- ---- the sums used: what is unfinished, counts, tests

-- what is unfinished adds up as a commutative monoid, with nothing unfinished as its unit
abbrev pub joint : Monoid Unfinished
joint = record { unit = finished; op = together; unit-left = λ x. refl; assoc = together-assoc; comm = together-comm }

abbrev pub numbers : Monoid ℕ
numbers = record { unit = 0; op = ◌+◌; unit-left = λ x. omega arith; assoc = λ x y z. omega arith; comm = λ x y. omega arith }

-- truth values and their conjunction are a commutative monoid with the unit true
abbrev pub tests : Monoid Bool
tests = record { unit = true; op = ◌&&◌; unit-left = λ x. refl; assoc = and_assoc; comm = and_comm }

-- ---- laws of every such sum

module _ {M : Type 0} (m : Monoid M) where
  -- the unit on the right changes nothing
  pub unit-right : (x : M) → m.op x m.unit ≡ x
  unit-right x = m.comm x m.unit ∙ m.unit-left x

  pub swap : (a b c d : M) → m.op (m.op a b) (m.op c d) ≡ m.op (m.op a c) (m.op b d)
  swap a b c d =
      m.assoc a b (m.op c d) ∙ ap (m.op a) (sym (m.assoc b c d) ∙ ap (λ (x : M). m.op x d) (m.comm b c) ∙ m.assoc c b d)
      ∙ sym (m.assoc a c (m.op b d))

  -- the sum over a joined list is the sum over one part and the sum over the other
  pub sum-append {ℓ} : {A : Type ℓ} (g : A → M) (xs ys : List A) → sum m g (xs ++ ys) ≡ m.op (sum m g xs) (sum m g ys)
  sum-append g [] ys = sym (m.unit-left (sum m g ys))
  sum-append g (x ∷ xs) ys = ap (m.op (g x)) (sum-append g xs ys) ∙ sym (m.assoc (g x) (sum m g xs) (sum m g ys))

  -- the sum over joined lists is the sum of the sums over each of them
  pub sum-flat {ℓ} : {A B : Type ℓ} (g : B → M) (h : A → List B) (xs : List A) → sum m g (flat h xs) ≡ sum m (λ (x : A). sum m g (h x)) xs
  unfolding flat
  sum-flat g h [] = refl
  sum-flat g h (x ∷ xs) = sum-append g (h x) (flat h xs) ∙ ap (m.op (sum m g (h x))) (sum-flat g h xs)

  -- the sum of joint values is the sum of the ones joined with the sum of the others
  pub sum-both {ℓ} : {A : Type ℓ} (g h : A → M) (xs : List A) → sum m (λ (x : A). m.op (g x) (h x)) xs ≡ m.op (sum m g xs) (sum m h xs)
  sum-both g h [] = sym (m.unit-left m.unit)
  sum-both g h (x ∷ xs) = ap (m.op (m.op (g x) (h x))) (sum-both g h xs) ∙ swap (g x) (h x) (sum m g xs) (sum m h xs)

-- a test of all is the sum of the tests
pub all-sum {ℓ} : {A : Type ℓ} (p : A → Bool) (xs : List A) → all p xs ≡ sum tests p xs
unfolding all
all-sum p [] = refl
all-sum p (x ∷ xs) = ap (λ (b : Bool). p x && b) (all-sum p xs)

-- ---- depth first

-- n and the nodes below it, depth first
module _ (v : View) where
  -- n and the nodes reached from it on d levels below, each one followed by those reached from it
  unfoldable pub depth_first : ℕ → ℕ → List ℕ
  depth_first zero n = n ∷ []
  depth_first (suc d) n = n ∷ flat (depth_first d) (children v n)

-- a sum over the nodes reached is the same whether each node or each row is followed by what is below it
pub sum-depth-first : {M : Type 0} (m : Monoid M) (g : ℕ → M) (v : View) (d : ℕ) (ns : List ℕ) → sum m g (flat (depth_first v d) ns)
    ≡ sum m g (reached_from v d ns)
unfolding depth_first reached_from
sum-depth-first m g v zero ns = ap (sum m g) (flat-single ns)
sum-depth-first m g v (suc d) ns =
    let below : ℕ → List ℕ = λ (n : ℕ). flat (depth_first v d) (children v n) in
    sum-flat m g (depth_first v (suc d)) ns
    ∙ sum-both m g (λ (n : ℕ). sum m g (below n)) ns
    ∙ ap (m.op (sum m g ns))
    (sym (sum-flat m g below ns) ∙ ap (sum m g) (sym (flat-flat (depth_first v d) (children v) ns))
    ∙ sum-depth-first m g v d (flat (children v) ns))
    ∙ sym (sum-append m g ns (reached_from v d (flat (children v) ns)))
