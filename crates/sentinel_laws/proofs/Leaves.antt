-- The leaves of a sound table are the reached nodes on level 0.
use Rattle.std.proofs.Common.{◌≡◌, ℕ, Bool, true, false, ◌&&◌, ◌||◌, eqb, ◌≢◌, ◌⊎◌, List, ◌++◌, refl, ap, ◌∙◌, inl, inr, append-nil}
use Rattle.model.specs.Table.{Words, at, node}
use Rattle.model.specs.Slots.{View, view_of}
use Rattle.model.specs.Reached.{flat, reached, leaves, reached_all}
use Rattle.model.specs.SoundTest.{elem, sound}
use Rattle.model.specs.Sentinels.{leaves_all}
use Rattle.list_laws.proofs.Tools.{and-iff, eqb-iff, same-test, same-or-not}
use Rattle.list_laws.proofs.Members.{elem-iff, elem-join}
use Rattle.tree_laws.proofs.Levels.{Orderly, mem-leaves}
use Rattle.two_laws.proofs.Arrange.{trees-one, trees-two}
use Rattle.two_laws.proofs.SameTwo.{first-there, second-there}
use Rattle.two_laws.proofs.CollectionTwo.{collection-orderly, elem-alone, elem-beside}

one-tree : (v : View) (n : ℕ) → Orderly v → elem n (leaves v) ≡ (elem n (reached v) && eqb (v.node n).level 0)
one-tree v n o = same-test (elem n (leaves v)) (elem n (reached v) && eqb (v.node n).level 0) (
  λ e. let u = (mem-leaves v n o).0 ((elem-iff n (leaves v)).0 e) in (and-iff _ _).1 ((elem-iff n (reached v)).1 u.0, (eqb-iff _ _).1 u.1),
  λ e. let u = (and-iff _ _).0 e in (elem-iff n (leaves v)).1 ((mem-leaves v n o).1 ((elem-iff n (reached v)).0 u.0, (eqb-iff _ _).0 u.1)),
)

both : (a b z : Bool) → (a && z) || (b && z) ≡ (a || b) && z
both true true true = refl
both true true false = refl
both true false true = refl
both true false false = refl
both false b z = refl

-- in a sound table a node is one of the leaves exactly if it is reached and on level 0
pub leaves-level : (t : Words) (n : ℕ) → sound t ≡ true → elem n (leaves_all t) ≡ (elem n (reached_all t) && eqb (node t n).level 0)
unfolding leaves_all flat
leaves-level t n s = go (same-or-not (at t 3) 0)
  where
    first : elem n (leaves (view_of 1 t)) ≡ (elem n (reached (view_of 1 t)) && eqb (node t n).level 0)
    first = one-tree (view_of 1 t) n (collection-orderly 1 t s (first-there t))

    second : at t 3 ≢ 0 → elem n (leaves (view_of 2 t)) ≡ (elem n (reached (view_of 2 t)) && eqb (node t n).level 0)
    second z = one-tree (view_of 2 t) n (collection-orderly 2 t s (second-there t z))

    go : (at t 3 ≡ 0) ⊎ (at t 3 ≢ 0) → elem n (leaves_all t) ≡ (elem n (reached_all t) && eqb (node t n).level 0)
    go (inl z) = ap (λ (vs : List View). elem n (flat leaves vs)) (trees-one t z) ∙ ap (elem n) (append-nil (leaves (view_of 1 t)))
        ∙ first ∙ rw (elem-alone t z n)
    go (inr z) =
        ap (λ (vs : List View). elem n (flat leaves vs)) (trees-two t z)
        ∙ ap (λ (l : List ℕ). elem n (leaves (view_of 1 t) ++ l)) (append-nil (leaves (view_of 2 t)))
        ∙ elem-join n (leaves (view_of 1 t)) (leaves (view_of 2 t))
        ∙ rw (first, second z, elem-beside t z n)
        (both (elem n (reached (view_of 1 t))) (elem n (reached (view_of 2 t))) (eqb (node t n).level 0))
