-- What an accepted making says.
use Rattle.std.proofs.Common.{◌≡◌, ℕ, Bool, true, false, cond, not, ◌&&◌, ◌||◌, eqb, ◌≢◌, length, refl, arith, eqb-true}
use borrow.Author.Tests.{eqb-false}
use Rattle.model.specs.Table.{Words, nodes_for, length_ok, make_number}
use Rattle.table_laws.proofs.Header.{LengthFacts, length-iff}

-- where its number is 0: the length is a table's, and any n but 1 is 2, with room for two leaves
pub record Makes (n : ℕ) (t : Words) : Type 0 where
  pub size : LengthFacts (length t) (nodes_for (length t))
  pub two : n ≢ 1 → (n ≡ 2) × (nodes_for (length t) ≢ 1)

-- if a table may be made, its length is right, and n is 1, or it is 2 and N is not 1
pub makes : (n : ℕ) (t : Words) → make_number n t ≡ 0 → Makes n t
unfolding make_number
makes n t z = go (length_ok (length t)) (eqb n 1) (eqb n 2) (eqb (nodes_for (length t)) 1) refl refl refl refl z
  where
    go : (a b c d : Bool) → length_ok (length t) ≡ a → eqb n 1 ≡ b → eqb n 2 ≡ c → eqb (nodes_for (length t)) 1 ≡ d
        → cond {A = ℕ} (not a || (c && d)) 2 (cond (not (b || c)) 17 0) ≡ 0 → Makes n t
    go false b c d p q r s e = absurd (omega (arith, e))
    go true true c d p q r s e = record { size = (length-iff (length t) _).0 (p, refl); two = λ y. absurd (y (eqb-true n 1 q)) }
    go true false true true p q r s e = absurd (omega (arith, e))
    go true false true false p q r s e =
        record { size = (length-iff (length t) _).0 (p, refl); two = λ y. (eqb-true n 2 r, eqb-false _ 1 s) }
    go true false false d p q r s e = absurd (omega (arith, e))
