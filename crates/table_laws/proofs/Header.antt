-- What an accepted length and an accepted header say, and the header test's number.
use Rattle.std.proofs.Common.{◌≡◌, ℕ, ◌+◌, ◌*◌, ◌<◌, ◌≤◌, Bool, true, false, cond, ◌&&◌, ◌||◌, eqb, leb, ◌≢◌, ◌↔◌, length, sym, refl, arith}
use Rattle.std.proofs.Common.{ne_eqb}
use mathlib.Core.Bool.{false≢true}
use borrow.Author.Tests.{eqb-false}
use Rattle.model.specs.Table.{Words, at, table_length, nodes_for, length_ok, root, nodes, in_range, header_ok, header_number}
use Rattle.list_laws.proofs.Tools.{decode, refuted}
use Rattle.table_laws.proofs.Words.{part-zero-iff}

-- a slice of this length is a table of n nodes
pub record LengthFacts (len n : ℕ) : Type 0 where
  pub long : len ≡ 8 + 32 * n
  pub some : 1 ≤ n
  pub few : n ≤ 65535

-- a length passes its test, and n is its N, exactly if it is 8 + 32 times n, n from 1 to 65535
pub length-iff : (len n : ℕ) → ((length_ok len ≡ true) × (n ≡ nodes_for len)) ↔ LengthFacts len n
unfolding length_ok table_length nodes_for
length-iff len n = (λ e. let u = simp decode at e.0 in omega arith, λ f. (simp decode (omega arith), omega arith))

-- what an accepted header says but for the roots
pub record HeadFacts (t : Words) : Type 0 where
  pub size : LengthFacts (length t) (nodes t)
  pub first : at t 0 ≡ 1
  pub zeros : (w : ℕ) → 4 ≤ w → w < 8 → at t w ≡ 0

-- what an accepted header says
pub record HeaderFacts (t : Words) : Type 0 where
  pub size : LengthFacts (length t) (nodes t)
  pub first : at t 0 ≡ 1
  pub zeros : (w : ℕ) → 4 ≤ w → w < 8 → at t w ≡ 0
  pub root-some : 1 ≤ root t
  pub root-in : root t ≤ nodes t
  pub two : at t 3 ≢ 0 → (at t 3 ≤ nodes t) × (2 ≤ nodes t)

-- or the second test, where the first fails
or-iff : (a b : Bool) → (a || b ≡ true) ↔ (a ≡ false → b ≡ true)
or-iff true b = (λ e q. absurd (false≢true (sym q)), λ f. refl)
or-iff false b = (λ e q. e, λ f. f refl)

-- a header passes its test exactly if each of its words is as it must be
pub header-iff : (t : Words) → (header_ok t ≡ true) ↔ HeaderFacts t
unfolding header_ok in_range
header-iff t = (
  λ e.
      let u = simp decode at e in
      record {
        size = (length-iff (length t) (nodes t)).0 (u.0, u.1.1.0);
        first = u.1.0;
        zeros = (part-zero-iff t 4 4).0 u.1.1.1.0;
        root-some = u.1.1.1.1.0.0;
        root-in = u.1.1.1.1.0.1;
        two = λ z. simp decode at ((or-iff _ _).0 u.1.1.1.1.1 (ne_eqb (at t 3) 0 z));
      },
  λ f.
      let l = (length-iff (length t) (nodes t)).1 f.size in
      simp decode (
        l.0,
        (
          f.first,
          (
            l.1,
            (
              (part-zero-iff t 4 4).1 f.zeros,
              (
                (f.root-some, f.root-in),
                (or-iff (eqb (at t 3) 0) (leb (at t 3) (nodes t) && leb 2 (nodes t))).1 (λ e. simp decode (f.two (eqb-false (at t 3) 0 e))),
              ),
            ),
          ),
        ),
      ),
)

-- a table has at most 65,535 nodes
pub nodes-few : (t : Words) → header_ok t ≡ true → nodes t ≤ 65535
nodes-few t h = ((header-iff t).0 h).size.few

-- The header test answers 0 on an accepted header and on no other.
pub header-number-iff : (t : Words) → (header_number t ≡ 0) ↔ (header_ok t ≡ true)
unfolding header_number
header-number-iff t = pick (header_ok t)
  where
    pick : (b : Bool) → (cond {A = ℕ} b 0 2 ≡ 0) ↔ (b ≡ true)
    pick true = (λ e. refl, λ e. refl)
    pick false = (λ e. absurd (omega arith), λ e. absurd (false≢true e))

-- a header whose number is not 0 fails its test
pub header-number-refused : (t : Words) → (header_number t ≡ 0 → ⊥) → header_ok t ≡ false
header-number-refused t h = refuted _ (λ e. h ((header-number-iff t).1 e))
