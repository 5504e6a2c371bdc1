-- What making answers by its tests; zeros with four stores are the empty table, with two more that of two collections.
use Rattle.std.proofs.Common.{◌≡◌, ℕ, ◌+◌, ◌-◌, ◌*◌, false, ◌≢◌, length, set, replicate, refl, arith, ne_eqb}
use lib.ListN.{replicate-append-replicate}
use Rattle.std.specs.Prelude.{Ok}
use Rattle.model.specs.Results.{refused_with}
use Rattle.model.specs.Table.{MARK, Words, length_ok, node_start, empty, empty_of, make_number, making, made}
use Rattle.table_laws.proofs.Header.{LengthFacts, length-iff}

-- ---- the number

pub number-length : (n : ℕ) (t : Words) → length_ok (length t) ≡ false → 2 ≡ make_number n t
unfolding make_number
number-length n t h = rw h

module _ (n : ℕ) (t : Words) (N : ℕ) (f : LengthFacts (length t) N) where
  pub number-one : n ≡ 1 → 0 ≡ make_number n t
  unfolding make_number
  number-one e = rw (((length-iff (length t) N).1 f).0, e)

  pub number-other : n ≢ 1 → n ≢ 2 → 17 ≡ make_number n t
  unfolding make_number
  number-other a b = rw (((length-iff (length t) N).1 f).0, ne_eqb n 1 a, ne_eqb n 2 b)

  pub number-small : n ≡ 2 → N ≡ 1 → 2 ≡ make_number n t
  unfolding make_number
  number-small e z = let l = (length-iff (length t) N).1 f in rw (l.0, e, ← l.1, z)

  pub number-two : n ≡ 2 → N ≢ 1 → 0 ≡ make_number n t
  unfolding make_number
  number-two e z = let l = (length-iff (length t) N).1 f in rw (l.0, e, ← l.1, ne_eqb N 1 z)

-- ---- the answer and the words

abbrev pub stored : Words → ℕ → Words
stored d n = set (set (set (set d 0 1) 1 1) 2 n) 8 MARK

stored-empty : (len n : ℕ) → LengthFacts len n → stored (replicate len 0) n ≡ empty n
unfolding empty
stored-empty len n f =
    let e : len ≡ 9 + (32 * n - 1) = omega arith in
    rw (e, ← replicate-append-replicate {A = ℕ} 9 (32 * n - 1) 0)

module _ (n : ℕ) (t : Words) where
  pub making-refused : make_number n t ≢ 0 → (refused_with (make_number n t) ≡ making n t) × (t ≡ made n t)
  unfolding making made
  making-refused z = rw (ne_eqb (make_number n t) 0 z) (refl, refl)

  module _ (d : Words) (z : make_number n t ≡ 0) (N : ℕ) (f : LengthFacts (length t) N) (e : d ≡ replicate (length t) 0) where
    making-done : (u : Words) → u ≡ empty_of n N → (Ok tt ≡ making n t) × (u ≡ made n t)
    unfolding making made
    making-done u q = rw (z, ← ((length-iff (length t) N).1 f).1) (refl, q)

    pub making-one : n ≡ 1 → (Ok tt ≡ making n t) × (stored d N ≡ made n t)
    unfolding empty_of
    making-one o = making-done (stored d N) (rw (o, e) (stored-empty (length t) N f))

    pub making-two : n ≡ 2 → (Ok tt ≡ making n t) × (set (set (stored d N) 3 2) 40 MARK ≡ made n t)
    unfolding empty_of node_start
    making-two o = making-done (set (set (stored d N) 3 2) 40 MARK) (rw (o, e, stored-empty (length t) N f))
