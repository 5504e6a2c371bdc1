-- `isrc::spelling_of` meets its contract.
use Rattle.std.proofs.Common.{◌≡◌, ℕ, ◌/◌, List, ◌++◌, map, length, take, drop, replicate, ap, append-nil, arith, length-append, take_at}
use Rattle.std.proofs.Common.{drop_at}
use mathlib.Core.List.{map-append}
use Rattle.model.specs.Codes.{character, digits, spelling}
use borrow.Rule.Slice.PartMut.{put_mid}
use Rattle.isrc.proofs.spelling_of.Goals as goal

-- xs in front of zeros, then ys in the place of the zeros
joined : (xs ys : List ℕ) (key : ℕ) → length xs ≡ 5 → xs ≡ map character (digits 36 5 (key / 10000000)) → ys
    ≡ map character (digits 10 (length (take 7 (drop 5 (xs ++ replicate 7 0)))) key)
    → put_mid 5 7 (xs ++ replicate 7 0) ys ≡ spelling key
unfolding spelling
joined xs ys key l e f =
    let d : drop 5 (xs ++ replicate 7 0) ≡ replicate 7 0 = drop_at xs (replicate 7 0) 5 l in
    rw (take_at xs (replicate 7 0) 5 l, d, append-nil, map-append, ← e) (ap (λ (zs : List ℕ). xs ++ zs) (rw d at f))

pub slice_bounds-text-end-2 : goal.slice_bounds-text-end-2
slice_bounds-text-end-2 c = rw length-append (omega (arith, c.write_digits.auto.text))

pub returns : goal.returns
returns c = let w = c.write_digits in
    joined _ _ _ w.auto.text w.ensures c.write_digits-2.ensures
