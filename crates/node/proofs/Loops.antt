-- A loop that copies a part of a list: one slot more, and the end.
use Rattle.std.proofs.Common.{◌≡◌, ℕ, ◌+◌, ◌*◌, ◌<◌, ◌≤◌, length, take, drop, set, sym, ◌∙◌, add-one, arith, length-drop, length-set}
use Rattle.std.proofs.Common.{get_or-drop, take_all, take-suc, take-suc-set}
use Rattle.model.specs.Table.{Words, at}

copy-more : (s t : Words) (a j : ℕ) → j < length s → a + j < length t → take j s ≡ take j (drop a t) → take (j + 1) (set s j (at t (a + j)))
    ≡ take (j + 1) (drop a t)
copy-more s t a j h l e =
    let m : j < length (drop a t) = simp length-drop (omega arith) in
    rw (add-one, take-suc-set, take-suc (drop a t) j 0, get_or-drop, e)

-- the two words of slot i
pub copy-slot : (s t : Words) (a i : ℕ) → 2 * i + 1 < length s → a + (2 * i + 1) < length t → take (2 * i) s ≡ take (2 * i) (drop a t)
    → take (2 * (i + 1)) (set (set s (2 * i) (at t (a + 2 * i))) (2 * i + 1) (at t (a + (2 * i + 1)))) ≡ take (2 * (i + 1)) (drop a t)
copy-slot s t a i h l e =
    let q : 2 * (i + 1) ≡ 2 * i + 1 + 1 = omega arith in
    rw q (copy-more (set s (2 * i) (at t (a + 2 * i))) t a (2 * i + 1) (rw length-set h) l
    (copy-more s t a (2 * i) (omega arith) (omega arith) e))

pub copied : (s t : Words) (a n j : ℕ) → j ≤ n → n ≤ j → length s ≡ n → take j s ≡ take j (drop a t) → s ≡ take n (drop a t)
copied s t a n j l u h e = let q : j ≡ n = omega arith in sym (take_all n s (omega arith)) ∙ (rw q at e)
