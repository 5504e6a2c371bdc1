-- A slice lent from a place to its end, and put back.
use Rattle.std.proofs.Common.{◌≡◌, ℕ, ◌-◌, ◌≤◌, ◌++◌, length, take, drop, ap, ◌∙◌, append-nil, arith, length-append, length-drop}
use Rattle.std.proofs.Common.{drop_of_length-le, length-take-le, take_all, take_at, drop_at}
use Rattle.model.specs.Table.{Words}

module _ (l : Words) (w : ℕ) where
  -- what is lent
  pub rest-is : take (length l - w) (drop w l) ≡ drop w l
  rest-is = let n = length-drop w l in take_all (length l - w) (drop w l) (omega arith)

  -- the words of l from w on are length l - w
  pub rest-long : length (take (length l - w) (drop w l)) ≡ length l - w
  rest-long = let n = length-drop w l in ap length rest-is ∙ omega arith

  -- what stands there when it is put back
  pub back-is : (p : Words) → take w l ++ (p ++ drop (length l - w) (drop w l)) ≡ take w l ++ p
  back-is p = let n = length-drop w l in ap (λ (x : Words). take w l ++ (p ++ x))
      (drop_of_length-le (drop w l) {i = length l - w} (omega arith)) ∙ ap (λ (x : Words). take w l ++ x) (append-nil p)

  module _ (h : w ≤ length l) (p : Words) where
    -- the first w words stay if other words follow them
    pub back-take : take w (take w l ++ p) ≡ take w l
    back-take = take_at (take w l) p w (length-take-le w l h)

    -- behind the first w words stand those that were put there
    pub back-drop : drop w (take w l ++ p) ≡ p
    back-drop = drop_at (take w l) p w (length-take-le w l h)

    -- if as many words are put back as were taken, the length stays
    pub back-long : length p ≡ length l - w → length (take w l ++ p) ≡ length l
    back-long e = let a = length-take-le w l h in length-append (take w l) p ∙ omega arith
