-- The orders one by one: where the first i held, on the image that they leave, what is left comes to the answer.
use Rattle.std.proofs.Common.{◌≡◌, ℕ, zero, suc, ◌+◌, ◌-◌, ◌/◌, ◌<◌, ◌≤◌, Bool, true, false, cond, not, ◌&&◌, List, [], ◌∷◌, ◌++◌, length}
use Rattle.std.proofs.Common.{take, drop, sym, refl, ap, ◌∙◌, inl, add-one, arith, length-drop, drop_of_length-le}
use mathlib.Core.Option.{Option, none}
use Rattle.std.specs.Prelude.{is_some, Option as Known, Some, None, Ok}
use Rattle.model.specs.Results.{Verdict}
use Rattle.model.specs.Table.{Words, at}
use Rattle.model.specs.Reached.{Maps, maps_of}
use Rattle.model.specs.Orders.{Order, order_of, decode, inside, all_inside, carry}
use Rattle.model.specs.Judge.{good_image, unflushed_after, second_line, completes, judged_from, count_of}
use Rattle.list_laws.proofs.Tools.{and-iff}
use Rattle.list_laws.proofs.Lists.{cons-same}
use Rattle.cut_laws.proofs.Applying.{length-carry, carry-append}
use Rattle.carry.proofs.Turns.{no-order, next-order, inside-here, inside-next}
use Rattle.two_laws.proofs.SameTwo.{settled-sound}
use Rattle.judge_laws.proofs.Judged.{good-maps, judged-goes, judged-stops}
use Rattle.wear_laws.proofs.Stored.{decode-length}
use Rattle.judge.specs.declared.Change.{Change}
use Rattle.judge.specs.Wanted.{wanted, Suits, line_of, Holds, ended}
use Rattle.judge.proofs.Rest.{ended-is}

-- how many orders a list has
abbrev pub order_count : Words → ℕ
order_count list = length list / 2

-- the orders of the words left are those from order i on
pub record Going (old new : Maps) (t list u : Words) (line : Known ℕ) (i : ℕ) (ws : Words) : Type 0 where
  pub up-to : i ≤ order_count list
  pub place : drop i (decode list) ≡ decode ws
  pub image : u ≡ carry (take i (decode list)) t
  pub good : good_image old new u ≡ true
  pub all-in : all_inside (length t) (decode ws) ≡ true
  pub rest : judged_from old new (decode ws) i (line_of line) u ≡ judged_from old new (decode list) 0 none t

pub going-start : (c : Change) (t list u ws : Words) → Suits c t → u ≡ t → all_inside (length t) (decode list) ≡ true → ws ≡ list
    → Going (maps_of t) (wanted c t) t list u None 0 ws
unfolding carry
going-start c t list u ws b e a q =
    rw (e, q)
    (record {
      up-to = omega arith;
      place = refl;
      image = refl;
      good = (good-maps (maps_of t) (wanted c t) t).1 (settled-sound t b.settles, inl refl);
      all-in = a;
      rest = refl;
    })

-- one order more among the first ones
taken-more : {A : Type 0} (i : ℕ) (xs : List A) (x : A) (r : List A) → drop i xs ≡ x ∷ r → take (suc i) xs ≡ take i xs ++ (x ∷ [])
taken-more {A = A} i [] x r e =
    absurd (let z : [] ≡ x ∷ r = sym (drop_of_length-le [] {i = i} (omega arith)) ∙ e in let o : ◌≡◌ {A = ℕ} 0 1 = cc in omega arith)
taken-more zero (y ∷ xs) x r e = ap (λ q. q ∷ []) (cons-same y x xs r e).0
taken-more (suc i) (y ∷ xs) x r e = ap (λ q. y ∷ q) (taken-more i xs x r e)

left-length : (list : Words) (i : ℕ) → length (drop i (decode list)) ≡ order_count list - i
left-length list i = omega (arith, length-drop i (decode list), decode-length list)

dropped-more : {A : Type 0} (i : ℕ) (xs : List A) (x : A) (r : List A) → drop i xs ≡ x ∷ r → drop (suc i) xs ≡ r
dropped-more {A = A} i [] x r e =
    absurd (let z : [] ≡ x ∷ r = sym (drop_of_length-le [] {i = i} (omega arith)) ∙ e in let o : ◌≡◌ {A = ℕ} 0 1 = cc in omega arith)
dropped-more zero (y ∷ xs) x r e = (cons-same y x xs r e).1
dropped-more (suc i) (y ∷ xs) x r e = dropped-more i xs x r e

module _ {old new : Maps} {t list u : Words} {line : Known ℕ} {i : ℕ} {ws : Words} (g : Going old new t list u line i ws) where
  pub going-length : length u ≡ length t
  going-length = ap length g.image ∙ length-carry (take i (decode list)) t

  module _ (pair after : Words) (p : ws ≡ pair ++ after) (two : length pair ≡ 2) (o : Order)
      (is : o ≡ order_of (at pair 0) (at pair 1)) where
    pub going-inside : inside (length u) o ≡ true
    going-inside = inside-here ws pair after p two (length t) g.all-in (length u) going-length o is

    abbrev later : List Order
    later = decode after

    more : decode ws ≡ o ∷ later
    more = next-order ws pair after p two ∙ ap (λ (x : Order). x ∷ later) (sym is)

    pub going-up : i + 1 ≤ order_count list
    going-up = omega (arith, ap length (g.place ∙ more), left-length list i)

    module _ (u' : Words) (e : u' ≡ carry (o ∷ []) u) (r : Known (Known ℕ)) (k : Holds old new (line_of line) o u' r) where
      image-more : u' ≡ carry (take (i + 1) (decode list)) t
      image-more = e ∙ ap (carry (o ∷ [])) g.image
          ∙ sym (rw (add-one i, taken-more i (decode list) o later (g.place ∙ more)) (carry-append (take i (decode list)) (o ∷ []) t))

      tested : is_some r ≡ (not (second_line (line_of line) o) && good_image old new (carry (o ∷ []) u))
      tested = rw e at k.is-held

      rest-is : judged_from old new (o ∷ later) i (line_of line) u ≡ judged_from old new (decode list) 0 none t
      rest-is = sym (ap (λ (os : List Order). judged_from old new os i (line_of line) u) more) ∙ g.rest

      -- the count does not hold
      pub going-fails : r ≡ None → Ok (Some (i + 1)) ≡ judged_from old new (decode list) 0 none t
      going-fails z = ap (λ (n : ℕ). Ok (Some n)) (add-one i)
          ∙ sym (judged-stops old new o later i (line_of line) u (sym tested ∙ ap is_some z)) ∙ rest-is

      pub going-failed : u' ≡ carry (take (count_of (Ok (Some (i + 1))) (order_count list)) (decode list)) t
      going-failed = image-more

      -- it holds
      pub going-next : (l : Known ℕ) → r ≡ Some l → Going old new t list u' l (i + 1) after
      going-next l z =
          let w = (and-iff (not (second_line (line_of line) o)) (good_image old new (carry (o ∷ []) u))).0 (sym tested ∙ ap is_some z) in
          record {
            up-to = going-up;
            place = rw (add-one i) (dropped-more i (decode list) o later (g.place ∙ more));
            image = image-more;
            good = rw e w.1;
            all-in = inside-next ws pair after p two (length t) g.all-in;
            rest =
                ap (λ (m : ℕ). judged_from old new later m (line_of l) u') (add-one i)
                ∙ ap (λ (x : Option ℕ). judged_from old new later (suc i) x u') (k.line-is l z)
                ∙ ap (judged_from old new later (suc i) (unflushed_after (line_of line) o)) e
                ∙ sym (judged-goes old new o later i (line_of line) u (sym tested ∙ ap is_some z)) ∙ rest-is;
          }

-- all orders held
module _ (c : Change) (t list u : Words) (line : Known ℕ) (i : ℕ) (ws : Words) (b : Suits c t)
    (g : Going (maps_of t) (wanted c t) t list u line i ws) (h : length ws < 2)
    (r : Verdict) (e : r ≡ ended (line_of line) u c (order_count list)) where
  all : i ≡ order_count list
  all = omega (arith, g.up-to, ap length (g.place ∙ no-order ws h), left-length list i)

  answer-is : r ≡ cond (completes (wanted c t) (line_of line) u) (Ok None) (Ok (Some (order_count list)))
  answer-is = e ∙ ended-is c t b line u (order_count list) g.good

  pub going-ends : r ≡ judged_from (maps_of t) (wanted c t) (decode list) 0 none t
  unfolding judged_from
  going-ends =
      answer-is ∙ ap (λ (n : ℕ). judged_from (maps_of t) (wanted c t) [] n (line_of line) u) (sym all)
      ∙ ap (λ (os : List Order). judged_from (maps_of t) (wanted c t) os i (line_of line) u) (sym (no-order ws h)) ∙ g.rest

  pub going-ended : u ≡ carry (take (count_of r (order_count list)) (decode list)) t
  going-ended = g.image
      ∙ ap (λ (n : ℕ). carry (take n (decode list)) t)
      (all ∙ sym (ap (λ (x : Verdict). count_of x (order_count list)) answer-is ∙ counted (completes (wanted c t) (line_of line) u)))
    where
      counted : (b : Bool) → count_of (cond b (Ok None) (Ok (Some (order_count list)))) (order_count list) ≡ order_count list
      counted true = refl
      counted false = refl
