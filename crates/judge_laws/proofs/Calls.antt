-- The call: what its refusals say, what the second slice ends as, and that it accepts the words of our lists.
use Rattle.std.proofs.Common.{◌≡◌, ℕ, suc, ◌*◌, ◌/◌, ◌≤◌, Bool, true, false, cond, ◌↔◌, List, length, take, sym, refl, ap, ◌∙◌, arith}
use Rattle.std.proofs.Common.{eq-eqb, eqb-true, le-leb}
use mathlib.Core.Bool.{false≢true}
use Rattle.std.specs.Prelude.{Ok, Err, Some, None}
use Rattle.model.specs.Results.{Verdict, refused_with}
use Rattle.model.specs.Table.{Words, header_ok}
use Rattle.model.specs.SoundTest.{settled}
use Rattle.model.specs.Orders.{Order, orders, carry, decode, all_inside, carry_number, carried_out}
use Rattle.model.specs.Writes.{Call, stores_of}
use Rattle.model.specs.Refusals.{seventeen_in, refusal, orders_of, written, orders_answered, list_after}
use Rattle.list_laws.proofs.Tools.{not-false-iff}
use Rattle.wear_laws.proofs.Stored.{decode-length, decode-take, all-orders}
use Rattle.cut_laws.proofs.Barriers.{barred-inside}
use Rattle.cut_laws.proofs.Lent.{inside-take, header-length, orders-inside}
use Rattle.step_laws.proofs.Accepted.{none-holds}
use Rattle.two_laws.proofs.SameTwo.{settled-sound}
use Rattle.two_laws.proofs.CollectionTwo.{settled-head}
use Rattle.two_laws.proofs.AcceptedTwo.{accepted-iff}
use Rattle.two_laws.proofs.MapsTwo.{accepted-steps}
use Rattle.two_laws.proofs.DocksTwo.{same-refusal, call-read}
use Rattle.model.specs.Judge.{Says, judged, judge_tests, judge_number, judge, count_of, judge_out}
use Rattle.judge_laws.proofs.Judged.{judged-says, judged-iff}
use Rattle.judge_laws.proofs.Ours.{ours-accepted}

-- ---- the refusals

-- Not refused: the header is right, the collection there, the table settled, each order inside it, the second slice as long, and the change
-- itself
-- would be accepted.
pub record Judgeable (x : Call) (t list : Words) (out : ℕ) : Type 0 where
  pub collection : seventeen_in x t ≡ false
  pub settles : settled t ≡ true
  pub inside : all_inside (length t) (decode list) ≡ true
  pub long : out ≡ length t
  pub accepted : refusal x 2560 0 t ≡ 0

-- 13 over the whole list
pub whole-inside : (t list : Words) → header_ok t ≡ true
    → (carry_number (length list / 2) list t ≡ 0) ↔ (all_inside (length t) (decode list) ≡ true)
unfolding carry_number
whole-inside t list h =
    rw (h, le-leb (length list / 2) (length list / 2) (omega arith), all-orders list) (passes (all_inside (length t) (decode list)))
  where
    passes : (b : Bool) → ◌≡◌ {A = ℕ} (cond b 0 13) 0 ↔ (b ≡ true)
    passes true = (λ e. refl, λ e. refl)
    passes false = (λ e. absurd (omega arith), λ e. absurd (false≢true e))

pub judgeable-iff : (x : Call) (t list : Words) (out : ℕ) → (judge_number x t list out ≡ 0) ↔ Judgeable x t list out
unfolding judge_number
judgeable-iff x t list out =
    let i = none-holds (judge_tests x t list out) (
      (λ e. omega arith),
      (
        (λ e. omega arith),
        ((λ e. omega arith), ((λ e. omega arith), ((λ e. omega arith), ((λ e. omega arith), ((λ e. omega arith), tt))))),
      ),
    ) in (
      λ e. let h = i.0 e in
          record {
            collection = h.1.0;
            settles = (not-false-iff _).0 h.1.1.1.0;
            inside = (whole-inside t list ((not-false-iff _).0 h.0)).0 (eqb-true _ _ ((not-false-iff _).0 h.1.1.1.1.0));
            long = eqb-true _ _ ((not-false-iff _).0 h.1.1.1.1.1.0);
            accepted = eqb-true _ _ ((not-false-iff _).0 h.1.1.1.1.1.1.0);
          },
      λ j. let h = settled-head t j.settles in
          i.1 (
            (not-false-iff _).1 h,
            (
              j.collection,
              (
                (not-false-iff _).1 (settled-sound t j.settles),
                (
                  (not-false-iff _).1 j.settles,
                  (
                    (not-false-iff _).1 (eq-eqb _ _ ((whole-inside t list h).1 j.inside)),
                    ((not-false-iff _).1 (eq-eqb _ _ j.long), ((not-false-iff _).1 (eq-eqb _ _ j.accepted), tt)),
                  ),
                ),
              ),
            ),
          ),
    )

-- Refused: the number of the first test that fails, and no word of the second slice is written.
pub judge-refused : (x : Call) (t list out : Words) (n : ℕ) → judge_number x t list (length out) ≡ suc n
    → (judge x t list (length out) ≡ refused_with (suc n)) × (judge_out x t list out ≡ out)
unfolding judge judge_out
judge-refused x t list out n e = (rw e refl, rw e refl)

-- ---- the answer and the second slice

module _ (x : Call) (t list : Words) (out : ℕ) (j : Judgeable x t list out) where
  -- a call that is not refused answers the verdict on the list's orders
  pub judge-judged : judge x t list out ≡ judged x t (decode list)
  unfolding judge
  judge-judged = rw ((judgeable-iff x t list out).1 j)

  -- It says what is asked of the list.
  pub judge-says : Says x t (decode list) (judge x t list out)
  judge-says = rw judge-judged (judged-says x t (decode list) j.settles)

  pub judge-iff : (r : Verdict) → (judge x t list out ≡ r) ↔ Says x t (decode list) r
  judge-iff r = rw judge-judged (judged-iff x t (decode list) r j.settles)

-- the first c orders carried out, where all are inside
pub carried : (c : ℕ) (list t : Words) → header_ok t ≡ true → all_inside (length t) (decode list) ≡ true → c ≤ length list / 2
    → carried_out c list t ≡ carry (take c (decode list)) t
unfolding carried_out carry_number
carried c list t h a l = rw (h, le-leb c (length list / 2) l, inside-take (length t) c (decode list) a)

count-within : (x : Call) (t : Words) (os : List Order) (r : Verdict) (n : ℕ) → n ≡ length os → Says x t os r → count_of r n ≤ n
count-within x t os (Ok None) n e h = omega arith
count-within x t os (Ok (Some c)) n e h = rw e h.0
count-within x t os (Err m) n e h = absurd h

module _ (x : Call) (t list out : Words) (j : Judgeable x t list (length out)) where
  -- It ends as the table with the list carried out, whole for yes, up to the named count for no.
  pub judge-out : judge_out x t list out ≡ carry (take (count_of (judged x t (decode list)) (length list / 2)) (decode list)) t
  unfolding judge_out
  judge-out =
      rw ((judgeable-iff x t list (length out)).1 j)
      (carried (count_of (judged x t (decode list)) (length list / 2)) list t (settled-head t j.settles) j.inside
      (count-within x t (decode list) (judged x t (decode list)) (length list / 2) (sym (decode-length list))
      (judged-says x t (decode list) j.settles)))

-- ---- the words of our lists

-- The first words of the lent list that an accepted call on a settled table fills, so many as it answers orders, twice, are accepted.
pub ours-judged : (x : Call) (lent : Words) (dock : ℕ) (t : Words) → settled t ≡ true → refusal x (length lent) dock t ≡ 0
    → judge x t (take (2 * orders_answered (written x (length lent) dock t)) (list_after x lent dock t)) (length t) ≡ Ok None
ours-judged x lent dock t s a =
    let u = (accepted-iff x (length lent) dock t).0 a in
    let n = orders_answered (written x (length lent) dock t) in
    let ws = take (2 * n) (list_after x lent dock t) in
    let e : decode ws ≡ orders_of x dock t = decode-take n (list_after x lent dock t) ∙ call-read x lent dock t a in
    let i = orders-inside (length t) (stores_of x t) (header-length t (settled-head t s)).0
    (accepted-steps x (length lent) dock t u.sound a).stores-inside in
    let j : Judgeable x t ws (length t) = record {
      collection = u.collection;
      settles = s;
      inside = rw e (barred-inside dock (length t) (orders (stores_of x t)) ∙ i);
      long = refl;
      accepted = sym (same-refusal x (length lent) dock 2560 t u.dock-ok u.long (omega arith)) ∙ a;
    } in
    judge-judged x t ws (length t) j ∙ ap (judged x t) e ∙ ours-accepted x (length lent) dock t s a
