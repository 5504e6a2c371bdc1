-- The tests in their order, and what the answers say of the call.
use Rattle.std.proofs.Common.{◌≡◌, ℕ, zero, suc, ◌/◌, Bool, true, false, cond, not, eqb, ◌≢◌, [], ◌∷◌, length, take, sym, refl, ap, ◌∙◌}
use Rattle.std.proofs.Common.{arith, eq-eqb, ne_eqb, eqb-true}
use mathlib.Core.Bool.{false≢true}
use mathlib.Core.Option.{none, some}
use Rattle.std.specs.Prelude.{Option, None, Some, Result, Ok, Err, ok_or}
use Rattle.model.specs.declared.Refusal.{Refusal}
use Rattle.model.specs.declared.Refusal.TheVariants.{NotSound}
use Rattle.model.specs.Results.{Verdict, refused_with}
use Rattle.model.specs.Table.{Words, at, root_word, header_ok, no_collection}
use Rattle.model.specs.Reached.{maps_of, reached_all}
use Rattle.model.specs.Slots.{view_from}
use Rattle.model.specs.SoundTest.{is_nothing, sound_view, sound, settled}
use Rattle.model.specs.Orders.{decode, all_inside, carry, carry_number}
use Rattle.model.proofs.Numbers.{done-ok, done-err, refused-by}
use Rattle.model.specs.Writes.{Call}
use Rattle.model.specs.Refusals.{test, first_number, seventeen_in, refusal}
use Rattle.model.specs.Ledger.{change}
use Rattle.model.specs.Judge.{judged_from, judged, judge_number, judge, count_of, judge_out}
use Rattle.list_laws.proofs.Tools.{not-false-iff}
use Rattle.step_laws.proofs.Accepted.{none-holds}
use Rattle.two_laws.proofs.CheckTwo.{nothing-settled}
use Rattle.two_laws.proofs.SameTwo.{settled-sound}
use Rattle.two_laws.proofs.SearchTwo.{sound-head}
use Rattle.judge_laws.proofs.Calls.{Judgeable, whole-inside, judge-judged, judge-out}
use Rattle.sound.specs.declared.Sound.{Sound}
use Rattle.sound.specs.Checked.{meant, checked}
use Rattle.sound.proofs.JudgeLaws.{SoundWith, checked-sound, checked-unsound}
use Rattle.node.specs.Word.{number_in, found_root}
use Rattle.node.proofs.Roots.{found-there, found-err}
use Rattle.write.proofs.Judging.{first-shared}
use Rattle.write.proofs.Rooted.{root-sound}
use Rattle.judge.specs.declared.Change.{Change}
use Rattle.judge.specs.declared.Start.{Start}
use Rattle.judge.specs.Tests.{first_tests, tested}
use Rattle.judge.specs.Wanted.{wanted}

-- ---- the tests, one by one

module _ (n : ℕ) (t list : Words) (out : ℕ) where
  pub no-root : {r : Refusal} → found_root n t ≡ Err r → Err r ≡ tested n t list out
  unfolding tested number_in
  no-root {r} e = let f = found-err {T = Start} n t e in sym f.1 ∙ go f.0 (header_ok t) (no_collection n t) refl refl
    where
      go : cond {A = ℕ} (header_ok t) (cond (no_collection n t) 17 0) 2 ≢ 0 → (a b : Bool) → header_ok t ≡ a → no_collection n t ≡ b
          → refused_with (cond (header_ok t) (cond (no_collection n t) 17 0) 2) ≡ tested n t list out
      go z false b p q = rw p
      go z true true p q = rw (p, q)
      go z true false p q = absurd (z (rw (p, q)))

  module _ {root : ℕ} (o : found_root n t ≡ Ok root) where
    there : (header_ok t ≡ true) × (no_collection n t ≡ false) × (root ≡ at t (root_word n))
    there = found-there n t o

    -- Statistics takes such an answer apart too, by grind in place: one law for both would stand in sound, and save a step in each.
    pub not-sound : {k : Option Sound} {r : Refusal} → k ≡ checked t → ok_or k NotSound ≡ Err r → Err r ≡ tested n t list out
    unfolding tested
    not-sound {k = Some x} q e = cc
    not-sound {k = None} q e =
        let same : NotSound ≡ _ = cc in
        ap Err (sym same) ∙ sym (refused-by NotSound) ∙ rw (there.0, there.1, (checked-unsound t).0 (sym q))

    module _ {k : Option Sound} {s : Sound} (q : k ≡ checked t) (e : ok_or k NotSound ≡ Ok s) where
      was-found : k ≡ Some s
      was-found = grind arith

      found : SoundWith t s.leftover s.reached
      found = (checked-sound t s.leftover s.reached).0 (sym q ∙ was-found)

      whole : sound t ≡ true
      whole = found.is-sound

      settled-is : is_nothing (some (meant s.leftover)) ≡ settled t
      settled-is = nothing-settled t (meant s.leftover) whole found.leftover-is

      module _ {b : Bool} (d : b ≡ is_nothing (some (meant s.leftover))) where
        pub not-settled : b ≡ false → refused_with 20 ≡ tested n t list out
        unfolding tested
        not-settled z = rw (sound-head t whole, there.1, whole, sym (d ∙ settled-is) ∙ z)

        module _ (y : b ≡ true) {i : Bool} (f : i ≡ all_inside (length t) (decode list)) where
          settles : settled t ≡ true
          settles = sym (d ∙ settled-is) ∙ y

          pub not-inside : i ≡ false → refused_with 13 ≡ tested n t list out
          unfolding tested
          not-inside z = rw (sound-head t whole, there.1, whole, settles, outside) refl
            where
              outside : eqb (carry_number (length list / 2) list t) 0 ≡ false
              outside = ne_eqb _ 0 (λ q. false≢true (sym (sym f ∙ z) ∙ (whole-inside t list (sound-head t whole)).0 q))

          module _ (j : i ≡ true) where
            within : eqb (carry_number (length list / 2) list t) 0 ≡ true
            within = eq-eqb _ 0 ((whole-inside t list (sound-head t whole)).1 (sym f ∙ j))

            pub other-length : (out ≡ length t → ⊥) → refused_with 15 ≡ tested n t list out
            unfolding tested
            other-length z = rw (sound-head t whole, there.1, whole, settles, within, ne_eqb out (length t) z)

            pub all-passed : out ≡ length t → Ok (record { root = root; reached = s.reached }) ≡ tested n t list out
            unfolding tested
            all-passed q = rw (sound-head t whole, there.1, whole, settles, within, eq-eqb out (length t) q, ← found.reached-are, ← there.2)

-- ---- what they say of a call of collection n

abbrev start_of : ℕ → Words → Start
start_of n t = record { root = at t (root_word n); reached = length (reached_all t) }

-- none of the tests before 21 holds
pub record Before21 (n : ℕ) (t list : Words) (out : ℕ) (m : Start) : Type 0 where
  pub settles : settled t ≡ true
  pub collection : no_collection n t ≡ false
  pub inside : all_inside (length t) (decode list) ≡ true
  pub long : out ≡ length t
  pub root : m.root ≡ at t (root_word n)
  pub reached : m.reached ≡ length (reached_all t)

pub passed-tests : {n : ℕ} {t list : Words} {out : ℕ} {r : Result Start Refusal} {m : Start} → r ≡ tested n t list out → r ≡ Ok m
    → Before21 n t list out m
unfolding tested
passed-tests {n = n} {t = t} {list = list} {out = out} q e =
    let u = done-ok (first_number (first_tests (no_collection n t) t list out)) (start_of n t) (sym q ∙ e) in
    let h = (none-holds (first_tests (no_collection n t) t list out) (
      (λ e. omega arith),
      ((λ e. omega arith), ((λ e. omega arith), ((λ e. omega arith), ((λ e. omega arith), ((λ e. omega arith), tt))))),
    )).0 u.0 in
    record {
      settles = (not-false-iff _).0 h.1.1.1.0;
      collection = h.1.0;
      inside = (whole-inside t list ((not-false-iff _).0 h.0)).0 (eqb-true _ _ ((not-false-iff _).0 h.1.1.1.1.0));
      long = eqb-true _ _ ((not-false-iff _).0 h.1.1.1.1.1.0);
      root = ap (λ (x : Start). x.root) (sym u.1);
      reached = ap (λ (x : Start). x.reached) (sym u.1);
    }

-- the collection's tree is sound, by the root that is handed on
pub start-sound : {n : ℕ} {t list : Words} {out : ℕ} {m : Start} → Before21 n t list out m → sound_view (view_from t m.root) ≡ true
start-sound {n = n} {t = t} {m = m} b = root-sound n t m.root b.root (settled-sound t b.settles) b.collection

module _ (x : Call) (n : ℕ) (t list out : Words) (same : seventeen_in x t ≡ no_collection n t) where
  abbrev Answers : Verdict → Words → Type 0
  Answers r u = (r ≡ judge x t list (length out)) × (u ≡ judge_out x t list out)

  refused : (m : ℕ) → judge_number x t list (length out) ≡ m → m ≢ 0 → Answers (refused_with m) out
  unfolding judge judge_out
  refused zero e z = absurd (z refl)
  refused (suc m) e z = (rw e, rw e)

  pub refused-before :
      {r : Refusal} → tested n t list (length out) ≡ Err r → (Err r ≡ judge x t list (length out)) × (out ≡ judge_out x t list out)
  unfolding tested judge_number
  refused-before {r} e = (sym u.1 ∙ both.0, both.1)
    where
      k : ℕ
      k = first_number (first_tests (no_collection n t) t list (length out))

      u : (k ≢ 0) × ◌≡◌ {A = Verdict} (refused_with k) (Err r)
      u = done-err k (start_of n t) e

      both : Answers (refused_with k) out
      both = refused k (rw same
          (first-shared (first_tests (no_collection n t) t list (length out)) (test (not (eqb (refusal x 2560 0 t) 0)) 21 ∷ []) u.0)) u.0

  module _ (m : Start) (b : Before21 n t list (length out) m) where
    pub refused-change : refusal x 2560 0 t ≢ 0 → (refused_with 21 ≡ judge x t list (length out)) × (out ≡ judge_out x t list out)
    unfolding judge_number
    refused-change z =
        let s = settled-sound t b.settles in
        let w = eq-eqb _ 0 ((whole-inside t list (sound-head t s)).1 b.inside) in
        refused 21 (rw (sound-head t s, same ∙ b.collection, s, b.settles, w, eq-eqb _ _ b.long, ne_eqb _ 0 z)) (λ y. omega (arith, y))

    pub judged-change : refusal x 2560 0 t ≡ 0 → (c : Change) → wanted c t ≡ change x (maps_of t) → (r : Verdict) → r
        ≡ judged_from (maps_of t) (wanted c t) (decode list) 0 none t
        → (u : Words) → u ≡ carry (take (count_of r (length list / 2)) (decode list)) t → (r ≡ judge x t list (length out))
        × (u ≡ judge_out x t list out)
    unfolding judged
    judged-change a c e r p u q =
        let j : Judgeable x t list (length out) =
        record { collection = same ∙ b.collection; settles = b.settles; inside = b.inside; long = b.long; accepted = a } in
        let d : r ≡ judged x t (decode list) = rw e at p in
        (d ∙ sym (judge-judged x t list (length out) j), (rw d at q) ∙ sym (judge-out x t list out j))
