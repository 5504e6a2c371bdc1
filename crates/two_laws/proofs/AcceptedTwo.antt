-- What an accepted call of one or two collections says of its arguments and its table, and the other way round.
use Rattle.std.proofs.Common.{◌≡◌, ℕ, ◌≤◌, true, false, not, ltb, ◌≢◌, ◌⊎◌, ◌↔◌, List, ◌∷◌, refl, inl, inr, arith, ltb-false, le-ltb}
use Rattle.model.specs.Table.{Words, header_ok, root_word, no_collection}
use Rattle.model.specs.Slots.{class_ok}
use Rattle.model.specs.Refusals.{Test, test, has_key, seventeen_in, eleven_in, ten_in, own_map, map_tests, words_for, refusal}
use Rattle.model.specs.SoundTest.{sound}
use Rattle.model.specs.Reached.{map_of}
use Rattle.model.specs.Writes.{repaired, Call, insertion, deletion, class_change, repair}
use Rattle.list_laws.proofs.Tools.{Each, not-false-iff}
use Rattle.table_laws.proofs.Collections.{by-number}
use Rattle.step_laws.proofs.Accepted.{Passed, none-holds}
use Rattle.two_laws.specs.Parts.{Enters}
use Rattle.two_laws.proofs.CallsTwo.{Is}

-- a collection that passes 17 is 1 or 2, and exists
pub there : (n : ℕ) (t : Words) → no_collection n t ≡ false → ((n ≡ 1) ⊎ (n ≡ 2)) × Is (root_word n) t
there n t = by-number t (λ (m : ℕ). ((m ≡ 1) ⊎ (m ≡ 2)) × Is (root_word m) t) (inl refl, inl refl) (λ z. (inr refl, inr (refl, z))) n

-- ---- what each call asks of the table as repair would leave it

-- what the arguments and the map must be for the call to be accepted
abbrev pub Allows : Call → Words → Type 0
Allows (insertion n k r c) t = Enters n k r c t
Allows (deletion n k) t = has_key k (map_of n t) ≡ true
Allows (class_change n k c) t = (class_ok c ≡ true) × (has_key k (map_of n t) ≡ true)
Allows repair t = Unit {0}

pub record Accepted (x : Call) (words dock : ℕ) (t : Words) : Type 0 where
  pub header : header_ok t ≡ true
  pub collection : seventeen_in x t ≡ false
  pub sound : sound t ≡ true
  pub dock-ok : dock ≤ 1
  pub long : words_for dock ≤ words
  pub allows : Allows x (repaired t)

-- ---- from 6 on

abbrev later : Call → Words → List Test
later x t = map_tests x (eleven_in x t) (ten_in x t) (own_map x t)

later-numbers : (x : Call) (t : Words) → Each (λ (c : Test). c.number ≢ 0) (later x t)
later-numbers (insertion n k r c) t =
    ((λ e. omega arith), ((λ e. omega arith), ((λ e. omega arith), ((λ e. omega arith), ((λ e. omega arith), ((λ e. omega arith), tt))))))
later-numbers (deletion n k) t = ((λ e. omega arith), tt)
later-numbers (class_change n k c) t = ((λ e. omega arith), ((λ e. omega arith), tt))
later-numbers repair t = tt

allows-iff : (x : Call) (t : Words) → Passed (later x t) ↔ Allows x t
allows-iff (insertion n k r c) t = (
  λ h.
      record {
        recording-ok = (not-false-iff _).0 h.0;
        class-ok = (not-false-iff _).0 h.1.0;
        no-key = h.1.1.0;
        no-recording = h.1.1.1.0;
        not-high = h.1.1.1.1.0;
        enough = h.1.1.1.1.1.0;
      },
  λ a. ((not-false-iff _).1 a.recording-ok, ((not-false-iff _).1 a.class-ok, (a.no-key, (a.no-recording, (a.not-high, (a.enough, tt)))))),
)
allows-iff (deletion n k) t = (λ h. (not-false-iff _).0 h.0, λ a. ((not-false-iff _).1 a, tt))
allows-iff (class_change n k c) t =
    (λ h. ((not-false-iff _).0 h.0, (not-false-iff _).0 h.1.0), λ a. ((not-false-iff _).1 a.0, ((not-false-iff _).1 a.1, tt)))
allows-iff repair t = (λ h. tt, λ a. tt)

-- A call is accepted exactly if all of this holds.
pub accepted-iff : (x : Call) (words dock : ℕ) (t : Words) → (refusal x words dock t ≡ 0) ↔ Accepted x words dock t
unfolding refusal
accepted-iff x words dock t =
    let ts = test (not (header_ok t)) 2 ∷ test (seventeen_in x t) 17 ∷ test (not (sound t)) 4 ∷ test (ltb 1 dock) 18
    ∷ test (ltb words (words_for dock)) 5 ∷ later x (repaired t) in
    let i = none-holds ts (
      (λ e. omega arith),
      ((λ e. omega arith), ((λ e. omega arith), ((λ e. omega arith), ((λ e. omega arith), later-numbers x (repaired t))))),
    ) in (
      λ e. let h = i.0 e in
          record {
            header = (not-false-iff _).0 h.0;
            collection = h.1.0;
            sound = (not-false-iff _).0 h.1.1.0;
            dock-ok = ltb-false 1 dock h.1.1.1.0;
            long = ltb-false words (words_for dock) h.1.1.1.1.0;
            allows = (allows-iff x (repaired t)).0 h.1.1.1.1.1;
          },
      λ a. i.1 (
        (not-false-iff _).1 a.header,
        (
          a.collection,
          (
            (not-false-iff _).1 a.sound,
            (le-ltb 1 dock a.dock-ok, (le-ltb words (words_for dock) a.long, (allows-iff x (repaired t)).1 a.allows)),
          ),
        ),
      ),
    )
