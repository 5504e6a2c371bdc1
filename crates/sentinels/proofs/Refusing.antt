-- The number of the first test that holds, by the tests in the order of the code.
use Rattle.std.proofs.Common.{◌≡◌, ℕ, zero, suc, ◌*◌, ◌≤◌, Bool, true, false, cond, not, eqb, ◌≢◌, [], ◌∷◌, length, sym, refl, ap, ◌∙◌}
use Rattle.std.proofs.Common.{arith, ne_eqb, eqb-true}
use Rattle.std.specs.Prelude.{Ok, Err}
use Rattle.model.specs.declared.Refusal.{Refusal}
use Rattle.model.specs.declared.Refusal.TheVariants.{OtherSentinels}
use Rattle.model.specs.Results.{Outcome, refused_with, passed}
use Rattle.model.specs.Refusals.{test, first_number}
use Rattle.model.proofs.Numbers.{fails}
use Rattle.model.specs.Table.{Words, nodes, header_ok, header_number, no_collection}
use Rattle.model.specs.SoundTest.{sound}
use Rattle.model.specs.Sentinels.{sentinels, slice_number, work_number, work_out, worked_out}
use Rattle.table_laws.proofs.Header.{header-iff, header-number-refused}
use Rattle.sentinel_laws.proofs.Slices.{slice-bad, slice-lacks, fits}
use Rattle.node.specs.Word.{number_in}

-- ---- a right header

pub few-nodes : (t : Words) → header_ok t ≡ true → (3 ≤ length t) × (nodes t ≤ 65535)
few-nodes t h = let f = (header-iff t).0 h in (omega (arith, f.size.long), f.size.few)

-- ---- the length: 19 if it is not 3 words a node

abbrev pub length_number : (m : ℕ) → Words → ℕ
length_number m t = cond (eqb m (3 * nodes t)) 0 19

pub length-wrong : (m : ℕ) (t : Words) → m ≢ 3 * nodes t → Err OtherSentinels ≡ passed (length_number m t)
length-wrong m t z = fails OtherSentinels (sym (rw (ne_eqb m (3 * nodes t) z)))

pub length-is : (m : ℕ) (t : Words) → length_number m t ≡ 0 → m ≡ 3 * nodes t
length-is m t e = go (eqb m (3 * nodes t)) refl e
  where
    go : (b : Bool) → eqb m (3 * nodes t) ≡ b → cond {A = ℕ} b 0 19 ≡ 0 → m ≡ 3 * nodes t
    go true f z = eqb-true m (3 * nodes t) f
    go false f z = absurd (omega (arith, z))

-- it is what is left to test
pub rest-number : (lacks : Bool) (m : ℕ) (t : Words) → header_ok t ≡ true → lacks ≡ false → slice_number lacks m t ≡ length_number m t
unfolding slice_number
rest-number lacks m t h c = rw (h, c) (go (eqb m (3 * nodes t)))
  where
    go : (b : Bool) → first_number (test false 2 ∷ test false 17 ∷ test (not b) 19 ∷ []) ≡ cond {A = ℕ} b 0 19
    go true = refl
    go false = refl

-- ---- the tests before it

pub collection-number : (n m : ℕ) (t : Words) → number_in n t ≢ 0 → slice_number (no_collection n t) m t ≡ number_in n t
unfolding number_in
collection-number n m t z = go (header_ok t) (no_collection n t) refl refl
  where
    go : (a b : Bool) → header_ok t ≡ a → no_collection n t ≡ b → slice_number (no_collection n t) m t
        ≡ cond (header_ok t) (cond (no_collection n t) 17 0) 2
    go true false h c = absurd (z (rw (h, c)))
    go true true h c = slice-lacks (no_collection n t) m t h c ∙ sym (rw (h, c))
    go false b h c = slice-bad (no_collection n t) m t h ∙ sym (rw h)

pub header-number : (m : ℕ) (t : Words) → header_number t ≢ 0 → slice_number false m t ≡ header_number t
unfolding header_number
header-number m t z = let h = header-number-refused t z in slice-bad false m t h ∙ sym (rw h)

-- a refusal of theirs is handed on
pub passed-on : (n : ℕ) {m : ℕ} {r : Refusal} → n ≢ 0 → ◌≡◌ {A = Outcome} (refused_with n) (Err r) → m ≡ n → Err r ≡ passed m
passed-on zero z e q = absurd (z refl)
passed-on (suc n) z e q = sym e ∙ sym (ap passed q)

-- ---- working them out: the answer, and the slice

module _ (ws t : Words) where
  pub work-refused : (x : ℕ) → x ≡ slice_number false (length ws) t → x ≢ 0 → (refused_with x ≡ work_out (length ws) t)
      × (ws ≡ worked_out ws t)
  unfolding work_out worked_out work_number
  work-refused zero e z = absurd (z refl)
  work-refused (suc x) e z = rw (← e) (refl, refl)

  module _ (e : 0 ≡ slice_number false (length ws) t) where
    pub work-unsound : sound t ≡ false → (refused_with 4 ≡ work_out (length ws) t) × (ws ≡ worked_out ws t)
    unfolding work_out worked_out work_number
    work-unsound s = rw (← e, s) (refl, refl)

    pub work-done : (us : Words) → sound t ≡ true → us ≡ sentinels t → (Ok tt ≡ work_out (length ws) t) × (us ≡ worked_out ws t)
    unfolding work_out worked_out work_number
    work-done us s q = rw (← e, s) (refl, q)

    pub work-long : length ws ≡ 3 * nodes t
    work-long = (fits false (length ws) t (sym e)).long
