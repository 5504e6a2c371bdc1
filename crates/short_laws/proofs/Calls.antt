-- The two calls, number to script and script to number, on a length and four numbers: each the other's inverse, and refused exactly where
-- the
-- request says.
use Rattle.std.proofs.Common.{◌≡◌, ℕ, zero, suc, ◌-◌, ◌<◌, ◌≤◌, Bool, true, false, cond, ltb, leb, ◌↔◌, [], ◌∷◌, ◌++◌, length, take, drop}
use Rattle.std.proofs.Common.{replicate, sym, refl, ap, ◌∙◌, arith, length-drop, take-append-drop, length-take-le, take_at, drop_at}
use Rattle.std.proofs.Common.{ltb-false, le-ltb, lt-ltb, le-leb}
use mathlib.Core.Bool.{false≢true}
use Rattle.std.specs.Prelude.{Ok}
use Rattle.model.specs.Results.{Outcome, refused_with}
use Rattle.model.specs.Table.{Words, all_zero}
use Rattle.model.specs.SoundTest.{all}
use Rattle.list_laws.proofs.Tools.{and-iff, eqb-iff, leb-iff, refuted}
use Rattle.model.specs.Scripts.{Script, is_script, SCRIPTS, rank, script_of, script_words, script_answer, script_out, actions_in}
use Rattle.model.specs.Scripts.{form_script, script_number}
use Rattle.short_laws.proofs.Rank.{script-is, script-rank, rank-script, rank-bound}

-- ---- a script's five words, and back

zeros : (n : ℕ) → all_zero (replicate n 0) ≡ true
unfolding all_zero
zeros zero = refl
zeros (suc n) = zeros n

zeros-only : (ws : Words) → all_zero ws ≡ true → ws ≡ replicate (length ws) 0
unfolding all_zero
zeros-only [] e = refl
zeros-only (w ∷ ws) e = let p = simp (and-iff, eqb-iff) at e in cc (p.0, zeros-only ws p.1)

-- the actions within the words of a script are the script
pub words-actions : (s : Script) → actions_in (script_words s) ≡ s
unfolding script_words
words-actions s = take_at s (replicate (4 - length s) 0) (length s) refl

-- the words of a script have the form of one
pub words-form : (s : Script) → is_script s ≡ true → form_script (script_words s) ≡ true
unfolding form_script is_script script_words
words-form s e =
    let p = simp and-iff at e in
    simp (and-iff, take_at s (replicate (4 - length s) 0) (length s) refl, drop_at s (replicate (4 - length s) 0) (length s) refl)
    (p.0, (p.1, zeros (4 - length s)))

-- five words that pass the test are a script's
form-parts : (n : ℕ) (ws : Words) → length ws ≡ 4 → n ≤ 4 → all (λ (a : ℕ). leb a 5) (take n ws) ≡ true → all_zero (drop n ws) ≡ true
    → (is_script (take n ws) ≡ true) × (script_words (take n ws) ≡ n ∷ ws)
unfolding is_script script_words
form-parts n ws l h a z =
    let k : length (take n ws) ≡ n = length-take-le n ws (omega arith) in
    let d : length (drop n ws) ≡ 4 - n = simp (length-drop, l) in (
      rw (k, le-leb n 4 h) a,
      rw k (ap (λ (q : Words). n ∷ (take n ws ++ q)) (rw (← d) (sym (zeros-only (drop n ws) z)))
          ∙ ap (λ (q : Words). n ∷ q) (take-append-drop n ws)),
    )

pub form-words : (ws : Words) → length ws ≡ 5 → form_script ws ≡ true → (is_script (actions_in ws) ≡ true)
    × (script_words (actions_in ws) ≡ ws)
unfolding form_script
form-words [] l e = absurd (omega arith)
form-words (n ∷ ws) l e = let p = simp (and-iff, leb-iff) at e in form-parts n ws (omega arith) p.0 p.1.0 p.1.1

-- ---- the calls

-- the script of a number has this number
pub script-call : (n : ℕ) (lent : Words) → n < SCRIPTS → script_number (script_out n lent) ≡ Ok n
unfolding script_out script_number
script-call n lent h =
    rw (lt-ltb n SCRIPTS h, words-form (script_of n) (script-is n), words-actions (script_of n), script-rank n h)

-- and the number of a script gives it back
pub number-call : (ws lent : Words) (n : ℕ) → length ws ≡ 5 → script_number ws ≡ Ok n → (script_answer n ≡ Ok tt) × (script_out n lent ≡ ws)
unfolding script_answer script_out script_number
number-call ws lent n l e = go (form_script ws) refl e
  where
    go : (b : Bool) → form_script ws ≡ b → cond b (Ok (rank (actions_in ws))) (refused_with 23) ≡ Ok n → (script_answer n ≡ Ok tt)
        × (script_out n lent ≡ ws)
    go true f q =
        let p = form-words ws l f in
        let m : rank (actions_in ws) ≡ n = cc in
        let h : n < SCRIPTS = omega (arith, rank-bound (actions_in ws) p.0) in
        (rw (lt-ltb n SCRIPTS h), rw (lt-ltb n SCRIPTS h, ← m, rank-script (actions_in ws) p.0) p.1)
    go false f q = let z : ◌≡◌ {A = ℕ} 0 1 = cc in absurd (omega arith)

-- 22, number above 1,554
pub twenty-two : (n : ℕ) → (script_answer n ≡ refused_with 22) ↔ (1554 < n)
unfolding script_answer
twenty-two n = (go (ltb n SCRIPTS) refl, above)
  where
    answer : Bool → Outcome
    answer b = cond b (Ok tt) (refused_with 22)

    above : 1554 < n → answer (ltb n SCRIPTS) ≡ refused_with 22
    above h = rw (le-ltb n SCRIPTS h)

    go : (b : Bool) → ltb n SCRIPTS ≡ b → answer b ≡ refused_with 22 → 1554 < n
    go true f q = let z : ◌≡◌ {A = ℕ} 0 1 = cc in absurd (omega arith)
    go false f q = omega (arith, ltb-false n SCRIPTS f)

-- 23, actions that form no such script
pub twenty-three : (ws : Words) → length ws ≡ 5
    → (script_number ws ≡ refused_with 23) ↔ ((s : Script) → is_script s ≡ true → script_words s ≡ ws → ⊥)
unfolding script_number
twenty-three ws l = (
  λ e s c q. go (form_script ws) refl e s c q,
  λ f. rw (refuted (form_script ws) (λ h. let p = form-words ws l h in f (actions_in ws) p.0 p.1)),
)
  where
    go : (b : Bool) → form_script ws ≡ b → cond b (Ok (rank (actions_in ws))) (refused_with 23) ≡ refused_with 23
        → (s : Script) → is_script s ≡ true → script_words s ≡ ws → ⊥
    go true f q s c r = let z : ◌≡◌ {A = ℕ} 0 1 = cc in omega arith
    go false f q s c r = false≢true (sym f ∙ ap form_script (sym r) ∙ words-form s c)
