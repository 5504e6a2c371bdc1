-- Of a list of tests: a number comes exactly if its test holds and no earlier one does.
use Rattle.std.proofs.Common.{◌≡◌, ℕ, Bool, true, false, cond, ◌≢◌, ◌↔◌, List, [], ◌∷◌, ◌++◌, map, sym, refl}
use Rattle.model.specs.SoundTest.{elem}
use Rattle.model.specs.Refusals.{Test, test, first_number}
use Rattle.list_laws.proofs.Members.{elem-cons}
pub use Rattle.step_laws.proofs.Accepted.{Passed}

-- n is neither 0 nor a number of these tests
abbrev pub Other : ℕ → List Test → Type 0
Other n cs = elem n (0 ∷ map (λ (c : Test). c.number) cs) ≡ false

other-cons : (n : ℕ) (c : Test) (cs : List Test) → Other n (c ∷ cs) → (c.number ≢ n) × Other n cs
other-cons n c cs o =
    let u = (elem-cons n 0 (c.number ∷ map (λ (c : Test). c.number) cs)).0 o in
    let w = (elem-cons n c.number (map (λ (c : Test). c.number) cs)).0 u.1 in
    (λ e. w.0 (sym e), (elem-cons n 0 (map (λ (c : Test). c.number) cs)).1 (u.0, w.1))

-- n, if it is not 0 and no number of these tests, is not the number that they give
pub not-first : (n : ℕ) (cs : List Test) → Other n cs → first_number cs ≢ n
not-first n [] o e = ((elem-cons n 0 []).0 o).0 (sym e)
not-first n (c ∷ cs) o e = let u = other-cons n c cs o in go c.holds e u.0 (not-first n cs u.1)
  where
    go : (b : Bool) → cond b c.number (first_number cs) ≡ n → c.number ≢ n → first_number cs ≢ n → ⊥
    go true q z ih = z q
    go false q z ih = ih q

-- tests of which only this one has number n give n exactly if it holds and none before it does
pub first-iff : (before : List Test) (b : Bool) (n : ℕ) (after : List Test) → Other n before → Other n after
    → (first_number (before ++ test b n ∷ after) ≡ n) ↔ (Passed before × (b ≡ true))
first-iff [] b n after o a = (λ e. (tt, go b e), λ u. rw u.1)
  where
    go : (b : Bool) → cond b n (first_number after) ≡ n → b ≡ true
    go true q = refl
    go false q = absurd (not-first n after a q)
first-iff (c ∷ before) b n after o a = let u =
    other-cons n c before o in go (first_number (before ++ test b n ∷ after)) u.0 (first-iff before b n after u.1 a)
  where
    held : (h : Bool) (rest : ℕ) → c.holds ≡ h → cond h c.number rest ≡ n → c.number ≢ n → (rest ≡ n → Passed before × (b ≡ true))
        → Passed (c ∷ before) × (b ≡ true)
    held true rest q e z f = absurd (z e)
    held false rest q e z f = let u = f e in ((q, u.0), u.1)

    go : (rest : ℕ) → c.number ≢ n → (rest ≡ n) ↔ (Passed before × (b ≡ true))
        → (cond c.holds c.number rest ≡ n) ↔ (Passed (c ∷ before) × (b ≡ true))
    go rest z ih = (λ e. held c.holds rest refl e z ih.0, λ u. rw u.0.0 (ih.1 (u.0.1, u.1)))
