-- A list of tests: none of them holds exactly if the number is 0.
use Rattle.std.proofs.Common.{◌≡◌, Bool, true, false, cond, ◌≢◌, ◌↔◌, List, [], ◌∷◌, refl}
use Rattle.model.specs.Refusals.{Test, first_number}
use Rattle.list_laws.proofs.Tools.{Each}

-- none of these tests holds
abbrev pub Passed : List Test → Type 0
Passed cs = Each (λ (c : Test). c.holds ≡ false) cs

-- tests with numbers other than 0 give 0 exactly if none of them holds
pub none-holds : (cs : List Test) → Each (λ (c : Test). c.number ≢ 0) cs → (first_number cs ≡ 0) ↔ Passed cs
none-holds [] z = (λ e. tt, λ u. refl)
none-holds (c ∷ cs) z = (λ e. go c.holds e refl (none-holds cs z.1).0, λ u. rw u.0 ((none-holds cs z.1).1 u.1))
  where
    go : (b : Bool) → cond b c.number (first_number cs) ≡ 0 → c.holds ≡ b → (first_number cs ≡ 0 → Passed cs) → Passed (c ∷ cs)
    go true e q ih = absurd (z.0 e)
    go false e q ih = (q, ih e)
