-- `isrc::print` meets its contract.
use Rattle.std.proofs.Common.{◌≡◌, ℕ, List, sym, ap, ◌∙◌, arith, rules}
use Rattle.std.specs.Prelude.{Ok, Err}
use Rattle.model.specs.declared.Refusal.{Refusal}
use Rattle.model.specs.declared.Refusal.TheVariants.{NoCode}
use Rattle.model.specs.Results.{Parsed, Printed}
use Rattle.model.specs.Codes.{parse, spelling, print}
use Rattle.model.proofs.Numbers.{refused-by}
use Rattle.isrc.proofs.Codes.{print-code, print-other}
use Rattle.isrc.proofs.Laws.{parse-spelling, prints-iff-read}
use Rattle.isrc.proofs.print.Goals as goal

-- what the key spells reads as the key, or not
same : (k j : ℕ) (text : List ℕ) (p : Parsed) → text ≡ spelling k → p ≡ parse text → p ≡ Ok j → j ≡ k
    → ◌≡◌ {A = Printed} (Ok text) (print k)
same k j text p e q r s = rw (print-code k ((prints-iff-read k).1 (text, cc)), e)

unless : (k : ℕ) (text : List ℕ) (p : Parsed) → text ≡ spelling k → p ≡ parse text → (p ≡ Ok k → ⊥)
    → ◌≡◌ {A = Printed} (Err NoCode) (print k)
unless k text p e q s = sym (print-other k (λ h. s (q ∙ ap parse e ∙ parse-spelling k h)) ∙ refused-by NoCode)

one_key : (p : Parsed) (j k : ℕ) → p ≡ Ok j → p ≡ Ok k → j ≡ k
one_key p j k e f = cc

no-key : (p : Parsed) (r : Refusal) (k : ℕ) → p ≡ Err r → p ≡ Ok k → ⊥
no-key p r k e f = let z : ◌≡◌ {A = ℕ} 0 1 = cc in omega arith

pub returns-in-Ok : goal.returns-in-Ok
returns-in-Ok c = same _ _ _ _ c.spelling_of-text.ensures c.parse.ensures c.in-Ok.is (search rules)

pub returns-in_default : goal.returns-in_default
returns-in_default c = unless _ _ _ c.spelling_of-text.ensures c.parse.ensures
    (λ h. let e = one_key _ _ _ c.in-Ok.is h in omega arith)

pub returns-in_default-2 : goal.returns-in_default-2
returns-in_default-2 c = unless _ _ _ c.spelling_of-text.ensures c.parse.ensures (λ h. no-key _ _ _ c.in_default.is h)
