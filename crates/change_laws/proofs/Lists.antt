-- Lists of node numbers that one does not stand in; the laws of list_laws on where one stands.
use Rattle.std.proofs.Common.{ℕ, ◌≢◌, List}
use Rattle.list_laws.proofs.Tools.{Each}
pub use Rattle.list_laws.proofs.Tools.{at-or-off}
pub use Rattle.list_laws.proofs.Members.{mem-here, elem-cons, flat-each}
pub use Rattle.list_laws.proofs.Distinct.{distinct-middle, OneOf, flat-one, distinct-part}

-- x does not stand in l
abbrev pub Off : ℕ → List ℕ → Type 0
Off x l = Each (λ (n : ℕ). n ≢ x) l
