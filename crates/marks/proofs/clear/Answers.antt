-- `marks::clear` meets its contract.
use Rattle.std.proofs.Common.{◌≡◌, true, false, sym, ◌∙◌, rules}
use Rattle.marks.proofs.Words.{clear-none, clear-word}
use Rattle.marks.proofs.clear.Goals as goal

pub returns-then-not-has : goal.returns-then-not-has
returns-then-not-has c = let e : c.has.result ≡ false = search rules in clear-none _ _ (sym c.has.ensures ∙ e)

pub returns : goal.returns
returns c = let e : c.has.result ≡ true = search rules in clear-word _ _ (sym c.has.ensures ∙ e)
