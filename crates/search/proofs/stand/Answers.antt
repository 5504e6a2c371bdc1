-- `search::stand` meets its contract, by the tests that led to each return: x is node n, y its sibling.
use mathlib.Core.Path.{◌∙◌}
use Rattle.search.proofs.Standing.{seen-lost, seen-read, stands-last, stands-off, sibling-is, stands-here, stands-right}
use Rattle.search.proofs.stand.Goals as goal

pub returns-then-sibling-eq0 : goal.returns-then-sibling-eq0
returns-then-sibling-eq0 c = let p = c.requires in
    seen-read _ _ _ _ _ _ _ (stands-last _ _ _ _ _ p.read_value p.n_value c.if-sibling-eq0.true) p.read_value c.look-here.ensures

pub returns-in_err-y : goal.returns-in_err-y
returns-in_err-y c = let p = c.requires in
    c.from_residual.ensures
    ∙ seen-lost _ _ _ _ (stands-off _ _ _ c.args.key _ p.read_value p.n_value c.if-sibling-eq0.false _ c.read_on.ensures c.in_err-y.was)

pub returns-then-key-y : goal.returns-then-key-y
returns-then-key-y c = let p = c.requires in
    seen-read _ _ _ _ _ _ _
    (stands-here _ _ _ _ _ p.read_value p.n_value c.if-sibling-eq0.false _ c.read_on.ensures _ c.in_ok-y.was c.if-key-y.true)
    p.read_value c.look-here.ensures

pub returns : goal.returns
returns c = let p = c.requires in
    seen-read _ _ _ _ _ _ _
    (stands-right _ _ _ _ _ p.read_value p.n_value c.if-sibling-eq0.false _ c.read_on.ensures _ c.in_ok-y.was c.if-key-y.false)
    (sibling-is _ _ _ c.args.key _ p.read_value p.n_value c.if-sibling-eq0.false _ c.read_on.ensures _ c.in_ok-y.was) c.look.ensures
