-- `sentinels::leaf_at` meets its contract, by the tests that led to each return.
use mathlib.Core.Path.{refl, sym, ◌∙◌}
use Rattle.search.proofs.Standing.{stands-last, stands-off, stands-here, stands-right}
use Rattle.sentinels.proofs.Searching.{stood-on, stood-lost, no-fence, some-fence}
use Rattle.sentinels.proofs.leaf_at.Goals as goal

pub returns-then-sibling-eq0 : goal.returns-then-sibling-eq0
returns-then-sibling-eq0 c = let p = c.requires in stood-on _ _ _ _ _ (stands-last _ _ _ _ _ p.read_value p.n_value c.if-sibling-eq0.true)

pub returns-in_err-fence : goal.returns-in_err-fence
returns-in_err-fence c = let p = c.requires in
    c.from_residual.ensures
    ∙ stood-lost _ _ _ _
    (stands-off _ _ _ c.args.key _ p.read_value p.n_value c.if-sibling-eq0.false _ refl
    (no-fence _ _ (sym c.fence_on.ensures ∙ c.in_err-fence.was)))

pub returns-then-key-fence : goal.returns-then-key-fence
returns-then-key-fence c = let p = c.requires in
    let y = some-fence _ _ _ (sym c.fence_on.ensures ∙ c.in_ok-fence.was) in
    stood-on _ _ _ _ _ (stands-here _ _ _ _ _ p.read_value p.n_value c.if-sibling-eq0.false _ refl _ y.0 (rw y.1 at c.if-key-fence.true))

pub returns : goal.returns
returns c = let p = c.requires in
    let y = some-fence _ _ _ (sym c.fence_on.ensures ∙ c.in_ok-fence.was) in
    stood-on _ _ _ _ _ (stands-right _ _ _ _ _ p.read_value p.n_value c.if-sibling-eq0.false _ refl _ y.0 (rw y.1 at c.if-key-fence.false))
