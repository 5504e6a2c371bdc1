-- `node::root` meets its contract.
use Rattle.std.proofs.Common.{◌≡◌, ℕ, ◌≤◌, Bool, true, false, ◌&&◌, ◌||◌, eqb, leb, ◌≢◌, length, take, drop, sym, ◌∙◌, arith, rules}
use Rattle.model.specs.Table.{Words, at, all_zero}
use Rattle.table_laws.proofs.Header.{LengthFacts, HeaderFacts}
use Rattle.node.proofs.Answers.{header-nodes, nodes-in-found}
use Rattle.table_laws.proofs.Words.{part-zero-iff}
use Rattle.node.proofs.Roots.{zeros-yes, zeros-not, fits-two, fits-not, range-yes, range-not, root-refused, root-first, root-second}
use Rattle.node.proofs.Roots.{root-other}
use Rattle.node.proofs.root.Goals as goal

-- what the tests of all words of the header found
facts : (t : Words) (n : ℕ) (r : Bool) → LengthFacts (length t) n → at t 0 ≡ 1 → at t 2 ≡ n → all_zero (take 4 (drop 4 t)) ≡ true
    → at t 1 ≢ 0 → at t 1 ≤ n
    → r ≡ (eqb (at t 3) 0 || (leb (at t 3) n && leb 2 n)) → r ≡ true → HeaderFacts t
facts t n r s a b z d u e f = record {
  size = omega arith;
  first = a;
  zeros = (part-zero-iff t 4 4).0 z;
  root-some = omega arith;
  root-in = omega arith;
  two = λ q. let v = fits-two n (at t 3) (sym f ∙ e) q in (omega (arith, v.0), omega (arith, v.1));
}

pub returns-then-n-eq0 : goal.returns-then-n-eq0
returns-then-n-eq0 c = sym (root-refused _ c.args.table.now (λ f. omega (arith, header-nodes c.args.table.now _ c.nodes_in-n.ensures f)))

pub bounds-table-0 : goal.bounds-table-0
bounds-table-0 c = omega (arith, nodes-in-found _ _ c.nodes_in-n.ensures c.if-n-eq0.false)

pub returns-then-table-ne1 : goal.returns-then-table-ne1
returns-then-table-ne1 c = sym (root-refused _ _ (λ f. omega arith))

pub bounds-table-2 : goal.bounds-table-2
bounds-table-2 c = omega (arith, nodes-in-found _ _ c.nodes_in-n.ensures c.if-n-eq0.false)

pub returns-then-table-n : goal.returns-then-table-n
returns-then-table-n c = sym (root-refused _ c.args.table.now (λ f. omega (arith, header-nodes c.args.table.now _ c.nodes_in-n.ensures f)))

pub slice_bounds-ne-end : goal.slice_bounds-ne-end
slice_bounds-ne-end c = omega (arith, nodes-in-found _ _ c.nodes_in-n.ensures c.if-n-eq0.false)

pub returns-then-ne : goal.returns-then-ne
returns-then-ne c = sym
    (root-refused _ c.args.table.now
    (λ f. zeros-not _ (omega (arith, nodes-in-found _ _ c.nodes_in-n.ensures c.if-n-eq0.false)) (sym c.ne.ensures ∙ c.if-ne.true) f))

pub returns-then-not-in_range : goal.returns-then-not-in_range
returns-then-not-in_range c =
    let r : c.in_range.result ≡ false = search rules in
    sym (root-refused _ c.args.table.now
    (λ f. range-not _ _ (sym c.in_range.ensures ∙ r) f.root-some
    (omega (arith, f.root-in, header-nodes c.args.table.now _ c.nodes_in-n.ensures f))))

pub returns-then-not-second_fits : goal.returns-then-not-second_fits
returns-then-not-second_fits c =
    let r : c.second_fits.result ≡ false = search rules in
    sym (root-refused _ _
    (λ f. fits-not _ _ (sym r ∙ c.second_fits.ensures) (λ z. let u = f.two z in (omega (arith, u.0), omega (arith, u.1)))))

pub returns-in-1 : goal.returns-in-1
returns-in-1 c =
    let r : c.in_range.result ≡ true = search rules in
    let u = range-yes _ _ (sym c.in_range.ensures ∙ r) in
    let size = nodes-in-found _ _ c.nodes_in-n.ensures c.if-n-eq0.false in
    rw c.in-1.is (sym (root-first _
    (facts _ _ _ size (omega arith) (omega arith) (zeros-yes c.args.table.now (omega (arith, size)) (sym c.ne.ensures ∙ c.if-ne.false))
    (omega arith) (omega arith) c.second_fits.ensures (search rules))))

pub returns-in-2 : goal.returns-in-2
returns-in-2 c =
    let r : c.in_range.result ≡ true = search rules in
    let u = range-yes _ _ (sym c.in_range.ensures ∙ r) in
    let size = nodes-in-found _ _ c.nodes_in-n.ensures c.if-n-eq0.false in
    rw c.in-2.is (sym (root-second _
    (facts _ _ _ size (omega arith) (omega arith) (zeros-yes c.args.table.now (omega (arith, size)) (sym c.ne.ensures ∙ c.if-ne.false))
    (omega arith) (omega arith) c.second_fits.ensures (search rules))))

pub returns-in_default : goal.returns-in_default
returns-in_default c = sym (root-other _ _ (search rules) (search rules))
