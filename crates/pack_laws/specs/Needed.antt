-- The number of nodes that packed pairs need, by the number of pairs alone.
use Rattle.std.specs.Prelude.{ℕ, zero, suc, ◌+◌, ◌-◌, ◌/◌}

-- over a row of c nodes
unfoldable pub nodes_above : (fuel c : ℕ) → ℕ
nodes_above zero c = 0
nodes_above (suc f) zero = 0
nodes_above (suc f) (suc zero) = 0
nodes_above (suc f) (suc (suc c)) = let u = (suc (suc c) + 11) / 12 in u + nodes_above f u

unfoldable pub nodes_needed : ℕ → ℕ
nodes_needed m = let c = suc ((m - 1) / 11) in c + nodes_above 15 c
