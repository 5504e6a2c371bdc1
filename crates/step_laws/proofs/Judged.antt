-- The run of full nodes of the table as repair would leave it, judged by the table itself.
use Rattle.std.proofs.Common.{◌≡◌, ℕ, ◌+◌, Bool, true, false, eqb, List, [], ◌∷◌, length, refl, ap, ◌∙◌}
use Rattle.model.specs.Slots.{View, full}
use Rattle.model.specs.Search.{path}
use Rattle.model.specs.Reached.{kept}
use Rattle.model.specs.SoundTest.{all, leftover}
use Rattle.model.specs.Writes.{run_in}
use Rattle.list_laws.proofs.Tools.{Each, all-same}
use Rattle.step_laws.proofs.RepairedView.{lacking_in}

-- the longest end of a path all of whose nodes pass the test
unfoldable pub run_by : (ℕ → Bool) → List ℕ → ℕ
run_by q [] = 0
run_by q (n ∷ ns) = elim (all q (n ∷ ns)) [ true ↦ length (n ∷ ns) | false ↦ run_by q ns ]

-- node n is full when repair is done: with its kept slots, and the one that it lacks
abbrev pub full_later : View → ℕ → Bool
full_later v n = eqb (length (kept v n) + lacking_in (leftover v) n) 11

-- the run of full nodes for key k, judged before repair as it will be after it
abbrev pub run_later : View → (k : ℕ) → ℕ
run_later v k = run_by (full_later v) (path v k)

-- the run of full nodes is the run of the nodes that pass q, if q tests whether a node is full
pub run-same : (v : View) (q : ℕ → Bool) (ns : List ℕ) → Each (λ (n : ℕ). full (v.node n).shown ≡ q n) ns → run_in v ns ≡ run_by q ns
unfolding run_in run_by
run-same v q [] e = refl
run-same v q (n ∷ ns) e =
    ap (λ (b : Bool). elim b as (λ b. ℕ) [ true ↦ length (n ∷ ns) | false ↦ run_in v ns ])
    (all-same (λ (m : ℕ). full (v.node m).shown) q (n ∷ ns) e)
    ∙ ap (λ (r : ℕ). elim (all q (n ∷ ns)) as (λ b. ℕ) [ true ↦ length (n ∷ ns) | false ↦ r ]) (run-same v q ns e.1)
