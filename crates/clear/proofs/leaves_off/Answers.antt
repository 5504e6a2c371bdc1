-- `clear::leaves_off` meets its contract.
use Rattle.std.proofs.Common.{ℕ, rules, tests, ap, ◌∙◌}
use Rattle.std.proofs.lemmas.Iterator.Consumers.{YieldsList-from_first}
use Rattle.std.proofs.lemmas.Iterator.Search.{all_from_yields_List}
use Rattle.model.specs.Table.{root}
use Rattle.model.specs.Slots.{view_from, view}
use Rattle.model.specs.Reached.{flat, kept}
use Rattle.model.specs.SoundTest.{all}
use Rattle.walk_laws.proofs.AnyRoot.{any-along}
use Rattle.leaves.specs.Siblings.{siblings_left}
use Rattle.leaves.proofs.FoundLaws.{whole-is}
use Rattle.clear.specs.New.{off_pair}
use Rattle.clear.proofs.Looking.{leaves-all}
use Rattle.clear.proofs.leaves_off.Goals as goal

pub returns : goal.returns
returns c = let a = c.args in let t = a.table.now in let cs = a.cells.now in let v = view_from t a.root in
    all_from_yields_List (λ (n : ℕ). all (off_pair cs) (kept (view t) n)) c.all.new.self _ c.all.result c.all.ensures.ran
    (YieldsList-from_first (λ (x : ℕ). x) siblings_left _ c.new.ensures) (λ x b q k. search (rules, tests))
    ∙ leaves-all cs t a.root _
    ∙ ap (λ ns. all (off_pair cs) (flat (kept v) ns))
    (any-along t (root t) a.root c.word_at.result c.first_leaf-first.result ∙ whole-is v _ _ c.first_leaf-first.ensures c.word_at.ensures)
