-- `script::act` meets its contract.
use Rattle.script.proofs.Spoken.{acted-insertion, acted-deletion}
use Rattle.script.proofs.act.Goals as goal

pub returns-in-Insertion : goal.returns-in-Insertion
returns-in-Insertion c = let both =
    acted-insertion _ _ _ _ _ c.in-Insertion.is _ _ _
    (c.insert.ensures.value, (c.insert.ensures.table_after, c.insert.ensures.list_after)) in
    record { value = both.0; table_after = both.1.0; list_after = both.1.1 }

pub returns-in-Deletion : goal.returns-in-Deletion
returns-in-Deletion c = let both =
    acted-deletion _ _ _ _ c.in-Deletion.is _ _ _ (c.delete.ensures.value, (c.delete.ensures.table_after, c.delete.ensures.list_after)) in
    record { value = both.0; table_after = both.1.0; list_after = both.1.1 }
