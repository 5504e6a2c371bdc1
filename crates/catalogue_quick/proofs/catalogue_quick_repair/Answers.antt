-- `catalogue_quick::catalogue_quick_repair` meets its contract: it leaves table, list and summary.
use Rattle.catalogue_quick.proofs.Kept.{repair-summary, repair-table, repair-list}
use Rattle.catalogue_quick.proofs.catalogue_quick_repair.Goals as goal

pub returns : goal.returns
returns c =
    let a = c.args in
    record {
      answer-is = rw c.repair-answer.ensures at c.put_counts.ensures;
      table-is = repair-table _ a.dock a.summary.now a.table.now;
      list-is = repair-list a.orders.now a.dock a.summary.now a.table.now;
      summary-is = repair-summary _ a.dock a.summary.now a.table.now;
    }
