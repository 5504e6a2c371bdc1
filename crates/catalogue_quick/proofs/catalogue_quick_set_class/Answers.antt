-- `catalogue_quick::catalogue_quick_set_class` meets its contract: it leaves the summary.
use Rattle.catalogue_quick.proofs.Kept.{class-summary}
use Rattle.catalogue_quick.proofs.catalogue_quick_set_class.Goals as goal

pub returns : goal.returns
returns c =
    let a = c.args in
    record {
      answer-is = rw c.set_class-answer.ensures.value at c.put_counts.ensures;
      table-is = c.set_class-answer.ensures.table_after;
      list-is = c.set_class-answer.ensures.list_after;
      summary-is = class-summary _ a.dock a.summary.now _ a.collection a.key a.access;
    }
