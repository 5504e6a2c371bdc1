-- Over all scripts there were 17,730 tables: computed, with the scripts' first parts shared.
use mathlib.Core.Path.{◌≡◌, refl, ◌∙◌}
use Rattle.model.specs.Text.{ascii}
use Rattle.model.specs.Table.{empty}
use Rattle.model.specs.Printer.{decimal, decimal_from}
use Rattle.model.specs.Scripts.{table_count, tables_met, met_text}
use Rattle.model.proofs.Everything.{everything}
use Rattle.short_laws.proofs.Sums.{shared, over-shared}
use Rattle.short_laws.proofs.Runs.{bad-met}

met-shared : shared table_count 4 (empty 4) ≡ 17730
unfolding everything shared
met-shared = refl

pub tables-met : tables_met ≡ 17730
tables-met = over-shared table_count ∙ met-shared

-- what the program prints
pub met-printed : met_text ≡ ascii "17730\n0\n"
unfolding met_text decimal decimal_from
met-printed = rw (tables-met, bad-met)
