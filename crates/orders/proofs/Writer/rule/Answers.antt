-- `orders::Writer::rule` meets its contract.
use Rattle.std.proofs.Common.{rules}
use Rattle.orders.proofs.Turning.{stays, rule-none, rule-some}
use Rattle.orders.proofs.Writer.rule.Goals as goal

pub returns-then-eq : goal.returns-then-eq
returns-then-eq c = let p =
    c.put.ensures in record { is = rule-some _ (search rules) p.is; same_table = p.same_table; same_list = p.same_list }

pub returns-else-eq : goal.returns-else-eq
returns-else-eq c = stays (rule-none _ (search rules))
