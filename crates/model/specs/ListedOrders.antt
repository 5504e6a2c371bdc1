-- An order of a list as the code has it, and the order of document 01 that it stands for.
use Rattle.model.specs.declared.ListedOrder.{ListedOrder}
use Rattle.model.specs.declared.ListedOrder.TheVariants.{Store, Flush, Barrier}
use Rattle.model.specs.Orders.{Order, put, store, flush, barrier}

abbrev pub meant : ListedOrder → Order
meant (Store word value) = store (put word value)
meant (Flush line) = flush line
meant Barrier = barrier
