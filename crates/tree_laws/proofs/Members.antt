-- Members of a list, filters and lists without repetition: the laws of list_laws.
pub use Rattle.list_laws.proofs.Members.{each-mem, mem-each, each-take, each-drop, each-index, each-both, each-iff, elem-iff, each-elem}
pub use Rattle.list_laws.proofs.Members.{elem-false, elem-append, mem-flat}
pub use Rattle.list_laws.proofs.Filters.{filter-yes, filter-no, mem-filter, filter-short, filter-all, filter-none, filter-whole}
pub use Rattle.list_laws.proofs.Distinct.{distinct-cons, Once, once, distinct-append, UpTo, pigeonhole}
