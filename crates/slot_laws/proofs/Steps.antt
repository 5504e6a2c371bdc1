-- Steps done one after another: the laws of list_laws.
pub use Rattle.list_laws.proofs.Steps.{do_all, Until, Along, AtFirst, all-append, until-append, until-end, until-before, first-start}
pub use Rattle.list_laws.proofs.Steps.{first-between, first-end, until-map, first-map, until-both, first-both, along-each}
