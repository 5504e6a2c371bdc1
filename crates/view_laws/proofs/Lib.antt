-- Laws on what is read of the nodes of a table.
pub mod NodeViews
pub mod AnyRoot
