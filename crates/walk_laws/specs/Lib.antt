-- The check that visits the nodes of a table from the root down, and the leaves along their siblings.
pub mod Walk
pub mod Chain
