-- Laws of the cells that the code looks through and writes.
pub mod Walking
