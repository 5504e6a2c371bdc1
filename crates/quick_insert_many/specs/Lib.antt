-- A batch with a summary under way.
pub mod Going
