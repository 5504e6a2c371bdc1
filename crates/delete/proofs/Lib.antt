-- The laws behind the deletion call.
pub mod Deleting
