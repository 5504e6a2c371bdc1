-- What a change that is handed over does.
pub mod Changes
