-- What the functions answer, as words of the report.
pub mod Parts
