-- Laws of wear figures.
pub mod Stored
pub mod Lines
pub mod Extents
pub mod Figures
