-- Demand 3, histories that may happen, and drawings that do not hold.
pub mod Demand3
pub mod Starts
pub mod Batches
pub mod QuickHistories
pub mod QuickSingles
pub mod Images
pub mod Happens
pub mod HappensTwo
pub mod HappensDocks
pub mod HappensSentinels
pub mod Drawings
pub mod HappensSplit
pub mod HappensQuick
