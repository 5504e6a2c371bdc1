-- What histories come to.
pub mod QuickSingles
