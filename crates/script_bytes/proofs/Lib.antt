-- The laws of lines read byte by byte, and of the text that is printed.
pub mod Decimal
pub mod Puts
pub mod Reading
pub mod Input
