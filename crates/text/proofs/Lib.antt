-- Laws of what puts leave in a line, and of the digits of a number.
pub mod Puts
pub mod Decimals
pub mod Searches
