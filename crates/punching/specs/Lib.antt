-- What the crate's promises cite: the rows of the head and of a block, which records are refused, and what the buffer holds after.
pub mod Rows
pub mod Fits
pub mod Answers
pub mod Line
