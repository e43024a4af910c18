-- What the crate's promises cite: the pieces of a tape, and what is saved of them.
pub mod Pieces
pub mod Saving
pub mod Answers
pub mod Turns
pub mod Clear
