-- What the crate's promises cite: the lines of a listing, and what stands on the listing's input.
pub mod Lines
pub mod Listing
pub mod Answers
