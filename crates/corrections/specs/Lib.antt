-- What the crate's promises cite: the corrected listing, and what is found on two tapes.
pub mod Listing
pub mod Answers
pub mod Rolls
