-- What the crate's promises cite: the index of a tape's blocks, and what is found through one.
pub mod Index
pub mod Finding
