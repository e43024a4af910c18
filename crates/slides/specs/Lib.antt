-- What the crate's promises cite: the axes and their travel, how a block moves them, and the places after block n.
pub mod Axes
pub mod Moves
pub mod History
pub mod Answers
pub mod Front
