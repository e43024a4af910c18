-- What the crate's promises cite: one step of a walk.
pub mod Steps
pub mod Front
