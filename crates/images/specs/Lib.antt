-- What the crate's promises cite: where a block's rows go, and what an image and its index hold after.
pub mod Images
pub mod Made
