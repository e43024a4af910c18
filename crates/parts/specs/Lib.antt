-- What the crate's promises cite: an end and the head, the start of a block, how an item stands.
pub mod Ends
pub mod Starts
pub mod Items
pub mod Front
