-- What the door takes for a speed, and what it hands back for an answer.
pub mod Crossing
pub mod Replies
