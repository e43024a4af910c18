-- What the crate's promises cite, in reading order: the form of a general shorthand, and what it says of the detailed one.
pub mod Form
pub mod Agreement
pub mod Relation
pub mod Answers
pub mod Front
