-- What the crate's promises cite: the record; the relation between a program and its rows; the answer, from parsers over the kept rows.
pub mod Record
pub mod Relation
pub mod Parse
pub mod Answers
pub mod Front
pub mod Survey
pub mod Remains
