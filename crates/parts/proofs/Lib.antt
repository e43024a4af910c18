-- Laws of the crate's definitions, each file named for its subject.
pub mod Entering
pub mod Leading
pub mod BareFronts
pub mod Marks
