-- Laws of the crate's definitions, each file named for its subject.
pub mod Fetched
pub mod DigitRun
pub mod Signs
pub mod Widths
pub mod Wrong
