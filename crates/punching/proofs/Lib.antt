-- Laws of the crate's definitions, each file named for its subject: those of the round trip, and then those that the functions cite.
pub mod Records
pub mod Refusals
pub mod PunchedRows
pub mod PunchedTapes
pub mod FitRecords
pub mod Measures
pub mod Lines
pub mod DigitTurns
pub mod DataSteps
pub mod WordSteps
pub mod WholeRecords
