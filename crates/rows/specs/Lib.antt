-- What the crate's promises cite, in reading order: answers, one row, the three stages, the kept rows, control-outs as a relation, and the refusals 4 to 7 as one.
pub mod Refusals
pub mod Answer
pub mod Row
pub mod Stages
pub mod Walk
pub mod Kept
pub mod ControlOut
pub mod Passes
pub mod Faults
