-- What the demands cite: the table of refusals as relations, and the parts of a tape.
pub mod Tables
pub mod Parts
