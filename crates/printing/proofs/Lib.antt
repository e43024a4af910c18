-- The law of the programs' argument, and the line of a block.
pub mod Argument
pub mod BlockLine
