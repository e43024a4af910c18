-- Laws of the crate's definitions, each file named for its subject.

-- for the functions: what is seen of a tape, where rows go, what is planned, what is written
pub mod BlankRows
pub mod TapesSeen
pub mod Planning
pub mod Growing
pub mod Shrinking
-- the image and its index after
pub mod Pasting
pub mod Grown
pub mod Shrunk
pub mod PunchedAgain
pub mod KeptRight
pub mod MadeIndexes
