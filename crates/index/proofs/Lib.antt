-- Laws of the crate's definitions, each file named for its subject.

-- for the functions: an index filled, an entry tested, a number looked for
pub mod Indexing
pub mod Filling
pub mod OwnPart
pub mod EntryTests
pub mod FirstNumber
-- what is found through an index is what the plain walk finds
pub mod Slices
pub mod WalkedEntries
pub mod Marks
pub mod WalkedNumbers
pub mod Lookups
