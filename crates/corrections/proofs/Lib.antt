-- Laws of the crate's definitions, each file named for its subject.

-- for the functions: an entry by its place, the new ones, a number sought on a tape that was judged, and where it stands
pub mod NthEntry
pub mod Listings
pub mod NewEntries
pub mod Seeking
pub mod TwoTapes
-- what the corrected listing holds, and that asking for a number agrees with it
pub mod FoundNumbers
pub mod CorrectedEntries
pub mod Agreement
pub mod ThroughIndexes
