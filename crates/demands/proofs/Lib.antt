-- The user's three demands, a file for each, in the order of his sentences.
pub mod Demand1
pub mod Indexes
pub mod Corrected
pub mod Salvaged
pub mod Followed
pub mod TapeParts
pub mod Demand2
pub mod Demand3
pub mod OneResult
pub mod NoProfile
pub mod Cases
