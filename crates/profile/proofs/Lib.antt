-- Laws of the crate: texts in form, agreement, profiles, and these with the detailed shorthand; then what its functions rest on.
pub mod Filling
pub mod Agreeing
pub mod Profiles
pub mod Settling
pub mod Cases
pub mod Walks
pub mod Queries
pub mod Reading
