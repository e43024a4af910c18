-- What the crate's promises cite: the page of a listing.
pub mod Pages
pub mod Adding
