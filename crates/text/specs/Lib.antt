-- What the crate's promises cite: the text of a listing's fields, and what putting bytes leaves in a line.
pub mod Text
pub mod Line
pub mod Finding
