-- What the crate's promises cite: digits and signs at the front of the kept rows, and the word that they make.
pub mod Figures
pub mod Data
pub mod Front
