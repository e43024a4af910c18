-- What the crate's promises cite: rounding, the preferred numbers, the meaning of a code, a speed's code.
pub mod Rounding
pub mod Preferred
pub mod Meaning
pub mod Coding
