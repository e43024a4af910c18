-- Laws of the lines and of the listing's input.
pub mod Printing
pub mod Listed
pub mod Headers
pub mod Cases
