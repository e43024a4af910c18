-- What holds of tapes that are glued and dressed.
pub mod Glue
pub mod Dress
pub mod Readers
