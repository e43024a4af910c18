-- What is glued, and what is put into a tape.
pub mod Gluing
pub mod Dressing
