-- The room of the indexes.
pub mod Rooms
