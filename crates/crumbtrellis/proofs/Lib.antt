-- The laws of the door, which its four functions cite.
pub mod Handed
