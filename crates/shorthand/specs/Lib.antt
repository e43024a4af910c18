-- What the crate's promises cite, in reading order: a Format and its text, what an edition allows, and the answer; last, what only its private functions promise.
pub mod Layout
pub mod Spell
pub mod Edition
pub mod Lawful
pub mod Order
pub mod Stand
pub mod Parse
pub mod Facts
pub mod OneFacts
pub mod Mending
pub mod Places
