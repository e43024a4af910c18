-- Laws of the crate's definitions, each file named for its subject.

-- the pieces of a tape, and what is answered of one behind the head
pub mod Dividing
pub mod HeadAlone
pub mod FirstLF
pub mod PieceCounts
pub mod PieceWalk
pub mod SavedAnswers
-- what is saved is accepted, and what it says
pub mod PieceBlocks
pub mod SavedBlocks
-- what is accepted and holds no LF in a control-out stays
pub mod OneLF
pub mod Feeds
pub mod Unaltered
-- what stays as it was, and parity
pub mod Untouched
pub mod OddRows
