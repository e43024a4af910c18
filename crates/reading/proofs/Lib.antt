-- Laws of the crate's definitions, each file named for its subject.

-- the definitions on cases, and what every refusal is
pub mod Cases
pub mod Outcomes
pub mod Places
pub mod Refusals
-- complete: the rows of a program are taken as it
pub mod RowsAhead
pub mod DigitRows
pub mod WordTakes
pub mod WordsTake
pub mod BareStarts
pub mod BlockTakes
pub mod Complete
-- sound: what is taken stands as its rows
pub mod Runs
pub mod ReadData
pub mod ReadWords
pub mod ReadBlocks
pub mod Sound
-- a program's rows joined, and its characters
pub mod BlocksJoined
pub mod BlockParts
pub mod EntryRows
pub mod Ranges
pub mod BareRows
-- rows behind others
pub mod MovedRows
pub mod MovedParsers
pub mod MovedBlocks
pub mod BehindHead
-- the bridge
pub mod Programs
pub mod Accepted
pub mod Exchanged
pub mod Surveys
-- for the functions: items, steps, the whole walk
pub mod ItemSteps
pub mod DueItems
pub mod BlockWalk
pub mod StepLaws
pub mod Counting
pub mod Gathering
pub mod OwnRows
pub mod Remaining
pub mod Numbered
