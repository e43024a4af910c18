-- Where and why the fourth stage refuses, each file named for its subject.

-- a parser's answer over all rows that begin alike
pub mod Steady
-- digits: as numbers, and of a speed
pub mod DigitLists
pub mod SpeedDigits
-- an item that is due
pub mod Dues
-- where each parser stops, from the digits to the program
pub mod FigureStops
pub mod SignStops
pub mod WordStops
pub mod WordsStops
pub mod BlockStops
pub mod Unread
pub mod ProgramStops
-- what follows a character, and the rows with which an item is due, in a program's rows
pub mod Behind
pub mod Follows
-- the stops in the relation's words, and what could stand there
pub mod Ahead
pub mod Told
-- the theorems: of kept rows, of a tape's answer, of the tape itself
pub mod RefusedRows
pub mod RefusedTapes
pub mod TapePlaces
-- no second number fits a refused row
pub mod Splits
pub mod Marks
pub mod Stems
pub mod Called
pub mod Empties
pub mod FewFigures
pub mod EndsAlone
pub mod OneNumber
-- no second refusal fits the rows, and so exactly
pub mod Compared
pub mod SpeedRuns
pub mod OneRefusal
pub mod CutShort
pub mod Exactly
