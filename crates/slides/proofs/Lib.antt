-- The laws of the axes and of what moves them, and the functions' proofs.
pub mod AxisLists
pub mod Travels
pub mod BlockMoves
pub mod Histories
pub mod Axis
pub mod Stepping
pub mod ReadBack
pub mod Sums
pub mod AxisLetters
pub mod RuleItems
pub mod WordWidths
pub mod WordChoices
pub mod WordMotions
pub mod WordTrials
pub mod BlockTrials
pub mod Followings
pub mod FollowedTapes
