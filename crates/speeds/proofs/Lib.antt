-- Laws of coded speeds, in reading order: powers of ten, rounding, which answer is given when, a code and the speed that it means, and what follows.
pub mod Tens
pub mod Past
pub mod Nearest
pub mod Rounded
pub mod Answers
pub mod Coded
pub mod RoundTrip
pub mod ExactCode
pub mod Bounds
pub mod Steps
pub mod PreferredRates
