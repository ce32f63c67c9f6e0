pub mod Paths
pub mod ReadFolder
pub mod OneReading
pub mod Weaving
pub mod Outcome
