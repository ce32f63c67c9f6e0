pub mod WordCounts
pub mod Reading
