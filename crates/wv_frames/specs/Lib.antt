pub mod Spelling
pub mod Layout
pub mod Whole
pub mod References
pub mod Answers
pub mod Reading
pub mod Writing
