pub mod Elements
pub mod Frames
pub mod Tables
pub mod Number
pub mod Counts
