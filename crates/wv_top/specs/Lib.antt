pub mod Words
pub mod Lines
pub mod Reading
pub mod Rules
pub mod Puts
pub mod Ends
pub mod Unfailed
