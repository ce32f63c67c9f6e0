pub mod Presence
pub mod Dependency
pub mod Refusal
pub mod Resolution
pub mod Holding
pub mod Discovery
pub mod Finding
pub mod LoadedFolder
