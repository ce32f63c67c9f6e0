pub mod ClassPath
pub mod Roots
pub mod FolderClass
pub mod Refusal
pub mod Rules
pub mod LoadedClass
pub mod Checking
