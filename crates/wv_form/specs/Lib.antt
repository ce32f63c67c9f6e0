pub mod NamedClasses
pub mod NamedExamples
pub mod FileForm
pub mod Form
pub mod Kinds
pub mod Placing
pub mod Mention
pub mod Tables
