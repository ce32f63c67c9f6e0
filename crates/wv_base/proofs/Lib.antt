pub mod Buffer
pub mod PathOrder
pub mod UnitSpelling
pub mod NameSpelling
pub mod FieldTypes
pub mod MethodTypes
