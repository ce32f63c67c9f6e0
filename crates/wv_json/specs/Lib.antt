pub mod Field
pub mod Kind
pub mod Object
