pub mod TypeOf
pub mod Front
