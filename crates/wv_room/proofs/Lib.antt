pub mod ElementSizes
pub mod FrameSizes
pub mod TableSizes
pub mod Fronts
pub mod Growth
