pub mod Fault
pub mod Tree
pub mod Outlet
pub mod Plan
pub mod Sink
