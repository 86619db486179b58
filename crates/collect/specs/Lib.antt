pub mod Cycle
pub mod Declare
