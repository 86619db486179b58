pub mod Put
pub mod Whole
pub mod Outcome
