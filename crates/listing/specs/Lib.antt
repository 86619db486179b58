pub mod Text
pub mod Calls
pub mod Example
pub mod Theorems
