pub mod Passing
pub mod Sums
pub mod Padded
pub mod Grouped
pub mod Theorems
pub mod Held
pub mod Example
