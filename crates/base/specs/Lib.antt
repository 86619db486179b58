pub mod Refusals
pub mod Says
pub mod Parts
pub mod Table
pub mod First
pub mod Smallest
pub mod UpTo
