pub mod Cond
pub mod Accepted
pub mod Laws
pub mod Spelling
pub mod Theorems
