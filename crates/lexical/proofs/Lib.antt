-- The theorems, and the proved examples.
pub mod Theorems
pub mod Whole
pub mod Examples
pub mod Further
-- Laws for code, and the proofs.
pub mod Laws
pub mod Theory
