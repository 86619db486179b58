-- What the proofs, and the theorems, use of these definitions.
pub mod Room
pub mod Zero
pub mod One
pub mod Listed
pub mod Keyed
pub mod Classes
pub mod Meant
pub mod Counted
pub mod Together
