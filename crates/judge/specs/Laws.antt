-- The proofs behind Theorems.
pub mod Decided
pub mod Read
pub mod Front
