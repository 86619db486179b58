pub mod Owners
pub mod Held
pub mod Fronts
pub mod Seven
pub mod Opening
pub mod Passes
pub mod Outcome
pub mod Numbers
