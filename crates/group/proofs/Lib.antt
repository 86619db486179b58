pub mod Counted
pub mod Laid
