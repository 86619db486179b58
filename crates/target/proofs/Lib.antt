pub mod Kept
pub mod Renewed
pub mod New
pub mod Local
pub mod Module
pub mod Ways
