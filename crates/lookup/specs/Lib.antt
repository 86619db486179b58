pub mod Bring
pub mod Lookup
pub mod Enter
