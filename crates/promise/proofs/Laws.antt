-- What the theorems stand on.
pub mod Sites
pub mod Events
pub mod Reading
pub mod Copies
pub mod Narrow
pub mod Records
pub mod Told
pub mod Named
pub mod Shows
pub mod Saying
pub mod Captured
