pub mod Depth
pub mod Scopes
pub mod Params
pub mod Rows
pub mod Shaped
pub mod Inside
