pub mod Alike
pub mod Noted
pub mod Placed
pub mod Blocks
pub mod Whole
pub mod Entries
pub mod Target
