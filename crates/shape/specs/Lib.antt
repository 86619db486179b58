pub mod Nodes
pub mod Children
pub mod Rows
pub mod Inside
