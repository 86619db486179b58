pub mod Names
pub mod Lists
pub mod Rows
pub mod Inside
