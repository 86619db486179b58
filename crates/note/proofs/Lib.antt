pub mod Filling
pub mod Entries
pub mod Lists
