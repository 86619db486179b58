pub mod Keys
pub mod Lists
pub mod Steps
pub mod Readers
pub mod Shown
pub mod Laws
pub mod Theorems
