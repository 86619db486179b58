pub mod Pass
pub mod Fitting
pub mod Filling
pub mod Rows
pub mod Here
